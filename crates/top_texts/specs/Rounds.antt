-- The improvements over the system of a program and a template: where they end, by their meaning.
use Rattle.std.specs.Prelude.{◌≡◌, ◌≤◌, ℕ, ℤ, List}
use Rattle.lang_tree.specs.Tree.{Statements}
use Rattle.flow_edges.specs.Edges.{edges_of_program}
use Rattle.flow_edges.specs.Points.{points_of_program}
use Rattle.flow_systems.specs.declared.system.System.{System}
use Rattle.flow_systems.specs.Equations.{Vector}
use Rattle.flow_systems.specs.View.{equations_of}
use Rattle.theory_chains.specs.Chains.{EndsAfter, GoesOnAfter}
use Rattle.theory_chains.specs.Offers.{Offer, Best as MeantBest, First as MeantFirst}
use Rattle.ask_words.specs.declared.request.Policy.{Policy}
use Rattle.ask_words.specs.declared.request.Policy.TheVariants.{Best, First}

-- the system has the points and edges of this program, and this template
pub record IsSystemFor (names : List (List ℕ)) (body : Statements) (template : List (List ℤ)) (system : System) : Type 0 where
  pub names_are : system.flow.names ≡ names
  pub points_are : system.flow.points ≡ points_of_program body
  pub edges_are : system.flow.edges ≡ edges_of_program body
  pub template_is : system.template ≡ template

-- what the policies of the command line choose of an offer:
-- `best` the first position of the greatest transformer, `first` the first whose transformer exceeds the bound
abbrev pub chosen_by : Policy → Offer → ℕ → Type 0
chosen_by Best = MeantBest
chosen_by First = MeantFirst

-- a chain of so many improvements by the policy leads to this vector, and ends there
abbrev pub HasRounds : System → Policy → ℕ → Vector → Type 0
HasRounds system policy rounds vector = EndsAfter (equations_of system) (chosen_by policy) rounds vector

-- a chain of so many improvements by the policy doesn't end there
abbrev pub RunsOut : System → Policy → ℕ → Type 0
RunsOut system policy limit = GoesOnAfter (equations_of system) (chosen_by policy) limit

-- the improvements by the policy end within the limit
abbrev pub EndsWithin : System → Policy → ℕ → Type 0
EndsWithin system policy limit = (rounds : ℕ) × (rounds ≤ limit) × (vector : Vector) × HasRounds system policy rounds vector
