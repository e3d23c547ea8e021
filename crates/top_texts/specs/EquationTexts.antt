-- What texts of equations are, and what is written of them.
use Rattle.std.specs.Prelude.{◌≡◌, ◌≤◌, ℕ, List, map, Ok, Err}
use Rattle.flow_systems.specs.declared.footer.Footer.TheVariants.{Improvements}
use Rattle.flow_systems.specs.declared.system.System.{System}
use Rattle.flow_systems.specs.Equations.{Vector}
use Rattle.flow_systems.specs.View.{equations_of}
use Rattle.flow_rationals.specs.declared.equation.Equation.{Equation}
use Rattle.flow_rationals.specs.EquationTexts.{Answers}
use Rattle.flow_rationals.specs.Solutions.{EqualsRightSides, IsLeastAbove}
use Rattle.flow_rationals.specs.System.{system_of}
use Rattle.flow_rationals.specs.Values.{Values}
use Rattle.ask_words.specs.declared.format.Format.{Format}
use Rattle.ask_words.specs.declared.request.Policy.{Policy}
use Rattle.top_written.specs.Formats.{values_in}
use Rattle.top_texts.specs.Rounds.{HasRounds}
use Rattle.top_status.specs.declared.status.TextCause.{TextCause}
use Rattle.top_status.specs.declared.status.TextCause.TheVariants.{Equ}

-- the text reads as equations, and this is their system
pub record IsEquationSystem (text : List ℕ) (system : System) : Type 0 where
  pub equations : List Equation
  pub reading : Answers text (Ok equations)
  pub system_is : equations_of system ≡ system_of equations

-- the text is refused by this cause
abbrev pub IsNoEquations : List ℕ → TextCause → Type 0
IsNoEquations text (Equ fault) = Answers text (Err fault)
IsNoEquations text _ = ⊥

-- so many improvements by the policy are made over the system of equations
abbrev pub HasImprovements : List Equation → Policy → ℕ → Type 0
HasImprovements equations policy rounds =
    (system : System) × (equations_of system ≡ system_of equations) × (vector : Vector) × HasRounds system policy rounds vector

-- the bytes are the values of the text's equations in a format, with the number of improvements by the policy:
-- the values equal their right sides, and are at most all values that are above the equations
pub record AreValuesOf (text : List ℕ) (policy : Policy) (limit : ℕ) (format : Format) (bytes : List ℕ) : Type 0 where
  pub equations : List Equation
  pub reading : Answers text (Ok equations)
  pub values : Values
  pub equal : EqualsRightSides equations values
  pub least : IsLeastAbove equations values
  pub rounds : ℕ
  pub within : rounds ≤ limit
  pub improvements : HasImprovements equations policy rounds
  pub written : bytes ≡ values_in format (map (λ e. e.name) equations) values (Improvements rounds)
