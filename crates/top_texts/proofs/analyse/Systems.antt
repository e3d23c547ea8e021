-- The system that is made of the flow of a core and of a template is theirs, and that of each program with this core.
use Rattle.std.proofs.Common.{◌≡◌, ◌∙◌, ◌*◌, ◌≤◌, ◌<◌, inr, ℕ, List, length, ap, subst, sym}
use Rattle.std.specs.Prelude.{ℤ, None, Ok}
use Rattle.lang_tree.specs.Tree.{Statements}
use Rattle.flow_edges.specs.Edges.{edges_of_program}
use Rattle.flow_edges.specs.Faults.{fault_of_program}
use Rattle.flow_edges.specs.Points.{points_of_program}
use Rattle.flow_edges.specs.declared.graph.Flow.{Flow}
use Rattle.flow_systems.specs.declared.system.System.{System}
use Rattle.ask_words.specs.declared.request.Domain.{Domain}
use Rattle.top_texts.specs.Outcomes.{HasNoSystemOver, HasSystemOver}
use Rattle.top_texts.specs.Rounds.{IsSystemFor}
use Rattle.top_texts.specs.Texts.{HasCore, HasGroups, HasTemplateBy, IsSolvedSystem, Program, Serve, unknowns}
use Rattle.top_texts.proofs.texts.Readings.{template_served}
use Rattle.top_texts.specs.declared.refusal.Refusal.{Refusal}
use Rattle.top_texts.specs.declared.refusal.Refusal.TheVariants.{Text}
use Rattle.top_status.specs.declared.status.TextCause.TheVariants.{Unknowns}
use Rattle.flow_systems.specs.declared.limits.TheConstants.{MOST_UNKNOWNS}

module _ (groups : List (List ℕ)) (rows : Domain (List ℕ)) (names : List (List ℕ)) (body : Statements) (flow : Flow)
    (template : List (List ℤ)) (s : System)
    (flows : fault_of_program body ≡ None) (names_are : flow.names ≡ names) (points_are : flow.points ≡ points_of_program body)
    (edges_are : flow.edges ≡ edges_of_program body)
    (given : HasTemplateBy groups rows names (Ok template)) (flow_is : s.flow ≡ flow) (template_is : s.template ≡ template)
    (within : length flow.points * length template ≤ MOST_UNKNOWNS) where
  -- the system is the one for the core and the template
  pub system_for : IsSystemFor names body template s
  system_for = record {
    names_are = ap (λ (f : Flow). f.names) flow_is ∙ names_are;
    points_are = ap (λ (f : Flow). f.points) flow_is ∙ points_are;
    edges_are = ap (λ (f : Flow). f.edges) flow_is ∙ edges_are;
    template_is = template_is;
  }

  few : unknowns body template ≤ MOST_UNKNOWNS
  few = subst (λ ps. length ps * length template ≤ MOST_UNKNOWNS) points_are within

  -- a system with few enough unknowns is that of the core over the rows
  pub system_over : HasSystemOver groups rows names body s
  system_over = record { flows = flows; template = template; template_is = given; within = few; system_for = system_for }

-- with more unknowns there is no system
pub too_many : (groups : List (List ℕ)) (rows : Domain (List ℕ)) (names : List (List ℕ)) (body : Statements) (flow : Flow)
    (template : List (List ℤ)) (r : Refusal)
    → fault_of_program body ≡ None → flow.points ≡ points_of_program body → HasTemplateBy groups rows names (Ok template)
    → MOST_UNKNOWNS < length flow.points * length template → r ≡ Text (Unknowns (length flow.points * length template))
    → HasNoSystemOver groups rows names body r
too_many groups rows names body flow template r flows points given many is =
    subst (λ (x : Refusal). HasNoSystemOver groups rows names body x) (sym is) (inr (
      flows,
      (
        template,
        given,
        subst (λ ps. MOST_UNKNOWNS < length ps * length template) points many,
        ap (λ ps. length ps * length template) points,
      ),
    ))

-- it is that of the program
abbrev pub solved_system : (program : Program) (groups : List (List ℕ)) (rows : Domain (List ℕ)) (names : List (List ℕ))
    (body : Statements) (s : System) → HasCore program names body → Serve (HasGroups program names) rows groups
    → HasSystemOver groups rows names body s → IsSolvedSystem program rows s
solved_system program groups rows names body s core serve over = record {
  names = names;
  body = body;
  template = over.template;
  ready = record {
    system = record {
      analysed = record { has_core = core; within = over.flows };
      template_is = template_served (HasGroups program names) rows names groups (Ok over.template) serve over.template_is;
    };
    within = over.within;
  };
  system_for = over.system_for;
}
