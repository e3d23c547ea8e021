-- What texts of transition systems are, and what is written of them.
use Rattle.std.specs.Prelude.{◌≡◌, ◌⊎◌, ◌*◌, ◌≤◌, ◌<◌, ℕ, ℤ, List, Result, Ok, Err, Some, None, length}
use Rattle.flow_transitions.specs.declared.auto.Auto.{Auto}
use Rattle.flow_transitions.specs.AutoFaults.{fault_of}
use Rattle.flow_transitions.specs.AutoGroups.{HasGroups}
use Rattle.flow_transitions.specs.AutoSystem.{HoldsAlong, equations_of_auto}
use Rattle.flow_transitions.specs.AutoTexts.{IsAuto, content}
use Rattle.flow_transitions.specs.Choices.{edges_of}
use Rattle.flow_templates.specs.declared.fault.RowFault.{RowFault}
use Rattle.flow_systems.specs.declared.footer.Footer.TheVariants.{Improvements}
use Rattle.flow_systems.specs.declared.limits.TheConstants.{MOST_UNKNOWNS}
use Rattle.flow_systems.specs.declared.system.System.{System}
use Rattle.flow_systems.specs.Equations.{Least, Vector}
use Rattle.ask_words.specs.declared.format.Format.{Format}
use Rattle.ask_words.specs.declared.request.Domain.{Domain}
use Rattle.ask_words.specs.declared.request.Policy.{Policy}
use Rattle.top_written.specs.Formats.{report_in}
use Rattle.top_texts.specs.Rounds.{HasRounds}
use Rattle.top_texts.specs.Texts.{IsTemplate}
use Rattle.top_status.specs.declared.status.TextCause.{TextCause}
use Rattle.top_status.specs.declared.status.TextCause.TheVariants.{Rows, Unknowns, Auto as AutoCause}

-- the text reads as this transition system, whose edges are within the limits
pub record IsAutoText (text : List ℕ) (auto : Auto) : Type 0 where
  pub reading : IsAuto text (Ok (content auto))
  pub within : fault_of (length auto.points) auto.edges ≡ None

-- the template of a transition system with these variables
abbrev pub HasTemplateAlong : List ℕ → Domain (List ℕ) → List (List ℕ) → Result (List (List ℤ)) RowFault → Type 0
HasTemplateAlong text rows names answer = IsTemplate (HasGroups text) rows names answer

-- and this is the template over its variables
pub record IsAutoOver (text : List ℕ) (rows : Domain (List ℕ)) (auto : Auto) (template : List (List ℤ)) : Type 0 where
  pub text_is : IsAutoText text auto
  pub template_is : HasTemplateAlong text rows auto.names (Ok template)

-- the system of these texts, which is solved
pub record IsTransitionSystem (text : List ℕ) (rows : Domain (List ℕ)) (system : System) : Type 0 where
  pub auto : Auto
  pub template : List (List ℤ)
  pub over : IsAutoOver text rows auto template
  pub within : length auto.points * length template ≤ MOST_UNKNOWNS
  pub names_are : system.flow.names ≡ auto.names
  pub points_are : system.flow.points ≡ auto.points
  pub edges_are : system.flow.edges ≡ edges_of (length auto.points) auto.edges
  pub system_template : system.template ≡ template

-- the texts are refused by this cause
abbrev pub AreNoTransitions : List ℕ → Domain (List ℕ) → TextCause → Type 0
AreNoTransitions text rows (AutoCause fault) =
    IsAuto text (Err fault) ⊎ ((auto : Auto) × IsAuto text (Ok (content auto)) × (fault_of (length auto.points) auto.edges ≡ Some fault))
AreNoTransitions text rows (Rows fault) = (auto : Auto) × IsAutoText text auto × HasTemplateAlong text rows auto.names (Err fault)
AreNoTransitions text rows (Unknowns count) =
    (auto : Auto) × (template : List (List ℤ)) × IsAutoOver text rows auto template
    × (MOST_UNKNOWNS < length auto.points * length template) × (count ≡ length auto.points * length template)
AreNoTransitions text rows _ = ⊥

-- the bytes are the report in a format of the least vector of the system of these texts, which holds at every configuration of every run
-- along the edges of the text, with the number of improvements by the policy
pub record IsAutoReport (text : List ℕ) (rows : Domain (List ℕ)) (policy : Policy) (limit : ℕ) (format : Format) (bytes : List ℕ)
    : Type 0 where
  pub system : System
  pub meant : IsTransitionSystem text rows system
  pub rounds : ℕ
  pub within : rounds ≤ limit
  pub vector : Vector
  pub has_rounds : HasRounds system policy rounds vector
  pub least : Least (equations_of_auto meant.auto meant.template) vector
  pub holds : HoldsAlong meant.auto (equations_of_auto meant.auto meant.template) vector
  pub report : bytes ≡ report_in format meant.auto.names meant.auto.points meant.template vector (Improvements rounds)
