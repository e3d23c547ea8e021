-- The system that is made of the flow of a transition system and of a template is theirs, and so is its report.
use Rattle.std.proofs.Common.{◌≡◌, ◌∙◌, ◌*◌, ◌≤◌, ◌<◌, ℕ, List, length, refl, sym, ap, subst}
use Rattle.std.specs.Prelude.{ℤ, None, Ok}
use Rattle.flow_transitions.specs.declared.auto.Auto.{Auto}
use Rattle.flow_transitions.specs.AutoFaults.{fault_of}
use Rattle.flow_transitions.specs.AutoLaws.{PostSolutionsHoldAlong}
use Rattle.flow_transitions.specs.AutoSystem.{equations_of_auto}
use Rattle.flow_transitions.specs.AutoTexts.{IsAuto, content}
use Rattle.flow_transitions.specs.Choices.{edges_of}
use Rattle.flow_edges.specs.declared.edge.Edge.{Edge}
use Rattle.flow_edges.specs.declared.graph.Flow.{Flow}
use Rattle.flow_edges.specs.declared.point.Point.{Point}
use Rattle.flow_systems.specs.Equations.{Equations, Least}
use Rattle.flow_systems.specs.View.{equations_of, vector_of}
use Rattle.flow_systems.specs.declared.footer.Footer.TheVariants.{Improvements}
use Rattle.flow_systems.specs.declared.limits.TheConstants.{MOST_UNKNOWNS}
use Rattle.flow_systems.specs.declared.system.System.{System}
use Rattle.ask_words.specs.declared.format.Format.{Format}
use Rattle.ask_words.specs.declared.request.Domain.{Domain}
use Rattle.ask_words.specs.declared.request.Policy.{Policy}
use Rattle.top_texts.specs.Exact.{exact}
use Rattle.top_written.specs.Formats.{report_in}
use Rattle.top_texts.specs.Outcomes.{IsRefusedAlong, IsRoundsReport, IsUnanswered}
use Rattle.top_texts.specs.Questions.{QuestionEnds, rounds_end, transitions_question}
use Rattle.top_texts.specs.TransitionTexts.{HasTemplateAlong, IsAutoOver, IsAutoReport, IsAutoText, IsTransitionSystem}
use Rattle.top_texts.specs.declared.refusal.Refusal.{Refusal}
use Rattle.top_texts.specs.declared.refusal.Refusal.TheVariants as refusal
use Rattle.top_status.specs.declared.status.Status.TheVariants.{Done}
use Rattle.top_status.specs.declared.status.TextCause.TheVariants.{Unknowns}

made_of : ℕ → ℕ → List Edge → List (List ℤ) → Equations
made_of n points edges template = record { variables = n; points = points; edges = edges; template = template }

-- a system with the names, points and edges of a transition system, and a template, has their equations
pub equations_along : (auto : Auto) (template : List (List ℤ)) (s : System) → s.flow.names ≡ auto.names → s.flow.points ≡ auto.points
    → s.flow.edges ≡ edges_of (length auto.points) auto.edges → s.template ≡ template → equations_of s ≡ equations_of_auto auto template
unfolding made_of
equations_along auto template s n p e t =
    ap (λ k. made_of k (length s.flow.points) s.flow.edges s.template) (ap length n)
    ∙ ap (λ k. made_of (length auto.names) k s.flow.edges s.template) (ap length p)
    ∙ ap (λ es. made_of (length auto.names) (length auto.points) es s.template) e
    ∙ ap (λ rows. made_of (length auto.names) (length auto.points) (edges_of (length auto.points) auto.edges) rows) t

-- a system of a transition system's text has the equations of its automaton and template
pub system_equations : (text : List ℕ) (rows : Domain (List ℕ)) (s : System) (is : IsTransitionSystem text rows s)
    → equations_of s ≡ equations_of_auto is.auto is.template
system_equations text rows s is = equations_along is.auto is.template s is.names_are is.points_are is.edges_are is.system_template

module _ (text : List ℕ) (rows : Domain (List ℕ)) (auto : Auto) (flow : Flow) (template : List (List ℤ))
    (reading : IsAuto text (Ok (content auto)))
    (within : fault_of (length auto.points) auto.edges ≡ None) (names_are : flow.names ≡ auto.names)
    (points_are : flow.points ≡ auto.points)
    (edges_are : flow.edges ≡ edges_of (length auto.points) auto.edges) (given : HasTemplateAlong text rows auto.names (Ok template)) where
  -- the text is that of the automaton
  pub text_is : IsAutoText text auto
  text_is = record { reading = reading; within = within }

  over : IsAutoOver text rows auto template
  over = record { text_is = text_is; template_is = given }

  -- a system with too many unknowns is refused by their number
  pub too_many : MOST_UNKNOWNS < length flow.points * length template → (r : Refusal)
      → r ≡ refusal.Text (Unknowns (length flow.points * length template)) → IsRefusedAlong text rows r
  too_many h r e =
      let same = ap (λ (ps : List Point). length ps * length template) points_are in
      subst (λ x. IsRefusedAlong text rows x) (sym e) (auto, template, over, subst (λ n. MOST_UNKNOWNS < n) same h, same)

  module _ (s : System) (flow_is : s.flow ≡ flow) (template_is : s.template ≡ template)
      (few : length flow.points * length template ≤ MOST_UNKNOWNS) where
    few_points : length auto.points * length template ≤ MOST_UNKNOWNS
    few_points = subst (λ ps. length ps * length template ≤ MOST_UNKNOWNS) points_are few

    -- a system with few enough unknowns is that of the texts
    pub transition_system : IsTransitionSystem text rows s
    transition_system = record {
      auto = auto;
      template = template;
      over = over;
      within = few_points;
      names_are = ap (λ (f : Flow). f.names) flow_is ∙ names_are;
      points_are = ap (λ (f : Flow). f.points) flow_is ∙ points_are;
      edges_are = ap (λ (f : Flow). f.edges) flow_is ∙ edges_are;
      system_template = template_is;
    }

-- ---- what is refused before there is a system isn't answered

-- texts that are refused answer with their refusal
pub refused_along : (text : List ℕ) (rows : Domain (List ℕ)) (policy : Policy) (limit : ℕ) (r : Refusal) → IsRefusedAlong text rows r
    → IsUnanswered (transitions_question exact text rows policy limit) r
refused_along text rows policy limit (refusal.Text c) h = h
refused_along text rows policy limit (refusal.Certificate c) h = absurd h
refused_along text rows policy limit (refusal.Exceeded excess) h = absurd h
refused_along text rows policy limit (refusal.Spent n) h = absurd h
refused_along text rows policy limit refusal.NoMemory h = tt

-- ---- the report

-- the report of the system is that of the texts
pub report_put : (text : List ℕ) (rows : Domain (List ℕ)) (s : System) (policy : Policy) (limit : ℕ) (format : Format)
    (bytes : List ℕ) → PostSolutionsHoldAlong → IsTransitionSystem text rows s
    → IsRoundsReport s policy limit format bytes → IsAutoReport text rows policy limit format bytes
report_put text rows s policy limit format bytes law is r =
    let vector = vector_of (length s.template) r.bounds in
    let least : Least (equations_of_auto is.auto is.template) vector =
    subst (λ q. Least q vector) (system_equations text rows s is) r.least in
    record {
      system = s;
      meant = is;
      rounds = r.rounds;
      within = r.within;
      vector = vector;
      has_rounds = r.has_rounds;
      least = least;
      holds = law is.auto is.template vector least.solves.post;
      report = subst (λ t. bytes ≡ report_in format is.auto.names is.auto.points t vector (Improvements r.rounds)) is.system_template
          (subst (λ ps. bytes ≡ report_in format is.auto.names ps s.template vector (Improvements r.rounds)) is.points_are
          (subst (λ ns. bytes ≡ report_in format ns s.flow.points s.template vector (Improvements r.rounds)) is.names_are r.report));
    }

-- where a report is written, the improvements have ended
pub report_end : (text : List ℕ) (rows : Domain (List ℕ)) (policy : Policy) (limit : ℕ) (format : Format) (bytes : List ℕ)
    → IsAutoReport text rows policy limit format bytes
    → QuestionEnds (transitions_question exact text rows policy limit) Done
report_end text rows policy limit format bytes r = rounds_end r.system refl r.meant (r.rounds, r.within, r.vector, r.has_rounds)
