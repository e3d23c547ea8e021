-- The texts of a transition system and of its rows are refused by one cause, or mean systems with the same equations.
use Rattle.std.proofs.Common.{◌≡◌, ◌∙◌, ◌≤◌, ◌<◌, ◌*◌, inl, inr, ℕ, List, length, refl, sym, ap, subst, arith}
use Rattle.std.specs.Prelude.{ℤ, Option, Some, None, Ok, Err}
use Rattle.flow_transitions.specs.declared.fault.AutoFault.{AutoFault}
use Rattle.flow_transitions.specs.AutoFaults.{fault_of}
use Rattle.flow_transitions.specs.AutoGroups.{HasGroups}
use Rattle.flow_transitions.specs.AutoReading.{AutoAnswer, Content}
use Rattle.flow_transitions.specs.AutoTexts.{IsAuto, content}
use Rattle.flow_transitions.specs.Choices.{edges_of}
use Rattle.flow_transitions.proofs.progress.Once.{one_answer}
use Rattle.flow_transitions.proofs.walking.Once.{one_grouping}
use Rattle.flow_systems.specs.Equations.{Equations}
use Rattle.flow_systems.specs.View.{equations_of}
use Rattle.flow_systems.specs.declared.limits.TheConstants.{MOST_UNKNOWNS}
use Rattle.flow_systems.specs.declared.system.System.{System}
use Rattle.flow_templates.specs.declared.fault.RowFault.{RowFault}
use Rattle.ask_words.specs.declared.request.Domain.{Domain}
use Rattle.top_texts.specs.TransitionTexts.{AreNoTransitions, HasTemplateAlong, IsTransitionSystem}
use Rattle.top_status.specs.declared.status.TextCause.{TextCause}
use Rattle.top_status.specs.declared.status.TextCause.TheVariants.{Lex, Source as InSource, Flow, Rows, Unknowns}
use Rattle.top_status.specs.declared.status.TextCause.TheVariants.{Claims, Equ, Auto as AutoCause}
use Rattle.top_texts.proofs.texts.Readings.{rows_once_by, row_fault_once_by, not_rows_by}
use Rattle.top_texts.proofs.transition_texts.Systems.{system_equations}

-- ---- the last stage: too many unknowns, or not

-- what the equations of a transition system are made of
abbrev along : Content → List (List ℤ) → Equations
along c template = record {
  variables = length c.names;
  points = length c.points;
  edges = edges_of (length c.points) c.edges;
  template =
      template;
}

data LastStage (c : Content) (template : List (List ℤ)) (o : Option TextCause) : Type 0 where
  many : MOST_UNKNOWNS < length c.points * length template → o ≡ Some (Unknowns (length c.points * length template))
      → LastStage c template o
  few : length c.points * length template ≤ MOST_UNKNOWNS → o ≡ None → LastStage c template o

above_and_below : (n most : ℕ) → most < n → n ≤ most → ⊥
above_and_below n most h k = omega arith

last_once : (c : Content) (template : List (List ℤ)) (o p : Option TextCause) → LastStage c template o → LastStage c template p → o ≡ p
last_once c template o p (many h e) (many k i) = e ∙ sym i
last_once c template o p (many h e) (few k i) = absurd (above_and_below _ _ h k)
last_once c template o p (few h e) (many k i) = absurd (above_and_below _ _ k h)
last_once c template o p (few h e) (few k i) = e ∙ sym i

-- ---- the stages before

data RowsStage (text : List ℕ) (rows : Domain (List ℕ)) (c : Content) (o : Option TextCause) : Type 0 where
  faulty : (f : RowFault) → HasTemplateAlong text rows c.names (Err f) → o ≡ Some (Rows f) → RowsStage text rows c o
  given : (template : List (List ℤ)) → HasTemplateAlong text rows c.names (Ok template) → LastStage c template o → RowsStage text rows c o

data FlowStage (text : List ℕ) (rows : Domain (List ℕ)) (c : Content) (o : Option TextCause) : Type 0 where
  wide : (f : AutoFault) → fault_of (length c.points) c.edges ≡ Some f → o ≡ Some (AutoCause f) → FlowStage text rows c o
  fits : fault_of (length c.points) c.edges ≡ None → RowsStage text rows c o → FlowStage text rows c o

data TextStage (text : List ℕ) (rows : Domain (List ℕ)) (o : Option TextCause) : Type 0 where
  unread : (f : AutoFault) → IsAuto text (Err f) → o ≡ Some (AutoCause f) → TextStage text rows o
  read : (c : Content) → IsAuto text (Ok c) → FlowStage text rows c o → TextStage text rows o

some_none : (f : AutoFault) (o : Option AutoFault) → o ≡ Some f → o ≡ None → ⊥
some_none f o h k = cc

some_some : (f g : AutoFault) (o : Option AutoFault) → o ≡ Some f → o ≡ Some g → f ≡ g
some_some f g o h k = cc

abbrev answered : AutoAnswer → AutoAnswer
answered a = a

same_fault : (f g : AutoFault) → answered (Err f) ≡ answered (Err g) → f ≡ g
same_fault f g e = cc

same_content : (x y : Content) → answered (Ok x) ≡ answered (Ok y) → x ≡ y
same_content x y e = cc

fault_or_content : (f : AutoFault) (x : Content) → answered (Err f) ≡ answered (Ok x) → ⊥
fault_or_content f x e = cc

module _ (text : List ℕ) (rows : Domain (List ℕ)) where
  -- a transition system has one template over given variables
  pub one_template : (names : List (List ℕ)) (t u : List (List ℤ)) → HasTemplateAlong text rows names (Ok t)
      → HasTemplateAlong text rows names (Ok u) → t ≡ u
  one_template names t u h k = rows_once_by (HasGroups text) (one_grouping text) rows names t u h k

  rows_stage_once : (c : Content) (o p : Option TextCause) → RowsStage text rows c o → RowsStage text rows c p → o ≡ p
  rows_stage_once c o p (faulty f h e) (faulty g k i) =
      e ∙ ap (λ x. Some (Rows x)) (row_fault_once_by (HasGroups text) (one_grouping text) rows c.names f g h k) ∙ sym i
  rows_stage_once c o p (faulty f h e) (given u k i) = absurd (not_rows_by (HasGroups text) (one_grouping text) rows c.names f u h k)
  rows_stage_once c o p (given u h e) (faulty f k i) = absurd (not_rows_by (HasGroups text) (one_grouping text) rows c.names f u k h)
  rows_stage_once c o p (given u h e) (given v k i) = last_once c u o p e
      (subst (λ x. LastStage c x p) (sym (one_template c.names u v h k)) i)

  flow_once : (c : Content) (o p : Option TextCause) → FlowStage text rows c o → FlowStage text rows c p → o ≡ p
  flow_once c o p (wide f h e) (wide g k i) = e ∙ ap (λ x. Some (AutoCause x)) (some_some f g (fault_of (length c.points) c.edges) h k)
      ∙ sym i
  flow_once c o p (wide f h e) (fits k i) = absurd (some_none f (fault_of (length c.points) c.edges) h k)
  flow_once c o p (fits h e) (wide f k i) = absurd (some_none f (fault_of (length c.points) c.edges) k h)
  flow_once c o p (fits h e) (fits k i) = rows_stage_once c o p e i

text_once : (text : List ℕ) (rows : Domain (List ℕ)) (o p : Option TextCause) → TextStage text rows o → TextStage text rows p → o ≡ p
text_once text rows o p (unread f h e) (unread g k i) = e ∙ ap (λ x. Some (AutoCause x))
    (same_fault f g (one_answer text (Err f) (Err g) h k)) ∙ sym i
text_once text rows o p (unread f h e) (read c k i) = absurd (fault_or_content f c (one_answer text (Err f) (Ok c) h k))
text_once text rows o p (read c h e) (unread f k i) = absurd (fault_or_content f c (one_answer text (Err f) (Ok c) k h))
text_once text rows o p (read c h e) (read d k i) =
    flow_once text rows c o p e (subst (λ x. FlowStage text rows x p) (sym (same_content c d (one_answer text (Ok c) (Ok d) h k))) i)

-- ---- what is refused, and what is a system, by stages

refused_stage : (text : List ℕ) (rows : Domain (List ℕ)) (cause : TextCause) → AreNoTransitions text rows cause
    → TextStage text rows (Some cause)
refused_stage text rows (Lex f) h = absurd h
refused_stage text rows (InSource f) h = absurd h
refused_stage text rows (Flow f) h = absurd h
refused_stage text rows (AutoCause f) (inl h) = unread f h refl
refused_stage text rows (AutoCause f) (inr (auto, h, e)) = read (content auto) h (wide f e refl)
refused_stage text rows (Rows f) (auto, t, h) = read (content auto) t.reading (fits t.within (faulty f h refl))
refused_stage text rows (Unknowns count) (auto, template, y, h, e) =
    read (content auto) y.text_is.reading (fits y.text_is.within (given template y.template_is (many h (ap (λ c. Some (Unknowns c)) e))))
refused_stage text rows (Claims f) h = absurd h
refused_stage text rows (Equ f) h = absurd h

system_stage : (text : List ℕ) (rows : Domain (List ℕ)) (s : System) → IsTransitionSystem text rows s → TextStage text rows None
system_stage text rows s is =
    read (content is.auto) is.over.text_is.reading (fits is.over.text_is.within
    (given is.template is.over.template_is (few is.within refl)))

same_cause : (c d : TextCause) → Some c ≡ Some d → c ≡ d
same_cause c d e = cc

no_cause : (c : TextCause) → Some c ≡ None → ⊥
no_cause c e = cc

-- the texts of a transition system and of its rows are refused by one cause
pub causes_once : (text : List ℕ) (rows : Domain (List ℕ)) (c d : TextCause) → AreNoTransitions text rows c → AreNoTransitions text rows d
    → c ≡ d
causes_once text rows c d h k = same_cause c d (text_once text rows (Some c) (Some d) (refused_stage text rows c h)
    (refused_stage text rows d k))

-- texts that are refused mean no transition system
pub apart : (text : List ℕ) (rows : Domain (List ℕ)) (c : TextCause) (s : System) → AreNoTransitions text rows c
    → IsTransitionSystem text rows s → ⊥
apart text rows c s h is = no_cause c (text_once text rows (Some c) None (refused_stage text rows c h) (system_stage text rows s is))

-- the systems of texts have the same equations
pub systems_once : (text : List ℕ) (rows : Domain (List ℕ)) (s t : System) → IsTransitionSystem text rows s → IsTransitionSystem text rows t
    → equations_of s ≡ equations_of t
systems_once text rows s t a b =
    let same : content a.auto ≡ content b.auto = same_content (content a.auto) (content b.auto)
    (one_answer text (Ok (content a.auto)) (Ok (content b.auto)) a.over.text_is.reading b.over.text_is.reading) in
    let template : a.template ≡ b.template =
    one_template text rows b.auto.names a.template b.template
    (subst (λ (c : Content). HasTemplateAlong text rows c.names (Ok a.template)) same a.over.template_is) b.over.template_is in
    system_equations text rows s a
    ∙ ap (λ c. along c a.template) same
    ∙ ap (λ r. along (content b.auto) r) template
    ∙ sym (system_equations text rows t b)
