-- Texts are refused by one cause, or mean a system: by stages, each of which has one cause or goes on to the next. A program alone is
-- refused by one cause, or by none where its points and edges are within the limits.
use Rattle.std.proofs.Common.{◌≡◌, ◌≤◌, ◌<◌, ℕ, List, length, refl, sym, ap, ◌∙◌, subst, arith}
use Rattle.std.specs.Prelude.{ℤ, IsTrue, Option, Ok, Err, Some, None}
use Rattle.lang_tokens.specs.declared.lexicon.Lexicon.TheVariants.{C}
use Rattle.lang_tokens.specs.declared.fault.LexFault.{LexFault}
use Rattle.lang_tokens.specs.Faults.{HasFault}
use Rattle.lang_tokens.proofs.reading.Once.{one_text_fault, no_fault}
use Rattle.source_file.specs.declared.fault.SourceFault.{SourceFault}
use Rattle.lang_tree.specs.Tree.{Statements}
use Rattle.flow_edges.specs.declared.fault.FlowFault.{FlowFault}
use Rattle.flow_edges.specs.Faults.{fault_of_program}
use Rattle.flow_templates.specs.declared.fault.RowFault.{RowFault}
use Rattle.flow_systems.specs.declared.system.System.{System}
use Rattle.flow_systems.specs.SystemLimits.{is_over}
use Rattle.flow_systems.specs.Solutions.{equations_of_program}
use Rattle.flow_systems.specs.View.{equations_of}
use Rattle.ask_words.specs.declared.request.Domain.{Domain}
use Rattle.ask_words.specs.declared.request.Domain.TheVariants.{Intervals}
use Rattle.top_texts.specs.Rounds.{IsSystemFor}
use Rattle.top_texts.proofs.analyse.Solved.{over_names, same_equations}
use Rattle.top_texts.specs.Texts.{HasCore, HasTemplate, IsAnalysed, IsReady, IsRefused, IsRefusedProgram, IsSolvedSystem, Program}
use Rattle.top_texts.specs.Texts.{Reading, unknowns}
use Rattle.top_texts.proofs.texts.Readings.{program_once, fault_once, not_both, rows_once, row_fault_once, not_rows}
use Rattle.top_status.specs.declared.status.TextCause.{TextCause}
use Rattle.top_status.specs.declared.status.TextCause.TheVariants.{Lex, Source as InSource, Flow, Rows, Unknowns, Claims, Equ, Auto}
use Rattle.flow_systems.specs.declared.limits.TheConstants.{MOST_UNKNOWNS}

-- ---- the system of a program

-- the rows of its template are over its names
pub rows_over : (names : List (List ℕ)) (body : Statements) (template : List (List ℤ)) (s : System) → IsSystemFor names body template s
    → IsTrue (is_over (length names) template)
rows_over names body template s is =
    subst (λ (rows : List (List ℤ)). IsTrue (is_over (length names) rows)) is.template_is (over_names names s is.names_are)

-- the equations of a system are those of its program and template
pub equations_are : (names : List (List ℕ)) (body : Statements) (template : List (List ℤ)) (s : System) → IsSystemFor names body template s
    → equations_of s ≡ equations_of_program (length names) body template
equations_are names body template s is =
    same_equations names body s is.names_are is.points_are is.edges_are
    ∙ ap (λ t. equations_of_program (length names) body t) is.template_is

-- ---- the last stage: too many unknowns, or not

data LastStage (names : List (List ℕ)) (body : Statements) (template : List (List ℤ)) (o : Option TextCause) : Type 0 where
  many : MOST_UNKNOWNS < unknowns body template → o ≡ Some (Unknowns (unknowns body template)) → LastStage names body template o
  few : unknowns body template ≤ MOST_UNKNOWNS → o ≡ None → LastStage names body template o

last_once : (names : List (List ℕ)) (body : Statements) (template : List (List ℤ)) (o p : Option TextCause)
    → LastStage names body template o → LastStage names body template p → o ≡ p
last_once names body template o p (many h e) (many k i) = e ∙ sym i
last_once names body template o p (many h e) (few k i) = absurd (omega arith)
last_once names body template o p (few h e) (many k i) = absurd (omega arith)
last_once names body template o p (few h e) (few k i) = e ∙ sym i

-- ---- the stages before

-- the rows have a fault, or are a template
data RowsStage (program : Program) (rows : Domain (List ℕ)) (names : List (List ℕ)) (body : Statements) (o : Option TextCause)
    : Type 0 where
  faulty : (f : RowFault) → HasTemplate program rows names (Err f) → o ≡ Some (Rows f) → RowsStage program rows names body o
  given : (template : List (List ℤ)) → HasTemplate program rows names (Ok template) → LastStage names body template o
      → RowsStage program rows names body o

-- the core has no points and edges within the limits, or has them
data FlowStage (program : Program) (rows : Domain (List ℕ)) (p : List (List ℕ) × Statements) (o : Option TextCause) : Type 0 where
  wide : (f : FlowFault) → fault_of_program p.1 ≡ Some f → o ≡ Some (Flow f) → FlowStage program rows p o
  fits : fault_of_program p.1 ≡ None → RowsStage program rows p.0 p.1 o → FlowStage program rows p o

-- the program has a fault, or a core
data TextStage (program : Program) (rows : Domain (List ℕ)) (o : Option TextCause) : Type 0 where
  unlexed : (f : LexFault) → HasFault C program.text f → o ≡ Some (Lex f) → TextStage program rows o
  unmeant : (f : SourceFault) → Reading program (Err f) → o ≡ Some (InSource f) → TextStage program rows o
  has_core : (p : List (List ℕ) × Statements) → HasCore program p.0 p.1 → FlowStage program rows p o → TextStage program rows o

some_none : (f : FlowFault) (o : Option FlowFault) → o ≡ Some f → o ≡ None → ⊥
some_none f o h k = cc

some_some : (f g : FlowFault) (o : Option FlowFault) → o ≡ Some f → o ≡ Some g → f ≡ g
some_some f g o h k = cc

module _ (program : Program) (rows : Domain (List ℕ)) where
  rows_stage_once : (names : List (List ℕ)) (body : Statements) (o p : Option TextCause) → RowsStage program rows names body o
      → RowsStage program rows names body p → o ≡ p
  rows_stage_once names body o p (faulty f h e) (faulty g k i) =
      e ∙ ap (λ x. Some (Rows x)) (row_fault_once program rows names f g h k) ∙ sym i
  rows_stage_once names body o p (faulty f h e) (given u k i) = absurd (not_rows program rows names f u h k)
  rows_stage_once names body o p (given u h e) (faulty f k i) = absurd (not_rows program rows names f u k h)
  rows_stage_once names body o p (given u h e) (given v k i) =
      last_once names body u o p e (subst (λ x. LastStage names body x p) (sym (rows_once program rows names u v h k)) i)

  flow_once : (p : List (List ℕ) × Statements) (o q : Option TextCause) → FlowStage program rows p o → FlowStage program rows p q → o ≡ q
  flow_once p o q (wide f h e) (wide g k i) = e ∙ ap (λ x. Some (Flow x)) (some_some f g (fault_of_program p.1) h k) ∙ sym i
  flow_once p o q (wide f h e) (fits k i) = absurd (some_none f (fault_of_program p.1) h k)
  flow_once p o q (fits h e) (wide f k i) = absurd (some_none f (fault_of_program p.1) k h)
  flow_once p o q (fits h e) (fits k i) = rows_stage_once p.0 p.1 o q e i

text_once : (program : Program) (rows : Domain (List ℕ)) (o q : Option TextCause) → TextStage program rows o → TextStage program rows q
    → o ≡ q
text_once program rows o q (unlexed f h e) (unlexed g k i) = e ∙ ap (λ x. Some (Lex x)) (one_text_fault C program.text f g h k) ∙ sym i
text_once program rows o q (unlexed f h e) (unmeant g (ts, r, m) i) = absurd (no_fault C program.text _ f r h)
text_once program rows o q (unlexed f h e) (has_core p k i) = absurd (no_fault C program.text _ f k.reading.1 h)
text_once program rows o q (unmeant f (ts, r, m) e) (unlexed g k i) = absurd (no_fault C program.text _ g r k)
text_once program rows o q (unmeant f h e) (unmeant g k i) = e ∙ ap (λ x. Some (InSource x)) (fault_once program f g h k) ∙ sym i
text_once program rows o q (unmeant f h e) (has_core p k i) = absurd (not_both program f p.0 p.1 h k)
text_once program rows o q (has_core p h e) (unlexed g k i) = absurd (no_fault C program.text _ g h.reading.1 k)
text_once program rows o q (has_core p h e) (unmeant g k i) = absurd (not_both program g p.0 p.1 k h)
text_once program rows o q (has_core p h e) (has_core r k i) =
    flow_once program rows p o q e (subst (λ x. FlowStage program rows x q) (sym (program_once program p r h k)) i)

-- ---- what is refused, and what is a system, by stages

refused_stage : (program : Program) (rows : Domain (List ℕ)) (cause : TextCause) → IsRefused program rows cause
    → TextStage program rows (Some cause)
refused_stage program rows (Lex f) h = unlexed f h refl
refused_stage program rows (InSource f) h = unmeant f h refl
refused_stage program rows (Flow f) (names, body, h, e) = has_core (names, body) h (wide f e refl)
refused_stage program rows (Rows f) (names, body, a, h) = has_core (names, body) a.has_core (fits a.within (faulty f h refl))
refused_stage program rows (Unknowns count) (names, body, template, y, h, e) =
    has_core (names, body) y.analysed.has_core (fits y.analysed.within (given template y.template_is
    (many h (ap (λ c. Some (Unknowns c)) e))))
refused_stage program rows (Claims f) h = absurd h
refused_stage program rows (Equ f) h = absurd h
refused_stage program rows (Auto f) h = absurd h

ready_stage : (program : Program) (rows : Domain (List ℕ)) (names : List (List ℕ)) (body : Statements) (template : List (List ℤ))
    → IsReady program rows names body template → TextStage program rows None
ready_stage program rows names body template r =
    has_core (names, body) r.system.analysed.has_core (fits r.system.analysed.within
    (given template r.system.template_is (few r.within refl)))

same_cause : (c d : TextCause) → Some c ≡ Some d → c ≡ d
same_cause c d e = cc

no_cause : (c : TextCause) → Some c ≡ None → ⊥
no_cause c e = cc

-- texts are refused by one cause
pub refused_once : (program : Program) (rows : Domain (List ℕ)) (c d : TextCause) → IsRefused program rows c → IsRefused program rows d
    → c ≡ d
refused_once program rows c d h k = same_cause c d (text_once program rows (Some c) (Some d) (refused_stage program rows c h)
    (refused_stage program rows d k))

-- texts that are ready aren't refused
pub ready_unrefused : (program : Program) (rows : Domain (List ℕ)) (names : List (List ℕ)) (body : Statements) (template : List (List ℤ))
    (c : TextCause) → IsRefused program rows c
    → IsReady program rows names body template → ⊥
ready_unrefused program rows names body template c h r =
    no_cause c (text_once program rows (Some c) None (refused_stage program rows c h) (ready_stage program rows names body template r))

-- the systems of texts have the same equations
pub solved_once : (program : Program) (rows : Domain (List ℕ)) (s t : System) → IsSolvedSystem program rows s
    → IsSolvedSystem program rows t
    → equations_of s ≡ equations_of t
solved_once program rows s t a b =
    let same = program_once program (a.names, a.body) (b.names, b.body) a.ready.system.analysed.has_core b.ready.system.analysed.has_core in
    let template : a.template ≡ b.template =
    rows_once program rows b.names a.template b.template
    (subst (λ (p : List (List ℕ) × Statements). HasTemplate program rows p.0 (Ok a.template)) same a.ready.system.template_is)
    b.ready.system.template_is in
    equations_are a.names a.body a.template s a.system_for
    ∙ ap (λ (p : List (List ℕ) × Statements). equations_of_program (length p.0) p.1 a.template) same
    ∙ ap (λ r. equations_of_program (length b.names) b.body r) template
    ∙ sym (equations_are b.names b.body b.template t b.system_for)

-- ---- a program alone

-- what refuses a program refuses it over every template
refused_over : (program : Program) (rows : Domain (List ℕ)) (c : TextCause) → IsRefusedProgram program c → IsRefused program rows c
refused_over program rows (Lex f) h = h
refused_over program rows (InSource f) h = h
refused_over program rows (Flow f) h = h
refused_over program rows (Rows f) h = absurd h
refused_over program rows (Unknowns count) h = absurd h
refused_over program rows (Claims f) h = absurd h
refused_over program rows (Equ f) h = absurd h
refused_over program rows (Auto f) h = absurd h

-- a program is refused by one cause
pub program_refused_once : (program : Program) (c d : TextCause) → IsRefusedProgram program c → IsRefusedProgram program d → c ≡ d
program_refused_once program c d h k = refused_once program Intervals c d (refused_over program Intervals c h)
    (refused_over program Intervals d k)

-- a program whose core is within the limits isn't refused
pub analysed_unrefused : (program : Program) (names : List (List ℕ)) (body : Statements) (c : TextCause) → IsRefusedProgram program c
    → IsAnalysed program names body → ⊥
analysed_unrefused program names body (Lex f) h a = no_fault C program.text _ f a.has_core.reading.1 h
analysed_unrefused program names body (InSource f) h a = not_both program f names body h a.has_core
analysed_unrefused program names body (Flow f) (others, other, h, e) a =
    some_none f (fault_of_program body)
    (subst (λ (p : List (List ℕ) × Statements). fault_of_program p.1 ≡ Some f)
    (program_once program (others, other) (names, body) h a.has_core) e) a.within
analysed_unrefused program names body (Rows f) h a = absurd h
analysed_unrefused program names body (Unknowns count) h a = absurd h
analysed_unrefused program names body (Claims f) h a = absurd h
analysed_unrefused program names body (Equ f) h a = absurd h
analysed_unrefused program names body (Auto f) h a = absurd h
