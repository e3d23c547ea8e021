-- A program means one thing, and has one core or one fault; and a domain is one template over given variables, or has one fault.
use Rattle.std.proofs.Common.{◌≡◌, ◌++◌, ℕ, List, [], ◌∷◌, length, sym, ap, ◌∙◌, subst}
use Rattle.std.proofs.lemmas.List.{append_cancel_right}
use Rattle.std.specs.Prelude.{ℤ, Result, Ok, Err}
use Rattle.lang_tokens.specs.declared.lexicon.Lexicon.TheVariants.{C}
use Rattle.lang_tokens.specs.Reading.{end_at}
use Rattle.lang_tokens.proofs.reading.Once.{one_token_list}
use Rattle.lang_tree.specs.Tree.{Statements}
use Rattle.base_integers.specs.declared.integers.Integers.{Integers}
use Rattle.source_tree.specs.Statements as c
use Rattle.source_core.specs.Core.{core_in}
use Rattle.source_file.specs.Meaning.{Answer, Means}
use Rattle.source_file.specs.declared.fault.SourceFault.{SourceFault}
use Rattle.source_file.proofs.meaning.Once.{means_once}
use Rattle.flow_templates.specs.declared.fault.RowFault.{RowFault}
use Rattle.flow_templates.proofs.row_files.OneAnswer.{one_answer}
use Rattle.flow_templates.specs.Domains.{ready}
use Rattle.flow_packs.proofs.pairs.Together.{packs_same}
use Rattle.lang_groups.specs.Groups.{SameTogether}
use Rattle.source_groups.specs.Grouping.{AreGroups}
use Rattle.source_groups.proofs.Once.{grouping_once}
use Rattle.ask_words.specs.declared.request.Domain.{Domain}
use Rattle.ask_words.specs.declared.request.Domain.TheVariants.{Intervals, Zones, Octagons, Packs, Rows}
use Rattle.top_texts.specs.Texts.{HasCore, HasGroups, HasTemplate, HasTemplateBy, IsTemplate, Program, Reading, Serve}

abbrev answered : Answer → Answer
answered a = a

-- a program means one thing
pub reading_once : (program : Program) (a b : Answer) → Reading program a → Reading program b → a ≡ b
reading_once program a b (ts, r, m) (us, s, n) =
    let last = end_at (length program.text) ∷ [] in
    let same : us ≡ ts = append_cancel_right us ts last (one_token_list C program.text (us ++ last) (ts ++ last) s r) in
    means_once program.integers program.text program.function ts a b m
    (subst (λ ws. Means program.integers program.text program.function ws b) same n)

ok_once : (p q : List (List ℕ) × c.Statements) → answered (Ok p) ≡ answered (Ok q) → p ≡ q
ok_once p q e = cc

err_once : (f g : SourceFault) → answered (Err f) ≡ answered (Err g) → f ≡ g
err_once f g e = cc

err_ok : (f : SourceFault) (p : List (List ℕ) × c.Statements) → answered (Err f) ≡ answered (Ok p) → ⊥
err_ok f p e = cc

-- names, and the core of statements with them
abbrev core_of : Integers → List (List ℕ) × c.Statements → List (List ℕ) × Statements
core_of integers p = (p.0, core_in integers (length p.0) p.1)

-- a program has one core
pub program_once : (program : Program) (p q : List (List ℕ) × Statements) → HasCore program p.0 p.1 → HasCore program q.0 q.1 → p ≡ q
program_once program p q h k =
    let both = ok_once (p.0, h.statements) (q.0, k.statements)
    (reading_once program (Ok (p.0, h.statements)) (Ok (q.0, k.statements)) h.reading k.reading) in
    let pair : List (List ℕ) → Statements → List (List ℕ) × Statements = λ names body. (names, body) in
    ap (pair p.0) h.core ∙ ap (core_of program.integers) both ∙ sym (ap (pair q.0) k.core)

-- it is that of all statements that the program means with these names
pub core_is : (program : Program) (names : List (List ℕ)) (body : Statements) (statements : c.Statements) → HasCore program names body
    → Reading program (Ok (names, statements)) → body ≡ core_in program.integers (length names) statements
core_is program names body statements h r =
    let both = ok_once (names, h.statements) (names, statements)
    (reading_once program (Ok (names, h.statements)) (Ok (names, statements)) h.reading r) in
    h.core ∙ ap (λ (p : List (List ℕ) × c.Statements). core_in program.integers (length names) p.1) both

-- a program has one fault
pub fault_once : (program : Program) (f g : SourceFault) → Reading program (Err f) → Reading program (Err g) → f ≡ g
fault_once program f g h k = err_once f g (reading_once program (Err f) (Err g) h k)

-- a program that has a fault has no core
pub not_both : (program : Program) (f : SourceFault) (names : List (List ℕ)) (body : Statements) → Reading program (Err f)
    → HasCore program names body → ⊥
not_both program f names body h k =
    err_ok f (names, k.statements) (reading_once program (Err f) (Ok (names, k.statements)) h k.reading)

-- by any groups of a program the same variables are together
groups_once : (program : Program) (names one other : List (List ℕ)) → HasGroups program names one → HasGroups program names other
    → SameTogether one other
groups_once program names one other (ts, r, m) (us, s, n) =
    let last = end_at (length program.text) ∷ [] in
    let same : us ≡ ts = append_cancel_right us ts last (one_token_list C program.text (us ++ last) (ts ++ last) s r) in
    grouping_once program.integers program.text program.function ts names one other m
    (subst (λ ws. AreGroups program.integers program.text program.function ws names other) same n)

-- a domain has one template, where by any groups the same variables are together
pub template_once : (HasGroups : List (List ℕ) → Type 0)
    → ((one other : List (List ℕ)) → HasGroups one → HasGroups other → SameTogether one other)
    → (rows : Domain (List ℕ)) (names : List (List ℕ)) (x y : Result (List (List ℤ)) RowFault) → IsTemplate HasGroups rows names x
    → IsTemplate HasGroups rows names y → x ≡ y
template_once HasGroups once Intervals names x y h k = h ∙ sym k
template_once HasGroups once Zones names x y h k = h ∙ sym k
template_once HasGroups once Octagons names x y h k = h ∙ sym k
template_once HasGroups once Packs names x y (one, p, h) (other, q, k) =
    h ∙ ap (λ rows. ready rows) (packs_same (length names) one other (once one other p q)) ∙ sym k
template_once HasGroups once (Rows text) names x y h k = one_answer names text x y h k

-- groups that serve a domain give its template
pub template_served : (HasGroups : List (List ℕ) → Type 0) (rows : Domain (List ℕ)) (names groups : List (List ℕ))
    (answer : Result (List (List ℤ)) RowFault) → Serve HasGroups rows groups → HasTemplateBy groups rows names answer
    → IsTemplate HasGroups rows names answer
template_served HasGroups Intervals names groups answer s h = h
template_served HasGroups Zones names groups answer s h = h
template_served HasGroups Octagons names groups answer s h = h
template_served HasGroups Packs names groups answer s (given, e, h) = (given, subst HasGroups (sym e) s, h)
template_served HasGroups (Rows text) names groups answer s h = h

abbrev rows_answer : Result (List (List ℤ)) RowFault → Result (List (List ℤ)) RowFault
rows_answer a = a

given_once : (t u : List (List ℤ)) → rows_answer (Ok t) ≡ rows_answer (Ok u) → t ≡ u
given_once t u e = cc

faulty_once : (f g : RowFault) → rows_answer (Err f) ≡ rows_answer (Err g) → f ≡ g
faulty_once f g e = cc

faulty_given : (f : RowFault) (t : List (List ℤ)) → rows_answer (Err f) ≡ rows_answer (Ok t) → ⊥
faulty_given f t e = cc

module _ (HasGroups : List (List ℕ) → Type 0)
    (once : (one other : List (List ℕ)) → HasGroups one → HasGroups other → SameTogether one other) where
  -- a domain has one template over given variables
  pub rows_once_by : (rows : Domain (List ℕ)) (names : List (List ℕ)) (t u : List (List ℤ)) → IsTemplate HasGroups rows names (Ok t)
      → IsTemplate HasGroups rows names (Ok u) → t ≡ u
  rows_once_by rows names t u h k = given_once t u (template_once HasGroups once rows names (Ok t) (Ok u) h k)

  -- a domain has one fault over given variables
  pub row_fault_once_by : (rows : Domain (List ℕ)) (names : List (List ℕ)) (f g : RowFault) → IsTemplate HasGroups rows names (Err f)
      → IsTemplate HasGroups rows names (Err g) → f ≡ g
  row_fault_once_by rows names f g h k = faulty_once f g (template_once HasGroups once rows names (Err f) (Err g) h k)

  -- a domain that has a fault has no template
  pub not_rows_by : (rows : Domain (List ℕ)) (names : List (List ℕ)) (f : RowFault) (t : List (List ℤ))
      → IsTemplate HasGroups rows names (Err f) → IsTemplate HasGroups rows names (Ok t) → ⊥
  not_rows_by rows names f t h k = faulty_given f t (template_once HasGroups once rows names (Err f) (Ok t) h k)

-- a program has one template of a domain over given variables
pub rows_once : (program : Program) (rows : Domain (List ℕ)) (names : List (List ℕ)) (t u : List (List ℤ))
    → HasTemplate program rows names (Ok t) → HasTemplate program rows names (Ok u) → t ≡ u
rows_once program rows names t u h k = rows_once_by (HasGroups program names) (groups_once program names) rows names t u h k

-- it has one fault of the rows
pub row_fault_once : (program : Program) (rows : Domain (List ℕ)) (names : List (List ℕ)) (f g : RowFault)
    → HasTemplate program rows names (Err f) → HasTemplate program rows names (Err g) → f ≡ g
row_fault_once program rows names f g h k = row_fault_once_by (HasGroups program names) (groups_once program names) rows names f g h k

-- a program whose rows have a fault has no template
pub not_rows : (program : Program) (rows : Domain (List ℕ)) (names : List (List ℕ)) (f : RowFault) (t : List (List ℤ))
    → HasTemplate program rows names (Err f) → HasTemplate program rows names (Ok t) → ⊥
not_rows program rows names f t h k = not_rows_by (HasGroups program names) (groups_once program names) rows names f t h k
