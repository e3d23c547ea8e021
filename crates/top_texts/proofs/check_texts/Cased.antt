-- The cases against the checks of a program within the limits have few guards, each a form over its variables and hidden ones.
use Rattle.std.proofs.Common.{◌+◌, ◌++◌, ⊎_elim, ℕ, Bool, true, false, List, [], ◌∷◌, inl, inr, map, refl, subst}
use Rattle.std.specs.Prelude.{◌&&◌, IsTrue, nat_le}
use Rattle.std.specs.List.{list_all}
use Rattle.std.proofs.lemmas.Bool.{and_from, and_parts}
use Rattle.base_facts.specs.Elements.{In}
use Rattle.base_facts.proofs.elements.Membership.{of_append}
use Rattle.lang_tree.specs.Limits.{are_statements, is_deed, is_kind, is_program, is_statement, is_tested}
use Rattle.lang_tree.specs.Tree.{Statement, Statements, set, havoc, assume, only_where, check, branch, loop, jump, label, nil, cons}
use Rattle.lang_tree.specs.Tree.{nodes_in, Deed, sets, havocs, wheres, checks, LoopKind, while_loop, for_loop, do_loop}
use Rattle.lang_tree.specs.declared.limits.TheConstants.{MOST_VARIABLES, MOST_HIDDEN}
use Rattle.flow_edges.specs.Checks.{Checked, checks_in, checks_of, checks_of_program, deed_checks, loop_checks, with_cases}
use Rattle.flow_edges.specs.declared.checked.CheckCases.{CheckCases}
use Rattle.ask_verdicts.specs.Breaking.{is_case}
use Rattle.ask_verdicts.proofs.breaking.Cases.{tested_cases}

-- the condition of a check in deeds is within the limits
tested_deeds : (n : ℕ) (ds : List Deed) (c : Checked) → IsTrue (list_all (is_deed n) ds) → In (deed_checks ds) c
    → IsTrue (is_tested n c.cond)
tested_deeds n [] c h m = absurd m
tested_deeds n (sets var form line ∷ ds) c h m =
    tested_deeds n ds c (and_parts (is_deed n (sets var form line)) (list_all (is_deed n) ds) h).1 m
tested_deeds n (havocs var line ∷ ds) c h m =
    tested_deeds n ds c (and_parts (is_deed n (havocs var line)) (list_all (is_deed n) ds) h).1 m
tested_deeds n (wheres d line ∷ ds) c h m =
    tested_deeds n ds c (and_parts (is_deed n (wheres d line)) (list_all (is_deed n) ds) h).1 m
tested_deeds n (checks about d line ∷ ds) c h m =
    let p = and_parts (is_deed n (checks about d line)) (list_all (is_deed n) ds) h in
    ⊎_elim (λ e. subst (λ (x : Checked). IsTrue (is_tested n x.cond)) e p.0) (tested_deeds n ds c p.1) m

-- so is that of one in a loop's prelude, change or body
tested_kind : (n : ℕ) (kind : LoopKind) (inside : List Checked) (c : Checked) → IsTrue (is_kind n kind)
    → (In inside c → IsTrue (is_tested n c.cond)) → In (loop_checks kind inside) c → IsTrue (is_tested n c.cond)
tested_kind n (while_loop p) inside c h f m = ⊎_elim (tested_deeds n p c h) f (of_append (deed_checks p) inside c m)
tested_kind n (for_loop p g) inside c h f m =
    let q = and_parts (list_all (is_deed n) p) (list_all (is_deed n) g) h in
    ⊎_elim (tested_deeds n p c q.0) (λ r. ⊎_elim (tested_deeds n g c q.1) f (of_append (deed_checks g) inside c r))
    (of_append (deed_checks p) (deed_checks g ++ inside) c m)
tested_kind n (do_loop p) inside c h f m = ⊎_elim f (tested_deeds n p c h) (of_append inside (deed_checks p) c m)

mutual
  -- the condition of a check in a statement is within the limits
  tested_of : (n : ℕ) (i : Bool) (s : Statement) (c : Checked) → IsTrue (is_statement n i s) → In (checks_of s) c
      → IsTrue (is_tested n c.cond)
  tested_of n i (set var form line) c h m = absurd m
  tested_of n i (havoc var line) c h m = absurd m
  tested_of n i (assume d line) c h m = absurd m
  tested_of n i (only_where d line) c h m = absurd m
  tested_of n i (check about d line) c h m =
      ⊎_elim (λ e. subst (λ (x : Checked). IsTrue (is_tested n x.cond)) e h) (λ no. absurd no) m
  tested_of n i (branch d first second line) c h m =
      let p = and_parts (is_tested n d) (are_statements n i first && are_statements n i second) h in
      let q = and_parts (are_statements n i first) (are_statements n i second) p.1 in
      ⊎_elim (tested_in n i first c q.0) (tested_in n i second c q.1) (of_append (checks_in first) (checks_in second) c m)
  tested_of n i (loop kind d body line) c h m =
      let p = and_parts (is_tested n d) (is_kind n kind && are_statements n true body) h in
      let q = and_parts (is_kind n kind) (are_statements n true body) p.1 in
      tested_kind n kind (checks_in body) c q.0 (tested_in n true body c q.1) m
  tested_of n i (jump kind line) c h m = absurd m
  tested_of n i (label name line) c h m = absurd m

  -- and so is that of one in a list of them
  tested_in : (n : ℕ) (i : Bool) (ss : Statements) (c : Checked) → IsTrue (are_statements n i ss) → In (checks_in ss) c
      → IsTrue (is_tested n c.cond)
  tested_in n i nil c h m = absurd m
  tested_in n i (cons s rest) c h m =
      let p = and_parts (is_statement n i s) (are_statements n i rest) h in
      ⊎_elim (tested_of n i s c p.0) (tested_in n i rest c p.1) (of_append (checks_of s) (checks_in rest) c m)

-- the cases against a check have few guards, each a form over n variables
abbrev are_cases : ℕ → CheckCases → Bool
are_cases n cases = list_all (is_case n) cases.against

all_cased : (n : ℕ) (checks : List Checked) → ((c : Checked) → In checks c → IsTrue (is_tested n c.cond))
    → IsTrue (list_all (are_cases n) (map with_cases checks))
all_cased n [] h = refl
all_cased n (c ∷ cs) h =
    and_from (are_cases n (with_cases c)) (list_all (are_cases n) (map with_cases cs)) (tested_cases n false c.cond (h c (inl refl)))
    (all_cased n cs (λ d m. h d (inr m)))

-- so have those against the checks of a program
pub checks_cased : (n : ℕ) (body : Statements) → IsTrue (is_program n body)
    → IsTrue (list_all (λ (cases : CheckCases). list_all (is_case (n + MOST_HIDDEN)) cases.against) (checks_of_program body))
checks_cased n body h =
    let m = n + MOST_HIDDEN in
    let p = and_parts (nat_le 1 n) (nat_le n MOST_VARIABLES && (nat_le (nodes_in body) 4096 && are_statements m false body)) h in
    let q = and_parts (nat_le n MOST_VARIABLES) (nat_le (nodes_in body) 4096 && are_statements m false body) p.1 in
    let r = and_parts (nat_le (nodes_in body) 4096) (are_statements m false body) q.1 in
    all_cased m (checks_in body) (λ c i. tested_in m false body c r.1 i)
