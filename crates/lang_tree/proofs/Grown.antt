-- What is over some variables is over more.
use Rattle.std.proofs.Common.{ℕ, ◌≤◌, Bool, true, List, [], ◌∷◌, ◌&&◌, length, refl, arith, nat_le, nat_lt}
use Rattle.std.specs.Prelude.{IsTrue}
use Rattle.std.proofs.lemmas.Bool.{and_from, and_parts, leb-true, le-leb, ltb-true, lt-ltb}
use Rattle.lang_tree.specs.declared.form.Form.{Form}
use Rattle.std.specs.List.{list_all}
use Rattle.lang_tree.specs.Tree.{Deed, sets, havocs, wheres, checks}
use Rattle.lang_tree.specs.Tree.{Condition, free, compare, negation, both, either, leaf_count, LoopKind, while_loop, for_loop, do_loop}
use Rattle.lang_tree.specs.Tree.{Statement, Statements, set, havoc, assume, only_where, check, branch, loop, jump, label, nil, cons}
use Rattle.lang_tree.specs.Limits.{has_numbers, is_form, is_condition, is_tested, is_deed, is_kind, is_statement}
use Rattle.lang_tree.specs.Limits.{are_statements}

-- both hold where they held of something else
both_parts : (a b c d : Bool) → (IsTrue a → IsTrue c) → (IsTrue b → IsTrue d) → IsTrue (a && b) → IsTrue (c && d)
both_parts a b c d f g h = let p = and_parts a b h in and_from c d (f p.0) (g p.1)

below_grows : (m n k : ℕ) → m ≤ n → IsTrue (nat_lt k m) → IsTrue (nat_lt k n)
below_grows m n k l h = lt-ltb k n (omega (arith, ltb-true k m h))

form_grows : (m n : ℕ) (f : Form) → m ≤ n → IsTrue (is_form m f) → IsTrue (is_form n f)
form_grows m n f l h = both_parts (nat_le (length f.coeffs) m) (has_numbers f) (nat_le (length f.coeffs) n) (has_numbers f)
    (λ k. le-leb (length f.coeffs) n (omega (arith, leb-true (length f.coeffs) m k))) (λ k. k) h

condition_grows : (m n : ℕ) (c : Condition) → m ≤ n → IsTrue (is_condition m c) → IsTrue (is_condition n c)
condition_grows m n free l h = refl
condition_grows m n (compare rel f) l h = both_parts (is_form m f) _ (is_form n f) _ (form_grows m n f l) (λ k. k) h
condition_grows m n (negation c) l h = condition_grows m n c l h
condition_grows m n (both c d) l h = both_parts (is_condition m c) (is_condition m d) (is_condition n c) (is_condition n d)
    (condition_grows m n c l) (condition_grows m n d l) h
condition_grows m n (either c d) l h = both_parts (is_condition m c) (is_condition m d) (is_condition n c) (is_condition n d)
    (condition_grows m n c l) (condition_grows m n d l) h

-- a condition that may be tested over some variables may be tested over more
pub tested_grows : (m n : ℕ) (c : Condition) → m ≤ n → IsTrue (is_tested m c) → IsTrue (is_tested n c)
tested_grows m n c l h = both_parts (nat_le (leaf_count c) 64) (is_condition m c) (nat_le (leaf_count c) 64) (is_condition n c)
    (λ k. k) (condition_grows m n c l) h

deed_grows : (m n : ℕ) (d : Deed) → m ≤ n → IsTrue (is_deed m d) → IsTrue (is_deed n d)
deed_grows m n (sets var form line) l h = both_parts (nat_lt var m) (is_form m form) (nat_lt var n) (is_form n form)
    (below_grows m n var l) (form_grows m n form l) h
deed_grows m n (havocs var line) l h = below_grows m n var l h
deed_grows m n (wheres cond line) l h = tested_grows m n cond l h
deed_grows m n (checks about cond line) l h = tested_grows m n cond l h

deeds_grow : (m n : ℕ) (ds : List Deed) → m ≤ n → IsTrue (list_all (is_deed m) ds) → IsTrue (list_all (is_deed n) ds)
deeds_grow m n [] l h = refl
deeds_grow m n (d ∷ ds) l h = both_parts (is_deed m d) (list_all (is_deed m) ds) (is_deed n d) (list_all (is_deed n) ds)
    (deed_grows m n d l) (deeds_grow m n ds l) h

kind_grows : (m n : ℕ) (kind : LoopKind) → m ≤ n → IsTrue (is_kind m kind) → IsTrue (is_kind n kind)
kind_grows m n (while_loop p) l h = deeds_grow m n p l h
kind_grows m n (for_loop p g) l h = both_parts (list_all (is_deed m) p) (list_all (is_deed m) g) (list_all (is_deed n) p)
    (list_all (is_deed n) g) (deeds_grow m n p l) (deeds_grow m n g l) h
kind_grows m n (do_loop p) l h = deeds_grow m n p l h

mutual
  statement_grows : (m n : ℕ) (i : Bool) (s : Statement) → m ≤ n → IsTrue (is_statement m i s) → IsTrue (is_statement n i s)
  statement_grows m n i (set var form line) l h = both_parts (nat_lt var m) (is_form m form) (nat_lt var n) (is_form n form)
      (below_grows m n var l) (form_grows m n form l) h
  statement_grows m n i (havoc var line) l h = below_grows m n var l h
  statement_grows m n i (assume c line) l h = tested_grows m n c l h
  statement_grows m n i (only_where c line) l h = tested_grows m n c l h
  statement_grows m n i (check about c line) l h = tested_grows m n c l h
  statement_grows m n i (branch c first second line) l h =
      both_parts (is_tested m c) (are_statements m i first && are_statements m i second) (is_tested n c)
      (are_statements n i first && are_statements n i second) (tested_grows m n c l)
      (λ k. both_parts (are_statements m i first) (are_statements m i second) (are_statements n i first) (are_statements n i second)
      (statements_grow m n i first l) (statements_grow m n i second l) k) h
  statement_grows m n i (loop kind c body line) l h =
      both_parts (is_tested m c) (is_kind m kind && are_statements m true body) (is_tested n c)
      (is_kind n kind && are_statements n true body) (tested_grows m n c l)
      (λ k. both_parts (is_kind m kind) (are_statements m true body) (is_kind n kind) (are_statements n true body)
      (kind_grows m n kind l) (statements_grow m n true body l) k) h
  statement_grows m n i (jump kind line) l h = h
  statement_grows m n i (label name line) l h = refl

  -- statements over some variables are statements over more
  pub statements_grow : (m n : ℕ) (i : Bool) (ss : Statements) → m ≤ n → IsTrue (are_statements m i ss) → IsTrue (are_statements n i ss)
  statements_grow m n i nil l h = refl
  statements_grow m n i (cons s rest) l h =
      both_parts (is_statement m i s) (are_statements m i rest) (is_statement n i s) (are_statements n i rest)
      (statement_grows m n i s l) (statements_grow m n i rest l) h
