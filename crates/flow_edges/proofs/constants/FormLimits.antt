-- The guards of a program's conditions are forms over its variables, with numbers within the limits.
use Rattle.std.proofs.Common.{ℕ, zero, suc, ◌+◌, ◌≤◌, Bool, true, false, List, [], ◌∷◌, ◌++◌, length, map, refl, arith}
use Rattle.std.specs.Prelude.{◌&&◌, nat_le, ℤ, pos, negsuc, ◌+ℤ◌, neg_ℤ, nat_abs, not, IsTrue}
use Rattle.std.proofs.lemmas.Int.{ints}
use Rattle.std.proofs.lemmas.Bool.{and_from, and_parts, leb-true, le-leb}
use Rattle.std.proofs.lemmas.List.{length-map}
use Rattle.lang_tree.specs.declared.form.Form.{Form}
use Rattle.lang_tree.specs.declared.cond.Rel.{Rel}
use Rattle.lang_tree.specs.declared.cond.Rel.TheVariants.{Eq, Ne, Lt, Le, Gt, Ge}
use Rattle.lang_tree.specs.Numbers.{is_number, are_numbers}
use Rattle.lang_tree.specs.Limits.{is_form, is_compared, is_condition}
use Rattle.lang_tree.specs.Tree.{Condition, free, compare, negation, both, either}
use Rattle.lang_tree.specs.Cases.{plus_one, negated, comparison_cases, crossed, cases_of}
use Rattle.flow_edges.specs.Constants.{has_room, have_room}
use Rattle.flow_edges.proofs.Each.{Each, each-append, each-map}
use Rattle.flow_edges.proofs.guard.GuardLemmas.{nat_abs-neg, are_numbers-negated}

-- a form over n variables
abbrev pub IsForm : ℕ → Form → Type 0
IsForm n f = IsTrue (is_form n f)

-- a form that is compared: over n variables, with room for its guards
pub record Compared (n : ℕ) (f : Form) : Type 0 where
  -- it is over n variables
  pub form : IsForm n f
  -- its constant has room for 1 more
  pub room : IsTrue (has_room f)

compared : (n : ℕ) (f : Form) → IsTrue (is_compared n f) → Compared n f
compared n f h = let p = and_parts (is_form n f) (has_room f) h in record { form = p.0; room = p.1 }

negated_form : (n : ℕ) (f : Form) → IsForm n f → IsForm n (negated f)
negated_form n f h =
    let p = and_parts (nat_le (length f.coeffs) n) (are_numbers f.coeffs && is_number f.constant) h in
    let q = and_parts (are_numbers f.coeffs) (is_number f.constant) p.1 in
    and_from (nat_le (length (map neg_ℤ f.coeffs)) n) (are_numbers (map neg_ℤ f.coeffs) && is_number (neg_ℤ f.constant))
    (rw (length-map f.coeffs neg_ℤ) p.0)
    (and_from (are_numbers (map neg_ℤ f.coeffs)) (is_number (neg_ℤ f.constant)) (are_numbers-negated f.coeffs q.0)
    (rw (nat_abs-neg f.constant) q.1))

negated_compared : (n : ℕ) (f : Form) → Compared n f → Compared n (negated f)
negated_compared n f h = record { form = negated_form n f h.form; room = rw (nat_abs-neg f.constant) h.room }

nat_abs-more : (z : ℤ) → nat_abs (z +ℤ pos 1) ≤ nat_abs z + 1
nat_abs-more (pos n) = omega (arith, ints)
nat_abs-more (negsuc zero) = omega (arith, ints)
nat_abs-more (negsuc (suc n)) = omega (arith, ints)

plus_one_form : (n : ℕ) (f : Form) → Compared n f → IsForm n (plus_one f)
plus_one_form n f h =
    let p = and_parts (nat_le (length f.coeffs) n) (are_numbers f.coeffs && is_number f.constant) h.form in
    let q = and_parts (are_numbers f.coeffs) (is_number f.constant) p.1 in
    let r : nat_abs f.constant + 1 ≤ 9223372036854775807 = leb-true (nat_abs f.constant + 1) 9223372036854775807 h.room in
    let l : nat_abs (f.constant +ℤ pos 1) ≤ 9223372036854775807 = omega (arith, nat_abs-more f.constant) in
    and_from (nat_le (length f.coeffs) n) (are_numbers f.coeffs && is_number (f.constant +ℤ pos 1)) p.0
    (and_from (are_numbers f.coeffs) (is_number (f.constant +ℤ pos 1)) q.0 (le-leb (nat_abs (f.constant +ℤ pos 1)) 9223372036854775807 l))

-- cases of such forms
abbrev pub AreForms : ℕ → List (List Form) → Type 0
AreForms n cases = Each (Each (IsForm n)) cases

comparison_forms : (n : ℕ) (truth : Bool) (rel : Rel) (f : Form) → Compared n f → AreForms n (comparison_cases truth rel f)
comparison_forms n true Lt f h = ((plus_one_form n f h, tt), tt)
comparison_forms n false Lt f h = ((negated_form n f h.form, tt), tt)
comparison_forms n true Le f h = ((h.form, tt), tt)
comparison_forms n false Le f h = ((plus_one_form n (negated f) (negated_compared n f h), tt), tt)
comparison_forms n true Gt f h = ((plus_one_form n (negated f) (negated_compared n f h), tt), tt)
comparison_forms n false Gt f h = ((h.form, tt), tt)
comparison_forms n true Ge f h = ((negated_form n f h.form, tt), tt)
comparison_forms n false Ge f h = ((plus_one_form n f h, tt), tt)
comparison_forms n true Eq f h = ((h.form, (negated_form n f h.form, tt)), tt)
comparison_forms n false Eq f h = ((plus_one_form n f h, tt), ((plus_one_form n (negated f) (negated_compared n f h), tt), tt))
comparison_forms n true Ne f h = ((plus_one_form n f h, tt), ((plus_one_form n (negated f) (negated_compared n f h), tt), tt))
comparison_forms n false Ne f h = ((h.form, (negated_form n f h.form, tt)), tt)

crossed_forms : (n : ℕ) (us vs : List (List Form)) → AreForms n us → AreForms n vs → AreForms n (crossed us vs)
crossed_forms n [] vs h k = tt
crossed_forms n (u ∷ us) vs h k =
    each-append (Each (IsForm n)) (map (λ v. u ++ v) vs) (crossed us vs)
    (each-map (Each (IsForm n)) (Each (IsForm n)) (λ v. u ++ v) (λ v m. each-append (IsForm n) u v h.0 m) vs k)
    (crossed_forms n us vs h.1 k)

-- the cases of a condition over n variables are lists of forms over these
pub cases_forms : (n : ℕ) (truth : Bool) (c : Condition) → IsTrue (is_condition n c) → AreForms n (cases_of truth c)
cases_forms n truth free h = (tt, tt)
cases_forms n truth (compare rel f) h = comparison_forms n truth rel f (compared n f h)
cases_forms n truth (negation c) h = cases_forms n (not truth) c h
cases_forms n true (both c d) h =
    let p = and_parts (is_condition n c) (is_condition n d) h in crossed_forms n (cases_of true c) (cases_of true d)
    (cases_forms n true c p.0) (cases_forms n true d p.1)
cases_forms n false (both c d) h =
    let p = and_parts (is_condition n c) (is_condition n d) h in each-append (Each (IsForm n)) (cases_of false c) (cases_of false d)
    (cases_forms n false c p.0) (cases_forms n false d p.1)
cases_forms n true (either c d) h =
    let p = and_parts (is_condition n c) (is_condition n d) h in each-append (Each (IsForm n)) (cases_of true c) (cases_of true d)
    (cases_forms n true c p.0) (cases_forms n true d p.1)
cases_forms n false (either c d) h =
    let p = and_parts (is_condition n c) (is_condition n d) h in crossed_forms n (cases_of false c) (cases_of false d)
    (cases_forms n false c p.0) (cases_forms n false d p.1)

-- room for the guards
pub condition_room : (n : ℕ) (c : Condition) → IsTrue (is_condition n c) → IsTrue (have_room c)
condition_room n free h = refl
condition_room n (compare rel f) h = (compared n f h).room
condition_room n (negation c) h = condition_room n c h
condition_room n (both c d) h =
    let p = and_parts (is_condition n c) (is_condition n d) h in and_from (have_room c) (have_room d) (condition_room n c p.0)
    (condition_room n d p.1)
condition_room n (either c d) h =
    let p = and_parts (is_condition n c) (is_condition n d) h in and_from (have_room c) (have_room d) (condition_room n c p.0)
    (condition_room n d p.1)
