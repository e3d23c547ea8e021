-- A place where no actions come before the guards.
use Rattle.std.proofs.Common.{◌≡◌, ◌∙◌, ⊎_elim, ℕ, zero, suc, ◌+◌, Bool, true, false, true≢false, not, cond, T, ◌&&◌, List, [], ◌∷◌}
use Rattle.std.proofs.Common.{◌++◌, length, map, nat_abs, pos, Option, Some, None, refl, ap, ap₂, sym, subst, arith}
use Rattle.std.specs.List.{range_with_len}
use lib.Signed.{le_z}
use Rattle.base_numbers.specs.Rational.{ℚ, zero_ℚ, ◌+ℚ◌, ◌*ℚ◌}
use Rattle.base_numbers.specs.Vector.{dot}
use Rattle.base_numbers.proofs.rational.Laws.{+ℚ_idl, +ℚ_idr, zero-*ℚ, *ℚ_idl}
use Rattle.base_fractions.specs.declared.wide.Op.TheVariants.{Add, Mul, Sub}
use Rattle.base_fractions.specs.Fits.{Fits, long_limit}
use Rattle.base_fractions.specs.Operation.{Operation, first_wide, fits, result_of}
use Rattle.lang_tree.specs.declared.form.Form.{Form}
use Rattle.flow_systems.proofs.Widths.{first_wide_later, first_wide_sooner, first_wide_past}
use Rattle.theory_validity.specs.Words.{column, columns, values, width, end_of, end_form, start_of, ends_from}
use Rattle.theory_validity.proofs.words.Traces.{start_is}
use Rattle.lp_theory.specs.Problem.{Outcome, best, unbounded, empty}
use Rattle.lp_theory.specs.Simplex.{lp}
use Rattle.lp_theory.specs.Free.{unsplit}
use Rattle.theory_transformers.specs.Limits.{tabulate}
use Rattle.theory_transformers.proofs.limits.Products.{tabulate_same}
use Rattle.solve_composition.specs.Behind.{placed_actions, end_forms}
use Rattle.solve_composition.specs.Composed.{first_entries, dense}
use Rattle.solve_composition.proofs.behind.Forms.{ends_behind}
use Rattle.solve_composition.proofs.behind.Plain.{AreZero, IsUnit, nothing_fits, guards_alone, column_entries, column_constant, plain_ends}
use Rattle.solve_transformer.specs.PlaceLaws.{PointsArePlain}
use Rattle.solve_transformer.specs.Places.{placed_edge, products_reading, form_reading, forms_reading, state_reading}
use Rattle.solve_transformer.specs.Values.{entry_operations, reading_operations, problem_reading}
use Rattle.theory_transformers.specs.EdgeProblems.{whole_problem}

-- ---- operations none of which is wide
both_parts : (a b : Bool) → a && b ≡ true → T a × T b
both_parts true true e = (tt, tt)
both_parts true false e = absurd (true≢false (sym e))
both_parts false b e = absurd (true≢false (sym e))

fits_out : (q : ℚ) → fits long_limit q ≡ true → Fits long_limit q
unfolding fits
fits_out q e = let p = both_parts (le_z (pos (nat_abs q.num)) long_limit) (le_z (pos q.den) long_limit) e in
    record { num_fits = record { le = p.0 }; den_fits = record { le = p.1 } }

-- the first of them fits, and none of the others is wide
none_first : (o : Operation) (os : List Operation) → first_wide long_limit (o ∷ os) ≡ None
    → Fits long_limit (result_of o) × (first_wide long_limit os ≡ None)
none_first o os e = by (fits long_limit (result_of o)) refl e
  where
    by : (b : Bool) → fits long_limit (result_of o) ≡ b → cond (not b) (Some o) (first_wide long_limit os) ≡ None
        → Fits long_limit (result_of o) × (first_wide long_limit os ≡ None)
    by true h k = (fits_out (result_of o) h, k)
    by false h k = absurd cc

-- ---- the entries of a trace
abbrev AllFit : List ℚ → Type 0
AllFit [] = Unit {0}
AllFit (x ∷ xs) = Fits long_limit x × AllFit xs

entries_fit : (x : ℕ → ℚ) (a w : ℕ) →
    first_wide long_limit (map (λ j. let o : Operation = record { op = Sub; left = x (j + j); right = x (suc (j + j)) } in o)
    (range_with_len a w)) ≡ None → AllFit (tabulate w (λ k. unsplit x (a + k)))
entries_fit x a zero e = tt
entries_fit x a (suc w) e =
    let p = none_first (record { op = Sub; left = x (a + a); right = x (suc (a + a)) })
    (map (λ j. let o : Operation = record { op = Sub; left = x (j + j); right = x (suc (j + j)) } in o) (range_with_len (a + 1) w)) e in (
      subst (λ j. Fits long_limit (unsplit x j)) (let f : a ≡ a + 0 = omega arith in f) p.0,
      subst AllFit (tabulate_same w (λ k. unsplit x (a + 1 + k)) (λ k. unsplit x (a + suc k))
          (λ k l. ap (unsplit x) (let f : a + 1 + k ≡ a + suc k = omega arith in f))) (entries_fit x (a + 1) w p.1),
    )

-- ---- a form that is a column
module _ (sum c x : ℚ) (cs xs : List ℚ) (product : Fits long_limit (c *ℚ x)) (added : Fits long_limit (sum +ℚ (c *ℚ x))) where
  added_passes : first_wide long_limit (products_reading (sum +ℚ (c *ℚ x)) cs xs) ≡ None
      → first_wide long_limit (products_reading sum (c ∷ cs) (x ∷ xs)) ≡ None
  added_passes h =
      let rest = products_reading (sum +ℚ (c *ℚ x)) cs xs in
      first_wide_past long_limit (record { op = Mul; left = c; right = x }) (record { op = Add; left = sum; right = c *ℚ x } ∷ rest) product
      ∙ first_wide_past long_limit (record { op = Add; left = sum; right = c *ℚ x }) rest added ∙ h

zero_times : (c x : ℚ) → c ≡ zero_ℚ → c *ℚ x ≡ zero_ℚ
zero_times c x e = ap (λ d. d *ℚ x) e ∙ zero-*ℚ x

plus_zero : (sum c x : ℚ) → c ≡ zero_ℚ → sum +ℚ (c *ℚ x) ≡ sum
plus_zero sum c x e = ap (λ s. sum +ℚ s) (zero_times c x e) ∙ +ℚ_idr sum

zeros_read : (sum : ℚ) (cs xs : List ℚ) → Fits long_limit sum → AreZero cs → first_wide long_limit (products_reading sum cs xs) ≡ None
zeros_read sum [] xs f z = refl
zeros_read sum (c ∷ cs) [] f z = refl
zeros_read sum (c ∷ cs) (x ∷ xs) f z =
    let next = subst (Fits long_limit) (sym (plus_zero sum c x z.0)) f in
    added_passes sum c x cs xs (subst (Fits long_limit) (sym (zero_times c x z.0)) nothing_fits) next
    (zeros_read (sum +ℚ (c *ℚ x)) cs xs next z.1)

unit_read : (sum : ℚ) → sum ≡ zero_ℚ → (cs xs : List ℚ) → IsUnit cs → AllFit xs
    → first_wide long_limit (products_reading sum cs xs) ≡ None
unit_read sum e [] xs u f = refl
unit_read sum e (c ∷ cs) [] u f = refl
unit_read sum e (c ∷ cs) (x ∷ xs) u f =
    ⊎_elim (λ z.
    let next = plus_zero sum c x z.0 ∙ e in
    added_passes sum c x cs xs (subst (Fits long_limit) (sym (zero_times c x z.0)) nothing_fits)
    (subst (Fits long_limit) (sym next) nothing_fits) (unit_read (sum +ℚ (c *ℚ x)) next cs xs z.1 f.1))
    (λ o.
    let one : c *ℚ x ≡ x = ap (λ d. d *ℚ x) o.0 ∙ *ℚ_idl x in
    let next : sum +ℚ (c *ℚ x) ≡ x = ap (λ s. s +ℚ (c *ℚ x)) e ∙ +ℚ_idl (c *ℚ x) ∙ one in
    let added = subst (Fits long_limit) (sym next) f.0 in
    added_passes sum c x cs xs (subst (Fits long_limit) (sym one) f.0) added (zeros_read (sum +ℚ (c *ℚ x)) cs xs added o.1)) u

zero_dot : (cs xs : List ℚ) → AreZero cs → dot cs xs ≡ zero_ℚ
unfolding dot
zero_dot [] xs z = refl
zero_dot (c ∷ cs) [] z = refl
zero_dot (c ∷ cs) (x ∷ xs) z = ap (λ s. s +ℚ dot cs xs) (zero_times c x z.0) ∙ +ℚ_idl (dot cs xs) ∙ zero_dot cs xs z.1

unit_dot : (cs xs : List ℚ) → IsUnit cs → AllFit xs → Fits long_limit (dot cs xs)
unfolding dot
unit_dot [] xs u f = nothing_fits
unit_dot (c ∷ cs) [] u f = nothing_fits
unit_dot (c ∷ cs) (x ∷ xs) u f =
    ⊎_elim (λ z. subst (Fits long_limit) (sym (ap (λ s. s +ℚ dot cs xs) (zero_times c x z.0) ∙ +ℚ_idl (dot cs xs)))
    (unit_dot cs xs z.1 f.1))
    (λ o. subst (Fits long_limit) (sym (ap₂ (λ s t. s +ℚ t) (ap (λ d. d *ℚ x) o.0 ∙ *ℚ_idl x) (zero_dot cs xs o.1) ∙ +ℚ_idr x)) f.0) u

column_read : (w k : ℕ) (xs : List ℚ) → AllFit xs → first_wide long_limit (form_reading xs (dense w (column k))) ≡ None
column_read w k xs f =
    let cs = first_entries w (column k).coeffs in
    let sum : dot cs xs +ℚ (column k).constant ≡ dot cs xs = ap (λ s. dot cs xs +ℚ s) (column_constant k) ∙ +ℚ_idr (dot cs xs) in
    first_wide_later long_limit (products_reading zero_ℚ cs xs) (record { op = Add; left = dot cs xs; right = (column k).constant } ∷ [])
    (unit_read zero_ℚ refl cs xs (column_entries w k) f)
    ∙ first_wide_past long_limit (record { op = Add; left = dot cs xs; right = (column k).constant }) []
    (subst (Fits long_limit) (sym sum) (unit_dot cs xs (column_entries w k) f))

columns_read : (w : ℕ) (xs : List ℚ) (ks : List ℕ) → AllFit xs
    → first_wide long_limit (forms_reading (map (dense w) (map column ks)) xs) ≡ None
columns_read w xs [] f = refl
columns_read w xs (k ∷ ks) f =
    first_wide_later long_limit (form_reading xs (dense w (column k))) (forms_reading (map (dense w) (map column ks)) xs)
    (column_read w k xs f) ∙ columns_read w xs ks f

-- ---- the state
state_read : (n : ℕ) (gs : List Form) (w : ℕ) (q : ℚ) (o : Outcome) → w ≡ width n (placed_actions [] gs)
    → first_wide long_limit (reading_operations w q o) ≡ None
    → first_wide long_limit (state_reading n (placed_actions [] gs) o) ≡ None
state_read n gs w q (best x v y) e h =
    let p = none_first (record { op = Add; left = v; right = q }) (entry_operations w x) h in
    let all = subst AllFit (tabulate_same w (λ k. unsplit x (0 + k)) (unsplit x) (λ k l. ap (unsplit x)
    (let f : 0 + k ≡ k = omega arith in f))) (entries_fit x 0 w p.1) in
    ap (λ m. first_wide long_limit (forms_reading (map (dense m) (end_forms n (placed_actions [] gs))) (tabulate m (unsplit x)))) (sym e)
    ∙ ap (λ fs. first_wide long_limit (forms_reading (map (dense w) fs) (tabulate w (unsplit x)))) (plain_ends n gs)
    ∙ columns_read w (tabulate w (unsplit x)) (range_with_len 0 n) all
state_read n gs w q (unbounded x d) e h = refl
state_read n gs w q (empty y) e h = refl

-- reading a state adds no first wide operation
read_as : (os ps : List Operation) → (first_wide long_limit os ≡ None → first_wide long_limit ps ≡ None)
    → first_wide long_limit (os ++ ps) ≡ first_wide long_limit os
read_as os ps h = by (first_wide long_limit os) refl
  where
    by : (o : Option Operation) → first_wide long_limit os ≡ o → first_wide long_limit (os ++ ps) ≡ first_wide long_limit os
    by None e = first_wide_later long_limit os ps e ∙ h e ∙ sym e
    by (Some o) e = first_wide_sooner long_limit os ps o e ∙ sym e

end_is_start : (n : ℕ) (gs : List Form) (start free : List ℚ) → length start ≡ n → end_of n (placed_actions [] gs) (start ++ free) ≡ start
unfolding end_of start_of values ends_from
end_is_start n gs start free e =
    ap (λ fs. values fs (start ++ free))
    (ends_behind n (columns n) [] gs) ∙ start_is n start free e

-- at a point without actions the sides and the state add nothing
pub points_plain : PointsArePlain
points_plain system z p gs forms =
    let n = system.variables in
    let actions = placed_actions [] gs in
    record {
      sides = guards_alone n gs forms;
      reading = read_as (problem_reading system z (placed_edge p [] gs) [])
          (state_reading n actions (lp (whole_problem system z (placed_edge p [] gs) [])))
          (state_read n gs (width n actions) (end_form n actions []).constant (lp (whole_problem system z (placed_edge p [] gs) [])) refl);
      state = λ trace e. end_is_start n gs trace.start trace.free e;
    }
