-- The rows and the multipliers of a source, as far as its first r template rows are taken.
use Rattle.std.proofs.Common.{◌≡◌, ◌∙◌, ℕ, suc, ◌+◌, ◌<◌, ◌≤◌, ℤ, List, [], ◌∷◌, ◌++◌, length, get_or, drop, map, append_assoc, append-nil}
use Rattle.std.proofs.Common.{refl, ap, ap₂, sym, subst, arith, add-zero, zero-add}
use Rattle.std.proofs.lemmas.List.{drop_more, drop_all, get_or-map}
use mathlib.Core.Path.{fun_ext}
use Rattle.base_numbers.specs.Rational.{ℚ, zero_ℚ, neg_ℚ}
use Rattle.base_numbers.specs.Extended.{Ext as Extended, neg_inf, fin, pos_inf, ◌<ᴱ◌}
use Rattle.base_fractions.specs.declared.ext.Ext.{Ext}
use Rattle.base_fractions.specs.declared.ext.Ext.TheVariants.{NegInf, Fin, PosInf}
use Rattle.base_fractions.specs.Extended.{extended}
use Rattle.theory_transformers.specs.Limits.{Limit}
use Rattle.theory_transformers.specs.EdgeProblems.{source_limit, source_limits, guard_limits}
use Rattle.theory_transformers.specs.Spread.{spread_one, spread, skip_one, skip}
use Rattle.theory_validity.specs.Words.{Affine as Form}
use Rattle.solve_composition.specs.declared.affine.Affine.{Affine}
use Rattle.solve_composition.specs.Composed.{dense}
use Rattle.solve_transformer.specs.Splits.{bounds_at, pairs, split_limit, source_row}
use Rattle.solve_transformer.specs.Readings.{finite_one, multiplier_one}
use Rattle.solve_transformer.proofs.split.Pairs.{start_entries}

-- a bound that is read from the source is the bound at its row
pub bound_read : (source : List Ext) (r : ℕ) (x : Ext) → r < length source → x ≡ get_or source r x → bounds_at source r ≡ extended x
bound_read source r x l e = get_or-map extended source r x neg_inf l ∙ ap extended (sym e)

-- a bound other than minus infinity is above minus infinity
above_lost : (x : Ext) → ¬ (x ≡ NegInf) → neg_inf <ᴱ extended x
above_lost NegInf n = absurd (n refl)
above_lost (Fin q) n = tt
above_lost PosInf n = tt

-- a row of the source that is not lost has a bound above minus infinity
pub above_read : (source : List Ext) (r : ℕ) (d : Ext) → r < length source → ¬ (get_or source r d ≡ NegInf) → neg_inf <ᴱ bounds_at source r
above_read source r d l n = subst (λ b. neg_inf <ᴱ b) (sym (get_or-map extended source r d neg_inf l)) (above_lost (get_or source r d) n)

-- the bounds from number r on
abbrev pub later : (ℕ → Extended) → ℕ → ℕ → Extended
later B r k = B (r + k)

-- the bounds from row 0 on are all bounds
later_none : (B : ℕ → Extended) → later B 0 ≡ B
later_none B = fun_ext (λ k. ap B (zero-add k))

later_more : (B : ℕ → Extended) (r : ℕ) → (λ k. later B r (suc k)) ≡ later B (r + 1)
later_more B r = fun_ext (λ k. ap B (let e : r + suc k ≡ r + 1 + k = omega arith in e))

later_first : (B : ℕ → Extended) (r : ℕ) → later B r 0 ≡ B r
later_first B r = ap B (add-zero r)

-- ---- the rows of the problem
-- those of the template rows from number r on
abbrev pub limits_left : ℕ → (ℕ → Extended) → List (List ℤ) → ℕ → List Limit
limits_left n B template r = source_limits (λ k u. u) n (later B r) (drop r template)

source_added : (w n : ℕ) (row : List ℤ) (b : Extended) (rest : List Limit) → length row ≡ n
    → map (split_limit w) (source_limit (λ u. u) n b row rest) ≡ source_row w row b ++ map (split_limit w) rest
unfolding source_limit
source_added w n row neg_inf rest e = refl
source_added w n row (fin c) rest e = ap (λ cs. (let l : Limit = record { coeffs = pairs cs; side = c } in l) ∷ map (split_limit w) rest)
    (start_entries w n row e)
source_added w n row pos_inf rest e = refl

limits_step : (n : ℕ) (B : ℕ → Extended) (template : List (List ℤ)) (r : ℕ) (row : List ℤ) → r < length template
    → row ≡ get_or template r row → limits_left n B template r ≡ source_limit (λ u. u) n (B r) row (limits_left n B template (r + 1))
unfolding source_limits
limits_step n B template r row l e =
    ap (source_limits (λ k u. u) n (later B r)) (drop_more template r row l ∙ ap (λ x. x ∷ drop (r + 1) template) (sym e))
    ∙ ap₂ (λ b f. source_limit (λ u. u) n b row (source_limits (λ k u. u) n f (drop (r + 1) template))) (later_first B r) (later_more B r)

-- the limit of a row, where it has one, stands between those before and those left
pub limits_more : (w n : ℕ) (B : ℕ → Extended) (template : List (List ℤ)) (r : ℕ) (row : List ℤ) (before after all : List Limit)
    → r < length template → row ≡ get_or template r row → length row ≡ n →
    after ≡ before ++ source_row w row (B r) → before ++ map (split_limit w) (limits_left n B template r) ≡ all
    → after ++ map (split_limit w) (limits_left n B template (r + 1)) ≡ all
limits_more w n B template r row before after all l e m a h =
    ap (λ xs. xs ++ map (split_limit w) (limits_left n B template (r + 1))) a
    ∙ append_assoc before (source_row w row (B r)) (map (split_limit w) (limits_left n B template (r + 1)))
    ∙ ap (λ xs. before ++ xs) (sym (ap (map (split_limit w)) (limits_step n B template r row l e)
    ∙ source_added w n row (B r) (limits_left n B template (r + 1)) m)) ∙ h

-- before the first row all limits are left
pub limits_none : (n : ℕ) (B : ℕ → Extended) (template : List (List ℤ)) → limits_left n B template 0 ≡ source_limits (λ k u. u) n B template
limits_none n B template = ap (λ f. source_limits (λ k u. u) n f template) (later_none B)

-- behind the last row no limit is left
pub limits_all : (n : ℕ) (B : ℕ → Extended) (template : List (List ℤ)) (r : ℕ) → length template ≤ r → limits_left n B template r ≡ []
unfolding source_limits
limits_all n B template r l = ap (source_limits (λ k u. u) n (later B r)) (drop_all r template l)

-- ---- the multipliers
-- a point without its first a entries, and without its first
abbrev pub onward : (ℕ → ℚ) → ℕ → ℕ → ℚ
onward y a k = y (a + k)

abbrev behind : (ℕ → ℚ) → ℕ → ℚ
behind y k = y (suc k)

shifted_none : (y : ℕ → ℚ) → onward y 0 ≡ y
shifted_none y = fun_ext (λ k. ap y (zero-add k))

shifted_one : (y : ℕ → ℚ) → behind y ≡ onward y 1
shifted_one y = fun_ext (λ k. ap y (let e : suc k ≡ 1 + k = omega arith in e))

shifted_twice : (y : ℕ → ℚ) (a b : ℕ) → onward (onward y a) b ≡ onward y (a + b)
shifted_twice y a b = fun_ext (λ k. ap y (let e : a + (b + k) ≡ a + b + k = omega arith in e))

spread_cases : (b : Extended) (y : ℕ → ℚ) (rest : (ℕ → ℚ) → List ℚ) → spread_one b y rest
    ≡ multiplier_one b (y 0) ∷ rest (λ k. y (finite_one b + k))
unfolding spread_one
spread_cases neg_inf y rest = ap (λ f. zero_ℚ ∷ rest f) (sym (shifted_none y))
spread_cases (fin c) y rest = ap (λ f. y 0 ∷ rest f) (shifted_one y)
spread_cases pos_inf y rest = ap (λ f. zero_ℚ ∷ rest f) (sym (shifted_none y))

skip_cases : (b : Extended) (y : ℕ → ℚ) (rest : (ℕ → ℚ) → (ℕ → ℚ)) → skip_one b y rest ≡ rest (λ k. y (finite_one b + k))
unfolding skip_one
skip_cases neg_inf y rest = ap rest (sym (shifted_none y))
skip_cases (fin c) y rest = ap rest (shifted_one y)
skip_cases pos_inf y rest = ap rest (sym (shifted_none y))

module _ (B : ℕ → Extended) (template : List (List ℤ)) (r : ℕ) (l : r < length template) where
  next_rows : drop r template ≡ get_or template r [] ∷ drop (r + 1) template
  next_rows = drop_more template r [] l

  spread_step : (y : ℕ → ℚ) → spread (later B r) (drop r template) y ≡ multiplier_one (B r) (y 0)
      ∷ spread (later B (r + 1)) (drop (r + 1) template) (λ k. y (finite_one (B r) + k))
  unfolding spread
  spread_step y =
      ap (λ rows. spread (later B r) rows y) next_rows
      ∙ spread_cases (later B r 0) y (spread (λ k. later B r (suc k)) (drop (r + 1) template))
      ∙ ap₂ (λ b f. multiplier_one b (y 0) ∷ spread f (drop (r + 1) template) (λ k. y (finite_one b + k))) (later_first B r)
      (later_more B r)

  skip_step : (y : ℕ → ℚ) → skip (later B r) (drop r template) y ≡ skip (later B (r + 1)) (drop (r + 1) template)
      (λ k. y (finite_one (B r) + k))
  unfolding skip
  skip_step y =
      ap (λ rows. skip (later B r) rows y) next_rows
      ∙ skip_cases (later B r 0) y (skip (λ k. later B r (suc k)) (drop (r + 1) template))
      ∙ ap₂ (λ b f. skip f (drop (r + 1) template) (λ k. y (finite_one b + k))) (later_first B r) (later_more B r)

  -- one more row
  pub spread_more : (y : ℕ → ℚ) (next more : ℕ) (q m : ℚ) (before after : List ℚ) → q ≡ y next → m ≡ multiplier_one (B r) q
      → more ≡ finite_one (B r) → after ≡ before ++ m ∷ [] →
      spread B template y ≡ before ++ spread (later B r) (drop r template) (λ k. y (next + k))
      → spread B template y ≡ after ++ spread (later B (r + 1)) (drop (r + 1) template) (λ k. y (next + more + k))
  spread_more y next more q m before after a b c d h =
      h ∙ ap (λ xs. before ++ xs) (
      spread_step (λ k. y (next + k))
      ∙ ap₂ (λ x f. x ∷ spread (later B (r + 1)) (drop (r + 1) template) f)
      (ap (λ j. multiplier_one (B r) (y j)) (add-zero next) ∙ ap (multiplier_one (B r)) (sym a) ∙ sym b)
      (shifted_twice y next (finite_one (B r)) ∙ ap (λ j. onward y (next + j)) (sym c))
      )
      ∙ sym (append_assoc before (m ∷ []) (spread (later B (r + 1)) (drop (r + 1) template) (λ k. y (next + more + k))))
      ∙ ap (λ xs. xs ++ spread (later B (r + 1)) (drop (r + 1) template) (λ k. y (next + more + k))) (sym d)

  -- the row at hand skips its own multiplier, where it has one
  pub skip_more : (y : ℕ → ℚ) (count more : ℕ) → more ≡ finite_one (B r)
      → skip B template y ≡ skip (later B r) (drop r template) (λ k. y (count + k))
      → skip B template y ≡ skip (later B (r + 1)) (drop (r + 1) template) (λ k. y (count + more + k))
  skip_more y count more c h =
      h ∙ skip_step (λ k. y (count + k))
      ∙ ap (skip (later B (r + 1)) (drop (r + 1) template)) (shifted_twice y count (finite_one (B r))
      ∙ ap (λ j. onward y (count + j)) (sym c))

-- before the first row all multipliers are left to spread
pub spread_none : (B : ℕ → Extended) (template : List (List ℤ)) (y : ℕ → ℚ)
    → spread B template y ≡ spread (later B 0) template (λ k. y (0 + k))
spread_none B template y = ap₂ (λ f z. spread f template z) (sym (later_none B)) (sym (shifted_none y))

-- before the first row all multipliers are left to skip
pub skip_none : (B : ℕ → Extended) (template : List (List ℤ)) (y : ℕ → ℚ) → skip B template y ≡ skip (later B 0) template (λ k. y (0 + k))
skip_none B template y = ap₂ (λ f z. skip f template z) (sym (later_none B)) (sym (shifted_none y))

-- behind the last row the list is the multipliers that are spread over all rows
pub spread_all : (B : ℕ → Extended) (template : List (List ℤ)) (y z : ℕ → ℚ) (r : ℕ) (list : List ℚ) → length template ≤ r
    → spread B template y ≡ list ++ spread (later B r) (drop r template) z → list ≡ spread B template y
unfolding spread
spread_all B template y z r list l h = sym (h ∙ ap (λ rows. list ++ spread (later B r) rows z) (drop_all r template l) ∙ append-nil list)

-- behind the last row no multiplier is left to skip
pub skip_all : (B : ℕ → Extended) (template : List (List ℤ)) (z : ℕ → ℚ) (r : ℕ) → length template ≤ r
    → skip (later B r) (drop r template) z ≡ z
unfolding skip
skip_all B template z r l = ap (λ rows. skip (later B r) rows z) (drop_all r template l)

-- ---- the guards
pub guards_more : (w : ℕ) (forms : List Form) (i : ℕ) (guard : Affine) (d : Form) (before after all : List Limit) → i < length forms
    → guard ≡ dense w (get_or forms i d) →
    after ≡ before ++ record { coeffs = pairs guard.coeffs; side = neg_ℚ guard.constant } ∷ [] →
    before ++ map (split_limit w) (guard_limits (λ u. u) (drop i forms)) ≡ all
    → after ++ map (split_limit w) (guard_limits (λ u. u) (drop (i + 1) forms)) ≡ all
unfolding guard_limits
guards_more w forms i guard d before after all l e a h =
    ap (λ xs. xs ++ map (split_limit w) (guard_limits (λ u. u) (drop (i + 1) forms))) a
    ∙ append_assoc before (record { coeffs = pairs guard.coeffs; side = neg_ℚ guard.constant } ∷ [])
    (map (split_limit w) (guard_limits (λ u. u) (drop (i + 1) forms)))
    ∙ ap (λ (g : Affine). before ++ (let m : Limit = record { coeffs = pairs g.coeffs; side = neg_ℚ g.constant } in m)
    ∷ map (split_limit w) (guard_limits (λ u. u) (drop (i + 1) forms))) e
    ∙ ap (λ fs. before ++ map (split_limit w) (guard_limits (λ u. u) fs)) (sym (drop_more forms i d l)) ∙ h

-- behind the last form the list of guard limits is complete
pub guards_none : (w : ℕ) (forms : List Form) (i : ℕ) (list : List Limit) → length forms ≤ i
    → list ++ map (split_limit w) (guard_limits (λ u. u) (drop i forms)) ≡ list
unfolding guard_limits
guards_none w forms i list l = ap (λ fs. list ++ map (split_limit w) (guard_limits (λ u. u) fs)) (drop_all i forms l) ∙ append-nil list

-- each guard has one limit
pub length-guard_limits : (gs : List Form) → length (guard_limits (λ u. u) gs) ≡ length gs
unfolding guard_limits
length-guard_limits [] = refl
length-guard_limits (g ∷ gs) = ap suc (length-guard_limits gs)

-- ---- how many rows a source has
one_size : (n m : ℕ) (b : Extended) (row : List ℤ) (rest more : List Limit) → length rest ≡ length more
    → length (source_limit (λ u. u) n b row rest) ≡ length (source_limit (λ u. u) m b row more)
unfolding source_limit
one_size n m neg_inf row rest more e = e
one_size n m (fin c) row rest more e = ap suc e
one_size n m pos_inf row rest more e = e

-- the number of limits of a source does not depend on the number of variables
pub sizes_same : (n m : ℕ) (B : ℕ → Extended) (template : List (List ℤ))
    → length (source_limits (λ k u. u) n B template) ≡ length (source_limits (λ k u. u) m B template)
unfolding source_limits
sizes_same n m B [] = refl
sizes_same n m B (row ∷ rows) = one_size n m (B 0) row (source_limits (λ k u. u) n (λ r. B (suc r)) rows)
    (source_limits (λ k u. u) m (λ r. B (suc r)) rows) (sizes_same n m (λ r. B (suc r)) rows)

one_few : (n : ℕ) (b : Extended) (row : List ℤ) (rest : List Limit) → length (source_limit (λ u. u) n b row rest) ≤ suc (length rest)
unfolding source_limit
one_few n neg_inf row rest = omega arith
one_few n (fin c) row rest = omega arith
one_few n pos_inf row rest = omega arith

-- a source has at most as many limits as the template has rows
pub limits_few : (n : ℕ) (B : ℕ → Extended) (template : List (List ℤ)) → length (source_limits (λ k u. u) n B template) ≤ length template
unfolding source_limits
limits_few n B [] = omega arith
limits_few n B (row ∷ rows) = let h = limits_few n (λ r. B (suc r)) rows in
    let f = one_few n (B 0) row (source_limits (λ k u. u) n (λ r. B (suc r)) rows) in omega (arith, h, f)
