-- There is at most one least vector; it has no bound that could be smaller; it is -inf at all rows of a point or at none.
use Rattle.std.proofs.Common.{◌≡◌, ◌∙◌, ◌⊎◌, inl, inr, ⊎_elim, ℕ, zero, suc, ◌<◌, ◌&&◌, List, [], ◌∷◌, length, eqb, refl, sym, subst, arith}
use Rattle.std.proofs.lemmas.Bool.{eq-eqb}
use Rattle.std.proofs.lemmas.Bool.Decides.{eqb_tells}
use Rattle.std.specs.Prelude.{ℤ, slice_get, Some, if◌then◌else◌}
use Rattle.std.proofs.lemmas.Option.{slice_get_within}
use Rattle.base_numbers.specs.Extended.{Ext, neg_inf, fin, pos_inf, ◌≤ᴱ◌, ◌<ᴱ◌}
use Rattle.base_numbers.proofs.extended.ExtendedLaws.{≤ᴱ_refl, ≤ᴱ_trans, ≤ᴱ_antisymm, ext_le_or_lt, ext_le_of_lt, ext_not_le_of_lt}
use Rattle.flow_edges.specs.declared.edge.Edge.{Edge}
use Rattle.flow_systems.specs.States.{RationalState, dotℚ}
use Rattle.flow_systems.specs.Equations.{Equations, Vector, Fits, Transition, PostSolution, Exceeds, Solves}
use Rattle.flow_systems.specs.SolutionLaws.{AtMostOneLeast, LeastSolutionsAreSupported, LeastWhereDecided, UnreachedAtAllRows}

-- there is at most one least vector, and it is any that solves the system and is at most every post-solution
pub at_most_one : AtMostOneLeast
at_most_one system v w least solves below p r h i = ≤ᴱ_antisymm (v p r) (w p r) (least.below w solves.post p r h i)
    (below v least.solves.post p r h i)

row_at : (rows : List (List ℤ)) (r : ℕ) → r < length rows → (row : List ℤ) × (slice_get rows r ≡ Some row)
row_at [] r h = absurd (omega (arith, h))
row_at (row ∷ rows) zero h = (row, refl)
row_at (row ∷ rows) (suc r) h = row_at rows r (omega (arith, h))

-- what is at least a fraction isn't -inf
not_neg_inf : (a : Ext) (b : Ext) → neg_inf <ᴱ a → a ≤ᴱ b → ¬ (b ≡ neg_inf)
not_neg_inf neg_inf b h i e = h
not_neg_inf (fin q) b h i e = subst (λ x. fin q ≤ᴱ x) e i
not_neg_inf pos_inf b h i e = subst (λ x. pos_inf ≤ᴱ x) e i

-- ---- -inf at all rows or at none
transition_above : (system : Equations) (v : Vector) (p r s : ℕ) (row : List ℤ) → Solves system v → 0 < p → p < system.points
    → slice_get system.template r ≡ Some row →
    s < length system.template → v p s ≡ neg_inf → ¬ (neg_inf <ᴱ v p r)
transition_above system v p r s row solves later within listed h e above =
    let x = solves.supported p r row neg_inf later within listed above in
    let other = row_at system.template s h in
    let fits = solves.post.closed x.edge x.before x.after x.transition s other.0 other.1 in
    not_neg_inf (fin (dotℚ other.0 x.after)) (v x.edge.to s) tt fits (subst (λ q. v q s ≡ neg_inf) (sym x.into) e)

not_above : (a : Ext) → ¬ (neg_inf <ᴱ a) → a ≡ neg_inf
not_above neg_inf h = refl
not_above (fin q) h = absurd (h tt)
not_above pos_inf h = absurd (h tt)

-- a bound of a solution at a point is -inf for all rows or for none
pub unreached_law : UnreachedAtAllRows
unreached_law system v solves zero r s within h i e =
    let top = solves.post.entry r h in
    let differ : ⊥ = cc in
    absurd differ
unreached_law system v solves (suc p) r s within h i e =
    let row = row_at system.template s i in
    not_above (v (suc p) s) (transition_above system v (suc p) s r row.0 solves (omega arith) within row.1 h e)

-- ---- no smaller bound would do
-- a vector with one bound lowered
abbrev lowered : Vector → ℕ → ℕ → Ext → Vector
lowered v p r number q s = if eqb q p && eqb s r then number else v q s

lowered_cases : (v : Vector) (p r : ℕ) (number : Ext) (q s : ℕ) → ((q ≡ p) × (s ≡ r) × (lowered v p r number q s ≡ number))
    ⊎ (lowered v p r number q s ≡ v q s)
lowered_cases v p r number q s =
    ⊎_elim
    (λ a. ⊎_elim (λ b. inl (a.1, b.1, rw (a.0, b.0) refl)) (λ b. inr (rw (a.0, b.0) refl)) (eqb_tells s r))
    (λ a. inr (rw a.0 refl))
    (eqb_tells q p)

lowered_itself : (v : Vector) (p r : ℕ) (number : Ext) → lowered v p r number p r ≡ number
lowered_itself v p r number = rw (eq-eqb p p refl, eq-eqb r r refl) refl

module _ (system : Equations) (v : Vector) (post : PostSolution system v) (p r : ℕ) (row : List ℤ) (number : Ext)
    (later : 0 < p) (listed : slice_get system.template r ≡ Some row) (smaller : number <ᴱ v p r)
    (never : ¬ (Exceeds system v p row number)) where
  lowered_below : (q s : ℕ) → lowered v p r number q s ≤ᴱ v q s
  lowered_below q s =
      ⊎_elim (λ a. subst (λ x. x ≤ᴱ v q s) (sym a.2) (subst (λ k. number ≤ᴱ v k s) (sym a.0)
      (subst (λ k. number ≤ᴱ v p k) (sym a.1) (ext_le_of_lt number (v p r) smaller))))
      (λ e. subst (λ x. x ≤ᴱ v q s) (sym e) (≤ᴱ_refl (v q s))) (lowered_cases v p r number q s)

  lowered_fits : (q : ℕ) (x : RationalState) → Fits system (lowered v p r number) q x → Fits system v q x
  lowered_fits q x fits s other at_s = ≤ᴱ_trans (fin (dotℚ other x)) (lowered v p r number q s) (v q s) (fits s other at_s)
      (lowered_below q s)

  lowered_entry : (s : ℕ) → s < length system.template → lowered v p r number 0 s ≡ pos_inf
  lowered_entry s h = ⊎_elim (λ a. absurd (omega (arith, a.0))) (λ e. e ∙ post.entry s h) (lowered_cases v p r number 0 s)

  same_row : (s : ℕ) (other : List ℤ) → s ≡ r → slice_get system.template s ≡ Some other → other ≡ row
  same_row s other e at_s = let at_r = subst (λ k. slice_get system.template k ≡ Some other) e at_s in cc

  -- at the lowered bound
  never_above : (edge : Edge) (x y : RationalState) → Transition system v edge x y → edge.to ≡ p → fin (dotℚ row y) ≤ᴱ number
  never_above edge x y t into =
      ⊎_elim (λ h. h) (λ h. absurd (never (record { edge = edge; before = x; after = y; into = into; transition = t; exceeds = h })))
      (ext_le_or_lt (fin (dotℚ row y)) number)

  lowered_closed : (edge : Edge) (x y : RationalState) → Transition system (lowered v p r number) edge x y
      → Fits system (lowered v p r number) edge.to y
  lowered_closed edge x y t s other at_s =
      let u : Transition system v edge x y = record {
        listed = t.listed;
        starts = t.starts;
        fits = lowered_fits edge.from x t.fits;
        trace =
            t.trace;
      } in
      ⊎_elim
      (λ a. subst (λ b. fin (dotℚ other y) ≤ᴱ b) (sym a.2) (subst (λ o. fin (dotℚ o y) ≤ᴱ number) (sym (same_row s other a.1 at_s))
      (never_above edge x y u a.0)))
      (λ e. subst (λ b. fin (dotℚ other y) ≤ᴱ b) (sym e) (post.closed edge x y u s other at_s))
      (lowered_cases v p r number edge.to s)

  lowered_post : PostSolution system (lowered v p r number)
  lowered_post = record { entry = lowered_entry; closed = lowered_closed }

-- where a post-solution is at most every post-solution, no number below a bound can do for it
pub supported_law : LeastSolutionsAreSupported
supported_law system v post below p r row number later within listed smaller never =
    let under = below (lowered v p r number) (lowered_post system v post p r row number later listed smaller never) p r within
    (slice_get_within system.template r row listed) in
    ext_not_le_of_lt number (v p r) smaller (subst (λ x. v p r ≤ᴱ x) (lowered_itself v p r number) under)

-- a post-solution at most every post-solution is least where it is decided whether transitions exceed numbers
pub decided_law : LeastWhereDecided
decided_law system v post below decides =
    record {
      solves = record {
        post = post;
        supported = λ p r row number later within listed smaller.
            ⊎_elim (λ x. x) (λ n. absurd (supported_law system v post below p r row number later within listed smaller n))
            (decides p row number);
      };
      below = below;
    }
