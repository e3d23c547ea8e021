-- The least vector of int x = 0; while (x < 100) { x = x + 1; } over the rows x and -x, from the definitions alone.
use Rattle.std.proofs.Common.{◌≡◌, inl, inr, ⊎_elim, ℕ, zero, suc, ◌<◌, List, [], ◌∷◌, length, refl, sym, subst, arith}
use Rattle.std.specs.Prelude.{ℤ, pos, negsuc, slice_get, Some}
use Rattle.base_facts.specs.Elements.{In}
use Rattle.base_numbers.specs.Rational.{ℚ, whole, zero_ℚ, ◌≤ℚ◌, ◌<ℚ◌}
use Rattle.base_numbers.specs.Extended.{Ext, neg_inf, fin, pos_inf, ◌≤ᴱ◌, ◌<ᴱ◌}
use Rattle.base_numbers.proofs.rational.Laws.{≤ℚ_refl, le_or_lt, le_of_lt_ℚ}
use Rattle.base_numbers.proofs.extended.ExtendedLaws.{≤ᴱ_trans}
use Rattle.base_numbers.proofs.tactics.Linarith.{lin_le, lin_eq, le, reads_all}
use Rattle.lang_tree.specs.Meaning.{put}
use Rattle.flow_edges.specs.declared.edge.Action.TheVariants.{Guard, Assign}
use Rattle.flow_edges.specs.declared.edge.Edge.{Edge}
use Rattle.flow_edges.proofs.steps.ElementLemmas.{in_contains, contains_in}
use Rattle.flow_edges.proofs.points.Examples.{form, minus_one, edge, counting}
use Rattle.flow_systems.specs.States.{RationalState, dotℚ, valueℚ, Traces}
use Rattle.flow_systems.specs.Equations.{Equations, Vector, Fits, Transition, PostSolution, Exceeds, Least}
use Rattle.flow_systems.specs.Solutions.{equations_of_program}

abbrev intervals : List (List ℤ)
intervals = (pos 1 ∷ []) ∷ ((minus_one ∷ []) ∷ [])

abbrev system : Equations
system = equations_of_program 1 counting intervals

abbrev enter : Edge
enter = edge 0 1 (Assign 0 (form (pos 0) (pos 0)) ∷ [])

abbrev again : Edge
again = edge 1 1 (Guard (form (pos 1) (negsuc 98)) ∷ (Assign 0 (form (pos 1) (pos 1)) ∷ []))

abbrev leave : Edge
leave = edge 1 2 (Guard (form minus_one (pos 100)) ∷ [])

-- entry [+inf, +inf], loop [100, 0], exit [100, -100]
abbrev bounds : Vector
bounds zero r = pos_inf
bounds (suc zero) zero = fin (whole (pos 100))
bounds (suc zero) (suc r) = fin (whole (pos 0))
bounds (suc (suc p)) zero = fin (whole (pos 100))
bounds (suc (suc p)) (suc r) = fin (whole (negsuc 99))

-- ---- states of one variable
one_value : (x : RationalState) → length x ≡ 1 → (q : ℚ) × (q ∷ [] ≡ x)
one_value [] e = absurd (omega (arith, e))
one_value (q ∷ []) e = (q, refl)
one_value (q ∷ (r ∷ x)) e = absurd (omega (arith, e))

row_same : (s t : List ℤ) → Some s ≡ Some t → s ≡ t
row_same s t e = cc

-- a state fits where its two rows do
both_fit : (v : Vector) (p : ℕ) (x : RationalState) → fin (dotℚ (pos 1 ∷ []) x) ≤ᴱ v p 0 → fin (dotℚ (minus_one ∷ []) x) ≤ᴱ v p 1
    → Fits system v p x
both_fit v p x a b zero row e = subst (λ s. fin (dotℚ s x) ≤ᴱ v p 0) (row_same (pos 1 ∷ []) row e) a
both_fit v p x a b (suc zero) row e = subst (λ s. fin (dotℚ s x) ≤ᴱ v p 1) (row_same (minus_one ∷ []) row e) b
both_fit v p x a b (suc (suc r)) row e = cc

-- ---- it is a post-solution
enters : (x y : RationalState) → Transition system bounds enter x y → Fits system bounds 1 y
enters x y t =
    let s = one_value x t.starts in
    let f = form (pos 0) (pos 0) in
    let end : y ≡ valueℚ f (s.0 ∷ []) ∷ [] = subst (λ z. y ≡ put zero_ℚ z 0 (valueℚ f z)) (sym s.1) t.trace in
    subst (λ z. Fits system bounds 1 z) (sym end)
    (both_fit bounds 1 (valueℚ f (s.0 ∷ []) ∷ []) (lin_le (s.0 ∷ []) [] (search reads_all depth 40) tt)
    (lin_le (s.0 ∷ []) [] (search reads_all depth 40) tt))

goes_again : (x y : RationalState) → Transition system bounds again x y → Fits system bounds 1 y
goes_again x y t =
    let s = one_value x t.starts in
    let q = s.0 in
    let at_q : RationalState → Type 0 = λ z. (valueℚ (form (pos 1) (negsuc 98)) z ≤ℚ zero_ℚ)
    × (y ≡ put zero_ℚ z 0 (valueℚ (form (pos 1) (pos 1)) z)) in
    let trace = subst at_q (sym s.1) t.trace in
    let fits = subst (λ z. Fits system bounds 1 z) (sym s.1) t.fits in
    let low = fits 1 (minus_one ∷ []) refl in
    let guard = trace.0 in
    subst (λ z. Fits system bounds 1 z) (sym trace.1)
    (both_fit bounds 1 (valueℚ (form (pos 1) (pos 1)) (q ∷ []) ∷ [])
    (lin_le (q ∷ []) (le guard ∷ []) (search reads_all depth 40) tt) (lin_le (q ∷ []) (le low ∷ []) (search reads_all depth 40) tt))

leaves : (x y : RationalState) → Transition system bounds leave x y → Fits system bounds 2 y
leaves x y t =
    let s = one_value x t.starts in
    let q = s.0 in
    let at_q : RationalState → Type 0 = λ z. (valueℚ (form minus_one (pos 100)) z ≤ℚ zero_ℚ) × (y ≡ z) in
    let trace = subst at_q (sym s.1) t.trace in
    let fits = subst (λ z. Fits system bounds 1 z) (sym s.1) t.fits in
    let high = fits 0 (pos 1 ∷ []) refl in
    let guard = trace.0 in
    subst (λ z. Fits system bounds 2 z) (sym trace.1)
    (both_fit bounds 2 (q ∷ []) (lin_le (q ∷ []) (le high ∷ []) (search reads_all depth 40) tt)
    (lin_le (q ∷ []) (le guard ∷ []) (search reads_all depth 40) tt))

abbrev Closed : Edge → Type 0
Closed e = (x y : RationalState) → Transition system bounds e x y → Fits system bounds e.to y

one_of_three : (e : Edge) → In (enter ∷ (again ∷ (leave ∷ []))) e → Closed e
one_of_three e m =
    ⊎_elim (λ k. subst Closed k enters) (λ n. ⊎_elim (λ k. subst Closed k goes_again)
    (λ l. ⊎_elim (λ k. subst Closed k leaves) (λ o. absurd o) l) n) m

post : PostSolution system bounds
post = record { entry = λ r h. refl; closed = λ e x y t. one_of_three e (contains_in (enter ∷ (again ∷ (leave ∷ []))) e t.listed) x y t }

-- ---- it solves the system
-- a transition from one value to another, at any vector that the first fits
moves : (v : Vector) (e : Edge) (x y : RationalState) → In (enter ∷ (again ∷ (leave ∷ []))) e → length x ≡ 1 → Fits system v e.from x
    → Traces e.actions x y → Transition system v e x y
moves v e x y m size fits trace = record {
  listed = in_contains (enter ∷ (again ∷ (leave ∷ []))) e m;
  starts = size;
  fits = fits;
  trace =
      trace;
}

abbrev at : ℚ → RationalState
at q = q ∷ []

-- the ends of the edges
abbrev entered : RationalState
entered = valueℚ (form (pos 0) (pos 0)) (at zero_ℚ) ∷ []

abbrev next_of : ℚ → RationalState
next_of q = valueℚ (form (pos 1) (pos 1)) (at q) ∷ []

moves_in : (v : Vector) → Fits system v 0 (at zero_ℚ) → Transition system v enter (at zero_ℚ) entered
moves_in v fits = moves v enter (at zero_ℚ) entered (inl refl) refl fits refl

moves_again : (v : Vector) (q : ℚ) → q ≤ℚ whole (pos 99) → Fits system v 1 (at q) → Transition system v again (at q) (next_of q)
moves_again v q h fits = moves v again (at q) (next_of q) (inr (inl refl)) refl fits
    (lin_le (q ∷ []) (le h ∷ []) (search reads_all depth 40) tt, refl)

moves_out : (v : Vector) (q : ℚ) → whole (pos 100) ≤ℚ q → Fits system v 1 (at q) → Transition system v leave (at q) (at q)
moves_out v q h fits = moves v leave (at q) (at q) (inr (inr (inl refl))) refl fits
    (lin_le (q ∷ []) (le h ∷ []) (search reads_all depth 40) tt, refl)

-- a number below a bound is exceeded by a transition whose end has the bound as the row's value
shown : (p : ℕ) (row other : List ℤ) (number : Ext) (c : ℚ) (e : Edge) (x y : RationalState) → e.to ≡ p → Some other ≡ Some row
    → Transition system bounds e x y →
    dotℚ other y ≡ c → number <ᴱ fin c → Exceeds system bounds p row number
shown p row other number c e x y into listed t value smaller =
    record {
      edge = e;
      before = x;
      after = y;
      into = into;
      transition = t;
      exceeds = subst (λ s. number <ᴱ fin (dotℚ s y)) (row_same other row listed) (subst (λ z. number <ᴱ fin z) (sym value) smaller);
    }

at_entry : (x : RationalState) → Fits system bounds 0 x
at_entry x = both_fit bounds 0 x tt tt

high_at : Fits system bounds 1 (at (whole (pos 99)))
high_at = both_fit bounds 1 (at (whole (pos 99))) (lin_le [] [] (search reads_all depth 40) tt)
    (lin_le [] [] (search reads_all depth 40) tt)

top_at : Fits system bounds 1 (at (whole (pos 100)))
top_at = both_fit bounds 1 (at (whole (pos 100))) (lin_le [] [] (search reads_all depth 40) tt)
    (lin_le [] [] (search reads_all depth 40) tt)

supported : (p r : ℕ) (row : List ℤ) (number : Ext) → 0 < p → p < 3 → slice_get intervals r ≡ Some row → number <ᴱ bounds p r
    → Exceeds system bounds p row number
supported zero r row number later within listed smaller = absurd (omega (arith, later))
supported (suc zero) zero row number later within listed smaller =
    shown 1 row (pos 1 ∷ []) number (whole (pos 100)) again (at (whole (pos 99))) (next_of (whole (pos 99))) refl listed
    (moves_again bounds (whole (pos 99)) (lin_le [] [] (search reads_all depth 40) tt) high_at)
    (lin_eq [] [] (search reads_all depth 40) tt) smaller
supported (suc zero) (suc zero) row number later within listed smaller =
    shown 1 row (minus_one ∷ []) number (whole (pos 0)) enter (at zero_ℚ) entered refl listed (moves_in bounds (at_entry (at zero_ℚ)))
    (lin_eq [] [] (search reads_all depth 40) tt) smaller
supported (suc zero) (suc (suc r)) row number later within listed smaller = cc
supported (suc (suc zero)) zero row number later within listed smaller =
    shown 2 row (pos 1 ∷ []) number (whole (pos 100)) leave (at (whole (pos 100))) (at (whole (pos 100))) refl listed
    (moves_out bounds (whole (pos 100)) (lin_le [] [] (search reads_all depth 40) tt) top_at) (lin_eq [] [] (search reads_all depth 40) tt)
    smaller
supported (suc (suc zero)) (suc zero) row number later within listed smaller =
    shown 2 row (minus_one ∷ []) number (whole (negsuc 99)) leave (at (whole (pos 100))) (at (whole (pos 100))) refl listed
    (moves_out bounds (whole (pos 100)) (lin_le [] [] (search reads_all depth 40) tt) top_at) (lin_eq [] [] (search reads_all depth 40) tt)
    smaller
supported (suc (suc zero)) (suc (suc r)) row number later within listed smaller = cc
supported (suc (suc (suc p))) r row number later within listed smaller = absurd (omega (arith, within))

-- ---- it is at most every post-solution
module _ (w : Vector) (other : PostSolution system w) where
  entry_fits : (x : RationalState) → Fits system w 0 x
  entry_fits x = both_fit w 0 x (subst (λ b. fin (dotℚ (pos 1 ∷ []) x) ≤ᴱ b) (sym (other.entry 0 (omega arith))) tt)
      (subst (λ b. fin (dotℚ (minus_one ∷ []) x) ≤ᴱ b) (sym (other.entry 1 (omega arith))) tt)

  entered_fits : Fits system w 1 entered
  entered_fits = other.closed enter (at zero_ℚ) entered (moves_in w (entry_fits (at zero_ℚ)))

  -- 0 is at most either bound at the loop
  zero_below : fin (whole (pos 0)) ≤ᴱ w 1 0
  zero_below =
      let e : dotℚ (pos 1 ∷ []) entered ≡ whole (pos 0) = lin_eq [] [] (search reads_all depth 40) tt in
      subst (λ q. fin q ≤ᴱ w 1 0) e (entered_fits 0 (pos 1 ∷ []) refl)

  zero_above : fin (whole (pos 0)) ≤ᴱ w 1 1
  zero_above =
      let e : dotℚ (minus_one ∷ []) entered ≡ whole (pos 0) = lin_eq [] [] (search reads_all depth 40) tt in
      subst (λ q. fin q ≤ᴱ w 1 1) e (entered_fits 1 (minus_one ∷ []) refl)

  -- a state from 0 up to the bound fits at the loop
  between : (q : ℚ) → whole (pos 0) ≤ℚ q → fin q ≤ᴱ w 1 0 → Fits system w 1 (at q)
  between q h below =
      let e : q ≡ dotℚ (pos 1 ∷ []) (at q) = lin_eq (q ∷ []) [] (search reads_all depth 40) tt in
      let l : dotℚ (minus_one ∷ []) (at q) ≤ℚ whole (pos 0) = lin_le (q ∷ []) (le h ∷ []) (search reads_all depth 40) tt in
      both_fit w 1 (at q) (subst (λ z. fin z ≤ᴱ w 1 0) e below) (≤ᴱ_trans (fin (dotℚ (minus_one ∷ []) (at q))) (fin (whole (pos 0))) (w 1 1)
      l zero_above)

  -- one more than a state that may go on is at most the bound
  one_more : (q : ℚ) → whole (pos 0) ≤ℚ q → q ≤ℚ whole (pos 99) → fin q ≤ᴱ w 1 0 → fin (dotℚ (pos 1 ∷ []) (next_of q)) ≤ᴱ w 1 0
  one_more q h k below = other.closed again (at q) (next_of q) (moves_again w q k (between q h below)) 0 (pos 1 ∷ []) refl

  bounded : (b q : ℚ) → w 1 0 ≡ fin b → whole (pos 0) ≤ℚ q → q ≤ℚ whole (pos 99) → q ≤ℚ b → dotℚ (pos 1 ∷ []) (next_of q) ≤ℚ b
  bounded b q e h k below = subst (λ z. fin (dotℚ (pos 1 ∷ []) (next_of q)) ≤ᴱ z) e (one_more q h k (subst (λ z. fin q ≤ᴱ z) (sym e) below))

  hundred : fin (whole (pos 100)) ≤ᴱ w 1 0
  hundred = by (w 1 0) refl
    where
      small : (b : ℚ) → w 1 0 ≡ fin b → whole (pos 0) ≤ℚ b → b ≤ℚ whole (pos 99) → whole (pos 100) ≤ℚ b
      small b e low h = let k = bounded b b e low h (≤ℚ_refl b) in lin_le (b ∷ []) (le k ∷ []) (search reads_all depth 40) tt

      large : (b : ℚ) → w 1 0 ≡ fin b → whole (pos 99) <ℚ b → whole (pos 100) ≤ℚ b
      large b e h =
          let zero_le : whole (pos 0) ≤ℚ whole (pos 99) = lin_le [] [] (search reads_all depth 40) tt in
          let k = bounded b (whole (pos 99)) e zero_le (≤ℚ_refl (whole (pos 99))) (le_of_lt_ℚ h) in
          lin_le (b ∷ []) (le k ∷ []) (search reads_all depth 40) tt

      by : (b : Ext) → w 1 0 ≡ b → fin (whole (pos 100)) ≤ᴱ w 1 0
      by neg_inf e = absurd (subst (λ b. fin (whole (pos 0)) ≤ᴱ b) e zero_below)
      by pos_inf e = subst (λ b. fin (whole (pos 100)) ≤ᴱ b) (sym e) tt
      by (fin b) e =
          let low : whole (pos 0) ≤ℚ b = subst (λ z. fin (whole (pos 0)) ≤ᴱ z) e zero_below in
          subst (λ z. fin (whole (pos 100)) ≤ᴱ z) (sym e) (⊎_elim (small b e low) (large b e) (le_or_lt b (whole (pos 99))))

  out_fits : Fits system w 2 (at (whole (pos 100)))
  out_fits =
      let zero_le : whole (pos 0) ≤ℚ whole (pos 100) = lin_le [] [] (search reads_all depth 40) tt in
      other.closed leave (at (whole (pos 100))) (at (whole (pos 100)))
      (moves_out w (whole (pos 100)) (≤ℚ_refl (whole (pos 100))) (between (whole (pos 100)) zero_le hundred))

  below : (p r : ℕ) → p < 3 → r < 2 → bounds p r ≤ᴱ w p r
  below zero r h k = subst (λ b. pos_inf ≤ᴱ b) (sym (other.entry r k)) tt
  below (suc zero) zero h k = hundred
  below (suc zero) (suc zero) h k = zero_above
  below (suc zero) (suc (suc r)) h k = absurd (omega (arith, k))
  below (suc (suc zero)) zero h k =
      let e : dotℚ (pos 1 ∷ []) (at (whole (pos 100))) ≡ whole (pos 100) = lin_eq [] [] (search reads_all depth 40) tt in
      subst (λ q. fin q ≤ᴱ w 2 0) e (out_fits 0 (pos 1 ∷ []) refl)
  below (suc (suc zero)) (suc zero) h k =
      let e : dotℚ (minus_one ∷ []) (at (whole (pos 100))) ≡ whole (negsuc 99) = lin_eq [] [] (search reads_all depth 40) tt in
      subst (λ q. fin q ≤ᴱ w 2 1) e (out_fits 1 (minus_one ∷ []) refl)
  below (suc (suc zero)) (suc (suc r)) h k = absurd (omega (arith, k))
  below (suc (suc (suc p))) r h k = absurd (omega (arith, h))

-- these bounds are least
counting_least : Least system bounds
counting_least = record { solves = record { post = post; supported = supported }; below = λ w other p r h k. below w other p r h k }
