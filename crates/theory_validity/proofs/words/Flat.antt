-- Flatness: where a bound of an edge did not move while some source bounds rose, it holds whatever those become.
use Rattle.std.proofs.Common.{◌≡◌, ⊎_elim, ℕ, zero, suc, List, [], ◌∷◌, refl, sym, ap, subst}
use Rattle.std.specs.Prelude.{ℤ, slice_get, Some}
use Rattle.std.proofs.lemmas.Option.{slice_get_within}
use Rattle.base_numbers.specs.Rational.{ℚ, zero_ℚ, one_ℚ, ◌+ℚ◌, ◌-ℚ◌, ◌*ℚ◌, ◌≤ℚ◌, ◌<ℚ◌}
use Rattle.base_numbers.specs.Extended.{Ext, neg_inf, fin, pos_inf, ◌≤ᴱ◌}
use Rattle.base_numbers.proofs.rational.Laws.{≤ℚ_refl, ≤ℚ_trans, ≤ℚ_total, ≤ℚ_antisymm, *ℚ_pos, le_or_lt, le_of_lt_ℚ, le_of_not_lt_ℚ}
use Rattle.base_numbers.proofs.rational.Laws.{lt_of_not_le_ℚ, zero_lt_one}
use Rattle.base_numbers.proofs.tactics.Linear.{gap, gap_lt, ◌⊗◌}
use Rattle.base_numbers.proofs.tactics.Linarith.{lin_false, le, lt, eq, ge0, gt0, reads_all}
use Rattle.flow_systems.specs.States.{RationalState, dotℚ}
use Rattle.flow_systems.specs.Equations.{Equations, Vector, Fits}
use Rattle.flow_edges.specs.declared.edge.Edge.{Edge}
use Rattle.theory_validity.specs.Words.{Word, start_of, Passes, mix}
use Rattle.theory_validity.specs.Steps.{Below, Runs, end_value, Upper}
use Rattle.theory_validity.proofs.words.WordLaws.{start-mix, end-mix, passes_mix}
use Rattle.theory_validity.proofs.certificates.StepNumbers.{mix_le, share, Part, share_is, before_share}

-- a step above 0 and at most 1 within which a mixed value stays at most a bound
abbrev Room : (ℚ → Type 0) → Type 0
Room Stays = (t : ℚ) × (zero_ℚ <ℚ t) × (t ≤ℚ one_ℚ) × ((s : ℚ) → zero_ℚ ≤ℚ s → s ≤ℚ t → Stays s)

abbrev mixed : ℚ → ℚ → ℚ → ℚ
mixed s x y = (one_ℚ -ℚ s) *ℚ x +ℚ s *ℚ y

full : {Stays : ℚ → Type 0} → ((s : ℚ) → zero_ℚ ≤ℚ s → s ≤ℚ one_ℚ → Stays s) → Room Stays
full h = (one_ℚ, zero_lt_one, ≤ℚ_refl one_ℚ, h)

-- from a value at most a to one above b, where a < b
some_room : (a b x y : ℚ) → a <ℚ b → b <ℚ y → x ≤ℚ a → Room (λ s. fin (mixed s x y) ≤ᴱ fin b)
some_room a b x y h i k =
    let part = share_is a b y (le_of_lt_ℚ h) i in
    let t = share a b y in
    let wide : a ≤ℚ y = ≤ℚ_trans (le_of_lt_ℚ h) (le_of_lt_ℚ i) in (
      t,
      lt_of_not_le_ℚ (λ l. positive t part l),
      le_of_lt_ℚ part.below_one,
      λ s j l. before_share s t a b y x y j (≤ℚ_trans l (le_of_lt_ℚ part.below_one)) l part wide k (≤ℚ_refl y),
    )
  where
    positive : (t : ℚ) → Part a b y t → t ≤ℚ zero_ℚ → ⊥
    positive t p l = lin_false (t ∷ a ∷ b ∷ y ∷ []) (ge0 (gap l ⊗ gap (≤ℚ_trans (le_of_lt_ℚ h) (le_of_lt_ℚ i))) ∷ eq p.times ∷ lt h ∷ [])
        (search reads_all depth 40) tt

-- at one row, with the bounds v before and u after
row_room : (v u : Ext) (x y : ℚ) → fin x ≤ᴱ v → v ≤ᴱ u → (v ≡ u → fin y ≤ᴱ v) → Room (λ s. fin (mixed s x y) ≤ᴱ u)
row_room neg_inf u x y h i k = absurd h
row_room (fin a) neg_inf x y h i k = absurd i
row_room (fin a) (fin b) x y h i k =
    ⊎_elim
    (λ l. let e : a ≡ b = ≤ℚ_antisymm i l in full (λ s j m. mix_le s x y (fin b) j m (≤ℚ_trans h i) (subst (λ c. y ≤ℚ c) e (k (ap fin e)))))
    (λ l. ⊎_elim (λ m. full (λ s j n. mix_le s x y (fin b) j n (≤ℚ_trans h i) m)) (λ m. some_room a b x y l m h) (le_or_lt y b))
    (le_or_lt b a)
row_room (fin a) pos_inf x y h i k = full (λ s j m. tt)
row_room pos_inf neg_inf x y h i k = absurd i
row_room pos_inf (fin b) x y h i k = absurd i
row_room pos_inf pos_inf x y h i k = full (λ s j m. tt)

-- within two rooms
both_rooms : {A B : ℚ → Type 0} → Room A → Room B → Room (λ s. A s × B s)
both_rooms {A} {B} a b = ⊎_elim
    (λ l. (a.0, a.1, a.2, λ s j m. (a.3 s j m, b.3 s j (≤ℚ_trans m l))))
    (λ l. (b.0, b.1, b.2, λ s j m. (a.3 s j (≤ℚ_trans m l), b.3 s j m)))
    (≤ℚ_total a.0 b.0)

-- at all rows
rows_room : (rows : List (List ℤ)) (v u : ℕ → Ext) (x y : RationalState) →
    ((r : ℕ) (row : List ℤ) → slice_get rows r ≡ Some row → fin (dotℚ row x) ≤ᴱ v r) →
    ((r : ℕ) (row : List ℤ) → slice_get rows r ≡ Some row → v r ≤ᴱ u r) →
    ((r : ℕ) (row : List ℤ) → slice_get rows r ≡ Some row → v r ≡ u r → fin (dotℚ row y) ≤ᴱ v r) →
    Room (λ s. (r : ℕ) (row : List ℤ) → slice_get rows r ≡ Some row → fin (mixed s (dotℚ row x) (dotℚ row y)) ≤ᴱ u r)
rows_room [] v u x y h i k = full (λ s j m r row e. cc)
rows_room (first ∷ rows) v u x y h i k =
    let a = row_room (v 0) (u 0) (dotℚ first x) (dotℚ first y) (h 0 first refl) (i 0 first refl) (k 0 first refl) in
    let b = rows_room rows (λ r. v (suc r)) (λ r. u (suc r)) x y (λ r row e. h (suc r) row e) (λ r row e. i (suc r) row e)
    (λ r row e. k (suc r) row e) in
    let both = both_rooms {A = λ s. fin (mixed s (dotℚ first x) (dotℚ first y)) ≤ᴱ u 0}
    {B = λ s. (r : ℕ) (row : List ℤ) → slice_get rows r ≡ Some row → fin (mixed s (dotℚ row x) (dotℚ row y)) ≤ᴱ u (suc r)} a b in
    (both.0, both.1, both.2, λ s j m. joined s (both.3 s j m).0 (both.3 s j m).1)
  where
    joined : (s : ℚ) → fin (mixed s (dotℚ first x) (dotℚ first y)) ≤ᴱ u 0 →
        ((r : ℕ) (row : List ℤ) → slice_get rows r ≡ Some row → fin (mixed s (dotℚ row x) (dotℚ row y)) ≤ᴱ u (suc r)) →
        (r : ℕ) (row : List ℤ) → slice_get (first ∷ rows) r ≡ Some row → fin (mixed s (dotℚ row x) (dotℚ row y)) ≤ᴱ u r
    joined s p q zero row e = subst (λ w. fin (mixed s (dotℚ w x) (dotℚ w y)) ≤ᴱ u 0) (some_same first row e) p
      where
        some_same : (a b : List ℤ) → Some a ≡ Some b → a ≡ b
        some_same a b e = cc
    joined s p q (suc r) row e = q r row e

-- a passing word that fits the old bounds where they are kept has at most the value that the new ones bound
pub flat : (system : Equations) (d e : Vector) (edge : Edge) (row : List ℤ) (c : ℚ) (w0 w : Word) → Below system d e →
    Runs system d edge w0 → c ≤ℚ end_value system edge row w0 → Upper system e edge row (fin c) → Passes system.variables edge.actions w →
    ((r : ℕ) (source : List ℤ) → slice_get system.template r ≡ Some source → d edge.from r ≡ e edge.from r
    → fin (dotℚ source (start_of system.variables w)) ≤ᴱ d edge.from r) →
    end_value system edge row w ≤ℚ c
unfolding end_value
flat system d e edge row c w0 w below runs reached upper passes kept =
    let n = system.variables in
    let room = rows_room system.template (d edge.from) (e edge.from) (start_of n w0) (start_of n w) runs.fits
    (λ r source f. below edge.from r (slice_get_within system.template r source f)) kept in
    let t = room.0 in
    let fits : Fits system e edge.from (start_of n (mix t w0 w)) = λ r source f.
    subst (λ s. fin s ≤ᴱ e edge.from r) (sym (start-mix n source t w0 w)) (room.3 t (le_of_lt_ℚ room.1) (≤ℚ_refl t) r source f) in
    let between = subst (λ s. s ≤ℚ c) (end-mix n edge.actions row t w0 w)
    (upper (mix t w0 w) (record {
      passes = passes_mix n edge.actions t w0 w (le_of_lt_ℚ room.1) room.2 runs.passes passes;
      fits =
          fits;
    })) in
    le_of_not_lt_ℚ (λ l. over t room.1 room.2 _ _ reached between l)
  where
    over : (t : ℚ) → zero_ℚ <ℚ t → t ≤ℚ one_ℚ → (x y : ℚ) → c ≤ℚ x → (one_ℚ -ℚ t) *ℚ x +ℚ t *ℚ y ≤ℚ c → c <ℚ y → ⊥
    over t h i x y k l m = lin_false (t ∷ c ∷ x ∷ y ∷ []) (gt0 (*ℚ_pos h (gap_lt m)) ∷ ge0 (gap i ⊗ gap k) ∷ le l ∷ [])
        (search reads_all depth 40) tt
