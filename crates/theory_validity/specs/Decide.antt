-- Decisions about orders, lists, rows and words.
use Rattle.std.proofs.Common.{◌≡◌, inl, inr, ⊎_elim, ℕ, zero, suc, ◌<◌, Bool, true, false, List, [], ◌∷◌, refl, ap, subst, arith}
use Rattle.std.specs.Prelude.{ℤ, slice_get, Some}
use Rattle.base_facts.specs.Elements.{In}
use Rattle.base_numbers.specs.Rational.{ℚ, zero_ℚ, ◌≤ℚ◌, ◌<ℚ◌}
use Rattle.base_numbers.specs.Extended.{Ext, neg_inf, fin, pos_inf, ◌≤ᴱ◌, ◌<ᴱ◌}
use Rattle.base_numbers.specs.Vector.{AllNonneg}
use Rattle.base_numbers.proofs.rational.Laws.{le_or_lt, not_le_of_lt, ℚ_discrete}
use Rattle.base_numbers.proofs.extended.ExtendedLaws.{ext_le_or_lt, ext_not_le_of_lt}
use Rattle.flow_systems.specs.States.{dotℚ}
use Rattle.flow_systems.specs.Equations.{Equations, Vector}
use Rattle.flow_edges.specs.declared.edge.Edge.{Edge}
use Rattle.theory_validity.specs.Words.{Word, Affine, val, lin, guard_forms, start_of, AllAtMost, AllFall, Falls}
use Rattle.theory_validity.specs.Steps.{Runs, Item, names, Unnamed}
use Rattle.theory_validity.specs.Certificates.{NotFinite}

-- ---- connectives
pub dec_and : {A B : Type 0} → Dec A → Dec B → Dec (A × B)
dec_and (yes a) (yes b) = yes (a, b)
dec_and (yes a) (no n) = no (λ p. n p.1)
dec_and (no n) d = no (λ p. n p.0)

-- an implication is decided by its two sides
pub dec_imp : {A B : Type 0} → Dec A → Dec B → Dec (A → B)
dec_imp d (yes b) = yes (λ a. b)
dec_imp (yes a) (no n) = no (λ f. n (f a))
dec_imp (no m) (no n) = yes (λ a. absurd (m a))

-- what is the same as something decided is decided
pub dec_by : {A B : Type 0} → (A → B) → (B → A) → Dec A → Dec B
dec_by f g (yes a) = yes (f a)
dec_by f g (no n) = no (λ b. n (g b))

-- ---- orders
pub dec_le_ℚ : (a b : ℚ) → Dec (a ≤ℚ b)
dec_le_ℚ a b = ⊎_elim (λ h. yes h) (λ h. no (not_le_of_lt h)) (le_or_lt a b)

-- whether a fraction is below another
pub dec_lt_ℚ : (a b : ℚ) → Dec (a <ℚ b)
dec_lt_ℚ a b = ⊎_elim (λ h. no (λ l. not_le_of_lt l h)) (λ h. yes h) (le_or_lt b a)

-- whether an extended number is at most another
pub dec_leᴱ : (x y : Ext) → Dec (x ≤ᴱ y)
dec_leᴱ x y = ⊎_elim (λ h. yes h) (λ h. no (ext_not_le_of_lt y x h)) (ext_le_or_lt x y)

-- whether an extended number is below another
pub dec_ltᴱ : (x y : Ext) → Dec (x <ᴱ y)
dec_ltᴱ x y = ⊎_elim (λ h. no (λ l. ext_not_le_of_lt x y l h)) (λ h. yes h) (ext_le_or_lt y x)

-- whether an extended number is a fraction
pub dec_finite : (v : Ext) → Dec ((c : ℚ) × (v ≡ fin c))
dec_finite neg_inf = no (λ h. differ h.0 h.1)
  where
    differ : (c : ℚ) → neg_inf ≡ fin c → ⊥
    differ c e = cc
dec_finite (fin c) = yes (c, refl)
dec_finite pos_inf = no (λ h. differ h.0 h.1)
  where
    differ : (c : ℚ) → pos_inf ≡ fin c → ⊥
    differ c e = cc

-- whether an extended number is infinite
pub dec_not_finite : (v : Ext) → Dec (NotFinite v)
dec_not_finite neg_inf = yes tt
dec_not_finite (fin c) = no (λ h. h)
dec_not_finite pos_inf = yes tt

fin_same : (a b : ℚ) → fin a ≡ fin b → a ≡ b
fin_same a b e = cc

-- whether two extended numbers are the same
pub ext_same : (x y : Ext) → Dec (x ≡ y)
ext_same neg_inf neg_inf = yes refl
ext_same neg_inf (fin b) = no (λ e. cc)
ext_same neg_inf pos_inf = no (λ e. cc)
ext_same (fin a) neg_inf = no (λ e. cc)
ext_same (fin a) (fin b) = dec_by (λ e. ap fin e) (λ e. fin_same a b e) (ℚ_discrete a b)
ext_same (fin a) pos_inf = no (λ e. cc)
ext_same pos_inf neg_inf = no (λ e. cc)
ext_same pos_inf (fin b) = no (λ e. cc)
ext_same pos_inf pos_inf = yes refl

-- ---- lists
pub dec_all_in : {A : Type 0} {P : A → Type 0} → ((x : A) → Dec (P x)) → (xs : List A) → Dec ((x : A) → In xs x → P x)
dec_all_in d [] = yes (λ x m. absurd m)
dec_all_in {A} {P} d (y ∷ xs) = dec_by
    (λ p x m. ⊎_elim (λ e. subst P e p.0) (λ k. p.1 x k) m)
    (λ f. (f y (inl refl), λ x m. f x (inr m)))
    (dec_and (d y) (dec_all_in d xs))

some_same : (s t : List ℤ) → Some s ≡ Some t → s ≡ t
some_same s t e = cc

-- whether all rows of a template meet a condition
pub dec_rows : {P : ℕ → List ℤ → Type 0} → ((r : ℕ) (row : List ℤ) → Dec (P r row)) → (rows : List (List ℤ)) →
    Dec ((r : ℕ) (row : List ℤ) → slice_get rows r ≡ Some row → P r row)
dec_rows d [] = yes (λ r row e. cc)
dec_rows {P} d (first ∷ rows) = dec_by
    (λ p. joined p.0 p.1)
    (λ f. (f 0 first refl, λ r row e. f (suc r) row e))
    (dec_and (d 0 first) (dec_rows {P = λ r row. P (suc r) row} (λ r row. d (suc r) row) rows))
  where
    joined : P 0 first → ((r : ℕ) (row : List ℤ) → slice_get rows r ≡ Some row → P (suc r) row) → (r : ℕ) (row : List ℤ) →
        slice_get (first ∷ rows) r ≡ Some row → P r row
    joined a f zero row e = subst (P 0) (some_same first row e) a
    joined a f (suc r) row e = f r row e

-- whether all smaller numbers meet a condition
pub dec_below : {P : ℕ → Type 0} → ((k : ℕ) → Dec (P k)) → (n : ℕ) → Dec ((k : ℕ) → k < n → P k)
dec_below d zero = yes (λ k l. absurd (omega arith))
dec_below {P} d (suc n) = dec_by
    (λ p. joined p.0 p.1)
    (λ f. (f 0 (omega arith), λ k l. f (suc k) (omega arith)))
    (dec_and (d 0) (dec_below {P = λ k. P (suc k)} (λ k. d (suc k)) n))
  where
    joined : P 0 → ((k : ℕ) → k < n → P (suc k)) → (k : ℕ) → k < suc n → P k
    joined a f zero l = a
    joined a f (suc k) l = f k (omega arith)

-- whether no entry is negative
pub dec_nonneg : (u : List ℚ) → Dec (AllNonneg u)
dec_nonneg [] = yes tt
dec_nonneg (x ∷ u) = dec_and (dec_le_ℚ zero_ℚ x) (dec_nonneg u)

dec_false : (b : Bool) → Dec (b ≡ false)
dec_false true = no (λ e. cc)
dec_false false = yes refl

-- whether no item names an unknown
pub dec_unnamed : (items : List Item) (p r : ℕ) → Dec (Unnamed items p r)
dec_unnamed [] p r = yes tt
dec_unnamed (item ∷ items) p r = dec_and (dec_false (names item p r)) (dec_unnamed items p r)

-- ---- words
dec_all_at_most : (gs : List Affine) (w : Word) → Dec (AllAtMost gs w)
dec_all_at_most [] w = yes tt
dec_all_at_most (g ∷ gs) w = dec_and (dec_le_ℚ (val g w) zero_ℚ) (dec_all_at_most gs w)

dec_all_fall : (gs : List Affine) (d : Word) → Dec (AllFall gs d)
dec_all_fall [] d = yes tt
dec_all_fall (g ∷ gs) d = dec_and (dec_le_ℚ (lin g d) zero_ℚ) (dec_all_fall gs d)

-- whether a direction falls along an edge
pub dec_falls : (system : Equations) (edge : Edge) (d : Word) → Dec (Falls system.variables edge.actions d)
dec_falls system edge d = dec_by (λ h. record { all = h }) (λ h. h.all) (dec_all_fall (guard_forms system.variables edge.actions) d)

-- whether a word runs along an edge
pub dec_runs : (system : Equations) (z : Vector) (edge : Edge) (w : Word) → Dec (Runs system z edge w)
dec_runs system z edge w = dec_by (λ p. record { passes = record { all = p.1 }; fits = p.0 }) (λ h. (h.fits, h.passes.all))
    (dec_and (dec_rows {P = λ r row. fin (dotℚ row (start_of system.variables w)) ≤ᴱ z edge.from r}
    (λ r row. dec_leᴱ (fin (dotℚ row (start_of system.variables w))) (z edge.from r)) system.template)
    (dec_all_at_most (guard_forms system.variables edge.actions) w))
