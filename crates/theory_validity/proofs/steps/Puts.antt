-- What a vector is after the unknowns of a list of items take their values.
use Rattle.std.proofs.Common.{◌≡◌, ◌∙◌, ◌⊎◌, inl, inr, ⊎_elim, ℕ, ◌&&◌, eqb, Bool, true, false, true≢false, List, [], ◌∷◌, refl, sym, ap}
use Rattle.std.proofs.Common.{subst, if◌then◌else◌}
use Rattle.std.specs.Prelude.{ℤ}
use Rattle.std.proofs.lemmas.Option.{slice_get_within}
use Rattle.std.proofs.lemmas.Bool.{and_parts, eqb-true, eq-eqb, cases_Bool}
use Rattle.base_facts.specs.Elements.{In}
use Rattle.base_numbers.specs.Extended.{Ext, fin, ◌≤ᴱ◌}
use Rattle.base_numbers.proofs.extended.ExtendedLaws.{≤ᴱ_trans}
use Rattle.flow_systems.specs.States.{RationalState, dotℚ}
use Rattle.flow_systems.specs.Equations.{Equations, Vector, Fits}
use Rattle.flow_edges.specs.declared.edge.Edge.{Edge}
use Rattle.theory_validity.specs.Words.{Word}
use Rattle.theory_validity.specs.Steps.{Below, Runs, Upper, Item, names, put, Unnamed, Distinct}

-- ---- naming

-- an item names exactly its own unknown
pub named_is : (item : Item) (p r : ℕ) → names item p r ≡ true → (item.point ≡ p) × (item.row ≡ r)
unfolding names
named_is item p r e = let h = and_parts (eqb item.point p) (eqb item.row r) e in (eqb-true item.point p h.0, eqb-true item.row r h.1)

-- an item names its unknown
pub names_itself : (item : Item) → names item item.point item.row ≡ true
unfolding names
names_itself item = ap (λ b. b && eqb item.row item.row) (eq-eqb item.point item.point refl) ∙ eq-eqb item.row item.row refl

-- an unknown is named by an item, or by none
pub named_or_not : (items : List Item) (p r : ℕ) → ((item : Item) × In items item × (item.point ≡ p) × (item.row ≡ r)) ⊎ Unnamed items p r
named_or_not [] p r = inr tt
named_or_not (item ∷ items) p r = ⊎_elim
    (λ e. let h = named_is item p r e in inl (item, inl refl, h.0, h.1))
    (λ e. ⊎_elim (λ h. inl (h.0, inr h.1, h.2, h.3)) (λ u. inr (e, u)) (named_or_not items p r))
    (cases_Bool (names item p r))

-- ---- values
pub put-unnamed : (value : Item → Ext) (items : List Item) (z : Vector) (p r : ℕ) → Unnamed items p r → put value items z p r ≡ z p r
unfolding put
put-unnamed value [] z p r u = refl
put-unnamed value (item ∷ items) z p r u = ap (λ b. if b then value item else put value items z p r) u.0 ∙ put-unnamed value items z p r u.1

unnamed_by : (items : List Item) (p r : ℕ) (item : Item) → Unnamed items p r → In items item → names item p r ≡ false
unnamed_by [] p r item u m = absurd m
unnamed_by (x ∷ items) p r item u m = ⊎_elim (λ e. subst (λ y. names y p r ≡ false) e u.0) (λ k. unnamed_by items p r item u.1 k) m

-- what an item names isn't unnamed
pub not_unnamed : (items : List Item) (item : Item) → In items item → ¬ (Unnamed items item.point item.row)
not_unnamed items item m u = true≢false (sym (names_itself item) ∙ unnamed_by items item.point item.row item u m)

-- a named unknown takes its item's value
pub put-named : (value : Item → Ext) (items : List Item) (z : Vector) (item : Item) → Distinct items → In items item
    → put value items z item.point item.row ≡ value item
unfolding put
put-named value [] z item d m = absurd m
put-named value (x ∷ items) z item d m = ⊎_elim
    (λ e. subst (λ y. (if names x y.point y.row then value x else put value items z y.point y.row) ≡ value y) e
    (ap (λ b. if b then value x else put value items z x.point x.row) (names_itself x)))
    (λ k. ap (λ b. if b then value x else put value items z item.point item.row) (other k (cases_Bool (names x item.point item.row)))
    ∙ put-named value items z item d.1 k)
    m
  where
    other : In items item → (names x item.point item.row ≡ true) ⊎ (names x item.point item.row ≡ false)
        → names x item.point item.row ≡ false
    other k (inl e) =
        let h = named_is x item.point item.row e in
        absurd (not_unnamed items item k (subst (λ p. Unnamed items p item.row) h.0 (subst (λ r. Unnamed items x.point r) h.1 d.0)))
    other k (inr e) = e

-- a vector stays at most another one where the values are at most the other's
pub put_below : (system : Equations) (value : Item → Ext) (items : List Item) (z q : Vector) → Below system z q →
    ((item : Item) → In items item → value item ≤ᴱ q item.point item.row) → Below system (put value items z) q
unfolding put
put_below system value [] z q below h p r l = below p r l
put_below system value (item ∷ items) z q below h p r l = by (names item p r) refl
    (put_below system value items z q below (λ i m. h i (inr m)) p r l)
  where
    by : (b : Bool) → names item p r ≡ b → put value items z p r ≤ᴱ q p r → (if b then value item else put value items z p r) ≤ᴱ q p r
    by true e rest =
        let n = named_is item p r e in
        subst (λ s. value item ≤ᴱ q s r) n.0 (subst (λ s. value item ≤ᴱ q item.point s) n.1 (h item (inl refl)))
    by false e rest = rest

-- and at least another one where they are at least the other's
pub put_above : (system : Equations) (value : Item → Ext) (items : List Item) (z q : Vector) → Below system q z →
    ((item : Item) → In items item → q item.point item.row ≤ᴱ value item) → Below system q (put value items z)
unfolding put
put_above system value [] z q below h p r l = below p r l
put_above system value (item ∷ items) z q below h p r l = by (names item p r) refl
    (put_above system value items z q below (λ i m. h i (inr m)) p r l)
  where
    by : (b : Bool) → names item p r ≡ b → q p r ≤ᴱ put value items z p r → q p r ≤ᴱ (if b then value item else put value items z p r)
    by true e rest =
        let n = named_is item p r e in
        subst (λ s. q s r ≤ᴱ value item) n.0 (subst (λ s. q item.point s ≤ᴱ value item) n.1 (h item (inl refl)))
    by false e rest = rest

-- ---- vectors in order
pub below_itself : (system : Equations) (z : Vector) → Below system z z
below_itself system z p r l = Rattle.base_numbers.proofs.extended.ExtendedLaws.≤ᴱ_refl (z p r)

-- the order of vectors is transitive
pub below_trans : (system : Equations) (x y z : Vector) → Below system x y → Below system y z → Below system x z
below_trans system x y z h i p r l = ≤ᴱ_trans (x p r) (y p r) (z p r) (h p r l) (i p r l)

-- a state that fits a vector fits a greater one
fits_below : (system : Equations) (z q : Vector) (p : ℕ) (x : RationalState) → Below system z q → Fits system z p x → Fits system q p x
fits_below system z q p x below h r row e = ≤ᴱ_trans (fin (dotℚ row x)) (z p r) (q p r) (h r row e)
    (below p r (slice_get_within system.template r row e))

-- a word that runs at a vector runs at a greater one
pub runs_below : (system : Equations) (z q : Vector) (edge : Edge) (w : Word) → Below system z q → Runs system z edge w
    → Runs system q edge w
runs_below system z q edge w below h = record { passes = h.passes; fits = fits_below system z q edge.from _ below h.fits }

-- an upper bound at a vector is one at a smaller vector
pub upper_below : (system : Equations) (z q : Vector) (edge : Edge) (row : List ℤ) (number : Ext) → Below system z q
    → Upper system q edge row number → Upper system z edge row number
upper_below system z q edge row number below upper w runs = upper w (runs_below system z q edge w below runs)
