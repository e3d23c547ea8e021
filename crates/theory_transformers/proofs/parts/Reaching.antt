-- Reaching through a list: it is a chain of leaning, and transitive.
use Rattle.std.proofs.Common.{◌≡◌, ◌∙◌, ◌⊎◌, inl, inr, ⊎_elim, ℕ, ◌&&◌, eqb, true, List, [], ◌∷◌, refl, sym, ap, subst}
use Rattle.std.proofs.lemmas.Bool.{and_parts, and_from, or_cases, or_left, or_right, eqb-true, eq-eqb}
use Rattle.base_facts.specs.Elements.{In}
use Rattle.flow_systems.specs.Equations.{Equations}
use Rattle.theory_transformers.specs.JointProblems.{Listed}
use Rattle.theory_transformers.specs.Parts.{leans, same, Chain, stays, goes, reaches}

-- ---- tests

-- an unknown is the same as itself
pub same_itself : (u : Listed) → same u u ≡ true
unfolding same
same_itself u = and_from (eqb u.point u.point) (eqb u.row u.row && eqb u.edge u.edge) (eq-eqb u.point u.point refl)
    (and_from (eqb u.row u.row) (eqb u.edge u.edge) (eq-eqb u.row u.row refl) (eq-eqb u.edge u.edge refl))

made : ℕ → ℕ → ℕ → Listed
made p r e = record { point = p; row = r; edge = e }

-- unknowns that the test takes for the same are equal
pub same_equal : (u v : Listed) → same u v ≡ true → u ≡ v
unfolding same made
same_equal u v e =
    let a = and_parts (eqb u.point v.point) (eqb u.row v.row && eqb u.edge v.edge) e in
    let b = and_parts (eqb u.row v.row) (eqb u.edge v.edge) a.1 in
    ap (λ p. made p u.row u.edge) (eqb-true u.point v.point a.0) ∙ ap (λ r. made v.point r u.edge) (eqb-true u.row v.row b.0)
    ∙ ap (λ k. made v.point v.row k) (eqb-true u.edge v.edge b.1)

-- ---- reaching
reach_more : (system : Equations) (x : Listed) (xs : List Listed) (u v : Listed) → reaches system xs u v ≡ true
    → reaches system (x ∷ xs) u v ≡ true
unfolding reaches
reach_more system x xs u v e = or_left (reaches system xs u v) (reaches system xs u x && reaches system xs x v) e

-- an unknown reaches itself
pub reach_itself : (system : Equations) (xs : List Listed) (u : Listed) → reaches system xs u u ≡ true
unfolding reaches
reach_itself system [] u = or_left (same u u) (leans system u u) (same_itself u)
reach_itself system (x ∷ xs) u = reach_more system x xs u u (reach_itself system xs u)

-- an unknown reaches those on which it leans
pub reach_leans : (system : Equations) (xs : List Listed) (u v : Listed) → leans system u v ≡ true → reaches system xs u v ≡ true
unfolding reaches
reach_leans system [] u v e = or_right (same u v) (leans system u v) e
reach_leans system (x ∷ xs) u v e = reach_more system x xs u v (reach_leans system xs u v e)

-- to and from the first of the list the others are enough
reach_to_first : (system : Equations) (x : Listed) (xs : List Listed) (u : Listed) → reaches system (x ∷ xs) u x ≡ true
    → reaches system xs u x ≡ true
unfolding reaches
reach_to_first system x xs u e =
    ⊎_elim (λ h. h) (λ h. (and_parts (reaches system xs u x) (reaches system xs x x) h).0)
    (or_cases (reaches system xs u x) (reaches system xs u x && reaches system xs x x) e)

reach_from_first : (system : Equations) (x : Listed) (xs : List Listed) (v : Listed) → reaches system (x ∷ xs) x v ≡ true
    → reaches system xs x v ≡ true
unfolding reaches
reach_from_first system x xs v e =
    ⊎_elim (λ h. h) (λ h. (and_parts (reaches system xs x x) (reaches system xs x v) h).1)
    (or_cases (reaches system xs x v) (reaches system xs x x && reaches system xs x v) e)

reach_through : (system : Equations) (x : Listed) (xs : List Listed) (u v : Listed) → reaches system xs u x ≡ true
    → reaches system xs x v ≡ true → reaches system (x ∷ xs) u v ≡ true
unfolding reaches
reach_through system x xs u v e f = or_right (reaches system xs u v) (reaches system xs u x && reaches system xs x v)
    (and_from (reaches system xs u x) (reaches system xs x v) e f)

reach_cases : (system : Equations) (x : Listed) (xs : List Listed) (u v : Listed) → reaches system (x ∷ xs) u v ≡ true →
    (reaches system xs u v ≡ true) ⊎ ((reaches system xs u x ≡ true) × (reaches system xs x v ≡ true))
unfolding reaches
reach_cases system x xs u v e = ⊎_elim (λ h. inl h) (λ h. inr (and_parts (reaches system xs u x) (reaches system xs x v) h))
    (or_cases (reaches system xs u v) (reaches system xs u x && reaches system xs x v) e)

-- reaching through a list is transitive at its members
pub reach_trans : (system : Equations) (xs : List Listed) (u w v : Listed) → In xs w → reaches system xs u w ≡ true
    → reaches system xs w v ≡ true → reaches system xs u v ≡ true
reach_trans system [] u w v m e f = absurd m
reach_trans system (x ∷ xs) u w v m e f = by m (reach_cases system x xs u w e) (reach_cases system x xs w v f)
    (λ k a b g h. reach_trans system xs a w b k g h)
  where
    by : (x ≡ w) ⊎ In xs w → (reaches system xs u w ≡ true) ⊎ ((reaches system xs u x ≡ true) × (reaches system xs x w ≡ true)) →
        (reaches system xs w v ≡ true) ⊎ ((reaches system xs w x ≡ true) × (reaches system xs x v ≡ true)) →
        (In xs w → (a b : Listed) → reaches system xs a w ≡ true → reaches system xs w b ≡ true → reaches system xs a b ≡ true)
        → reaches system (x ∷ xs) u v ≡ true
    by (inl i) g h t =
        reach_through system x xs u v (reach_to_first system x xs u (subst (λ s. reaches system (x ∷ xs) u s ≡ true) (sym i) e))
        (reach_from_first system x xs v (subst (λ s. reaches system (x ∷ xs) s v ≡ true) (sym i) f))
    by (inr k) (inl g) (inl h) t = reach_more system x xs u v (t k u v g h)
    by (inr k) (inl g) (inr h) t = reach_through system x xs u v (t k u x g h.0) h.1
    by (inr k) (inr g) (inl h) t = reach_through system x xs u v g.0 (t k x v g.1 h)
    by (inr k) (inr g) (inr h) t = reach_through system x xs u v g.0 h.1

chains : (system : Equations) (list : List Listed) (u w v : Listed) → Chain system list u w → Chain system list w v → Chain system list u v
chains system list u w v (stays x) d = d
chains system list u w v (goes a b c e m k) d = goes a b v e m (chains system list b c v k d)
