-- A list of evidence in the order of a certificate has evidence for every edge and row that needs it.
use Rattle.std.proofs.Common.{◌≡◌, ◌∙◌, ◌⊎◌, inl, inr, ⊎_elim, ℕ, zero, suc, ◌-◌, ◌<◌, eqb, Bool, true, false, List, [], ◌∷◌, length}
use Rattle.std.proofs.Common.{get_or, refl, sym, ap, subst, arith, if◌then◌else◌}
use Rattle.std.specs.Prelude.{ℤ, slice_get, Some, Contains, flat_map}
use Rattle.std.specs.List.{range_with_len}
use Rattle.std.proofs.lemmas.Bool.Decides.{eqb_tells}
use Rattle.std.proofs.lemmas.Option.{slice_get_within, get_or_from_slice_get}
use Rattle.base_facts.proofs.elements.Membership.{in_flat_map, in_range}
use Rattle.base_facts.specs.Elements.{In}
use Rattle.base_numbers.specs.Extended.{Ext, neg_inf, fin, pos_inf}
use Rattle.flow_edges.specs.declared.edge.Edge.{Edge}
use Rattle.flow_systems.specs.Equations.{Equations, Vector}
use Rattle.theory_validity.specs.Certificates.{Evidence, EvidencePasses, edges_into, into_needs, Need, needs_at, needs, AllPass}
use Rattle.theory_validity.specs.Certificates.{PointsInRange}

-- ---- elements of lists

-- what is contained is an element
pub in_of_contains : {A : Type 0} (xs : List A) (x : A) → Contains xs x → In xs x
in_of_contains {A} xs x c = at xs c.0 c.1 c.2
  where
    at : (ys : List A) (k : ℕ) → k < length ys → get_or ys k x ≡ x → In ys x
    at [] k l e = absurd (omega arith)
    at (y ∷ ys) zero l e = inl e
    at (y ∷ ys) (suc k) l e = inr (at ys k (omega arith) e)

-- ---- needs
pub in_edges_into : (edges : List Edge) (edge : Edge) → In edges edge → In (edges_into edge.to edges) edge
unfolding edges_into
in_edges_into [] edge m = absurd m
in_edges_into (first ∷ edges) edge m = by (eqb first.to edge.to) refl m (λ k. in_edges_into edges edge k)
  where
    by : (b : Bool) → eqb first.to edge.to ≡ b → (first ≡ edge) ⊎ In edges edge → (In edges edge → In (edges_into edge.to edges) edge) →
        In (if b then first ∷ edges_into edge.to edges else edges_into edge.to edges) edge
    by true e (inl s) more = inl s
    by true e (inr k) more = inr (more k)
    by false e (inl s) more = absurd (⊎_elim (λ t. differ (sym e ∙ t.0)) (λ f. f.1 (ap (λ x. x.to) s)) (eqb_tells first.to edge.to))
      where
        differ : false ≡ true → ⊥
        differ h = cc
    by false e (inr k) more = more k

in_into_needs : (r k : ℕ) (edges : List Edge) (edge : Edge) → In edges edge
    → (n : ℕ) × In (into_needs edge.to r k edges) (record { edge = edge; number = n; row = r })
unfolding into_needs
in_into_needs r k [] edge m = absurd m
in_into_needs r k (first ∷ edges) edge m = by (eqb first.to edge.to) refl m (λ j. in_into_needs r (suc k) edges edge j)
  where
    by : (b : Bool) → eqb first.to edge.to ≡ b → (first ≡ edge) ⊎ In edges edge →
        (In edges edge → (n : ℕ) × In (into_needs edge.to r (suc k) edges) (record { edge = edge; number = n; row = r })) →
        (n : ℕ) × In (if b then record { edge = first; number = k; row = r }
        ∷ into_needs edge.to r (suc k) edges else into_needs edge.to r (suc k) edges) (record { edge = edge; number = n; row = r })
    by true e (inl s) more = (k, inl (ap (λ x. record { edge = x; number = k; row = r }) s))
    by true e (inr j) more = let i = more j in (i.0, inr i.1)
    by false e (inl s) more = absurd (⊎_elim (λ t. differ (sym e ∙ t.0)) (λ f. f.1 (ap (λ x. x.to) s)) (eqb_tells first.to edge.to))
      where
        differ : false ≡ true → ⊥
        differ h = cc
    by false e (inr j) more = more j

-- an edge and a row at a vector, outside the entry and in range, are needed where the bound isn't +∞
in_needs_at : (system : Equations) (edge : Edge) (r : ℕ) (v : Ext) → In system.edges edge →
    (v ≡ pos_inf) ⊎ ((n : ℕ) × In (needs_at system edge.to r v) (record { edge = edge; number = n; row = r }))
unfolding needs_at
in_needs_at system edge r neg_inf m = inr (in_into_needs r 0 system.edges edge m)
in_needs_at system edge r (fin c) m = inr (in_into_needs r 0 system.edges edge m)
in_needs_at system edge r pos_inf m = inl refl

in_needs : (system : Equations) (z : Vector) (edge : Edge) (r : ℕ) → In system.edges edge → 0 < edge.to → edge.to < system.points
    → r < length system.template →
    (z edge.to r ≡ pos_inf) ⊎ ((n : ℕ) × In (needs system z) (record { edge = edge; number = n; row = r }))
unfolding needs
in_needs system z edge r m later within l =
    ⊎_elim (λ e. inl e)
    (λ k. inr (
      k.0,
      in_flat_map (λ p. flat_map (λ r. needs_at system p r (z p r)) (range_with_len 0 (length system.template)))
          (range_with_len 1 (system.points - 1)) edge.to (record { edge = edge; number = k.0; row = r })
          (in_range 1 (system.points - 1) edge.to (omega arith) (omega arith))
          (in_flat_map (λ r. needs_at system edge.to r (z edge.to r)) (range_with_len 0 (length system.template)) r
          (record { edge = edge; number = k.0; row = r })
          (in_range 0 (length system.template) r (omega arith) (omega arith)) k.1),
    ))
    (in_needs_at system edge r (z edge.to r) m)

-- what is needed has evidence that passes
pass_at : (system : Equations) (z : Vector) (ns : List Need) (evidence : List Evidence) (need : Need) → AllPass system z ns evidence
    → In ns need →
    (e : Evidence) × EvidencePasses system z need.edge (get_or system.template need.row []) (z need.edge.to need.row) e
pass_at system z [] evidence need h m = absurd m
pass_at system z (n ∷ ns) [] need h m = absurd h
pass_at system z (n ∷ ns) (e ∷ evidence) need h m =
    ⊎_elim (λ s. subst (λ k. (e' : Evidence) × EvidencePasses system z k.edge (get_or system.template k.row []) (z k.edge.to k.row) e') s
    (e, h.0)) (λ k. pass_at system z ns evidence need h.1 k) m

-- each unknown that isn't +∞ has evidence for each edge into its point
abbrev pub UppersPass : Equations → Vector → Type 0
UppersPass system z = (edge : Edge) (r : ℕ) (row : List ℤ) → Contains system.edges edge → slice_get system.template r ≡ Some row →
    (z edge.to r ≡ pos_inf) ⊎ ((evidence : Evidence) × EvidencePasses system z edge row (z edge.to r) evidence)

-- a certificate's list of evidence is evidence for each edge and row
pub uppers_pass : (system : Equations) (z : Vector) (uppers : List Evidence) → PointsInRange system
    → ((r : ℕ) → r < length system.template → z 0 r ≡ pos_inf) →
    AllPass system z (needs system z) uppers → UppersPass system z
uppers_pass system z uppers range entry pass edge r row listed e = by edge.to refl
  where
    within : r < length system.template
    within = slice_get_within system.template r row e

    by : (p : ℕ) → edge.to ≡ p → (z edge.to r ≡ pos_inf) ⊎ ((evidence : Evidence) × EvidencePasses system z edge row (z edge.to r) evidence)
    by zero f = inl (ap (λ p. z p r) f ∙ entry r within)
    by (suc p) f =
        ⊎_elim (λ top. inl top)
        (λ m. inr (subst (λ s. (evidence : Evidence) × EvidencePasses system z edge s (z edge.to r) evidence)
        (get_or_from_slice_get system.template r row [] e)
        (pass_at system z (needs system z) uppers (record { edge = edge; number = m.0; row = r }) pass m.1)))
        (in_needs system z edge r (in_of_contains system.edges edge listed) (omega (arith, f)) (range.ends edge listed) within)
