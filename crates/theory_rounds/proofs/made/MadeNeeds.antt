-- Where no transformer exceeds its bound, the evidence read from the outcomes passes for all that is needed.
use Rattle.std.proofs.Common.{◌≡◌, ◌∙◌, ◌⊎◌, inl, inr, ⊎_elim, ℕ, zero, suc, ◌+◌, ◌-◌, ◌<◌, eqb, Bool, true, false, true≢false, List, []}
use Rattle.std.proofs.Common.{◌∷◌, ◌++◌, length, get_or, refl, sym, ap, subst, arith, if◌then◌else◌}
use Rattle.std.specs.Prelude.{Contains, flat_map}
use Rattle.std.specs.List.{range_with_len}
use Rattle.std.proofs.lemmas.Option.{slice_get-get_or}
use Rattle.std.proofs.lemmas.Bool.Decides.{eqb_tells}
use Rattle.base_facts.specs.Elements.{In}
use Rattle.base_numbers.specs.Extended.{Ext, neg_inf, fin, pos_inf, ◌<ᴱ◌}
use Rattle.flow_edges.specs.declared.edge.Edge.{Edge}
use Rattle.flow_systems.specs.Equations.{Equations, Vector}
use Rattle.theory_validity.specs.Certificates.{Need, into_needs, needs_at, needs, AllPass}
use Rattle.theory_transformers.specs.EdgeProblems.{transformer}
use Rattle.theory_strategy.proofs.round.Chain.{NoneExceeds}
use Rattle.theory_rounds.specs.Made.{uppers_for, exact_uppers}
use Rattle.theory_rounds.proofs.made.Uppers.{exact_upper_passes}

-- ---- elements of lists
in_either : {A : Type 0} (xs ys : List A) (x : A) → In (xs ++ ys) x → In xs x ⊎ In ys x
in_either [] ys x m = inr m
in_either (y ∷ xs) ys x m = ⊎_elim (λ e. inl (inl e)) (λ k. ⊎_elim (λ h. inl (inr h)) (λ h. inr h) (in_either xs ys x k)) m

of_parts : {A B : Type 0} (f : A → List B) (xs : List A) (y : B) → In (flat_map f xs) y → (x : A) × In xs x × In (f x) y
of_parts f [] y m = absurd m
of_parts f (x ∷ xs) y m = ⊎_elim (λ h. (x, inl refl, h)) (λ h. let r = of_parts f xs y h in (r.0, inr r.1, r.2))
    (in_either (f x) (flat_map f xs) y m)

of_range : (a n k : ℕ) → In (range_with_len a n) k → k < a + n
of_range a zero k m = absurd m
of_range a (suc n) k m = ⊎_elim (λ e. omega arith) (λ j. let h = of_range (a + 1) n k j in omega arith) m

contains_of : {A : Type 0} (xs : List A) (x : A) → In xs x → Contains xs x
contains_of [] x m = absurd m
contains_of (y ∷ xs) x m = ⊎_elim (λ e. (0, omega arith, e)) (λ k. let r = contains_of xs x k in
    (suc r.0, (let l = r.1 in omega arith), r.2)) m

-- ---- needs
-- what a need says
record IsNeeded (system : Equations) (z : Vector) (need : Need) : Type 0 where
  listed : In system.edges need.edge
  row_within : need.row < length system.template
  below_top : z need.edge.to need.row <ᴱ pos_inf

of_into : (p r k : ℕ) (edges : List Edge) (need : Need) → In (into_needs p r k edges) need
    → In edges need.edge × (need.edge.to ≡ p) × (need.row ≡ r)
unfolding into_needs
of_into p r k [] need m = absurd m
of_into p r k (edge ∷ edges) need m = by (eqb edge.to p) (eqb_tells edge.to p) m (λ j. of_into p r (suc k) edges need j)
  where
    by : (b : Bool) → ((b ≡ true) × (edge.to ≡ p)) ⊎ ((b ≡ false) × (edge.to ≡ p → ⊥))
        → In (if b then record { edge = edge; number = k; row = r } ∷ into_needs p r (suc k) edges else into_needs p r (suc k) edges) need →
        (In (into_needs p r (suc k) edges) need → In edges need.edge × (need.edge.to ≡ p) × (need.row ≡ r))
        → In (edge ∷ edges) need.edge × (need.edge.to ≡ p) × (need.row ≡ r)
    by true (inl t) m rec = ⊎_elim
        (λ e. (inl (ap (λ (n : Need). n.edge) e), sym (ap (λ (n : Need). n.edge.to) e) ∙ t.1, sym (ap (λ (n : Need). n.row) e)))
        (λ j. let h = rec j in (inr h.0, h.1, h.2)) m
    by true (inr f) m rec = absurd (true≢false f.0)
    by false t m rec = let h = rec m in (inr h.0, h.1, h.2)

of_needs_at : (system : Equations) (p r : ℕ) (v : Ext) (need : Need) → In (needs_at system p r v) need
    → (v <ᴱ pos_inf) × In system.edges need.edge × (need.edge.to ≡ p) × (need.row ≡ r)
unfolding needs_at
of_needs_at system p r neg_inf need m = let h = of_into p r 0 system.edges need m in (tt, h.0, h.1, h.2)
of_needs_at system p r (fin c) need m = let h = of_into p r 0 system.edges need m in (tt, h.0, h.1, h.2)
of_needs_at system p r pos_inf need m = absurd m

of_needs : (system : Equations) (z : Vector) (need : Need) → In (needs system z) need → IsNeeded system z need
unfolding needs
of_needs system z need m =
    let a = of_parts (λ p. flat_map (λ r. needs_at system p r (z p r)) (range_with_len 0 (length system.template)))
    (range_with_len 1 (system.points - 1)) need m in
    let b = of_parts (λ r. needs_at system a.0 r (z a.0 r)) (range_with_len 0 (length system.template)) need a.2 in
    let h = of_needs_at system a.0 b.0 (z a.0 b.0) need b.2 in
    record {
      listed = h.1;
      row_within = subst (λ r. r < length system.template) (sym h.3) (within b.0 b.1);
      below_top = subst (λ p. z p need.row <ᴱ pos_inf) (sym h.2) (subst (λ r. z a.0 r <ᴱ pos_inf) (sym h.3) h.0);
    }
  where
    within : (r : ℕ) → In (range_with_len 0 (length system.template)) r → r < length system.template
    within r k = let l = of_range 0 (length system.template) r k in omega arith

-- ---- evidence
all_pass : (system : Equations) (z : Vector) → NoneExceeds system (transformer system) z → (ns : List Need)
    → ((need : Need) → In ns need → IsNeeded system z need) → AllPass system z ns (uppers_for system z ns)
unfolding uppers_for
all_pass system z none [] h = tt
all_pass system z none (need ∷ ns) h =
    let n = h need (inl refl) in
    let row = get_or system.template need.row [] in (
      exact_upper_passes system z need.edge row (z need.edge.to need.row)
          (none need.edge need.row row (contains_of system.edges need.edge n.listed)
          (slice_get-get_or system.template need.row [] n.row_within)) n.below_top,
      all_pass system z none ns (λ m k. h m (inr k)),
    )

-- the evidence passes for all that is needed
pub exact_uppers_pass : (system : Equations) (z : Vector) → NoneExceeds system (transformer system) z
    → AllPass system z (needs system z) (exact_uppers system z)
unfolding exact_uppers
exact_uppers_pass system z none = all_pass system z none (needs system z) (λ need m. of_needs system z need m)
