-- There are fewer rounds than picks.
use Rattle.std.proofs.Common.{◌≡◌, ◌∙◌, ◌⊎◌, inl, inr, ℕ, zero, suc, ◌+◌, ◌<◌, eqb, Bool, true, false, List, [], ◌∷◌, length, map, refl}
use Rattle.std.proofs.Common.{sym, ap, subst, ap₂, arith, if◌then◌else◌}
use Rattle.std.specs.Prelude.{ℤ, Option, Some, None, get_or}
use Rattle.std.specs.List.{range_with_len}
use Rattle.std.proofs.lemmas.Bool.Decides.{eqb_tells}
use Rattle.base_facts.proofs.elements.Membership.{in_map, in_flat_map, in_range}
use Rattle.base_facts.proofs.elements.Pigeonhole.{pigeonhole}
use Rattle.base_facts.specs.Elements.{In}
use Rattle.flow_edges.specs.declared.edge.Edge.{Edge}
use Rattle.flow_systems.specs.Equations.{Equations, Vector}
use Rattle.theory_validity.specs.Steps.{Step, edge_of}
use Rattle.theory_validity.specs.Certificates.{edges_into}
use Rattle.theory_validity.specs.Transformers.{Reaches}
use Rattle.theory_strategy.specs.Picks.{Pick, Transformer, IsPick, choice}
use Rattle.theory_strategy.specs.PickCount.{product, Unknown, unknowns, pick_count}
use Rattle.theory_strategy.specs.Rounds.{Rounds}
use Rattle.theory_strategy.proofs.round.NoTwice.{no_twice}
use Rattle.theory_strategy.proofs.pick_count.Tuples.{tuples, length-tuples, in_tuples, same_at}

-- the numbers from k on of the edges that end at a point
numbers : ℕ → ℕ → List Edge → List (Option ℕ)
numbers p k [] = []
numbers p k (edge ∷ edges) = if eqb edge.to p then Some k ∷ numbers p (suc k) edges else numbers p (suc k) edges

length-numbers : (p k : ℕ) (edges : List Edge) → length (numbers p k edges) ≡ length (edges_into p edges)
unfolding numbers edges_into
length-numbers p k [] = refl
length-numbers p k (edge ∷ edges) = by (eqb edge.to p) (length-numbers p (suc k) edges)
  where
    by : (b : Bool) → length (numbers p (suc k) edges) ≡ length (edges_into p edges)
        → length (if b then Some k ∷ numbers p (suc k) edges else numbers p (suc k) edges)
        ≡ length (if b then edge ∷ edges_into p edges else edges_into p edges)
    by true e = ap suc e
    by false e = e

in_numbers : (p k j : ℕ) (edges : List Edge) (other : Edge) → j < length edges → (get_or edges j other).to ≡ p
    → In (numbers p k edges) (Some (k + j))
unfolding numbers
in_numbers p k j [] other h e = absurd (omega arith)
in_numbers p k zero (edge ∷ edges) other h e = by (eqb edge.to p) (eqb_tells edge.to p)
  where
    by : (b : Bool) → ((b ≡ true) × (edge.to ≡ p)) ⊎ ((b ≡ false) × (edge.to ≡ p → ⊥))
        → In (if b then Some k ∷ numbers p (suc k) edges else numbers p (suc k) edges) (Some (k + 0))
    by true t = inl (ap Some (omega arith))
    by false (inl t) = cc
    by false (inr t) = absurd (t.1 e)
in_numbers p k (suc j) (edge ∷ edges) other h e = by (eqb edge.to p) (subst (λ n. In (numbers p (suc k) edges) (Some n)) (omega arith)
    (in_numbers p (suc k) j edges other (omega arith) e))
  where
    by : (b : Bool) → In (numbers p (suc k) edges) (Some (k + suc j)) →
        In (if b then Some k ∷ numbers p (suc k) edges else numbers p (suc k) edges) (Some (k + suc j))
    by true m = inr m
    by false m = m

module _ (system : Equations) where
  options : Unknown → List (Option ℕ)
  options u = None ∷ numbers u.point 0 system.edges

  code : Pick → List (Option ℕ)
  code pick = map (λ u. pick u.point u.row) (unknowns system)

  all_codes : List (List (Option ℕ))
  all_codes = tuples (map options (unknowns system))

  count_codes : length all_codes ≡ pick_count system
  unfolding all_codes pick_count options
  count_codes = length-tuples (map options (unknowns system)) ∙ ap product (same (unknowns system))
    where
      same : (us : List Unknown) → map length (map options us) ≡ map (λ u. suc (length (edges_into u.point system.edges))) us
      same [] = refl
      same (u ∷ us) = ap₂ (λ a b. suc a ∷ b) (length-numbers u.point 0 system.edges) (same us)

  -- every unknown in range is listed
  pub in_unknowns : (p r : ℕ) → p < system.points → r < length system.template → In (unknowns system) (record { point = p; row = r })
  unfolding unknowns
  in_unknowns p r h l =
      in_flat_map (λ p. map (λ r. record { point = p; row = r }) (range_with_len 0 (length system.template)))
      (range_with_len 0 system.points) p (record { point = p; row = r })
      (in_range 0 system.points p (omega arith) (omega arith))
      (in_map (λ r. record { point = p; row = r }) (range_with_len 0 (length system.template)) r
      (in_range 0 (length system.template) r (omega arith) (omega arith)))

  in_codes : (pick : Pick) → IsPick system pick → In all_codes (code pick)
  unfolding all_codes code options choice edge_of
  in_codes pick is_pick = in_tuples options (λ u. pick u.point u.row) (unknowns system) (λ u m. by u (pick u.point u.row) refl)
    where
      by : (u : Unknown) (o : Option ℕ) → pick u.point u.row ≡ o → In (None ∷ numbers u.point 0 system.edges) o
      by u None e = inl refl
      by u (Some k) e =
          let placed = is_pick (choice u.point u.row k) e in
          inr (subst (λ n. In (numbers u.point 0 system.edges) (Some n)) (omega arith)
          (in_numbers u.point 0 k system.edges (record { from = 0; to = 0; actions = [] }) placed.edge_within placed.into))

  -- picks with one code are the same
  same_picks : (a b : Pick) → IsPick system a → IsPick system b → code a ≡ code b → (p r : ℕ) → a p r ≡ b p r
  unfolding code choice
  same_picks a b is_a is_b e p r = by (a p r) (b p r) refl refl
    where
      inside : p < system.points → r < length system.template → a p r ≡ b p r
      inside h l = same_at (λ u. a u.point u.row) (λ u. b u.point u.row) (unknowns system) e (record { point = p; row = r })
          (in_unknowns p r h l)

      by : (x y : Option ℕ) → a p r ≡ x → b p r ≡ y → a p r ≡ b p r
      by (Some k) y f g = let placed = is_a (choice p r k) f in inside placed.point_within placed.row_within
      by None (Some k) f g = let placed = is_b (choice p r k) g in inside placed.point_within placed.row_within
      by None None f g = f ∙ sym g

-- rounds are fewer than the product over all unknowns of 1 + the number of edges into its point
pub rounds_fewer : (system : Equations) (T : Transformer) (reaches : (z : Vector) (edge : Edge) (row : List ℤ)
    → Reaches system z edge row (T z edge row))
    (n : ℕ) (d z : ℕ → Vector) (pick : ℕ → Pick) (steps : ℕ → List Step) → Rounds system T n d z pick steps → n < pick_count system
rounds_fewer system T reaches n d z pick steps rounds =
    let few = pigeonhole (suc n) (λ k. code system (pick k)) (all_codes system)
    (λ k h. in_codes system (pick k) ((rounds.tight k (omega arith)).supported.is_pick))
    (λ i j h l e. no_twice system T reaches n d z pick steps rounds i j h (omega arith)
    (same_picks system (pick i) (pick j) (rounds.tight i (omega arith)).supported.is_pick (rounds.tight j (omega arith)).supported.is_pick
    e)) in
    omega (arith, few, count_codes system)
