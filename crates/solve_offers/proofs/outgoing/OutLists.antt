-- The numbers of edges out of each point, edge by edge.
use Rattle.std.proofs.Common.{◌≡◌, ◌∙◌, ◌⊎◌, ⊎_elim, inl, inr, ℕ, ◌+◌, ◌<◌, ◌≤◌, List, [], ◌∷◌, ◌++◌, length, set, get_or, refl, sym, ap}
use Rattle.std.proofs.Common.{subst, arith}
use Rattle.std.specs.Prelude.{replicate}
use Rattle.std.proofs.lemmas.Bool.{cases_lt}
use Rattle.std.proofs.lemmas.Bool.Decides.{eqb_tells}
use Rattle.std.proofs.lemmas.List.{get_or_default, get_or_past, get_or-set_same, get_or-set_other, get_or-replicate, length-replicate}
use Rattle.std.proofs.lemmas.List.{length-set}
use Rattle.base_facts.proofs.elements.Membership.{in_left, in_right, of_append}
use Rattle.base_facts.specs.Elements.{In}
use Rattle.flow_edges.specs.declared.edge.Edge.{Edge}
use Rattle.flow_systems.specs.declared.system.System.{System}
use Rattle.flow_systems.specs.View.{edge_at}
use Rattle.solve_offers.specs.Outgoing.{AreLeaving}

-- a list of empty lists has only empty lists
all_empty : (lists : List (List ℕ)) (n p : ℕ) → lists ≡ replicate n [] → get_or lists p [] ≡ []
all_empty lists n p is = ⊎_elim (λ l. ap (λ ls. get_or ls p []) is ∙ get_or-replicate n p [] [] l)
    (λ l. get_or_past lists p [] (let e = ap (λ ls. length ls) is ∙ length-replicate n [] in omega (arith, l, e)))
    (cases_lt p n)

module _ (system : System) where
  -- of the first n edges each is listed at the point where it starts
  pub record LeavingTo (lists : List (List ℕ)) (n : ℕ) : Type 0 where
    -- there is one list for each point
    pub size : length lists ≡ length system.flow.points
    -- each number that is listed is that of an edge
    pub within : (p number : ℕ) → In (get_or lists p []) number → number < length system.flow.edges
    -- which starts at the point of the list
    pub starts : (p number : ℕ) → In (get_or lists p []) number → (edge_at system number).from ≡ p
    -- each edge so far is listed where it starts
    pub listed : (edge : ℕ) → edge < n → In (get_or lists (edge_at system edge).from []) edge

  -- no edge is listed
  pub leaving_none : (lists : List (List ℕ)) → lists ≡ replicate (length system.flow.points) [] → LeavingTo lists 0
  leaving_none lists e = record {
    size = ap (λ ls. length ls) e ∙ length-replicate (length system.flow.points) [];
    within = λ p number m. absurd (none p number m);
    starts = λ p number m. absurd (none p number m);
    listed = λ edge l. absurd (omega (arith, l));
  }
    where
      none : (p number : ℕ) → In (get_or lists p []) number → ⊥
      none p number m = subst (λ ns. In ns number) (all_empty lists (length system.flow.points) p e) m

  -- one more edge is listed at its start
  pub leaving_more : (old new : List (List ℕ)) (n : ℕ) (edge : Edge) (numbers : List ℕ) → LeavingTo old n → n < length system.flow.edges
      → edge_at system n ≡ edge → edge.from < length system.flow.points → numbers ≡ get_or old edge.from numbers
      → new ≡ set old edge.from (numbers ++ n ∷ []) → LeavingTo new (n + 1)
  leaving_more old new n edge numbers so_far l here start old_is new_is = record {
    size = ap (λ ls. length ls) new_is ∙ length-set old edge.from (numbers ++ n ∷ []) ∙ so_far.size;
    within = λ p number m. ⊎_elim (λ k. so_far.within p number k) (λ k. subst (λ x. x < length system.flow.edges) k.0 l)
        (listed_in p number m);
    starts = λ p number m. ⊎_elim (λ k. so_far.starts p number k)
        (λ k. ap (λ x. (edge_at system x).from) (sym k.0) ∙ ap (λ (x : Edge). x.from) here ∙ k.1) (listed_in p number m);
    listed = λ k b. ⊎_elim
        (λ e. subst (λ x. In (get_or new (edge_at system x).from []) x) (sym e.1)
        (subst (λ (x : Edge). In (get_or new x.from []) n) (sym here)
        (subst (λ ns. In ns n) (sym at_start) (in_right numbers (n ∷ []) n (inl refl)))))
        (λ apart. kept k (so_far.listed k (omega (arith, b, apart.1))))
        (eqb_tells k n);
  }
    where
      placed : edge.from < length old
      placed = let s = so_far.size in omega (arith, start, s)

      was : numbers ≡ get_or old edge.from []
      was = old_is ∙ get_or_default old edge.from numbers [] placed

      at_start : get_or new edge.from [] ≡ numbers ++ n ∷ []
      at_start = ap (λ ls. get_or ls edge.from []) new_is ∙ get_or-set_same old edge.from (numbers ++ n ∷ []) [] placed

      elsewhere : (p : ℕ) → (p ≡ edge.from → ⊥) → get_or new p [] ≡ get_or old p []
      elsewhere p apart = ap (λ ls. get_or ls p []) new_is ∙ get_or-set_other old edge.from p (numbers ++ n ∷ []) [] apart

      -- a number that is listed was so before, or is the new one at its start
      listed_in : (p number : ℕ) → In (get_or new p []) number → In (get_or old p []) number ⊎ ((n ≡ number) × (edge.from ≡ p))
      listed_in p number m = ⊎_elim
          (λ e. ⊎_elim
          (λ k. inl (subst (λ q. In (get_or old q []) number) (sym e.1) (subst (λ ns. In ns number) was k)))
          (λ k. ⊎_elim (λ same. inr (same, sym e.1)) (λ none. absurd none) k)
          (of_append numbers (n ∷ []) number (subst (λ ns. In ns number) (ap (λ q. get_or new q []) e.1 ∙ at_start) m)))
          (λ apart. inl (subst (λ ns. In ns number) (elsewhere p apart.1) m))
          (eqb_tells p edge.from)

      kept : (k : ℕ) → In (get_or old (edge_at system k).from []) k → In (get_or new (edge_at system k).from []) k
      kept k m = ⊎_elim
          (λ e. subst (λ q. In (get_or new q []) k) (sym e.1) (subst (λ ns. In ns k) (sym at_start)
          (in_left numbers (n ∷ []) k (subst (λ ns. In ns k) (sym was) (subst (λ q. In (get_or old q []) k) e.1 m)))))
          (λ apart. subst (λ ns. In ns k) (sym (elsewhere (edge_at system k).from apart.1)) m)
          (eqb_tells (edge_at system k).from edge.from)

  -- all edges are listed
  pub leaving_all : (lists : List (List ℕ)) (n : ℕ) → length system.flow.edges ≤ n → LeavingTo lists n → AreLeaving system lists
  leaving_all lists n last so_far = record {
    size = so_far.size;
    within = so_far.within;
    starts = so_far.starts;
    listed = λ edge l. so_far.listed edge (omega (arith, l, last));
  }
