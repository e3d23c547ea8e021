-- The numbers of edges into each point, edge by edge.
use Rattle.std.proofs.Common.{◌≡◌, ◌∙◌, ⊎_elim, ℕ, suc, ◌+◌, ◌<◌, ◌≤◌, eqb, Bool, true, false, List, [], ◌∷◌, ◌++◌, length, take, set}
use Rattle.std.proofs.Common.{get_or, refl, sym, ap, ap₂, arith, length-take-le, length-set, if◌then◌else◌}
use Rattle.std.specs.Prelude.{replicate}
use Rattle.std.proofs.lemmas.List.{append-nil, take_more, take_all, get_or_default, get_or-set_same, get_or-set_other}
use Rattle.std.proofs.lemmas.List.{get_or-replicate, length-replicate}
use Rattle.std.proofs.lemmas.List.FromFn.{fill_by_all}
use Rattle.std.proofs.lemmas.Bool.Decides.{eqb_tells}
use Rattle.flow_edges.specs.declared.edge.Edge.{Edge}
use Rattle.solve_offers.specs.Improvement.{numbers_into}
use Rattle.solve_offers.specs.Incoming.{numbers_by_point}

eqb_is : (a b : ℕ) → a ≡ b → eqb a b ≡ true
eqb_is a b e = ⊎_elim (λ t. t.0) (λ t. absurd (t.1 e)) (eqb_tells a b)

eqb_is_not : (a b : ℕ) → (a ≡ b → ⊥) → eqb a b ≡ false
eqb_is_not a b e = ⊎_elim (λ t. absurd (e t.1)) (λ t. t.0) (eqb_tells a b)

module _ (p : ℕ) where
  -- the number of an edge that ends there, or nothing
  here : ℕ → Edge → List ℕ
  here k edge = if eqb edge.to p then k ∷ [] else []

  numbers-more : (k : ℕ) (edges : List Edge) (edge : Edge) → numbers_into p k (edges ++ edge ∷ [])
      ≡ numbers_into p k edges ++ here (k + length edges) edge
  unfolding numbers_into here
  numbers-more k [] edge = ap (λ n. if eqb edge.to p then n ∷ [] else []) (let e : k ≡ k + 0 = omega arith in e)
  numbers-more k (first ∷ edges) edge = by (eqb first.to p) (numbers-more (suc k) edges edge
      ∙ ap (λ n. numbers_into p (suc k) edges ++ here n edge) (let e : suc k + length edges ≡ k + length (first ∷ edges) = omega arith in
      e))
    where
      by : (b : Bool) → numbers_into p (suc k) (edges ++ edge ∷ []) ≡ numbers_into p (suc k) edges ++ here (k + length (first ∷ edges)) edge
          →
          (if b then k ∷ numbers_into p (suc k) (edges ++ edge ∷ []) else numbers_into p (suc k) (edges ++ edge ∷ []))
          ≡ (if b then k ∷ numbers_into p (suc k) edges else numbers_into p (suc k) edges) ++ here (k + length (first ∷ edges)) edge
      by true e = ap (λ ns. k ∷ ns) e
      by false e = e

  module _ (edges : List Edge) (i : ℕ) (edge : Edge) (l : i < length edges) (is : edge ≡ get_or edges i edge) where
    first_more : take (i + 1) edges ≡ take i edges ++ edge ∷ []
    first_more = take_more edges i edge l ∙ ap (λ x. take i edges ++ x ∷ []) (sym is)

    count : 0 + length (take i edges) ≡ i
    count = (let e : length (take i edges) ≡ i = length-take-le i edges (omega arith) in omega arith)

    -- an edge into the point joins its numbers
    numbers_yes : edge.to ≡ p → numbers_into p 0 (take (i + 1) edges) ≡ numbers_into p 0 (take i edges) ++ i ∷ []
    unfolding here
    numbers_yes to = ap (numbers_into p 0) first_more ∙ numbers-more 0 (take i edges) edge
        ∙ ap₂ (λ n b. numbers_into p 0 (take i edges) ++ (if b then n ∷ [] else [])) count (eqb_is edge.to p to)

    -- another edge doesn't
    numbers_no : (edge.to ≡ p → ⊥) → numbers_into p 0 (take (i + 1) edges) ≡ numbers_into p 0 (take i edges)
    unfolding here
    numbers_no to = ap (numbers_into p 0) first_more ∙ numbers-more 0 (take i edges) edge
        ∙ ap (λ b. numbers_into p 0 (take i edges) ++ (if b then (0 + length (take i edges)) ∷ [] else [])) (eqb_is_not edge.to p to)
        ∙ append-nil (numbers_into p 0 (take i edges))

-- no edges have no numbers
numbers_none : (p k : ℕ) → numbers_into p k [] ≡ []
unfolding numbers_into
numbers_none p k = refl

-- each point's list has the numbers of the first n edges that end there
pub record AreListed (points : ℕ) (edges : List Edge) (lists : List (List ℕ)) (n : ℕ) : Type 0 where
  -- there is one list for each point
  pub size : length lists ≡ points
  -- the list of a point has those that end there
  pub each : (p : ℕ) → p < points → get_or lists p [] ≡ numbers_into p 0 (take n edges)

module _ (points : ℕ) (edges : List Edge) where
  -- no edge is listed
  pub listed_none : (lists : List (List ℕ)) → lists ≡ replicate points [] → AreListed points edges lists 0
  listed_none lists e = record {
    size = ap (λ ls. length ls) e ∙ length-replicate points [];
    each = λ p l. ap (λ ls. get_or ls p []) e ∙ get_or-replicate points p [] [] l ∙ sym (numbers_none p 0);
  }

  -- one more edge is listed at its end
  pub listed_more : (old new : List (List ℕ)) (n : ℕ) (edge : Edge) (numbers : List ℕ) → AreListed points edges old n → n < length edges
      → edge ≡ get_or edges n edge → edge.to < points → numbers ≡ get_or old edge.to numbers
      → new ≡ set old edge.to (numbers ++ n ∷ []) → AreListed points edges new (n + 1)
  listed_more old new n edge numbers are l is within old_is new_is = record {
    size = ap (λ ls. length ls) new_is ∙ length-set old edge.to (numbers ++ n ∷ []) ∙ are.size;
    each = λ p k.
        ap (λ ls. get_or ls p []) new_is
        ∙ ⊎_elim
        (λ e. ap (λ q. get_or (set old edge.to (numbers ++ n ∷ [])) q []) (sym e.1)
        ∙ get_or-set_same old edge.to (numbers ++ n ∷ []) [] placed
        ∙ ap (λ ns. ns ++ n ∷ []) (old_is ∙ get_or_default old edge.to numbers [] placed ∙ ap (λ q. get_or old q []) e.1 ∙ are.each p k)
        ∙ sym (numbers_yes p edges n edge l is e.1))
        (λ e. get_or-set_other old edge.to p (numbers ++ n ∷ []) [] (λ same. e.1 (sym same)) ∙ are.each p k
        ∙ sym (numbers_no p edges n edge l is e.1))
        (eqb_tells edge.to p);
  }
    where
      placed : edge.to < length old
      placed = let s = are.size in omega (arith, within, s)

  -- all edges are listed
  pub listed_all : (lists : List (List ℕ)) (n : ℕ) → length edges ≤ n → AreListed points edges lists n
      → lists ≡ numbers_by_point points edges
  listed_all lists n l are = fill_by_all (λ p. numbers_into p 0 edges) lists points [] are.size
      (λ p k. are.each p k ∙ ap (numbers_into p 0) (take_all n edges l))
