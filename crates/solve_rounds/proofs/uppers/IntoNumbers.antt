-- The numbers of the edges into a point, as they are listed there.
use Rattle.std.proofs.Common.{◌≡◌, ◌∙◌, ℕ, zero, suc, ◌+◌, ◌<◌, eqb, Bool, true, false, List, [], ◌∷◌, length, get_or, refl, sym, ap, subst}
use Rattle.std.proofs.Common.{arith, if◌then◌else◌}
use Rattle.std.proofs.lemmas.List.FromFn.{get_or-map-range_with_len, length-map-range_with_len}
use Rattle.std.proofs.lemmas.Bool.{eqb-true}
use Rattle.flow_edges.specs.declared.edge.Edge.{Edge}
use Rattle.flow_systems.specs.declared.system.System.{System}
use Rattle.solve_offers.specs.declared.known.Known.{Known}
use Rattle.solve_offers.specs.AtBounds.{edge_at}
use Rattle.solve_offers.specs.Improvement.{numbers_into}
use Rattle.solve_offers.specs.Incoming.{numbers_at}
use Rattle.solve_offers.specs.Known.{HasMarks}

-- what stands where there is no edge
abbrev pub nowhere : Edge
nowhere = record { from = 0; to = 0; actions = [] }

-- a number is below another one, and that of an edge into a point
abbrev IsInto : (ℕ → Edge) → ℕ → ℕ → ℕ → Type 0
IsInto f p end number = (number < end) × ((f number).to ≡ p)

-- so is each number of the edges that end there
numbers_here : (f : ℕ → Edge) (p k : ℕ) (edges : List Edge) → ((i : ℕ) → i < length edges → f (k + i) ≡ get_or edges i nowhere) → (i : ℕ)
    → i < length (numbers_into p k edges) → IsInto f p (k + length edges) (get_or (numbers_into p k edges) i 0)
unfolding numbers_into
numbers_here f p k [] e i l = absurd (omega (arith, l))
numbers_here f p k (edge ∷ edges) e i l = by (eqb edge.to p) refl i l (numbers_here f p (suc k) edges
    (λ j m. ap f (let s : suc k + j ≡ k + suc j = omega arith in s) ∙ e (suc j) (omega (arith, m))))
  where
    here : f k ≡ edge
    here = ap f (let s : k ≡ k + 0 = omega arith in s) ∙ e 0 (omega arith)

    by : (b : Bool) → eqb edge.to p ≡ b → (i : ℕ)
        → i < length (if b then k ∷ numbers_into p (suc k) edges else numbers_into p (suc k) edges)
        → ((j : ℕ) → j < length (numbers_into p (suc k) edges)
        → IsInto f p (suc k + length edges) (get_or (numbers_into p (suc k) edges) j 0)) → IsInto f p (k + length (edge ∷ edges))
        (get_or (if b then k ∷ numbers_into p (suc k) edges else numbers_into p (suc k) edges) i 0)
    by false t i l rest = let r = rest i l in let m = r.0 in (omega (arith, m), r.1)
    by true t (suc i) l rest = let r = rest i (omega (arith, l)) in let m = r.0 in (omega (arith, m), r.1)
    by true t zero l rest = (omega arith, ap (λ (x : Edge). x.to) here ∙ eqb-true edge.to p t)

-- there is a list for each point
pub listed_size : (system : System) (known : Known) → HasMarks system known → length known.incoming ≡ length system.flow.points
listed_size system known marks = ap (λ ls. length ls) marks.listed
    ∙ length-map-range_with_len (λ p. numbers_into p 0 system.flow.edges) 0 (length system.flow.points)

module _ (system : System) (p : ℕ) (within : p < length system.flow.points) where
  -- the numbers that are listed at a point
  abbrev pub into : List ℕ
  into = numbers_at (length system.flow.points) system.flow.edges p

  -- are those of the edges into it
  pub into_is : into ≡ numbers_into p 0 system.flow.edges
  into_is = get_or-map-range_with_len (λ q. numbers_into q 0 system.flow.edges) 0 (length system.flow.points) p p [] within (omega arith)

  -- each is one of the system's
  module _ (number place : ℕ) (l : place < length into) (is : number ≡ get_or into place 0) where
    number_is : IsInto (edge_at system) p (length system.flow.edges) number
    number_is = subst (IsInto (edge_at system) p (length system.flow.edges)) (sym is)
        (subst (λ ns. IsInto (edge_at system) p (length system.flow.edges) (get_or ns place 0)) (sym into_is)
        (subst (λ n. IsInto (edge_at system) p n (get_or (numbers_into p 0 system.flow.edges) place 0))
        (let s : 0 + length system.flow.edges ≡ length system.flow.edges = omega arith in s)
        (numbers_here (edge_at system) p 0 system.flow.edges (λ j m. ap (edge_at system) (let s : 0 + j ≡ j = omega arith in s)) place
        (subst (λ ns. place < length ns) into_is l))))

    -- it is below the count of edges
    pub number_within : number < length system.flow.edges
    number_within = number_is.0

    -- and its edge ends there
    pub number_to : (edge_at system number).to ≡ p
    number_to = number_is.1
