-- Offers made number by number.
use Rattle.std.proofs.Common.{◌≡◌, ◌∙◌, ℕ, zero, suc, ◌+◌, ◌-◌, ◌<◌, ◌≤◌, eqb, Bool, true, false, List, [], ◌∷◌, ◌++◌, length, map, take}
use Rattle.std.proofs.Common.{get_or, refl, sym, ap, ap₂, subst, arith, if◌then◌else◌}
use Rattle.std.proofs.lemmas.List.{map-append, length-map, take_more, take_all}
use Rattle.std.proofs.lemmas.List.FromFn.{get_or-map-range_with_len}
use Rattle.std.proofs.lemmas.Bool.{eqb-true}
use Rattle.flow_edges.specs.declared.edge.Edge.{Edge}
use Rattle.theory_validity.specs.Certificates.{edges_into}
use Rattle.base_numbers.specs.Extended.{Ext as Extended}
use Rattle.base_fractions.specs.declared.ext.Ext.{Ext}
use Rattle.base_fractions.specs.Extended.{extended}
use Rattle.flow_systems.specs.declared.system.System.{System}
use Rattle.solve_offers.specs.AtBounds.{transformers, vector_at, edge_at, row_at, IsTransformerAt}
use Rattle.solve_offers.specs.Improvement.{numbers_into}
use Rattle.solve_offers.specs.Incoming.{numbers_by_point}

abbrev nowhere : Edge
nowhere = record { from = 0; to = 0; actions = [] }

-- a number of the edges that end at a point is that of such an edge
record IsNumberInto (p k : ℕ) (edges : List Edge) (number : ℕ) : Type 0 where
  from : k ≤ number
  within : number < k + length edges
  to : (get_or edges (number - k) nowhere).to ≡ p

-- the numbers and the edges of those that end at a point
module _ (p : ℕ) where
  into_more : (k : ℕ) (first : Edge) (edges : List Edge) (number : ℕ) → IsNumberInto p (suc k) edges number
      → IsNumberInto p k (first ∷ edges) number
  into_more k first edges number h =
      let low = h.from in
      let high = h.within in
      record {
        from = omega arith;
        within = omega arith;
        to = ap (λ i. (get_or (first ∷ edges) i nowhere).to) (let e : number - k ≡ suc (number - suc k) = omega arith in e) ∙ h.to;
      }

  numbers_are : (k : ℕ) (edges : List Edge) (i : ℕ) → i < length (numbers_into p k edges)
      → IsNumberInto p k edges (get_or (numbers_into p k edges) i 0)
  unfolding numbers_into
  numbers_are k [] i l = absurd (omega (arith, l))
  numbers_are k (edge ∷ edges) i l = by (eqb edge.to p) refl i l (numbers_are (suc k) edges)
    where
      by : (b : Bool) → eqb edge.to p ≡ b → (i : ℕ) → i < length (if b then k ∷ numbers_into p (suc k) edges else numbers_into p (suc k)
          edges) → ((j : ℕ) → j < length (numbers_into p (suc k) edges)
          → IsNumberInto p (suc k) edges (get_or (numbers_into p (suc k) edges) j 0))
          → IsNumberInto p k (edge ∷ edges) (get_or (if b then k ∷ numbers_into p (suc k) edges else numbers_into p (suc k) edges) i 0)
      by false e i l rest = into_more k edge edges (get_or (numbers_into p (suc k) edges) i 0) (rest i l)
      by true e (suc i) l rest = into_more k edge edges (get_or (numbers_into p (suc k) edges) i 0) (rest i (omega (arith, l)))
      by true e zero l rest = record {
        from = omega arith;
        within = omega arith;
        to = ap (λ i. (get_or (edge ∷ edges) i nowhere).to) (let z : k - k ≡ 0 = omega arith in z) ∙ eqb-true edge.to p e;
      }

  -- the edges of the numbers are those that end there
  edges_of_numbers : (f : ℕ → Edge) (k : ℕ) (edges : List Edge) → ((i : ℕ) → i < length edges → f (k + i) ≡ get_or edges i nowhere) →
      map f (numbers_into p k edges) ≡ edges_into p edges
  unfolding numbers_into edges_into
  edges_of_numbers f k [] e = refl
  edges_of_numbers f k (edge ∷ edges) e = by (eqb edge.to p) (edges_of_numbers f (suc k) edges
      (λ i l. ap f (let s : suc k + i ≡ k + suc i = omega arith in s) ∙ e (suc i) (omega (arith, l))))
    where
      here : f k ≡ edge
      here = ap f (let s : k ≡ k + 0 = omega arith in s) ∙ e 0 (omega arith)

      by : (b : Bool) → map f (numbers_into p (suc k) edges) ≡ edges_into p edges →
          map f (if b then k ∷ numbers_into p (suc k) edges else numbers_into p (suc k) edges)
          ≡ (if b then edge ∷ edges_into p edges else edges_into p edges)
      by true h = ap₂ (λ x xs. x ∷ xs) here h
      by false h = h

map_twice : {X Y Z : Type 0} (g : Y → Z) (f : X → Y) (xs : List X) → map g (map f xs) ≡ map (λ x. g (f x)) xs
map_twice g f [] = refl
map_twice g f (x ∷ xs) = ap (λ ys. g (f x) ∷ ys) (map_twice g f xs)

module _ (system : System) (p : ℕ) (within : p < length system.flow.points) (numbers : List ℕ)
    (are : numbers ≡ get_or (numbers_by_point (length system.flow.points) system.flow.edges) p []) where
  -- the numbers of a point
  pub point_numbers : numbers ≡ numbers_into p 0 system.flow.edges
  point_numbers = are
      ∙ get_or-map-range_with_len (λ q. numbers_into q 0 system.flow.edges) 0 (length system.flow.points) p p [] within (omega arith)

  into_at : (i : ℕ) → i < length numbers → IsNumberInto p 0 system.flow.edges (get_or numbers i 0)
  into_at i l = subst (λ ns. IsNumberInto p 0 system.flow.edges (get_or ns i 0)) (sym point_numbers)
      (numbers_are p 0 system.flow.edges i (subst (λ ns. i < length ns) point_numbers l))

  -- each is the number of an edge
  pub number_within : (i : ℕ) → i < length numbers → get_or numbers i 0 < length system.flow.edges
  number_within i l = let h = (into_at i l).within in omega arith

  -- that ends at the point
  pub number_to : (i : ℕ) → i < length numbers → (edge_at system (get_or numbers i 0)).to ≡ p
  number_to i l =
      ap (λ k. (edge_at system k).to) (let e : get_or numbers i 0 ≡ get_or numbers i 0 - 0 = omega arith in e)
      ∙ (into_at i l).to

  module _ (bounds : List Extended) (row : ℕ) where
    -- the transformer of the edge of a number and the row
    abbrev pub number_value : ℕ → Extended
    number_value k = transformers system (vector_at system bounds) (edge_at system k) (row_at system row)

    -- one more value
    pub values_more : (i number : ℕ) (before : List Ext) (value : Ext) → i < length numbers → number ≡ get_or numbers i 0 →
        map extended before ≡ map number_value (take i numbers) → IsTransformerAt system bounds number row value →
        map extended (before ++ value ∷ []) ≡ map number_value (take (i + 1) numbers)
    values_more i number before value l is e v =
        map-append extended before (value ∷ [])
        ∙ ap₂ (λ xs x. xs ++ x ∷ []) e (v ∙ ap number_value is)
        ∙ sym (map-append number_value (take i numbers) (get_or numbers i 0 ∷ []))
        ∙ ap (map number_value) (sym (take_more numbers i 0 l))

    -- all values are those of the edges into the point
    pub values_all : (i : ℕ) (values : List Ext) → length numbers ≤ i → map extended values ≡ map number_value (take i numbers) →
        map extended values ≡ map (λ edge. transformers system (vector_at system bounds) edge (row_at system row))
        (edges_into p system.flow.edges)
    values_all i values l e =
        e ∙ ap (map number_value) (take_all i numbers l ∙ point_numbers)
        ∙ sym (map_twice (λ edge. transformers system (vector_at system bounds) edge (row_at system row)) (edge_at system)
        (numbers_into p 0 system.flow.edges))
        ∙ ap (map (λ edge. transformers system (vector_at system bounds) edge (row_at system row)))
        (edges_of_numbers p (edge_at system) 0 system.flow.edges
        (λ j k. ap (edge_at system) (let s : 0 + j ≡ j = omega arith in s)))

    -- all numbers are taken
    pub numbers_all : (i : ℕ) (taken : List ℕ) → length numbers ≤ i → taken ≡ take i numbers → taken ≡ numbers_into p 0 system.flow.edges
    numbers_all i taken l e = e ∙ take_all i numbers l ∙ point_numbers

    -- the numbers and their values are as many
    pub same_count : (i : ℕ) (taken : List ℕ) (values : List Extended) → taken ≡ take i numbers
        → values ≡ map number_value (take i numbers) → length taken ≡ length values
    same_count i taken values n v = ap (λ ns. length ns) n ∙ sym (length-map (take i numbers) number_value) ∙ sym (ap (λ vs. length vs) v)
