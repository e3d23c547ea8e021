-- The evidence of upper bounds, edge by edge, row by row and point by point.
use Rattle.std.proofs.Common.{◌≡◌, ◌∙◌, ℕ, suc, ◌+◌, ◌-◌, ◌<◌, ◌≤◌, eqb, Bool, true, false, true≢false, List, [], ◌∷◌, ◌++◌, length, map}
use Rattle.std.proofs.Common.{take, get_or, refl, sym, ap, ap₂, arith, if◌then◌else◌}
use Rattle.std.specs.Prelude.{flat_map}
use Rattle.std.specs.List.{range_with_len}
use Rattle.std.proofs.Math.Path.{fun_ext}
use Rattle.std.proofs.lemmas.Grind.{flat_map-append}
use Rattle.std.proofs.lemmas.List.{map-append, append-nil, append_assoc, take_more, take_all}
use Rattle.base_numbers.specs.Extended.{Ext as Extended, neg_inf, fin, pos_inf}
use Rattle.flow_edges.specs.declared.edge.Edge.{Edge}
use Rattle.flow_systems.specs.Equations.{Equations, Vector}
use Rattle.flow_systems.specs.View.{equations_of}
use Rattle.flow_systems.specs.declared.system.System.{System}
use Rattle.theory_validity.specs.Certificates.{Evidence, Need, into_needs, needs_at, needs}
use Rattle.cert_types.specs.declared.upper.Upper.{Upper}
use Rattle.cert_types.specs.Certificates.{evidence_of}
use Rattle.theory_rounds.specs.Made.{exact_upper, uppers_for, exact_uppers}
use Rattle.solve_offers.specs.AtBounds.{vector_at, edge_at, row_at}
use Rattle.solve_offers.specs.Improvement.{numbers_into}
use Rattle.solve_offers.specs.Offers.{is_top}
use Rattle.solve_rounds.specs.Uppers.{uppers_into, uppers_of_rows}
use Rattle.solve_rounds.proofs.growing.Walked.{range-append}
use Rattle.solve_rounds.proofs.uppers.IntoNumbers.{nowhere}

module _ (system : Equations) (z : Vector) where
  uppers_for-append : (xs ys : List Need) → uppers_for system z (xs ++ ys) ≡ uppers_for system z xs ++ uppers_for system z ys
  unfolding uppers_for
  uppers_for-append [] ys = refl
  uppers_for-append (x ∷ xs) ys = ap (λ s. exact_upper system z x.edge (get_or system.template x.row []) ∷ s) (uppers_for-append xs ys)

  uppers_for-flat : (f : ℕ → List Need) (xs : List ℕ) → uppers_for system z (flat_map f xs) ≡ flat_map (λ x. uppers_for system z (f x)) xs
  unfolding uppers_for
  uppers_for-flat f [] = refl
  uppers_for-flat f (x ∷ xs) = uppers_for-append (f x) (flat_map f xs) ∙ ap (λ s. uppers_for system z (f x) ++ s) (uppers_for-flat f xs)

  -- ---- edges
  module _ (p r : ℕ) where
    -- the evidence for the edges into a point is that of their numbers, one after the other
    numbers_upper : (f : ℕ → Edge) (k : ℕ) (edges : List Edge) → ((i : ℕ) → i < length edges → f (k + i) ≡ get_or edges i nowhere) →
        map (λ n. exact_upper system z (f n) (get_or system.template r [])) (numbers_into p k edges)
        ≡ uppers_for system z (into_needs p r k edges)
    unfolding uppers_for into_needs numbers_into
    numbers_upper f k [] e = refl
    numbers_upper f k (edge ∷ edges) e = by (eqb edge.to p) (numbers_upper f (suc k) edges
        (λ i l. ap f (let s : suc k + i ≡ k + suc i = omega arith in s) ∙ e (suc i) (omega (arith, l))))
      where
        here : f k ≡ edge
        here = ap f (let s : k ≡ k + 0 = omega arith in s) ∙ e 0 (omega arith)

        by : (b : Bool) → map (λ n. exact_upper system z (f n) (get_or system.template r [])) (numbers_into p (suc k) edges)
            ≡ uppers_for system z (into_needs p r (suc k) edges) →
            map (λ n. exact_upper system z (f n) (get_or system.template r []))
            (if b then k ∷ numbers_into p (suc k) edges else numbers_into p (suc k) edges)
            ≡ uppers_for system z (if b then record { edge = edge; number = k; row = r } ∷ into_needs p r (suc k) edges
            else into_needs p r (suc k) edges)
        by true h = ap₂ (λ x xs. x ∷ xs) (ap (λ x. exact_upper system z x (get_or system.template r [])) here) h
        by false h = h

  -- ---- rows
  module _ (p : ℕ) where
    rows_more : (r : ℕ) → uppers_of_rows system z p (r + 1) ≡ uppers_of_rows system z p r
        ++ uppers_for system z (needs_at system p r (z p r))
    rows_more r =
        ap (flat_map (λ k. uppers_for system z (needs_at system p k (z p k))))
        (range-append 0 r 1 ∙ ap (λ n. range_with_len 0 r ++ range_with_len n 1) (let e : 0 + r ≡ r = omega arith in e))
        ∙ flat_map-append (λ k. uppers_for system z (needs_at system p k (z p k))) (range_with_len 0 r) (range_with_len r 1)
        ∙ ap (λ s. uppers_of_rows system z p r ++ s) (append-nil (uppers_for system z (needs_at system p r (z p r))))

    -- a row whose bound is +∞ needs nothing
    pub rows_top : (r : ℕ) → is_top (z p r) ≡ true → uppers_of_rows system z p r ≡ uppers_of_rows system z p (r + 1)
    unfolding needs_at uppers_for
    rows_top r e = sym (rows_more r ∙ ap (λ s. uppers_of_rows system z p r ++ s) (by (z p r) e) ∙ append-nil (uppers_of_rows system z p r))
      where
        by : (v : Extended) → is_top v ≡ true → uppers_for system z (needs_at system p r v) ≡ []
        by neg_inf f = absurd (true≢false (sym f))
        by (fin c) f = absurd (true≢false (sym f))
        by pos_inf f = refl

    -- another needs the evidence for each edge into the point
    pub rows_edges : (r : ℕ) → is_top (z p r) ≡ false → uppers_of_rows system z p r ++ uppers_into system z p r
        ≡ uppers_of_rows system z p (r + 1)
    unfolding needs_at uppers_for
    rows_edges r e = sym (rows_more r ∙ ap (λ s. uppers_of_rows system z p r ++ s) (by (z p r) e))
      where
        by : (v : Extended) → is_top v ≡ false → uppers_for system z (needs_at system p r v) ≡ uppers_into system z p r
        by neg_inf f = refl
        by (fin c) f = refl
        by pos_inf f = absurd (true≢false f)

  -- ---- points
  -- the evidence for the first n points after the entry
  abbrev pub uppers_of_points : ℕ → List Evidence
  uppers_of_points n = flat_map (λ p. uppers_of_rows system z p (length system.template)) (range_with_len 1 n)

  -- one point more extends the evidence of the points by that of its rows
  pub points_more : (n : ℕ) → uppers_of_points n ++ uppers_of_rows system z (1 + n) (length system.template) ≡ uppers_of_points (n + 1)
  points_more n =
      ap (λ s. uppers_of_points n ++ s) (sym (append-nil (uppers_of_rows system z (1 + n) (length system.template))))
      ∙ sym (flat_map-append (λ p. uppers_of_rows system z p (length system.template)) (range_with_len 1 n) (range_with_len (1 + n) 1))
      ∙ ap (flat_map (λ p. uppers_of_rows system z p (length system.template))) (sym (range-append 1 n 1))

  -- of all points it is the whole evidence
  pub all_points : uppers_of_points (system.points - 1) ≡ exact_uppers system z
  unfolding exact_uppers needs
  all_points =
      sym (uppers_for-flat (λ p. flat_map (λ r. needs_at system p r (z p r)) (range_with_len 0 (length system.template)))
      (range_with_len 1 (system.points - 1))
      ∙ ap (λ f. flat_map f (range_with_len 1 (system.points - 1)))
      (fun_ext (λ p. uppers_for-flat (λ r. needs_at system p r (z p r)) (range_with_len 0 (length system.template)))))

-- ---- edges of a system
module _ (system : System) (bounds : List Extended) (row : ℕ) where
  -- the evidence of the first of some numbers of edges
  abbrev pub uppers_to : List ℕ → ℕ → List Evidence
  uppers_to numbers n = map (λ k. exact_upper (equations_of system) (vector_at system bounds) (edge_at system k) (row_at system row))
      (take n numbers)

  -- one number more has its evidence behind the others
  pub uppers_more : (numbers : List ℕ) (i : ℕ) → i < length numbers → uppers_to numbers i
      ++ exact_upper (equations_of system) (vector_at system bounds) (edge_at system (get_or numbers i 0)) (row_at system row) ∷ []
      ≡ uppers_to numbers (i + 1)
  uppers_more numbers i l =
      let upper : ℕ → Evidence
      = λ k. exact_upper (equations_of system) (vector_at system bounds) (edge_at system k) (row_at system row) in
      sym (ap (map upper) (take_more numbers i 0 l) ∙ map-append upper (take i numbers) (get_or numbers i 0 ∷ []))

  -- that of all numbers of the edges into a point is its evidence
  pub uppers_all : (p : ℕ) (numbers : List ℕ) (i : ℕ) → length numbers ≤ i → numbers ≡ numbers_into p 0 system.flow.edges
      → uppers_to numbers i ≡ uppers_into (equations_of system) (vector_at system bounds) p row
  uppers_all p numbers i l are =
      ap (map (λ k. exact_upper (equations_of system) (vector_at system bounds) (edge_at system k) (row_at system row)))
      (take_all i numbers l ∙ are)
      ∙ numbers_upper (equations_of system) (vector_at system bounds) p row (edge_at system) 0 system.flow.edges
      (λ j k. ap (edge_at system) (let s : 0 + j ≡ j = omega arith in s))

-- one more piece of evidence
pub pushed : (before all : List Upper) (upper : Upper) (old rest : List Evidence) → all ≡ before ++ upper ∷ []
    → map evidence_of before ≡ old ++ rest → map evidence_of all ≡ old ++ (rest ++ evidence_of upper ∷ [])
pushed before all upper old rest e h = ap (map evidence_of) e ∙ map-append evidence_of before (upper ∷ [])
    ∙ ap (λ s. s ++ evidence_of upper ∷ []) h ∙ append_assoc old rest (evidence_of upper ∷ [])
