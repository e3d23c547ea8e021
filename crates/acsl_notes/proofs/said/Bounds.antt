-- The bounds of a point among those of all points.
use Rattle.std.proofs.Common.{◌≡◌, ◌<◌, ◌≤◌, ◌+◌, ◌*◌, ℕ, suc, ℤ, List, [], ◌∷◌, drop, get_or, length, map, take, refl, ap, sym, ◌∙◌, arith}
use Rattle.std.proofs.Common.{add-zero}
use Rattle.std.proofs.lemmas.List.{take-map, drop-map, get_or-take, get_or-drop, length-take-le, length-drop}
use Rattle.base_fractions.specs.declared.ext.Ext.{Ext}
use Rattle.base_fractions.specs.Extended.{extended}
use Rattle.base_numbers.specs.Extended.{Ext as Extended, neg_inf, fin, pos_inf}
use Rattle.flow_systems.specs.View.{vector_of}
use Rattle.acsl_notes.specs.Clauses.{Bounded, clauses, clauses_unless, bounded_from}
use Rattle.acsl_notes.specs.View.{bound_at, bounded, clauses_in}

-- the bound of a row, among those of its point
bound_at_slice : (bounds : List Ext) (first rows k : ℕ) → k < rows → bound_at (take rows (drop first bounds)) k
    ≡ get_or (map extended bounds) (first + k) neg_inf
bound_at_slice bounds first rows k lt =
    ap (λ list. get_or list k neg_inf) (sym (take-map extended rows (drop first bounds))
    ∙ ap (take rows) (sym (drop-map extended first bounds)))
    ∙ get_or-take rows (drop first (map extended bounds)) k neg_inf lt
    ∙ get_or-drop first (map extended bounds) k neg_inf

-- rows with bounds by their numbers are rows with the list of these bounds
bounded_is : (r : ℕ) (rows : List (List ℤ)) (bounds : ℕ → Extended) (list : List Ext) → length rows ≡ length list
    → ((k : ℕ) → k < length rows → bounds (r + k) ≡ bound_at list k) → bounded_from r rows bounds ≡ bounded rows list
bounded_is r [] bounds list e h = refl
bounded_is r (row ∷ rows) bounds [] e h = absurd (omega (arith, e))
bounded_is r (row ∷ rows) bounds (bound ∷ list) e h =
    let here : bounds r ≡ extended bound = ap bounds (sym (add-zero r)) ∙ h 0 (omega arith) in
    let more : bounded_from (suc r) rows bounds ≡ bounded rows list =
    bounded_is (suc r) rows bounds list (omega (arith, e)) (λ k lt. let place : suc r + k ≡ r + suc k = omega arith in
    ap bounds place ∙ h (suc k) (omega arith)) in
    ap (λ b. (row, b) ∷ bounded_from (suc r) rows bounds) here ∙ ap (λ list. (row, extended bound) ∷ list) more

-- what rows say, by the list of them with their bounds
clauses_by : (known : List ℕ) (template : List (List ℤ)) (bounds : ℕ → Extended) (rows : List Bounded)
    → bounded_from 0 template bounds ≡ rows
    → clauses known template bounds ≡ clauses_in known rows (bounds 0)
clauses_by known template bounds rows e = by (bounds 0)
  where
    by : (first : Extended) → clauses_unless known template bounds first ≡ clauses_in known rows first
    by neg_inf = refl
    by (fin q) = ap (λ list. clauses_in known list (fin q)) e
    by pos_inf = ap (λ list. clauses_in known list pos_inf) e

-- what the bounds of a point say
pub point_says : (known : List ℕ) (template : List (List ℤ)) (bounds list : List Ext) (p : ℕ) → 0 < length template
    → p * length template + length template ≤ length bounds → list ≡ take (length template) (drop (p * length template) bounds)
    → clauses_in known (bounded template list) (bound_at list 0) ≡ clauses known template
    (vector_of (length template) (map extended bounds) p)
point_says known template bounds list p some within e =
    let size : length list ≡ length template = ap length e ∙ length-take-le (length template) (drop (p * length template) bounds)
    (omega (arith, length-drop (p * length template) bounds)) in
    let at : (k : ℕ) → k < length template → vector_of (length template) (map extended bounds) p k ≡ bound_at list k =
    λ k lt. sym (ap (λ l. bound_at l k) e ∙ bound_at_slice bounds (p * length template) (length template) k lt) in
    let first = at 0 some in
    ap (clauses_in known (bounded template list)) (sym first)
    ∙ sym (clauses_by known template (vector_of (length template) (map extended bounds) p) (bounded template list)
    (bounded_is 0 template (vector_of (length template) (map extended bounds) p) list (sym size)
    (λ k lt. let place : 0 + k ≡ k = omega arith in ap (vector_of (length template) (map extended bounds) p) place ∙ at k lt)))
