-- The edges from all points are as many as the choices along all edges of the text.
use Rattle.std.proofs.Common.{◌≡◌, ◌∙◌, ℕ, zero, suc, ◌+◌, ◌<◌, ◌≤◌, Bool, true, false, List, [], ◌∷◌, length, min, refl, sym, ap, arith}
use Rattle.std.proofs.Common.{cond, ⊎_elim, length-append}
use Rattle.std.specs.Prelude.{◌&&◌, ◌==◌, IsTrue, flat_map, filter, nat_lt}
use Rattle.std.specs.List.{range_with_len, list_all, sum_by}
use Rattle.std.proofs.lemmas.Bool.{and_parts, ltb-true, cases_eq, eq-eqb, ne_eqb}
use Rattle.std.proofs.lemmas.List.{length-map}
use Rattle.std.proofs.lemmas.List.Sums.{sum_by-cons}
use Rattle.flow_transitions.specs.declared.auto_edge.AutoEdge.{AutoEdge}
use Rattle.flow_transitions.specs.AutoLimits.{are_acts, is_auto_edge}
use Rattle.flow_transitions.specs.declared.counting.TheConstants.{ENOUGH}
use Rattle.flow_transitions.specs.Choices.{choices_in, edge_by, edges_along, starts_at, edges_at, edges_of}
use Rattle.flow_transitions.specs.Counted.{way_count}

-- the edges from n points, the first being a
abbrev edges_from : ℕ → ℕ → List AutoEdge → ℕ
edges_from a n edges = length (flat_map (edges_at edges) (range_with_len a n))

-- what an edge adds to those of one point
share : Bool → AutoEdge → ℕ
share true e = way_count e
share false e = 0

at_cons : (e : AutoEdge) (es : List AutoEdge) (p : ℕ) (b : Bool) → length
    (flat_map edges_along (cond b (e ∷ filter (starts_at p) es) (filter (starts_at p) es))) ≡ share b e + length (edges_at es p)
unfolding share
at_cons e es p true = omega (arith, length-append (edges_along e) (edges_at es p), length-map (choices_in e.acts) (edge_by e))
at_cons e es p false = omega arith

point_cons : (e : AutoEdge) (es : List AutoEdge) (p : ℕ) → length (edges_at (e ∷ es) p) ≡ share (e.from == p) e + length (edges_at es p)
point_cons e es p = at_cons e es p (e.from == p)

-- what an edge adds to those of n points: its choices where it starts at one of them
abbrev Adds : ℕ → ℕ → AutoEdge → List AutoEdge → ℕ → Type 0
Adds a n e es more = edges_from a n (e ∷ es) ≡ more + edges_from a n es

from_append : (a n : ℕ) (es : List AutoEdge) → edges_from a (suc n) es ≡ length (edges_at es a) + edges_from (a + 1) n es
from_append a n es = length-append (edges_at es a) (flat_map (edges_at es) (range_with_len (a + 1) n))

nothing_before : (a n : ℕ) (e : AutoEdge) (es : List AutoEdge) → e.from < a → Adds a n e es 0
unfolding share
nothing_before a zero e es h = refl
nothing_before a (suc n) e es h =
    let here : share (e.from == a) e ≡ 0 = ap (λ b. share b e) (ne_eqb e.from a (λ d. omega (arith, d))) in
    omega (arith, from_append a n (e ∷ es), from_append a n es, point_cons e es a, here, nothing_before (a + 1) n e es (omega arith))

somewhere : (a n : ℕ) (e : AutoEdge) (es : List AutoEdge) → a ≤ e.from → e.from < a + n → Adds a n e es (way_count e)
unfolding share
somewhere a zero e es h k = absurd (omega arith)
somewhere a (suc n) e es h k =
    ⊎_elim
    (λ (d : e.from ≡ a).
    let here : share (e.from == a) e ≡ way_count e = ap (λ b. share b e) (eq-eqb e.from a d) in
    omega (arith, from_append a n (e ∷ es), from_append a n es, point_cons e es a, here, nothing_before (a + 1) n e es (omega arith)))
    (λ (d : e.from ≡ a → ⊥).
    let here : share (e.from == a) e ≡ 0 = ap (λ b. share b e) (ne_eqb e.from a d) in
    omega (
      arith,
      from_append a n (e ∷ es),
      from_append a n es,
      point_cons e es a,
      here,
      somewhere (a + 1) n e es (omega (arith, d)) (omega (arith, d)),
    ))
    (cases_eq e.from a)

none_at_all : (a n : ℕ) → edges_from a n [] ≡ 0
none_at_all a zero = refl
none_at_all a (suc n) = none_at_all (a + 1) n

-- all edges
pub grouped : (variables points : ℕ) (edges : List AutoEdge) → IsTrue (list_all (is_auto_edge variables points) edges) →
    length (edges_of points edges) ≡ sum_by way_count edges
grouped variables points [] h = none_at_all 0 points
grouped variables points (e ∷ es) h =
    let p = and_parts (is_auto_edge variables points e) (list_all (is_auto_edge variables points) es) h in
    let q = and_parts (nat_lt e.from points) (nat_lt 0 e.to && (nat_lt e.to points && are_acts variables e.acts)) p.0 in
    let below : e.from < points = ltb-true e.from points q.0 in
    somewhere 0 points e es (omega arith) (omega arith) ∙ ap (λ k. way_count e + k) (grouped variables points es p.1)
    ∙ sym (sum_by-cons way_count e es)

-- the same, counted no further than they matter
pub total : (variables points : ℕ) (edges slice : List AutoEdge) (count : ℕ) → IsTrue (list_all (is_auto_edge variables points) edges)
    → slice ≡ edges →
    count ≡ min (sum_by way_count slice) ENOUGH → count ≡ min (length (edges_of points edges)) ENOUGH
total variables points edges slice count h e f =
    f ∙ ap (λ es. min (sum_by way_count es) ENOUGH) e ∙ ap (λ k. min k ENOUGH) (sym (grouped variables points edges h))
