-- Over few rows and variables, and along edges of few actions, no joint problem is too large.
use Rattle.std.proofs.Common.{◌≡◌, ◌==◌, ℕ, ◌+◌, ◌-◌, ◌*◌, ◌≤◌, Bool, List, [], ◌∷◌, length, mul-le-mul_right, subst₂, sym, arith}
use Rattle.std.proofs.lemmas.List.FromFn.{length-range_with_len}
use Rattle.std.proofs.lemmas.List.Sums.{count_by-le-length, length-filter, sum_by-cons}
use Rattle.std.proofs.lemmas.Nat.{mul-le}
use Rattle.std.specs.List.{list_any, range_with_len, sum_by}
use Rattle.base_limits.specs.declared.limits.TheConstants.{MOST_CELLS}
use Rattle.flow_edges.specs.declared.edge.Action.{Action}
use Rattle.flow_edges.specs.declared.edge.Edge.{Edge}
use Rattle.flow_edges.proofs.Each.{Each, each_weaker}
use Rattle.flow_systems.specs.Cells.{block_cells, cells_of, guard_count, most, targets, unknown_cells}
use Rattle.flow_systems.specs.Equations.{Equations}
use Rattle.flow_systems.specs.FreeValues.{free_count}
use Rattle.flow_systems.specs.View.{equations_of}
use Rattle.flow_systems.specs.declared.system.System.{System}
use Rattle.flow_systems.proofs.Sizes.{flow_sizes}
use Rattle.flow_systems.proofs.free_values.CellCounts.{frees_few, guards_few, most_le}
use Rattle.solve_offers.specs.declared.offer.Offer.{Offer}
use Rattle.solve_rounds.specs.Halts.{IsLargeHalt}

-- a sum of numbers that are at most m is at most m for each
sum_few : (f : ℕ → ℕ) (m : ℕ) → ((p : ℕ) → f p ≤ m) → (ps : List ℕ) → sum_by f ps ≤ length ps * m
sum_few f m h [] = omega arith
sum_few f m h (p ∷ ps) = omega (arith, sum_by-cons f p ps, h p, sum_few f m h ps)

-- no more points are targets of edges than there are
few_targets : (system : Equations) → length (targets system) ≤ system.points
few_targets system =
    let is_target : ℕ → Bool = λ p. list_any (λ e. e.to == p) system.edges in
    let points = range_with_len 1 (system.points - 1) in
    omega (
      arith,
      length-filter is_target points,
      count_by-le-length is_target points,
      length-range_with_len 1 (system.points - 1),
    )

-- the block of an unknown over six rows and three variables, of an edge of at most four actions
few_in_block : (guards frees : ℕ) → guards ≤ 4 → frees ≤ 4 → 6 * block_cells 6 3 guards frees ≤ 750
few_in_block guards frees h k =
    let words = mul-le (guards + 1) (2 * (3 + frees) + 1) 5 15 (omega (arith, h)) (omega (arith, k)) in
    omega (arith, words)

module _ (system : System) (rows : length system.template ≡ 6) (names : length system.flow.names ≡ 3)
    (few : Each (λ e. length e.actions ≤ 4) system.flow.edges) where
  most_four : (count : List Action → ℕ) → ((actions : List Action) → count actions ≤ length actions) → (p : ℕ)
      → most count system.flow.edges p ≤ 4
  most_four count short p = most_le count system.flow.edges p 4
      (each_weaker (λ (e : Edge). length e.actions ≤ 4) (λ (e : Edge). count e.actions ≤ 4)
      (λ e h. omega (arith, h, short e.actions)) system.flow.edges few)

  at_point : (p : ℕ) → length system.template * unknown_cells (equations_of system) p ≤ 750
  at_point p =
      let guards = most guard_count system.flow.edges p in
      let frees = most free_count system.flow.edges p in
      subst₂ (λ r n. r * block_cells r n guards frees ≤ 750) (sym rows) (sym names)
      (few_in_block guards frees (most_four guard_count guards_few p) (most_four free_count frees_few p))

  few_cells : cells_of (equations_of system) ≤ MOST_CELLS
  few_cells =
      let E = equations_of system in
      let sum = sum_few (λ p. length system.template * unknown_cells E p) 750 at_point (targets E) in
      let points = mul-le-mul_right 750 (few_targets E) in
      omega (arith, sum, points, (flow_sizes system.flow).points)

-- over six rows and three variables, rounds along edges of at most four actions don't halt at a joint problem that is too large
pub none_large : (system : System) (policy : Offer → ℕ → Type 0) (limit cells : ℕ) → length system.template ≡ 6
    → length system.flow.names ≡ 3 → Each (λ e. length e.actions ≤ 4) system.flow.edges → IsLargeHalt system policy limit cells → ⊥
none_large system policy limit cells rows names few h = omega (arith, few_cells system rows names few, h.turn.large.beyond)
