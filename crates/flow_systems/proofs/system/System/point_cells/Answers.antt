use Rattle.std.proofs.Common.{◌≤◌, arith}
use Rattle.flow_systems.specs.FreeValues.{free_count}
use Rattle.flow_systems.specs.Cells.{guard_count}
use Rattle.flow_systems.proofs.free_values.CellCounts.{few_of, guards_few, frees_few}
use Rattle.flow_edges.specs.declared.limits.TheConstants.{MOST_ACTIONS}
use Rattle.flow_systems.proofs.system.System.point_cells.Goals as goal
use Rattle.flow_systems.proofs.system.System.point_cells.Goals.{After-greatest-guards}

few_guards : (c : After-greatest-guards) → c.greatest-guards.result.0 ≤ MOST_ACTIONS
few_guards c = few_of guard_count guards_few c.args.self.now.flow c.as_slice-2.result.now c.args.point c.greatest-guards.result.0
    c.as_slice-2.ensures c.greatest-guards.ensures.guards

few_frees : (c : After-greatest-guards) → c.greatest-guards.result.1 ≤ MOST_ACTIONS
few_frees c = few_of free_count frees_few c.args.self.now.flow c.as_slice-2.result.now c.args.point c.greatest-guards.result.1
    c.as_slice-2.ensures c.greatest-guards.ensures.frees

pub overflow_cast-guards : goal.overflow_cast-guards
overflow_cast-guards c = omega (arith, few_guards c)

pub overflow_cast-frees : goal.overflow_cast-frees
overflow_cast-frees c = omega (arith, few_frees c)

pub block_cells-requires-clause-guards : goal.block_cells-requires-clause-guards
block_cells-requires-clause-guards c = few_guards c

pub block_cells-requires-clause-frees : goal.block_cells-requires-clause-frees
block_cells-requires-clause-frees c = few_frees c
