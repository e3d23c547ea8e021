use Rattle.std.proofs.Common.{◌∙◌, ap₂, length}
use Rattle.flow_systems.specs.Cells.{block_cells}
use Rattle.solve_joint.proofs.cells.EdgeCounts.{frees_are, frees_within, guards_are, guards_within}
use Rattle.solve_joint.proofs.cells.edge_cells.Goals as goal

pub block_cells-requires-clause-guards : goal.block_cells-requires-clause-guards
block_cells-requires-clause-guards c =
    guards_within c.args.system.now c.args.paths.now c.args.edge c.requires.composed c.requires.edge c.guards.result
    (guards_are c.args.system.now c.args.paths.now c.args.edge c.requires.composed c.requires.edge c.guards.result c.guards.ensures)

pub block_cells-requires-clause-frees : goal.block_cells-requires-clause-frees
block_cells-requires-clause-frees c =
    frees_within c.args.system.now c.args.paths.now c.args.edge c.requires.composed c.requires.edge c.frees.result
    (frees_are c.args.system.now c.args.paths.now c.args.edge c.requires.composed c.requires.edge c.frees.result c.frees.ensures)

pub returns-clause-cells : goal.returns-clause-cells
returns-clause-cells c =
    let system = c.args.system.now in
    c.block_cells.ensures.cells ∙ ap₂ (λ g f. block_cells (length system.template) (length system.flow.names) g f)
    (guards_are system c.args.paths.now c.args.edge c.requires.composed c.requires.edge c.guards.result c.guards.ensures)
    (frees_are system c.args.paths.now c.args.edge c.requires.composed c.requires.edge c.frees.result c.frees.ensures)
