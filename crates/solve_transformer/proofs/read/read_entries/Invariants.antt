use Rattle.std.proofs.Common.{◌≡◌, map}
use Rattle.std.specs.List.{range_with_len}
use Rattle.lp_theory.specs.Listed.{at}
use Rattle.lp_theory.specs.Free.{unsplit}
use Rattle.solve_composition.proofs.faults.Passed.{IsPassed}
use Rattle.solve_transformer.proofs.read.Entries.{single}
use Rattle.solve_transformer.proofs.read.read_entries.Given as goal

abbrev pub invariant-loop-i : goal.invariant-loop-i
invariant-loop-i l = record {
  list : l.list.items ≡ map (unsplit (at l.point)) (range_with_len l.first l.i);
  passed : IsPassed (single (at l.point)) (range_with_len l.first l.count) l.i;
}
