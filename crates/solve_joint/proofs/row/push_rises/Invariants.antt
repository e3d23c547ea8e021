use Rattle.std.proofs.Common.{◌≡◌, ◌≤◌, ◌++◌, take}
use Rattle.base_numbers.specs.Vector.{zeros}
use Rattle.solve_joint.specs.Rows.{on_numbers}
use Rattle.solve_joint.proofs.row.push_rises.Given as goal

abbrev pub invariant-loop-unknown : goal.invariant-loop-unknown
invariant-loop-unknown l = record {
  few : l.zeros ≤ l.unknown-index;
  pushed : l.row ++ zeros l.zeros ≡ l.initial.row ++ on_numbers l.coefficient l.target (take l.unknown-index l.list);
}
