use Rattle.std.proofs.Common.{◌≡◌, ◌≤◌, ◌+◌, ◌++◌, List, ℤ, length, drop}
use Rattle.lp_theory.specs.Listed.{at}
use Rattle.theory_transformers.specs.Spread.{spread}
use Rattle.solve_transformer.specs.Splits.{bounds_at}
use Rattle.solve_transformer.proofs.build.Sources.{later}
use Rattle.solve_transformer.proofs.read.row_multipliers.Given as goal

abbrev pub invariant-loop-row : goal.invariant-loop-row
invariant-loop-row l = record {
  list : (template : List (List ℤ)) → l.rows ≡ length template → spread (bounds_at l.source) template (at l.multipliers)
      ≡ l.list.items ++ spread (later (bounds_at l.source) l.row) (drop l.row template) (λ k. at l.multipliers (l.next + k));
  few : l.next ≤ l.row;
}
