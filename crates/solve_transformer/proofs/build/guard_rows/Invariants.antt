use Rattle.std.proofs.Common.{◌≡◌, ◌++◌, ℕ, List, map, drop}
use Rattle.theory_validity.specs.Words.{Affine as Form}
use Rattle.theory_transformers.specs.EdgeProblems.{guard_limits}
use Rattle.solve_composition.specs.Composed.{dense}
use Rattle.solve_transformer.specs.Splits.{split_limit, limit_of}
use Rattle.solve_transformer.proofs.build.guard_rows.Given as goal

abbrev pub invariant-loop-guard : goal.invariant-loop-guard
invariant-loop-guard l = (width : ℕ) (forms : List Form) → l.guards ≡ map (dense width) forms →
    map limit_of l.rows.items ++ map (split_limit width) (guard_limits (λ u. u) (drop l.guard-index forms))
    ≡ map limit_of l.fn.rows.items ++ map (split_limit width) (guard_limits (λ u. u) forms)
