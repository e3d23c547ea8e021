use Rattle.std.proofs.Common.{◌≡◌, ◌++◌, ℕ, map}
use Rattle.std.specs.Prelude.{IsTrue}
use Rattle.flow_systems.specs.SystemLimits.{is_over}
use Rattle.theory_transformers.specs.EdgeProblems.{source_limits}
use Rattle.solve_transformer.specs.Splits.{bounds_at, split_limit, limit_of}
use Rattle.solve_transformer.proofs.build.Sources.{limits_left}
use Rattle.solve_transformer.proofs.build.source_rows.Given as goal

abbrev pub invariant-loop-r : goal.invariant-loop-r
invariant-loop-r l = (n : ℕ) → IsTrue (is_over n l.template) →
    map limit_of l.rows.items ++ map (split_limit l.width) (limits_left n (bounds_at l.source) l.template l.r)
    ≡ map limit_of l.fn.rows.items ++ map (split_limit l.width) (source_limits (λ k u. u) n (bounds_at l.source) l.template)
