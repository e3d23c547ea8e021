-- The first of some operations that is wide, and what an operation answers.
use Rattle.std.proofs.Common.{◌≡◌, ◌++◌, List, [], ◌∷◌, None, Result, MatchResult}
use Rattle.base_numbers.specs.Rational.{ℚ}
use Rattle.base_fractions.specs.Fits.{Fits, long_limit}
use Rattle.base_fractions.specs.declared.wide.Op.{Op}
use Rattle.base_fractions.specs.declared.wide.Wide.{Wide}
use Rattle.base_fractions.specs.Operation.{Operation, result_by, first_wide}
use Rattle.base_fractions.proofs.operation.Widths.{one_answer as one_answer_of, after as after_of}
pub use Rattle.base_fractions.proofs.operation.Widths.{first_wide_later, first_wide_sooner, first_wide_past, first_wide_here}
use Rattle.flow_systems.specs.Sums.{SumAnswers}

-- what one operation on fractions answers
pub one_answer : (op : Op) (a b : ℚ) (res : Result ℚ (Wide ℚ)) →
    MatchResult res (λ r. (r ≡ result_by op a b) × Fits long_limit r) (λ e. (¬ (Fits long_limit (result_by op a b)))
    × (e ≡ record { op = op; left = a; right = b })) →
    SumAnswers (result_by op a b) (record { op = op; left = a; right = b } ∷ []) res
one_answer op a b res h = one_answer_of (λ q. q) long_limit op a b res h

-- what is answered after operations of which none is wide
pub after : (v : ℚ) (os ps : List Operation) (res : Result ℚ (Wide ℚ)) → first_wide long_limit os ≡ None → SumAnswers v ps res
    → SumAnswers v (os ++ ps) res
after v os ps res e h = after_of (λ q. q) long_limit v os ps res e h
