-- One operation after the other, of which the first that is wide is answered; and what comparisons answer.
use Rattle.std.proofs.Common.{◌≡◌, ◌∙◌, Bool, true, false, not, cond, T, List, [], ◌∷◌, Some, None, Result, Ok, Err, refl, ap, sym}
use Rattle.std.proofs.Common.{true≢false}
use Rattle.std.specs.Ordering.{partial_lt, is_lt, as_partial_cmp}
use Rattle.std.specs.declared.cmp.Ordering.{Ordering}
use Rattle.std.specs.declared.cmp.Ordering.TheVariants.{Less, Equal, Greater}
use Rattle.base_numbers.specs.Rational.{ℚ, lt_ℚ, ◌<ℚ◌}
use Rattle.base_numbers.specs.Compare.{cmp_ℚ}
use Rattle.base_numbers.proofs.compare.Compared.{cmp-less, less-cmp}
use Rattle.base_fractions.specs.Fits.{Fits, long_limit}
use Rattle.base_fractions.specs.declared.wide.Wide.{Wide}
use Rattle.base_fractions.specs.Operation.{Operation, result_of, fits, first_wide, operation_of}
use Rattle.flow_systems.specs.Sums.{SumAnswers}
use Rattle.flow_systems.proofs.Widths.{first_wide_past, first_wide_here}

-- an operation that fits, before others
pub then : (o : Operation) (os : List Operation) (v : ℚ) (res : Result ℚ (Wide ℚ)) → Fits long_limit (result_of o) → SumAnswers v os res
    → SumAnswers v (o ∷ os) res
then o os v (Ok r) h a = (a.0, first_wide_past long_limit o os h ∙ a.1)
then o os v (Err w) h a = first_wide_past long_limit o os h ∙ a

-- one that doesn't
pub stops : (o : Operation) (os : List Operation) (w : Wide ℚ) → ¬ (Fits long_limit (result_of o)) → operation_of (λ (q : ℚ). q) w ≡ o
    → first_wide long_limit (o ∷ os) ≡ Some (operation_of (λ (q : ℚ). q) w)
stops o os w n e = first_wide_here long_limit o os n ∙ ap Some (sym e)

-- whether the result of one operation fits
alone : (b : Bool) (o : Operation) → cond (not b) (Some o) None ≡ None → b ≡ true
alone true o e = refl
alone false o e = cc

-- where an operation alone is not wide, its result fits
pub alone_fits : (o : Operation) → first_wide long_limit (o ∷ []) ≡ None → fits long_limit (result_of o) ≡ true
alone_fits o e = alone (fits long_limit (result_of o)) o e

other : (b : Bool) (o p : Operation) → cond (not b) (Some o) None ≡ Some p → b ≡ false
other true o p e = cc
other false o p e = refl

-- where an operation alone is wide, its result does not fit
pub alone_wide : (o p : Operation) → first_wide long_limit (o ∷ []) ≡ Some p → fits long_limit (result_of o) ≡ false
alone_wide o p e = other (fits long_limit (result_of o)) o p e

-- what `<` answers
truth : (b : Bool) → T b → b ≡ true
truth true t = refl
truth false t = absurd t

untruth : (b : Bool) → b ≡ true → T b
untruth true e = tt
untruth false e = absurd (true≢false (sym e))

not_less : (a b : ℚ) → ¬ (a <ℚ b) → lt_ℚ a b ≡ false
not_less a b n = by (lt_ℚ a b) refl
  where
    by : (t : Bool) → lt_ℚ a b ≡ t → t ≡ false
    by true e = absurd (n (record { lt = untruth (lt_ℚ a b) e }))
    by false e = refl

-- the code's comparison of two fractions is that of the theory
pub less_is : (a b : ℚ) (r : Bool) → r ≡ partial_lt (as_partial_cmp cmp_ℚ) a b → lt_ℚ a b ≡ r
less_is a b r e = by (cmp_ℚ a b) refl
  where
    by : (o : Ordering) → cmp_ℚ a b ≡ o → lt_ℚ a b ≡ r
    by Less f = truth (lt_ℚ a b) (cmp-less a b f).lt ∙ sym (e ∙ ap is_lt f)
    by Equal f = not_less a b (λ h. let k = less-cmp a b h in cc) ∙ sym (e ∙ ap is_lt f)
    by Greater f = not_less a b (λ h. let k = less-cmp a b h in cc) ∙ sym (e ∙ ap is_lt f)
