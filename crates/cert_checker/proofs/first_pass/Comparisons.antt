-- What comparisons of the code answer, and how large the vectors of a system are.
use Rattle.std.proofs.Common.{◌≡◌, ◌∙◌, ◌↔◌, ℕ, zero, suc, ◌-◌, ◌*◌, ◌≤◌, Bool, true≢false, length, refl, ap, sym, arith}
use Rattle.std.specs.Prelude.{IsTrue, replicate}
use Rattle.std.specs.Ordering.{partial_lt, is_lt, as_partial_cmp}
use Rattle.std.specs.declared.cmp.Ordering.{Ordering}
use Rattle.std.specs.declared.cmp.Ordering.TheVariants.{Less, Equal, Greater}
use Rattle.std.proofs.lemmas.List.{length-replicate, length-append}
use Rattle.base_numbers.specs.Rational.{ℚ, ◌<ℚ◌}
use Rattle.base_numbers.specs.Extended.{neg_inf, pos_inf}
use Rattle.base_numbers.specs.Compare.{cmp_ℚ}
use Rattle.base_numbers.proofs.compare.Compared.{cmp-less, less-cmp}
use Rattle.flow_systems.specs.Starts.{start_bounds}

-- what `<` answers
pub test_less : (a b : ℚ) (r : Bool) → r ≡ partial_lt (as_partial_cmp cmp_ℚ) a b → IsTrue r ↔ (a <ℚ b)
test_less a b r e = by (cmp_ℚ a b) refl
  where
    by : (o : Ordering) → cmp_ℚ a b ≡ o → IsTrue r ↔ (a <ℚ b)
    by Less f = (λ t. cmp-less a b f, λ h. e ∙ ap is_lt f)
    by Equal f = (λ t. absurd (true≢false (sym t ∙ e ∙ ap is_lt f)), λ h. let k = less-cmp a b h in cc)
    by Greater f = (λ t. absurd (true≢false (sym t ∙ e ∙ ap is_lt f)), λ h. let k = less-cmp a b h in cc)

-- a vector has a bound for each unknown at its start
pub start_size : (points rows : ℕ) → 1 ≤ points → length (start_bounds points rows) ≡ points * rows
start_size zero rows h = absurd (omega arith)
start_size (suc p) rows h =
    let e : suc p - 1 ≡ p = omega arith in
    let a = length-append (replicate rows pos_inf) (replicate ((suc p - 1) * rows) neg_inf) in
    let b = length-replicate rows pos_inf in
    let d = length-replicate ((suc p - 1) * rows) neg_inf in
    let k : (suc p - 1) * rows ≡ p * rows = ap (λ n. n * rows) e in
    omega (arith, a, b, d, k)
