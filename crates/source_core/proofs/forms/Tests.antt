-- What tests tell.
use Rattle.std.proofs.Common.{◌⊎◌, inl, inr, ⊎_elim, ◌<◌, ◌≤◌, ℕ, zero, suc, Bool, true, false, refl, sym, true≢false, arith}
use Rattle.std.specs.Prelude.{◌&&◌, IsTrue}

-- where two tests hold together, each holds
pub both_of : (a b : Bool) → IsTrue (a && b) → IsTrue a × IsTrue b
both_of true b h = (refl, h)
both_of false b h = absurd (true≢false (sym h))

-- where each of two tests holds, they hold together
pub both_from : (a b : Bool) → IsTrue a → IsTrue b → IsTrue (a && b)
both_from true b h k = k
both_from false b h k = absurd (true≢false (sym h))

-- one number is below another, or it isn't
pub below_or_not : (a b : ℕ) → (a < b) ⊎ (b ≤ a)
below_or_not a zero = inr (omega arith)
below_or_not zero (suc b) = inl (omega arith)
below_or_not (suc a) (suc b) = ⊎_elim (λ l. inl (omega (arith, l))) (λ l. inr (omega (arith, l))) (below_or_not a b)
