-- Texts that are put together piece by piece.
use Rattle.std.proofs.Common.{◌≡◌, ◌++◌, ℕ, List, ap, ◌∙◌, append_assoc}

-- two pieces behind a text
pub joined : (text first second once twice : List ℕ) → once ≡ text ++ first → twice ≡ once ++ second → twice ≡ text ++ (first ++ second)
joined text first second once twice h k = k ∙ ap (λ t. t ++ second) h ∙ append_assoc text first second
