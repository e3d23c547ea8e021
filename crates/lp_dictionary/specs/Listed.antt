-- Lists joined in the order of an index.
use Rattle.std.specs.Prelude.{ℕ, zero, suc, List, [], ◌++◌}

-- the lists of the indexes below n, one after another
unfoldable pub joined : {A : Type 0} → ℕ → (ℕ → List A) → List A
joined zero f = []
joined (suc n) f = joined n f ++ f n
