-- Statements of C in order, and as those of the core.
use Rattle.std.proofs.Common.{◌≡◌, ◌∙◌, ℕ, refl, sym, ap}
use Rattle.source_tree.specs.Statements.{Statements, nil, cons}
use Rattle.source_core.specs.Core as core
use Rattle.source_core.specs.Core.{core_in, core_of}
use Rattle.source_meaning.specs.Statements.{followed_by}
use Rattle.source_change.proofs.lists.Deeds.{followed_assoc}
use Rattle.base_integers.specs.declared.integers.Integers.{Integers}

-- those of two lists
pub core_followed : (integers : Integers) (n : ℕ) (a b : Statements)
    → core_in integers n (followed_by a b) ≡ core.followed_by (core_in integers n a) (core_in integers n b)
core_followed integers n nil b = refl
core_followed integers n (cons s a) b = ap (core.followed_by (core_of integers n s)) (core_followed integers n a b)
    ∙ sym (followed_assoc (core_of integers n s)
    (core_in integers n a) (core_in integers n b))

-- a list behind two
pub source_assoc : (a b c : Statements) → followed_by (followed_by a b) c ≡ followed_by a (followed_by b c)
source_assoc nil b c = refl
source_assoc (cons s a) b c = ap (cons s) (source_assoc a b c)

-- none behind a list
pub source_nil : (a : Statements) → followed_by a nil ≡ a
source_nil nil = refl
source_nil (cons s a) = ap (cons s) (source_nil a)
