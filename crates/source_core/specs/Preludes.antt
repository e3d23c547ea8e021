-- What deeds do, one after another.
use Rattle.std.specs.Prelude.{◌≡◌, ◌⊎◌, ℤ, pos, true, false, List, [], ◌∷◌, map}
use Rattle.lang_tree.specs.declared.check.Check.{Check}
use Rattle.lang_tree.specs.Tree.{Condition, negation, either}
use Rattle.lang_tree.specs.Tree.{Deed, sets, havocs, wheres, checks}
use Rattle.lang_tree.specs.Meaning.{State, put, value, MayBe}

-- a deed may lead from one state to another
abbrev pub Leaves : Deed → State → State → Type 0
Leaves (sets var form line) x y = y ≡ put (pos 0) x var (value form x)
Leaves (havocs var line) x y = (z : ℤ) × (y ≡ put (pos 0) x var z)
Leaves (wheres c line) x y = MayBe true c x × (y ≡ x)
Leaves (checks about c line) x y = y ≡ x

-- deeds in order may lead from one state to another
abbrev pub AllLeave : List Deed → State → State → Type 0
AllLeave [] x y = y ≡ x
AllLeave (d ∷ ds) x y = (z : State) × Leaves d x z × AllLeave ds z y

-- from this state, on the way through the deeds, a check may be false
abbrev pub MayFail : List Deed → State → Check → Type 0
MayFail [] x about = ⊥
MayFail (sets var form line ∷ ds) x about = (z : State) × Leaves (sets var form line) x z × MayFail ds z about
MayFail (havocs var line ∷ ds) x about = (z : State) × Leaves (havocs var line) x z × MayFail ds z about
MayFail (wheres c line ∷ ds) x about = (z : State) × Leaves (wheres c line) x z × MayFail ds z about
MayFail (checks other c line ∷ ds) x about = ((other ≡ about) × MayBe false c x) ⊎ MayFail ds x about

-- a check stands under a condition: it is one only where that is true
abbrev pub under : Condition → Deed → Deed
under c (sets var form line) = sets var form line
under c (havocs var line) = havocs var line
under c (wheres d line) = wheres d line
under c (checks about d line) = checks about (either (negation c) d) line

-- deeds in order with their checks under a condition
abbrev pub all_under : Condition → List Deed → List Deed
all_under c ds = map (under c) ds
