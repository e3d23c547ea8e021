-- When a condition is true at a state.
use Rattle.std.specs.Prelude.{Bool, true, false, ◌&&◌, IsTrue}
use Rattle.lang_tree.specs.Tree.{Condition, free, compare, negation, both, either}
use Rattle.lang_tree.specs.Meaning.{State, MayBe}

-- no choice is left open
abbrev pub is_decided : Condition → Bool
is_decided free = false
is_decided (compare rel form) = true
is_decided (negation c) = is_decided c
is_decided (both c d) = is_decided c && is_decided d
is_decided (either c d) = is_decided c && is_decided d

-- a condition can't be false at a state, and is true there if no choice is left open
pub record IsTrueAt (c : Condition) (state : State) : Type 0 where
  pub never_false : ¬ (MayBe false c state)
  pub is_true : IsTrue (is_decided c) → MayBe true c state
