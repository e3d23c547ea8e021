-- Comparisons whose guards stay within the numbers of a program.
use Rattle.std.specs.Prelude.{◌+◌, ◌&&◌, ℕ, Bool, true, List, [], ◌∷◌, IsTrue, nat_abs, nat_le}
use Rattle.lang_tree.specs.declared.form.Form.{Form}
use Rattle.lang_tree.specs.Limits.{is_condition}
use Rattle.lang_tree.specs.Tree.{Condition, free, compare, negation, both, either}
use Rattle.lang_tree.specs.Tree.{Deed, sets, havocs, wheres, checks, LoopKind, while_loop, for_loop, do_loop}
use Rattle.lang_tree.specs.Tree.{Statement, Statements, set, havoc, assume, only_where, check, branch, loop, jump, label, nil, cons}

-- adding 1 to the constant, or to the negated one, stays within 2^63 - 1
abbrev pub has_room : Form → Bool
has_room f = nat_le (nat_abs f.constant + 1) 9223372036854775807

-- each form that is compared has such a constant
abbrev pub have_room : Condition → Bool
have_room free = true
have_room (compare rel form) = has_room form
have_room (negation c) = have_room c
have_room (both c d) = have_room c && have_room d
have_room (either c d) = have_room c && have_room d

-- the condition of a deed has such comparisons
abbrev pub deed_room : Deed → Bool
deed_room (sets var form line) = true
deed_room (havocs var line) = true
deed_room (wheres c line) = have_room c
deed_room (checks about c line) = have_room c

-- so has each of a list of deeds
abbrev pub deeds_room : List Deed → Bool
deeds_room [] = true
deeds_room (d ∷ ds) = deed_room d && deeds_room ds

-- so has each of a loop's prelude and change
abbrev pub kind_room : LoopKind → Bool
kind_room (while_loop p) = deeds_room p
kind_room (for_loop p g) = deeds_room p && deeds_room g
kind_room (do_loop p) = deeds_room p

abbrev mutual
  -- each condition of a statement, and of the statements in it, has such comparisons
  pub has_rooms : Statement → Bool
  has_rooms (set var form line) = true
  has_rooms (havoc var line) = true
  has_rooms (assume c line) = have_room c
  has_rooms (only_where c line) = have_room c
  has_rooms (check about c line) = have_room c
  has_rooms (branch c first second line) = have_room c && (have_rooms first && have_rooms second)
  has_rooms (loop kind c body line) = have_room c && (kind_room kind && have_rooms body)
  has_rooms (jump kind line) = true
  has_rooms (label name line) = true

  -- the same for a list of statements
  pub have_rooms : Statements → Bool
  have_rooms nil = true
  have_rooms (cons s rest) = has_rooms s && have_rooms rest

-- a condition of a program over n variables has such comparisons
abbrev pub ConditionsHaveRoom : Type 0
ConditionsHaveRoom = (n : ℕ) (c : Condition) → IsTrue (is_condition n c) → IsTrue (have_room c)
