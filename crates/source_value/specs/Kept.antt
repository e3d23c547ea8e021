-- What is kept of an expression: all, while its statement has passed no limit.
use Rattle.std.specs.Prelude.{ℕ, ◌+◌, Bool, true, false, ◌&&◌, List, nat_le, Option, Some, None, if◌then◌else◌}
use Rattle.std.specs.List.{list_all}
use Rattle.lang_tree.specs.declared.limits.TheConstants.{MOST_HIDDEN}
use Rattle.lang_tree.specs.Tree.{Condition, leaf_count, Deed, sets, havocs, wheres, checks}

-- no more hidden variables were taken than there may be: n is the first, and next the first that isn't taken
abbrev pub is_within : (n next : ℕ) → Bool
is_within n next = nat_le next (n + MOST_HIDDEN)

-- a condition has no more leaves than it may have
abbrev pub is_small : Condition → Bool
is_small c = nat_le (leaf_count c) 64

-- nor has that of a deed
abbrev pub has_small : Deed → Bool
has_small (sets var form line) = true
has_small (havocs var line) = true
has_small (wheres c line) = is_small c
has_small (checks about c line) = is_small c

-- nor has that of any of these
abbrev pub have_small : List Deed → Bool
have_small ds = list_all has_small ds

-- a deed is no check
abbrev pub is_unchecked : Deed → Bool
is_unchecked (sets var form line) = true
is_unchecked (havocs var line) = true
is_unchecked (wheres c line) = true
is_unchecked (checks about c line) = false

-- none of these is
abbrev pub are_unchecked : List Deed → Bool
are_unchecked ds = list_all is_unchecked ds

-- a thing is kept or not
abbrev pub kept : {A : Type 0} → Bool → A → Option A
kept b x = if b then Some x else None

-- deeds are kept while neither limit is passed: neither by the hidden variables before `next`, nor by a condition of theirs
abbrev pub kept_deeds : (n next : ℕ) → List Deed → Option (List Deed)
kept_deeds n next ds = kept (is_within n next && have_small ds) ds

-- so is a condition
abbrev pub kept_condition : (n next : ℕ) → Condition → Option Condition
kept_condition n next c = kept (is_within n next && is_small c) c
