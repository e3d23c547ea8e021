-- An item that has begun, as the code keeps it: by the last tokens of its elements alone.
use Rattle.std.specs.Prelude.{ℕ, Bool, true, false, Option, Some, None, ◌||◌, ◌&&◌, not}
use Rattle.source_items.specs.declared.mark.Bracket.TheVariants.{Round, Square, Curly}
use Rattle.source_items.specs.declared.mark.Mark.{Mark}
use Rattle.source_items.specs.declared.mark.Mark.TheVariants as mark
use Rattle.source_items.specs.declared.item.Head.{Head}
use Rattle.source_items.specs.declared.item.Head.TheVariants.{Storage, Typed, Named, Taking, Bodied, Unlike}
use Rattle.source_items.specs.declared.item.Begun.{Begun}

abbrev pub beginning : Begun
beginning = record { braced = false; round = false; head = Storage }

-- the token is the end of a brace
abbrev pub is_brace : Mark → Bool
is_brace (mark.Closes Curly) = true
is_brace (mark.Closes Round) = false
is_brace (mark.Closes Square) = false
is_brace m = false

-- the token is the end of parentheses
abbrev pub is_round : Mark → Bool
is_round (mark.Closes Round) = true
is_round (mark.Closes Curly) = false
is_round (mark.Closes Square) = false
is_round m = false

abbrev pub is_braced : Begun → Mark → Bool
is_braced b m = b.braced || is_brace m

-- the element ends the item
abbrev pub closes : Begun → Mark → Bool
closes b mark.Semicolon = true
closes b (mark.Closes Curly) = not b.braced && b.round
closes b (mark.Closes Round) = false
closes b (mark.Closes Square) = false
closes b m = false

abbrev pub next_head : Head → Mark → ℕ → Head
next_head Storage mark.Storage index = Storage
next_head Storage mark.Returned index = Typed
next_head Typed mark.Name index = Named index
next_head (Named name) (mark.Closes Round) index = Taking name
next_head (Taking name) (mark.Closes Curly) index = Bodied name
next_head head m index = Unlike

abbrev pub named : Head → Option ℕ
named (Bodied name) = Some name
named head = None
