-- The items of a file.
use Rattle.std.specs.Prelude.{ℕ, suc, Bool, true, false, List, [], ◌∷◌, Option, Some, None, if◌then◌else◌}
use Rattle.source_items.specs.declared.mark.Bracket.TheVariants.{Round, Square, Curly}
use Rattle.source_items.specs.declared.mark.Mark.TheVariants.{Opens, Closes, Semicolon, Storage, Returned, Name, Other}
use Rattle.source_items.specs.Elements.{Element, Elements, plain, group, nil, cons}

-- one element more, at the end
abbrev pub with_last : Elements → Element → Elements
with_last nil e = cons e nil
with_last (cons d es) e = cons d (with_last es e)

-- there is a brace among the elements
abbrev pub has_brace : Elements → Bool
has_brace nil = false
has_brace (cons (group Curly es) rest) = true
has_brace (cons (group Round es) rest) = has_brace rest
has_brace (cons (group Square es) rest) = has_brace rest
has_brace (cons (plain m) rest) = has_brace rest

-- the last element is a pair of parentheses
abbrev pub ends_round : Elements → Bool
ends_round nil = false
ends_round (cons (group Round es) nil) = true
ends_round (cons (group Square es) nil) = false
ends_round (cons (group Curly es) nil) = false
ends_round (cons (plain m) nil) = false
ends_round (cons e (cons d rest)) = ends_round (cons d rest)

-- An item ends with a `;` that stands in no bracket; or with its first brace, if that stands right behind a parenthesis.
abbrev pub ends_item : (before : Elements) → Element → Bool
ends_item before (plain Semicolon) = true
ends_item before (plain Storage) = false
ends_item before (plain Returned) = false
ends_item before (plain Name) = false
ends_item before (plain Other) = false
ends_item before (plain (Opens b)) = false
ends_item before (plain (Closes b)) = false
ends_item before (group Round es) = false
ends_item before (group Square es) = false
ends_item before (group Curly es) = if has_brace before then false else ends_round before

-- the items of a file whose elements before these are those of an item that has not ended; none where the last one doesn't end
abbrev pub items_behind : (before : Elements) → Elements → Option (List Elements)
items_behind nil nil = Some []
items_behind (cons d before) nil = None
items_behind before (cons e es) = if ends_item before e
    then elim (items_behind nil es) [ None ↦ None | Some items ↦ Some (with_last before e ∷ items) ]
    else items_behind (with_last before e) es

-- the items of a file
abbrev pub items_of : Elements → Option (List Elements)
items_of es = items_behind nil es

-- the place of the name in a function with a body, counted in tokens from where `at` is: words of storage, a type, a name, parentheses, a
-- brace, and nothing more
abbrev pub name_behind : (at : ℕ) → Elements → Option ℕ
name_behind at (cons (plain Storage) es) = name_behind (suc at) es
name_behind at (cons (plain Returned) (cons (plain Name) (cons (group Round ps) (cons (group Curly body) nil)))) = Some (suc at)
name_behind at es = None
