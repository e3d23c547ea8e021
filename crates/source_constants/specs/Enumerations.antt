-- The constants of an enumeration: its enumerators are what commas part, and each without a value is one more than the one before it.
use Rattle.std.specs.Prelude.{◌+ℤ◌, ℕ, ℤ, pos, int_lt, Bool, true, false, List, [], ◌∷◌, take, drop, Option, Some, None, if◌then◌else◌}
use Rattle.std.specs.List.{position_or_len}
use Rattle.source_tokens.specs.declared.definition.Definition.{Definition}
use Rattle.source_constants.specs.declared.part.Part.{Part}
use Rattle.source_constants.specs.declared.part.Part.TheVariants as part
use Rattle.source_constants.specs.declared.enumeration.Enumerator.{Enumerator}
use Rattle.source_constants.specs.Parts.{opposite}

-- what stands behind `enum {` or `enum NAME {`
abbrev pub behind_head : List Part → Option (List Part)
behind_head (part.Enum ∷ part.LeftBrace ∷ ps) = Some ps
behind_head (part.Enum ∷ part.Name x at ∷ part.LeftBrace ∷ ps) = Some ps
behind_head ps = None

-- a `}`
abbrev pub is_closing : Part → Bool
is_closing part.RightBrace = true
is_closing p = false

-- a `,`
abbrev pub is_comma : Part → Bool
is_comma part.Comma = true
is_comma p = false

-- `};` and nothing more
abbrev pub is_end : List Part → Bool
is_end (part.RightBrace ∷ part.Semicolon ∷ []) = true
is_end ps = false

-- how many parts stand before the first `}`
abbrev pub inside_len : List Part → ℕ
inside_len ps = position_or_len is_closing ps

-- what stands before the first `}`, where `};` ends it
abbrev pub inside_of : List Part → Option (List Part)
inside_of ps = if is_end (drop (inside_len ps) ps) then Some (take (inside_len ps) ps) else None

-- one part more at the front of the first list
abbrev pub onto_first : Part → List (List Part) → List (List Part)
onto_first p [] = (p ∷ []) ∷ []
onto_first p (s ∷ ss) = (p ∷ s) ∷ ss

-- what commas part
abbrev pub parted : List Part → List (List Part)
parted [] = [] ∷ []
parted (p ∷ ps) = if is_comma p then [] ∷ parted ps else onto_first p (parted ps)

-- an enumerator: a name, and a value where one is given
abbrev pub enumerator : List Part → Option Enumerator
enumerator (part.Name x at ∷ []) = Some (record { name = x; at = at; given = None })
enumerator (part.Name x at ∷ part.Assign ∷ part.Number n ∷ []) = Some (record { name = x; at = at; given = Some n })
enumerator (part.Name x at ∷ part.Assign ∷ part.Minus ∷ part.Number n ∷ []) = Some (record { name = x; at = at; given = Some (opposite n) })
enumerator ps = None

-- the value of an enumerator: the one that is given, or else the one that comes next
abbrev pub value_of : (given next : Option ℤ) → Option ℤ
value_of None next = next
value_of (Some v) next = Some v

-- the integer that comes next, up to the greatest of 64 bits
abbrev pub behind : ℤ → Option ℤ
behind v = if int_lt v (pos 9223372036854775807) then Some (v +ℤ pos 1) else None

-- what an enumerator defines of this value
abbrev pub made : Enumerator → ℤ → Definition
made e v = record { name = e.name; at = e.at; value = Some v; by_item = true }

-- the same behind a value that may be absent
abbrev pub next_behind : Option ℤ → Option ℤ
next_behind None = None
next_behind (Some v) = behind v

-- what an enumerator defines that has a value, or none
abbrev pub made_of : Enumerator → Option ℤ → Option Definition
made_of e None = None
made_of e (Some v) = Some (made e v)

-- what these parts define as an enumerator, where this value comes next
abbrev pub defined_as : (next : Option ℤ) → List Part → Option Definition
defined_as next ps = elim (enumerator ps) [ None ↦ None | Some e ↦ made_of e (value_of e.given next) ]

-- one definition more at the front
abbrev pub defining : Definition → Option (List Definition) → Option (List Definition)
defining d None = None
defining d (Some ds) = Some (d ∷ ds)

-- what enumerators define in order, of which the first has the value that comes next where none is given; behind the last `,` there may be
-- none
abbrev pub counted : (next : Option ℤ) → List (List Part) → Option (List Definition)
counted next [] = Some []
counted next ([] ∷ []) = Some []
counted next (s ∷ ss) = elim (defined_as next s) [ None ↦ None | Some d ↦ defining d (counted (next_behind d.value) ss) ]

-- what the parts inside of the braces define
abbrev pub of_inside : Option (List Part) → Option (List Definition)
of_inside None = None
of_inside (Some ps) = counted (Some (pos 0)) (parted ps)

-- what the parts behind the first brace define
abbrev pub of_body : Option (List Part) → Option (List Definition)
of_body None = None
of_body (Some ps) = of_inside (inside_of ps)

-- what an enumeration defines, if the parts are one
abbrev pub of_enumeration : List Part → Option (List Definition)
of_enumeration ps = of_body (behind_head ps)
