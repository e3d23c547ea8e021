-- What a name stands for where it is defined as a number, or as something else that isn't read.
use Rattle.std.specs.Prelude.{ℕ, ℤ, Bool, ◌&&◌, List, [], ◌∷◌, nat_lt, Option, Some, None, if◌then◌else◌}
use Rattle.std.specs.Str.{bytes_eq}
use Rattle.source_tokens.specs.declared.definition.Definition.{Definition}

-- a definition is one of this name that stands before a place
abbrev pub is_before : List ℕ → (at : ℕ) → Definition → Bool
is_before x at d = bytes_eq x d.name && nat_lt d.at at

-- the last definition of a name before a place, where they stand in the order of the text
abbrev pub defined_at : List Definition → List ℕ → (at : ℕ) → Option Definition
defined_at [] x at = None
defined_at (d ∷ ds) x at = elim (defined_at ds x at) [ None ↦ (if is_before x at d then Some d else None) | Some e ↦ Some e ]

-- the number that a name stands for at a place
abbrev pub constant_at : List Definition → List ℕ → (at : ℕ) → Option ℤ
constant_at ds x at = elim (defined_at ds x at) [ None ↦ None | Some d ↦ d.value ]
