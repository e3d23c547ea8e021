-- Which function of a file is meant.
use Rattle.std.specs.Prelude.{◌∷◌, ◌++◌, ℕ, List, [], Option, Some, None, codes, if◌then◌else◌}
use Rattle.std.specs.List.{list_any, find}
use Rattle.std.specs.Str.{bytes_eq}
use Rattle.source_file.specs.declared.functions.Defined.{Defined}

-- the place of the first name that stood before, behind these names
abbrev pub repeated : (before : List (List ℕ)) → List Defined → Option ℕ
repeated before [] = None
repeated before (d ∷ ds) = if list_any (bytes_eq d.name) before then Some d.at else repeated (before ++ d.name ∷ []) ds

-- the first function of this name
abbrev pub named : List ℕ → List Defined → Option Defined
named x ds = find (λ (d : Defined). bytes_eq x d.name) ds

-- the only function
abbrev pub only : List Defined → Option Defined
only [] = None
only (d ∷ []) = Some d
only (d ∷ e ∷ ds) = None

-- this one, or else another
abbrev pub or_else : {A : Type 0} → Option A → Option A → Option A
or_else (Some x) other = Some x
or_else None other = other

-- the function that is asked about by its name; where none is named, `main`, or else the only one
abbrev pub chosen : (asked : Option (List ℕ)) → List Defined → Option Defined
chosen (Some x) ds = named x ds
chosen None ds = or_else (named (codes "main") ds) (only ds)
