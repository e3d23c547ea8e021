-- Names of the code, and their places.
use Rattle.std.specs.Prelude.{◌≡◌, ℕ, ℤ, List, [], ◌∷◌, length, map, reverse, Option, Some, None, Result, Ok, Err, if◌then◌else◌}
use Rattle.std.specs.declared.alloc.Global.{Global}
use Rattle.std.specs.declared.vec.Vec.{Vec}
use Rattle.std.specs.Map.{lookup}
use Rattle.std.specs.Str.{bytes_eq}
use Rattle.source_grammar.specs.Tokens.{Name}
use Rattle.source_tree.specs.Extents.{extent_of}
use Rattle.source_meaning.specs.Names as names
use Rattle.source_meaning.specs.Names.{Named, State, fresh}
use Rattle.source_meaning.specs.Results.{◌>>=◌}
use Rattle.source_meaning.specs.declared.fault.FunctionFault.{FunctionFault}
use Rattle.source_meaning.specs.declared.fault.FunctionFault.TheVariants.{NameTwice}
use Rattle.source_names.specs.declared.entry.Thing as code_thing
use Rattle.source_names.specs.declared.entry.Kept as code_kept
use Rattle.source_names.specs.declared.entry.Entry.{Entry}

-- a name where it stands
abbrev pub named : List ℕ → (value : Option ℤ) → Name
named text value = record { text = text; value = value }

-- what a name of the code is
abbrev pub thing_of : code_thing.Thing → names.Thing
thing_of (code_thing.TheVariants.Variable number) = names.variable number
thing_of (code_thing.TheVariants.Array extents) = names.array (map extent_of extents.now)
thing_of (code_thing.TheVariants.Constant value) = names.constant value

-- what a name of the code was declared as
abbrev pub kept_of : code_kept.Kept → names.Thing
kept_of (code_kept.TheVariants.Variable number) = names.variable number
kept_of (code_kept.TheVariants.Array extents) = names.array (map extent_of extents.items)

-- a name of the code
abbrev pub named_of : Entry → Named
named_of e = record { name = e.name; thing = kept_of e.kept; is_known = e.is_known }

-- names of the code, the last one first
abbrev pub names_in : List Entry → List Named
names_in es = reverse (map named_of es)

-- the texts of the keys of a map, the last one first
abbrev pub texts_in : {V : Type 0} → List (Vec ℕ Global × V) → List (List ℕ)
texts_in es = reverse (map (λ e. e.0.items) es)

-- how many names stand behind the first one with this text
abbrev pub place_of : List ℕ → List Named → Option ℕ
place_of x [] = None
place_of x (n ∷ ns) = if bytes_eq x n.name then Some (length ns) else place_of x ns

-- the entries of a map from texts have the place of each name
abbrev pub HavePlaces : List (Vec ℕ Global × ℕ) → List Named → Type 0
HavePlaces entries ns = (x : List ℕ) → lookup (λ k. bytes_eq x k.items) entries ≡ place_of x ns

-- what variable a name was before, if it was one, where it may be declared as a variable
abbrev pub number_again : (at : ℕ) → Option names.Thing → Result (Option ℕ) FunctionFault
number_again at None = Ok None
number_again at (Some (names.variable i)) = Ok (Some i)
number_again at (Some (names.array extents)) = Err (NameTwice at)
number_again at (Some (names.constant v)) = Err (NameTwice at)

-- the same of a name
abbrev pub again : Name → (at : ℕ) → State → Result (Option ℕ) FunctionFault
again x at st = fresh x at st >>= λ before. number_again at before
