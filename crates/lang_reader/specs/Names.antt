-- Names with their numbers.
use Rattle.std.specs.Prelude.{◌≡◌, ℕ, List}
use Rattle.std.specs.declared.alloc.Global.{Global}
use Rattle.std.specs.declared.vec.Vec.{Vec}
use Rattle.std.specs.Map.{lookup}
use Rattle.std.specs.Str.{bytes_eq}
use Rattle.lang_meaning.specs.Names.{place_of}

-- The entries of a map from names have the first place of each name.
abbrev pub HavePlaces : List (Vec ℕ Global × ℕ) → List (List ℕ) → Type 0
HavePlaces entries names = (name : List ℕ) → lookup (λ k. bytes_eq name k.items) entries ≡ place_of name names
