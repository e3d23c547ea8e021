-- Where the reading of a row's terms stands.
use Rattle.std.specs.Prelude.{◌≡◌, Bool, List, ◌∷◌, ◌++◌}
use Rattle.flow_templates.specs.Grammar.{Symbol, Written, unsigned_symbols, tail_symbols, Spells}

-- A list of terms goes on with one of this sign, which stands first in these symbols.
pub record Continues (whole done : List Written) (negative : Bool) (rest : List Symbol) : Type 0 where
  pub term : Written
  pub others : List Written
  pub whole_is : whole ≡ done ++ term ∷ others
  pub sign : term.negative ≡ negative
  pub spelled : rest ≡ unsigned_symbols term ++ tail_symbols others

-- After these terms one of this sign has to come: what spells it, and nothing else, spells a row.
pub record Pending (all : List Symbol) (done : List Written) (negative : Bool) (rest : List Symbol) : Type 0 where
  pub goes_on : (term : Written) (others : List Written) → term.negative ≡ negative
      → rest ≡ unsigned_symbols term ++ tail_symbols others → Spells all (done ++ term ∷ others)
  pub only : (whole : List Written) → Spells all whole → Continues whole done negative rest
