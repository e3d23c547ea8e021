-- Which certificates can be written.
use Rattle.std.specs.Prelude.{◌≡◌, ◌<◌, ◌%◌, ◌==◌, Bool, true, false, List, [], ◌∷◌, IsTrue, length}
use Rattle.std.specs.List.{list_all}
use Rattle.base_numbers.specs.Rational.{ℚ}
use Rattle.cert_written.specs.declared.pairs.Pair.{Pair}
use Rattle.cert_written.specs.declared.entries.Entries.{Entries}
use Rattle.cert_written.specs.declared.entries.Entries.TheVariants.{Dense, Sparse}
use Rattle.cert_written.specs.declared.step.Step.{Step}
use Rattle.cert_written.specs.declared.step.Step.TheVariants.{Plain, Jump, Ray}
use Rattle.cert_written.specs.declared.cert.Cert.{Cert}

-- there is something in a list
abbrev pub has_some : {A : Type 0} → List A → Bool
has_some [] = false
has_some (x ∷ xs) = true

-- a step has an item
abbrev pub has_item : Step → Bool
has_item (Plain items) = has_some items
has_item (Jump items) = has_some items
has_item (Ray items) = has_some items

-- a fraction is a whole number
abbrev pub is_whole : ℚ → Bool
is_whole q = q.den == 1

-- the value of a pair is a whole number
abbrev pub is_whole_pair : Pair → Bool
is_whole_pair p = is_whole p.value

-- each entry of a list is a whole number
abbrev pub are_whole : Entries → Bool
are_whole (Dense qs) = list_all is_whole qs
are_whole (Sparse ps) = list_all is_whole_pair ps

-- there is a row, coefficients are whole, the bounds are those of whole points, and each step has an item
pub record IsShaped (c : Cert) : Type 0 where
  pub row : 0 < length c.rows
  pub numbers : IsTrue (list_all are_whole c.rows)
  pub points : length c.bounds % length c.rows ≡ 0
  pub items : IsTrue (list_all has_item c.steps)
