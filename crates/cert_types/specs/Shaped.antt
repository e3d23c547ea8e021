-- Which certificates can be written.
use Rattle.std.specs.Prelude.{◌≡◌, ◌<◌, ◌%◌, Bool, true, false, List, [], ◌∷◌, IsTrue, length}
use Rattle.std.specs.List.{list_all}
use Rattle.lang_tree.specs.Numbers.{are_numbers}
use Rattle.cert_types.specs.declared.step.Step.{Step}
use Rattle.cert_types.specs.declared.step.Step.TheVariants.{Plain, Jump, Ray}
use Rattle.cert_types.specs.declared.cert.Cert.{Cert}

-- there is something in a list
abbrev pub has_some : {A : Type 0} → List A → Bool
has_some [] = false
has_some (x ∷ xs) = true

-- a step has an item
abbrev pub has_item : Step → Bool
has_item (Plain items) = has_some items
has_item (Jump items) = has_some items
has_item (Ray items) = has_some items

-- there is a row, coefficients are within 2^63 - 1, the bounds are those of whole points, and each step has an item
pub record IsShaped (c : Cert) : Type 0 where
  pub row : 0 < length c.rows
  pub numbers : IsTrue (list_all are_numbers c.rows)
  pub points : length c.bounds % length c.rows ≡ 0
  pub items : IsTrue (list_all has_item c.steps)
