-- Which flows and templates make a system.
use Rattle.std.specs.Prelude.{◌==◌, ◌&&◌, ◌*◌, ℕ, ℤ, Bool, List, length, nat_le}
use Rattle.std.specs.List.{list_all}
use Rattle.flow_systems.specs.declared.limits.TheConstants.{MOST_UNKNOWNS}

-- each row has one coefficient for each of n names
abbrev pub is_over : ℕ → List (List ℤ) → Bool
is_over n template = list_all (λ row. length row == n) template

-- each row has one coefficient for each name, and there are no more unknowns than there may be
abbrev pub is_system : ℕ → ℕ → List (List ℤ) → Bool
is_system names points template = is_over names template && nat_le (points * length template) MOST_UNKNOWNS
