-- A point of a system, and its bounds.
use Rattle.std.specs.Prelude.{ℕ, ◌+◌, List, get_or, map}
use Rattle.base_numbers.specs.Extended.{Ext as Extended, neg_inf}
use Rattle.base_fractions.specs.declared.ext.Ext.{Ext}
use Rattle.base_fractions.specs.Extended.{extended}
use Rattle.flow_edges.specs.declared.point.Place.TheVariants.{Entry}
use Rattle.flow_edges.specs.declared.point.Point.{Point}

-- the point of a number
abbrev pub point_of : List Point → ℕ → Point
point_of points p = get_or points p (record { place = Entry; line = 0 })

-- the bounds from a place of a list on
abbrev pub bounds_from : List Ext → ℕ → ℕ → Extended
bounds_from bounds first r = get_or (map extended bounds) (first + r) neg_inf
