-- The extents of the code.
use Rattle.source_tree.specs.Expressions as tree
use Rattle.source_tree.specs.declared.extent.Extent.{Extent}
use Rattle.source_tree.specs.declared.extent.Extent.TheVariants.{Endless, Elements}

-- the extent of a tree that one of the code is
abbrev pub extent_of : Extent → tree.Extent
extent_of Endless = tree.endless
extent_of (Elements size) = tree.elements size
