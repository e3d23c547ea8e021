use Rattle.std.proofs.Common.{take}
use Rattle.lp_sparse.specs.Build.{AreSigned}
use Rattle.lp_sparse.proofs.build.entries_of.Given as goal

abbrev pub invariant-loop-entry : goal.invariant-loop-entry
invariant-loop-entry g l = AreSigned g.F.OrderedField.meaning l.negated (take l.entry-index l.kept) l.entries.items
