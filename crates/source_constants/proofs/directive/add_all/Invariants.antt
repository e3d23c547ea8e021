use Rattle.std.proofs.Common.{◌≡◌, ◌++◌, drop}
use Rattle.source_constants.specs.Directives.{all_defined}
use Rattle.source_constants.proofs.directive.add_all.Given as goal

abbrev pub invariant-loop-index : goal.invariant-loop-index
invariant-loop-index l =
    l.list.items ++ all_defined l.integers l.text (drop l.index l.asides) ≡ l.initial.list.items ++ all_defined l.integers l.text l.asides
