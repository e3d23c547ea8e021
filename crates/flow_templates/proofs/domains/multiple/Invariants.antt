use Rattle.std.proofs.Common.{◌≡◌, map}
use Rattle.std.specs.List.{range_with_len}
use Rattle.flow_templates.specs.Domains.{term}
use Rattle.flow_templates.proofs.domains.multiple.Given as goal

abbrev pub invariant-loop-k : goal.invariant-loop-k
invariant-loop-k l = l.list.items ≡ map (term l.fn.c l.fn.var) (range_with_len 0 l.k)
