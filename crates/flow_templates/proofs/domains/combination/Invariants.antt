use Rattle.std.proofs.Common.{◌≡◌, map, ◌+ℤ◌}
use Rattle.std.specs.List.{range_with_len}
use Rattle.flow_templates.specs.Domains.{term}
use Rattle.flow_templates.proofs.domains.combination.Given as goal

abbrev pub invariant-loop-k : goal.invariant-loop-k
invariant-loop-k l = l.list.items ≡ map (λ k. term l.fn.c l.fn.first k +ℤ term l.fn.d l.fn.second k) (range_with_len 0 l.k)
