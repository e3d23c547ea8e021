use Rattle.std.proofs.Common.{◌*◌, ◌≤◌, ℕ, take}
use Rattle.std.specs.Prelude.{IsSome}
use Rattle.std.specs.BTreeMap.{btree_map_len, get}
use Rattle.std.specs.Ordering.{nat_cmp}
use Rattle.solve_joint.specs.Nearby.{Occurs, AreNumbered}
use Rattle.solve_joint.proofs.nearby.numbers_of.Given as goal

abbrev pub invariant-loop-node : goal.invariant-loop-node
invariant-loop-node l = record {
  few : btree_map_len l.numbers ≤ 2 * l.node-index;
  numbered : AreNumbered (btree_map_len l.numbers) (get nat_cmp l.numbers);
  all : (p : ℕ) → Occurs (take l.node-index l.nodes) p → IsSome (get nat_cmp l.numbers p);
}
