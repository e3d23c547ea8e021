-- The parts that are cut over the points that occur are those of the list.
use Rattle.std.proofs.Common.{◌≡◌, ◌∙◌, ℕ, ◌<◌, ◌≤◌, List, length, map, Option, ap, sym, subst, arith}
use Rattle.base_facts.specs.Elements.{In}
use Rattle.flow_systems.specs.declared.system.System.{System}
use Rattle.flow_systems.specs.declared.limits.TheConstants.{MOST_UNKNOWNS}
use Rattle.solve_joint.specs.declared.node.Node.{Node}
use Rattle.solve_joint.specs.Numbers.{nodes_of, Rises, ArePicked}
use Rattle.solve_joint.specs.Nearby.{AreNearby}
use Rattle.solve_joint.specs.Tables.{closed}
use Rattle.solve_joint.specs.Cuts.{cut_from}
use Rattle.solve_joint.specs.PartLists.{part_numbers}
use Rattle.solve_joint.proofs.joint_rows.Picking.{few_listed}
use Rattle.solve_joint.proofs.numbers.NodeFacts.{length-nodes, node_in, unknowns_all}
use Rattle.solve_joint.proofs.nearby.SameCut.{near_cut, near_length, near_unknowns, near_within}
use Rattle.solve_joint.proofs.cut.SameParts.{parts_shown}

module _ (system : System) (pick : List (Option ℕ)) (list : List ℕ) (picked : ArePicked system pick list) (rises : Rises 0 list)
    (nodes : List Node) (is : nodes ≡ nodes_of system pick list) where
  -- a rising list has few unknowns
  pub few_nodes : length nodes ≤ MOST_UNKNOWNS
  few_nodes =
      let few = few_listed system pick list rises picked in
      let size = ap length is in
      let same = length-nodes system pick list in
      omega (arith, few, size, same)

  module _ (near : List Node) (count : ℕ) (are : AreNearby nodes count near) where
    -- as few over the points that occur
    pub few_near : length near ≤ MOST_UNKNOWNS
    few_near =
        let few = few_nodes in
        let same = near_length nodes near count are in
        omega (arith, few, same)

    -- which rise too
    pub near_rises : Rises 0 (map (λ (a : Node). a.unknown) near)
    near_rises = subst (Rises 0) (sym (near_unknowns nodes near count are ∙ ap (map (λ (a : Node). a.unknown)) is
        ∙ unknowns_all system pick list)) rises

    -- and stand over points that have numbers
    pub near_points : (a : Node) → In near a → (a.point < count) × (a.source < count)
    near_points a m = near_within nodes near count are a m

    -- the whole cut
    pub near_parts : cut_from (closed count near) (length near) near ≡ part_numbers system pick list
    near_parts =
        near_cut nodes near (length system.flow.points) count are
        (λ a m. let n = node_in system pick list picked a (subst (λ xs. In xs a) is m) in (n.point_within, n.source_within))
        ∙ ap (λ (xs : List Node). cut_from (closed (length system.flow.points) xs) (length xs) xs) is
        ∙ parts_shown system pick list picked
