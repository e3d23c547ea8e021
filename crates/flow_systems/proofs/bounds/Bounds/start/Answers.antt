use Rattle.std.proofs.Common.{length, ap, arith, map}
use Rattle.std.specs.Vec.{vec_len}
use Rattle.base_fractions.specs.Extended.{extended}
use Rattle.flow_systems.proofs.Sizes.{flow_sizes}
use Rattle.flow_systems.proofs.starts.Started.{started_list, started_vector}
use Rattle.flow_systems.proofs.bounds.Bounds.start.Goals as goal

pub returns-clause-list : goal.returns-clause-list
returns-clause-list c =
    started_list (length c.args.system.now.flow.points) (length c.args.system.now.template) (length c.as_slice-points.result.now)
    (length c.as_slice-rows.result.now)
    (vec_len c.in_ok-list.list) c.resize.new.self.items c.in_ok-list.list.items (ap (λ t. length t) c.as_slice-points.ensures)
    (ap (λ t. length t) c.as_slice-rows.ensures.rows)
    (omega (arith, (flow_sizes c.args.system.now.flow).two_points)) (c.in_ok-list.ensures.items_if_clones_equal (λ y e. e))
    c.in_ok-list.ensures.len c.in_ok-resize.ensures.items

pub returns-clause-vector : goal.returns-clause-vector
returns-clause-vector c = started_vector (length c.args.system.now.flow.points) (length c.args.system.now.template)
    (map extended c.resize.new.self.items) (returns-clause-list c)
