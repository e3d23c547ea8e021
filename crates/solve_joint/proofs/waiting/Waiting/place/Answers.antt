use Rattle.std.proofs.Common.{ap}
use Rattle.std.specs.Prelude.{slice_set}
use Rattle.solve_joint.proofs.waiting.Placing.{noted_waiting, noted_kept, noted_placed, ready_waiting, ready_kept, ready_placed}
use Rattle.solve_joint.proofs.waiting.Waiting.place.Goals as goal

pub returns-in_ok-add-in-Some-clause-waiting : goal.returns-in_ok-add-in-Some-clause-waiting
returns-in_ok-add-in-Some-clause-waiting c =
    let noted = c.args.self.now.noted.items in
    noted_waiting c.args.cutting.now.nodes.now c.args.cutting.now.classes.items c.args.gone.now c.args.self.now.ready.keys noted
    c.requires.waiting c.args.head c.requires.head c.in-Some.place c.in-Some.ensures c.index_mut.result.now
    (slice_set noted c.in-Some.place c.add.new.self) c.index_mut.ensures.value
    (ap (λ g. slice_set noted c.in-Some.place g) c.in_ok-add-in-Some.ensures)

pub returns-in_ok-add-in-Some-clause-kept : goal.returns-in_ok-add-in-Some-clause-kept
returns-in_ok-add-in-Some-clause-kept c =
    let noted = c.args.self.now.noted.items in
    noted_kept c.args.cutting.now.nodes.now c.args.cutting.now.classes.items c.args.gone.now c.args.self.now.ready.keys noted
    c.requires.waiting c.args.head c.requires.head c.in-Some.place c.in-Some.ensures c.index_mut.result.now
    (slice_set noted c.in-Some.place c.add.new.self) c.index_mut.ensures.value
    (ap (λ g. slice_set noted c.in-Some.place g) c.in_ok-add-in-Some.ensures)

pub returns-in_ok-add-in-Some-clause-placed : goal.returns-in_ok-add-in-Some-clause-placed
returns-in_ok-add-in-Some-clause-placed c =
    let noted = c.args.self.now.noted.items in
    noted_placed c.args.cutting.now.nodes.now c.args.cutting.now.classes.items c.args.gone.now c.args.self.now.ready.keys noted
    c.requires.waiting c.args.head c.requires.head c.in-Some.place c.in-Some.ensures c.index_mut.result.now
    (slice_set noted c.in-Some.place c.add.new.self) c.index_mut.ensures.value
    (ap (λ g. slice_set noted c.in-Some.place g) c.in_ok-add-in-Some.ensures)

pub returns-in_ok-insert-in-None-clause-waiting : goal.returns-in_ok-insert-in-None-clause-waiting
returns-in_ok-insert-in-None-clause-waiting c =
    ready_waiting c.args.cutting.now.nodes.now c.args.cutting.now.classes.items c.args.gone.now c.args.self.now.ready.keys
    c.args.self.now.noted.items c.requires.waiting c.args.head c.requires.head c.requires.left c.in-None.ensures c.insert.new.self.keys
    c.in_ok-insert-in-None.ensures.keys

pub returns-in_ok-insert-in-None-clause-kept : goal.returns-in_ok-insert-in-None-clause-kept
returns-in_ok-insert-in-None-clause-kept c =
    ready_kept c.args.cutting.now.nodes.now c.args.cutting.now.classes.items c.args.gone.now c.args.self.now.ready.keys
    c.args.self.now.noted.items c.requires.waiting c.args.head c.requires.head c.requires.left c.in-None.ensures c.insert.new.self.keys
    c.in_ok-insert-in-None.ensures.keys

pub returns-in_ok-insert-in-None-clause-placed : goal.returns-in_ok-insert-in-None-clause-placed
returns-in_ok-insert-in-None-clause-placed c =
    ready_placed c.args.cutting.now.nodes.now c.args.cutting.now.classes.items c.args.gone.now c.args.self.now.ready.keys
    c.args.self.now.noted.items c.requires.waiting c.args.head c.requires.head c.requires.left c.in-None.ensures c.insert.new.self.keys
    c.in_ok-insert-in-None.ensures.keys
