use Rattle.std.proofs.Common.{◌∙◌, ◌+◌, [], ap}
use Rattle.flow_systems.specs.View.{equations_of}
use Rattle.cert_checker.specs.CheckEvents.{uppers_events}
use Rattle.cert_checker.specs.Events.{first_stop}
use Rattle.cert_checker.specs.Needs.{needs_left}
use Rattle.cert_checker.proofs.events.Supply.{one_absent, uppers_none}
use Rattle.cert_checker.proofs.uppers.check_end.Goals as goal

pub returns-in-None : goal.returns-in-None
returns-in-None c = λ z h.
    let S = equations_of c.args.system.now in
    (tt, ap (λ ns. first_stop (uppers_events S z ns [])) (c.in-None.ensures.next z h) ∙ uppers_none S z [])

pub returns-in-Some : goal.returns-in-Some
returns-in-Some c = λ z h.
    let S = equations_of c.args.system.now in
    let needed = c.in-Some.field-0 in
    let next = c.in-Some.ensures.next z h in
    ap (λ ns. first_stop (uppers_events S z ns [])) next.left
    ∙ one_absent S z needed next.ends (needs_left S z (record { unknown = needed.unknown; edge = needed.edge + 1 }))
