use Rattle.std.proofs.Common.{◌≡◌, ◌∙◌, ◌/◌, ◌%◌, [], length, get_or, sym, ap}
use Rattle.std.specs.Prelude.{Some, slice_get}
use Rattle.std.proofs.lemmas.Option.{slice_get-get_or}
use Rattle.flow_systems.specs.declared.spot.Site.TheVariants.{Upper as UpperSite}
use Rattle.flow_systems.specs.View.{equations_of}
use Rattle.cert_types.specs.Certificates.{evidence_of}
use Rattle.theory_validity.specs.Faults.{UpperFault}
use Rattle.cert_checker.specs.EvidenceEvents.{evidence_events}
use Rattle.cert_checker.specs.Needs.{edge_of}
use Rattle.cert_checker.proofs.events.Supply.{told_passes, told_fails, one_given}
use Rattle.cert_checker.proofs.uppers.check_upper.Goals as goal

pub returns-in-Ok-Some : goal.returns-in-Ok-Some
returns-in-Ok-Some c = λ z h to.
    let S = equations_of c.args.system.now in
    let n = c.args.needed in
    let e = edge_of S.edges n.edge in
    let there : slice_get S.edges n.edge ≡ Some e = slice_get-get_or S.edges n.edge _ c.requires.edge in
    let r = n.unknown % length S.template in
    let events = evidence_events (UpperSite n.unknown n.edge) (UpperFault n.unknown n.edge) S z e (get_or S.template r [])
    (z (n.unknown / length S.template) r) (evidence_of c.args.upper.now) in (
      tt,
      one_given S z n to (evidence_of c.args.upper.now)
          ∙ told_passes events (UpperFault n.unknown n.edge) c.in-Ok-Some.field-0 c.in-Ok-Some.field-0-0 c.in-Ok-Some.field-0-is
          (c.in-Ok-Some.ensures z e h there (UpperSite n.unknown n.edge) (UpperFault n.unknown n.edge)),
    )

pub returns-in-Ok-None : goal.returns-in-Ok-None
returns-in-Ok-None c = λ z h to.
    let S = equations_of c.args.system.now in
    let n = c.args.needed in
    let e = edge_of S.edges n.edge in
    let there : slice_get S.edges n.edge ≡ Some e = slice_get-get_or S.edges n.edge _ c.requires.edge in
    let r = n.unknown % length S.template in
    let events = evidence_events (UpperSite n.unknown n.edge) (UpperFault n.unknown n.edge) S z e (get_or S.template r [])
    (z (n.unknown / length S.template) r) (evidence_of c.args.upper.now) in
    one_given S z n to (evidence_of c.args.upper.now)
    ∙ told_fails events (UpperFault n.unknown n.edge) c.in-Ok-None.field-0 c.in-Ok-None.field-0-is
    (c.in-Ok-None.ensures z e h there (UpperSite n.unknown n.edge) (UpperFault n.unknown n.edge))

pub returns-in-Err : goal.returns-in-Err
returns-in-Err c = λ z h to.
    let S = equations_of c.args.system.now in
    let n = c.args.needed in
    let e = edge_of S.edges n.edge in
    let there : slice_get S.edges n.edge ≡ Some e = slice_get-get_or S.edges n.edge _ c.requires.edge in
    one_given S z n to (evidence_of c.args.upper.now)
    ∙ c.in-Err.ensures z e h there (UpperSite n.unknown n.edge) (UpperFault n.unknown n.edge) ∙ ap Some (sym c.wide_at.ensures)
