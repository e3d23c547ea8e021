use Rattle.std.proofs.Common.{◌≡◌, ◌∙◌, ◌%◌, length, get_or, sym, ap}
use Rattle.std.specs.Prelude.{Some, None}
use Rattle.solve_offers.specs.Known.{known_value}
use Rattle.solve_rounds.proofs.quiet_marks.KnownQuiet.{known_within}
use Rattle.solve_rounds.proofs.quiet_marks.is_quiet.Goals as goal

pub returns-in-Some : goal.returns-in-Some
returns-in-Some c h =
    let system = c.args.system.now in
    let picked : get_or c.args.pick.now c.args.unknown None ≡ Some c.in-Some.edge = sym c.at.ensures ∙ c.in-Some.is in
    known_within system c.args.bounds.now c.args.pick.now c.args.known.now c.args.unknown c.in-Some.edge c.value.result c.at-in-Some.result
    c.requires.known c.requires.unknown (c.requires.edges c.args.unknown c.in-Some.edge picked) picked
    (c.value.ensures ∙ ap (λ n. known_value system c.args.known.now c.in-Some.edge (c.args.unknown % n))
    (ap (λ t. length t) c.as_slice.ensures.rows)) c.at-in-Some.ensures (c.is_known_within.ensures h)
