use Rattle.solve_offers.proofs.at_bounds.KnownValues.{known_more, known_stands}
use Rattle.solve_offers.proofs.improvement.offered_value.Goals as goal

pub returns-in-Some-clause-value : goal.returns-in-Some-clause-value
returns-in-Some-clause-value c =
    known_stands c.args.at.now.system.now c.args.at.now.bounds.now c.args.known.now c.args.edge c.args.row c.in-Some.value
    c.requires.known c.requires.edge c.requires.row c.in-Some.ensures

pub returns-in_ok-found-in-None-clause-value : goal.returns-in_ok-found-in-None-clause-value
returns-in_ok-found-in-None-clause-value c = c.in_ok-found-in-None.ensures.value

pub returns-in_ok-found-in-None-clause-known : goal.returns-in_ok-found-in-None-clause-known
returns-in_ok-found-in-None-clause-known c =
    known_more c.args.at.now.system.now c.args.at.now.bounds.now c.args.known.now c.keep.new.self c.args.edge c.args.row
    c.in_ok-found-in-None.found c.requires.edge c.requires.row c.requires.known c.keep.ensures.kept c.keep.ensures.marks
    c.in_ok-found-in-None.ensures
