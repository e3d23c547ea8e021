use Rattle.solve_offers.proofs.at_bounds.KnownValues.{known_less, known_found}
use Rattle.solve_rounds.proofs.uppers.shown.Goals as goal

pub returns-in-Some-clause-upper : goal.returns-in-Some-clause-upper
returns-in-Some-clause-upper c =
    (known_found c.args.at.now.system.now c.args.at.now.bounds.now c.args.known.now c.args.edge c.args.row c.in-Some.found
    c.requires.known c.requires.edge c.requires.row c.in-Some.ensures.taken).upper

pub returns-in-Some-clause-known : goal.returns-in-Some-clause-known
returns-in-Some-clause-known c =
    known_less c.args.at.now.system.now c.args.at.now.bounds.now c.args.known.now c.take.new.self _ c.requires.known
    c.take.ensures.left c.take.ensures.marks

pub returns-in_ok-found-in-None-clause-upper : goal.returns-in_ok-found-in-None-clause-upper
returns-in_ok-found-in-None-clause-upper c = c.in_ok-found-in-None.ensures.upper

pub returns-in_ok-found-in-None-clause-known : goal.returns-in_ok-found-in-None-clause-known
returns-in_ok-found-in-None-clause-known c =
    known_less c.args.at.now.system.now c.args.at.now.bounds.now c.args.known.now c.take.new.self _
    c.requires.known c.take.ensures.left c.take.ensures.marks

pub returns-in_err-found-in-None-clause-known : goal.returns-in_err-found-in-None-clause-known
returns-in_err-found-in-None-clause-known c =
    known_less c.args.at.now.system.now c.args.at.now.bounds.now c.args.known.now c.take.new.self _
    c.requires.known c.take.ensures.left c.take.ensures.marks
