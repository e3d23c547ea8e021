use Rattle.solve_rounds.proofs.turning.Turned.{rising}
use Rattle.solve_rounds.proofs.turning.TurnedBy.{turned_by}
use Rattle.solve_rounds.proofs.turning.FoundFacts.{found_sizes, found_facts}
use Rattle.solve_rounds.proofs.turning.OthersKept.{taken_others, taken_among}
use Rattle.solve_rounds.proofs.turning.turn.Goals as goal

pub outcome-requires-clause-rising : goal.outcome-requires-clause-rising
outcome-requires-clause-rising g c =
    let at = c.args.at.now in
    let system = at.system.now in
    let pick = at.pick.now in
    let old = c.args.turning.now in
    rising system pick at.raises.now at.places.now c.args.list.now c.requires.part old.bounds c.requires.bounds c.requires.condition

pub take-requires-clause-sizes : goal.take-requires-clause-sizes
take-requires-clause-sizes g c =
    let at = c.args.at.now in
    found_sizes at.system.now at.pick.now at.raises.now at.places.now c.args.turning.now.bounds c.args.list.now
    c.in_ok-found.found c.in_ok-found.ensures.found

pub returns-clause-turned : goal.returns-clause-turned
returns-clause-turned g c =
    let at = c.args.at.now in
    let system = at.system.now in
    let pick = at.pick.now in
    let raises = at.raises.now in
    let places = at.places.now in
    let list = c.args.list.now in
    let old = c.args.turning.now in
    let new = c.take.new.turning in
    let part = c.requires.part in
    let found = c.in_ok-found.found in
    let is_found = c.in_ok-found.ensures.found in
    turned_by system pick raises places list part c.requires.some old new c.in_ok-left.left.items c.requires.bounds c.requires.condition
    found (found_sizes system pick raises places old.bounds list found is_found)
    (found_facts system pick at.chosen raises places list part old.bounds c.requires.bounds c.requires.condition found is_found)
    c.in_ok-left.ensures.taken

pub returns-clause-others : goal.returns-clause-others
returns-clause-others g c =
    let at = c.args.at.now in
    let list = c.args.list.now in
    let old = c.args.turning.now in
    let found = c.in_ok-found.found in
    taken_others at.raises.now at.places.now list old c.take.new.turning c.in_ok-left.left.items found
    (found_sizes at.system.now at.pick.now at.raises.now at.places.now old.bounds list found c.in_ok-found.ensures.found)
    c.in_ok-left.ensures.taken

pub returns-clause-among : goal.returns-clause-among
returns-clause-among g c =
    let at = c.args.at.now in
    taken_among at.raises.now at.places.now c.args.list.now c.args.turning.now c.take.new.turning c.in_ok-left.left.items
    c.in_ok-found.found c.in_ok-left.ensures.taken
