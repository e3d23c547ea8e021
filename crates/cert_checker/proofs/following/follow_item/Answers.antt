use Rattle.std.proofs.Common.{◌≡◌, length, ap, sym, subst}
use Rattle.flow_systems.specs.View.{equations_of}
use Rattle.cert_types.specs.Certificates.{pieces_of}
use Rattle.theory_validity.specs.Steps.{word, edge_of, row_of}
use Rattle.cert_checker.specs.Events.{Answers}
use Rattle.cert_checker.specs.Following.{shown, shown_events}
use Rattle.cert_checker.specs.Items.{item_at}
use Rattle.cert_checker.proofs.item.Places.{edge_at_place, free_of, row_at_place}
use Rattle.cert_checker.proofs.following.follow_item.Goals as goal

pub follow-requires-clause-free : goal.follow-requires-clause-free
follow-requires-clause-free c = λ e f.
    let S = equations_of c.args.system.now in
    let rows = length c.args.system.now.template in
    let item = item_at rows c.args.step.now c.args.k in
    free_of S item c.requires.placed c.edge_at.result (c.edge_at.ensures rows) (pieces_of c.args.trace.now) c.requires.sized e f

pub returns : goal.returns
returns c = λ z t h same.
    let S = equations_of c.args.system.now in
    let rows = length c.args.system.now.template in
    let item = item_at rows c.args.step.now c.args.k in
    let edge = edge_of S item in
    let row = row_of S item in
    let there = edge_at_place S item c.requires.placed c.edge_at.result (c.edge_at.ensures rows) in
    let listed = row_at_place S item c.requires.placed c.unknown_at.result (length c.as_slice.result.now) (c.unknown_at.ensures.row rows)
    (ap (λ xs. length xs) c.as_slice.ensures.rows) in
    subst (λ u. Answers (λ v. v ≡ shown c.args.way S edge row (word u)) (λ site fault. shown_events c.args.way site fault S z edge row u)
    c.follow.result) (sym same) (c.follow.ensures z edge row h there listed)
