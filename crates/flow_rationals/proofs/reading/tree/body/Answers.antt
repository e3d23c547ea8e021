use Rattle.flow_rationals.proofs.found.Tree.{body_some, body_no_start, body_no_choices}
use Rattle.flow_rationals.proofs.reading.tree.body.Goals as goal

pub returns-in_default-clause-found : goal.returns-in_default-clause-found
returns-in_default-clause-found c = λ e m n a h.
    body_no_start c.args.symbols.now c.minus-minus.result.1.now c.minus-minus.result.0 c.minus-minus.ensures.spelled
    c.minus-minus.ensures.whole
    c.in_default.ensures.found e m h

pub returns-in_default-2-clause-found : goal.returns-in_default-2-clause-found
returns-in_default-2-clause-found c = λ e m n a h.
    body_no_choices c.args.symbols.now c.minus-minus.result.1.now c.in-Some.after.now c.minus-minus.result.0 c.in-Some.start
    c.minus-minus.ensures.spelled c.minus-minus.ensures.whole c.in-Some.ensures.found
    (rw c.in_default-2.is at c.in_ok-choices.ensures.found) e m h

pub returns-clause-found : goal.returns-clause-found
returns-clause-found c =
    body_some c.args.symbols.now c.minus-minus.result.1.now c.in-Some.after.now c.in-Some-2.rest.now c.args.name c.args.at
    c.minus-minus.result.0
    c.in-Some.start c.in-Some-2.choices c.minus-minus.ensures.spelled c.minus-minus.ensures.whole c.in-Some.ensures.found
    (rw c.in-Some-2.is at c.in_ok-choices.ensures.found)
