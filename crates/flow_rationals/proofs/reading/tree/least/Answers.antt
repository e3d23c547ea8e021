use Rattle.flow_rationals.proofs.found.Tree.{least_some, least_no_sums, least_no_sum}
use Rattle.flow_rationals.proofs.reading.tree.least.Goals as goal

pub returns-in_default-clause-found : goal.returns-in_default-clause-found
returns-in_default-clause-found c = least_no_sum c.args.symbols.now (rw c.in_default.is at c.in_ok-first.ensures.found)

pub returns-in_default-2-clause-found : goal.returns-in_default-2-clause-found
returns-in_default-2-clause-found c =
    least_no_sums c.args.symbols.now c.in-Some.after.now c.in-Some.first (rw c.in-Some.is at c.in_ok-first.ensures.found)
    (rw c.in_default-2.is at c.in_ok-more.ensures.found)

pub returns-clause-found : goal.returns-clause-found
returns-clause-found c =
    least_some c.args.symbols.now c.in-Some.after.now c.in-Some-2.rest.now c.in-Some.first c.in-Some-2.more
    (rw c.in-Some.is at c.in_ok-first.ensures.found) (rw c.in-Some-2.is at c.in_ok-more.ensures.found)
