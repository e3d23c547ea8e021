use Rattle.base_values.proofs.Lists.{opened_is, unopened}
use Rattle.base_values.proofs.document.opened.Goals as goal

pub invariant_of-result : goal.invariant_of-result
invariant_of-result c = (opened_is c.args.reader c.takes_array.new.reader c.if-takes_array.ensures c.requires).0

pub returns-then-takes_array : goal.returns-then-takes_array
returns-then-takes_array c = (opened_is c.args.reader c.takes_array.new.reader c.if-takes_array.ensures c.requires).1

pub returns-else-takes_array : goal.returns-else-takes_array
returns-else-takes_array c = unopened c.args.reader c.if-takes_array.ensures
