use Rattle.std.proofs.Common.{arith}
use Rattle.source_reader.proofs.lines.Ranges.{feeds_between}
use Rattle.source_reader.proofs.lines.line_from.Goals as goal

pub overflow_sub-result : goal.overflow_sub-result
overflow_sub-result c =
    let between = feeds_between c.args.text.now c.args.at c.args.known c.min-to.result c.min-from.result c.min-to.ensures c.min-from.ensures
    (omega (arith, c.if-from-to.false)) in
    let line = c.requires.line in
    let feeds = c.feeds-else-from-to.ensures in
    omega (arith, between, line, feeds)

pub returns-then-from-to : goal.returns-then-from-to
returns-then-from-to c =
    let between = feeds_between c.args.text.now c.args.known c.args.at c.min-from.result c.min-to.result c.min-from.ensures c.min-to.ensures
    c.if-from-to.true in
    let line = c.requires.line in
    let feeds = c.feeds.ensures in
    omega (arith, between, line, feeds)

pub returns-else-from-to : goal.returns-else-from-to
returns-else-from-to c =
    let between = feeds_between c.args.text.now c.args.at c.args.known c.min-to.result c.min-from.result c.min-to.ensures c.min-from.ensures
    (omega (arith, c.if-from-to.false)) in
    let line = c.requires.line in
    let feeds = c.feeds-else-from-to.ensures in
    omega (arith, between, line, feeds)
