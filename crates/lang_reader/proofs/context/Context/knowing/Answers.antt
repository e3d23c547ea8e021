use Rattle.std.proofs.Common.{arith}
use Rattle.lang_reader.specs.Views.{state_of}
use Rattle.lang_reader.proofs.names.Known.{known_more, known_all}
use Rattle.std.proofs.Common.{◌∙◌}
use Rattle.lang_reader.proofs.context.Context.knowing.Goals as goal

pub loop-number-preserved : goal.loop-number-preserved
loop-number-preserved c =
    known_more (state_of c.loop-number.context) c.args.names.now c.loop-number.number c.index-names-number.result c.add.new.self
    c.push.new.self.items
    c.loop-number-test.true c.loop-number.invariant c.index-names-number.is c.in_ok-add.ensures c.in_ok-push.ensures.items

pub returns : goal.returns
returns c = c.loop-number.invariant ∙ known_all c.args.names.now c.loop-number.number
    (omega (arith, c.loop-number-test.false, c.loop-number.auto.number-end))
