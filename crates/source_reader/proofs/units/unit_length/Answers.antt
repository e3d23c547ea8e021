use Rattle.source_reader.proofs.units.Ending.{goes_on, goes_no_more}
use Rattle.source_reader.proofs.units.unit_length.Goals as goal

pub returns-in-None-clause-length : goal.returns-in-None-clause-length
returns-in-None-clause-length c =
    goes_no_more c.args.tokens.now c.loop-place.place c.loop-place.depth _ c.turn_in.result _ c.loop-place-test.true
    c.turn_in.ensures c.symbol_of.ensures c.loop-place.invariant c.in-None.ensures

pub loop-place-preserved : goal.loop-place-preserved
loop-place-preserved c =
    goes_on c.args.tokens.now c.loop-place.place c.loop-place.depth c.in-Some.next _ c.turn_in.result _ c.loop-place-test.true
    c.turn_in.ensures c.symbol_of.ensures c.loop-place.invariant c.in-Some.ensures
