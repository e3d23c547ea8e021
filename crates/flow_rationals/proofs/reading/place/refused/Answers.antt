use Rattle.flow_rationals.proofs.grammar.Going.{run_more}
use Rattle.flow_rationals.proofs.reading.place.refused.Goals as goal

pub returns-in-None : goal.returns-in-None
returns-in-None c = record {
  within = c.loop-i-test.true;
  place = c.loop-i.place;
  before = c.loop-i.invariant;
  refused = run_more c.args.symbols.now c.loop-i.i c.index-symbols-i.result c.loop-i.place _ c.loop-i-test.true c.index-symbols-i.is
      c.loop-i.invariant c.in-None.ensures;
}

pub loop-i-preserved : goal.loop-i-preserved
loop-i-preserved c =
    run_more c.args.symbols.now c.loop-i.i c.index-symbols-i.result c.loop-i.place _ c.loop-i-test.true c.index-symbols-i.is
    c.loop-i.invariant c.in-Some.ensures
