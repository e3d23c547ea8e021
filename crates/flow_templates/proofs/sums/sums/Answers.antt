use Rattle.flow_templates.proofs.kept.Steps.{sums_more, kept_within_more, kept_leaves}
use Rattle.flow_templates.proofs.sums.sums.Goals as goal

pub returns-then-not-branch : goal.returns-then-not-branch
returns-then-not-branch c =
    kept_leaves c.args.terms.now c.loop-term.term-index _ c.loop-term.sums c.in_ok-add.field-0
    c.loop-term-test.true c.loop-term.invariant.add_up c.in_ok-add.ensures.fits c.if-not-branch.true

pub loop-term-preserved : goal.loop-term-preserved
loop-term-preserved c = record {
  within = kept_within_more c.args.terms.now c.loop-term.term-index _ c.loop-term.sums c.in_ok-add.field-0
      c.loop-term-test.true c.loop-term.invariant.add_up c.loop-term.invariant.within c.in_ok-add.ensures.fits c.if-not-branch.false;
  add_up = sums_more c.args.terms.now c.loop-term.term-index _ c.loop-term.sums c.add.new.sums
      c.loop-term-test.true c.loop-term.invariant.add_up (c.in_ok-add.ensures.sums c.if-not-branch.false);
}
