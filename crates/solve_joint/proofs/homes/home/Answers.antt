use Rattle.std.proofs.Common.{◌∙◌, sym, arith, below_more}
use Rattle.solve_joint.proofs.homes.home.Goals as goal

pub loop-other-preserved : goal.loop-other-preserved
loop-other-preserved c = below_more _ _ c.loop-other.invariant (sym c.are_mutual.ensures ∙ c.if-are_mutual.false)

pub returns-then-are_mutual : goal.returns-then-are_mutual
returns-then-are_mutual c = record {
  low = (let l = c.loop-other-test.true in omega arith);
  there = sym c.are_mutual.ensures ∙ c.if-are_mutual.true;
  first = c.loop-other.invariant;
}

pub returns : goal.returns
returns c = record {
  low = omega arith;
  there = c.requires;
  first = λ k l. c.loop-other.invariant k (let t = c.loop-other-test.false in omega (arith, l, t));
}
