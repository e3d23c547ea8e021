use Rattle.std.proofs.Common.{List, length, sym, ap, subst, arith}
use Rattle.flow_rationals.specs.declared.reading.written.Part.{Part}
use Rattle.flow_rationals.proofs.found.Parts.{GoesOn, sum_starts, sum_none, sum_goes, sum_stuck, sum_ends}
use Rattle.flow_rationals.proofs.reading.parts.sum.Goals as goal

pub returns-in_default-clause-found : goal.returns-in_default-clause-found
returns-in_default-clause-found c = sum_none c.args.symbols.now c.in_default.ensures.found

pub parts-init : goal.parts-init
parts-init c = record {
  goes_on = λ s m h e.
      subst (λ (x : List Part). GoesOn c.in-Some.first x c.in-Some.after.now s m) (sym c.new-more.ensures.items)
      (sum_starts c.args.symbols.now c.in-Some.after.now c.in-Some.first c.in-Some.ensures.found s m h e);
  shorter = c.in-Some.ensures.shorter;
}

pub returns-in_default-part-clause-found : goal.returns-in_default-part-clause-found
returns-in_default-part-clause-found c = λ s m h e.
    sum_stuck c.in-Some.first c.parts.more.items c.parts.rest.now c.in-Some-behind.others.now s m
    (c.parts.invariant.goes_on s m h e) h c.in-Some-behind.ensures c.in_default-part.ensures.found

pub parts-preserved : goal.parts-preserved
parts-preserved c = record {
  goes_on = λ s m h e.
      subst (λ (x : List Part). GoesOn c.in-Some.first x c.in-Some-part.after.now s m) (sym c.in_ok-push.ensures.items)
      (sum_goes c.in-Some.first c.parts.more.items c.parts.rest.now c.in-Some-behind.others.now c.in-Some-part.after.now c.in-Some-part.next
      s m
      (c.parts.invariant.goes_on s m h e) h c.in-Some-behind.ensures c.in-Some-part.ensures.found);
  shorter = omega (arith, ap length c.in-Some-behind.ensures, c.in-Some-part.ensures.shorter, c.parts.invariant.shorter);
}

pub returns-clause-found : goal.returns-clause-found
returns-clause-found c = λ s m h e.
    sum_ends c.in-Some.first c.parts.more.items c.new-more-2.result c.parts.rest.now s m c.new-more-2.ensures
    (c.parts.invariant.goes_on s m h e) c.in_default-behind.ensures
