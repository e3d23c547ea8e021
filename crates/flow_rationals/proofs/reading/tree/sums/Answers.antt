use Rattle.std.proofs.Common.{List, length, sym, ap, subst, arith}
use Rattle.flow_rationals.specs.declared.reading.written.Addends.{Addends}
use Rattle.flow_rationals.specs.Grammar.{sum_then, sums_then}
use Rattle.flow_rationals.proofs.found.Lists.{ListGoesOn, list_goes, list_stuck, list_closes, list_open}
use Rattle.flow_rationals.proofs.found.Tree.{sums_close, sums_listing}
use Rattle.flow_rationals.proofs.reading.tree.sums.Goals as goal

pub returns-in_default-2-clause-found : goal.returns-in_default-2-clause-found
returns-in_default-2-clause-found c = λ sums m e.
    list_stuck Addends sum_then sums_then sums_close sums_listing
    c.sums.sums.items c.sums.rest.now c.in-Some.others.now sums m (c.sums.invariant.go_on sums m e) c.in-Some.ensures
    (rw c.in_default-2.is at c.in_ok-next.ensures.found)

pub sums-preserved : goal.sums-preserved
sums-preserved c = record {
  go_on = λ sums m e.
      subst (λ (x : List Addends). ListGoesOn Addends sums_then x c.in-Some-2.after.now sums m) (sym c.in_ok-push.ensures.items)
      (list_goes Addends sum_then sums_then sums_close sums_listing
      c.sums.sums.items c.sums.rest.now c.in-Some.others.now c.in-Some-2.after.now c.in-Some-2.next sums m
      (c.sums.invariant.go_on sums m e) c.in-Some.ensures (rw c.in-Some-2.is at c.in_ok-next.ensures.found));
  shorter = let h = rw c.in-Some-2.is at c.in_ok-next.ensures.shorter in
      omega (arith, ap length c.in-Some.ensures, h, c.sums.invariant.shorter);
}

pub returns-in-Some-behind-clause-found : goal.returns-in-Some-behind-clause-found
returns-in-Some-behind-clause-found c = λ sums m e.
    list_closes Addends sum_then sums_then sums_close sums_listing
    c.sums.sums.items c.new.result c.sums.rest.now c.in-Some-behind.after.now sums m c.new.ensures
    (c.sums.invariant.go_on sums m e) c.in-Some-behind.ensures

pub returns-clause-found : goal.returns-clause-found
returns-clause-found c = λ sums m e.
    list_open Addends sum_then sums_then sums_close sums_listing
    c.sums.sums.items c.sums.rest.now sums m (c.sums.invariant.go_on sums m e) c.in_default.ensures c.in-None.ensures
