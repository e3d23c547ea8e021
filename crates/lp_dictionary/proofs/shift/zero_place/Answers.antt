use Rattle.std.proofs.Common.{sym, slice_index}
use Rattle.std.proofs.Common.{length}
use Rattle.lp_theory.proofs.search.Places.{place_is}
use Rattle.lp_dictionary.proofs.shift.zero_place.Goals as goal

pub returns-then-name-eq0-clause-place : goal.returns-then-name-eq0-clause-place
returns-then-name-eq0-clause-place c =
    sym (place_is (λ k. slice_index c.args.names.now k) (length c.args.names.now) 0 c.loop-i.i c.loop-i-test.true c.if-name-eq0.true
    c.loop-i.invariant)
