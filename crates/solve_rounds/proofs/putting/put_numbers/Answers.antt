use Rattle.std.proofs.Common.{◌∙◌, ◌<◌, length, get_or, ap, ap₂, sym, subst}
use Rattle.std.specs.Prelude.{slice_set}
use Rattle.std.proofs.lemmas.List.{get_or_read}
use Rattle.base_numbers.specs.Rational.{zero_ℚ}
use Rattle.base_numbers.specs.Extended.{fin}
use Rattle.solve_rounds.proofs.putting.Puts.{length-puts, puts-none, puts-more}
use Rattle.solve_rounds.proofs.putting.put_numbers.Goals as goal

pub loop-k-init : goal.loop-k-init
loop-k-init c = sym (puts-none (λ k. fin (get_or c.args.to.now k zero_ℚ)) c.args.list.now c.args.bounds.now)

pub set-requires : goal.set-requires
set-requires c =
    let size = ap length c.loop-k.invariant ∙ length-puts (λ k. fin (get_or c.args.to.now k zero_ℚ)) c.args.list.now c.args.bounds.now
    c.loop-k.k in
    subst (λ n. get_or c.args.list.now c.loop-k.k 0 < n) (sym size) (c.requires.within c.loop-k.k c.loop-k-test.true)

pub loop-k-preserved : goal.loop-k-preserved
loop-k-preserved c =
    let k = c.loop-k.k in
    let list = c.args.list.now in
    let to = c.args.to.now in
    let read = get_or_read to k c.index-to-k.result (subst (λ n. k < n) (sym c.requires.count) c.loop-k-test.true) c.index-to-k.is zero_ℚ in
    c.set.ensures ∙ ap₂ (λ bs v. slice_set bs (get_or list k 0) (fin v)) c.loop-k.invariant read
    ∙ sym (puts-more (λ k. fin (get_or to k zero_ℚ)) list c.args.bounds.now k)
