use Rattle.std.proofs.Common.{◌≡◌, ◌∙◌, ◌+◌, ◌<◌, true≢false, sym, subst, subst₂, arith, length, map, get_or}
use Rattle.std.proofs.lemmas.List.{length-map}
use Rattle.base_numbers.specs.Extended.{neg_inf, ◌<ᴱ◌}
use Rattle.base_fractions.specs.Extended.{extended}
use Rattle.solve_offers.specs.Offers.{IsFirstGreatest}
use Rattle.solve_offers.proofs.offers.Offered.{value, value_read, BestSoFar, best_moves, best_stays, best_is}
use Rattle.solve_offers.proofs.policy.best.Goals as goal
use Rattle.solve_offers.proofs.policy.best.Goals.{then-exceeds, else-exceeds}

pub loop-k-preserved : goal.loop-k-preserved
loop-k-preserved c =
    let xs = c.as_slice-values.result.now in
    let within = c.loop-k-test.true in
    let best_within : c.loop-k.best < length xs = (let b = c.loop-k.invariant.within in omega arith) in
    let here = value_read xs c.loop-k.k c.index-values-k.result within c.index-values-k.is in
    let there = value_read xs c.loop-k.best c.index-values-best.result best_within c.index-values-best.is in
    elim c.if-exceeds.branch [
      | then-exceeds w ↦ subst (λ b. BestSoFar (value xs) b (c.loop-k.k + 1)) (sym w.best-is)
          (best_moves (value xs) c.loop-k.best c.loop-k.k c.loop-k.invariant
          (subst₂ (λ a b. a <ᴱ b) (sym there) (sym here) (c.exceeds.ensures.0 w.if-exceeds.true)))
      | else-exceeds w ↦ subst (λ b. BestSoFar (value xs) b (c.loop-k.k + 1)) (sym w.best-is)
          (best_stays (value xs) c.loop-k.best c.loop-k.k c.loop-k.invariant
          (λ h. true≢false (sym (c.exceeds.ensures.1 (subst₂ (λ a b. a <ᴱ b) there here h)) ∙ w.if-exceeds.false)))
    ]

pub returns : goal.returns
returns c =
    let xs = c.as_slice-values.result.now in
    let bound = extended c.args.offer.now.bound in
    let all : c.loop-k.k ≡ length (map extended xs) = (let n : length (map extended xs) ≡ length xs = length-map xs extended in
    let low = c.loop-k-test.false in let high = c.loop-k.auto.k-end in omega arith) in
    subst (λ v. IsFirstGreatest v c.loop-k.best) c.as_slice-values.ensures
    (best_is (map extended xs) c.loop-k.best bound c.requires.0 (subst (λ v. bound <ᴱ get_or v c.requires.0 neg_inf)
    (sym c.as_slice-values.ensures) c.requires.1)
    (subst (λ k. BestSoFar (value xs) c.loop-k.best k) all c.loop-k.invariant))
