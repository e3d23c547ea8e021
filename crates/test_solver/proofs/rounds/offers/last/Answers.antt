use Rattle.std.proofs.Common.{◌≡◌, ◌∙◌, ◌-◌, ◌<◌, ⊎_elim, true≢false, sym, subst, arith, length, map, get_or}
use Rattle.std.proofs.lemmas.Bool.{cases_lt}
use Rattle.base_numbers.specs.Extended.{neg_inf, ◌≤ᴱ◌, ◌<ᴱ◌}
use Rattle.base_fractions.specs.Extended.{extended}
use Rattle.solve_offers.proofs.offers.Offered.{not_below, value, value_read, none_exceeds}
use Rattle.test_solver.proofs.rounds.offers.last.Goals as goal

pub loop-k-preserved : goal.loop-k-preserved
loop-k-preserved c j low =
    let xs = c.as_slice-values.result.now in
    let bound = extended c.args.offer.now.bound in
    let k = c.loop-k.k - 1 in
    let within : k < length xs = (let a = c.loop-k-test.true in let b = c.loop-k.auto.k in omega arith) in
    let here = value_read xs k c.index-values-k.result within c.index-values-k.is in
    let small : value xs k ≤ᴱ bound = subst (λ v. v ≤ᴱ bound) (sym here)
    (not_below bound (extended c.index-values-k.result) (λ h. true≢false (sym (c.exceeds.ensures.1 h) ∙ c.if-exceeds.false))) in
    ⊎_elim (λ h. c.loop-k.invariant j (omega arith)) (λ h. let same : k ≡ j = omega arith in subst (λ i. value xs i ≤ᴱ bound) same small)
    (cases_lt k j)

pub unreachable-requires : goal.unreachable-requires
unreachable-requires c =
    let xs = c.as_slice-values.result.now in
    let bound = extended c.args.offer.now.bound in
    none_exceeds (map extended xs) bound (λ j l. c.loop-k.invariant j (let t = c.loop-k-test.false in omega arith))
    c.requires.0 (subst (λ v. bound <ᴱ get_or v c.requires.0 neg_inf) (sym c.as_slice-values.ensures) c.requires.1)
