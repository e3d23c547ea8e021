use Rattle.std.proofs.Common.{◌<◌, ◌^◌, ℤ, nat_abs, ap, sym, ◌∙◌, arith}
use Rattle.std.proofs.lemmas.Int.{ints}
use Rattle.base_fractions.proofs.texts.Slashes.{some_same}
use Rattle.base_fractions.proofs.fits.Made.{made_from_parts}
use Rattle.base_fractions.proofs.frac.Exact+LongLimit.guess.Goals as goal

pub returns-in-Some-clause-back : goal.returns-in-Some-clause-back
returns-in-Some-clause-back c = λ q f e.
    let hn = f.num_fits in
    let hd = f.den_fits in
    let sn : nat_abs q.num < 2 ^ 63 = omega (arith, ints, hn) in
    let sd : q.den < 2 ^ 63 = omega (arith, ints, hd) in
    let p = some_same (sym c.in-Some.is ∙ c.read_parts.ensures q.num q.den sn sd e) in
    made_from_parts q c.in-Some.num c.in-Some.den c.make.result f (ap (λ (x : ℤ × ℤ). x.0) p) (ap (λ (x : ℤ × ℤ). x.1) p) c.make.ensures
