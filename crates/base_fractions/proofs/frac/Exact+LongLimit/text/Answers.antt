use Rattle.std.proofs.Common.{◌≡◌, ◌≤◌, ℕ, nat_abs, to_z, of_z, FitsSigned, length, ap, ◌∙◌, arith, length-append, decimal, rules}
use mir.Syntax.{w64}
use Rattle.std.proofs.lemmas.Int.{ints, to_z-of_z}
use Rattle.std.proofs.lemmas.Fmt.{length-decimal-le}
use Rattle.base_fractions.proofs.frac.Exact+LongLimit.text.Goals as goal

pub append-requires-then-den-ne1-2 : goal.append-requires-then-den-ne1-2
append-requires-then-den-ne1-2 c =
    let f : FitsSigned w64 c.den-den.result = search rules in
    let size : nat_abs (to_z w64 (of_z w64 c.den-den.result)) ≡ c.args.self.den =
    ap nat_abs (to_z-of_z w64 c.den-den.result f ∙ c.den-den.ensures.value) in
    let high = c.den-den.ensures.fits.den_fits in
    let short : length (decimal (nat_abs (to_z w64 (of_z w64 c.den-den.result)))) ≤ 19 =
    length-decimal-le 19 (nat_abs (to_z w64 (of_z w64 c.den-den.result))) (omega arith) (omega (arith, ints, size, high))
    (omega (arith, ints, size, high)) in
    let den_is = ap length (c.as_bytes-then-den-ne1.ensures.value ∙ c.format-then-den-ne1.ensures.text) in
    let first = ap length c.append.ensures in
    let second = ap length c.append-then-den-ne1.ensures in
    let empty = ap length c.new-text.ensures in
    let num_is = ap length c.as_bytes.ensures.value in
    let num_fits = c.format.ensures.fits in
    omega (arith, length-append {A = ℕ})
