use Rattle.std.proofs.Common.{◌≡◌, ◌≢◌, pos, nat_abs, ap, ◌∙◌, arith}
use mir.Syntax.{w128}
use Rattle.std.proofs.lemmas.Int.{ints, to_z-of_z}
use Rattle.base_fractions.proofs.exact.Wholes.{quotient_above, quotient_below}
use Rattle.base_fractions.proofs.parts.wide_quotient.Goals as goal

pub returns-then-t-lt0 : goal.returns-then-t-lt0
returns-then-t-lt0 c =
    let r = to_z-of_z w128 c.args.t c.ranges.t in
    let l : c.args.t ≢ pos (nat_abs c.args.t) = λ e. omega (arith, ints, e, r, c.if-t-lt0.true) in
    record {
      value = quotient_below c.args.t c.args.g c.unsigned_abs.result c.size_quotient-size.result
          (c.unsigned_abs.ensures.value ∙ ap nat_abs r) c.size_quotient-size.ensures.value c.requires.divides
          c.size_quotient-size.ensures.bound l;
    }

pub returns-else-t-lt0 : goal.returns-else-t-lt0
returns-else-t-lt0 c =
    let r = to_z-of_z w128 c.args.t c.ranges.t in
    let l : c.args.t ≡ pos (nat_abs c.args.t) = omega (arith, ints, r, c.if-t-lt0.false) in
    record {
      value = quotient_above c.args.t c.args.g c.unsigned_abs.result c.size_quotient-size.result
          (c.unsigned_abs.ensures.value ∙ ap nat_abs r) c.size_quotient-size.ensures.value c.requires.divides
          c.size_quotient-size.ensures.bound l;
    }
