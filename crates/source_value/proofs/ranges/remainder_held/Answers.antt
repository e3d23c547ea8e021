use Rattle.std.proofs.Common.{◌≡◌, ◌∙◌, sym, negsuc, true, false}
use Rattle.std.specs.Ordering.{int_eq}
use Rattle.std.proofs.lemmas.Int.{to_z-of_z}
use Rattle.source_core.specs.Forms.{opposite}
use Rattle.source_core.specs.Fits.{condition_fits}
use Rattle.source_value.proofs.answers.Handed.{handed, when_true}
use Rattle.source_value.proofs.answers.Ranged.{held_unfit}
use Rattle.source_value.proofs.ranges.remainder_held.Goals as goal

pub returns-in_err-multiple : goal.returns-in_err-multiple
returns-in_err-multiple c =
    let z = c.args.divisor in
    let v = c.ranges.divisor in
    let e : int_eq z (negsuc 0) ≡ true = sym (simp to_z-of_z at c.is_minus_one.ensures) ∙ c.if-is_minus_one.true in
    handed _ _ _ c.in_err-multiple.field-0.0 _ c.from_residual.ensures.1
    (λ m. when_true (λ k. condition_fits k ≡ false) (int_eq z (negsuc 0)) _ _ e
    (held_unfit c.args.width (opposite c.args.left.now) (c.in_err-multiple.ensures m)))
