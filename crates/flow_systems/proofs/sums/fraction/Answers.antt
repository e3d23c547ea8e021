use Rattle.std.proofs.Common.{◌∙◌, ap, sym, subst, to_z, of_z}
use Rattle.std.specs.Prelude.{IsTrue}
use mir.Syntax.{w64}
use Rattle.base_numbers.specs.Rational.{ℚ, whole}
use Rattle.lang_tree.specs.Numbers.{is_number}
use Rattle.base_fractions.specs.Fits.{long_limit}
use Rattle.base_fractions.proofs.fits.Made.{small_value}
use Rattle.flow_systems.proofs.states.Summed.{number_made, number_same}
use Rattle.flow_systems.proofs.sums.fraction.Goals as goal

pub unwrap-requires : goal.unwrap-requires
unwrap-requires c =
    number_made (to_z w64 (of_z w64 c.args.number)) c.make.result (subst (λ z. IsTrue (is_number z))
    (sym (number_same c.args.number c.requires)) c.requires) c.make.ensures

pub returns : goal.returns
returns c = small_value long_limit (λ (q : ℚ). q) (to_z w64 (of_z w64 c.args.number)) c.make.result c.unwrap.ensures c.make.ensures
    ∙ ap whole (number_same c.args.number c.requires)
