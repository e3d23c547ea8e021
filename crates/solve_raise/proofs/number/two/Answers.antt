use Rattle.std.proofs.Common.{pos, lit≤}
use lib.Signed.{le_z_yes}
use Rattle.base_numbers.specs.Rational.{ℚ}
use Rattle.base_fractions.specs.Fits.{long_limit}
use Rattle.base_fractions.proofs.fits.Made.{small_made, small_value}
use Rattle.solve_raise.proofs.number.two.Goals as goal

pub unwrap-requires : goal.unwrap-requires
unwrap-requires c = small_made long_limit (λ (q : ℚ). q) (pos 2) c.make.result (le_z_yes tt) (lit≤ tt) c.make.ensures

pub returns : goal.returns
returns c = small_value long_limit (λ (q : ℚ). q) (pos 2) c.make.result c.unwrap.ensures c.make.ensures
