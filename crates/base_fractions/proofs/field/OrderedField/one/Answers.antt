use Rattle.std.proofs.Common.{pos, ◌∙◌, lit≤}
use Rattle.base_numbers.proofs.rational.Laws.{whole-one}
use Rattle.base_fractions.proofs.fits.Made.{small_made, small_value}
use Rattle.base_fractions.proofs.field.OrderedField.one.Goals as goal

pub unwrap-requires : goal.unwrap-requires
unwrap-requires g c =
    small_made g.Self.OrderedField.LIMIT g.Self.OrderedField.meaning (pos 1) c.make.result g.met.Self.OrderedField.limit_low (lit≤ tt)
    c.make.ensures

pub returns-clause-value : goal.returns-clause-value
returns-clause-value g c =
    small_value g.Self.OrderedField.LIMIT g.Self.OrderedField.meaning (pos 1) c.make.result c.unwrap.ensures c.make.ensures ∙ whole-one
