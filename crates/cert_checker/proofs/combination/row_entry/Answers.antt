use Rattle.std.proofs.Common.{◌∙◌, ap, sym, pos}
use Rattle.std.proofs.lemmas.List.{get_or_past}
use Rattle.base_numbers.specs.Rational.{whole}
use Rattle.base_numbers.proofs.rational.Laws.{whole-zero}
use Rattle.cert_checker.proofs.combination.row_entry.Goals as goal

pub returns-else-column-row : goal.returns-else-column-row
returns-else-column-row c = c.zero.ensures.value ∙ sym (ap whole (get_or_past c.args.row.now c.args.column (pos 0) c.if-column-row.false)
    ∙ whole-zero)
