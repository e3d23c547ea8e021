use Rattle.std.proofs.Common.{◌∙◌, sym}
use Rattle.source_value.proofs.answers.Numbered.{form_number, truth_answer, any_answer}
use Rattle.source_value.proofs.value.Value.into_number.Goals as goal

pub returns-in-Form : goal.returns-in-Form
returns-in-Form c = λ e s.
    form_number c.args.site.integers c.args.site.variables c.args.site.line e.prelude e.next e.result _ s.prelude
    (sym c.in-Form.is ∙ s.result) s.next s.numbers

pub returns-in-Truth : goal.returns-in-Truth
returns-in-Truth c =
    truth_answer c.args.site.integers c.args.site.variables c.args.site.line c.args.self _ c.truth_number.result c.in-Truth.is
    c.truth_number.ensures

pub returns-in-Any : goal.returns-in-Any
returns-in-Any c =
    any_answer c.args.site.integers c.args.site.variables c.args.site.line c.args.self c.havocked.result c.in-Any.is c.havocked.ensures
