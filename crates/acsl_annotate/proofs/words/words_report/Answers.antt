use Rattle.std.proofs.Common.{◌∙◌, ap, sym}
use Rattle.ask_words.specs.Request.{request_of}
use Rattle.acsl_annotate.specs.Words.{are_plain}
use Rattle.acsl_annotate.proofs.words.Reported.{reported}
use Rattle.acsl_annotate.proofs.words.words_report.Goals as goal

pub returns : goal.returns
returns c = λ words request is e. reported (are_plain is.0) is.0 request c.solve_reports.ensures c.request_laws.ensures.nothing
    (sym (ap request_of is.1) ∙ e)
