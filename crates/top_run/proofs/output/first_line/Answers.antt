use Rattle.std.proofs.Common.{◌∙◌, sym}
use Rattle.top_run.proofs.output.Lines.{first_line, last_line}
use Rattle.top_run.proofs.output.first_line.Goals as goal

pub returns-in-Some-clause-cut : goal.returns-in-Some-clause-cut
returns-in-Some-clause-cut c = first_line c.args.text.now c.in-Some.place (sym c.line_feed.ensures ∙ c.in-Some.is)

pub returns-in-None-clause-cut : goal.returns-in-None-clause-cut
returns-in-None-clause-cut c = last_line c.args.text.now c.requires (sym c.line_feed.ensures ∙ c.in-None.is)
