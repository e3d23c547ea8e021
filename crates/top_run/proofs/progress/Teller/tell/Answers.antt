use Rattle.std.proofs.Common.{◌≡◌, ◌∙◌, ap}
use Rattle.top_status.specs.Events.{event_line}
use Rattle.top_run.proofs.progress.Line.{told}
use Rattle.top_run.proofs.progress.Teller.tell.Goals as goal

pub returns-clause-line : goal.returns-clause-line
returns-clause-line g c =
    told _ _ _ _ _ _ _ _ _ _ _
    (c.bytes.ensures.bytes ∙ c.event_line-line.ensures ∙ ap (λ wipes. event_line wipes c.args.event) c.wipes.ensures)
    c.bytes.ensures.short c.put.ensures.appends c.put.ensures.takes c.put.ensures.cause
