use Rattle.std.proofs.Common.{ap, ◌∙◌, ◌++◌, append_assoc}
use Rattle.serde_json.specs.Written.{items_text}
use Rattle.std.proofs.Common.{false}
use Rattle.ask_json.specs.Sarif.{head_text, results, tail_text}
use Rattle.ask_json.proofs.log.Lines.{log_line}
use Rattle.ask_json.proofs.sarif.push_log.Goals as goal

pub returns : goal.returns
returns c =
    let s = c.args.source.now in
    let found = results s.uri.now s.text.now s.names.now c.args.checks.now c.args.verdicts.now in
    c.in_ok-push_tail.ensures
    ∙ ap (λ x. x ++ tail_text)
    (c.in_ok-push_results.ensures ∙ ap (λ x. x ++ items_text false found) c.in_ok-push_head.ensures)
    ∙ log_line c.args.out.now.items found
