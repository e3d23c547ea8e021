use Rattle.std.specs.Prelude.{codes}
use Rattle.std.proofs.Common.{◌≡◌, ◌++◌, ℕ, false, true, subst}
use Rattle.serde_json.specs.Data.{Members}
use Rattle.serde_json.specs.Written.{members_text}
use Rattle.base_json.proofs.Pushed.{member_pushed}
use Rattle.lang_tokens.specs.Lines.{line_at}
use Rattle.ask_checks.specs.Lines.{column_at}
use Rattle.out_json.specs.Pieces.{count}
use Rattle.ask_json.specs.Checks.{last_members}
use Rattle.ask_json.proofs.checks.push_members.Goals as goal

pub returns : goal.returns
returns c =
    let text = c.args.text.now in
    let check = c.args.check in
    let last : ℕ → Members = λ at. last_members at c.args.names.now check.kind c.args.verdict.now in
    member_pushed _ c.push_column.new.out.items _ false (codes "column") (count (column_at text check.at)) (last (line_at text check.at))
    c.in_ok-push_column.ensures
    (subst (λ at. c.push_last.new.out.items ≡ c.push_column.new.out.items ++ members_text true (last at)) c.line_of-line.ensures
    c.in_ok-push_last.ensures)
