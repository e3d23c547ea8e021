use Rattle.std.proofs.Common.{◌∙◌, [], sym, ap, cond, arith}
use Rattle.flow_transitions.specs.declared.fault.AutoFault.TheVariants as fault
use Rattle.flow_transitions.specs.declared.reading.symbol.Symbol.TheVariants.{Comma, Semicolon}
use Rattle.flow_transitions.specs.AutoReading.{progress, past_point}
use Rattle.flow_transitions.proofs.progress.Steps.{passed_on}
use Rattle.flow_transitions.proofs.progress.HeadSteps.{more_points, points_fail, points_counted, few_points, many_points}
use Rattle.flow_transitions.proofs.reading.heads.comma_behind.Goals as goal

pub returns-in_err-comma-clause-reads : goal.returns-in_err-comma-clause-reads
returns-in_err-comma-clause-reads c = λ variables points counted.
    let text = c.args.text.now in
    let tokens = c.args.tokens.now in
    let r = progress variables points [] past_point in
    let i = c.args.at in
    let f = c.in_err-comma.field-0.0 in
    passed_on text tokens r i c.from_residual.result _ _ f c.from_residual.ensures.1
    (λ n. points_fail text tokens variables points i f c.in_err-comma.ensures.fault c.in_err-comma.ensures.no_comma
    c.in_err-comma.ensures.no_semicolon)

pub returns-then-branch-clause-reads : goal.returns-then-branch-clause-reads
returns-then-branch-clause-reads c = λ variables points counted.
    more_points c.args.text.now c.args.tokens.now variables points c.args.at
    (c.in_ok-comma.ensures.symbol ∙ ap (λ b. cond b Comma Semicolon) c.if-branch.true)

pub returns-then-count-lt2-clause-reads : goal.returns-then-count-lt2-clause-reads
returns-then-count-lt2-clause-reads c = λ variables points counted n.
    let text = c.args.text.now in
    let tokens = c.args.tokens.now in
    let i = c.args.at in
    let semicolon = c.in_ok-comma.ensures.symbol ∙ ap (λ b. cond b Comma Semicolon) c.if-branch.false in
    few_points text tokens variables points i (fault.Points c.args.count) semicolon (omega arith) (ap (λ k. fault.Points k) (sym counted))

pub returns-then-count-gt-MOST_POINTS-clause-reads : goal.returns-then-count-gt-MOST_POINTS-clause-reads
returns-then-count-gt-MOST_POINTS-clause-reads c = λ variables points counted n.
    let text = c.args.text.now in
    let tokens = c.args.tokens.now in
    let i = c.args.at in
    let semicolon = c.in_ok-comma.ensures.symbol ∙ ap (λ b. cond b Comma Semicolon) c.if-branch.false in
    many_points text tokens variables points i (fault.Points c.args.count) semicolon (omega arith) (omega arith)
    (ap (λ k. fault.Points k) (sym counted))

pub returns-clause-reads : goal.returns-clause-reads
returns-clause-reads c = λ variables points counted.
    let text = c.args.text.now in
    let tokens = c.args.tokens.now in
    let i = c.args.at in
    let semicolon = c.in_ok-comma.ensures.symbol ∙ ap (λ b. cond b Comma Semicolon) c.if-branch.false in
    points_counted text tokens variables points i semicolon (omega arith) (omega arith)
