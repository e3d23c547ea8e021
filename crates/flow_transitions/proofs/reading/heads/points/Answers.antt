use Rattle.std.proofs.Common.{true≢false, [], refl, ◌+◌, sym, subst, arith}
use Rattle.flow_transitions.specs.AutoReading.{progress, at_point, at_points}
use Rattle.flow_transitions.proofs.progress.Steps.{Goes, passed_on, token_goes, token_fails}
use Rattle.flow_transitions.proofs.reading.heads.points.Goals as goal

pub returns-in_err-word-clause-reads : goal.returns-in_err-word-clause-reads
returns-in_err-word-clause-reads c = λ variables.
    let text = c.args.text.now in
    let tokens = c.args.tokens.now in
    let r = progress variables [] [] at_points in
    let f = c.in_err-word.field-0.0 in
    passed_on text tokens r c.args.at c.from_residual.result _ _ f c.from_residual.ensures.1
    (λ n. token_fails text tokens r c.args.at f refl (c.in_err-word.ensures.other r at_point))

pub points-init : goal.points-init
points-init c =
    let text = c.args.text.now in
    let tokens = c.args.tokens.now in
    record {
      goes = λ variables.
          let r = progress variables [] [] at_points in
          subst (λ points. Goes text tokens r c.args.at (progress variables points [] at_point) (c.args.at + 1))
          (sym c.new-points.ensures.items)
          (token_goes text tokens r (progress variables [] [] at_point) c.args.at refl (c.in_ok-word.ensures.reads r at_point));
      within = c.in_ok-word.ensures.next;
      paced = omega arith;
      counted = λ e. absurd (true≢false e);
    }
