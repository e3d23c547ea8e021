use Rattle.std.proofs.Common.{true≢false, [], refl, sym, subst, arith}
use Rattle.flow_transitions.specs.AutoReading.{progress, start, at_variable}
use Rattle.flow_transitions.proofs.progress.Steps.{Goes, passed_on, token_goes, token_fails}
use Rattle.flow_transitions.proofs.reading.heads.variables.Goals as goal

pub returns-in_err-word-clause-reads : goal.returns-in_err-word-clause-reads
returns-in_err-word-clause-reads c =
    let text = c.args.text.now in
    let tokens = c.args.tokens.now in
    let f = c.in_err-word.field-0.0 in
    passed_on text tokens start 0 c.from_residual.result _ _ f c.from_residual.ensures.1
    (λ n. token_fails text tokens start 0 f refl (c.in_err-word.ensures.other start at_variable))

pub names-init : goal.names-init
names-init c =
    let text = c.args.text.now in
    let tokens = c.args.tokens.now in
    record {
      goes = subst (λ names. Goes text tokens start 0 (progress names [] [] at_variable) 1) (sym c.new-names.ensures.items)
          (token_goes text tokens start (progress [] [] [] at_variable) 0 refl (c.in_ok-word.ensures.reads start at_variable));
      within = c.in_ok-word.ensures.next;
      few = omega arith;
      some = λ e. absurd (true≢false e);
    }
