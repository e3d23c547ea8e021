use Rattle.std.proofs.Common.{◌∙◌}
use Rattle.flow_transitions.proofs.progress.ActSteps.{act_fails}
use Rattle.flow_transitions.proofs.reading.acts.act.Goals as goal

pub returns-in_default : goal.returns-in_default
returns-in_default c =
    let is = c.symbol.ensures.symbol in
    record {
      reads = λ points edges e n. act_fails c.args.text.now c.args.tokens.now c.args.names.now points edges e c.args.at c.unexpected.result
          c.unexpected.ensures
          c.requires.no_end (λ a. c.in_default.not-Assume (is ∙ a)) (λ a. c.in_default.not-Name (is ∙ a));
      later = tt;
      next = tt;
      act = tt;
    }
