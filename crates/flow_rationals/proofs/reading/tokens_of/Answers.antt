use Rattle.std.proofs.Common.{⊎_elim, refl}
use Rattle.flow_rationals.specs.EquationTexts.{a_lexical_fault}
use Rattle.flow_rationals.proofs.grammar.Whole.{all_within, tokens_few}
use Rattle.flow_rationals.proofs.equation_texts.OneAnswer.{lexical_alone}
use Rattle.flow_rationals.proofs.reading.tokens_of.Goals as goal

pub returns-in-Ok-clause-within : goal.returns-in-Ok-clause-within
returns-in-Ok-clause-within c = all_within c.args.text.now _ c.in-Ok.ensures.placed

pub returns-in-Ok-clause-few : goal.returns-in-Ok-clause-few
returns-in-Ok-clause-few c = tokens_few c.args.text.now _ c.requires c.in-Ok.ensures.placed

pub returns-in_default : goal.returns-in_default
returns-in_default c =
    let fault = ⊎_elim (λ h. h) (λ e. absurd (c.in_default.not-NoMemory e)) c.in-Err.ensures.err in
    record {
      reads = tt;
      within = tt;
      few = tt;
      refused = λ wanted. a_lexical_fault c.in-Err.fault refl fault;
      alone = λ wanted. lexical_alone c.args.text.now c.in-Err.fault fault;
    }
