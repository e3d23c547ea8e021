use Rattle.std.proofs.Common.{⊎_elim, refl}
use Rattle.flow_transitions.specs.AutoReading.{no_tokens}
use Rattle.flow_transitions.proofs.progress.Range.{source_of}
use Rattle.flow_transitions.proofs.reading.tokens_of.Goals as goal

pub returns-in-Ok-clause-source : goal.returns-in-Ok-clause-source
returns-in-Ok-clause-source c = source_of c.args.text.now c.in-Ok.tokens.items c.requires c.in-Ok.ensures.placed

pub returns-in_default : goal.returns-in_default
returns-in_default c =
    let fault = ⊎_elim (λ h. h) (λ e. absurd (c.in_default.not-NoMemory e)) c.in-Err.ensures.err in
    record {
      reads = tt;
      source = tt;
      refused = λ wanted. no_tokens c.in-Err.fault fault refl;
    }
