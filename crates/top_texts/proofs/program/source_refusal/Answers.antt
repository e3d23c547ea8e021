use Rattle.top_texts.proofs.program.source_refusal.Goals as goal

pub returns-in_default : goal.returns-in_default
returns-in_default c = λ program reading. reading c.in_default.not-NoMemory
