use Rattle.theory_validity.proofs.words.Traces.{trace_of_word}
use Rattle.theory_validity.proofs.law.words_give_traces.Goals as goal

pub returns : goal.returns
returns c = trace_of_word
