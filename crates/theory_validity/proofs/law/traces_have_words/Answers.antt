use Rattle.theory_validity.proofs.words.Traces.{word_of_trace}
use Rattle.theory_validity.proofs.law.traces_have_words.Goals as goal

pub returns : goal.returns
returns c = λ n actions x y e h. let r = word_of_trace n actions x y e h in
    record { free = r.0; count = r.1; passes = r.2; starts = r.3; ends = r.4 }
