use Rattle.source_grammar.specs.Machine.{start}
use Rattle.source_grammar.specs.Verdicts.{trace}
use Rattle.source_grammar.proofs.machine.Meaning.{begins_law}
use Rattle.source_grammar.proofs.faults.Scanned.{opens_front}
use Rattle.source_grammar.proofs.laws.one_depth.Goals as goal

pub returns : goal.returns
returns c = λ front b. let h = (begins_law front).1 b in (trace start front, opens_front front h.0 h.1)
