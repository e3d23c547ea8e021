use Rattle.std.proofs.lemmas.Result.{IfOk-weaker}
use Rattle.source_grammar.specs.Goals.{scan_of}
use Rattle.source_grammar.proofs.faults.Exact.{exact_by}
use Rattle.source_grammar.proofs.faults.Scanned.{found_by}
use Rattle.source_grammar.proofs.view.Plain.{scan_of_tokens}
use Rattle.source_grammar.proofs.machine.examine.Goals as goal

pub returns-clause-found : goal.returns-clause-found
returns-clause-found c = IfOk-weaker c.recognise.result _ _ (λ s e ts h. found_by (scan_of s) ts
    (scan_of_tokens (scan_of s) ts c.args.pieces.now h e)) c.recognise.ensures

pub returns-clause-exact : goal.returns-clause-exact
returns-clause-exact c = IfOk-weaker c.recognise.result _ _ (λ s e ts t h f. exact_by (scan_of s) t ts
    (scan_of_tokens (scan_of s) ts c.args.pieces.now h e) f) c.recognise.ensures
