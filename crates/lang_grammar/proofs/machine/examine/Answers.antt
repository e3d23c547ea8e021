use Rattle.std.proofs.Common.{◌∙◌}
use Rattle.std.proofs.lemmas.Result.{IfOk-weaker}
use Rattle.lang_grammar.specs.Machine.{start}
use Rattle.lang_grammar.specs.View.{tokens_of}
use Rattle.lang_grammar.specs.Goals.{scan_of}
use Rattle.lang_grammar.proofs.faults.Exact.{exact_by}
use Rattle.lang_grammar.proofs.view.Plain.{plain_scan}
use Rattle.lang_grammar.proofs.faults.Scanned.{found_by}
use Rattle.lang_grammar.proofs.machine.examine.Goals as goal

pub returns-clause-found : goal.returns-clause-found
returns-clause-found c = IfOk-weaker c.recognise.result _ _ (λ s e text. found_by (scan_of s) (tokens_of text c.args.tokens.now)
    (e ∙ plain_scan text start c.args.tokens.now)) c.recognise.ensures

pub returns-clause-exact : goal.returns-clause-exact
returns-clause-exact c = IfOk-weaker c.recognise.result _ _ (λ s e text t n f. exact_by (scan_of s) t (tokens_of text c.args.tokens.now)
    (e ∙ plain_scan text start c.args.tokens.now) n f) c.recognise.ensures
