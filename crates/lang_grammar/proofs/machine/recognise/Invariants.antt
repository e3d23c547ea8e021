use Rattle.std.proofs.Common.{◌≡◌, map, drop}
use Rattle.lang_grammar.specs.Machine.{start}
use Rattle.lang_grammar.specs.Verdicts.{scan}
use Rattle.lang_grammar.specs.View.{plain_token}
use Rattle.lang_grammar.specs.Goals.{stack_of}
use Rattle.lang_grammar.proofs.machine.recognise.Given as goal

abbrev pub invariant-loop-token : goal.invariant-loop-token
invariant-loop-token l = scan (stack_of l.stack.items) (map plain_token (drop l.token-index l.tokens))
    ≡ scan start (map plain_token l.tokens)
