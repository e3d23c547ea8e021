use Rattle.std.proofs.Common.{◌∙◌, map, ap, arith}
use Rattle.source_reader.specs.Reading.{Reading}
use Rattle.source_reader.specs.Brackets.{bracket_of, opened_in}
use Rattle.source_reader.proofs.Counting.{code_brackets, counts_subscripts, counts_more, counts_no_more, counts_all}
use Rattle.source_reader.proofs.reader.Reader.subscripts.Goals as goal

pub loop-token-preserved : goal.loop-token-preserved
loop-token-preserved c = counts_more c.self.inside.rest.now c.loop-token.token-index _ c.loop-token.brackets c.in-Some.next
    c.bracket_in.result _ c.loop-token-test.true c.bracket_in.ensures c.symbol_of.ensures c.loop-token.invariant c.in-Some.ensures

pub returns-in-None : goal.returns-in-None
returns-in-None c = λ is ts e h.
    counts_no_more c.self.inside.rest.now c.loop-token.token-index _ c.loop-token.brackets
    c.bracket_in.result _ c.loop-token-test.true c.bracket_in.ensures c.symbol_of.ensures c.loop-token.invariant c.in-None.ensures
    ∙ ap (opened_in 0) (code_brackets c.self.inside.definitions.now c.self.inside.text.now c.self.inside.rest.now)
    ∙ ap (λ (r : Reading). opened_in 0 (map bracket_of r.ahead)) c.self.view_is
    ∙ ap (λ us. opened_in 0 (map bracket_of us)) e ∙ counts_subscripts is ts h

pub returns : goal.returns
returns c = λ is ts e h.
    counts_all c.self.inside.rest.now c.loop-token.token-index c.loop-token.brackets (omega arith) c.loop-token.invariant
    ∙ ap (opened_in 0) (code_brackets c.self.inside.definitions.now c.self.inside.text.now c.self.inside.rest.now)
    ∙ ap (λ (r : Reading). opened_in 0 (map bracket_of r.ahead)) c.self.view_is
    ∙ ap (λ us. opened_in 0 (map bracket_of us)) e ∙ counts_subscripts is ts h
