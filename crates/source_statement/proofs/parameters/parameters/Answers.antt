use Rattle.std.proofs.Common.{◌≡◌, ◌∙◌, ◌∷◌, List, Ok, ap, subst}
use Rattle.lang_tokens.specs.Lines.{line_at}
use Rattle.source_grammar.specs.Tokens.{Token, token, right_paren}
use Rattle.source_meaning.specs.Walk.{read_parameters}
use Rattle.source_reader.specs.Answers.{Answers}
use Rattle.source_reader.specs.Reading.{Reading, at_tokens, behind_first, passed}
use Rattle.source_change.specs.Tests.{WasRead}
use Rattle.source_statement.specs.Onto.{onto_parameters}
use Rattle.source_statement.proofs.parameters.parameters.Goals as goal

pub returns-clause-reads : goal.returns-clause-reads
returns-clause-reads c = λ a ps b rest e.
    let old : Reading = c.args.reader.now in
    let w : List Token = token right_paren b ∷ rest in
    let us : List Token = onto_parameters ps w in
    let mid : c.take.new.self ≡ at_tokens old us = c.in_ok-take.ensures.2 ∙ ap (λ ts. at_tokens old (behind_first ts)) e in
    let P : Reading → Type 0 = λ m. Answers {A = Unit {0}} (λ _ r. WasRead m.integers m.variables w m c.listed.new.reader c.listed.new.known
    c.args.out.now.items c.listed.new.out.items r) (Ok tt) (read_parameters m.integers (line_at m.text) c.args.known.now ps) in
    let q : P (at_tokens old us) = subst P mid (c.in_ok-listed.ensures.reads ps b rest (ap (λ (r : Reading). r.ahead) mid)) in (
      q.0,
      q.1,
      record { known = q.2.known; out = q.2.out; reader = c.in_ok-take-2.ensures.2 ∙ ap passed q.2.reader },
    )
