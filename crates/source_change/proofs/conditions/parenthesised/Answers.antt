use Rattle.std.proofs.Common.{◌≡◌, ◌∙◌, ◌∷◌, ◌++◌, ℕ, ap, subst, List, Ok, Err}
use Rattle.lang_tokens.specs.Lines.{line_at}
use Rattle.source_grammar.specs.Grammar.{spell_expr}
use Rattle.source_grammar.specs.Tokens.{Token, token, right_paren}
use Rattle.source_tree.specs.Expressions.{Expression}
use Rattle.source_core.specs.Core.{condition_of}
use Rattle.source_meaning.specs.Statements.{read_condition}
use Rattle.source_reader.specs.Answers.{Answers}
use Rattle.source_reader.specs.Marks.{mark_in}
use Rattle.source_reader.specs.Reading.{Reading, at_tokens, behind_first, first_kind, passed}
use Rattle.source_change.specs.Tests.{IsTest}
use Rattle.source_change.specs.declared.conditions.Test.{Test}
use Rattle.source_change.proofs.results.Answered.{err_same}
use Rattle.source_change.proofs.conditions.parenthesised.Goals as goal

-- the test that was read from one reading up to tokens
abbrev Was : Reading → Reading → (at : ℕ) → List Token → Test → Expression → Type 0
Was old new at rest t x = IsTest t (condition_of old.integers old.variables (line_at old.text at) x) × (new ≡ at_tokens old rest)

pub returns-in_err-take-clause-reads : goal.returns-in_err-take-clause-reads
returns-in_err-take-clause-reads c = λ b e d rest g f.
    absurd (c.in_err-take.ensures.0 (ap (λ ts. mark_in (first_kind ts)) f))

pub returns-in_err-test-clause-reads : goal.returns-in_err-test-clause-reads
returns-in_err-test-clause-reads c = λ b e d rest g f.
    let old : Reading = c.args.reader.now in
    let behind : List Token = spell_expr e ++ token right_paren d ∷ rest in
    let mid : c.take.new.self ≡ at_tokens old behind =
    c.in_ok-take.ensures.2 ∙ ap (λ ts. at_tokens old (behind_first ts)) f in
    let P : Reading → Type 0 = λ m. Answers (Was m c.read_test.new.reader c.args.at (token right_paren d ∷ rest))
    (Err c.in_err-test.field-0.0)
    (read_condition m.integers (line_at m.text) m.variables c.args.known.now c.args.at e) in
    let a : P (at_tokens old behind) = subst P mid
    (c.in_err-test.ensures.reads e (token right_paren d ∷ rest) g (ap (λ (r : Reading). r.ahead) mid) tt) in
    err_same (Was old c.read_test.new.reader c.args.at (token right_paren d ∷ rest))
    (Was old c.read_test.new.reader c.args.at rest) c.from_residual-in_err-test.result c.in_err-test.field-0.0
    (read_condition old.integers (line_at old.text) old.variables c.args.known.now c.args.at e) c.from_residual-in_err-test.ensures.1 a

pub returns-in_err-take-2-clause-reads : goal.returns-in_err-take-2-clause-reads
returns-in_err-take-2-clause-reads c = λ b e d rest g f.
    let old : Reading = c.args.reader.now in
    let behind : List Token = spell_expr e ++ token right_paren d ∷ rest in
    let mid : c.take.new.self ≡ at_tokens old behind =
    c.in_ok-take.ensures.2 ∙ ap (λ ts. at_tokens old (behind_first ts)) f in
    let P : Reading → Type 0 = λ m. Answers (Was m c.read_test.new.reader c.args.at (token right_paren d ∷ rest)) (Ok c.in_ok-test.test)
    (read_condition m.integers (line_at m.text) m.variables c.args.known.now c.args.at e) in
    let a : P (at_tokens old behind) = subst P mid
    (c.in_ok-test.ensures.reads e (token right_paren d ∷ rest) g (ap (λ (r : Reading). r.ahead) mid) tt) in
    absurd (c.in_err-take-2.ensures.0 (ap (λ (r : Reading). mark_in (first_kind r.ahead)) a.2.1))

pub returns-clause-reads : goal.returns-clause-reads
returns-clause-reads c = λ b e d rest g f.
    let old : Reading = c.args.reader.now in
    let behind : List Token = spell_expr e ++ token right_paren d ∷ rest in
    let mid : c.take.new.self ≡ at_tokens old behind =
    c.in_ok-take.ensures.2 ∙ ap (λ ts. at_tokens old (behind_first ts)) f in
    let P : Reading → Type 0 = λ m. Answers (Was m c.read_test.new.reader c.args.at (token right_paren d ∷ rest)) (Ok c.in_ok-test.test)
    (read_condition m.integers (line_at m.text) m.variables c.args.known.now c.args.at e) in
    let a : P (at_tokens old behind) = subst P mid
    (c.in_ok-test.ensures.reads e (token right_paren d ∷ rest) g (ap (λ (r : Reading). r.ahead) mid) tt) in
    (a.0, a.1, (a.2.0, c.in_ok-take-2.ensures.2 ∙ ap passed a.2.1))
