use Rattle.std.proofs.Common.{◌≡◌, ◌∙◌, ◌∷◌, [], ℕ, sym, ap, ap₂, subst, List, Result}
use Rattle.lang_tokens.specs.Lines.{line_at}
use Rattle.source_grammar.specs.Grammar.{Expr, spell_expr}
use Rattle.source_grammar.specs.Tokens.{Token}
use Rattle.source_grammar.proofs.grammar.Follow.{part_expr}
use Rattle.source_tree.specs.Expressions.{Expression}
use Rattle.source_core.specs.Elaborated.{Tested, elaborated, tested}
use Rattle.source_core.specs.Core.{condition_of}
use Rattle.source_meaning.specs.declared.fault.FunctionFault.{FunctionFault}
use Rattle.source_meaning.specs.Results.{◌>>=◌}
use Rattle.source_meaning.specs.Names.{State, among}
use Rattle.source_meaning.specs.Limits.{limited}
use Rattle.source_meaning.specs.Expressions.{read, as_condition, first_of}
use Rattle.source_meaning.specs.Statements.{read_condition}
use Rattle.source_expression.specs.Joins as joins
use Rattle.source_expression.specs.Sides.{IsTestedOf}
use Rattle.source_value.specs.declared.value.Tested as code
use Rattle.source_reader.specs.Answers.{Answers}
use Rattle.source_reader.specs.Reading.{Reading, at_tokens, first_kind}
use Rattle.source_change.specs.Tests.{IsTest}
use Rattle.source_change.specs.declared.conditions.Test.{Test}
use Rattle.source_change.proofs.results.Answered.{err_then, ok_then}
use Rattle.source_change.proofs.results.Binds.{bind_assoc}
use Rattle.source_change.proofs.limited.Told.{as_limited}
use Rattle.source_change.proofs.firsts.Ends.{part_ends}
use Rattle.source_change.proofs.firsts.Going.{came_to}
use Rattle.base_integers.specs.declared.integers.Integers.{Integers}
use Rattle.source_change.proofs.conditions.read_test.Goals as goal

-- the limits of a condition in this line over v variables
abbrev within : (at : ℕ) (integers : Integers) (l v : ℕ) → Expression → Result Expression FunctionFault
within at integers l v x = let t : Tested = tested (elaborated integers l x v) in limited v at t.next t.prelude (t.condition ∷ []) x

-- a condition that is read there, and then its limits
so : (integers : Integers) (line : ℕ → ℕ) (n : ℕ) (st : State) (at : ℕ) (e : Expr) (k : Integers) (l v : ℕ) (there : State)
    → k ≡ integers → l ≡ line at → v ≡ n → there ≡ among (spell_expr e) st
    → read_condition integers line n st at e ≡ (joins.read_condition k l there e v >>= within at k l v)
so integers line n st at e k l v there j p q r =
    let here : State = among (spell_expr e) st in
    sym (bind_assoc (read integers (line at) here e n) (λ x. as_condition integers (line at) (first_of e) n x) (within at integers
    (line at) n))
    ∙ ap₂ (λ l v. joins.read_condition integers l here e v >>= within at integers l v) (sym p) (sym q)
    ∙ ap (λ k. joins.read_condition k l here e v >>= within at k l v) (sym j)
    ∙ ap (λ z. joins.read_condition k l z e v >>= within at k l v) (sym r)

-- the test that was read
abbrev Was : (integers : Integers) (n line : ℕ) → Reading → Reading → List Token → Test → Expression → Type 0
Was integers n line old new rest t x = IsTest t (condition_of integers n line x) × (new ≡ at_tokens old rest)

pub returns-in_err-tested-clause-reads : goal.returns-in_err-tested-clause-reads
returns-in_err-tested-clause-reads c = λ e rest g a f.
    let old : Reading = c.args.reader.now in
    let k : Integers = c.site-site.result.integers in
    let l : ℕ = c.site-site.result.line in
    let v : ℕ = c.site-site.result.variables in
    let there : State = c.scope-scope.result in
    let around : there ≡ among (spell_expr e) c.args.known.now =
    c.scope-scope.ensures.expression e rest a (part_ends (first_kind rest) f) in
    let is = Was old.integers old.variables (line_at old.text c.args.at) old c.condition.new.reader rest in
    let P : Result Expression FunctionFault → Type 0 = λ w. Answers is c.from_residual.result w in
    subst P (sym (so old.integers (line_at old.text) old.variables c.args.known.now c.args.at e k l v there c.site-site.ensures.integers
    c.site-site.ensures.line c.site-site.ensures.variables around))
    (err_then (λ (t : code.Tested) x. IsTestedOf c.site-site.result v t x ×
    (c.condition.new.reader.ahead ≡ rest)) is c.from_residual.result c.in_err-tested.field-0.0
    (joins.read_condition k l there e v) (within c.args.at k l v) c.from_residual.ensures.1
    (c.in_err-tested.ensures.reads e rest g (part_expr (first_kind rest) f) a))

pub returns-clause-reads : goal.returns-clause-reads
returns-clause-reads c = λ e rest g a f.
    let old : Reading = c.args.reader.now in
    let new : Reading = c.condition.new.reader in
    let k : Integers = c.site-site.result.integers in
    let l : ℕ = c.site-site.result.line in
    let v : ℕ = c.site-site.result.variables in
    let there : State = c.scope-scope.result in
    let around : there ≡ among (spell_expr e) c.args.known.now =
    c.scope-scope.ensures.expression e rest a (part_ends (first_kind rest) f) in
    let line : ℕ = line_at old.text c.args.at in
    let is = Was old.integers old.variables line old new rest in
    let P : Result Expression FunctionFault → Type 0 = λ w. Answers is c.limited_test.result w in
    subst P (sym (so old.integers (line_at old.text) old.variables c.args.known.now c.args.at e k l v there c.site-site.ensures.integers
    c.site-site.ensures.line c.site-site.ensures.variables around))
    (ok_then (λ (t : code.Tested) x. IsTestedOf c.site-site.result v t x ×
    (new.ahead ≡ rest)) is c.in_ok-tested.tested c.limited_test.result
    (joins.read_condition k l there e v) (within c.args.at k l v) (c.in_ok-tested.ensures.reads e rest g (part_expr (first_kind rest) f) a)
    (λ x s. let t : Tested = tested (elaborated k l x v) in
    let same : t ≡ condition_of old.integers old.variables line x = ap (λ k. tested (elaborated k l x v)) c.site-site.ensures.integers
    ∙ ap₂ (λ l v. tested (elaborated old.integers l x v)) c.site-site.ensures.line c.site-site.ensures.variables in
    as_limited v c.args.at t.next t.prelude (t.condition ∷ []) IsTest is c.limited_test.result t x
    (λ r i. let Q : Tested → Type 0 = λ u. IsTest r u in (subst Q same i, came_to old new rest c.in_ok-tested.ensures.goes s.1))
    (c.limited_test.ensures t s.0)))
