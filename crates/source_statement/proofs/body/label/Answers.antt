use Rattle.std.proofs.Common.{◌≡◌, ◌∙◌, ◌∷◌, ℕ, List, Ok, refl, ap, subst}
use Rattle.lang_tokens.specs.Lines.{line_at}
use Rattle.lang_tree.specs.Tree as tree
use Rattle.lang_tree.specs.declared.stmt.Stmt.TheVariants.{Label}
use Rattle.source_grammar.specs.Tokens.{Name, Token, token, colon}
use Rattle.source_tree.specs.Statements.{Statement, label}
use Rattle.source_core.specs.Core as core
use Rattle.source_meaning.specs.Results.{◌>>=◌}
use Rattle.source_meaning.specs.Statements.{one}
use Rattle.source_reader.specs.Answers.{Answers}
use Rattle.source_reader.specs.Reading.{Reading, at_tokens, passed}
use Rattle.source_change.specs.Tests.{WasRead, WasTaken, name_of}
use Rattle.source_change.specs.declared.names.Named.{Named}
use Rattle.source_change.proofs.lists.Pushed.{one_pushed}
use Rattle.source_change.proofs.firsts.Taken.{taken_is}
use Rattle.source_change.proofs.results.Answered.{err_never}
use Rattle.source_statement.specs.Parts.{read_label}
use Rattle.base_integers.specs.declared.integers.Integers.{Integers}
use Rattle.source_statement.proofs.body.label.Goals as goal

pub returns-in_err-first-clause-reads : goal.returns-in_err-first-clause-reads
returns-in_err-first-clause-reads c = λ x a b rest e.
    err_never (λ (n : Named) p. WasTaken (token colon b ∷ rest) c.args.reader.now c.take_name.new.reader n p)
    (λ _ r. WasRead c.args.reader.now.integers c.args.reader.now.variables rest c.args.reader.now c.take_name.new.reader c.args.known.now
    c.args.out.now.items c.args.out.now.items r) c.from_residual.result c.in_err-first.field-0.0 (x, a)
    (read_label c.args.reader.now.integers (line_at c.args.reader.now.text) c.args.reader.now.variables c.args.known.now x a)
    c.from_residual.ensures.1 (c.in_err-first.ensures.reads x a (token colon b ∷ rest) e)

pub returns-clause-reads : goal.returns-clause-reads
returns-clause-reads c = λ x a b rest e.
    let old : Reading = c.args.reader.now in
    let integers : Integers = old.integers in
    let n : ℕ = old.variables in
    let first : Named = c.in_ok-first.first in
    let ts : List Token = token colon b ∷ rest in
    let t = taken_is ts old c.take_name.new.reader first x a (c.in_ok-first.ensures.reads x a ts e) in
    let mid : c.take.new.self ≡ at_tokens old rest = c.in_ok-take.ensures.2 ∙ ap passed t.2 in
    let s : Statement = label first.name (line_at old.text first.at) in
    let P : Name → ℕ → Type 0 = λ y k. Answers {A = Unit {0}} (λ _ r. WasRead integers n rest old c.take.new.self c.add_label.new.self
    c.args.out.now.items c.push.new.self.items r) (Ok tt) (read_label integers (line_at old.text) n c.args.known.now y k) in
    let q : P (name_of first) first.at = (
      (c.add_label.new.self, one s),
      ap (λ w. w >>= λ now. Ok (now, one s)) (c.in_ok-add_label.ensures first.value),
      record {
        known = refl;
        out = one_pushed integers n c.args.out.now.items c.push.new.self.items
            (Label first.name c.line.result) s c.in_ok-push.ensures.items
            (ap (λ l. core.one (tree.label first.name l)) (c.line.ensures ∙ ap (λ (r : Reading). line_at r.text first.at) mid));
        reader = mid;
      },
    ) in
    subst (λ y. P y a) t.0 (subst (λ k. P (name_of first) k) t.1 q)
