use Rattle.std.proofs.Common.{◌≡◌, ◌∙◌, ◌∷◌, ℕ, List, Result, Ok, refl, sym, ap, ap₂, subst}
use Rattle.lang_tokens.specs.Lines.{line_at}
use Rattle.lang_tree.specs.Tree as tree
use Rattle.lang_tree.specs.declared.stmt.Stmt.TheVariants.{Return}
use Rattle.source_grammar.specs.Tokens.{Token, token, semicolon}
use Rattle.source_tree.specs.Statements.{Statement, Statements, jump}
use Rattle.source_core.specs.Core as core
use Rattle.source_meaning.specs.declared.fault.FunctionFault.{FunctionFault}
use Rattle.source_meaning.specs.Results.{◌>>=◌}
use Rattle.source_meaning.specs.Names.{State}
use Rattle.source_meaning.specs.Limits.{counted}
use Rattle.source_meaning.specs.Statements.{followed_by, one, read_returned}
use Rattle.source_reader.specs.Answers.{Answers}
use Rattle.source_reader.specs.Reading.{Reading, at_tokens, behind_first, first_place, passed}
use Rattle.source_change.specs.Tests.{WasRead}
use Rattle.source_statement.specs.Onto.{onto_optional}
use Rattle.source_change.proofs.lists.Pushed.{one_pushed, then_pushed}
use Rattle.base_integers.specs.declared.integers.Integers.{Integers}
use Rattle.source_statement.proofs.jump.return_statement.Goals as goal

pub returns-clause-reads : goal.returns-clause-reads
returns-clause-reads c = λ inside a t b rest g e.
    let old : Reading = c.args.reader.now in
    let integers : Integers = old.integers in
    let n : ℕ = old.variables in
    let line : ℕ → ℕ = line_at old.text in
    let st : State = c.args.known.now in
    let now : State = c.count.new.self in
    let ts : List Token = token semicolon b ∷ rest in
    let place : c.at-at.result ≡ a = c.at-at.ensures ∙ ap first_place e in
    let mid : c.skip.new.self ≡ at_tokens old (onto_optional t ts) = c.skip.ensures ∙ ap (λ ts. at_tokens old (behind_first ts)) e in
    let P : Reading → ℕ → Type 0 = λ m k. Answers {A = Unit {0}} (λ _ r. WasRead m.integers m.variables ts m c.returned.new.reader
    c.returned.new.known c.args.out.now.items c.returned.new.out.items r) (Ok tt)
    (read_returned m.integers (line_at m.text) m.variables st k t) in
    let raw : P (at_tokens old (onto_optional t ts)) c.at-at.result = subst (λ m. P m c.at-at.result) mid
    (c.in_ok-returned.ensures.reads t b rest g (ap (λ (r : Reading). r.ahead) mid)) in
    let ans : P (at_tokens old (onto_optional t ts)) a = subst (λ k. P (at_tokens old (onto_optional t ts)) k) place raw in
    let r : State × Statements = ans.0 in
    let w = ans.2 in
    let end : c.take.new.self ≡ at_tokens old rest = c.in_ok-take.ensures.2 ∙ ap passed w.reader in
    let s : Statement = jump tree.returns (line a) in
    let put : State → Result (State × Statements) FunctionFault = λ now. Ok (now, followed_by r.1 (one s)) in (
      (now, followed_by r.1 (one s)),
      ap (λ v. v >>= λ r. counted a 1 r.0 >>= λ now. Ok (now, followed_by r.1 (one s))) ans.1
          ∙ ap (λ v. v >>= put) (ap₂ (λ k m. counted k 1 m) (sym place) (sym w.known) ∙ c.in_ok-count.ensures),
      record {
        known = refl;
        out = then_pushed integers n c.args.out.now.items c.returned.new.out.items c.push.new.self.items r.1 (one s) w.out
            (one_pushed integers n c.returned.new.out.items c.push.new.self.items (Return c.line.result) s c.in_ok-push.ensures.items
            (ap (λ l. core.one (tree.jump tree.returns l))
            (c.line.ensures ∙ ap₂ (λ (r : Reading) k. line_at r.text k) end place)));
        reader = end;
      },
    )
