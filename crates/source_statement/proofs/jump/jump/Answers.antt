use Rattle.std.proofs.Common.{◌≡◌, ◌∙◌, ◌∷◌, ℕ, true, Result, Ok, refl, sym, ap, ap₂, rules}
use Rattle.lang_tokens.specs.Lines.{line_at}
use Rattle.source_grammar.specs.Tokens as g
use Rattle.source_grammar.specs.Tokens.{Token, token, semicolon}
use Rattle.source_grammar.specs.Symbols.{jump_of}
use Rattle.source_tree.specs.Statements.{Statement, Statements}
use Rattle.source_core.specs.Core.{core_of}
use Rattle.source_meaning.specs.declared.fault.FunctionFault.{FunctionFault}
use Rattle.source_meaning.specs.declared.fault.FunctionFault.TheVariants.{OutsideLoop}
use Rattle.source_meaning.specs.Results.{◌>>=◌, provided}
use Rattle.source_meaning.specs.Names.{State}
use Rattle.source_meaning.specs.Limits.{counted}
use Rattle.source_meaning.specs.Statements.{jump_of as node_of, one}
use Rattle.source_reader.specs.Reading.{Reading, at_tokens, behind_first, first_place, passed}
use Rattle.source_change.proofs.lists.Pushed.{one_pushed}
use Rattle.base_integers.specs.declared.integers.Integers.{Integers}
use Rattle.source_statement.proofs.jump.jump.Goals as goal

pub returns-clause-reads : goal.returns-clause-reads
returns-clause-reads c = λ a b rest e.
    let old : Reading = c.args.reader.now in
    let integers : Integers = old.integers in
    let n : ℕ = old.variables in
    let line : ℕ → ℕ = line_at old.text in
    let st : State = c.args.known.now in
    let now : State = c.count.new.self in
    let inside : c.args.inside ≡ true = search rules in
    let place : c.at-at.result ≡ a = c.at-at.ensures ∙ ap first_place e in
    let mid : c.skip.new.self ≡ at_tokens old (token semicolon b ∷ rest) = c.skip.ensures
    ∙ ap (λ ts. at_tokens old (behind_first ts)) e in
    let end : c.take.new.self ≡ at_tokens old rest = c.in_ok-take.ensures.2 ∙ ap passed mid in
    let j : g.Jump = jump_of c.args.jump in
    let s : Statement = node_of j (line a) in
    let put : State → Result (State × Statements) FunctionFault = λ now. Ok (now, one s) in (
      (now, one s),
      ap (λ i. (provided i (OutsideLoop a) st >>= λ st. counted a 1 st) >>= put) inside
          ∙ ap (λ v. v >>= put) (ap (λ k. counted k 1 st) (sym place) ∙ c.in_ok-count.ensures),
      record {
        known = refl;
        out = one_pushed integers n c.args.out.now.items c.push.new.self.items c.jump_node.result s c.in_ok-push.ensures.items
            (c.jump_node.ensures integers n ∙ ap (λ l. core_of integers n (node_of j l))
            (c.line.ensures ∙ ap₂ (λ (r : Reading) k. line_at r.text k) end place));
        reader = end;
      },
    )
