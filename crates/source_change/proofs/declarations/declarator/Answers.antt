use Rattle.std.proofs.Common.{◌≡◌, ◌∙◌, List, refl, sym, ap}
use Rattle.lang_tokens.specs.Lines.{line_at}
use Rattle.source_grammar.specs.Tokens as g
use Rattle.source_grammar.specs.Tokens.{Kind, Token}
use Rattle.source_grammar.specs.Grammar.{bare, given, sized, filled, Declarator, GoodDeclarator, declarator}
use Rattle.source_grammar.proofs.grammar.Follow.{AfterPart}
use Rattle.source_meaning.specs.Statements.{read_declarator}
use Rattle.source_reader.specs.Answers.{Answers}
use Rattle.source_reader.specs.Reading.{behind_first, first_kind}
use Rattle.source_change.specs.Nexts.{a_bracket, a_change, next_in, next_of}
use Rattle.source_change.specs.Onto.{onto_declarator, onto_values}
use Rattle.source_change.specs.Tests.{WasRead}
use Rattle.source_change.specs.declared.nexts.Next.{Next}
use Rattle.source_change.specs.declared.nexts.Next.TheVariants as next
use Rattle.source_grammar.specs.declared.symbol.Change as code_change
use Rattle.source_change.proofs.spelled.Changes.{sizes_first}
use Rattle.source_change.proofs.declarations.declarator.Goals as goal

-- neither a sign of a change nor a bracket follows a part of a list
no_change : (k : Kind) (d : g.Change) → AfterPart k → next_in k ≡ a_change d → ⊥
no_change g.semicolon d h e = cc
no_change g.right_paren d h e = cc
no_change g.comma d h e = cc
no_change _ d h e = absurd h

no_bracket : (k : Kind) → AfterPart k → next_in k ≡ a_bracket → ⊥
no_bracket g.semicolon h e = cc
no_bracket g.right_paren h e = cc
no_bracket g.comma h e = cc
no_bracket _ h e = absurd h

pub returns-in-Change-clause-reads : goal.returns-in-Change-clause-reads
returns-in-Change-clause-reads c = λ x rest gi e f. on x rest gi e f where
  on : (x : Declarator) (rest : List Token) → GoodDeclarator x → c.args.reader.now.ahead ≡ onto_declarator x rest
      → AfterPart (first_kind rest)
      → Answers {A = Unit {0}} (λ _ r. WasRead c.args.reader.now.integers c.args.reader.now.variables rest c.args.reader.now
      c.given.new.reader c.given.new.known c.args.out.now.items c.given.new.out.items r) c.given.result
      (read_declarator c.args.reader.now.integers (line_at c.args.reader.now.text) c.args.reader.now.variables c.args.known.now x)
  on (declarator x a bare) rest gi e f = absurd (no_change (first_kind rest) _ f
      (ap (λ ts. next_in (first_kind (behind_first ts))) (sym e) ∙ sym c.behind.ensures ∙ ap next_of c.in-Change.is))
  on (declarator x a (given b y)) rest gi e f = c.given.ensures.reads x a b y rest gi e f
  on (declarator x a (sized ss)) rest gi e f =
      let k = sym (ap next_in (sizes_first ss rest)) ∙ ap (λ ts. next_in (first_kind (behind_first ts))) (sym e) ∙ sym c.behind.ensures
      ∙ ap next_of c.in-Change.is in cc
  on (declarator x a (filled ss b d vs i)) rest gi e f =
      let k = sym (ap next_in (sizes_first ss (onto_values b d vs i rest)))
      ∙ ap (λ ts. next_in (first_kind (behind_first ts))) (sym e) ∙ sym c.behind.ensures ∙ ap next_of c.in-Change.is in cc

pub returns-in-Bracket-clause-reads : goal.returns-in-Bracket-clause-reads
returns-in-Bracket-clause-reads c = λ x rest gi e f. on x rest gi e f where
  on : (x : Declarator) (rest : List Token) → GoodDeclarator x → c.args.reader.now.ahead ≡ onto_declarator x rest
      → AfterPart (first_kind rest)
      → Answers {A = Unit {0}} (λ _ r. WasRead c.args.reader.now.integers c.args.reader.now.variables rest c.args.reader.now
      c.array.new.reader c.array.new.known c.args.out.now.items c.array.new.out.items r) c.array.result
      (read_declarator c.args.reader.now.integers (line_at c.args.reader.now.text) c.args.reader.now.variables c.args.known.now x)
  on (declarator x a bare) rest gi e f = absurd (no_bracket (first_kind rest) f
      (ap (λ ts. next_in (first_kind (behind_first ts))) (sym e) ∙ sym c.behind.ensures ∙ ap next_of c.in-Bracket.is))
  on (declarator x a (given b y)) rest gi e f =
      let k = ap (λ ts. next_in (first_kind (behind_first ts))) (sym e) ∙ sym c.behind.ensures ∙ ap next_of c.in-Bracket.is in cc
  on (declarator x a (sized ss)) rest gi e f = c.array.ensures.reads x a (sized ss) rest tt gi e f
  on (declarator x a (filled ss b d vs i)) rest gi e f = c.array.ensures.reads x a (filled ss b d vs i) rest tt gi e f

-- what the code says is one of these
says_change : (n : Next) (d : g.Change) → ((e : code_change.Change) → n ≡ next.Change e → ⊥) → next_of n ≡ a_change d → ⊥
says_change (next.Change e) d h k = h e refl
says_change next.Name d h k = cc
says_change (next.Step e) d h k = cc
says_change next.Bracket d h k = cc
says_change next.Comma d h k = cc
says_change next.Other d h k = cc

says_bracket : (n : Next) → (n ≡ next.Bracket → ⊥) → next_of n ≡ a_bracket → ⊥
says_bracket next.Bracket h e = h refl
says_bracket next.Name h e = cc
says_bracket (next.Step d) h e = cc
says_bracket (next.Change d) h e = cc
says_bracket next.Comma h e = cc
says_bracket next.Other h e = cc

pub returns-in_default : goal.returns-in_default
returns-in_default c = record { reads = λ x rest gi e f. on x rest gi e f; shorter = c.alone.ensures.shorter } where
  on : (x : Declarator) (rest : List Token) → GoodDeclarator x → c.args.reader.now.ahead ≡ onto_declarator x rest
      → AfterPart (first_kind rest)
      → Answers {A = Unit {0}} (λ _ r. WasRead c.args.reader.now.integers c.args.reader.now.variables rest c.args.reader.now
      c.alone.new.reader c.alone.new.known c.args.out.now.items c.alone.new.out.items r) c.alone.result
      (read_declarator c.args.reader.now.integers (line_at c.args.reader.now.text) c.args.reader.now.variables c.args.known.now x)
  on (declarator x a bare) rest gi e f = c.alone.ensures.reads x a rest e
  on (declarator x a (given b y)) rest gi e f = absurd (says_change c.behind.result g.replaces c.in_default.not-Change
      (c.behind.ensures ∙ ap (λ ts. next_in (first_kind (behind_first ts))) e))
  on (declarator x a (sized ss)) rest gi e f = absurd (says_bracket c.behind.result c.in_default.not-Bracket
      (c.behind.ensures ∙ ap (λ ts. next_in (first_kind (behind_first ts))) e ∙ ap next_in (sizes_first ss rest)))
  on (declarator x a (filled ss b d vs i)) rest gi e f = absurd (says_bracket c.behind.result c.in_default.not-Bracket
      (c.behind.ensures ∙ ap (λ ts. next_in (first_kind (behind_first ts))) e
      ∙ ap next_in (sizes_first ss (onto_values b d vs i rest))))
