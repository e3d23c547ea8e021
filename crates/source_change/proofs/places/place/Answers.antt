use Rattle.std.proofs.Common.{◌≡◌, ◌∙◌, ℕ, List, None, sym, ap, refl, Ok, subst}
use Rattle.source_grammar.specs.Tokens as g
use Rattle.source_grammar.specs.Tokens.{Kind, Token}
use Rattle.source_grammar.specs.Grammar.{Index, no_index, index, GoodIndex}
use Rattle.source_grammar.proofs.grammar.Follow.{AfterPlace}
use Rattle.source_tree.specs.Expressions.{Expression}
use Rattle.source_core.specs.Elaborated.{elaborated}
use Rattle.source_meaning.specs.Changes.{read_element}
use Rattle.source_value.specs.Stands.{Stands}
use Rattle.source_value.specs.declared.value.Value.{Value}
use Rattle.source_reader.specs.Answers.{Answers}
use Rattle.source_reader.specs.Reading.{Reading, at_tokens, first_kind}
use Rattle.source_change.specs.Nexts.{a_bracket, next_in, next_of}
use Rattle.source_change.specs.declared.nexts.Next.{Next}
use Rattle.source_change.specs.declared.nexts.Next.TheVariants as next
use Rattle.source_change.specs.Onto.{onto_index}
use Rattle.source_change.specs.Tests.{name_of}
use Rattle.source_change.specs.Changed.{Aim, an_element, StandsTarget, aim}
use Rattle.source_change.specs.declared.places.Target.{Target}
use Rattle.source_change.proofs.results.Answered.{err_then, ok_then, weaker}
use Rattle.source_change.proofs.spelled.Changes.{subscripts_first}
use Rattle.base_integers.specs.declared.integers.Integers.{Integers}
use Rattle.source_change.proofs.places.place.Goals as goal

-- no bracket follows a place
no_bracket : (k : Kind) → AfterPlace k → next_in k ≡ a_bracket → ⊥
no_bracket (g.change_sign c) h e = cc
no_bracket (g.step_sign d) h e = cc
no_bracket g.semicolon h e = cc
no_bracket g.right_paren h e = cc
no_bracket g.comma h e = cc
no_bracket _ h e = absurd h

-- what the code says is a bracket
says_bracket : (n : Next) → (n ≡ next.Bracket → ⊥) → next_of n ≡ a_bracket → ⊥
says_bracket next.Bracket h e = h refl
says_bracket next.Name h e = cc
says_bracket (next.Step d) h e = cc
says_bracket (next.Change d) h e = cc
says_bracket next.Comma h e = cc
says_bracket next.Other h e = cc

-- a place was read up to tokens
abbrev Placed : (integers : Integers) (v l : ℕ) → Reading → Reading → List Token → Target → Aim → Type 0
Placed integers v l old new ts t a = StandsTarget integers v l t a × (new ≡ at_tokens old ts)

-- so was an element
abbrev Read : (integers : Integers) (v l : ℕ) → Reading → Reading → List Token → Value → Expression → Type 0
Read integers v l old new ts w x = Stands v w (elaborated integers l x v) × (new ≡ at_tokens old ts)

pub returns-in_err-read_element-in-Bracket-clause-reads : goal.returns-in_err-read_element-in-Bracket-clause-reads
returns-in_err-read_element-in-Bracket-clause-reads c = λ i rest gi f h. on i rest gi f h where
  on : (i : Index) (rest : List Token) → GoodIndex i → c.args.reader.now.ahead ≡ onto_index i rest → AfterPlace (first_kind rest)
      → Answers (Placed c.args.site.integers c.args.site.variables c.args.site.line c.args.reader.now c.read_element.new.reader rest)
      c.from_residual.result
      (aim c.args.site.integers c.args.site.variables c.args.site.line c.args.scope.now (name_of c.args.named.now) c.args.named.now.at i)
  on no_index rest gi f h = absurd (no_bracket (first_kind rest) h
      (ap (λ ts. next_in (first_kind ts)) (sym f) ∙ sym c.coming.ensures ∙ ap next_of c.in-Bracket.is))
  on (index is) rest gi f h =
      err_then (Read c.args.site.integers c.args.site.variables c.args.site.line c.args.reader.now c.read_element.new.reader rest)
      (Placed c.args.site.integers c.args.site.variables c.args.site.line c.args.reader.now c.read_element.new.reader rest)
      c.from_residual.result
      c.in_err-read_element-in-Bracket.field-0.0
      (read_element c.args.site.integers c.args.site.variables c.args.site.line c.args.scope.now (name_of c.args.named.now)
      c.args.named.now.at is)
      (λ old. Ok (an_element old)) c.from_residual.ensures.1 (c.in_err-read_element-in-Bracket.ensures.reads is rest gi f h)

pub returns-in_ok-read_element-in-Bracket-clause-reads : goal.returns-in_ok-read_element-in-Bracket-clause-reads
returns-in_ok-read_element-in-Bracket-clause-reads c = λ i rest gi f h. on i rest gi f h where
  on : (i : Index) (rest : List Token) → GoodIndex i → c.args.reader.now.ahead ≡ onto_index i rest → AfterPlace (first_kind rest)
      → Answers (Placed c.args.site.integers c.args.site.variables c.args.site.line c.args.reader.now c.read_element.new.reader rest)
      (Ok (record { old = c.in_ok-read_element-in-Bracket.field-0; var = None }))
      (aim c.args.site.integers c.args.site.variables c.args.site.line c.args.scope.now (name_of c.args.named.now) c.args.named.now.at i)
  on no_index rest gi f h = absurd (no_bracket (first_kind rest) h
      (ap (λ ts. next_in (first_kind ts)) (sym f) ∙ sym c.coming.ensures ∙ ap next_of c.in-Bracket.is))
  on (index is) rest gi f h =
      ok_then (Read c.args.site.integers c.args.site.variables c.args.site.line c.args.reader.now c.read_element.new.reader rest)
      (Placed c.args.site.integers c.args.site.variables c.args.site.line c.args.reader.now c.read_element.new.reader rest)
      c.in_ok-read_element-in-Bracket.field-0
      (Ok (record { old = c.in_ok-read_element-in-Bracket.field-0; var = None }))
      (read_element c.args.site.integers c.args.site.variables c.args.site.line c.args.scope.now (name_of c.args.named.now)
      c.args.named.now.at is)
      (λ old. Ok (an_element old)) (c.in_ok-read_element-in-Bracket.ensures.reads is rest gi f h)
      (λ x s. (an_element x, refl, (record { old = s.0; var = refl }, s.1)))

pub returns-in_default-clause-reads : goal.returns-in_default-clause-reads
returns-in_default-clause-reads c = λ i rest gi f h. on i rest gi f h where
  on : (i : Index) (rest : List Token) → GoodIndex i → c.args.reader.now.ahead ≡ onto_index i rest → AfterPlace (first_kind rest)
      → Answers (Placed c.args.site.integers c.args.site.variables c.args.site.line c.args.reader.now c.args.reader.now rest)
      c.variable.result
      (aim c.args.site.integers c.args.site.variables c.args.site.line c.args.scope.now (name_of c.args.named.now) c.args.named.now.at i)
  on no_index rest gi f h =
      weaker (λ t a. StandsTarget c.args.site.integers c.args.site.variables c.args.site.line t a)
      (Placed c.args.site.integers c.args.site.variables c.args.site.line c.args.reader.now c.args.reader.now rest) c.variable.result
      (aim c.args.site.integers c.args.site.variables c.args.site.line c.args.scope.now (name_of c.args.named.now) c.args.named.now.at
      no_index)
      (λ t a s. (s, let P : List Token → Type 0 = λ ts. c.args.reader.now ≡ at_tokens c.args.reader.now ts in subst P f refl))
      c.variable.ensures
  on (index is) rest gi f h =
      let k : next_of c.coming.result ≡ a_bracket = c.coming.ensures
      ∙ ap (λ ts. next_in (first_kind ts)) f ∙ ap next_in (subscripts_first is rest) in
      absurd (says_bracket c.coming.result c.in_default.not-Bracket k)
