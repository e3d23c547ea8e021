use Rattle.std.proofs.Common.{◌≡◌, ◌∙◌, ◌∷◌, Bool, List, sym, ap}
use Rattle.lang_tokens.specs.Lines.{line_at}
use Rattle.source_grammar.specs.Tokens.{Token, token, semicolon}
use Rattle.source_grammar.specs.Grammar.{Core, GoodCore, calls, updates, update, place, step_before, Index}
use Rattle.source_grammar.specs.Grammar.{no_index, index, Effect, assigns, steps}
use Rattle.source_meaning.specs.Statements.{read_core}
use Rattle.source_reader.specs.Answers.{Answers}
use Rattle.source_reader.specs.Reading.{behind_first, first_kind}
use Rattle.source_change.specs.Onto.{onto_index, onto_effect}
use Rattle.source_change.specs.Tests.{WasRead}
use Rattle.source_change.proofs.spelled.Changes.{subscripts_first}
use Rattle.source_statement.specs.Onto.{onto_core}
use Rattle.source_statement.specs.Parts.{IsNamed}
use Rattle.source_statement.specs.Starts.{start_in, start_of, a_paren}
use Rattle.source_statement.proofs.parts.Starting.{says_paren}
use Rattle.source_statement.proofs.simple.named_statement.Goals as goal

-- no parenthesis stands behind a place
no_paren : (i : Index) (f : Effect) (w : List Token) → start_in (first_kind (onto_index i (onto_effect f w))) ≡ a_paren → ⊥
no_paren no_index (assigns g a e) w h = cc
no_paren no_index (steps g a) w h = cc
no_paren (index is) f w h = let k = sym (ap start_in (subscripts_first is (onto_effect f w))) ∙ h in cc

pub returns-in-Paren-clause-reads : goal.returns-in-Paren-clause-reads
returns-in-Paren-clause-reads c = λ inside x rest w g e. on inside x rest w g e where
  on : (inside : Bool) (x : Core) (rest : List Token) → IsNamed x → GoodCore x → c.args.reader.now.ahead ≡ onto_core x rest
      → Answers {A = Unit {0}} (λ _ r. WasRead c.args.reader.now.integers c.args.reader.now.variables rest c.args.reader.now
      c.call.new.reader c.call.new.known c.args.out.now.items c.call.new.out.items r) c.call.result
      (read_core c.args.reader.now.integers (line_at c.args.reader.now.text) c.args.reader.now.variables inside c.args.known.now x)
  on inside (calls x a b es d i) rest w g e = c.call.ensures.reads inside x a b es d i rest g e
  on inside (updates (update (place x a i) f) d) rest w g e =
      absurd (no_paren i f (token semicolon d ∷ rest) (ap (λ ts. start_in (first_kind (behind_first ts))) (sym e)
      ∙ sym c.behind.ensures ∙ ap start_of c.in-Paren.is))
  on inside (updates (step_before k a p) d) rest w g e = absurd w
  on inside _ rest w g e = absurd w

pub returns-in_default-clause-reads : goal.returns-in_default-clause-reads
returns-in_default-clause-reads c = λ inside x rest w g e. on inside x rest w g e where
  on : (inside : Bool) (x : Core) (rest : List Token) → IsNamed x → GoodCore x → c.args.reader.now.ahead ≡ onto_core x rest
      → Answers {A = Unit {0}} (λ _ r. WasRead c.args.reader.now.integers c.args.reader.now.variables rest c.args.reader.now
      c.update_statement.new.reader c.update_statement.new.known c.args.out.now.items c.update_statement.new.out.items r)
      c.update_statement.result
      (read_core c.args.reader.now.integers (line_at c.args.reader.now.text) c.args.reader.now.variables inside c.args.known.now x)
  on inside (calls x a b es d i) rest w g e = absurd (c.in_default.not-Paren (says_paren c.behind.result
      (c.behind.ensures ∙ ap (λ ts. start_in (first_kind (behind_first ts))) e)))
  on inside (updates (update p f) d) rest w g e = c.update_statement.ensures.reads inside (update p f) d rest g e
  on inside (updates (step_before k a p) d) rest w g e = absurd w
  on inside _ rest w g e = absurd w
