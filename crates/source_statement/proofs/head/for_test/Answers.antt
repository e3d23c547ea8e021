use Rattle.std.proofs.Common.{◌≡◌, ◌∙◌, ◌∷◌, ℕ, List, Ok, refl, sym, ap}
use Rattle.lang_tokens.specs.Lines.{line_at}
use Rattle.source_grammar.specs.Tokens.{Token, token, semicolon}
use Rattle.source_grammar.specs.Grammar.{Optional, absent, present}
use Rattle.source_core.specs.Core.{condition_of}
use Rattle.source_meaning.specs.Statements.{always, read_test}
use Rattle.source_reader.specs.Answers.{Answers}
use Rattle.source_reader.specs.Reading.{at_tokens, first_kind}
use Rattle.source_change.specs.Tests.{IsTest}
use Rattle.source_change.specs.declared.conditions.Test.{Test}
use Rattle.source_statement.specs.Onto.{onto_optional}
use Rattle.source_statement.specs.Starts.{start_in, start_of}
use Rattle.source_statement.proofs.parts.Read.{at_first}
use Rattle.source_statement.proofs.parts.Starting.{no_expr}
use Rattle.source_statement.proofs.head.for_test.Goals as goal

pub returns-in-Semicolon-clause-reads : goal.returns-in-Semicolon-clause-reads
returns-in-Semicolon-clause-reads c = λ t d rest g e. on t d rest e where
  on : (t : Optional) (d : ℕ) (rest : List Token) → c.args.reader.now.ahead ≡ onto_optional t (token semicolon d ∷ rest)
      → Answers (λ (r : Test) x. IsTest r (condition_of c.args.reader.now.integers c.args.reader.now.variables
      (line_at c.args.reader.now.text c.args.at) x)
      × (c.args.reader.now ≡ at_tokens c.args.reader.now (token semicolon d ∷ rest))) (Ok c.always.result)
      (read_test c.args.reader.now.integers (line_at c.args.reader.now.text) c.args.reader.now.variables c.args.known.now c.args.at t)
  on absent d rest e = (
    always c.args.at,
    refl,
    (
      c.always.ensures c.args.reader.now.integers c.args.reader.now.variables (line_at c.args.reader.now.text c.args.at) c.args.at,
      at_first c.args.reader.now (token semicolon d ∷ rest) e,
    ),
  )
  on (present x) d rest e = absurd (no_expr x (token semicolon d ∷ rest)
      (ap (λ ts. start_in (first_kind ts)) (sym e) ∙ sym c.coming.ensures ∙ ap start_of c.in-Semicolon.is))
