use Rattle.std.proofs.Common.{◌≡◌, ◌∙◌, ◌∷◌, ℕ, List, [], Ok, refl, ap}
use Rattle.std.specs.declared.alloc.Global.{Global}
use Rattle.std.specs.declared.vec.Vec.{Vec}
use Rattle.lang_tokens.specs.Lines.{line_at}
use Rattle.lang_tree.specs.View.{deeds_of}
use Rattle.lang_tree.specs.declared.deed.Deed.{Deed}
use Rattle.source_grammar.specs.Tokens.{Token, token, semicolon}
use Rattle.source_grammar.specs.Grammar.{ForFirst, declared_first, plain_int, const_int, updated_first, GoodFirst}
use Rattle.source_meaning.specs.Statements.{as_statements, read_first, read_updates}
use Rattle.source_reader.specs.Answers.{Answers}
use Rattle.source_reader.specs.Reading.{first_kind}
use Rattle.source_change.specs.Tests.{WasRead, WereChanged}
use Rattle.source_change.proofs.results.Answered.{ok_then}
use Rattle.source_statement.specs.Onto.{onto_first}
use Rattle.source_statement.specs.Starts.{start_in}
use Rattle.source_change.proofs.lists.Pushed.{changes_pushed}
use Rattle.source_statement.proofs.parts.Starting.{says_type}
use Rattle.source_statement.proofs.head.first.Goals as goal

pub returns-in_ok-push_deeds-in_default : goal.returns-in_ok-push_deeds-in_default
returns-in_ok-push_deeds-in_default c = record {
  reads = λ f d rest g e. on f d rest g e;
  shorter = c.in_ok-deeds-in_default.ensures.shorter;
} where
  on : (f : ForFirst) (d : ℕ) (rest : List Token) → GoodFirst f → c.args.reader.now.ahead ≡ onto_first f (token semicolon d ∷ rest)
      → Answers {A = Unit {0}} (λ _ r. WasRead c.args.reader.now.integers c.args.reader.now.variables
      (token semicolon d ∷ rest) c.args.reader.now
      c.updates.new.reader c.updates.new.known c.args.out.now.items c.push_deeds.new.out.items r) (Ok tt)
      (read_first c.args.reader.now.integers (line_at c.args.reader.now.text) c.args.reader.now.variables c.args.known.now f)
  on (declared_first (plain_int a) xs) d rest g e = absurd (c.in_default.not-Type (says_type c.coming.result
      (c.coming.ensures ∙ ap (λ ts. start_in (first_kind ts)) e)))
  on (declared_first (const_int a b) xs) d rest g e = absurd (c.in_default.not-Type (says_type c.coming.result
      (c.coming.ensures ∙ ap (λ ts. start_in (first_kind ts)) e)))
  on (updated_first us) d rest g e =
      ok_then (λ (v : Vec Deed Global) r. WereChanged c.args.reader.now.integers c.args.reader.now.variables
      (token semicolon d ∷ rest) c.args.reader.now
      c.updates.new.reader c.updates.new.known [] v.items r)
      (λ (u : Unit {0}) r. WasRead c.args.reader.now.integers c.args.reader.now.variables (token semicolon d ∷ rest) c.args.reader.now
      c.updates.new.reader c.updates.new.known c.args.out.now.items c.push_deeds.new.out.items r) c.in_ok-deeds-in_default.deeds (Ok tt)
      (read_updates c.args.reader.now.integers (line_at c.args.reader.now.text) c.args.reader.now.variables c.args.known.now us)
      (λ r. Ok (r.0, as_statements r.1))
      (c.in_ok-deeds-in_default.ensures.reads us (token semicolon d ∷ rest) g e tt)
      (λ r w. (
        (r.0, as_statements r.1),
        refl,
        record {
          known = w.known;
          out = changes_pushed c.args.reader.now.integers c.args.reader.now.variables c.args.out.now.items c.push_deeds.new.out.items
              (deeds_of c.in_ok-deeds-in_default.deeds.items) r.1 c.in_ok-push_deeds-in_default.ensures w.deeds;
          reader = w.reader;
        },
      ))
