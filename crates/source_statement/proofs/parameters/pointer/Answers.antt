use Rattle.std.proofs.Common.{◌≡◌, ◌∙◌, ◌∷◌, ◌++◌, [], Ok, sym, ap, refl}
use Rattle.lang_tokens.specs.Lines.{line_at}
use Rattle.source_grammar.specs.Tokens.{token, a_name}
use Rattle.source_grammar.specs.Grammar.{pointer_parameter}
use Rattle.source_tree.specs.Expressions.{endless}
use Rattle.source_tree.specs.declared.extent.Extent as code_extent
use Rattle.source_tree.specs.Statements.{nil}
use Rattle.source_meaning.specs.Results.{◌>>=◌}
use Rattle.source_meaning.specs.Names.{State, fresh_array, with_array}
use Rattle.source_meaning.specs.Walk.{read_parameter}
use Rattle.source_reader.specs.Reading.{Reading, at_tokens, passed}
use Rattle.source_change.specs.Arrays.{extents_of}
use Rattle.source_change.specs.Tests.{WasRead, WasTaken, name_of}
use Rattle.source_change.specs.declared.names.Named.{Named}
use Rattle.source_change.proofs.lists.Pushed.{none_pushed}
use Rattle.source_change.proofs.results.Answered.{err_never}
use Rattle.source_change.proofs.firsts.Taken.{taken_is}
use Rattle.source_statement.proofs.parts.Parameters.{array_known}
use Rattle.source_statement.proofs.parts.Read.{at_first}
use Rattle.source_statement.proofs.parameters.pointer.Goals as goal

pub returns-in_err-first-clause-reads : goal.returns-in_err-first-clause-reads
returns-in_err-first-clause-reads c = λ t a x b rest e out.
    let old : Reading = c.args.reader.now in
    let mid : c.skip.new.self ≡ at_tokens old (token (a_name x) b ∷ rest) = c.skip.ensures ∙ ap passed (at_first old _ e) in
    err_never {D = State × _} (λ (n : Named) p. WasTaken rest c.skip.new.self c.take_name.new.reader n p)
    (λ (u : Unit {0}) r. WasRead old.integers old.variables rest old c.take_name.new.reader c.args.known.now out out r)
    c.from_residual.result c.in_err-first.field-0.0 (x, b)
    (read_parameter old.integers (line_at old.text) c.args.known.now (pointer_parameter t a x b)) c.from_residual.ensures.1
    (c.in_err-first.ensures.reads x b rest (ap (λ (r : Reading). r.ahead) mid))

pub returns-clause-reads : goal.returns-clause-reads
returns-clause-reads c = λ t a x b rest e out.
    let old : Reading = c.args.reader.now in
    let st : State = c.args.known.now in
    let first : Named = c.in_ok-first.first in
    let mid : c.skip.new.self ≡ at_tokens old (token (a_name x) b ∷ rest) = c.skip.ensures ∙ ap passed (at_first old _ e) in
    let n = taken_is rest c.skip.new.self c.take_name.new.reader first x b
    (c.in_ok-first.ensures.reads x b rest (ap (λ (r : Reading). r.ahead) mid)) in
    let fresh : fresh_array x b st ≡ Ok st =
    ap (λ b. fresh_array x b st) (sym n.1) ∙ ap (λ x. fresh_array x first.at st) (sym n.0)
    ∙ ap (λ y. fresh_array (record { text = y; value = first.value }) first.at st) (sym c.bytes.ensures.bytes)
    ∙ sym c.in_ok-fresh_array.ensures in
    let are : extents_of c.push.new.self.items ≡ endless ∷ [] = ap extents_of (c.in_ok-push.ensures.items
    ∙ ap (λ l. l ++ code_extent.TheVariants.Endless ∷ []) c.new-extents.ensures.items) in (
      (c.add_array.new.self, nil),
      ap (λ w. w >>= λ now. Ok (with_array x (endless ∷ []) now, nil)) fresh
          ∙ ap (λ es. Ok (with_array x es st, nil)) (sym are)
          ∙ ap (λ x. Ok (with_array x (extents_of c.push.new.self.items) st, nil)) (sym n.0)
          ∙ array_known (with_array (name_of first) (extents_of c.push.new.self.items) st) c.add_array.new.self c.in_ok-add_array.ensures,
      record {
        known = refl;
        out = none_pushed old.integers old.variables out;
        reader = n.2 ∙ ap (λ (r : Reading). at_tokens r rest) mid;
      },
    )
