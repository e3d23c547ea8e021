use Rattle.std.proofs.Common.{◌≡◌, ◌∙◌, List, Ok, sym, ap, refl}
use Rattle.source_tree.specs.Expressions.{Extent}
use Rattle.source_tree.specs.Statements.{nil}
use Rattle.source_meaning.specs.Results.{◌>>=◌}
use Rattle.source_meaning.specs.Names.{State, fresh_array, with_array}
use Rattle.source_meaning.specs.Arrays.{read_bounds}
use Rattle.source_change.specs.Arrays.{extents_of}
use Rattle.source_change.specs.Tests.{name_of}
use Rattle.source_change.proofs.lists.Pushed.{none_pushed}
use Rattle.source_grammar.specs.Tokens.{Name}
use Rattle.source_statement.proofs.parts.Parameters.{array_known}
use Rattle.source_statement.proofs.parameters.array.Goals as goal

pub returns-clause-reads : goal.returns-clause-reads
returns-clause-reads c = λ t bs rest e n out.
    let st : State = c.args.known.now in
    let x : Name = name_of c.args.first.now in
    let fresh : fresh_array x c.args.first.now.at st ≡ Ok st =
    ap (λ y. fresh_array (record { text = y; value = c.args.first.now.value }) c.args.first.now.at st) (sym c.bytes.ensures.bytes)
    ∙ sym c.in_ok-fresh_array.ensures in
    let b = c.in_ok-extents.ensures.reads bs rest e n in
    let es : List Extent = extents_of c.in_ok-extents.extents.items in (
      (c.add_array.new.self, nil),
      ap (λ w. w >>= λ now. read_bounds now bs >>= λ es. Ok (with_array x es now, nil)) fresh
          ∙ ap (λ w. w >>= λ es. Ok (with_array x es st, nil)) (b.1 ∙ ap Ok (sym b.2.0))
          ∙ array_known (with_array x es st) c.add_array.new.self c.in_ok-add_array.ensures,
      record {
        known = refl;
        out = none_pushed c.args.reader.now.integers c.args.reader.now.variables out;
        reader = b.2.1;
      },
    )
