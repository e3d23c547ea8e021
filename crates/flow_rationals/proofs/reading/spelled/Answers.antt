use Rattle.std.proofs.Common.{refl}
use Rattle.flow_rationals.specs.EquationTexts.{an_unexpected}
use Rattle.flow_rationals.proofs.grammar.Whole.{unexpected_at, same_symbols, written_reads, written_only, written_found, written_few}
use Rattle.flow_rationals.proofs.equation_texts.OneAnswer.{unexpected_alone}
use Rattle.flow_rationals.proofs.reading.spelled.Goals as goal

pub returns-in-Some-clause-refused : goal.returns-in-Some-clause-refused
returns-in-Some-clause-refused c = λ wanted.
    an_unexpected c.index.result.now.at refl
    (unexpected_at c.args.text.now c.in_ok-tokens.tokens.items c.deref-2.result.now c.in-Some.place c.index.result.now
    c.in_ok-tokens.ensures.reads
    (same_symbols c.args.text.now c.in_ok-tokens.tokens.items c.deref.result.now c.in_ok-symbols.symbols.items c.deref-2.result.now
    c.deref.ensures.value c.in_ok-symbols.ensures c.deref-2.ensures.value) c.in-Some.ensures c.index.ensures)

pub returns-in-Some-clause-alone : goal.returns-in-Some-clause-alone
returns-in-Some-clause-alone c = λ wanted.
    unexpected_alone c.args.text.now c.index.result.now.at
    (unexpected_at c.args.text.now c.in_ok-tokens.tokens.items c.deref-2.result.now c.in-Some.place c.index.result.now
    c.in_ok-tokens.ensures.reads
    (same_symbols c.args.text.now c.in_ok-tokens.tokens.items c.deref.result.now c.in_ok-symbols.symbols.items c.deref-2.result.now
    c.deref.ensures.value c.in_ok-symbols.ensures c.deref-2.ensures.value) c.in-Some.ensures c.index.ensures)

pub returns-clause-reads : goal.returns-clause-reads
returns-clause-reads c =
    written_reads c.args.text.now c.in_ok-tokens.tokens.items c.deref-2.result.now c.deref-3.result.now c.in-Some-2.list.items
    c.in_ok-tokens.ensures.reads
    (same_symbols c.args.text.now c.in_ok-tokens.tokens.items c.deref.result.now c.in_ok-symbols.symbols.items c.deref-2.result.now
    c.deref.ensures.value c.in_ok-symbols.ensures c.deref-2.ensures.value)
    (same_symbols c.args.text.now c.in_ok-tokens.tokens.items c.deref.result.now c.in_ok-symbols.symbols.items c.deref-3.result.now
    c.deref.ensures.value c.in_ok-symbols.ensures c.deref-3.ensures.value)
    c.in_default.ensures (rw c.in-Some-2.is at c.in_ok-list.ensures)

pub returns-clause-only : goal.returns-clause-only
returns-clause-only c =
    written_only c.args.text.now c.in_ok-tokens.tokens.items c.deref-3.result.now c.in-Some-2.list.items c.in_ok-tokens.ensures.reads
    (same_symbols c.args.text.now c.in_ok-tokens.tokens.items c.deref.result.now c.in_ok-symbols.symbols.items c.deref-3.result.now
    c.deref.ensures.value c.in_ok-symbols.ensures c.deref-3.ensures.value)
    (rw c.in-Some-2.is at c.in_ok-list.ensures)

pub returns-clause-few : goal.returns-clause-few
returns-clause-few c =
    written_few c.args.text.now c.in_ok-tokens.tokens.items c.in-Some-2.list.items c.in_ok-tokens.ensures.reads c.in_ok-tokens.ensures.few
    (returns-clause-reads c)

pub unreachable-requires : goal.unreachable-requires
unreachable-requires c =
    written_found c.args.text.now c.in_ok-tokens.tokens.items c.deref-2.result.now c.deref-3.result.now c.in_ok-tokens.ensures.reads
    (same_symbols c.args.text.now c.in_ok-tokens.tokens.items c.deref.result.now c.in_ok-symbols.symbols.items c.deref-2.result.now
    c.deref.ensures.value c.in_ok-symbols.ensures c.deref-2.ensures.value)
    (same_symbols c.args.text.now c.in_ok-tokens.tokens.items c.deref.result.now c.in_ok-symbols.symbols.items c.deref-3.result.now
    c.deref.ensures.value c.in_ok-symbols.ensures c.deref-3.ensures.value)
    c.in_default.ensures (rw c.in-None.is at c.in_ok-list.ensures)
