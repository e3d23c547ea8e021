-- Each function of the cycle answers what is wanted of what it reads, behind what it calls.
use Rattle.std.proofs.Common.{◌∙◌, ◌++◌, ◌∷◌, ap, sym}
use Rattle.source_grammar.specs.Tokens.{token, left_brace, right_brace}
use Rattle.source_grammar.specs.Grammar.{spell_values}
use Rattle.source_reader.specs.Reading.{Reading, first_kind}
use Rattle.source_reader.proofs.Going.{goes_then, passed_goes}
use Rattle.source_expression.specs.Signs.{is_brace, is_brace_end, is_comma}
use Rattle.source_expression.proofs.Leaves.{passed_to}
use Rattle.source_expression.proofs.Given.{comma_plain}
use Rattle.source_expression.proofs.Valued.{brace_plain, brace_end_plain, none_read, first_fault, first_read, listing_last, comma_last}
use Rattle.source_expression.proofs.Valued.{next_fault, next_read, listed_read, expression_read, list_fault, list_done}
use Rattle.source_expression.proofs.filled.+values.Goals as goal

-- ---- values
pub values-returns-then-is_brace_end-clause-reads : goal.values-returns-then-is_brace_end-clause-reads
values-returns-then-is_brace_end-clause-reads t c = λ vs rest g k q.
    none_read c.args.site c.args.known.now c.args.next c.args.reader.now vs rest g k q c.none-none.result
    (sym (c.is_brace_end.ensures ∙ ap is_brace_end c.symbol.ensures ∙ brace_end_plain (first_kind c.args.reader.now.ahead))
    ∙ c.if-is_brace_end.true) c.none-none.ensures

pub values-returns-in_err-first-clause-reads : goal.values-returns-in_err-first-clause-reads
values-returns-in_err-first-clause-reads t c = λ vs rest g k q.
    first_fault c.args.site c.args.known.now c.args.next c.args.reader.now vs rest g k q c.none-none.result c.from_residual.result
    c.in_err-first.field-0.0 c.value.new.reader
    (sym (c.is_brace_end.ensures ∙ ap is_brace_end c.symbol.ensures ∙ brace_end_plain (first_kind c.args.reader.now.ahead))
    ∙ c.if-is_brace_end.false) c.none-none.ensures c.from_residual.ensures.1 c.in_err-first.ensures.reads

pub values-returns-clause-reads : goal.values-returns-clause-reads
values-returns-clause-reads t c = λ vs rest g k q.
    first_read c.args.site c.args.known.now c.args.next c.args.reader.now vs rest g k q c.none-none.result c.in_ok-first.first
    c.value.new.reader c.more_values.new.reader c.more_values.result
    (sym (c.is_brace_end.ensures ∙ ap is_brace_end c.symbol.ensures ∙ brace_end_plain (first_kind c.args.reader.now.ahead))
    ∙ c.if-is_brace_end.false) c.none-none.ensures c.in_ok-first.ensures.reads c.more_values.ensures.reads

-- ---- one value
pub value-returns-then-is_brace-clause-reads : goal.value-returns-then-is_brace-clause-reads
value-returns-then-is_brace-clause-reads t c = λ xs h v rest i g k q.
    listed_read c.args.site c.args.known.now h xs v rest g c.args.reader.now q c.listed.result c.listed.new.reader
    (sym (c.is_brace.ensures ∙ ap is_brace c.symbol.ensures ∙ brace_plain (first_kind c.args.reader.now.ahead)) ∙ c.if-is_brace.true)
    (λ a vs b g q. c.listed.ensures.reads xs h a vs b rest i g q)

pub value-returns-else-is_brace-clause-reads : goal.value-returns-else-is_brace-clause-reads
value-returns-else-is_brace-clause-reads t c = λ xs h v rest i g k q.
    expression_read c.args.site c.args.known.now h xs v rest g c.args.reader.now q c.one.result c.one.new.reader
    (sym (c.is_brace.ensures ∙ ap is_brace c.symbol.ensures ∙ brace_plain (first_kind c.args.reader.now.ahead)) ∙ c.if-is_brace.false)
    (λ e g q. c.one.ensures.reads xs h e rest i g k q)

-- ---- a list in braces
pub listed-returns-in_err-inner-clause-reads : goal.listed-returns-in_err-inner-clause-reads
listed-returns-in_err-inner-clause-reads t c = λ xs h a vs b rest i g q.
    list_fault c.args.site c.args.known.now h xs a vs b rest c.args.before i g c.take.new.self
    (passed_to c.args.reader.now left_brace a (spell_values vs ++ token right_brace b ∷ rest) q c.take.new.self c.in_ok-_open.ensures.2)
    c.from_residual-in_err-inner.result c.in_err-inner.field-0.0 c.values.new.reader c.values.new.reader
    c.from_residual-in_err-inner.ensures.1 c.in_err-inner.ensures.reads

pub listed-returns-clause-reads : goal.listed-returns-clause-reads
listed-returns-clause-reads t c = λ xs h a vs b rest i g q.
    list_done c.args.site c.args.known.now h xs a vs b rest c.args.before i g c.take.new.self
    (passed_to c.args.reader.now left_brace a (spell_values vs ++ token right_brace b ∷ rest) q c.take.new.self c.in_ok-_open.ensures.2)
    c.in_ok-inner.inner c.in_ok-with.field-0 c.into_any.result c.values.new.reader c.take-2.new.self c.in_ok-inner.ensures.reads
    c.into_any.ensures c.in_ok-with.ensures
    (λ w. passed_to c.values.new.reader right_brace b rest w c.take-2.new.self c.in_ok-_close.ensures.2)

-- ---- those behind the first
pub more_values-returns-then-is_brace_end-clause-reads : goal.more_values-returns-then-is_brace_end-clause-reads
more_values-returns-then-is_brace_end-clause-reads t c = λ xs h vs rest i g k q.
    comma_last c.args.site c.args.known.now h xs vs rest c.commas.all c.commas.reader c.skip.new.self
    (c.commas.invariant.reads xs h vs rest i g k q) k
    (sym (c.is_comma.ensures ∙ ap is_comma c.symbol.ensures ∙ comma_plain (first_kind c.commas.reader.ahead)) ∙ c.commas-test.true)
    (ap (λ (r : Reading). r.ahead) c.skip.ensures)
    (sym (c.is_brace_end.ensures ∙ ap is_brace_end c.symbol-in-commas.ensures ∙ brace_end_plain (first_kind c.skip.new.self.ahead))
    ∙ c.if-is_brace_end.true)

pub more_values-returns-in_err-all-clause-reads : goal.more_values-returns-in_err-all-clause-reads
more_values-returns-in_err-all-clause-reads t c = λ xs h vs rest i g k q.
    next_fault c.args.site c.args.known.now h xs vs rest c.commas.all c.commas.reader c.skip.new.self
    (c.commas.invariant.reads xs h vs rest i g k q) k
    (sym (c.is_comma.ensures ∙ ap is_comma c.symbol.ensures ∙ comma_plain (first_kind c.commas.reader.ahead)) ∙ c.commas-test.true)
    (ap (λ (r : Reading). r.ahead) c.skip.ensures) c.from_residual.result c.in_err-all.field-0.0 c.value.new.reader
    (sym (c.is_brace_end.ensures ∙ ap is_brace_end c.symbol-in-commas.ensures ∙ brace_end_plain (first_kind c.skip.new.self.ahead))
    ∙ c.if-is_brace_end.false) c.from_residual.ensures.1 c.in_err-all.ensures.reads

pub more_values-commas-preserved : goal.more_values-commas-preserved
more_values-commas-preserved t c = record {
  reads = λ xs h vs rest i g k q.
      next_read c.args.site c.args.known.now h xs vs rest c.commas.all c.commas.reader c.skip.new.self
      (c.commas.invariant.reads xs h vs rest i g k q) k
      (sym (c.is_comma.ensures ∙ ap is_comma c.symbol.ensures ∙ comma_plain (first_kind c.commas.reader.ahead)) ∙ c.commas-test.true)
      (ap (λ (r : Reading). r.ahead) c.skip.ensures) c.in_ok-all.all c.value.new.reader
      (sym (c.is_brace_end.ensures ∙ ap is_brace_end c.symbol-in-commas.ensures ∙ brace_end_plain (first_kind c.skip.new.self.ahead))
      ∙ c.if-is_brace_end.false) c.in_ok-all.ensures.reads;
  goes = goes_then _ _ _ (goes_then _ _ _ c.commas.invariant.goes (passed_goes c.commas.reader c.skip.new.self c.skip.ensures))
      c.value.ensures.goes;
}

pub more_values-returns-clause-reads : goal.more_values-returns-clause-reads
more_values-returns-clause-reads t c = λ xs h vs rest i g k q.
    listing_last c.args.site c.args.known.now h xs vs rest c.commas.all c.commas.reader (c.commas.invariant.reads xs h vs rest i g k q)
    (sym (c.is_comma.ensures ∙ ap is_comma c.symbol.ensures ∙ comma_plain (first_kind c.commas.reader.ahead)) ∙ c.commas-test.false)
