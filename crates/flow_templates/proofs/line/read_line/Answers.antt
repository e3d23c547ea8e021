use Rattle.std.proofs.Common.{sym, ◌∙◌, refl}
use Rattle.flow_templates.proofs.line.Lines.{bad_none, bad_range, told_of, unknown_of, known_of, known_numbers, zero_of, row_of_line}
use Rattle.flow_templates.proofs.line.read_line.Goals as goal

pub returns-in_default-clause-refused : goal.returns-in_default-clause-refused
returns-in_default-clause-refused c = λ wanted.
    (refl, bad_none c.args.line.now (sym c.is_skipped.ensures ∙ c.if-is_skipped.false) (rw c.in_default.is at c.in_ok-terms.ensures))

pub returns-in_default-2-clause-refused : goal.returns-in_default-2-clause-refused
returns-in_default-2-clause-refused c = λ wanted.
    let terms = rw c.in-Some.is at c.in_ok-terms.ensures in (
      refl,
      bad_range c.args.line.now c.in-Some.terms.items c.deref.result.now (sym c.is_skipped.ensures ∙ c.if-is_skipped.false) terms
          c.deref.ensures.value
          (rw c.in_default-2.is at c.in_ok-sums.ensures),
    )

pub returns-then-not-are_known-clause-refused : goal.returns-then-not-are_known-clause-refused
returns-then-not-are_known-clause-refused c = λ wanted.
    let terms = rw c.in-Some.is at c.in_ok-terms.ensures in
    let sums = rw c.in-Some-2.is at c.in_ok-sums.ensures in
    let told = told_of c.args.line.now c.in-Some.terms.items c.deref.result.now c.in-Some-2.sums
    (sym c.is_skipped.ensures ∙ c.if-is_skipped.false) terms c.deref.ensures.value sums in (
      refl,
      unknown_of c.args.names.now c.args.line.now c.in-Some.terms.items c.deref-2.result.now c.in-Some-2.sums _ told
          c.deref-2.ensures.value c.are_known.ensures c.if-not-are_known.true,
    )

pub returns-then-not-is_row-clause-refused : goal.returns-then-not-is_row-clause-refused
returns-then-not-is_row-clause-refused c = λ wanted.
    let terms = rw c.in-Some.is at c.in_ok-terms.ensures in
    let sums = rw c.in-Some-2.is at c.in_ok-sums.ensures in
    let told = told_of c.args.line.now c.in-Some.terms.items c.deref.result.now c.in-Some-2.sums
    (sym c.is_skipped.ensures ∙ c.if-is_skipped.false) terms c.deref.ensures.value sums in
    let known = known_of c.args.names.now c.args.line.now c.in-Some.terms.items c.deref-2.result.now c.in-Some-2.sums _
    c.in_ok-row.row.items told c.deref-2.ensures.value c.are_known.ensures c.if-not-are_known.false c.in_ok-row.ensures in (
      refl,
      zero_of c.args.names.now c.args.line.now c.in_ok-row.row.items c.deref-3.result.now _ known c.deref-3.ensures.value
          c.is_row.ensures c.if-not-is_row.true,
    )

pub new-requires : goal.new-requires
new-requires c =
    let terms = rw c.in-Some.is at c.in_ok-terms.ensures in
    let sums = rw c.in-Some-2.is at c.in_ok-sums.ensures in
    let told = told_of c.args.line.now c.in-Some.terms.items c.deref.result.now c.in-Some-2.sums
    (sym c.is_skipped.ensures ∙ c.if-is_skipped.false) terms c.deref.ensures.value sums in
    let known = known_of c.args.names.now c.args.line.now c.in-Some.terms.items c.deref-2.result.now c.in-Some-2.sums _
    c.in_ok-row.row.items told c.deref-2.ensures.value c.are_known.ensures c.if-not-are_known.false c.in_ok-row.ensures in
    known_numbers c.args.names.now c.args.line.now c.in_ok-row.row.items known

pub returns-clause-read : goal.returns-clause-read
returns-clause-read c =
    let terms = rw c.in-Some.is at c.in_ok-terms.ensures in
    let sums = rw c.in-Some-2.is at c.in_ok-sums.ensures in
    let told = told_of c.args.line.now c.in-Some.terms.items c.deref.result.now c.in-Some-2.sums
    (sym c.is_skipped.ensures ∙ c.if-is_skipped.false) terms c.deref.ensures.value sums in
    let known = known_of c.args.names.now c.args.line.now c.in-Some.terms.items c.deref-2.result.now c.in-Some-2.sums _
    c.in_ok-row.row.items told c.deref-2.ensures.value c.are_known.ensures c.if-not-are_known.false c.in_ok-row.ensures in
    row_of_line c.args.names.now c.args.line.now c.in_ok-row.row.items c.deref-3.result.now _ _ known c.deref-3.ensures.value
    c.is_row.ensures c.if-not-is_row.false c.new.ensures
