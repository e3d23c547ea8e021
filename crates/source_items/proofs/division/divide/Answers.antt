use Rattle.std.proofs.Common.{◌∙◌, length, refl, sym, arith}
use Rattle.std.proofs.lemmas.List.{take_more}
use Rattle.source_items.specs.Divisions.{unexpected, divided}
use Rattle.source_items.proofs.division.Answered.{all_divided, at_end, goes_on, left_open, not_divided, refused_at, stands_start}
use Rattle.source_items.proofs.division.Once.{one_outcome}
use Rattle.source_items.proofs.division.Stood.{none_here, some_here}
use Rattle.source_items.proofs.division.divide.Goals as goal
use Rattle.source_items.proofs.division.divide.Goals.{else-is_empty-via-then-is_empty+else-reading-marks, else-is_empty-via-else-is_empty}

pub loop-index-init : goal.loop-index-init
loop-index-init c = (_, refl, stands_start _ c.new.ensures.items c.new-2.ensures.items refl c.none.ensures)

pub returns-then-not-branch-clause-found : goal.returns-then-not-branch-clause-found
returns-then-not-branch-clause-found c =
    let inv = c.loop-index.invariant in
    refused_at c.args.marks.now c.loop-index.index _ inv.0 c.loop-index.reading _ _ c.loop-index-test.true
    (take_more c.args.marks.now c.loop-index.index _ c.loop-index-test.true) inv.1 inv.2 c.if-not-branch.true c.in_ok-take.ensures

pub returns-then-not-branch-clause-exact : goal.returns-then-not-branch-clause-exact
returns-then-not-branch-clause-exact c = λ wanted f.
    one_outcome c.args.marks.now (unexpected c.loop-index.index) wanted (returns-then-not-branch-clause-found c) f

pub loop-index-preserved : goal.loop-index-preserved
loop-index-preserved c =
    let inv = c.loop-index.invariant in
    goes_on c.args.marks.now c.loop-index.index _ inv.0 c.loop-index.reading _ _
    (take_more c.args.marks.now c.loop-index.index _ c.loop-index-test.true) inv.1 inv.2 c.if-not-branch.false c.in_ok-take.ensures

pub returns-then-reading-marks-clause-found : goal.returns-then-reading-marks-clause-found
returns-then-reading-marks-clause-found c =
    let inv = at_end c.args.marks.now c.loop-index.index c.loop-index.reading
    (omega (arith, c.loop-index.auto.index-end, c.loop-index-test.false)) c.loop-index.invariant in
    all_divided c.args.marks.now inv.0 c.loop-index.reading inv.1 inv.2
    (sym c.as_slice.ensures.value ∙ none_here c.as_slice.result.now (sym c.if-is_empty.ensures)) c.if-reading-marks.true

pub returns-then-reading-marks-clause-exact : goal.returns-then-reading-marks-clause-exact
returns-then-reading-marks-clause-exact c = λ wanted f.
    one_outcome c.args.marks.now (divided c.loop-index.reading.items.items) wanted (returns-then-reading-marks-clause-found c) f

pub returns-else-is_empty-clause-found : goal.returns-else-is_empty-clause-found
returns-else-is_empty-clause-found c =
    let inv = at_end c.args.marks.now c.loop-index.index c.loop-index.reading
    (omega (arith, c.loop-index.auto.index-end, c.loop-index-test.false)) c.loop-index.invariant in
    elim c.else-is_empty.branch [
      | else-is_empty-via-then-is_empty+else-reading-marks w ↦
          not_divided c.args.marks.now inv.0 c.loop-index.reading inv.1 inv.2
          (sym c.as_slice.ensures.value ∙ none_here c.as_slice.result.now (sym w.if-is_empty.ensures)) w.if-reading-marks.false
      | else-is_empty-via-else-is_empty w ↦
          left_open c.args.marks.now inv.0 c.loop-index.reading inv.1 inv.2
          (λ none. some_here c.as_slice.result.now (sym w.if-is_empty.ensures) (c.as_slice.ensures.value ∙ none))
    ]

pub returns-else-is_empty-clause-exact : goal.returns-else-is_empty-clause-exact
returns-else-is_empty-clause-exact c = λ wanted f.
    one_outcome c.args.marks.now (unexpected (length c.args.marks.now)) wanted (returns-else-is_empty-clause-found c) f
