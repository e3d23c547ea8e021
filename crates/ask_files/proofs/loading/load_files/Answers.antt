use Rattle.std.proofs.Common.{◌∙◌, ap, Ok, map}
use Rattle.std.proofs.lemmas.List.{at_drop_more}
use Rattle.ask_files.specs.Named.{name_of}
use Rattle.ask_files.proofs.loads.Steps.{ends, ends_wanting, goes_on}
use Rattle.ask_files.proofs.loading.load_files.Goals as goal

pub returns-in_err-load_next-clause-loads : goal.returns-in_err-load_next-clause-loads
returns-in_err-load_next-clause-loads g c =
    ends_wanting _ _ c.loop-number.invariant.0 _ _ _ _ _ _ _ _ _ _ _ c.loop-number.invariant.1
    (at_drop_more (map name_of) c.args.files.now c.loop-number.number _ c.loop-number-test.true) c.load_next.result c.load_next.ensures.next
    _ c.from_residual.result c.in_err-load_next.was c.from_residual.ensures.0

pub returns-then-not-branch-clause-loads : goal.returns-then-not-branch-clause-loads
returns-then-not-branch-clause-loads g c =
    ends _ _ c.loop-number.invariant.0 _ _ _ _ _ _ _ _ _ _ _ c.loop-number.invariant.1
    (at_drop_more (map name_of) c.args.files.now c.loop-number.number _ c.loop-number-test.true) c.load_next.result c.load_next.ensures.next
    c.in_ok-load_next.field-0 c.in_ok-load_next.was c.if-not-branch.true

pub loop-number-preserved : goal.loop-number-preserved
loop-number-preserved g c = (
  c.load_next.ensures.kept ∙ c.loop-number.invariant.0,
  goes_on _ _ c.loop-number.invariant.0 _ _ _ _ _ _ _ _ _ _ _ c.loop-number.invariant.1
      (at_drop_more (map name_of) c.args.files.now c.loop-number.number _ c.loop-number-test.true)
      c.load_next.result c.load_next.ensures.next
      (c.in_ok-load_next.was ∙ ap Ok c.if-not-branch.false),
)
