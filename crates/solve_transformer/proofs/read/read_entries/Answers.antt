use Rattle.std.proofs.Common.{◌≡◌, ◌∙◌, ◌+◌, ap, map, arith}
use Rattle.std.specs.List.{range_with_len}
use Rattle.std.proofs.lemmas.Result.{err_from_is_err_and}
use Rattle.base_fractions.specs.Operation.{operation_of}
use Rattle.lp_theory.specs.Listed.{at}
use Rattle.lp_theory.specs.Free.{unsplit}
use Rattle.solve_transformer.proofs.read.Entries.{entry_fits, entry_wide, entries_more, entries_wide, entries_all, values_more}
use Rattle.solve_transformer.proofs.read.read_entries.Goals as goal

pub returns-in_err-number : goal.returns-in_err-number
returns-in_err-number c =
    let p = err_from_is_err_and c.from_residual-in_err-number.result c.from_residual-in_err-number.ensures.1 in
    let x = at c.args.point.now in
    rw (p.1, p.2)
    (entries_wide x c.args.first c.args.count c.loop-i.i c.loop-i-test.true c.loop-i.invariant.passed
    (operation_of (λ q. q) c.in_err-number.field-0.0)
    (entry_wide x (c.args.first + c.loop-i.i) c.entry.result c.entry-in-loop-i.result c.entry.ensures c.entry-in-loop-i.ensures
    c.in_err-number.field-0.0 c.in_err-number.ensures))

pub loop-i-preserved : goal.loop-i-preserved
loop-i-preserved c =
    let x = at c.args.point.now in
    let f = entry_fits x (c.args.first + c.loop-i.i) c.entry.result c.entry-in-loop-i.result c.entry.ensures c.entry-in-loop-i.ensures
    c.in_ok-number.number c.in_ok-number.ensures in
    record {
      list = values_more (unsplit x) c.args.first c.loop-i.i c.loop-i.list.items c.push.new.self.items c.in_ok-number.number
          c.in_ok-push.ensures.items c.loop-i.invariant.list f.0;
      passed = entries_more x c.args.first c.args.count c.loop-i.i c.loop-i-test.true c.loop-i.invariant.passed f.1;
    }

pub returns : goal.returns
returns c =
    let x = at c.args.point.now in (
      c.new.ensures ∙ c.loop-i.invariant.list ∙ ap (λ n. map (unsplit x) (range_with_len c.args.first n))
          (let e : c.loop-i.i ≡ c.args.count = omega arith in e),
      entries_all x c.args.first c.args.count c.loop-i.i c.loop-i-test.false c.loop-i.invariant.passed,
    )
