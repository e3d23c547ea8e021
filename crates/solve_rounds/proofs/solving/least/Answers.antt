use Rattle.std.proofs.Common.{◌∙◌, ◌+◌, true≢false, refl, sym, arith}
use Rattle.std.proofs.lemmas.Result.{err_from_is_err_and}
use Rattle.solve_rounds.proofs.solving.Outcomes.{after_none, after_count, after_tight, offer_halt, after_solved, after_spent, after_round}
use Rattle.solve_rounds.proofs.solving.Outcomes.{improved_next, advanced_same, finished_same, round_halt, solved_valid, solved_least}
use Rattle.solve_rounds.proofs.solving.StepCounts.{solved_numbered, solved_shaped}
use Rattle.solve_rounds.proofs.solving.least.Goals as goal

pub loop-made-init : goal.loop-made-init
loop-made-init g c = record {
  after = after_none c.args.system.now _ c.in_ok-progress.progress c.in_ok-progress.ensures.begun;
  within =
      omega arith;
  known = c.in_ok-progress.ensures.known;
}

pub improve-requires-clause-bounds : goal.improve-requires-clause-bounds
improve-requires-clause-bounds g c = after_count c.args.system.now _ c.loop-made.made c.loop-made.progress c.loop-made.invariant.after

pub returns-in_err-improved-clause-halt : goal.returns-in_err-improved-clause-halt
returns-in_err-improved-clause-halt g c =
    let q = err_from_is_err_and c.from_residual-in_err-improved.result c.from_residual-in_err-improved.ensures.1 in
    rw (q.1, q.2)
    (offer_halt c.args.system.now _ c.loop-made.made c.loop-made.progress c.loop-made.invariant.after c.args.limit (c.loop-made.made + 1)
    c.in_err-improved.field-0.0 c.loop-made.invariant.within refl c.in_err-improved.ensures.stop)

pub finish-requires-clause-bounds : goal.finish-requires-clause-bounds
finish-requires-clause-bounds g c = after_count c.args.system.now _ c.loop-made.made c.loop-made.progress c.loop-made.invariant.after

pub returns-in_err-finish-clause-halt : goal.returns-in_err-finish-clause-halt
returns-in_err-finish-clause-halt g c =
    let q = err_from_is_err_and c.from_residual-in_err-finish.result c.from_residual-in_err-finish.ensures.1 in
    rw (q.1, q.2)
    (offer_halt c.args.system.now _ c.loop-made.made c.loop-made.progress c.loop-made.invariant.after c.args.limit (c.loop-made.made + 1)
    c.in_err-finish.field-0.0 c.loop-made.invariant.within refl c.in_err-finish.ensures.stop)

pub returns-then-not-improved-clause-solved : goal.returns-then-not-improved-clause-solved
returns-then-not-improved-clause-solved g c =
    after_solved c.args.system.now _ c.loop-made.made c.loop-made.progress c.loop-made.invariant.after c.args.limit
    c.in_ok-finish.field-0 (c.in_ok-improved.ensures.none.0 c.if-not-improved.true) c.loop-made.invariant.within
    (finished_same c.args.system.now c.loop-made.progress c.improve.new.pick c.improve.new.known c.loop-made.made c.in_ok-finish.field-0
    c.in_ok-finish.ensures.finished)

pub returns-then-not-improved-clause-least : goal.returns-then-not-improved-clause-least
returns-then-not-improved-clause-least g c =
    solved_least c.args.system.now _ c.args.limit c.in_ok-finish.field-0
    (after_solved c.args.system.now _ c.loop-made.made c.loop-made.progress c.loop-made.invariant.after c.args.limit
    c.in_ok-finish.field-0 (c.in_ok-improved.ensures.none.0 c.if-not-improved.true) c.loop-made.invariant.within
    (finished_same c.args.system.now c.loop-made.progress c.improve.new.pick c.improve.new.known c.loop-made.made c.in_ok-finish.field-0
    c.in_ok-finish.ensures.finished))

pub returns-then-not-improved-clause-valid : goal.returns-then-not-improved-clause-valid
returns-then-not-improved-clause-valid g c =
    solved_valid c.args.system.now _ c.args.limit c.in_ok-finish.field-0
    (after_solved c.args.system.now _ c.loop-made.made c.loop-made.progress c.loop-made.invariant.after c.args.limit
    c.in_ok-finish.field-0 (c.in_ok-improved.ensures.none.0 c.if-not-improved.true) c.loop-made.invariant.within
    (finished_same c.args.system.now c.loop-made.progress c.improve.new.pick c.improve.new.known c.loop-made.made c.in_ok-finish.field-0
    c.in_ok-finish.ensures.finished))

pub returns-then-not-improved-clause-shaped : goal.returns-then-not-improved-clause-shaped
returns-then-not-improved-clause-shaped g c =
    solved_shaped c.args.system.now _ c.args.limit c.in_ok-finish.field-0
    (after_solved c.args.system.now _ c.loop-made.made c.loop-made.progress c.loop-made.invariant.after c.args.limit
    c.in_ok-finish.field-0 (c.in_ok-improved.ensures.none.0 c.if-not-improved.true) c.loop-made.invariant.within
    (finished_same c.args.system.now c.loop-made.progress c.improve.new.pick c.improve.new.known c.loop-made.made c.in_ok-finish.field-0
    c.in_ok-finish.ensures.finished))
    c.look_at_rows.ensures.template c.look_at_rows.ensures.numbers

pub returns-then-not-improved-clause-numbered : goal.returns-then-not-improved-clause-numbered
returns-then-not-improved-clause-numbered g c =
    solved_numbered c.args.system.now _ c.args.limit c.in_ok-finish.field-0
    (after_solved c.args.system.now _ c.loop-made.made c.loop-made.progress c.loop-made.invariant.after c.args.limit
    c.in_ok-finish.field-0 (c.in_ok-improved.ensures.none.0 c.if-not-improved.true) c.loop-made.invariant.within
    (finished_same c.args.system.now c.loop-made.progress c.improve.new.pick c.improve.new.known c.loop-made.made c.in_ok-finish.field-0
    c.in_ok-finish.ensures.finished))
    c.in_ok-finish.ensures.few

pub returns-then-made-limit-clause-halt : goal.returns-then-made-limit-clause-halt
returns-then-made-limit-clause-halt g c =
    after_spent c.args.system.now _ c.loop-made.made c.loop-made.progress c.loop-made.invariant.after c.args.limit
    (sym c.if-made-limit.true)
    (λ none. true≢false (sym c.if-not-improved.false ∙ c.in_ok-improved.ensures.none.1 none))

pub raised-requires : goal.raised-requires
raised-requires g c = after_count c.args.system.now _ c.loop-made.made c.loop-made.progress c.loop-made.invariant.after

pub advance-requires-clause-bounds : goal.advance-requires-clause-bounds
advance-requires-clause-bounds g c = after_count c.args.system.now _ c.loop-made.made c.loop-made.progress c.loop-made.invariant.after

pub advance-requires-clause-supported : goal.advance-requires-clause-supported
advance-requires-clause-supported g c =
    c.in_ok-improved.ensures.supported c.if-not-improved.false
    (after_tight c.args.system.now _ c.loop-made.made c.loop-made.progress c.loop-made.invariant.after)

pub returns-in_err-progress-2-clause-halt : goal.returns-in_err-progress-2-clause-halt
returns-in_err-progress-2-clause-halt g c =
    let q = err_from_is_err_and c.from_residual-in_err-progress-2.result c.from_residual-in_err-progress-2.ensures.1 in
    let within = c.loop-made.invariant.within in
    let not_all = c.if-made-limit.false in
    rw (q.1, q.2)
    (round_halt c.args.system.now _ c.loop-made.made c.loop-made.progress c.loop-made.invariant.after c.improve.new.pick
    (improved_next c.args.system.now c.loop-made.progress.bounds _ c.loop-made.progress.pick c.improve.new.pick
    c.in_ok-improved.improved c.if-not-improved.false c.in_ok-improved.ensures.next)
    c.args.limit (c.loop-made.made + 1) c.in_err-progress-2.field-0.0 (omega arith) refl
    (c.in_ok-improved.ensures.size ∙ c.loop-made.invariant.after.size)
    c.in_err-progress-2.ensures.stop)

pub loop-made-preserved : goal.loop-made-preserved
loop-made-preserved g c =
    let within = c.loop-made.invariant.within in
    let not_all = c.if-made-limit.false in
    record {
      after = after_round c.args.system.now _ c.loop-made.made c.loop-made.progress c.loop-made.invariant.after c.improve.new.pick
          (improved_next c.args.system.now c.loop-made.progress.bounds _ c.loop-made.progress.pick c.improve.new.pick
          c.in_ok-improved.improved c.if-not-improved.false c.in_ok-improved.ensures.next)
          c.in_ok-progress-2.progress
          (c.in_ok-improved.ensures.size ∙ c.loop-made.invariant.after.size)
          (advanced_same c.args.system.now c.loop-made.progress c.improve.new.pick c.improve.new.known c.improve.new.pick
          c.in_ok-progress-2.progress c.in_ok-progress-2.ensures.advanced);
      within = omega arith;
      known = c.in_ok-progress-2.ensures.known;
    }
