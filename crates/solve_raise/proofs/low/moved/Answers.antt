use Rattle.std.proofs.Common.{◌≡◌, ◌∙◌, None, ap₂, subst₂}
use Rattle.std.proofs.lemmas.Result.{err_from_is_err_and}
use Rattle.base_fractions.specs.Fits.{long_limit}
use Rattle.base_fractions.specs.Operation.{first_wide}
use Rattle.flow_systems.proofs.Widths.{first_wide_later}
use Rattle.flow_systems.specs.Faults.{IsFaultOf}
use Rattle.theory_validity.specs.Words.{moved as moved_by}
use Rattle.theory_validity.specs.Steps.{Pieces}
use Rattle.solve_raise.specs.Numbers.{entries_operations}
use Rattle.flow_systems.proofs.Faults.{sooner, later}
use Rattle.solve_raise.proofs.low.moved.Goals as goal

pub returns-in_err-start : goal.returns-in_err-start
returns-in_err-start c =
    let p = err_from_is_err_and c.from_residual.result c.from_residual.ensures.1 in
    let t = c.args.times in
    rw (p.1, p.2)
    (sooner (entries_operations t c.args.trace.now.start c.args.direction.now.start)
    (entries_operations t c.args.trace.now.free c.args.direction.now.free) c.in_err-start.field-0.0
    (subst₂ (λ xs ds. IsFaultOf (entries_operations t xs ds) c.in_err-start.field-0.0) c.as_slice.ensures c.as_slice-2.ensures
    c.in_err-start.ensures))

pub returns-in_err-free : goal.returns-in_err-free
returns-in_err-free c =
    let p = err_from_is_err_and c.from_residual-in_err-free.result c.from_residual-in_err-free.ensures.1 in
    let t = c.args.times in
    rw (p.1, p.2)
    (later (entries_operations t c.args.trace.now.start c.args.direction.now.start)
    (entries_operations t c.args.trace.now.free c.args.direction.now.free) c.in_err-free.field-0.0
    (subst₂ (λ xs ds. first_wide long_limit (entries_operations t xs ds) ≡ None) c.as_slice.ensures c.as_slice-2.ensures
    c.in_ok-start.ensures.1)
    (subst₂ (λ xs ds. IsFaultOf (entries_operations t xs ds) c.in_err-free.field-0.0) c.as_slice-3.ensures c.as_slice-4.ensures
    c.in_err-free.ensures))

pub returns : goal.returns
returns c =
    let t = c.args.times in (
      ap₂ (λ start free. let pieces : Pieces = record { start = start; free = free } in pieces)
          (c.in_ok-start.ensures.0 ∙ ap₂ (λ xs ds. moved_by xs t ds) c.as_slice.ensures c.as_slice-2.ensures)
          (c.in_ok-free.ensures.0 ∙ ap₂ (λ xs ds. moved_by xs t ds) c.as_slice-3.ensures c.as_slice-4.ensures),
      first_wide_later long_limit (entries_operations t c.args.trace.now.start c.args.direction.now.start)
          (entries_operations t c.args.trace.now.free c.args.direction.now.free)
          (subst₂ (λ xs ds. first_wide long_limit (entries_operations t xs ds) ≡ None) c.as_slice.ensures c.as_slice-2.ensures
          c.in_ok-start.ensures.1)
          ∙ subst₂ (λ xs ds. first_wide long_limit (entries_operations t xs ds) ≡ None) c.as_slice-3.ensures c.as_slice-4.ensures
          c.in_ok-free.ensures.1,
    )
