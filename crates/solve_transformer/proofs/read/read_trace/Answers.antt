use Rattle.std.proofs.Common.{◌∙◌, map, ap, sym, subst}
use Rattle.std.specs.List.{range_with_len}
use Rattle.std.proofs.lemmas.Result.{err_from_is_err_and}
use Rattle.base_fractions.specs.Fits.{long_limit}
use Rattle.base_fractions.specs.Operation.{first_wide}
use Rattle.lp_theory.specs.Listed.{at}
use Rattle.lp_theory.specs.Free.{unsplit}
use Rattle.flow_systems.proofs.Widths.{first_wide_later}
use Rattle.flow_systems.specs.Faults.{IsFaultOf}
use Rattle.flow_systems.proofs.Faults.{sooner, later}
use Rattle.solve_transformer.proofs.read.Entries.{difference, joined_values, joined_differences, values_length}
use Rattle.solve_transformer.proofs.read.read_trace.Goals as goal

pub returns-in_err-start : goal.returns-in_err-start
returns-in_err-start c =
    let p = err_from_is_err_and c.from_residual.result c.from_residual.ensures.1 in
    let x = at c.args.point.now in
    let n = c.args.variables in
    let m = c.args.frees in
    rw (p.1, p.2)
    (subst (λ os. IsFaultOf os c.in_err-start.field-0.0) (joined_differences x n m)
    (sooner (map (difference x) (range_with_len 0 n)) (map (difference x) (range_with_len n m)) c.in_err-start.field-0.0
    c.in_err-start.ensures))

pub returns-in_err-free : goal.returns-in_err-free
returns-in_err-free c =
    let p = err_from_is_err_and c.from_residual-in_err-free.result c.from_residual-in_err-free.ensures.1 in
    let x = at c.args.point.now in
    let n = c.args.variables in
    let m = c.args.frees in
    rw (p.1, p.2)
    (subst (λ os. IsFaultOf os c.in_err-free.field-0.0) (joined_differences x n m)
    (later (map (difference x) (range_with_len 0 n)) (map (difference x) (range_with_len n m)) c.in_err-free.field-0.0
    c.in_ok-start.ensures.1 c.in_err-free.ensures))

pub returns : goal.returns
returns c =
    let x = at c.args.point.now in
    let n = c.args.variables in
    let m = c.args.frees in (
      record {
        size = values_length (unsplit x) 0 n c.in_ok-start.start c.in_ok-start.ensures.0;
        word = joined_values (unsplit x) n m c.in_ok-start.start c.in_ok-free.free c.in_ok-start.ensures.0 c.in_ok-free.ensures.0;
      },
      ap (first_wide long_limit) (sym (joined_differences x n m)) ∙ first_wide_later long_limit (map (difference x) (range_with_len 0 n))
          (map (difference x) (range_with_len n m)) c.in_ok-start.ensures.1 ∙ c.in_ok-free.ensures.1,
    )
