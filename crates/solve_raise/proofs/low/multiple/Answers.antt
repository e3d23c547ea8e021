use Rattle.std.proofs.lemmas.Result.{err_from_is_err_and}
use Rattle.solve_raise.proofs.low.Multiples.{gap_wide, quotient_wide, multiple_answer}
use Rattle.solve_raise.proofs.low.multiple.Goals as goal

pub returns-in_err-gap : goal.returns-in_err-gap
returns-in_err-gap c =
    let p = err_from_is_err_and c.from_residual.result c.from_residual.ensures.1 in
    rw (p.1, p.2) (gap_wide c.args.bound c.args.value c.args.rate c.in_err-gap.field-0.0 c.in_err-gap.ensures.0 c.in_err-gap.ensures.1)

pub returns-in_err-quotient : goal.returns-in_err-quotient
returns-in_err-quotient c =
    let p = err_from_is_err_and c.from_residual-in_err-quotient.result c.from_residual-in_err-quotient.ensures.1 in
    rw (p.1, p.2)
    (quotient_wide c.args.bound c.args.value c.args.rate c.in_ok-gap.gap c.in_ok-gap.ensures.0 c.in_ok-gap.ensures.1
    c.in_err-quotient.field-0.0 c.in_err-quotient.ensures.0 c.in_err-quotient.ensures.1)

pub returns : goal.returns
returns c =
    multiple_answer c.args.bound c.args.value c.args.rate c.in_ok-gap.gap c.in_ok-gap.ensures.0 c.in_ok-gap.ensures.1
    c.in_ok-quotient.quotient c.next_whole.result c.in_ok-quotient.ensures.0 c.in_ok-quotient.ensures.1 c.next_whole.ensures
