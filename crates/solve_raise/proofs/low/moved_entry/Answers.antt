use Rattle.std.proofs.lemmas.Result.{err_from_is_err_and}
use Rattle.solve_raise.proofs.low.Entries.{product_wide, entry_answer}
use Rattle.solve_raise.proofs.low.moved_entry.Goals as goal

pub returns-in_err-product : goal.returns-in_err-product
returns-in_err-product c =
    let p = err_from_is_err_and c.from_residual.result c.from_residual.ensures.1 in
    rw (p.1, p.2) (product_wide c.args.times c.args.entry c.args.slope c.in_err-product.field-0.0 c.in_err-product.ensures.0
    c.in_err-product.ensures.1)

pub returns : goal.returns
returns c = entry_answer c.args.times c.args.entry c.args.slope c.in_ok-product.product c.plus.result c.in_ok-product.ensures.0
    c.in_ok-product.ensures.1 c.plus.ensures
