use Rattle.std.proofs.Common.{◌+◌, refl, arith}
use Rattle.std.proofs.lemmas.List.{get_or_read}
use Rattle.base_numbers.specs.Rational.{zero_ℚ}
use Rattle.solve_ray.proofs.reading.NamedRates.{entry_read, entry_wide}
use Rattle.solve_ray.proofs.read.entry.Goals as goal

pub returns-in-Ok : goal.returns-in-Ok
returns-in-Ok c =
    let ray = c.args.ray.now in
    let col = c.args.col in
    entry_read ray col c.index-ray-col.result c.index-ray-col-2.result c.in-Ok.value
    (get_or_read ray col c.index-ray-col.result (omega (arith, c.requires)) c.index-ray-col.is zero_ℚ)
    (get_or_read ray (col + 1) c.index-ray-col-2.result (omega (arith, c.requires)) c.index-ray-col-2.is zero_ℚ) c.in-Ok.ensures

pub returns-in-Err : goal.returns-in-Err
returns-in-Err c =
    let ray = c.args.ray.now in
    let col = c.args.col in (
      refl,
      entry_wide ray col c.index-ray-col.result c.index-ray-col-2.result c.in-Err.wide
          (get_or_read ray col c.index-ray-col.result (omega (arith, c.requires)) c.index-ray-col.is zero_ℚ)
          (get_or_read ray (col + 1) c.index-ray-col-2.result (omega (arith, c.requires)) c.index-ray-col-2.is zero_ℚ) c.in-Err.ensures,
    )
