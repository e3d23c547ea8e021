use Rattle.std.proofs.Common.{◌∙◌, [], length, ap, sym, arith}
use Rattle.std.proofs.lemmas.List.{length-map, get_or-map}
use Rattle.solve_joint.proofs.solve.solved.Goals as goal

pub solve_watched-requires : goal.solve_watched-requires
solve_watched-requires g c =
    let rows = c.args.problem.now.rows.items in
    record {
      rows = λ k d l. ap length (sym (get_or-map (λ r. r.coeffs) rows k d [] l))
          ∙ c.requires.rows k (let m = length-map rows (λ r. r.coeffs) in omega (arith, l, m));
      few = c.requires.few;
    }

pub returns-in-Ok : goal.returns-in-Ok
returns-in-Ok g c = (c.in-Ok.ensures.outcome, c.in-Ok.ensures.fits)

pub returns-in-Err : goal.returns-in-Err
returns-in-Err g c = c.run_fault.ensures _ c.in-Err.ensures.refused
