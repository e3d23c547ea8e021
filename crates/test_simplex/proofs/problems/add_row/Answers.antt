use Rattle.std.proofs.Common.{◌≡◌, length, All, sym, ap, subst, arith}
use Rattle.std.proofs.lemmas.List.Elements.{All-push}
use Rattle.test_simplex.proofs.problems.add_row.Goals as goal

pub returns : goal.returns
returns g c =
    let p = c.args.problem.now in
    let items = c.in_ok-push.ensures.items in
    record {
      rows = subst (λ rs. All (λ r. length r.coeffs ≡ length p.goal) rs) (sym items)
          (All-push (λ r. length r.coeffs ≡ length p.goal) p.rows.items (record { coeffs = c.args.coeffs; side = c.args.side })
          c.requires.rows (omega arith));
      few = omega (arith, ap length items);
    }
