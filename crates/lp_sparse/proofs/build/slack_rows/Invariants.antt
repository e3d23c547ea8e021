use Rattle.std.proofs.Common.{◌≡◌, ℕ, ◌<◌, [], length, map, get_or}
use Rattle.base_numbers.specs.Rational.{zero_ℚ}
use Rattle.lp_dictionary.specs.Build.{slack_entries}
use Rattle.lp_dictionary.specs.Keeps.{Lists}
use Rattle.lp_sparse.specs.Rows.{row_at}
use Rattle.lp_sparse.proofs.build.slack_rows.Given as goal

abbrev pub invariant-loop-i : goal.invariant-loop-i
invariant-loop-i g l =
    let m = g.F.OrderedField.meaning in
    record {
      count : length l.slacks.items ≡ l.i;
      rows : (k : ℕ) → k < l.i → Lists m (slack_entries l.auxiliary (get_or (map (λ r. r.coeffs) l.rows) k [])
          (get_or (map (λ r. m r.side) l.rows) k zero_ℚ)) (row_at l.slacks.items k);
    }
