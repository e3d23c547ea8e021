use Rattle.std.proofs.Common.{◌≡◌, map}
use Rattle.lp_dictionary.specs.Build.{slacks_entries}
use Rattle.lp_dictionary.proofs.build.push_slacks.Given as goal

abbrev pub invariant-loop-i : goal.invariant-loop-i
invariant-loop-i g l =
    let m = g.F.OrderedField.meaning in
    map m l.entries.items ≡ slacks_entries l.auxiliary (map (λ r. r.coeffs) l.rows) (map (λ r. m r.side) l.rows) l.i
