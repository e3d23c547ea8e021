use Rattle.std.proofs.Common.{◌≡◌, drop}
use Rattle.lang_meaning.specs.Forms.{pairwise}
use Rattle.lang_meaning.specs.Walk.{ranged_numbers}
use Rattle.lang_reader.proofs.forms.Made.{with_rest}
use Rattle.lang_reader.proofs.forms.pairwise.Given as goal

abbrev pub invariant-loop-i : goal.invariant-loop-i
invariant-loop-i l = ranged_numbers l.at (pairwise l.subtracts l.left l.right)
    ≡ with_rest l.at l.list.items (pairwise l.subtracts (drop l.i l.left) (drop l.i l.right))
