use Rattle.std.proofs.Common.{◌≡◌, drop}
use Rattle.lang_meaning.specs.Forms.{products}
use Rattle.lang_meaning.specs.Walk.{ranged_numbers}
use Rattle.lang_reader.proofs.forms.Made.{with_rest}
use Rattle.lang_reader.proofs.forms.products.Given as goal

abbrev pub invariant-loop-i : goal.invariant-loop-i
invariant-loop-i l = ranged_numbers l.at (products l.factor l.numbers)
    ≡ with_rest l.at l.list.items (products l.factor (drop l.i l.numbers))
