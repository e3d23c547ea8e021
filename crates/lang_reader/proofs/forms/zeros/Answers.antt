use Rattle.std.proofs.Common.{rules, sym, subst, IsTrue, List, ℤ, ◌≡◌, replicate, pos}
use Rattle.lang_tree.specs.Numbers.{are_numbers}
use Rattle.lang_meaning.proofs.forms.Ranges.{zeros_fit}
use Rattle.lang_reader.proofs.forms.zeros.Goals as goal

pub returns-clause-numbers : goal.returns-clause-numbers
returns-clause-numbers c =
    let e : c.in_ok-vec.field-0.items ≡ replicate c.args.width (pos 0) = search rules in
    subst (λ (x : List ℤ). IsTrue (are_numbers x)) (sym e) (zeros_fit c.args.width)
