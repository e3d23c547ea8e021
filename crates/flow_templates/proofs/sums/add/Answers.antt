use Rattle.std.proofs.Common.{◌≡◌, ap, ◌∙◌, ◌+ℤ◌, to_z, of_z, w64, arith}
use Rattle.std.proofs.lemmas.Int.{to_z-of_z}
use Rattle.lang_tree.specs.Numbers.{is_number}
use Rattle.flow_templates.specs.Kept.{sum_at}
use Rattle.flow_templates.proofs.sums.Steps.{term_added, number_fits}
use Rattle.flow_templates.proofs.sums.add.Goals as goal

pub returns-in_ok-insert-in-Some-clause-sums : goal.returns-in_ok-insert-in-Some-clause-sums
returns-in_ok-insert-in-Some-clause-sums c = λ fits name.
    let sum = c.in-Some.sum in
    let is : sum ≡ sum_at c.args.sums.now c.args.term.name.now +ℤ c.args.term.coefficient =
    grind (arith, to_z-of_z, c.in-Some.ensures, c.sum_of.ensures) in
    let number = ap is_number c.in-Some.ensures.0 ∙ c.in-Some.ensures.1 in
    let same : to_z w64 (of_z w64 sum) ≡ sum = to_z-of_z w64 sum (number_fits sum number) in
    term_added c.args.sums.now c.insert.new.self c.args.term.name.now c.args.term.coefficient (to_z w64 (of_z w64 sum))
    c.in_ok-insert-in-Some.ensures.updates (same ∙ is) name
