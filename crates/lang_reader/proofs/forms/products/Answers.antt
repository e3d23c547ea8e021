use Rattle.std.proofs.Common.{arith, rules, ap, ◌∙◌, ◌++◌, ◌∷◌, [], FitsSigned, w64, get_or, pos}
use Rattle.std.proofs.lemmas.Int.{to_z-of_z}
use Rattle.lang_meaning.specs.Forms.{products}
use Rattle.lang_meaning.proofs.results.Binds.{handed_on}
use Rattle.lang_reader.proofs.forms.Made.{products_next, products_stop, products_done}
use Rattle.lang_meaning.proofs.forms.Ranges.{ranged_are_numbers}
use Rattle.lang_reader.proofs.forms.products.Goals as goal

pub returns-in_err-times-clause-list : goal.returns-in_err-times-clause-list
returns-in_err-times-clause-list c =
    let f : FitsSigned w64 (get_or c.args.numbers.now c.loop-i.i (pos 0)) = search rules in
    handed_on _ _ _ _ c.from_residual.ensures.1 (λ n. products_stop c.args.at c.args.factor _ (to_z-of_z w64 c.args.factor c.ranges.factor)
    c.args.numbers.now c.loop-i.list.items _ _ c.loop-i.i (omega arith) (to_z-of_z w64 _ f) (c.in_err-times.ensures n) c.loop-i.invariant)

pub loop-i-preserved : goal.loop-i-preserved
loop-i-preserved c =
    let f : FitsSigned w64 (get_or c.args.numbers.now c.loop-i.i (pos 0)) = search rules in
    let h : FitsSigned w64 c.in_ok-times.field-0 = search rules in
    products_next c.args.at c.args.factor _ (to_z-of_z w64 c.args.factor c.ranges.factor) c.args.numbers.now c.loop-i.list.items
    c.push.new.self.items c.in_ok-times.field-0 _ c.loop-i.i (omega arith) (to_z-of_z w64 _ f) (c.in_ok-push.ensures.items
    ∙ ap (λ x. c.loop-i.list.items ++ x ∷ []) (to_z-of_z w64 _ h)) c.in_ok-times.ensures c.loop-i.invariant

pub returns-clause-list : goal.returns-clause-list
returns-clause-list c = products_done c.args.at c.args.factor _ (to_z-of_z w64 c.args.factor c.ranges.factor) c.args.numbers.now
    c.loop-i.list.items c.loop-i.i (omega arith) c.loop-i.invariant

pub returns-clause-numbers : goal.returns-clause-numbers
returns-clause-numbers c = ranged_are_numbers c.args.at (products c.args.factor c.args.numbers.now) c.loop-i.list.items
    (products_done c.args.at c.args.factor _ (to_z-of_z w64 c.args.factor c.ranges.factor) c.args.numbers.now c.loop-i.list.items c.loop-i.i
    (omega arith) c.loop-i.invariant)
