use Rattle.std.proofs.Common.{arith, rules, ap, ◌∙◌, ◌++◌, ◌∷◌, [], FitsSigned, w64, get_or, pos}
use Rattle.std.proofs.lemmas.Int.{to_z-of_z}
use Rattle.lang_meaning.specs.Forms.{pairwise}
use Rattle.lang_meaning.proofs.results.Binds.{handed_on}
use Rattle.lang_reader.proofs.forms.Made.{pairs_next, pairs_stop, pairs_done}
use Rattle.lang_meaning.proofs.forms.Ranges.{ranged_are_numbers}
use Rattle.lang_reader.proofs.forms.pairwise.Goals as goal

pub returns-in_err-sum_or_difference-clause-list : goal.returns-in_err-sum_or_difference-clause-list
returns-in_err-sum_or_difference-clause-list c =
    let f : FitsSigned w64 (get_or c.args.left.now c.loop-i.i (pos 0)) = search rules in
    let g : FitsSigned w64 (get_or c.args.right.now c.loop-i.i (pos 0)) = search rules in
    handed_on _ _ _ _ c.from_residual.ensures.1 (λ n. pairs_stop _ _ _ _ _ c.loop-i.list.items _ _ _ c.loop-i.i (omega arith) (omega arith)
    (to_z-of_z w64 _ f) (to_z-of_z w64 _ g) (c.in_err-sum_or_difference.ensures n) c.loop-i.invariant)

pub loop-i-preserved : goal.loop-i-preserved
loop-i-preserved c =
    let f : FitsSigned w64 (get_or c.args.left.now c.loop-i.i (pos 0)) = search rules in
    let g : FitsSigned w64 (get_or c.args.right.now c.loop-i.i (pos 0)) = search rules in
    let h : FitsSigned w64 c.in_ok-sum_or_difference.field-0 = search rules in
    pairs_next _ _ _ _ _ c.loop-i.list.items c.push.new.self.items c.in_ok-sum_or_difference.field-0 _ _ c.loop-i.i (omega arith)
    (omega arith)
    (to_z-of_z w64 _ f) (to_z-of_z w64 _ g) (c.in_ok-push.ensures.items ∙ ap (λ x. c.loop-i.list.items ++ x ∷ []) (to_z-of_z w64 _ h))
    c.in_ok-sum_or_difference.ensures c.loop-i.invariant

pub returns-clause-list : goal.returns-clause-list
returns-clause-list c = pairs_done c.args.at c.args.subtracts c.args.left.now c.args.right.now _ c.loop-i.list.items c.loop-i.i
    (omega arith) c.loop-i.invariant

pub returns-clause-numbers : goal.returns-clause-numbers
returns-clause-numbers c = ranged_are_numbers c.args.at (pairwise c.args.subtracts c.args.left.now c.args.right.now) c.loop-i.list.items
    (pairs_done c.args.at c.args.subtracts c.args.left.now c.args.right.now _ c.loop-i.list.items c.loop-i.i (omega arith)
    c.loop-i.invariant)
