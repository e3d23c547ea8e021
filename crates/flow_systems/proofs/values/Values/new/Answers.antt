use Rattle.std.proofs.Common.{◌≡◌, ◌∙◌, ◌∷◌, [], ◌++◌, take, ap, sym, arith}
use Rattle.std.proofs.lemmas.List.{take_more, take_all, length-take-le}
use Rattle.base_numbers.specs.Rational.{zero_ℚ}
use Rattle.lang_tree.specs.Meaning.{put}
use Rattle.flow_systems.proofs.values.Kept.{put_next}
use Rattle.flow_systems.proofs.values.Values.new.Goals as goal

pub loop-i-preserved : goal.loop-i-preserved
loop-i-preserved c =
    c.put.ensures
    ∙ ap (λ r. put zero_ℚ r c.loop-i.i c.index-start-i.result) c.loop-i.invariant
    ∙ put_next (take c.loop-i.i c.args.start.now) c.loop-i.i c.index-start-i.result
    (length-take-le c.loop-i.i c.args.start.now (omega arith))
    ∙ sym (take_more c.args.start.now c.loop-i.i c.index-start-i.result (omega arith)
    ∙ ap (λ q. take c.loop-i.i c.args.start.now ++ q ∷ []) (sym c.index-start-i.is))

pub returns : goal.returns
returns c = c.loop-i.invariant ∙ take_all c.loop-i.i c.args.start.now c.loop-i-test.false
