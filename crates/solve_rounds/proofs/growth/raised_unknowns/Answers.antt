use Rattle.std.proofs.Common.{◌∙◌, ◌∷◌, [], ◌++◌, ap, sym}
use Rattle.solve_rounds.proofs.growth.Marked.{marked_yes, marked_no}
use Rattle.solve_rounds.proofs.growth.raised_unknowns.Goals as goal
use Rattle.solve_rounds.proofs.growth.raised_unknowns.Goals.{then-is_raised+in_ok-push, else-is_raised}

pub loop-unknown-preserved : goal.loop-unknown-preserved
loop-unknown-preserved c =
    elim c.if-is_raised.branch [
      | then-is_raised+in_ok-push w ↦
          ap (λ v. v.items) w.list-is ∙ w.in_ok-push.ensures.items ∙ ap (λ ns. ns ++ c.loop-unknown.unknown ∷ []) c.loop-unknown.invariant
          ∙ sym (marked_yes c.args.raised.now c.loop-unknown.unknown w.if-is_raised.true)
      | else-is_raised w ↦
          ap (λ v. v.items) w.list-is ∙ c.loop-unknown.invariant ∙ sym
          (marked_no c.args.raised.now c.loop-unknown.unknown w.if-is_raised.false)
    ]
