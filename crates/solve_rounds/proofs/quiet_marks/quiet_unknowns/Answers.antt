use Rattle.std.proofs.Common.{◌∙◌, ◌+◌, false, length, get_or, refl, sym, ap, subst}
use Rattle.std.proofs.lemmas.List.{with_items_is}
use Rattle.solve_rounds.proofs.quiet_marks.KnownQuiet.{PointsMarked, points_more, settled_within}
use Rattle.solve_rounds.proofs.quiet_marks.quiet_unknowns.Goals as goal
use Rattle.solve_rounds.proofs.quiet_marks.quiet_unknowns.Goals.{then-not-is_settled, else-not-is_settled}

pub loop-point-preserved : goal.loop-point-preserved
loop-point-preserved c =
    let system = c.args.system.now in
    let bounds = c.args.bounds.now in
    let pick = c.args.pick.now in
    let point = c.loop-point.point in
    let old = c.loop-point.marks.items in
    elim c.if-not-is_settled.branch [
      | then-not-is_settled w ↦
          let value = w.deref_mut.ensures.value in
          let made = w.mark_point.ensures in
          subst (PointsMarked system bounds pick (point + 1))
          (sym (ap (λ v. v.items) w.marks-is ∙ with_items_is c.loop-point.marks w.mark_point.new.marks
          (made.size ∙ ap (λ l. length l) value ∙ sym c.loop-point.marks.ok.0)))
          (points_more system bounds pick point old w.mark_point.new.marks c.loop-point.invariant (made.size ∙ ap (λ l. length l) value)
          (λ u other. made.others u other ∙ ap (λ l. get_or l u false) value) made.within)
      | else-not-is_settled w ↦
          subst (PointsMarked system bounds pick (point + 1)) (sym (ap (λ v. v.items) w.marks-is))
          (points_more system bounds pick point old old c.loop-point.invariant refl (λ u other. refl)
          (λ u l e m. settled_within system bounds pick u c.requires.edges c.requires.ends
          (c.requires.known.settled u l (ap (λ p. get_or c.args.known.now.settled.items p false) e ∙ sym c.is_settled.ensures
          ∙ w.if-not-is_settled.false))))
    ]
