use Rattle.std.proofs.Common.{◌∙◌, refl, sym}
use Rattle.std.specs.Prelude.{None}
use Rattle.std.proofs.lemmas.List.{get_or_default}
use Rattle.solve_joint.proofs.classes.Classing.{place_kept, place_set}
use Rattle.solve_joint.proofs.classes.first_place.Goals as goal

pub returns-in-Some : goal.returns-in-Some
returns-in-Some c = place_kept c.args.firsts.now.items c.args.point c.args.place c.in-Some.first
    (get_or_default c.args.firsts.now.items c.args.point None c.index.result.now c.requires ∙ sym c.index.ensures ∙ c.in-Some.is)

pub returns-in-None : goal.returns-in-None
returns-in-None c = place_set c.args.firsts.now.items _ c.args.point c.args.place c.requires
    (get_or_default c.args.firsts.now.items c.args.point None c.index.result.now c.requires ∙ sym c.index.ensures ∙ c.in-None.is) refl
