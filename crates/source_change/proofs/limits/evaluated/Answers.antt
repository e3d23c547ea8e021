use Rattle.std.proofs.Common.{◌≡◌, ◌∙◌, sym, ap, subst, [], ℕ}
use Rattle.lang_tree.specs.DeedView.{deeds_of}
use Rattle.source_meaning.specs.Limits.{limited}
use Rattle.source_value.specs.Kept.{kept_deeds}
use Rattle.source_reader.specs.Answers.{Answers}
use Rattle.source_change.proofs.limits.evaluated.Goals as goal

pub returns : goal.returns
returns c = λ e s.
    let P : ℕ → Type 0 = λ k. Answers (λ deeds ds. deeds_of deeds.items ≡ ds) c.limited_deeds.result
    (limited c.args.site.variables c.args.at k e.prelude [] e.prelude) in
    subst P s.next (c.limited_deeds.ensures e.prelude (s.prelude ∙ ap (λ k. kept_deeds c.args.site.variables k e.prelude) (sym s.next)))
