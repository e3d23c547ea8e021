use Rattle.std.proofs.Common.{◌≡◌, ◌∙◌, rules, None}
use Rattle.source_value.proofs.answers.Handed.{along}
use Rattle.source_value.proofs.kept.Kept.{under_lost}
use Rattle.source_value.proofs.prelude.Prelude.under.Goals as goal

pub returns-in_ok-deeds_under-in-Some : goal.returns-in_ok-deeds_under-in-Some
returns-in_ok-deeds_under-in-Some c = λ n h k x ds l e f.
    c.in_ok-deeds_under-in-Some.ensures n h k x ds l (c.as_cond.ensures ∙ e) (along _ c.args.self _ f (search rules))

pub returns-in-None : goal.returns-in-None
returns-in-None c = λ n h k x ds l e f.
    let s : None ≡ c.args.self = search rules in
    under_lost n k x ds (s ∙ f)
