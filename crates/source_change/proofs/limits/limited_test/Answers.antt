use Rattle.std.proofs.Common.{◌∙◌, sym, ap, subst, ◌∷◌, [], ℕ, Err, Ok}
use Rattle.source_meaning.specs.Limits.{limited}
use Rattle.source_value.specs.Kept.{kept_deeds, kept_condition}
use Rattle.source_reader.specs.Answers.{Answers}
use Rattle.source_change.specs.Tests.{IsTest}
use Rattle.source_change.proofs.limited.Told.{hidden_told, test_told, prelude_told, condition_told}
use Rattle.source_change.proofs.limits.limited_test.Goals as goal

pub returns-then-not-is_within : goal.returns-then-not-is_within
returns-then-not-is_within c = λ t s.
    let P : ℕ → Type 0 = λ k. Answers IsTest (Err c.past.result) (limited c.args.site.variables c.args.at k t.prelude
    (t.condition ∷ []) t) in
    subst P s.next (hidden_told c.args.site.variables c.args.at c.args.tested.next IsTest c.past.result t.prelude
    (t.condition ∷ []) t c.past.ensures
    (sym c.if-not-is_within.ensures))

pub returns-in-None : goal.returns-in-None
returns-in-None c = λ t s.
    let P : ℕ → Type 0 = λ k. Answers IsTest (Err c.past-in-None.result) (limited c.args.site.variables c.args.at k t.prelude
    (t.condition ∷ []) t) in
    subst P s.next (condition_told c.args.site.variables c.args.at c.args.tested.next IsTest c.past-in-None.result t c.past-in-None.ensures
    (sym c.if-not-is_within.ensures)
    (c.in-None.ensures ∙ s.condition ∙ ap (λ k. kept_condition c.args.site.variables k t.condition) (sym s.next)))

pub returns-in-Some-into_list : goal.returns-in-Some-into_list
returns-in-Some-into_list c = λ t s.
    let P : ℕ → Type 0 = λ k. Answers IsTest (Ok (record { prelude = c.in-Some-into_list.prelude; cond = c.in-Some.cond }))
    (limited c.args.site.variables c.args.at k t.prelude (t.condition ∷ []) t) in
    subst P s.next (test_told c.args.site.variables c.args.at c.args.tested.next t
    (record { prelude = c.in-Some-into_list.prelude; cond = c.in-Some.cond })
    (c.in-Some-into_list.ensures ∙ s.prelude ∙ ap (λ k. kept_deeds c.args.site.variables k t.prelude) (sym s.next))
    (c.in-Some.ensures ∙ s.condition ∙ ap (λ k. kept_condition c.args.site.variables k t.condition) (sym s.next)))

pub returns-in-None-into_list : goal.returns-in-None-into_list
returns-in-None-into_list c = λ t s.
    let P : ℕ → Type 0 = λ k. Answers IsTest (Err c.past-in-None-into_list.result)
    (limited c.args.site.variables c.args.at k t.prelude (t.condition ∷ []) t) in
    subst P s.next (prelude_told c.args.site.variables c.args.at c.args.tested.next IsTest c.past-in-None-into_list.result t
    c.past-in-None-into_list.ensures
    (sym c.if-not-is_within.ensures)
    (c.in-None-into_list.ensures ∙ s.prelude ∙ ap (λ k. kept_deeds c.args.site.variables k t.prelude) (sym s.next)))
