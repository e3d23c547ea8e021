use Rattle.std.proofs.Common.{◌∙◌, ◌++◌, ◌∷◌, [], suc, ap, ap₂, sym, pos, refl, true, arith, replicate, append_assoc}
use Rattle.std.proofs.lemmas.Bool.{and_from, and_parts}
use Rattle.lang_tree.specs.declared.cond.Rel.TheVariants.{Eq}
use Rattle.lang_tree.specs.Numbers.{are_numbers}
use Rattle.lang_tree.specs.Limits.{has_numbers}
use Rattle.lang_tree.specs.DeedView.{condition_of}
use Rattle.lang_tree.specs.Tree.{negation, havocs, wheres}
use Rattle.source_core.specs.Forms.{variable_form}
use Rattle.source_core.specs.Preludes.{all_under}
use Rattle.source_core.specs.Elaborated.{related, selects}
use Rattle.source_core.specs.Fits.{condition_fits, deeds_fit}
use Rattle.source_value.specs.declared.value.Outcome.TheVariants as outcome
use Rattle.source_value.specs.Kept.{kept_deeds}
use Rattle.source_value.proofs.answers.Parts.{deeds_fit_both, all_under_fit}
use Rattle.source_value.proofs.answers.Handed.{handed, no_memory}
use Rattle.source_value.proofs.answers.Selected.{selected, selects_fits, first_form_unfit, second_form_unfit, choice_unfit}
use Rattle.source_value.proofs.numbers.Lists.{zeros_then}
use Rattle.source_value.proofs.truths.chosen.Goals as goal

pub returns-in_err-is_yes : goal.returns-in_err-is_yes
returns-in_err-is_yes c = λ x f g l m s t u.
    handed _ _ _ c.in_err-is_yes.field-0.0 _ c.from_residual-in_err-is_yes.ensures.1
    (λ n. choice_unfit c.args.site.line x f g (first_form_unfit x.condition g.next f.form g.form
    (ap₂ (λ y z. condition_fits (related Eq y z)) (ap variable_form (sym u.next) ∙ sym c.in_ok-hidden.ensures) (sym t.form)
    ∙ c.in_err-is_yes.ensures n)))

pub returns-in_err-is_no : goal.returns-in_err-is_no
returns-in_err-is_no c = λ x f g l m s t u.
    handed _ _ _ c.in_err-is_no.field-0.0 _ c.from_residual-in_err-is_no.ensures.1
    (λ n. choice_unfit c.args.site.line x f g (second_form_unfit x.condition g.next f.form g.form
    (ap₂ (λ y z. condition_fits (related Eq y z)) (ap variable_form (sym u.next) ∙ sym c.in_ok-hidden.ensures) (sym u.form)
    ∙ c.in_err-is_no.ensures n)))

pub returns-in_err-of_no : goal.returns-in_err-of_no
returns-in_err-of_no c = λ x f g l m s t u. no_memory _ _ _ _ c.from_residual-in_err-of_no.ensures.1

pub returns-in_err-behind : goal.returns-in_err-behind
returns-in_err-behind c = λ x f g l m s t u. no_memory _ _ _ _ c.from_residual-in_err-behind.ensures.1

pub returns : goal.returns
returns c = λ x f g l m s t u.
    let n = c.args.site.variables in
    let line = c.args.site.line in
    let h = g.next in
    let hide = c.in_ok-hidden.ensures ∙ ap variable_form u.next in
    let i = c.in_ok-is_yes.ensures in
    let j = c.in_ok-is_no.ensures in
    let of_yes = all_under x.condition f.prelude in
    let of_no = all_under (negation x.condition) g.prelude in
    let sel = selects x.condition h f.form g.form in
    let p = and_parts (deeds_fit x.prelude) (condition_fits x.condition) s.numbers in
    let q = and_parts (deeds_fit f.prelude) (has_numbers f.form) t.numbers in
    let r = and_parts (deeds_fit g.prelude) (has_numbers g.form) u.numbers in
    let a = c.in_ok-of_yes.ensures n x.next f.next x.condition f.prelude l s.condition t.prelude in
    let no = c.in_ok-not_truth.ensures n x.next x.condition (c.in_ok-again.ensures ∙ s.condition) in
    let b = c.in_ok-of_no.ensures n x.next g.next (negation x.condition) g.prelude (omega (arith, l, m)) no u.prelude in
    let first = c.in_ok-joined.ensures n x.next f.next x.prelude of_yes l s.prelude a in
    let all = c.in_ok-prelude.ensures n f.next h (x.prelude ++ of_yes) of_no m first b in
    let y = ap₂ (λ v w. condition_fits (related Eq v w)) (sym hide) (sym t.form) ∙ i.1 in
    let z = ap₂ (λ v w. condition_fits (related Eq v w)) (sym hide) (sym u.form) ∙ j.1 in
    let whole = append_assoc (x.prelude ++ of_yes) of_no (havocs h line ∷ wheres sel line ∷ [])
    ∙ append_assoc x.prelude of_yes (of_no ++ havocs h line ∷ wheres sel line ∷ []) in
    let k = c.in_ok-after.ensures (record { prelude = (x.prelude ++ of_yes) ++ of_no; next = h }) sel (record {
      prelude = all;
      next = u.next;
      numbers = deeds_fit_both (x.prelude ++ of_yes) of_no
          (deeds_fit_both x.prelude of_yes p.0 (all_under_fit x.condition f.prelude p.1 q.0))
          (all_under_fit (negation x.condition) g.prelude p.1 r.0);
    }) (selects_fits x.condition h f.form g.form p.1 y z)
    (selected n h c.in_ok-behind.field-0 c.args.no.next x.condition (condition_of c.in_ok-is_yes.is_yes) (condition_of c.in_ok-is_no.is_no)
    f.form g.form c.in_ok-one.one u.next c.in_ok-behind.ensures
    (i.0 ∙ ap₂ (related Eq) c.in_ok-hidden.ensures t.form) (j.0 ∙ ap₂ (related Eq) c.in_ok-hidden.ensures u.form)
    (c.in_ok-one.ensures x.next x.condition (omega (arith, l, m, u.next, c.in_ok-behind.ensures)) s.condition)) in
    record {
      prelude = k.prelude ∙ ap (kept_deeds n (suc h)) whole;
      result = ap outcome.Form hide;
      next = k.next;
      numbers = and_from (deeds_fit (x.prelude ++ (of_yes ++ (of_no ++ havocs h line ∷ wheres sel line ∷ []))))
          (has_numbers (variable_form h)) (ap deeds_fit (sym whole) ∙ k.numbers)
          (and_from (are_numbers (replicate h (pos 0) ++ pos 1 ∷ [])) true (zeros_then h (pos 1) refl) refl);
    }
