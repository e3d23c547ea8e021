-- Conditions that select one of two forms as the value of a hidden variable.
use Rattle.std.proofs.Common.{◌≡◌, ◌∙◌, ◌++◌, ◌∷◌, ◌+◌, ◌&&◌, [], ℕ, suc, Option, true, false, ap, ap₂, add-one}
use Rattle.std.proofs.lemmas.Bool.{and_from, and_left, and_right}
use Rattle.lang_tree.specs.declared.form.Form.{Form}
use Rattle.lang_tree.specs.declared.cond.Rel.TheVariants.{Eq}
use Rattle.lang_tree.specs.Limits.{has_numbers}
use Rattle.lang_tree.specs.Tree.{Condition, negation, both, either, havocs, wheres}
use Rattle.source_core.specs.Forms.{variable_form}
use Rattle.source_core.specs.Preludes.{all_under}
use Rattle.source_core.specs.Elaborated as core
use Rattle.source_core.specs.Elaborated.{related, selects, choice}
use Rattle.source_core.specs.Fits.{condition_fits, deeds_fit, fits}
use Rattle.source_value.specs.Kept.{kept_condition}
use Rattle.source_value.proofs.answers.Parts.{second_unfit, last_of_two_unfit}

-- what is kept of such a condition that was made of two comparisons of the variable
pub selected : (n h k b : ℕ) (x p q : Condition) (f g : Form) (t : Option Condition) → b ≡ h → k ≡ b + 1
    → p ≡ related Eq (variable_form b) f → q ≡ related Eq (variable_form b) g
    → t ≡ kept_condition n k (either (both x p) (both (negation x) q)) → t ≡ kept_condition n (suc h) (selects x h f g)
selected n h k b x p q f g t e l i j m =
    m ∙ ap (λ y. kept_condition n y (either (both x p) (both (negation x) q))) (l ∙ add-one b ∙ ap suc e)
    ∙ ap₂ (λ y z. kept_condition n (suc h) (either (both x y) (both (negation x) z)))
    (i ∙ ap (λ y. related Eq (variable_form y) f) e) (j ∙ ap (λ y. related Eq (variable_form y) g) e)

module _ (x : Condition) (h : ℕ) (f g : Form) where
  -- it is in range where its parts are
  pub selects_fits : condition_fits x ≡ true → condition_fits (related Eq (variable_form h) f) ≡ true
      → condition_fits (related Eq (variable_form h) g) ≡ true → condition_fits (selects x h f g) ≡ true
  selects_fits e i j =
      let a = condition_fits (related Eq (variable_form h) f) in
      let b = condition_fits (related Eq (variable_form h) g) in
      and_from (condition_fits x && a) (condition_fits x && b) (and_from (condition_fits x) a e i) (and_from (condition_fits x) b e j)

  -- out of range where the first comparison is
  pub first_form_unfit : condition_fits (related Eq (variable_form h) f) ≡ false → condition_fits (selects x h f g) ≡ false
  first_form_unfit i =
      let a = condition_fits (related Eq (variable_form h) f) in
      let b = condition_fits (related Eq (variable_form h) g) in
      and_left (condition_fits x && a) (condition_fits x && b) (and_right (condition_fits x) a i)

  -- and where the second is
  pub second_form_unfit : condition_fits (related Eq (variable_form h) g) ≡ false → condition_fits (selects x h f g) ≡ false
  second_form_unfit j =
      let a = condition_fits (related Eq (variable_form h) f) in
      let b = condition_fits (related Eq (variable_form h) g) in
      and_right (condition_fits x && a) (condition_fits x && b) (and_right (condition_fits x) b j)

-- a choice is out of range where its condition is
pub choice_unfit : (line : ℕ) (c : core.Tested) (f g : core.Numbered)
    → condition_fits (selects c.condition g.next f.form g.form) ≡ false → fits (choice line c f g) ≡ false
choice_unfit line c f g e =
    let taken = havocs g.next line in
    let where_it_is = wheres (selects c.condition g.next f.form g.form) line in
    let last = taken ∷ where_it_is ∷ [] in
    let of_yes = all_under c.condition f.prelude in
    let of_no = all_under (negation c.condition) g.prelude in
    and_left (deeds_fit (c.prelude ++ (of_yes ++ (of_no ++ last)))) (has_numbers (variable_form g.next))
    (second_unfit c.prelude (of_yes ++ (of_no ++ last)) (second_unfit of_yes (of_no ++ last) (last_of_two_unfit of_no taken where_it_is e)))
