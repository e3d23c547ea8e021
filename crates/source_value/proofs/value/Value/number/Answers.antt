use Rattle.std.proofs.Common.{◌≡◌, ◌∙◌, rules, [], ap, refl, sym, subst}
use Rattle.std.proofs.lemmas.Int.{to_z-of_z}
use Rattle.source_core.specs.Forms.{constant_form}
use Rattle.source_core.specs.Elaborated.{has, is_held, form_behind}
use Rattle.source_value.specs.declared.value.Outcome.TheVariants as outcome
use Rattle.source_value.specs.Answers.{IsForm, IsCondition}
use Rattle.source_value.specs.Stands.{Stands}
use Rattle.source_value.proofs.answers.Ranged.{number_outside}
use Rattle.source_value.proofs.value.Value.number.Goals as goal

pub returns-in_ok-ranged-in-Machine : goal.returns-in_ok-ranged-in-Machine
returns-in_ok-ranged-in-Machine c =
    let n = c.args.site.variables in
    let width = c.in-Machine.width in
    let v = c.args.number in
    let r = c.ranges.number in
    let form = constant_form v in
    let whole = form_behind [] c.args.next form in
    let i : IsForm c.in_ok-constant_form.field-0 form = search rules in
    let j : IsForm c.in_ok-constant_form-in-Machine.field-0 form = search rules in
    let told : c.has.result ≡ has width v = simp to_z-of_z at c.has.ensures in
    let outside = sym told ∙ c.if-has.false in
    subst (λ e. Stands n c.in_ok-ranged-in-Machine.field-0 e)
    (number_outside c.args.site.integers c.args.site.line v c.args.at c.args.next width c.in-Machine.is outside)
    (c.in_ok-ranged-in-Machine.ensures whole (is_held width form) (record {
      prelude = c.none.ensures;
      result = ap outcome.Form i.0;
      next = refl;
      numbers = i.1;
    }) (subst (λ f. IsCondition c.in_ok-holds-in-Machine.holds (is_held width f)) j.0 c.in_ok-holds-in-Machine.ensures))
