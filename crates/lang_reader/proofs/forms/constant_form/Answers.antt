use Rattle.std.proofs.Common.{◌≡◌, ◌∙◌, Result, Ok, Err, List, ℤ, sym, ap₂, replicate, pos, FitsSigned, w64, rules}
use Rattle.std.proofs.lemmas.Int.{to_z-of_z}
use mir.Syntax.{w128}
use Rattle.lang_tree.specs.declared.form.Form.{Form}
use Rattle.lang_meaning.specs.declared.fault.ParseFault.{ParseFault}
use Rattle.lang_meaning.specs.Walk.{ranged_number}
use Rattle.lang_meaning.proofs.results.Binds.{then_ok, then_err, handed_on}
use Rattle.lang_reader.proofs.forms.Made.{constant_ranged, form_with}
use Rattle.lang_reader.proofs.forms.constant_form.Goals as goal

pub returns-in_err-constant : goal.returns-in_err-constant
returns-in_err-constant c =
    let v = c.ranges.constant in
    let w : FitsSigned w128 c.args.constant = search rules in
    handed_on _ _ c.in_err-constant.field-0.0 _ c.from_residual-in_err-constant.ensures.1
    (λ n. let e : ranged_number c.args.at c.args.constant ≡ Err c.in_err-constant.field-0.0 =
    simp to_z-of_z at (c.in_err-constant.ensures n) in
    constant_ranged c.args.at c.args.width c.args.constant ∙ then_err (λ k. Ok (form_with (replicate c.args.width (pos 0)) k)) e)

pub returns : goal.returns
returns c =
    let v = c.ranges.constant in
    let w : FitsSigned w128 c.args.constant = search rules in
    let k : FitsSigned w64 c.in_ok-constant.constant = search rules in
    let e : ranged_number c.args.at c.args.constant ≡ Ok c.in_ok-constant.constant = simp to_z-of_z at c.in_ok-constant.ensures in
    let g : (x : List ℤ) (y : ℤ) → Result Form ParseFault = λ x y. Ok (form_with x y) in
    constant_ranged c.args.at c.args.width c.args.constant
    ∙ then_ok (λ y. g (replicate c.args.width (pos 0)) y) e (ap₂ g (sym (c.new.ensures ∙ c.in_ok-list.ensures.list))
    (sym (to_z-of_z w64 c.in_ok-constant.constant k)))
