use Rattle.std.proofs.Common.{◌≡◌, ◌∙◌, ◌++◌, ◌∷◌, [], ℕ, List, true, Result, Ok, Err, refl, sym, ap, subst}
use Rattle.std.specs.declared.alloc.Global.{Global}
use Rattle.std.specs.declared.vec.Vec.{Vec}
use Rattle.lang_tree.specs.Tree as tree
use Rattle.lang_tree.specs.DeedView.{deeds_of}
use Rattle.lang_tree.specs.declared.deed.Deed as code_deed
use Rattle.source_tree.specs.Statements.{Change, sets}
use Rattle.source_core.specs.Elaborated.{any, Elaborated, Numbered, elaborated, numbered}
use Rattle.source_core.specs.Core.{change_deeds, taken_any}
use Rattle.source_core.specs.Fits.{deeds_fit, result_fits}
use Rattle.source_meaning.specs.declared.fault.FunctionFault.{FunctionFault}
use Rattle.source_meaning.specs.Limits.{limited}
use Rattle.source_value.specs.Kept.{kept_deeds}
use Rattle.source_value.specs.Stands.{StandsNumber}
use Rattle.source_reader.specs.Answers.{Answers}
use Rattle.source_change.proofs.lists.Deeds.{deeds_append}
use Rattle.source_change.proofs.changed.Taken.{any_is, any_kept, takes_any, takes_number}
use Rattle.source_change.proofs.changed.Sets.{few_any, few_number, kept_told}
use Rattle.source_change.proofs.limited.Limits.{both_true}
use Rattle.source_change.proofs.limited.Told.{as_limited}
use Rattle.source_change.proofs.results.Answered.{err_then, ok_then}
use Rattle.base_integers.specs.declared.integers.Integers.{Integers}
use Rattle.source_change.proofs.deeds.sets.Goals as goal

-- the code has the deeds of a change, and these deeds
abbrev Has : Integers → ℕ → Vec code_deed.Deed Global → Change → Type 0
Has integers n v h = deeds_of v.items ≡ change_deeds integers n h

abbrev Are : List tree.Deed → Vec code_deed.Deed Global → Unit {0} → Type 0
Are ds v u = deeds_of v.items ≡ ds

pub returns-then-is_any : goal.returns-then-is_any
returns-then-is_any c = λ e s.
    let integers : Integers = c.args.site.integers in
    let n : ℕ = c.args.site.variables in
    let line : ℕ = c.args.site.line in
    let x : Elaborated = elaborated integers line e n in
    let g : Change = sets c.args.var e line in
    let ds : List tree.Deed = x.prelude ++ taken_any integers c.args.var line in
    let free : x.result ≡ any = any_is n x.next x.result (sym (c.is_any.ensures.0 c.if-is_any.true) ∙ s.result) in
    let fit = both_true (deeds_fit x.prelude) (result_fits x.result) s.numbers in
    let stands = c.in_ok-with_any.ensures (record { prelude = x.prelude; next = x.next })
    (record { prelude = s.prelude; next = s.next; numbers = fit.0 }) in
    let P : Result Change FunctionFault → Type 0 = λ w. Answers (Has integers n) c.evaluated.result w in
    subst P (sym (few_any integers n line c.args.at c.args.var e free))
    (as_limited n c.args.at x.next ds [] (λ (v : Vec code_deed.Deed Global) es. deeds_of v.items ≡ es)
    (Has integers n) c.evaluated.result ds g
    (λ v p. p ∙ sym (takes_any integers c.args.var line x x.result free))
    (c.evaluated.ensures (record { prelude = ds; next = x.next }) stands))

pub returns-in_err-deeds : goal.returns-in_err-deeds
returns-in_err-deeds c = λ e s.
    let integers : Integers = c.args.site.integers in
    let n : ℕ = c.args.site.variables in
    let line : ℕ = c.args.site.line in
    let x : Elaborated = elaborated integers line e n in
    let y : Numbered = numbered integers line x in
    let g : Change = sets c.args.var e line in
    let bound : x.result ≡ any → ⊥ =
    λ h. (let t : c.is_any.result ≡ true = c.is_any.ensures.1 (s.result
    ∙ any_kept n x.next x.result h) in let f = c.if-is_any.false in cc) in
    let number : StandsNumber n c.in_ok-number.number y = c.in_ok-number.ensures x s in
    let a = kept_told n c.args.at c.in_ok-number.number.next y.next y.prelude (Err c.in_err-deeds.field-0.0) number.next
    (c.in_err-deeds.ensures y.prelude (number.prelude ∙ ap (λ k. kept_deeds n k y.prelude) (sym number.next))) in
    let P : Result Change FunctionFault → Type 0 = λ w. Answers (Has integers n) c.from_residual-in_err-deeds.result w in
    subst P (sym (few_number integers n line c.args.at c.args.var e bound))
    (err_then (Are y.prelude) (Has integers n) c.from_residual-in_err-deeds.result c.in_err-deeds.field-0.0
    (limited n c.args.at y.next y.prelude [] (tt {0})) (λ _. Ok g)
    c.from_residual-in_err-deeds.ensures.1 a)

pub returns : goal.returns
returns c = λ e s.
    let integers : Integers = c.args.site.integers in
    let n : ℕ = c.args.site.variables in
    let line : ℕ = c.args.site.line in
    let x : Elaborated = elaborated integers line e n in
    let y : Numbered = numbered integers line x in
    let g : Change = sets c.args.var e line in
    let bound : x.result ≡ any → ⊥ =
    λ h. (let t : c.is_any.result ≡ true = c.is_any.ensures.1 (s.result
    ∙ any_kept n x.next x.result h) in let f = c.if-is_any.false in cc) in
    let number : StandsNumber n c.in_ok-number.number y = c.in_ok-number.ensures x s in
    let a = kept_told n c.args.at c.in_ok-number.number.next y.next y.prelude (Ok c.in_ok-deeds.deeds) number.next
    (c.in_ok-deeds.ensures y.prelude (number.prelude ∙ ap (λ k. kept_deeds n k y.prelude) (sym number.next))) in
    let P : Result Change FunctionFault → Type 0 = λ w. Answers (Has integers n) (Ok c.push.new.self) w in
    subst P (sym (few_number integers n line c.args.at c.args.var e bound))
    (ok_then (Are y.prelude) (Has integers n) c.in_ok-deeds.deeds (Ok c.push.new.self) (limited n c.args.at y.next y.prelude [] (tt {0}))
    (λ _. Ok g) a
    (λ z p. (
      g,
      refl,
      ap deeds_of c.in_ok-push.ensures.items
          ∙ deeds_append c.in_ok-deeds.deeds.items (code_deed.TheVariants.Set c.args.var c.in_ok-number.number.form line ∷ [])
          ∙ ap (λ ds. ds ++ tree.sets c.args.var c.in_ok-number.number.form line ∷ []) p
          ∙ ap (λ f. y.prelude ++ tree.sets c.args.var f line ∷ []) number.form
          ∙ sym (takes_number integers c.args.var line x x.result bound),
    )))
