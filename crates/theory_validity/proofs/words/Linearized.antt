-- Linear parts of composed forms are the values of the forms composed without constants.
use Rattle.std.proofs.Common.{◌≡◌, ◌∙◌, ◌↔◌, ℕ, zero, suc, List, [], ◌∷◌, map, refl, sym, ap, ap₂, subst}
use Rattle.std.specs.Prelude.{ℤ, pos}
use Rattle.lang_tree.proofs.Put.{map-put}
use Rattle.base_numbers.specs.Rational.{whole, zero_ℚ, ◌+ℚ◌, ◌*ℚ◌, ◌≤ℚ◌}
use Rattle.base_numbers.specs.Vector.{dot, add_vec, scale_vec}
use Rattle.base_numbers.proofs.rational.Laws.{+ℚ_idr, *ℚ-zero, whole-zero}
use Rattle.lang_tree.specs.declared.form.Form.{Form}
use Rattle.flow_edges.specs.declared.edge.Action.{Action}
use Rattle.flow_edges.specs.declared.edge.Action.TheVariants.{Guard, Assign, Havoc, Check}
use Rattle.flow_systems.specs.States.{dotℚ}
use Rattle.theory_validity.specs.Words.{Word, Affine, val, lin, no_form, with_form, shifted, column}
use Rattle.theory_validity.specs.Words.{columns, combined, composed, guards_from, ends_from}
use Rattle.theory_validity.specs.Words.{guard_forms, end_form, end_of, AllAtMost, AllFall, Passes, Falls}
use Rattle.flow_systems.specs.Constants.{linear_form, linear_action}
use Rattle.theory_validity.proofs.words.WordLaws.{val-end_form}

-- a form without its constant
abbrev flat : Affine → Affine
flat f = record { coeffs = f.coeffs; constant = zero_ℚ }

affine_same : (f g : Affine) → f.coeffs ≡ g.coeffs → f.constant ≡ g.constant → f ≡ g
affine_same f g e h = ap₂ (λ c k. record { coeffs = c; constant = k }) e h

val-flat : (f : Affine) (d : Word) → val (flat f) d ≡ lin f d
unfolding val lin
val-flat f d = +ℚ_idr (dot f.coeffs d)

flat-column : (k : ℕ) → flat (column k) ≡ column k
unfolding column shifted
flat-column zero = refl
flat-column (suc k) = ap shifted (flat-column k)

flat-shifted : (fs : List Affine) → map flat (map shifted fs) ≡ map shifted (map flat fs)
unfolding shifted
flat-shifted [] = refl
flat-shifted (f ∷ fs) = ap (λ gs. flat (shifted f) ∷ gs) (flat-shifted fs)

flat-columns : (n : ℕ) → map flat (columns n) ≡ columns n
unfolding columns
flat-columns zero = refl
flat-columns (suc n) = ap₂ (λ f fs. f ∷ fs) (flat-column 0) (flat-shifted (columns n) ∙ ap (map shifted) (flat-columns n))

flat-combined : (row : List ℤ) (fs : List Affine) → combined row (map flat fs) ≡ flat (combined row fs)
unfolding combined
flat-combined [] fs = refl
flat-combined (c ∷ cs) [] = refl
flat-combined (c ∷ cs) (f ∷ fs) =
    let e = flat-combined cs fs in
    affine_same _ _ (ap (λ g. add_vec (scale_vec (whole c) f.coeffs) g.coeffs) e)
    (ap (λ g. whole c *ℚ zero_ℚ +ℚ g.constant) e ∙ +ℚ_idr (whole c *ℚ zero_ℚ) ∙ *ℚ-zero (whole c))

flat-composed : (form : Form) (fs : List Affine) → composed (linear_form form) (map flat fs) ≡ flat (composed form fs)
unfolding composed
flat-composed form fs =
    let e = flat-combined form.coeffs fs in
    affine_same _ _ (ap (λ g. g.coeffs) e) (ap (λ g. g.constant +ℚ whole (pos 0)) e ∙ ap (λ s. zero_ℚ +ℚ s) whole-zero ∙ +ℚ_idr zero_ℚ)

flat-set : (fs : List Affine) (var : ℕ) (f g : Affine) → g ≡ flat f → with_form (map flat fs) var g ≡ map flat (with_form fs var f)
flat-set fs var f g e = ap (with_form (map flat fs) var) e ∙ sym (map-put flat no_form fs var f)

flat-guards : (k : ℕ) (fs : List Affine) (actions : List Action) → guards_from k (map flat fs) (map linear_action actions)
    ≡ map flat (guards_from k fs actions)
unfolding guards_from
flat-guards k fs [] = refl
flat-guards k fs (Guard form ∷ actions) = ap₂ (λ g gs. g ∷ gs) (flat-composed form fs) (flat-guards k fs actions)
flat-guards k fs (Assign var form ∷ actions) =
    ap (λ gs. guards_from k gs (map linear_action actions)) (flat-set fs var (composed form fs) (composed (linear_form form) (map flat fs))
    (flat-composed form fs)) ∙ flat-guards k (with_form fs var (composed form fs)) actions
flat-guards k fs (Havoc var ∷ actions) =
    ap (λ gs. guards_from (suc k) gs (map linear_action actions)) (flat-set fs var (column k) (column k) (sym (flat-column k)))
    ∙ flat-guards (suc k) (with_form fs var (column k)) actions
flat-guards k fs (Check about ∷ actions) = flat-guards k fs actions

flat-ends : (k : ℕ) (fs : List Affine) (actions : List Action) → ends_from k (map flat fs) (map linear_action actions)
    ≡ map flat (ends_from k fs actions)
unfolding ends_from
flat-ends k fs [] = refl
flat-ends k fs (Guard form ∷ actions) = flat-ends k fs actions
flat-ends k fs (Assign var form ∷ actions) =
    ap (λ gs. ends_from k gs (map linear_action actions)) (flat-set fs var (composed form fs) (composed (linear_form form) (map flat fs))
    (flat-composed form fs)) ∙ flat-ends k (with_form fs var (composed form fs)) actions
flat-ends k fs (Havoc var ∷ actions) =
    ap (λ gs. ends_from (suc k) gs (map linear_action actions)) (flat-set fs var (column k) (column k) (sym (flat-column k)))
    ∙ flat-ends (suc k) (with_form fs var (column k)) actions
flat-ends k fs (Check about ∷ actions) = flat-ends k fs actions

falls_to : (gs : List Affine) (d : Word) → AllFall gs d ↔ AllAtMost (map flat gs) d
falls_to [] d = ((λ h. tt), (λ h. tt))
falls_to (g ∷ gs) d =
    let r = falls_to gs d in
    ((λ h. (subst (λ s. s ≤ℚ zero_ℚ) (sym (val-flat g d)) h.0, r.0 h.1)), (λ h. (subst (λ s. s ≤ℚ zero_ℚ) (val-flat g d) h.0, r.1 h.1)))

-- a direction falls exactly where it passes as a word of the actions without constants
pub falls_iff : (n : ℕ) (actions : List Action) (d : Word) → Falls n actions d ↔ Passes n (map linear_action actions) d
unfolding guard_forms
falls_iff n actions d =
    let e : guards_from n (columns n) (map linear_action actions) ≡ map flat (guards_from n (columns n) actions) =
    ap (λ fs. guards_from n fs (map linear_action actions)) (sym (flat-columns n)) ∙ flat-guards n (columns n) actions in
    let r = falls_to (guards_from n (columns n) actions) d in (
      (λ h. record { all = subst (λ gs. AllAtMost gs d) (sym e) (r.0 h.all) }),
      (λ h. record { all = r.1 (subst (λ gs. AllAtMost gs d) e h.all) }),
    )

-- the linear part of a row's end form is the row's value where the direction ends
pub end-slope : (n : ℕ) (actions : List Action) (row : List ℤ) (d : Word)
    → lin (end_form n actions row) d ≡ dotℚ row (end_of n (map linear_action actions) d)
unfolding end_form
end-slope n actions row d =
    sym (val-flat (end_form n actions row) d)
    ∙ ap (λ f. val f d) (sym (flat-combined row (ends_from n (columns n) actions))
    ∙ ap (combined row) (sym (flat-ends n (columns n) actions) ∙ ap (λ fs. ends_from n fs (map linear_action actions))
    (flat-columns n)))
    ∙ val-end_form n (map linear_action actions) row d
