-- A state followed with free values is a word that passes; a direction followed without constants is a direction that falls.
use Rattle.std.proofs.Common.{◌≡◌, ◌∙◌, ◌↔◌, ℕ, suc, List, [], ◌∷◌, ◌++◌, length, append_assoc, length-append, refl, sym, ap, subst, arith}
use Rattle.base_numbers.specs.Rational.{ℚ, zero_ℚ, ◌≤ℚ◌}
use Rattle.lang_tree.specs.Meaning.{put}
use Rattle.lang_tree.specs.declared.form.Form.{Form}
use Rattle.flow_edges.specs.declared.edge.Action.{Action}
use Rattle.flow_edges.specs.declared.edge.Action.TheVariants.{Guard, Assign, Havoc, Check}
use Rattle.flow_systems.specs.States.{RationalState, valueℚ}
use Rattle.theory_validity.specs.Words.{Word, Affine, column, columns, values, with_form, composed}
use Rattle.theory_validity.specs.Words.{guards_from, ends_from, free_count, guard_forms}
use Rattle.theory_validity.specs.Words.{end_of, AllAtMost, Passes}
use Rattle.flow_systems.specs.FreeValues.{Follows}
use Rattle.theory_validity.proofs.words.WordForms.{val-composed}
use Rattle.theory_validity.proofs.words.Traces.{val-column, values-columns, values-set}

-- ---- following is passing
abbrev At : List Affine → Word → RationalState → Type 0
At fs base x = (rest : Word) → values fs (base ++ rest) ≡ x

at_assign : (fs : List Affine) (base : Word) (x : RationalState) (var : ℕ) (form : Form) → At fs base x
    → At (with_form fs var (composed form fs)) base (put zero_ℚ x var (valueℚ form x))
at_assign fs base x var form at rest =
    values-set fs var (composed form fs) (base ++ rest)
    ∙ ap (put zero_ℚ (values fs (base ++ rest)) var) (val-composed form fs (base ++ rest))
    ∙ ap (λ s. put zero_ℚ s var (valueℚ form s)) (at rest)

at_forget : (fs : List Affine) (base : Word) (x : RationalState) (var : ℕ) (q : ℚ) → At fs base x
    → At (with_form fs var (column (length base))) (base ++ q ∷ []) (put zero_ℚ x var q)
at_forget fs base x var q at rest =
    ap (values (with_form fs var (column (length base)))) (append_assoc base (q ∷ []) rest)
    ∙ values-set fs var (column (length base)) (base ++ q ∷ rest)
    ∙ ap (put zero_ℚ (values fs (base ++ q ∷ rest)) var) (val-column base q rest)
    ∙ ap (λ s. put zero_ℚ s var q) (at (q ∷ rest))

one_more : (base : Word) (q : ℚ) → length (base ++ q ∷ []) ≡ suc (length base)
one_more base q = omega (arith, length-append base (q ∷ []))

abbrev Passing : List Action → ℕ → List Affine → Word → Word → RationalState → Type 0
Passing actions k fs base free y = (length free ≡ free_count actions) × AllAtMost (guards_from k fs actions) (base ++ free)
    × (y ≡ values (ends_from k fs actions) (base ++ free))

follows_passes : (actions : List Action) (fs : List Affine) (base : Word) (x : RationalState) (free : Word) (y : RationalState)
    → At fs base x → Follows actions x free y → Passing actions (length base) fs base free y
unfolding guards_from ends_from free_count
follows_passes [] fs base x [] y at h = (refl, tt, h ∙ sym (at []))
follows_passes [] fs base x (q ∷ free) y at h = absurd h
follows_passes (Guard form ∷ actions) fs base x free y at h =
    let r = follows_passes actions fs base x free y at h.1 in
    (r.0, (subst (λ s. s ≤ℚ zero_ℚ) (sym (val-composed form fs (base ++ free) ∙ ap (valueℚ form) (at free))) h.0, r.1), r.2)
follows_passes (Assign var form ∷ actions) fs base x free y at h =
    follows_passes actions (with_form fs var (composed form fs)) base (put zero_ℚ x var (valueℚ form x)) free y
    (at_assign fs base x var form at) h
follows_passes (Havoc var ∷ actions) fs base x [] y at h = absurd h
follows_passes (Havoc var ∷ actions) fs base x (q ∷ free) y at h =
    let next = with_form fs var (column (length base)) in
    let r = follows_passes actions next (base ++ q ∷ []) (put zero_ℚ x var q) free y (at_forget fs base x var q at) h in
    let e = one_more base q in
    let same = append_assoc base (q ∷ []) free in (
      ap suc r.0,
      subst (λ j. AllAtMost (guards_from j next actions) (base ++ q ∷ free)) e
          (subst (λ w. AllAtMost (guards_from (length (base ++ q ∷ [])) next actions) w) same r.1),
      subst (λ j. y ≡ values (ends_from j next actions) (base ++ q ∷ free)) e
          (subst (λ w. y ≡ values (ends_from (length (base ++ q ∷ [])) next actions) w) same r.2),
    )
follows_passes (Check about ∷ actions) fs base x free y at h = follows_passes actions fs base x free y at h

passes_follows : (actions : List Action) (fs : List Affine) (base : Word) (x : RationalState) (free : Word) (y : RationalState)
    → At fs base x → Passing actions (length base) fs base free y → Follows actions x free y
unfolding guards_from ends_from free_count
passes_follows [] fs base x [] y at h = h.2 ∙ at []
passes_follows [] fs base x (q ∷ free) y at h = let e = h.0 in absurd (omega arith)
passes_follows (Guard form ∷ actions) fs base x free y at h = (
  subst (λ s. s ≤ℚ zero_ℚ) (val-composed form fs (base ++ free) ∙ ap (valueℚ form) (at free)) h.1.0,
  passes_follows actions fs base x free y at (h.0, h.1.1, h.2),
)
passes_follows (Assign var form ∷ actions) fs base x free y at h =
    passes_follows actions (with_form fs var (composed form fs)) base (put zero_ℚ x var (valueℚ form x)) free y
    (at_assign fs base x var form at) h
passes_follows (Havoc var ∷ actions) fs base x [] y at h = let e = h.0 in absurd (omega arith)
passes_follows (Havoc var ∷ actions) fs base x (q ∷ free) y at h =
    let next = with_form fs var (column (length base)) in
    let e = sym (one_more base q) in
    let same = sym (append_assoc base (q ∷ []) free) in
    let l = h.0 in
    passes_follows actions next (base ++ q ∷ []) (put zero_ℚ x var q) free y (at_forget fs base x var q at) (
      omega (arith, l),
      subst (λ w. AllAtMost (guards_from (length (base ++ q ∷ [])) next actions) w) same
          (subst (λ j. AllAtMost (guards_from j next actions) (base ++ q ∷ free)) e h.1),
      subst (λ w. y ≡ values (ends_from (length (base ++ q ∷ [])) next actions) w) same
          (subst (λ j. y ≡ values (ends_from j next actions) (base ++ q ∷ free)) e h.2),
    )
passes_follows (Check about ∷ actions) fs base x free y at h = passes_follows actions fs base x free y at h

-- a state with a value for each variable is followed with free values to an end exactly where there are as many as the actions take, the
-- word passes, and the end is the word's
pub follows_iff : (n : ℕ) (actions : List Action) (x : RationalState) (free : Word) (y : RationalState) → length x ≡ n →
    Follows actions x free y ↔ ((length free ≡ free_count actions) × Passes n actions (x ++ free) × (y ≡ end_of n actions (x ++ free)))
unfolding end_of guard_forms
follows_iff n actions x free y e =
    let at : At (columns n) x x = λ rest. subst (λ k. values (columns k) (x ++ rest) ≡ x) e (values-columns x rest) in (
      (λ h. let r = follows_passes actions (columns n) x x free y at h in (
        r.0,
        record { all = subst (λ k. AllAtMost (guards_from k (columns n) actions) (x ++ free)) e r.1 },
        subst (λ k. y ≡ values (ends_from k (columns n) actions) (x ++ free)) e r.2,
      )),
      (λ h. passes_follows actions (columns n) x x free y at (
        h.0,
        subst (λ k. AllAtMost (guards_from k (columns n) actions) (x ++ free)) (sym e) h.1.all,
        subst (λ k. y ≡ values (ends_from k (columns n) actions) (x ++ free)) (sym e) h.2,
      )),
    )
