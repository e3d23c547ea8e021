-- The values of composed forms: at mixed words, at moved words, and as values of states.
use Rattle.std.proofs.Common.{refl, ◌≡◌, ◌∙◌, List, [], ◌∷◌, sym, ap, subst}
use Rattle.std.specs.Prelude.{ℤ}
use Rattle.base_numbers.specs.Rational.{ℚ, whole, zero_ℚ, one_ℚ, ◌+ℚ◌, ◌-ℚ◌, ◌*ℚ◌, ◌≤ℚ◌}
use Rattle.base_numbers.specs.Vector.{dot, scale_vec}
use Rattle.base_numbers.proofs.rational.Laws.{+ℚ_idl, +ℚ_assoc}
use Rattle.base_numbers.proofs.vector.Vectors.{dot-add, dot-scale, add-dot, scale-dot}
use Rattle.base_numbers.proofs.tactics.Ring.{ring, reads}
use Rattle.base_numbers.proofs.tactics.Linear.{gap, ◌⊗◌}
use Rattle.base_numbers.proofs.tactics.Linarith.{lin_le, le, ge0, reads_all}
use Rattle.lang_tree.specs.declared.form.Form.{Form}
use Rattle.flow_systems.specs.States.{dotℚ, valueℚ}
use Rattle.theory_validity.specs.Words.{Word, Affine, val, lin, values, combined, composed, AllAtMost, AllFall, mix, moved}

-- the value at a mixed word
pub val-mix : (f : Affine) (t : ℚ) (u v : Word) → val f (mix t u v) ≡ (one_ℚ -ℚ t) *ℚ val f u +ℚ t *ℚ val f v
unfolding val mix
val-mix f t u v =
    ap (λ s. s +ℚ f.constant) (add-dot (scale_vec (one_ℚ -ℚ t) u) (scale_vec t v) f.coeffs)
    ∙ ap (λ s. (s +ℚ dot f.coeffs (scale_vec t v)) +ℚ f.constant) (scale-dot (one_ℚ -ℚ t) u f.coeffs)
    ∙ ap (λ s. ((one_ℚ -ℚ t) *ℚ dot f.coeffs u +ℚ s) +ℚ f.constant) (scale-dot t v f.coeffs)
    ∙ ring (t ∷ dot f.coeffs u ∷ dot f.coeffs v ∷ f.constant ∷ []) (search reads depth 40) refl

-- the value at a moved word
pub val-moved : (f : Affine) (w : Word) (s : ℚ) (d : Word) → val f (moved w s d) ≡ val f w +ℚ s *ℚ lin f d
unfolding val lin moved
val-moved f w s d =
    ap (λ x. x +ℚ f.constant) (add-dot w (scale_vec s d) f.coeffs)
    ∙ ap (λ x. (dot f.coeffs w +ℚ x) +ℚ f.constant) (scale-dot s d f.coeffs)
    ∙ ring (s ∷ dot f.coeffs w ∷ dot f.coeffs d ∷ f.constant ∷ []) (search reads depth 40) refl

-- numbers as variables: the reader of `ring` takes `whole c` for a numeral
regroup : (c a b k l : ℚ) → (c *ℚ a +ℚ b) +ℚ (c *ℚ k +ℚ l) ≡ c *ℚ (a +ℚ k) +ℚ (b +ℚ l)
regroup c a b k l = ring (c ∷ a ∷ b ∷ k ∷ l ∷ []) (search reads depth 40) refl

-- a row over forms has the value of the row over their values
pub val-combined : (row : List ℤ) (fs : List Affine) (w : Word) → val (combined row fs) w ≡ dotℚ row (values fs w)
unfolding val combined values dot
val-combined [] fs w = +ℚ_idl zero_ℚ
val-combined (c ∷ cs) [] w = +ℚ_idl zero_ℚ
val-combined (c ∷ cs) (f ∷ fs) w =
    let r = combined cs fs in
    ap (λ s. s +ℚ (whole c *ℚ f.constant +ℚ r.constant)) (dot-add (scale_vec (whole c) f.coeffs) r.coeffs w)
    ∙ ap (λ s. (s +ℚ dot r.coeffs w) +ℚ (whole c *ℚ f.constant +ℚ r.constant)) (dot-scale (whole c) f.coeffs w)
    ∙ regroup (whole c) (dot f.coeffs w) (dot r.coeffs w) f.constant r.constant
    ∙ ap (λ s. whole c *ℚ val f w +ℚ s) (val-combined cs fs w)

-- a composed form has the form's value at the values
pub val-composed : (form : Form) (fs : List Affine) (w : Word) → val (composed form fs) w ≡ valueℚ form (values fs w)
unfolding val composed
val-composed form fs w =
    let r = combined form.coeffs fs in
    sym (+ℚ_assoc (dot r.coeffs w) r.constant (whole form.constant))
    ∙ ap (λ s. s +ℚ whole form.constant) (val-combined form.coeffs fs w)

-- guards that pass at two words pass between them
pub mix_pass : (gs : List Affine) (t : ℚ) (u v : Word) → zero_ℚ ≤ℚ t → t ≤ℚ one_ℚ → AllAtMost gs u → AllAtMost gs v
    → AllAtMost gs (mix t u v)
mix_pass [] t u v h i p q = tt
mix_pass (g ∷ gs) t u v h i p q = (
  subst (λ s. s ≤ℚ zero_ℚ) (sym (val-mix g t u v))
      (lin_le (t ∷ val g u ∷ val g v ∷ []) (ge0 (gap i ⊗ gap p.0) ∷ ge0 (h ⊗ gap q.0) ∷ []) (search reads_all depth 40) tt),
  mix_pass gs t u v h i p.1 q.1,
)

-- guards that pass and do not rise along a direction pass along it
pub move_pass : (gs : List Affine) (w : Word) (s : ℚ) (d : Word) → zero_ℚ ≤ℚ s → AllAtMost gs w → AllFall gs d → AllAtMost gs (moved w s d)
move_pass [] w s d h p q = tt
move_pass (g ∷ gs) w s d h p q = (
  subst (λ x. x ≤ℚ zero_ℚ) (sym (val-moved g w s d))
      (lin_le (s ∷ val g w ∷ lin g d ∷ []) (le p.0 ∷ ge0 (h ⊗ gap q.0) ∷ []) (search reads_all depth 40) tt),
  move_pass gs w s d h p.1 q.1,
)
