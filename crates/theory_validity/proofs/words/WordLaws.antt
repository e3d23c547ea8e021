-- Mixed and moved words: their row values at the start and at the end, and that they pass.
use Rattle.std.proofs.Common.{◌≡◌, ◌∙◌, ℕ, zero, suc, List, [], ◌∷◌, map, refl, sym, ap}
use Rattle.std.specs.Prelude.{ℤ}
use Rattle.base_numbers.specs.Rational.{ℚ, whole, zero_ℚ, one_ℚ, ◌+ℚ◌, ◌-ℚ◌, ◌*ℚ◌, ◌≤ℚ◌}
use Rattle.base_numbers.proofs.rational.Laws.{+ℚ_idl, +ℚ_idr, *ℚ-zero}
use Rattle.flow_edges.specs.declared.edge.Action.{Action}
use Rattle.flow_systems.specs.States.{dotℚ}
use Rattle.theory_validity.specs.Words.{Word, Affine, val, lin, shifted, column, columns, combined, ends_from, guard_forms, start_form}
use Rattle.theory_validity.specs.Words.{end_form, start_of, end_of, Passes, Falls, mix, moved}
use Rattle.theory_validity.proofs.words.WordForms.{val-mix, val-moved, val-combined, mix_pass, move_pass}

-- the forms of a row have the values of the row at the two states
val-start_form : (n : ℕ) (row : List ℤ) (w : Word) → val (start_form n row) w ≡ dotℚ row (start_of n w)
unfolding start_form start_of
val-start_form n row w = val-combined row (columns n) w

-- and at the end
pub val-end_form : (n : ℕ) (actions : List Action) (row : List ℤ) (w : Word)
    → val (end_form n actions row) w ≡ dotℚ row (end_of n actions w)
unfolding end_form end_of
val-end_form n actions row w = val-combined row (ends_from n (columns n) actions) w

-- between two words
pub start-mix : (n : ℕ) (row : List ℤ) (t : ℚ) (u v : Word) → dotℚ row (start_of n (mix t u v))
    ≡ (one_ℚ -ℚ t) *ℚ dotℚ row (start_of n u) +ℚ t *ℚ dotℚ row (start_of n v)
start-mix n row t u v =
    sym (val-start_form n row (mix t u v)) ∙ val-mix (start_form n row) t u v
    ∙ ap (λ s. (one_ℚ -ℚ t) *ℚ s +ℚ t *ℚ val (start_form n row) v) (val-start_form n row u)
    ∙ ap (λ s. (one_ℚ -ℚ t) *ℚ dotℚ row (start_of n u) +ℚ t *ℚ s) (val-start_form n row v)

-- and its value at the end
pub end-mix : (n : ℕ) (actions : List Action) (row : List ℤ) (t : ℚ) (u v : Word) →
    dotℚ row (end_of n actions (mix t u v)) ≡ (one_ℚ -ℚ t) *ℚ dotℚ row (end_of n actions u) +ℚ t *ℚ dotℚ row (end_of n actions v)
end-mix n actions row t u v =
    sym (val-end_form n actions row (mix t u v)) ∙ val-mix (end_form n actions row) t u v
    ∙ ap (λ s. (one_ℚ -ℚ t) *ℚ s +ℚ t *ℚ val (end_form n actions row) v) (val-end_form n actions row u)
    ∙ ap (λ s. (one_ℚ -ℚ t) *ℚ dotℚ row (end_of n actions u) +ℚ t *ℚ s) (val-end_form n actions row v)

-- a word between two that pass passes
pub passes_mix : (n : ℕ) (actions : List Action) (t : ℚ) (u v : Word) → zero_ℚ ≤ℚ t → t ≤ℚ one_ℚ → Passes n actions u → Passes n actions v
    → Passes n actions (mix t u v)
passes_mix n actions t u v h i p q = record { all = mix_pass (guard_forms n actions) t u v h i p.all q.all }

-- along a direction
pub start-moved : (n : ℕ) (row : List ℤ) (w : Word) (s : ℚ) (d : Word)
    → dotℚ row (start_of n (moved w s d)) ≡ dotℚ row (start_of n w) +ℚ s *ℚ lin (start_form n row) d
start-moved n row w s d =
    sym (val-start_form n row (moved w s d)) ∙ val-moved (start_form n row) w s d
    ∙ ap (λ x. x +ℚ s *ℚ lin (start_form n row) d) (val-start_form n row w)

-- and its value at the end
pub end-moved : (n : ℕ) (actions : List Action) (row : List ℤ) (w : Word) (s : ℚ) (d : Word) →
    dotℚ row (end_of n actions (moved w s d)) ≡ dotℚ row (end_of n actions w) +ℚ s *ℚ lin (end_form n actions row) d
end-moved n actions row w s d =
    sym (val-end_form n actions row (moved w s d)) ∙ val-moved (end_form n actions row) w s d
    ∙ ap (λ x. x +ℚ s *ℚ lin (end_form n actions row) d) (val-end_form n actions row w)

-- a word that passes passes along a direction that falls
pub passes_moved : (n : ℕ) (actions : List Action) (w : Word) (s : ℚ) (d : Word) → zero_ℚ ≤ℚ s → Passes n actions w → Falls n actions d
    → Passes n actions (moved w s d)
passes_moved n actions w s d h p q = record { all = move_pass (guard_forms n actions) w s d h p.all q.all }

-- ---- start forms have no constant
abbrev NoConstants : List Affine → Type 0
NoConstants [] = Unit {0}
NoConstants (f ∷ fs) = (f.constant ≡ zero_ℚ) × NoConstants fs

shifted_no_constants : (fs : List Affine) → NoConstants fs → NoConstants (map shifted fs)
unfolding shifted
shifted_no_constants [] h = tt
shifted_no_constants (f ∷ fs) h = (h.0, shifted_no_constants fs h.1)

columns_no_constants : (n : ℕ) → NoConstants (columns n)
unfolding columns column
columns_no_constants zero = tt
columns_no_constants (suc n) = (refl, shifted_no_constants (columns n) (columns_no_constants n))

combined_no_constant : (row : List ℤ) (fs : List Affine) → NoConstants fs → (combined row fs).constant ≡ zero_ℚ
unfolding combined
combined_no_constant [] fs h = refl
combined_no_constant (c ∷ cs) [] h = refl
combined_no_constant (c ∷ cs) (f ∷ fs) h =
    ap (λ s. whole c *ℚ s +ℚ (combined cs fs).constant) h.0 ∙ ap (λ s. s +ℚ (combined cs fs).constant) (*ℚ-zero (whole c))
    ∙ +ℚ_idl (combined cs fs).constant ∙ combined_no_constant cs fs h.1

-- a start form has no constant
pub start-constant : (n : ℕ) (row : List ℤ) → (start_form n row).constant ≡ zero_ℚ
unfolding start_form
start-constant n row = combined_no_constant row (columns n) (columns_no_constants n)

-- a start form's coefficients alone give the row's value
pub start-coeffs : (n : ℕ) (row : List ℤ) (w : Word) → lin (start_form n row) w ≡ dotℚ row (start_of n w)
unfolding lin val
start-coeffs n row w =
    sym (+ℚ_idr (lin (start_form n row) w)) ∙ ap (λ s. lin (start_form n row) w +ℚ s) (sym (start-constant n row)) ∙ val-start_form n row w
