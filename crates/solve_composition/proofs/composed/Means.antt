-- What composed forms say of traces.
use Rattle.std.proofs.Common.{◌≡◌, ◌∙◌, ◌↔◌, ℕ, zero, suc, ℤ, List, [], ◌∷◌, ◌++◌, length, map, Some, refl, ap, ap₂, sym, subst, arith}
use Rattle.std.specs.Prelude.{slice_get}
use Rattle.std.proofs.lemmas.List.{length-map}
use Rattle.std.proofs.lemmas.Option.{slice_get-map}
use Rattle.base_numbers.specs.Rational.{ℚ, zero_ℚ, ◌+ℚ◌, ◌*ℚ◌, ◌≤ℚ◌}
use Rattle.base_numbers.specs.Vector.{dot}
use Rattle.base_numbers.proofs.rational.Laws.{zero-*ℚ, +ℚ_idl}
use Rattle.flow_edges.specs.declared.edge.Action.{Action}
use Rattle.flow_edges.specs.declared.edge.Edge.{Edge}
use Rattle.flow_systems.specs.States.{RationalState, dotℚ}
use Rattle.flow_systems.specs.Equations.{Equations}
use Rattle.theory_validity.specs.Words.{Word, Affine as Form, val, free_count, width, guard_forms, end_form, end_of, AllAtMost, Passes}
use Rattle.theory_validity.proofs.words.WordForms.{val-combined}
use Rattle.theory_validity.proofs.words.Following.{follows_iff}
use Rattle.theory_validity.proofs.words.Followed.{length-word}
use Rattle.solve_composition.specs.declared.affine.Affine.{Affine}
use Rattle.solve_composition.specs.Composed.{first_entries, dense, EdgeForms, edge_forms, AreComposed}
use Rattle.solve_composition.specs.ComposedLaws.{form_of, MeanTraces}
use Rattle.solve_composition.proofs.composed.Dense.{length-first_entries}

-- ---- the forms of an edge
module _ (system : Equations) (paths : List EdgeForms) (h : AreComposed system paths) where
  -- there is one composition for each edge of the system
  pub paths_count : length paths ≡ length system.edges
  paths_count = ap (λ (ps : List EdgeForms). length ps) h.same ∙ length-map system.edges
      (λ (edge : Edge). edge_forms system.variables system.template edge.actions)

  -- the composition at an edge's place is that of the edge's actions
  pub forms_are : (k : ℕ) (edge : Edge) (forms : EdgeForms) → slice_get system.edges k ≡ Some edge → slice_get paths k ≡ Some forms
      → forms ≡ edge_forms system.variables system.template edge.actions
  forms_are k edge forms e p =
      let all = sym p ∙ ap (λ ps. slice_get ps k) h.same ∙ slice_get-map
      (λ (x : Edge). edge_forms system.variables system.template x.actions) system.edges k in
      cc

-- what is so of each image is so of each element of the images
mapped : {X Y : Type 0} (v : X → Y) (P : Y → Type 0) → ((x : X) → P (v x)) → (xs : List X) (k : ℕ) (y : Y) → slice_get (map v xs) k ≡ Some y
    → P y
mapped v P all [] k y e = absurd cc
mapped v P all (x ∷ xs) zero y e = subst P (let same : v x ≡ y = cc in same) (all x)
mapped v P all (x ∷ xs) (suc k) y e = mapped v P all xs k y e

-- the composed forms of actions have one coefficient for each start variable and each free value
pub have_columns : (n : ℕ) (template : List (List ℤ)) (actions : List Action) (forms : EdgeForms) → forms ≡ edge_forms n template actions →
    (forms.frees ≡ free_count actions) × ((g : ℕ) (form : Affine) → slice_get forms.guards g ≡ Some form
    → length form.coeffs ≡ width n actions)
    × ((r : ℕ) (form : Affine) → slice_get forms.rows r ≡ Some form → length form.coeffs ≡ width n actions)
    × (length forms.rows ≡ length template)
have_columns n template actions forms e = (
  ap (λ (f : EdgeForms). f.frees) e,
  (λ g form s.
      mapped (dense (width n actions)) (λ f. length f.coeffs ≡ width n actions) (λ f. length-first_entries (width n actions) f.coeffs)
      (guard_forms n actions) g form (ap (λ (f : EdgeForms). slice_get f.guards g) (sym e) ∙ s)),
  (λ r form s.
      mapped (λ row. dense (width n actions) (end_form n actions row)) (λ f. length f.coeffs ≡ width n actions)
      (λ row. length-first_entries (width n actions) (end_form n actions row).coeffs) template r form
      (ap (λ (f : EdgeForms). slice_get f.rows r) (sym e) ∙ s)),
  ap (λ (f : EdgeForms). length f.rows) e ∙ length-map template (λ row. dense (width n actions) (end_form n actions row)),
)

-- ---- values at words of the right width
nothing : (w : ℕ) (word : Word) → dot (first_entries w []) word ≡ zero_ℚ
unfolding dot
nothing zero word = refl
nothing (suc w) [] = refl
nothing (suc w) (y ∷ word) = ap₂ (λ a b. a +ℚ b) (zero-*ℚ y) (nothing w word) ∙ +ℚ_idl zero_ℚ

dot-first : (w : ℕ) (xs : List ℚ) (word : Word) → length word ≡ w → dot (first_entries w xs) word ≡ dot xs word
unfolding dot
dot-first zero [] word e = refl
dot-first zero (x ∷ xs) [] e = refl
dot-first zero (x ∷ xs) (y ∷ word) e = absurd (omega (arith, e))
dot-first (suc w) [] word e = nothing (suc w) word
dot-first (suc w) (x ∷ xs) [] e = absurd (omega (arith, e))
dot-first (suc w) (x ∷ xs) (y ∷ word) e = ap (λ s. (x *ℚ y) +ℚ s) (dot-first w xs word (omega (arith, e)))

-- a form with all its columns has the form's value at a word of that width
pub val-dense : (w : ℕ) (f : Form) (word : Word) → length word ≡ w → val (form_of (dense w f)) word ≡ val f word
unfolding val
val-dense w f word e = ap (λ s. s +ℚ f.constant) (dot-first w f.coeffs word e)

dense_at_most : (w : ℕ) (fs : List Form) (word : Word) → length word ≡ w → AllAtMost (map form_of (map (dense w) fs)) word
    ↔ AllAtMost fs word
dense_at_most w [] word e = (λ h. h, λ h. h)
dense_at_most w (f ∷ fs) word e =
    let rest = dense_at_most w fs word e in (
      (λ h. (subst (λ s. s ≤ℚ zero_ℚ) (val-dense w f word e) h.0, rest.0 h.1)),
      (λ h. (subst (λ s. s ≤ℚ zero_ℚ) (sym (val-dense w f word e)) h.0, rest.1 h.1)),
    )

end-value : (n : ℕ) (actions : List Action) (row : List ℤ) (word : Word)
    → val (end_form n actions row) word ≡ dotℚ row (end_of n actions word)
unfolding end_form end_of
end-value n actions row word = val-combined row (Rattle.theory_validity.specs.Words.ends_from n
    (Rattle.theory_validity.specs.Words.columns n) actions) word

-- the composed forms of actions say which traces go that way and what they end with
pub mean_traces : (n : ℕ) (template : List (List ℤ)) (actions : List Action) (x : RationalState) (free : List ℚ) → length x ≡ n
    → length free ≡ free_count actions → MeanTraces template actions (edge_forms n template actions) x free
mean_traces n template actions x free e f =
    let long = length-word n actions x free e f in
    let w = width n actions in
    let guards = dense_at_most w (guard_forms n actions) (x ++ free) long in
    record {
      passes = (
        (λ h. (
          end_of n actions (x ++ free),
          (follows_iff n actions x free (end_of n actions (x ++ free)) e).1
              (f, record { all = guards.0 h }, refl),
        )),
        (λ h. guards.1 ((follows_iff n actions x free h.0 e).0 h.1).1.all),
      );
      ends = λ y h r row form t s.
          let same = sym s ∙ slice_get-map (λ u. dense w (end_form n actions u)) template r in
          let is : form ≡ dense w (end_form n actions row) = cc in
          ap (λ g. val (form_of g) (x ++ free)) is ∙ val-dense w (end_form n actions row) (x ++ free) long
          ∙ end-value n actions row (x ++ free) ∙ ap (dotℚ row) (sym ((follows_iff n actions x free y e).0 h).2);
    }
