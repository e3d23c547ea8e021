-- Traces along actions are words that pass.
use Rattle.std.proofs.Common.{◌≡◌, ◌∙◌, ℕ, zero, suc, List, [], ◌∷◌, ◌++◌, map, length, append_assoc, refl, sym, ap, subst, arith}
use Rattle.std.proofs.lemmas.List.{length-map, length-append}
use Rattle.base_numbers.specs.Rational.{ℚ, zero_ℚ, one_ℚ, ◌+ℚ◌, ◌*ℚ◌, ◌≤ℚ◌}
use Rattle.base_numbers.specs.Vector.{dot}
use Rattle.base_numbers.proofs.rational.Laws.{+ℚ_idl, +ℚ_idr, *ℚ_idl, zero-*ℚ}
use Rattle.lang_tree.specs.Meaning.{put}
use Rattle.lang_tree.proofs.Put.{map-put}
use Rattle.flow_edges.specs.declared.edge.Action.{Action}
use Rattle.flow_edges.specs.declared.edge.Action.TheVariants.{Guard, Assign, Havoc, Check}
use Rattle.flow_systems.specs.States.{RationalState, valueℚ, Traces}
use Rattle.theory_validity.specs.Words.{Word, Affine, val, shifted, column, columns, values, no_form}
use Rattle.theory_validity.specs.Words.{with_form, composed, guards_from, ends_from}
use Rattle.theory_validity.specs.Words.{free_count, guard_forms, start_of, end_of, AllAtMost, Passes}
use Rattle.theory_validity.proofs.words.WordForms.{val-composed}

-- ---- columns
val-shifted : (f : Affine) (x : ℚ) (w : Word) → val (shifted f) (x ∷ w) ≡ val f w
unfolding val shifted dot
val-shifted f x w = ap (λ s. (s +ℚ dot f.coeffs w) +ℚ f.constant) (zero-*ℚ x) ∙ ap (λ s. s +ℚ f.constant) (+ℚ_idl (dot f.coeffs w))

val-first : (x : ℚ) (w : Word) → val (column 0) (x ∷ w) ≡ x
unfolding val column dot
val-first x w = +ℚ_idr (one_ℚ *ℚ x +ℚ dot [] w) ∙ +ℚ_idr (one_ℚ *ℚ x) ∙ *ℚ_idl x

-- the value of the column after some values
pub val-column : (base : Word) (q : ℚ) (rest : Word) → val (column (length base)) (base ++ q ∷ rest) ≡ q
unfolding column
val-column [] q rest = val-first q rest
val-column (x ∷ base) q rest = val-shifted (column (length base)) x (base ++ q ∷ rest) ∙ val-column base q rest

values-shifted : (fs : List Affine) (x : ℚ) (w : Word) → values (map shifted fs) (x ∷ w) ≡ values fs w
unfolding values
values-shifted [] x w = refl
values-shifted (f ∷ fs) x w = ap (λ s. s ∷ values (map shifted fs) (x ∷ w)) (val-shifted f x w)
    ∙ ap (λ s. val f w ∷ s) (values-shifted fs x w)

-- the start state of a word is its start values
pub values-columns : (base rest : Word) → values (columns (length base)) (base ++ rest) ≡ base
unfolding values columns
values-columns [] rest = refl
values-columns (x ∷ base) rest =
    ap (λ s. s ∷ values (map shifted (columns (length base))) (x ∷ (base ++ rest))) (val-first x (base ++ rest))
    ∙ ap (λ s. x ∷ s) (values-shifted (columns (length base)) x (base ++ rest) ∙ values-columns base rest)

length-columns : (n : ℕ) → length (columns n) ≡ n
unfolding columns
length-columns zero = refl
length-columns (suc n) = ap suc (length-map (columns n) shifted ∙ length-columns n)

-- a word's start state has a value for each variable
pub start_length : (n : ℕ) (w : Word) → length (start_of n w) ≡ n
unfolding start_of values
start_length n w = length-map (columns n) (λ f. val f w) ∙ length-columns n

-- the start state of start values and free values is the start values
pub start_is : (n : ℕ) (x free : Word) → length x ≡ n → start_of n (x ++ free) ≡ x
unfolding start_of
start_is n x free e = subst (λ k. values (columns k) (x ++ free) ≡ x) e (values-columns x free)

-- ---- a word that passes is a trace
val-no_form : (w : Word) → val no_form w ≡ zero_ℚ
unfolding val dot
val-no_form w = +ℚ_idr zero_ℚ

-- the values of a state of forms with another form at a variable
pub values-set : (fs : List Affine) (var : ℕ) (f : Affine) (w : Word) →
    values (with_form fs var f) w ≡ put zero_ℚ (values fs w) var (val f w)
unfolding values
values-set fs var f w = map-put (λ g. val g w) no_form fs var f ∙ ap (λ q. put q (values fs w) var (val f w)) (val-no_form w)

trace_from : (actions : List Action) (k : ℕ) (fs : List Affine) (w : Word) → AllAtMost (guards_from k fs actions) w →
    Traces actions (values fs w) (values (ends_from k fs actions) w)
unfolding guards_from ends_from
trace_from [] k fs w h = refl
trace_from (Guard form ∷ actions) k fs w h = (subst (λ s. s ≤ℚ zero_ℚ) (val-composed form fs w) h.0, trace_from actions k fs w h.1)
trace_from (Assign var form ∷ actions) k fs w h =
    subst (λ x. Traces actions x (values (ends_from k (with_form fs var (composed form fs)) actions) w))
    (values-set fs var (composed form fs) w ∙ ap (put zero_ℚ (values fs w) var) (val-composed form fs w))
    (trace_from actions k (with_form fs var (composed form fs)) w h)
trace_from (Havoc var ∷ actions) k fs w h = (
  val (column k) w,
  subst (λ x. Traces actions x (values (ends_from (suc k) (with_form fs var (column k)) actions) w))
      (values-set fs var (column k) w)
      (trace_from actions (suc k) (with_form fs var (column k)) w h),
)
trace_from (Check about ∷ actions) k fs w h = trace_from actions k fs w h

-- a word that passes gives a trace from its start state to its end state
pub trace_of_word : (n : ℕ) (actions : List Action) (w : Word) → Passes n actions w → Traces actions (start_of n w) (end_of n actions w)
unfolding start_of end_of guard_forms
trace_of_word n actions w h = trace_from actions n (columns n) w h.all

-- ---- a trace is a word that passes
-- the free values of a trace that goes on from a state of forms with these values, whatever comes after
abbrev Frees : List Action → ℕ → List Affine → Word → RationalState → Type 0
Frees actions k fs base y =
    (free : Word) × (length free ≡ free_count actions) × AllAtMost (guards_from k fs actions) (base ++ free)
    × (y ≡ values (ends_from k fs actions) (base ++ free))

frees_from : (actions : List Action) (fs : List Affine) (base : Word) (x y : RationalState) → ((rest : Word) → values fs (base ++ rest) ≡ x)
    →
    Traces actions x y → Frees actions (length base) fs base y
unfolding guards_from ends_from free_count
frees_from [] fs base x y at h = ([], refl, tt, h ∙ sym (at []))
frees_from (Guard form ∷ actions) fs base x y at h =
    let r = frees_from actions fs base x y at h.1 in
    (r.0, r.1, (subst (λ s. s ≤ℚ zero_ℚ) (sym (val-composed form fs (base ++ r.0) ∙ ap (valueℚ form) (at r.0))) h.0, r.2), r.3)
frees_from (Assign var form ∷ actions) fs base x y at h =
    frees_from actions (with_form fs var (composed form fs)) base (put zero_ℚ x var (valueℚ form x)) y (λ rest.
    values-set fs var (composed form fs) (base ++ rest)
    ∙ ap (put zero_ℚ (values fs (base ++ rest)) var) (val-composed form fs (base ++ rest))
    ∙ ap (λ s. put zero_ℚ s var (valueℚ form s)) (at rest)) h
frees_from (Havoc var ∷ actions) fs base x y at h =
    let q = h.0 in
    let k = length base in
    let next = with_form fs var (column k) in
    let e : length (base ++ q ∷ []) ≡ suc k = omega (arith, length-append base (q ∷ [])) in
    let r = frees_from actions next (base ++ q ∷ []) (put zero_ℚ x var q) y (λ rest.
    ap (values next) (append_assoc base (q ∷ []) rest)
    ∙ values-set fs var (column k) (base ++ q ∷ rest)
    ∙ ap (put zero_ℚ (values fs (base ++ q ∷ rest)) var) (val-column base q rest)
    ∙ ap (λ s. put zero_ℚ s var q) (at (q ∷ rest))) h.1 in
    let same = append_assoc base (q ∷ []) r.0 in (
      q ∷ r.0,
      ap suc r.1,
      subst (λ j. AllAtMost (guards_from j next actions) (base ++ q ∷ r.0)) e
          (subst (λ w. AllAtMost (guards_from (length (base ++ q ∷ [])) next actions) w) same r.2),
      subst (λ j. y ≡ values (ends_from j next actions) (base ++ q ∷ r.0)) e
          (subst (λ w. y ≡ values (ends_from (length (base ++ q ∷ [])) next actions) w) same r.3),
    )
frees_from (Check about ∷ actions) fs base x y at h = frees_from actions fs base x y at h

-- a trace from a state with n variables is a word that passes, with the same start, end and number of free values
pub word_of_trace : (n : ℕ) (actions : List Action) (x y : RationalState) → length x ≡ n → Traces actions x y →
    (free : Word) × (length free ≡ free_count actions) × Passes n actions (x ++ free) × (start_of n (x ++ free) ≡ x)
    × (end_of n actions (x ++ free) ≡ y)
unfolding end_of guard_forms
word_of_trace n actions x y e h =
    let r = frees_from actions (columns n) x x y (λ rest. subst (λ k. values (columns k) (x ++ rest) ≡ x) e (values-columns x rest)) h in (
      r.0,
      r.1,
      record { all = subst (λ k. AllAtMost (guards_from k (columns n) actions) (x ++ r.0)) e r.2 },
      start_is n x r.0 e,
      sym (subst (λ k. y ≡ values (ends_from k (columns n) actions) (x ++ r.0)) e r.3),
    )
