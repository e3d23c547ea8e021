-- The names of a function that a file means are names of the language, and each stands once.
use Rattle.std.proofs.Common.{◌≡◌, ◌≤◌, ◌<◌, ℕ, zero, suc, Bool, true, false, cond, List, [], ◌∷◌, length, Option, Some, None, refl, sym}
use Rattle.std.proofs.Common.{ap, ◌∙◌, nat_lt, arith}
use Rattle.std.specs.Prelude.{get_or}
use Rattle.std.specs.List.{slice_get, position_or_len}
use Rattle.std.specs.Str.{bytes_eq}
use Rattle.std.proofs.lemmas.Bool.{ltb-false}
use Rattle.std.proofs.lemmas.List.Sums.{fails_before_first}
use Rattle.std.proofs.lemmas.List.Quantifiers.{position-Some}
use Rattle.std.proofs.lemmas.Option.{slice_get_within, get_or_from_slice_get, slice_get-get_or}
use Rattle.std.proofs.lemmas.Slice.Eq.{bytes_eq-Decides}
use Rattle.lang_tokens.specs.declared.lexicon.Lexicon.TheVariants.{C}
use Rattle.lang_tokens.proofs.reading.Placed.{placed_tokens}
use Rattle.lang_meaning.specs.Names.{place_of}
use Rattle.source_tokens.proofs.placed.Fronts.{front_in}
use Rattle.source_meaning.specs.Laws.{AreApart, IsNoneOf}
use Rattle.source_file.specs.Laws.{ProgramNamesAreNames as VariablesAreNames}
use Rattle.acsl_notes.specs.Written.{AreNames, ProgramNamesAreNames}

-- a name without a place stands nowhere
nowhere : (names : List (List ℕ)) (x : List ℕ) (i : ℕ) → place_of x names ≡ None → slice_get names i ≡ Some x → ⊥
nowhere names x i e h = by (nat_lt (position_or_len (bytes_eq x) names) (length names)) refl e
  where
    by : (t : Bool) → nat_lt (position_or_len (bytes_eq x) names) (length names) ≡ t
        → cond t (Some (position_or_len (bytes_eq x) names)) None ≡ None → ⊥
    by true f g = cc
    by false f g =
        let far : length names ≤ position_or_len (bytes_eq x) names = ltb-false (position_or_len (bytes_eq x) names) (length names) f in
        let within : i < length names = slice_get_within names i x h in
        let fails : bytes_eq x (get_or names i []) ≡ false = fails_before_first (bytes_eq x) names i [] (omega (arith, far, within)) in
        let passes : bytes_eq x (get_or names i []) ≡ true = (bytes_eq-Decides x (get_or names i [])).1
        (sym (get_or_from_slice_get names i x [] h)) in cc

-- the number of a name that stands once is its place
pub own_place : (names : List (List ℕ)) (i : ℕ) (name : List ℕ) → AreNames names → slice_get names i ≡ Some name
    → place_of name names ≡ Some i
own_place names i name h e = by (place_of name names) refl
  where
    by : (o : Option ℕ) → place_of name names ≡ o → o ≡ Some i
    by None f = absurd (nowhere names name i f e)
    by (Some k) f =
        let found = position-Some (bytes_eq name) names k [] f in
        let same : name ≡ get_or names k [] = (bytes_eq-Decides name (get_or names k [])).0 found.1 in
        ap Some (h.once k i name (slice_get-get_or names k [] found.0 ∙ ap Some (sym same)) e)

-- ---- the names of a function
-- a name that is none of these stands nowhere among them
none_there : (x : List ℕ) (names : List (List ℕ)) → IsNoneOf x names → (i : ℕ) → slice_get names i ≡ Some x → ⊥
none_there x [] h i e = cc
none_there x (n ∷ names) h zero e = let same : x ≡ n = cc in h.0 same
none_there x (n ∷ names) h (suc i) e = none_there x names h.1 i e

-- names of which no two are one stand once
apart_once : (names : List (List ℕ)) → AreApart names → (i j : ℕ) (name : List ℕ) → slice_get names i ≡ Some name
    → slice_get names j ≡ Some name → i ≡ j
apart_once [] h i j name e f = cc
apart_once (n ∷ names) h zero zero name e f = refl
apart_once (n ∷ names) h zero (suc j) name e f =
    let same : name ≡ n = cc in absurd (none_there n names h.0 j (f ∙ ap Some same))
apart_once (n ∷ names) h (suc i) zero name e f =
    let same : name ≡ n = cc in absurd (none_there n names h.0 i (e ∙ ap Some same))
apart_once (n ∷ names) h (suc i) (suc j) name e f = ap suc (apart_once names h.1 i j name e f)

-- the variables of a function that is meant
pub program_names : VariablesAreNames → ProgramNamesAreNames
program_names law integers text tokens front asked names body reads e means =
    let (each, apart) = law integers text asked front names body (front_in text tokens front (placed_tokens C text tokens reads) e) means in
    record { each = each; once = apart_once names apart }
