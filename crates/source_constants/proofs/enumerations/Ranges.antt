-- Enumerators one by one, as ranges of the parts.
use Rattle.std.proofs.Common.{◌≡◌, ◌∙◌, ◌+◌, ◌-◌, ◌<◌, ◌≤◌, ℕ, ℤ, suc, true, false, List, [], ◌∷◌, ◌++◌, Option, Some, None, length, take}
use Rattle.std.proofs.Common.{drop}
use Rattle.std.proofs.Common.{get_or, sym, ap, arith}
use Rattle.std.specs.Prelude.{slice_range}
use Rattle.std.proofs.Math.Seq.{take-suc}
use Rattle.std.proofs.lemmas.List.{drop_more, get_or-drop, length-drop}
use Rattle.source_tokens.specs.declared.definition.Definition.{Definition}
use Rattle.source_constants.specs.declared.part.Part.{Part}
use Rattle.source_constants.specs.Enumerations.{is_comma, parted, defined_as, next_behind, counted}
use Rattle.source_constants.proofs.enumerations.Steps.{with_front, after, one_more, comma_goes, comma_fails}

empty_range : (ps : List Part) (k : ℕ) → slice_range ps k k ≡ []
empty_range ps k = let e : k - k ≡ 0 = omega arith in ap (λ n. take n (drop k ps)) e

module _ (ps : List Part) (index first : ℕ) (p : Part) (less : index < length ps) (at : p ≡ get_or ps index p) where
  ahead : drop index ps ≡ p ∷ drop (index + 1) ps
  ahead = drop_more ps index p less ∙ ap (λ (x : Part). x ∷ drop (index + 1) ps) (sym at)

  longer : first ≤ index → slice_range ps first (index + 1) ≡ slice_range ps first index ++ p ∷ []
  longer order =
      let width : index + 1 - first ≡ suc (index - first) = omega arith in
      let there : first + (index - first) ≡ index = omega arith in
      let short : index - first < length (drop first ps) = omega (arith, length-drop first ps) in
      ap (λ n. take n (drop first ps)) width
      ∙ take-suc (drop first ps) (index - first) p short
      ∙ ap (λ (x : Part). slice_range ps first index ++ x ∷ [])
      (get_or-drop first ps (index - first) p ∙ ap (λ n. get_or ps n p) there ∙ sym at)

  module _ (ds : List Definition) (next : Option ℤ) (whole : Option (List Definition))
      (rest : after ds (counted next (with_front (slice_range ps first index) (parted (drop index ps)))) ≡ whole) where
    here : after ds (counted next (with_front (slice_range ps first index) (parted (p ∷ drop (index + 1) ps)))) ≡ whole
    here = ap (λ (l : List Part). after ds (counted next (with_front (slice_range ps first index) (parted l)))) (sym ahead) ∙ rest

    -- a part that is no comma
    pub other_kept : first ≤ index → is_comma p ≡ false
        → after ds (counted next (with_front (slice_range ps first (index + 1)) (parted (drop (index + 1) ps)))) ≡ whole
    other_kept order e =
        ap (λ (l : List Part). after ds (counted next (with_front l (parted (drop (index + 1) ps))))) (longer order)
        ∙ ap (λ (l : List (List Part)). after ds (counted next l)) (sym (one_more (slice_range ps first index) p (drop (index + 1) ps) e))
        ∙ here

    -- a comma behind an enumerator
    pub comma_kept : (d : Definition) → is_comma p ≡ true → Some d ≡ defined_as next (slice_range ps first index)
        → after (ds ++ d ∷ [])
        (counted (next_behind d.value) (with_front (slice_range ps (index + 1) (index + 1)) (parted (drop (index + 1) ps))))
        ≡ whole
    comma_kept d e h =
        ap (λ (l : List Part). after (ds ++ d ∷ []) (counted (next_behind d.value) (with_front l (parted (drop (index + 1) ps)))))
        (empty_range ps (index + 1))
        ∙ sym (comma_goes ds next (slice_range ps first index) p (drop (index + 1) ps) d e h) ∙ here

    -- a comma behind none
    pub comma_ends : is_comma p ≡ true → None ≡ defined_as next (slice_range ps first index) → None ≡ whole
    comma_ends e h = sym (comma_fails ds next (slice_range ps first index) p (drop (index + 1) ps) e h) ∙ here

-- what is so of a state is so of the same one
pub moved : (ps : List Part) (index : ℕ) (whole : Option (List Definition)) (ds es : List Definition) (next other : Option ℤ)
    (first start : ℕ)
    → es ≡ ds → other ≡ next → start ≡ first
    → after ds (counted next (with_front (slice_range ps first index) (parted (drop index ps)))) ≡ whole
    → after es (counted other (with_front (slice_range ps start index) (parted (drop index ps)))) ≡ whole
moved ps index whole ds es next other first start d n f h =
    ap (λ (l : List Definition). after l (counted other (with_front (slice_range ps start index) (parted (drop index ps))))) d
    ∙ ap (λ (o : Option ℤ). after ds (counted o (with_front (slice_range ps start index) (parted (drop index ps))))) n
    ∙ ap (λ k. after ds (counted next (with_front (slice_range ps k index) (parted (drop index ps))))) f ∙ h
