-- One more amount.
use Rattle.std.proofs.Common.{◌≡◌, ◌∙◌, ◌≤◌, ◌<◌, ◌+◌, ◌+ℤ◌, ◌++◌, ◌&&◌, Bool, true, false, cond, eqb, List, [], ◌∷◌, length, take, drop}
use Rattle.std.proofs.Common.{map, get_or, ℕ, ℤ, pos, Option, MatchOption, IsTrue, IsFalse, refl, sym, ap, ap₂, arith, FitsSigned, w64}
use Rattle.std.proofs.Math.ListN.{set, length-set}
use Rattle.std.proofs.lemmas.Bool.{leb-true, eqb-true, eq-eqb, and_from}
use Rattle.std.proofs.lemmas.Int.{fits_signed_from_abs}
use Rattle.std.proofs.lemmas.List.{get_or-set_same, get_or-set_other, take_more, map-append}
use Rattle.std.proofs.lemmas.List.Sums.{fold-append}
use Rattle.std.proofs.Math.IntN.{+ℤ_idr}
use Rattle.lang_tree.specs.Numbers.{is_number}
use Rattle.flow_rationals.specs.declared.reading.written.Part.{Part}
use Rattle.flow_rationals.specs.Totals.{AreTotals}
use Rattle.flow_rationals.specs.WrittenSums.{Amount, share, total, fits_after, stay_within}
use Rattle.flow_rationals.proofs.equ_faults.First.{dropped}

-- a number of a program fits 64 bits
pub number_fits : (z : ℤ) → IsTrue (is_number z) → FitsSigned w64 z
number_fits z h = fits_signed_from_abs w64 z (omega (arith, leb-true _ _ h))

-- the total with one more amount is the total before, plus what the amount adds
pub total_more : (k : ℕ) (before : List Amount) (a : Amount) → total k (before ++ a ∷ []) ≡ total k before +ℤ share k a
total_more k before a = fold-append (λ sum x. sum +ℤ share k x) (pos 0) before (a ∷ [])

placed : (totals : List ℤ) (k place : ℕ) (before value new : ℤ) (b : Bool) → eqb place k ≡ b → place < length totals
    → get_or totals k (pos 0) ≡ before → new ≡ get_or totals place (pos 0) +ℤ value
    → get_or (set totals place new) k (pos 0) ≡ before +ℤ cond b value (pos 0)
placed totals k place before value new true e h at n =
    let same : place ≡ k = eqb-true place k e in
    ap (λ j. get_or (set totals place new) j (pos 0)) (sym same)
    ∙ (get_or-set_same totals place new (pos 0) h ∙ (n ∙ ap (λ t. t +ℤ value) (ap (λ j. get_or totals j (pos 0)) same ∙ at)))
placed totals k place before value new false e h at n =
    get_or-set_other totals place k new (pos 0) (λ same. other place k e (sym same)) ∙ (at ∙ sym (+ℤ_idr before))
  where
    other : (p k : ℕ) → eqb p k ≡ false → p ≡ k → ⊥
    other p k f s = let t : eqb p k ≡ true = eq-eqb p k s in cc

-- the amount is added in its place; read, value and new are as the code passes them
pub added_some : (totals : List ℤ) (before : List Amount) (a : Amount) (place : ℕ) (read value sum new : ℤ) → AreTotals totals before
    → place ≡ a.0 → place ≤ 11 → read ≡ get_or totals place (pos 0) → value ≡ a.1 → IsTrue (is_number a.1) → sum ≡ read +ℤ value
    → IsTrue (is_number (read +ℤ value)) → new ≡ sum → IsTrue (fits_after before a) × AreTotals (set totals place new) (before ++ a ∷ [])
added_some totals before a place read value sum new kept p w r v n s m e =
    let below : place < 12 = omega arith in
    let old : get_or totals place (pos 0) ≡ total a.0 before = kept.each place below ∙ ap (λ k. total k before) p in
    let parts : read +ℤ value ≡ total a.0 before +ℤ a.1 = ap₂ (λ x y. x +ℤ y) (r ∙ old) v in
    let fresh : new ≡ get_or totals place (pos 0) +ℤ a.1 = e ∙ (s ∙ ap₂ (λ x y. x +ℤ y) r v) in
    let inside : place < length totals = omega (arith, kept.places) in (
      and_from _ _ n (ap is_number (sym parts) ∙ m),
      record {
        places = length-set totals place new ∙ kept.places;
        each = λ k h. placed totals k place (total k before) a.1 new (eqb place k) refl inside (kept.each k h) fresh
            ∙ (ap (λ j. total k before +ℤ cond (eqb j k) a.1 (pos 0)) p ∙ sym (total_more k before a));
      },
    )

and_false : (b c : Bool) → b ≡ false → (b && c) ≡ false
and_false true c h = cc
and_false false c h = refl

and_true : (b c : Bool) → b ≡ true → (b && c) ≡ c
and_true true c h = refl
and_true false c h = cc

-- an amount that doesn't fit, among those that are still to be added
pub stays_out : (f : Part → Amount) (before : List Amount) (s : Bool) (ps : List Part) (i : ℕ) (p : Part) → i < length ps
    → p ≡ get_or ps i p → s ≡ stay_within before (map f (drop i ps)) → IsFalse (fits_after before (f p)) → IsFalse s
stays_out f before s ps i p h e k out =
    k ∙ (ap (λ x. stay_within before (map f x)) (dropped ps i p h e) ∙ and_false (fits_after before (f p)) _ out)

-- where an amount fits after those before it, all that are to come fit exactly where those after it do
pub stays_more : (f : Part → Amount) (before : List Amount) (s : Bool) (ps : List Part) (i : ℕ) (p : Part) → i < length ps
    → p ≡ get_or ps i p → s ≡ stay_within before (map f (drop i ps)) → IsTrue (fits_after before (f p))
    → s ≡ stay_within (before ++ f p ∷ []) (map f (drop (i + 1) ps))
stays_more f before s ps i p h e k fits =
    k ∙ (ap (λ x. stay_within before (map f x)) (dropped ps i p h e) ∙ and_true (fits_after before (f p)) _ fits)

-- the amounts of i + 1 parts after the first are those of i parts, and one more
pub amounts_more : (f : Part → Amount) (first : Part) (ps : List Part) (i : ℕ) (p : Part) → i < length ps → p ≡ get_or ps i p
    → map f (first ∷ take (i + 1) ps) ≡ map f (first ∷ take i ps) ++ f p ∷ []
amounts_more f first ps i p h e =
    ap (λ x. f first ∷ map f x) (take_more ps i p h)
    ∙ (ap (λ x. f first ∷ x) (map-append f (take i ps) (get_or ps i p ∷ [])) ∙ ap (λ x. f first ∷ (map f (take i ps) ++ f x ∷ [])) (sym e))

-- where the first amount fits, all fit where the others do
pub first_fits : {X : Type 0} (K : X → Type 0) (r : Option X) (b c : Bool) → b ≡ true → MatchOption r (IsFalse c) (λ n. IsTrue c × K n)
    → MatchOption r (IsFalse (b && c)) (λ n. IsTrue (b && c) × K n)
first_fits K r true c h m = m
first_fits K r false c h m = cc

-- where the first of two tests fails, both together fail
pub first_out : (b c : Bool) → IsFalse b → IsFalse (b && c)
first_out b c h = and_false b c h
