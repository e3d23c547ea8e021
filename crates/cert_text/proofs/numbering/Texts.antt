-- The numbers of traces, by the texts that a set holds.
use Rattle.std.proofs.Common.{◌≡◌, ◌+◌, ◌++◌, ◌||◌, ℕ, suc, Bool, true, false, not, cond, List, [], ◌∷◌, length, map, Some}
use Rattle.std.proofs.Common.{None, nat_lt, refl, sym, ap, ap₂, ◌∙◌, arith}
use Rattle.std.specs.Prelude.{slice_get}
use Rattle.std.specs.List.{list_any, position, position_or_len}
use Rattle.std.specs.Str.{bytes_eq}
use Rattle.std.specs.declared.alloc.Global.{Global}
use Rattle.std.specs.declared.vec.Vec.{Vec}
use Rattle.std.proofs.lemmas.List.{map-append}
use Rattle.std.proofs.lemmas.Slice.Eq.{bytes_eq-Decides}
use Rattle.indexmap.specs.IndexSet.{insert_key}
use Rattle.cert_written.specs.declared.trace.Trace.{Trace}
use Rattle.cert_written.specs.Bare.{bare_trace}
use Rattle.base_fractions.proofs.texts.Slashes.{some_same}
use Rattle.cert_text.specs.Naming.{AreSpelt, is_listed, number_in, same_text, spelt_trace, texts_of, trace_text, with_trace}

module _ {X Y : Type 0} (f : X → Y) (p : Y → Bool) where
  any-mapped : (xs : List X) → list_any p (map f xs) ≡ list_any (λ x. p (f x)) xs
  any-mapped [] = refl
  any-mapped (x ∷ xs) = ap (λ b. p (f x) || b) (any-mapped xs)

  place-mapped : (xs : List X) → position_or_len p (map f xs) ≡ position_or_len (λ x. p (f x)) xs
  place-mapped [] = refl
  place-mapped (x ∷ xs) = ap (λ n. cond (not (p (f x))) (1 + n) 0) (place-mapped xs)

position_place : {X : Type 0} (p : X → Bool) (xs : List X) (n : ℕ) → Some n ≡ position p xs → n ≡ position_or_len p xs
position_place p xs n e = by (nat_lt (position_or_len p xs) (length xs)) e
  where
    by : (b : Bool) → Some n ≡ cond b (Some (position_or_len p xs)) None → n ≡ position_or_len p xs
    by true h = some_same h
    by false h = absurd cc

-- the keys of a set and the traces whose texts they are
module _ (text : List ℕ) (t : Trace) (keys : List (Vec ℕ Global)) (ts : List Trace) (is : text ≡ trace_text t)
    (same : texts_of keys ≡ map trace_text ts) where
  -- a text is among the keys where its trace is listed
  pub any_listed : list_any (λ (k : Vec ℕ Global). bytes_eq text k.items) keys ≡ is_listed ts t
  any_listed =
      sym (any-mapped (λ (k : Vec ℕ Global). k.items) (bytes_eq text) keys) ∙ ap₂ (λ x ys. list_any (bytes_eq x) ys) is same
      ∙ any-mapped trace_text (bytes_eq (trace_text t)) ts

  -- and at the same place
  pub place_number : (n : ℕ) → Some n ≡ position (λ (k : Vec ℕ Global). bytes_eq text k.items) keys → n ≡ number_in ts t
  place_number n e =
      position_place (λ (k : Vec ℕ Global). bytes_eq text k.items) keys n e
      ∙ sym (place-mapped (λ (k : Vec ℕ Global). k.items) (bytes_eq text) keys)
      ∙ ap₂ (λ x ys. position_or_len (bytes_eq x) ys) is same ∙ place-mapped trace_text (bytes_eq (trace_text t)) ts

-- ---- a trace is found at its number

spelt_same : (t u : Trace) → spelt_trace (trace_text t) ≡ Some (bare_trace t) → spelt_trace (trace_text u) ≡ Some (bare_trace u)
    → same_text t u ≡ true → bare_trace u ≡ bare_trace t
spelt_same t u e f s = some_same (sym f ∙ ap spelt_trace (sym ((bytes_eq-Decides (trace_text t) (trace_text u)).0 s)) ∙ e)

-- a listed trace is found at its number, without zeros
pub found_back : (ts : List Trace) (t : Trace) → spelt_trace (trace_text t) ≡ Some (bare_trace t) → AreSpelt ts → is_listed ts t ≡ true
    → slice_get (map bare_trace ts) (number_in ts t) ≡ Some (bare_trace t)
found_back [] t e k h = absurd cc
found_back (u ∷ ts) t e k h = by (same_text t u) refl h (λ g. found_back ts t e k.1 g)
  where
    by : (b : Bool) → same_text t u ≡ b → (b || is_listed ts t) ≡ true → (is_listed ts t ≡ true
        → slice_get (map bare_trace ts) (number_in ts t) ≡ Some (bare_trace t))
        → slice_get (map bare_trace (u ∷ ts)) (cond (not b) (1 + number_in ts t) 0) ≡ Some (bare_trace t)
    by true s g more = ap Some (spelt_same t u e k.0 s)
    by false s g more = let one : 1 + number_in ts t ≡ suc (number_in ts t) = omega arith in ap (slice_get (map bare_trace (u ∷ ts)))
        one ∙ more g

-- ---- one trace more

-- the texts of traces still spell them with one more whose text spells it
pub spelt_more : (ts : List Trace) (t : Trace) → AreSpelt ts → spelt_trace (trace_text t) ≡ Some (bare_trace t) → AreSpelt (ts ++ t ∷ [])
spelt_more [] t k e = (e, tt)
spelt_more (u ∷ ts) t k e = (k.0, spelt_more ts t k.1 e)

-- a trace that is listed is added to nothing
pub with_listed : (ts : List Trace) (t : Trace) → is_listed ts t ≡ true → ts ≡ with_trace ts t
with_listed ts t h = ap (λ b. cond b ts (ts ++ t ∷ [])) (sym h)

-- a trace that isn't listed is added at the end
pub with_new : (ts : List Trace) (t : Trace) → is_listed ts t ≡ false → ts ++ t ∷ [] ≡ with_trace ts t
with_new ts t h = ap (λ b. cond b ts (ts ++ t ∷ [])) (sym h)

-- with the key of a new trace put in, the keys are the texts of the traces with it
pub texts_more : (keys now : List (Vec ℕ Global)) (key : Vec ℕ Global) (ts : List Trace) (t : Trace) → key.items ≡ trace_text t
    → texts_of keys ≡ map trace_text ts → is_listed ts t ≡ false
    → now ≡ insert_key (λ x y. bytes_eq x.items y.items) keys key → texts_of now ≡ map trace_text (ts ++ t ∷ [])
texts_more keys now key ts t k same n h =
    let new : list_any (λ (y : Vec ℕ Global). bytes_eq key.items y.items) keys ≡ false = any_listed key.items t keys ts k same ∙ n in
    ap texts_of (h ∙ ap (λ b. cond b keys (keys ++ key ∷ [])) new) ∙ map-append (λ (x : Vec ℕ Global). x.items) keys (key ∷ [])
    ∙ ap₂ (λ xs x. xs ++ x ∷ []) same k
    ∙ sym (map-append trace_text ts (t ∷ []))
