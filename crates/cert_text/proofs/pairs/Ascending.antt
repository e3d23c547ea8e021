-- Places that ascend, value by value.
use Rattle.std.proofs.Common.{◌≡◌, ◌+◌, ◌<◌, ◌≤◌, ◌&&◌, ℕ, zero, suc, Bool, true, false, List, [], ◌∷◌, length, drop, get_or, Option}
use Rattle.std.proofs.Common.{Some, None, nat_le, not, option_map, option_and_then, refl, sym, ap, ap₂, ◌∙◌, arith}
use Rattle.std.specs.List.{list_all}
use Rattle.serde_json.specs.Data.{Data}
use Rattle.serde_json.specs.View.{items_view, view}
use Rattle.serde_json.specs.declared.value.Value.{Value}
use Rattle.base_fractions.proofs.texts.Slashes.{some_same}
use Rattle.cert_written.specs.declared.pairs.Pair.{Pair}
use Rattle.cert_written.specs.Pairs.{ascends, is_nil}
use Rattle.cert_text.specs.Lists.{items_data, items_in}
use Rattle.cert_text.specs.Numbers.{frac_in}
use Rattle.cert_text.specs.Pairs.{ascend, behind, is_from, pair_data, pair_in, place_in}
use Rattle.serde_json.specs.Find.{at}

-- ---- reading

-- what is left to test from the value i on
abbrev pub left : ℕ → List Value → ℕ → Bool
left least vs i = ascend least (items_view (drop i vs))

next : (vs : List Value) (i : ℕ) (v : Value) (least : ℕ) → i < length vs → v ≡ get_or vs i v
    → left least vs i ≡ (is_from least (place_in (view v)) && left (behind (place_in (view v))) vs (suc i))
next [] i v least lt is = absurd (omega arith)
next (x ∷ vs) zero v least lt is =
    ap (λ (y : Value). is_from least (place_in (view y)) && ascend (behind (place_in (view y))) (items_view vs)) (sym is)
next (x ∷ vs) (suc i) v least lt is = next vs i v least (omega arith) is

low : (a b : ℕ) → a < b → nat_le b a ≡ false
low a b h = grind (arith, h)

high : (a b : ℕ) → b ≤ a → nat_le b a ≡ true
high a b h = grind (arith, h)

-- a place that is too low
pub too_low : (vs : List Value) (i : ℕ) (v : Value) (least place : ℕ) (all : Bool) → i < length vs → v ≡ get_or vs i v
    → Some place ≡ place_in (view v) → place < least → all ≡ left least vs i → false ≡ all
too_low vs i v least place all lt is found h e =
    sym (e ∙ next vs i v least lt is ∙ ap (λ o. is_from least o && left (behind o) vs (suc i)) (sym found)
    ∙ ap (λ b. b && left (suc place) vs (suc i)) (low place least h))

-- no place
pub no_place : (vs : List Value) (i : ℕ) (v : Value) (least : ℕ) (all : Bool) → i < length vs → v ≡ get_or vs i v
    → None ≡ place_in (view v) → all ≡ left least vs i → false ≡ all
no_place vs i v least all lt is found e =
    sym (e ∙ next vs i v least lt is ∙ ap (λ o. is_from least o && left (behind o) vs (suc i)) (sym found))

-- a place from the least one on
pub on : (vs : List Value) (i : ℕ) (v : Value) (least place : ℕ) (all : Bool) → i < length vs → v ≡ get_or vs i v
    → Some place ≡ place_in (view v) → least ≤ place → all ≡ left least vs i → all ≡ left (place + 1) vs (i + 1)
on vs i v least place all lt is found h e =
    e ∙ next vs i v least lt is ∙ ap (λ o. is_from least o && left (behind o) vs (suc i)) (sym found)
    ∙ ap (λ b. b && left (suc place) vs (suc i)) (high place least h)
    ∙ ap₂ (λ k n. left k vs n) (let f : suc place ≡ place + 1 = omega arith in f) (let f : suc i ≡ i + 1 = omega arith in f)

none_left : (vs : List Value) (i least : ℕ) → length vs ≤ i → left least vs i ≡ true
none_left [] zero least le = refl
none_left [] (suc i) least le = refl
none_left (x ∷ vs) zero least le = absurd (omega arith)
none_left (x ∷ vs) (suc i) least le = none_left vs i least (omega arith)

-- past the end
pub ended : (vs : List Value) (i least : ℕ) (all : Bool) → length vs ≤ i → all ≡ left least vs i → true ≡ all
ended vs i least all le e = sym (e ∙ none_left vs i least le)

-- ---- writing

both : (a b : Bool) → (a && b) ≡ true → (a ≡ true) × (b ≡ true)
both true b e = (refl, e)
both false b e = absurd cc

-- no value of pairs without zeros is 0
pub none_nil : (least : ℕ) (ps : List Pair) → ascends least ps ≡ true → list_all (λ (p : Pair). not (is_nil p.value)) ps ≡ true
none_nil least [] h = refl
none_nil least (p ∷ ps) h =
    let k = both (nat_le least p.place && not (is_nil p.value)) (ascends (suc p.place) ps) h in
    ap₂ (λ a b. a && b) (both (nat_le least p.place) (not (is_nil p.value)) k.0).1 (none_nil (suc p.place) ps k.1)

place_from : (o : Option ℕ) (d : Data) (p : Pair)
    → option_and_then (λ place. option_map (λ value. let r : Pair = record { place = place; value = value } in r)
    (option_and_then frac_in (at 1 d))) o ≡ Some p → o ≡ Some p.place
place_from None d p e = absurd cc
place_from (Some place) d p e = by (option_and_then frac_in (at 1 d)) e
  where
    by : (v : Option _) → option_map (λ value. let r : Pair = record { place = place; value = value } in r) v ≡ Some p
        → Some place ≡ Some p.place
    by None e = absurd cc
    by (Some value) e = ap (λ (q : Pair). Some q.place) (some_same e)

first_read : (o : Option Pair) (rest : Option (List Pair)) (p : Pair) (ps : List Pair)
    → option_and_then (λ x. option_map (λ xs. x ∷ xs) rest) o ≡ Some (p ∷ ps) → (o ≡ Some p) × (rest ≡ Some ps)
first_read None rest p ps e = absurd cc
first_read (Some x) None p ps e = absurd cc
first_read (Some x) (Some xs) p ps e =
    let k : x ∷ xs ≡ p ∷ ps = some_same e in (let a : Some x ≡ Some p = cc in a, let b : Some xs ≡ Some ps = cc in b)

-- the places of pairs that are read back from their values ascend as theirs do
pub places_ascend : (least : ℕ) (ps : List Pair) → ascends least ps ≡ true → items_in pair_in (items_data pair_data ps) ≡ Some ps
    → ascend least (items_data pair_data ps) ≡ true
places_ascend least [] h e = refl
places_ascend least (p ∷ ps) h e =
    let k = both (nat_le least p.place && not (is_nil p.value)) (ascends (suc p.place) ps) h in
    let f = first_read (pair_in (pair_data p)) (items_in pair_in (items_data pair_data ps)) p ps e in
    ap (λ o. is_from least o && ascend (behind o) (items_data pair_data ps)) (place_from (place_in (pair_data p)) (pair_data p) p f.0)
    ∙ ap₂ (λ a b. a && b) (both (nat_le least p.place) (not (is_nil p.value)) k.0).0 (places_ascend (suc p.place) ps k.1 f.1)
