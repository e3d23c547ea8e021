-- The values of traces, counted element by element.
use Rattle.std.proofs.Common.{◌≡◌, ◌+◌, ◌<◌, ◌++◌, ℕ, List, [], ◌∷◌, length, drop, get_or, Option, Some, None, option_map}
use Rattle.std.proofs.Common.{refl, sym, ap, ◌∙◌, arith}
use Rattle.std.specs.List.{flat_map}
use Rattle.serde_json.specs.Data.{Data, Items, item}
use Rattle.serde_json.specs.View.{items_view, view}
use Rattle.serde_json.specs.declared.value.Value.{Value}
use Rattle.cert_written.specs.declared.trace.Trace.{Trace}
use Rattle.base_fractions.proofs.texts.Slashes.{some_same}
use Rattle.cert_text.specs.Lists.{items_in}
use Rattle.cert_text.specs.Naming.{capped, values_of}
use Rattle.cert_text.proofs.entry.ReadLists.{joined, left_to_read, next_item, next_read}

values_of-append : (ts us : List Trace) → values_of (ts ++ us) ≡ values_of ts + values_of us
values_of-append [] us = omega arith
values_of-append (t ∷ ts) us = omega (arith, values_of-append ts us)

capped_more : (total m a b : ℕ) → m ≡ capped a → capped (total + (a + b)) ≡ capped (capped (total + m) + b)
capped_more total m a b e = omega (arith, e)

module _ {A : Type 0} (read : Data → Option A) (traces_of : A → List Trace) where
  -- a number of values that were counted, and those that are left
  abbrev pub counted : ℕ → Option (List A) → Option ℕ
  counted total rest = option_map (λ (xs : List A). capped (total + values_of (flat_map traces_of xs))) rest

  -- the values of one of them
  abbrev pub count_one : Data → Option ℕ
  count_one d = option_map (λ (x : A). capped (values_of (traces_of x))) (read d)

  -- the values of all of them
  abbrev pub count_in : Items → Option ℕ
  count_in ds = option_map (λ (xs : List A). capped (values_of (flat_map traces_of xs))) (items_in read ds)

  -- before the first element all values are left
  pub counted_none : (o : Option (List A)) → option_map (λ (xs : List A). capped (values_of (flat_map traces_of xs))) o ≡ counted 0 o
  counted_none None = refl
  counted_none (Some xs) = let z : values_of (flat_map traces_of xs) ≡ 0 + values_of (flat_map traces_of xs) = omega arith in
      ap (λ n. Some (capped n)) z

  counted_push : (total m : ℕ) (x : A) (rest : Option (List A)) → m ≡ capped (values_of (traces_of x))
      → counted total (option_map (λ (xs : List A). x ∷ xs) rest) ≡ counted (capped (total + m)) rest
  counted_push total m x None e = refl
  counted_push total m x (Some xs) e =
      ap Some (ap (λ n. capped (total + n)) (values_of-append (traces_of x) (flat_map traces_of xs))
      ∙ capped_more total m (values_of (traces_of x)) (values_of (flat_map traces_of xs)) e)

  module _ (ds rest : Items) (d : Data) (is : ds ≡ item d rest) (total : ℕ) (all : Option ℕ)
      (e : all ≡ counted total (items_in read ds)) where
    first : (o : Option A) → read d ≡ o → all ≡ counted total (joined read o (items_in read rest))
    first o r = e ∙ ap (counted total) (next_read read ds rest d is ∙ ap (λ s. joined read s (items_in read rest)) r)

    -- where the first one is read, the values of its traces are counted, and the rest is left
    pub one_counted : (m now : ℕ) → Some m ≡ count_one d → now ≡ capped (total + m) → all ≡ counted now (items_in read rest)
    one_counted m now found more = by (read d) refl found
      where
        by : (o : Option A) → read d ≡ o → Some m ≡ option_map (λ (x : A). capped (values_of (traces_of x))) o
            → all ≡ counted now (items_in read rest)
        by None r h = absurd cc
        by (Some x) r h =
            first (Some x) r ∙ counted_push total m x (items_in read rest) (some_same h)
            ∙ ap (λ k. counted k (items_in read rest)) (sym more)

    -- where it isn't read, nothing is counted
    pub one_uncounted : None ≡ count_one d → all ≡ None
    one_uncounted none = by (read d) refl none
      where
        by : (o : Option A) → read d ≡ o → None ≡ option_map (λ (x : A). capped (values_of (traces_of x))) o → all ≡ None
        by None r h = first None r
        by (Some x) r h = absurd cc

  -- the same of the values of a tree: where value i is read
  pub counted_more : (vs : List Value) (i : ℕ) (v : Value) (m total now : ℕ) (all : Option ℕ) → i < length vs → v ≡ get_or vs i v
      → Some m ≡ count_one (view v) → now ≡ capped (total + m)
      → all ≡ counted total (left_to_read read vs i)
      → all ≡ counted now (left_to_read read vs (i + 1))
  counted_more vs i v m total now all lt is found more e =
      one_counted (items_view (drop i vs)) (items_view (drop (i + 1) vs)) (view v) (next_item vs i v lt is) total all e m now found more
