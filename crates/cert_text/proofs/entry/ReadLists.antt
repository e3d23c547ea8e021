-- Lists of values that are tested or read one after another: the values of a tree, and the elements of a text.
use Rattle.std.proofs.Common.{◌≡◌, ◌+◌, ◌<◌, ◌≤◌, ◌++◌, ℕ, zero, suc, Bool, List, [], ◌∷◌, length, drop, get_or, Option, Some, None}
use Rattle.std.proofs.Common.{option_map, option_and_then, refl, sym, ap, ◌∙◌, arith, append_assoc}
use Rattle.std.proofs.lemmas.List.{append-nil}
use Rattle.serde_json.specs.Data.{Data, Items, item, no_items}
use Rattle.serde_json.specs.View.{items_view, view}
use Rattle.serde_json.specs.declared.value.Value.{Value}
use Rattle.cert_text.specs.Lists.{all_items, items_in}

-- ---- the values from a place on

-- they are the value there and those behind it
pub next_item : (vs : List Value) (i : ℕ) (v : Value) → i < length vs → v ≡ get_or vs i v
    → items_view (drop i vs) ≡ item (view v) (items_view (drop (i + 1) vs))
next_item vs i v lt is =
    let one : suc i ≡ i + 1 = omega arith in by vs i lt is ∙ ap (λ k. item (view v) (items_view (drop k vs))) one
  where
    by : (vs : List Value) (i : ℕ) → i < length vs → v ≡ get_or vs i v
        → items_view (drop i vs) ≡ item (view v) (items_view (drop (suc i) vs))
    by [] i lt is = absurd (omega arith)
    by (x ∷ vs) zero lt is = ap (λ (y : Value). item (view y) (items_view vs)) (sym is)
    by (x ∷ vs) (suc i) lt is = by vs i (omega arith) is

-- past the end there are none
none_left : (vs : List Value) (i : ℕ) → length vs ≤ i → items_view (drop i vs) ≡ no_items
none_left [] zero le = refl
none_left [] (suc i) le = refl
none_left (x ∷ vs) zero le = absurd (omega arith)
none_left (x ∷ vs) (suc i) le = none_left vs i (omega arith)

-- what is left to test from the value i on
abbrev pub left_to_test : (Data → Bool) → List Value → ℕ → Bool
left_to_test test vs i = all_items test (items_view (drop i vs))

-- ---- what values are read as

module _ {A : Type 0} (read : Data → Option A) where
  -- what the values from i on are read as
  abbrev pub left_to_read : List Value → ℕ → Option (List A)
  left_to_read vs i = items_in read (items_view (drop i vs))

  abbrev pub after : List A → Option (List A) → Option (List A)
  after done rest = option_map (λ (xs : List A). done ++ xs) rest

  abbrev pub joined : Option A → Option (List A) → Option (List A)
  joined s rest = option_and_then (λ (x : A). option_map (λ (xs : List A). x ∷ xs) rest) s

  after_push : (done : List A) (x : A) (rest : Option (List A)) → after done (joined (Some x) rest) ≡ after (done ++ x ∷ []) rest
  after_push done x None = refl
  after_push done x (Some xs) = ap Some (sym (append_assoc done (x ∷ []) xs))

  module _ (ds rest : Items) (d : Data) (is : ds ≡ item d rest) where
    -- what they are read as is what the first one is read as, and then the rest
    pub next_read : items_in read ds ≡ joined (read d) (items_in read rest)
    next_read = ap (items_in read) is

    -- where the first one is read, the whole list is what was read with it, and then the rest
    pub one_read : (x : A) (done now : List A) (all : Option (List A)) → Some x ≡ read d → now ≡ done ++ x ∷ []
        → all ≡ after done (items_in read ds) → all ≡ after now (items_in read rest)
    one_read x done now all found more e =
        e ∙ ap (after done) (next_read ∙ ap (λ o. joined o (items_in read rest)) (sym found))
        ∙ after_push done x (items_in read rest) ∙ ap (λ list. after list (items_in read rest)) (sym more)

    -- where it isn't read, the whole list isn't
    pub one_unread : (done : List A) (all : Option (List A)) → None ≡ read d → all ≡ after done (items_in read ds) → all ≡ None
    one_unread done all none e = e ∙ ap (after done) (next_read ∙ ap (λ o. joined o (items_in read rest)) (sym none))

  -- at the end the whole list is what was read
  pub all_read : (ds : Items) (done : List A) (all : Option (List A)) → ds ≡ no_items → all ≡ after done (items_in read ds)
      → all ≡ Some done
  all_read ds done all is e = e ∙ ap (λ xs. after done (items_in read xs)) is ∙ ap Some (append-nil done)

  -- the same of the values of a tree: where value i is read
  pub pushed : (vs : List Value) (i : ℕ) (v : Value) (x : A) (done now : List A) (all : Option (List A)) → i < length vs → v ≡ get_or vs i v
      → Some x ≡ read (view v)
      → now ≡ done ++ x ∷ [] → all ≡ after done (left_to_read vs i) → all ≡ after now (left_to_read vs (i + 1))
  pushed vs i v x done now all lt is found more e =
      one_read (items_view (drop i vs)) (items_view (drop (i + 1) vs)) (view v) (next_item vs i v lt is) x done now all found more e

  -- where value i isn't read
  pub stopped : (vs : List Value) (i : ℕ) (v : Value) (done : List A) (all : Option (List A)) → i < length vs → v ≡ get_or vs i v
      → None ≡ read (view v)
      → all ≡ after done (left_to_read vs i) → None ≡ all
  stopped vs i v done all lt is none e =
      sym (one_unread (items_view (drop i vs)) (items_view (drop (i + 1) vs)) (view v) (next_item vs i v lt is) done all none e)

  -- and at the end
  pub ended : (vs : List Value) (i : ℕ) (done : List A) (all : Option (List A)) → length vs ≤ i → all ≡ after done (left_to_read vs i)
      → Some done ≡ all
  ended vs i done all le e = sym (all_read (items_view (drop i vs)) done all (none_left vs i le) e)
