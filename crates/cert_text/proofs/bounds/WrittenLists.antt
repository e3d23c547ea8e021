-- Lists of elements that are written one after another.
use Rattle.std.proofs.Common.{◌≡◌, ◌+◌, ◌<◌, ◌++◌, ◌&&◌, ℕ, Bool, true, false, List, [], ◌∷◌, length, get_or, map, take, Option, Some, None}
use Rattle.std.proofs.Common.{option_map, option_and_then, refl, sym, ap, ap₂, ◌∙◌}
use Rattle.std.specs.Prelude.{nat_lt}
use Rattle.std.specs.List.{list_all}
use Rattle.std.proofs.lemmas.Bool.{lt-ltb}
use Rattle.std.proofs.lemmas.List.{map-append, take_more}
use Rattle.serde_json.specs.Data.{Data, Items, item, no_items}
use Rattle.serde_json.specs.View.{items_view, view}
use Rattle.serde_json.specs.declared.value.Value.{Value}
use Rattle.cert_text.specs.Lists.{all_items, items_data, items_in}

abbrev snoc : Items → Data → Items
snoc no_items d = item d no_items
snoc (item e ds) d = item e (snoc ds d)

items_view-push : (vs : List Value) (v : Value) → items_view (vs ++ v ∷ []) ≡ snoc (items_view vs) (view v)
items_view-push [] v = refl
items_view-push (x ∷ vs) v = ap (item (view x)) (items_view-push vs v)

-- one element more
pub one_more : {A : Type 0} (xs : List A) (i : ℕ) (x : A) → i < length xs → x ≡ get_or xs i x → take i xs ++ x ∷ [] ≡ take (i + 1) xs
one_more xs i x lt is = ap (λ y. take i xs ++ y ∷ []) is ∙ sym (take_more xs i x lt)

module _ {A : Type 0} (write : A → Data) where
  items_data-push : (xs : List A) (x : A) → items_data write (xs ++ x ∷ []) ≡ snoc (items_data write xs) (write x)
  items_data-push [] x = refl
  items_data-push (y ∷ xs) x = ap (item (write y)) (items_data-push xs x)

  -- the values stand for one more element
  pub data_more : (vs now : List Value) (v : Value) (xs : List A) (x : A) → now ≡ vs ++ v ∷ [] → items_view vs ≡ items_data write xs
      → view v ≡ write x → items_view now ≡ items_data write (xs ++ x ∷ [])
  data_more vs now v xs x is e f = ap items_view is ∙ items_view-push vs v ∙ ap₂ snoc e f ∙ sym (items_data-push xs x)

  module _ (test : Data → Bool) where
    all_items-snoc : (ds : Items) (d : Data) → all_items test ds ≡ true → test d ≡ true → all_items test (snoc ds d) ≡ true
    all_items-snoc no_items d e f = ap (λ b. b && true) f
    all_items-snoc (item c ds) d e f = by (test c) (all_items test ds) e (λ g. all_items-snoc ds d g f)
      where
        by : (b r : Bool) → (b && r) ≡ true → (r ≡ true → all_items test (snoc ds d) ≡ true) → (b && all_items test (snoc ds d)) ≡ true
        by true r e k = k e
        by false r e k = e

    -- a list of written elements that each pass a test does so with one more that passes
    pub shape_more : (xs : List A) (x : A) → all_items test (items_data write xs) ≡ true → test (write x) ≡ true
        → all_items test (items_data write (xs ++ x ∷ [])) ≡ true
    shape_more xs x e f = ap (all_items test) (items_data-push xs x) ∙ all_items-snoc (items_data write xs) (write x) e f

  module _ (read : Data → Option A) where
    abbrev more : Option (List A) → Option A → Option (List A)
    more done s = option_and_then (λ (xs : List A). option_map (λ (x : A). xs ++ x ∷ []) s) done

    abbrev front : Option A → Option (List A) → Option (List A)
    front s rest = option_and_then (λ (x : A). option_map (λ (xs : List A). x ∷ xs) rest) s

    regroup : (s : Option A) (rest : Option (List A)) (last : Option A) → front s (more rest last) ≡ more (front s rest) last
    regroup None rest last = refl
    regroup (Some x) None last = refl
    regroup (Some x) (Some xs) None = refl
    regroup (Some x) (Some xs) (Some y) = refl

    only : (o : Option A) → front o (Some []) ≡ more (Some []) o
    only None = refl
    only (Some s) = refl

    items_in-snoc : (ds : Items) (d : Data) → items_in read (snoc ds d) ≡ more (items_in read ds) (read d)
    items_in-snoc no_items d = only (read d)
    items_in-snoc (item e ds) d = ap (front (read e)) (items_in-snoc ds d) ∙ regroup (read e) (items_in read ds) (read d)

    -- a list of written elements that are read back is so with one more that is read back
    pub back_more : (bare : A → A) (xs : List A) (x : A) → items_in read (items_data write xs) ≡ Some (map bare xs)
        → read (write x) ≡ Some (bare x) → items_in read (items_data write (xs ++ x ∷ [])) ≡ Some (map bare (xs ++ x ∷ []))
    back_more bare xs x e f =
        ap (items_in read) (items_data-push xs x) ∙ items_in-snoc (items_data write xs) (write x) ∙ ap₂ more e f
        ∙ ap Some (sym (map-append bare xs (x ∷ [])))

-- each element as it is
pub map_same : {A : Type 0} (xs : List A) → map (λ x. x) xs ≡ xs
map_same [] = refl
map_same (x ∷ xs) = ap (λ ys. x ∷ ys) (map_same xs)

-- every element of a list can be written, where every element of its kind can
pub all_true : {A : Type 0} (xs : List A) → list_all (λ _. true) xs ≡ true
all_true [] = refl
all_true (x ∷ xs) = all_true xs

-- and where there are rows
all_under_rows : {A : Type 0} (rows : ℕ) (xs : List A) → 0 < rows → list_all (λ _. nat_lt 0 rows) xs ≡ true
all_under_rows rows [] h = refl
all_under_rows rows (x ∷ xs) h = ap₂ (λ a b. a && b) (lt-ltb 0 rows h) (all_under_rows rows xs h)
