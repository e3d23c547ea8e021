-- What a value is read as, by its first token; and the turns of a list and an object that are tested and not held.
use Rattle.std.proofs.Common.{◌≡◌, ℕ, ◌-◌, ◌<◌, ◌≤◌, List, [], ◌∷◌, length, Bool, Option, Some, None, option_map, refl}
use Rattle.std.proofs.Common.{sym, ap, ◌∙◌, arith}
use Rattle.std.proofs.Common.{zero, suc, ◌⊎◌, inl, inr, Ordering, Less, Equal, Greater, nat_cmp}
use Rattle.std.specs.Ordering.{match_ordering}
use Rattle.std.specs.Cmp.Lexicographic.{slice_cmp}
use Rattle.base_values.specs.Outline.{flat, flat_members, outline_of}
use Rattle.std.specs.Prelude.{is_some, Ok, OnErr, OnOk, Result, ⊤, Err}
use Rattle.std.proofs.Common.{true, false}
use Rattle.json.specs.Token.{Token}
use Rattle.json.specs.Reads.{token_of}
use Rattle.json.specs.declared.token.Token.{Token as Taken}
use Rattle.json.specs.declared.token.Token.TheVariants.{BeginObject, EndObject, BeginArray, EndArray, Key, String, Number, Bool as Truth}
use Rattle.json.specs.declared.token.Token.TheVariants.{Null, Bad}
use Rattle.json.specs.Json as json
use Rattle.json.specs.Json.{Parse, parse_map, after_end_array, items, members, value}
use Rattle.json.proofs.Grammar.{value_is, value-begin_array, value-begin_object}
use Rattle.serde_json.specs.Data.{Data, Num, Items, Members, array, boolean, item, member, no_items, no_members, null, number, object}
use Rattle.serde_json.specs.Data.{put, string}
use Rattle.serde_json.specs.Read.{converted, number_of, of_items, of_json, of_members}
use Rattle.base_values.proofs.Turns.{converted-array, converted-object, item_read, item_refused, items_over}

module _ (depth : ℕ) (ts : List Token) where
  -- a text
  pub string_read : (s : List ℕ) → converted of_json (value depth (Token.string s ∷ ts)) ≡ Some (string s, ts)
  string_read s = ap (converted of_json) (value_is depth _)

  -- a truth value
  pub boolean_read : (b : Bool) → converted of_json (value depth (Token.boolean b ∷ ts)) ≡ Some (boolean b, ts)
  boolean_read b = ap (converted of_json) (value_is depth _)

  -- null
  pub null_read : converted of_json (value depth (Token.null ∷ ts)) ≡ Some (null, ts)
  null_read = ap (converted of_json) (value_is depth _)

  -- a number in range
  pub number_read : (s : List ℕ) (n : Num) → number_of s ≡ Some n
      → converted of_json (value depth (Token.number s ∷ ts)) ≡ Some (number n, ts)
  number_read s n e = ap (converted of_json) (value_is depth _) ∙ ap (λ o. option_map (λ (b : Data). (b, ts)) (option_map number o)) e

  -- a number that is not
  pub no_number : (s : List ℕ) → number_of s ≡ None → converted of_json (value depth (Token.number s ∷ ts)) ≡ None
  no_number s e = ap (converted of_json) (value_is depth _) ∙ ap (λ o. option_map (λ (b : Data). (b, ts)) (option_map number o)) e

  -- some value, where the number is in range
  pub number_passes : (s : List ℕ) → is_some (number_of s) ≡ true
      → (d : Data) × (converted of_json (value depth (Token.number s ∷ ts)) ≡ Some (d, ts))
  number_passes s h = by (number_of s) refl h
    where
      by : (x : Option Num) → number_of s ≡ x → is_some x ≡ true
          → (d : Data) × (converted of_json (value depth (Token.number s ∷ ts)) ≡ Some (d, ts))
      by None e g = absurd cc
      by (Some n) e g = (number n, number_read s n e)

  -- no value, where it is not
  pub number_refused : (s : List ℕ) → is_some (number_of s) ≡ false → converted of_json (value depth (Token.number s ∷ ts)) ≡ None
  number_refused s h = by (number_of s) refl h
    where
      by : (x : Option Num) → number_of s ≡ x → is_some x ≡ false → converted of_json (value depth (Token.number s ∷ ts)) ≡ None
      by None e g = no_number s e
      by (Some n) e g = absurd cc

  -- no value begins with a brace that closes
  pub end_object_refused : converted of_json (value depth (Token.end_object ∷ ts)) ≡ None
  end_object_refused = ap (converted of_json) (value_is depth _)

  -- nor with a bracket that closes
  pub end_array_refused : converted of_json (value depth (Token.end_array ∷ ts)) ≡ None
  end_array_refused = ap (converted of_json) (value_is depth _)

  -- nor with a key
  pub key_refused : (s : List ℕ) → converted of_json (value depth (Token.key s ∷ ts)) ≡ None
  key_refused s = ap (converted of_json) (value_is depth _)

  -- nor where the text is none
  pub bad_refused : converted of_json (value depth (Token.bad ∷ ts)) ≡ None
  bad_refused = ap (converted of_json) (value_is depth _)

  -- a list is what its values are
  pub array_is : 0 < depth → converted of_json (value depth (Token.begin_array ∷ ts))
      ≡ parse_map array (converted of_items (items (value (depth - 1)) (length ts) ts))
  array_is h = ap (converted of_json) (value-begin_array depth ts h) ∙ converted-array (items (value (depth - 1)) (length ts) ts)

  -- an object is what its members are
  pub object_is : 0 < depth → converted of_json (value depth (Token.begin_object ∷ ts))
      ≡ parse_map object (converted (λ ms. of_members ms no_members) (members (value (depth - 1)) (length ts) ts))
  object_is h = ap (converted of_json) (value-begin_object depth ts h) ∙ converted-object (members (value (depth - 1)) (length ts) ts)

-- ---- tokens that are a value, and tokens that none begins with

abbrev pub plain : Taken → Bool
plain BeginObject = false
plain EndObject = false
plain BeginArray = false
plain EndArray = false
plain (Key s) = false
plain (String s) = true
plain (Number s) = false
plain (Truth b) = true
plain Null = true
plain Bad = false

-- a token that is a value is read
pub plain_read : (t : Taken) (depth : ℕ) (ts : List Token) → plain t ≡ true
    → (d : Data) × (converted of_json (value depth (token_of t ∷ ts)) ≡ Some (d, ts))
plain_read BeginObject depth ts e = absurd cc
plain_read EndObject depth ts e = absurd cc
plain_read BeginArray depth ts e = absurd cc
plain_read EndArray depth ts e = absurd cc
plain_read (Key s) depth ts e = absurd cc
plain_read (String s) depth ts e = (string s.now, string_read depth ts s.now)
plain_read (Number s) depth ts e = absurd cc
plain_read (Truth b) depth ts e = (boolean b, boolean_read depth ts b)
plain_read Null depth ts e = (null, null_read depth ts)
plain_read Bad depth ts e = absurd cc

-- nothing opens where nothing may nest
pub deep_array_refused : (depth : ℕ) (ts : List Token) → depth ≡ 0 → converted of_json (value depth (Token.begin_array ∷ ts)) ≡ None
unfolding value
deep_array_refused depth ts e = ap (λ d. converted of_json (value d (Token.begin_array ∷ ts))) e

-- nor does an object
pub deep_object_refused : (depth : ℕ) (ts : List Token) → depth ≡ 0 → converted of_json (value depth (Token.begin_object ∷ ts)) ≡ None
unfolding value
deep_object_refused depth ts e = ap (λ d. converted of_json (value d (Token.begin_object ∷ ts))) e

-- no token, no value
pub nothing_read : (depth : ℕ) → converted of_json (value depth []) ≡ None
nothing_read depth = ap (converted of_json) (value_is depth [])

-- ---- lists that are tested

-- one map after another
pub map_twice : {A B C : Type 0} (f : B → C) (g : A → B) (o : Option (A × List Token))
    → parse_map f (parse_map g o) ≡ parse_map (λ x. f (g x)) o
map_twice f g None = refl
map_twice f g (Some p) = refl

-- a map that changes nothing
pub map_none : {A : Type 0} (o : Option (A × List Token)) → o ≡ parse_map (λ x. x) o
map_none None = refl
map_none (Some p) = refl

module _ (p : Parse json.Json) (n : ℕ) (ts : List Token) (f : Items → Items) (all : Option (Items × List Token))
    (e : all ≡ parse_map f (converted of_items (items p n ts))) where
  -- past a value that is read
  pub one_more : (r : List Token) (d : Data) → 0 < n → after_end_array ts ≡ None → converted of_json (p ts) ≡ Some (d, r)
      → all ≡ parse_map (λ ds. f (item d ds)) (converted of_items (items p (n - 1) r))
  one_more r d some going h = e ∙ ap (parse_map f) (item_read p n ts r d some going h) ∙ map_twice f (item d) _

  -- at the end
  pub no_more : (r : List Token) → length ts ≤ n → after_end_array ts ≡ Some r → all ≡ Some (f no_items, r)
  no_more r enough h = e ∙ ap (parse_map f) (items_over p n ts r enough h)

  -- at a value that is not read
  pub one_refused : after_end_array ts ≡ None → converted of_json (p ts) ≡ None → all ≡ None
  one_refused going h = e ∙ ap (parse_map f) (item_refused p n ts going h)

-- ---- the outlines of values

abbrev first_of : Data → Option (Data × List Token) → Data
first_of d None = d
first_of d (Some p) = p.0

module _ (depth : ℕ) (ts r : List Token) (d : Data) where
  clash : {P : Type 0} (o : Option (Data × List Token)) → o ≡ None → o ≡ Some (d, r) → P
  clash o e f = absurd cc

  same_of : (o : Option (Data × List Token)) (x : Data) → o ≡ Some (x, ts) → o ≡ Some (d, r) → x ≡ d
  same_of o x e f = ap (first_of d) (sym e ∙ f)

  listed_flat : (o : Option (Items × List Token)) → parse_map array o ≡ Some (d, r) → (null ≡ flat d) × (null ≡ outline_of d)
  listed_flat None e = absurd cc
  listed_flat (Some p) e = let same : array p.0 ≡ d = ap (first_of d) e in (ap flat same, ap outline_of same)

  object_flat : (o : Option (Members × List Token)) → parse_map object o ≡ Some (d, r) → null ≡ flat d
  object_flat None e = absurd cc
  object_flat (Some p) e = let same : object p.0 ≡ d = ap (first_of d) e in ap flat same

  abbrev Read : Taken → Type 0
  Read t = converted of_json (value depth (token_of t ∷ ts)) ≡ Some (d, r)

  some_depth : (n : ℕ) → (0 < n) ⊎ (n ≡ 0)
  some_depth zero = inr refl
  some_depth (suc n) = inl (omega arith)

  flat_array : (0 < depth) ⊎ (depth ≡ 0) → Read BeginArray → (null ≡ flat d) × (null ≡ outline_of d)
  flat_array (inl h) e = listed_flat (converted of_items (items (value (depth - 1)) (length ts) ts)) (sym (array_is depth ts h) ∙ e)
  flat_array (inr h) e = clash _ (deep_array_refused depth ts h) e

  flat_object : (0 < depth) ⊎ (depth ≡ 0) → Read BeginObject → null ≡ flat d
  flat_object (inl h) e = object_flat _ (sym (object_is depth ts h) ∙ e)
  flat_object (inr h) e = clash _ (deep_object_refused depth ts h) e

  -- what is no number leaves null
  pub flat_of : (t : Taken) → ((s : _) → t ≡ Number s → ⊥) → Read t → null ≡ flat d
  flat_of BeginObject not e = flat_object (some_depth depth) e
  flat_of EndObject not e = clash _ (end_object_refused depth ts) e
  flat_of BeginArray not e = (flat_array (some_depth depth) e).0
  flat_of EndArray not e = clash _ (end_array_refused depth ts) e
  flat_of (Key s) not e = clash _ (key_refused depth ts s.now) e
  flat_of (String s) not e = ap flat (same_of _ (string s.now) (string_read depth ts s.now) e)
  flat_of (Number s) not e = absurd (not s refl)
  flat_of (Truth b) not e = ap flat (same_of _ (boolean b) (boolean_read depth ts b) e)
  flat_of Null not e = ap flat (same_of _ (null) (null_read depth ts) e)
  flat_of Bad not e = clash _ (bad_refused depth ts) e

  -- what is no object has an empty outline
  pub outline_is : (t : Taken) → (t ≡ BeginObject → ⊥) → Read t → null ≡ outline_of d
  outline_is BeginObject not e = absurd (not refl)
  outline_is EndObject not e = clash _ (end_object_refused depth ts) e
  outline_is BeginArray not e = (flat_array (some_depth depth) e).1
  outline_is EndArray not e = clash _ (end_array_refused depth ts) e
  outline_is (Key s) not e = clash _ (key_refused depth ts s.now) e
  outline_is (String s) not e = ap outline_of (same_of _ (string s.now) (string_read depth ts s.now) e)
  outline_is (Number s) not e = by (number_of s.now) refl
    where
      by : (x : Option Num) → number_of s.now ≡ x → null ≡ outline_of d
      by None f = clash _ (no_number depth ts s.now f) e
      by (Some n) f = ap outline_of (same_of _ (number n) (number_read depth ts s.now n f) e)
  outline_is (Truth b) not e = ap outline_of (same_of _ (boolean b) (boolean_read depth ts b) e)
  outline_is Null not e = ap outline_of (same_of _ (null) (null_read depth ts) e)
  outline_is Bad not e = clash _ (bad_refused depth ts) e

flat_placed : (o : Ordering) (a b c x y z : Members) → flat_members a ≡ x → flat_members b ≡ y → flat_members c ≡ z
    → flat_members (match_ordering o a b c) ≡ match_ordering o x y z
flat_placed Less a b c x y z f g h = f
flat_placed Equal a b c x y z f g h = g
flat_placed Greater a b c x y z f g h = h

-- what is put flat
pub flat_put : (k : List ℕ) (d : Data) (ms : Members) → put k (flat d) (flat_members ms) ≡ flat_members (put k d ms)
flat_put k d no_members = refl
flat_put k d (member l e ms) = sym (flat_placed (slice_cmp nat_cmp k l) _ _ _ _ _ _ refl refl (ap (member l (flat e)) (sym
    (flat_put k d ms))))

-- ---- what follows from an answer

-- what follows where it is passed
pub on_ok : {E P Q : Type 0} (r : Result ⊤ E) → (P → Q) → OnOk r P → OnOk r Q
on_ok (Ok x) f p = f p
on_ok (Err e) f p = tt

-- what follows where it is refused
pub on_err : {E P Q : Type 0} (r : Result ⊤ E) → (P → Q) → OnErr r P → OnErr r Q
on_err (Ok x) f p = tt
on_err (Err e) f p = f p

-- what holds anyhow holds where it is refused
pub err_any : {E P : Type 0} (r : Result ⊤ E) → P → OnErr r P
err_any (Ok x) p = tt
err_any (Err e) p = p
