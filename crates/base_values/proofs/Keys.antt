-- What the last member of a key is in the object that is read.
use Rattle.std.proofs.Common.{◌≡◌, ℕ, ◌<◌, List, [], ◌∷◌, Bool, true, false, Option, Some, None, option_map, option_and_then}
use Rattle.std.proofs.Common.{refl, sym, ap, ◌∙◌, subst, arith}
use Rattle.std.specs.Prelude.{if◌then◌else◌, is_some}
use Rattle.std.specs.Str.{bytes_eq}
use Rattle.std.proofs.lemmas.Slice.Eq.{bytes_eq-Decides}
use Rattle.json.specs.Token.{Token}
use Rattle.json.specs.Json as json
use Rattle.json.specs.Json.{Parse, members, parse_map, value, value_with}
use Rattle.json.proofs.Grammar.{value-begin_object, value_is}
use Rattle.serde_json.proofs.Views.{get_member-put, get_member-put_other}
use Rattle.serde_json.specs.Data.{Data, Members, array, no_members, number, object, put}
use Rattle.serde_json.specs.Find.{get, get_member}
use Rattle.serde_json.specs.Read.{number_of, of_items, of_json, of_members}
use Rattle.base_values.specs.Documents.{after_begin_object, count_in, last_in, or_null}
use Rattle.base_values.specs.Places.{last, members_at, or_else}
use Rattle.base_values.proofs.Counts.{latest, latest_none, latest_some, tally}
use Rattle.base_values.proofs.Turns.{whole}

-- the value of a last member, or what was found before
abbrev or_value : Option json.Json → Option Data → Option Data
or_value None x = x
or_value (Some j) x = of_json j

truth : (l k : List ℕ) → bytes_eq l k ≡ true → l ≡ k
truth l k e = (bytes_eq-Decides l k).0 e

apart : (l k : List ℕ) → bytes_eq l k ≡ false → k ≡ l → ⊥
apart l k e h = let same : bytes_eq l k ≡ true = (bytes_eq-Decides l k).1 (sym h) in absurd cc

found_last : (k : List ℕ) (ms : json.Members) (old all : Members) → of_members ms old ≡ Some all
    → get_member k all ≡ or_value (last k ms) (get_member k old)
found_last k json.no_members old all e = let same : all ≡ old = cc in ap (get_member k) same
found_last k (json.member l j ms) old all e = by (of_json j) refl e (λ d f. found_last k ms (put l d old) all f)
  where
    here : (d : Data) (b : Bool) → of_json j ≡ Some d → bytes_eq l k ≡ b
        → get_member k (put l d old) ≡ or_value (if b then Some j else None) (get_member k old)
    here d true p q = subst (λ (name : List ℕ). get_member k (put name d old) ≡ of_json j) (sym (truth l k q)) (get_member-put k d old
        ∙ sym p)
    here d false p q = get_member-put_other k l d old (apart l k q)

    later : (d : Data) (x : Option json.Json) → of_json j ≡ Some d
        → or_value x (get_member k (put l d old)) ≡ or_value (or_else x (if bytes_eq l k then Some j else None)) (get_member k old)
    later d (Some i) p = refl
    later d None p = here d (bytes_eq l k) p refl

    by : (x : Option Data) → of_json j ≡ x → option_and_then (λ d. of_members ms (put l d old)) x ≡ Some all
        → ((d : Data) → of_members ms (put l d old) ≡ Some all → get_member k all ≡ or_value (last k ms) (get_member k (put l d old)))
        → get_member k all ≡ or_value (last k (json.member l j ms)) (get_member k old)
    by None p f again = absurd cc
    by (Some d) p f again = again d f ∙ later d (last k ms) p

-- what is last is read
last_reads : (k : List ℕ) (ms : json.Members) (old all : Members) (i : json.Json) → of_members ms old ≡ Some all → last k ms ≡ Some i
    → is_some (of_json i) ≡ true
last_reads k json.no_members old all i e f = absurd cc
last_reads k (json.member l j ms) old all i e f = by (of_json j) refl e (λ d g h. last_reads k ms (put l d old) all i g h)
  where
    at_last : (d : Data) (x : Option json.Json) (b : Bool) → of_json j ≡ Some d → last k ms ≡ x
        → (last k ms ≡ Some i → is_some (of_json i) ≡ true) → or_else x (if b then Some j else None) ≡ Some i → is_some (of_json i) ≡ true
    at_last d (Some h) b p q again r = again (q ∙ r)
    at_last d None true p q again r = let same : j ≡ i = cc in subst (λ (x : json.Json). is_some (of_json x) ≡ true) same (ap is_some p)
    at_last d None false p q again r = absurd cc

    by : (x : Option Data) → of_json j ≡ x → option_and_then (λ d. of_members ms (put l d old)) x ≡ Some all
        → ((d : Data) → of_members ms (put l d old) ≡ Some all → last k ms ≡ Some i → is_some (of_json i) ≡ true)
        → is_some (of_json i) ≡ true
    by None p g again = absurd cc
    by (Some d) p g again = at_last d (last k ms) (bytes_eq l k) p refl (λ h. again d g h) f

module _ (k : List ℕ) where
  from_members : (ms : json.Members) (x : Option Members) → of_members ms no_members ≡ x → is_some (option_map object x) ≡ true
      → get k (or_null (option_map object x)) ≡ option_and_then of_json (last k ms)
  from_members ms None p e = absurd cc
  from_members ms (Some all) p e = found_last k ms no_members all p ∙ same (last k ms)
    where
      same : (y : Option json.Json) → or_value y None ≡ option_and_then of_json y
      same None = refl
      same (Some j) = refl

  -- the member of a key is the last one that has it
  key_is : (o : Option (json.Members × List Token)) → is_some (whole (parse_map json.object o)) ≡ true
      → get k (or_null (whole (parse_map json.object o))) ≡ option_and_then of_json (latest k o)
  key_is None e = absurd cc
  key_is (Some (ms, [])) e = from_members ms (of_members ms no_members) refl e
  key_is (Some (ms, t ∷ r)) e = absurd cc

  key_reads : (o : Option (json.Members × List Token)) (j : json.Json) → is_some (whole (parse_map json.object o)) ≡ true
      → latest k o ≡ Some j
      → is_some (of_json j) ≡ true
  key_reads None j e f = absurd cc
  key_reads (Some (ms, [])) j e f = by (of_members ms no_members) refl e
    where
      by : (x : Option Members) → of_members ms no_members ≡ x → is_some (option_map object x) ≡ true → is_some (of_json j) ≡ true
      by None p g = absurd cc
      by (Some all) p g = last_reads k ms no_members all j p f
  key_reads (Some (ms, t ∷ r)) j e f = absurd cc

-- ---- texts

begun : (ts t : List Token) → after_begin_object ts ≡ Some t → ts ≡ Token.begin_object ∷ t
begun [] t e = absurd cc
begun (Token.begin_object ∷ ts) t e = let same : ts ≡ t = cc in ap (λ r. Token.begin_object ∷ r) same
begun (Token.end_object ∷ ts) t e = absurd cc
begun (Token.begin_array ∷ ts) t e = absurd cc
begun (Token.end_array ∷ ts) t e = absurd cc
begun (Token.key s ∷ ts) t e = absurd cc
begun (Token.string s ∷ ts) t e = absurd cc
begun (Token.number s ∷ ts) t e = absurd cc
begun (Token.boolean b ∷ ts) t e = absurd cc
begun (Token.null ∷ ts) t e = absurd cc
begun (Token.bad ∷ ts) t e = absurd cc

object_whole : (ts t : List Token) → after_begin_object ts ≡ Some t → whole (value 127 ts) ≡ whole (parse_map json.object (members_at t))
object_whole ts t e = ap (λ r. whole (value 127 r)) (begun ts t e) ∙ ap whole (value-begin_object 127 t (omega arith))

-- the value of a key in a text that is an object
pub key_of_object : (k : List ℕ) (ts t : List Token) → is_some (whole (value 127 ts)) ≡ true → after_begin_object ts ≡ Some t
    → get k (or_null (whole (value 127 ts))) ≡ option_and_then of_json (last_in k ts)
key_of_object k ts t h e =
    let same = object_whole ts t e in
    ap (λ o. get k (or_null o)) same ∙ key_is k (members_at t) (sym (ap is_some same) ∙ h)
    ∙ ap (λ o. option_and_then of_json (option_and_then (λ (r : List Token). latest k (members_at r)) o)) (sym e)

-- the last member of a key in a text that is read is read
pub reads_of_object : (k : List ℕ) (ts t : List Token) (j : json.Json) → is_some (whole (value 127 ts)) ≡ true
    → after_begin_object ts ≡ Some t
    → last_in k ts ≡ Some j → is_some (of_json j) ≡ true
reads_of_object k ts t j h e f =
    let same = object_whole ts t e in
    key_reads k (members_at t) j (sym (ap is_some same) ∙ h)
    (sym (ap (λ o. option_and_then (λ (r : List Token). latest k (members_at r)) o) e) ∙ f)

abbrev no_object : json.Json → Bool
no_object json.null = true
no_object (json.boolean b) = true
no_object (json.number s) = true
no_object (json.string s) = true
no_object (json.array js) = true
no_object (json.object ms) = false

abbrev is_no_object : Option (json.Json × List Token) → Bool
is_no_object None = true
is_no_object (Some p) = no_object p.0

number_keys : (k : List ℕ) (x : Option Data) → ((d : Data) → x ≡ Some d → get k d ≡ None) → get k (or_null x) ≡ None
number_keys k None h = refl
number_keys k (Some d) h = h d refl

keyless : (k : List ℕ) (j : json.Json) → no_object j ≡ true → get k (or_null (of_json j)) ≡ None
keyless k json.null e = refl
keyless k (json.boolean b) e = refl
keyless k (json.number s) e = by (number_of s)
  where
    by : (x : _) → get k (or_null (option_map number x)) ≡ None
    by None = refl
    by (Some n) = refl
keyless k (json.string s) e = refl
keyless k (json.array js) e = by (of_items js)
  where
    by : (x : _) → get k (or_null (option_map array x)) ≡ None
    by None = refl
    by (Some ds) = refl
keyless k (json.object ms) e = absurd cc

whole_keyless : (k : List ℕ) (o : Option (json.Json × List Token)) → is_no_object o ≡ true → get k (or_null (whole o)) ≡ None
whole_keyless k None e = refl
whole_keyless k (Some (j, [])) e = keyless k j e
whole_keyless k (Some (j, t ∷ r)) e = refl

other_first : (a : Parse json.Items) (o : Parse json.Members) (ts : List Token) → after_begin_object ts ≡ None
    → is_no_object (value_with a o ts) ≡ true
other_first a o [] e = refl
other_first a o (Token.begin_object ∷ ts) e = absurd cc
other_first a o (Token.end_object ∷ ts) e = refl
other_first a o (Token.begin_array ∷ ts) e = by (a ts)
  where
    by : (x : Option (json.Items × List Token)) → is_no_object (parse_map json.array x) ≡ true
    by None = refl
    by (Some p) = refl
other_first a o (Token.end_array ∷ ts) e = refl
other_first a o (Token.key s ∷ ts) e = refl
other_first a o (Token.string s ∷ ts) e = refl
other_first a o (Token.number s ∷ ts) e = refl
other_first a o (Token.boolean b ∷ ts) e = refl
other_first a o (Token.null ∷ ts) e = refl
other_first a o (Token.bad ∷ ts) e = refl

-- a text that is no object has no keys
pub key_of_other : (k : List ℕ) (ts : List Token) → after_begin_object ts ≡ None → get k (or_null (whole (value 127 ts))) ≡ None
key_of_other k ts e = whole_keyless k (value 127 ts) (ap is_no_object (value_is 127 ts) ∙ other_first _ _ ts e)

-- a key that no member has
pub key_uncounted : (k : List ℕ) (ts : List Token) → is_some (whole (value 127 ts)) ≡ true → count_in k ts ≡ Some 0
    → get k (or_null (whole (value 127 ts))) ≡ None
key_uncounted k ts h e = by (after_begin_object ts) refl e
  where
    by : (x : Option (List Token)) → after_begin_object ts ≡ x → option_and_then (λ (t : List Token). tally k (members_at t)) x ≡ Some 0
        → get k (or_null (whole (value 127 ts))) ≡ None
    by None p f = absurd cc
    by (Some t) p f =
        key_of_object k ts t h p ∙ ap (λ o. option_and_then of_json (option_and_then (λ (r : List Token). latest k (members_at r)) o)) p
        ∙ ap (option_and_then of_json) (latest_none k (members_at t) f)

-- where a key is counted, its last member is read, and its value is that of the key
pub key_counted : (k : List ℕ) (ts : List Token) (n : ℕ) → is_some (whole (value 127 ts)) ≡ true → count_in k ts ≡ Some n → 0 < n
    → (get k (or_null (whole (value 127 ts))) ≡ option_and_then of_json (last_in k ts))
    × (is_some (option_and_then of_json (last_in k ts)) ≡ true)
key_counted k ts n h e some = by (after_begin_object ts) refl e
  where
    by : (x : Option (List Token)) → after_begin_object ts ≡ x → option_and_then (λ (t : List Token). tally k (members_at t)) x ≡ Some n
        → (get k (or_null (whole (value 127 ts))) ≡ option_and_then of_json (last_in k ts))
        × (is_some (option_and_then of_json (last_in k ts)) ≡ true)
    by None p f = absurd cc
    by (Some t) p f =
        let there = latest_some k (members_at t) n f some in
        let is : last_in k ts ≡ Some there.0 = ap (λ o. option_and_then (λ (r : List Token). latest k (members_at r)) o) p ∙ there.1 in (
          key_of_object k ts t h p,
          ap (λ o. is_some (option_and_then of_json o)) is ∙ reads_of_object k ts t there.0 h p is,
        )
