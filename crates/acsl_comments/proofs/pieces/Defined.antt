-- What a file defines, where its tokens stand at other places.
use Rattle.std.proofs.Common.{◌≡◌, ◌∙◌, ◌∷◌, ◌++◌, ◌+◌, ◌-◌, ◌<◌, ◌≤◌, ◌||◌, ◌&&◌, not, ℕ, ℤ, zero, suc, Bool, true, false, cond, eqb, List}
use Rattle.std.proofs.Common.{[], map}
use Rattle.std.proofs.Common.{take, drop, length, filter, flat_map, Option, Some, None, if◌then◌else◌, codes, refl, ap, ap₂, sym}
use Rattle.std.proofs.Common.{arith}
use Rattle.std.specs.Option.{option_map}
use Rattle.std.specs.List.{list_any, slice_range}
use Rattle.std.specs.Str.{bytes_eq}
use Rattle.std.proofs.lemmas.List.{take-map, drop-map, map-append}
use Rattle.std.proofs.lemmas.Bool.{eqb-true, eqb-false, eq-eqb, ne_eqb}
use Rattle.std.specs.List.{insert}
use Rattle.base_integers.specs.declared.integers.Integers.{Integers}
use Rattle.lang_tokens.specs.declared.token.Aside.{Aside}
use Rattle.lang_tokens.specs.declared.token.Aside.TheVariants as aside
use Rattle.lang_tokens.specs.declared.token.Kind.{Kind}
use Rattle.lang_tokens.specs.declared.token.Kind.TheVariants as kind
use Rattle.lang_tokens.specs.declared.token.Token.{Token}
use Rattle.source_items.specs.declared.item.Item.{Item}
use Rattle.source_tokens.specs.Constants.{defined_at}
use Rattle.source_tokens.specs.View.{bytes_of}
use Rattle.source_tokens.specs.declared.definition.Definition.{Definition}
use Rattle.source_constants.specs.Parts.{kind_part, parts_of}
use Rattle.source_constants.specs.declared.part.Part.{Part}
use Rattle.source_constants.specs.Directives.{is_code, code_of, asides_of, is_hash, len_to_hash, directives_of, number_of, is_paren}
use Rattle.source_constants.specs.Directives.{number_behind, stands_for, replaced, width_of, limits, is_word, is_spelled}
use Rattle.source_constants.specs.Directives.{is_limits, limits_at, included, defined_by, by_directives}
use Rattle.source_constants.specs.Items.{is_no_number, is_macro, of_item, defined_in, item_tokens, by_items}
use Rattle.source_constants.specs.Definitions.{place_in, with_placed, with_all_placed, definitions_of, is_clash, repeated}
use Rattle.acsl_comments.specs.Law.{token_moved_by, definition_moved_by}
use Rattle.acsl_comments.specs.Places.{Ascend}
use Rattle.acsl_comments.specs.Texts.{moved_by, with_comments}
use Rattle.acsl_comments.specs.declared.comment.Comment.{Comment}
use Rattle.acsl_comments.proofs.pieces.Numbers.{move_parts, kind_stays, number_stays, item_stays}
use Rattle.acsl_comments.proofs.pieces.Places.{places, moved_order}
use Rattle.acsl_comments.proofs.pieces.Stay.{defined_moved}
use Rattle.acsl_comments.proofs.pieces.Files.{SameBytes}
use Rattle.acsl_comments.proofs.pieces.Together.{Clear, clear_join, moved_on, slice_on, IsNear, AreNear, IsTogether, AreTogether}

module _ (comments : List Comment) (text : List ℕ) (order : Ascend 0 (length text) (places comments)) where
  -- the text with the comments
  abbrev written : List ℕ
  written = with_comments 0 text comments

  -- a token, a definition where they stand then
  abbrev mv : Token → Token
  mv t = token_moved_by comments t

  abbrev dmv : Definition → Definition
  dmv d = definition_moved_by comments d

  -- ---- tokens
  -- the same bytes of some of them
  pub same_filter : (p : Token → Bool) (ts : List Token) → SameBytes comments text written ts
      → SameBytes comments text written (filter p ts)
  same_filter p [] h = tt
  same_filter p (t ∷ ts) h = by_test (p t) (same_filter p ts h.1) where
    by_test : (b : Bool) → SameBytes comments text written (filter p ts)
        → SameBytes comments text written (cond b (t ∷ filter p ts) (filter p ts))
    by_test true rest = (h.0, rest)
    by_test false rest = rest

  -- the first tokens stand for the bytes that they stood for
  pub same_take : (n : ℕ) (ts : List Token) → SameBytes comments text written ts → SameBytes comments text written (take n ts)
  same_take zero ts h = tt
  same_take (suc n) [] h = tt
  same_take (suc n) (t ∷ ts) h = (h.0, same_take n ts h.1)

  -- so do the tokens behind them
  pub same_drop : (n : ℕ) (ts : List Token) → SameBytes comments text written ts → SameBytes comments text written (drop n ts)
  same_drop zero ts h = h
  same_drop (suc n) [] h = tt
  same_drop (suc n) (t ∷ ts) h = same_drop n ts h.1

  -- those that pass a test of their kinds
  pub filter_moved : (p : Kind → Bool) (ts : List Token)
      → filter (λ (t : Token). p t.kind) (map mv ts) ≡ map mv (filter (λ (t : Token). p t.kind) ts)
  filter_moved p [] = refl
  filter_moved p (t ∷ ts) = by_test (p t.kind) (filter_moved p ts) where
    by_test : (b : Bool) → filter (λ (t : Token). p t.kind) (map mv ts) ≡ map mv (filter (λ (t : Token). p t.kind) ts)
        → cond b (mv t ∷ filter (λ (t : Token). p t.kind) (map mv ts)) (filter (λ (t : Token). p t.kind) (map mv ts))
        ≡ map mv (cond b (t ∷ filter (λ (t : Token). p t.kind) ts) (filter (λ (t : Token). p t.kind) ts))
    by_test true e = ap (λ (l : List Token). mv t ∷ l) e
    by_test false e = e

  -- parts of tokens
  pub parts_moved : (ts : List Token) → SameBytes comments text written ts
      → parts_of written (map mv ts) ≡ move_parts (moved_by comments) (parts_of text ts)
  parts_moved [] h = refl
  parts_moved (t ∷ ts) h = ap₂ (λ (p : Part) (ps : List Part). p ∷ ps)
      (ap (λ (bytes : List ℕ). part_with bytes) h.0 ∙ kind_stays (moved_by comments) (bytes_of text t) t.at t.kind) (parts_moved ts h.1)
    where
      part_with : List ℕ → Part
      part_with bytes = kind_part bytes (moved_by comments t.at) t.kind

  -- ---- directives
  len_moved : (ts : List Token) → len_to_hash (map mv ts) ≡ len_to_hash ts
  len_moved [] = refl
  len_moved (t ∷ ts) = ap (λ (n : ℕ). cond (not (is_hash t.kind)) (1 + n) 0) (len_moved ts)

  directives_moved : (ts : List Token) → directives_of (map mv ts) ≡ map (map mv) (directives_of ts)
  directives_moved [] = refl
  directives_moved (t ∷ ts) =
      ap₂ (λ (d : List Token) (ds : List (List Token)). if is_hash t.kind then d ∷ ds else ds)
      (ap (λ (n : ℕ). take n (map mv ts)) (len_moved ts) ∙ take-map mv (len_to_hash ts) ts) (directives_moved ts)
      ∙ by_hash (is_hash t.kind) where
        by_hash : (b : Bool)
            → (if b then map mv (take (len_to_hash ts) ts) ∷ map (map mv) (directives_of ts) else map (map mv) (directives_of ts))
            ≡ map (map mv) (if b then take (len_to_hash ts) ts ∷ directives_of ts else directives_of ts)
        by_hash true = refl
        by_hash false = refl

  -- a token of a directive is at once behind another one where it was
  next_moved : (x t : Token) → IsNear text comments x t
      → eqb (moved_by comments t.at) (moved_by comments x.at + x.len) ≡ eqb t.at (x.at + x.len)
  next_moved x t n =
      let high = t.at + t.len in
      let there : moved_by comments t.at ≡ moved_by comments x.at + (t.at - x.at) =
      moved_on comments x.at t.at high (omega (arith, n.order)) (omega (arith, n.some)) n.clear in
      by_test (eqb t.at (x.at + x.len)) refl there where
        by_test : (b : Bool) → eqb t.at (x.at + x.len) ≡ b → moved_by comments t.at ≡ moved_by comments x.at + (t.at - x.at)
            → eqb (moved_by comments t.at) (moved_by comments x.at + x.len) ≡ b
        by_test true e f =
            let same : t.at ≡ x.at + x.len = eqb-true t.at (x.at + x.len) e in
            eq-eqb _ _ (omega (arith, f, same))
        by_test false e f =
            ne_eqb _ _ (λ i. eqb-false t.at (x.at + x.len) e (omega (arith, i, f, n.order)))

  behind_moved : (x : Token) (ts : List Token) → SameBytes comments text written ts → AreNear text comments x ts
      → number_behind written (moved_by comments x.at + x.len) (map mv ts) ≡ number_behind text (x.at + x.len) ts
  behind_moved x [] h n = refl
  behind_moved x (t ∷ ts) h n =
      ap₂ (λ (b : Bool) (o : Option ℤ). if is_paren t.kind && b then None else o) (next_moved x t n.0)
      (ap number_of (parts_moved (t ∷ ts) h) ∙ number_stays (moved_by comments) (parts_of text (t ∷ ts)))

  replaced_moved : (x : Token) (ts : List Token) → SameBytes comments text written (x ∷ ts) → AreNear text comments x ts
      → replaced written (mv x) (map mv ts) ≡ map dmv (replaced text x ts)
  replaced_moved x ts h n = by_kind x.kind where
    named : (v w : Option ℤ) → v ≡ w → stands_for written (mv x) v ∷ [] ≡ dmv (stands_for text x w) ∷ []
    named v w e =
        ap₂ (λ (bytes : List ℕ) (o : Option ℤ). let d : Definition =
        record { name = bytes; at = moved_by comments x.at; value = o; by_item = false } in d ∷ []) h.0 e

    by_aside : (a : Aside) → elim a as (λ z. List Definition) [
      | aside.Name ↦ stands_for written (mv x) (number_behind written (moved_by comments x.at + x.len) (map mv ts)) ∷ []
      | aside.Word w ↦ stands_for written (mv x) None ∷ []
      | _ ↦ []
    ] ≡ map dmv (elim a as (λ z. List Definition) [
      | aside.Name ↦ stands_for text x (number_behind text (x.at + x.len) ts) ∷ []
      | aside.Word w ↦ stands_for text x None ∷ []
      | _ ↦ []
    ])
    by_aside aside.Name = named _ _ (behind_moved x ts h.1 n)
    by_aside (aside.Word w) = named None None refl
    by_aside _ = refl

    by_kind : (k : Kind) → replaced written (record { kind = k; at = moved_by comments x.at; len = x.len }) (map mv ts)
        ≡ map dmv (replaced text (record { kind = k; at = x.at; len = x.len }) ts)
    by_kind (kind.Aside a) = by_aside a
    by_kind _ = refl

  -- the text from one token of a directive to a later one
  spelled_moved : (a e : Token) (word : List ℕ) → a.at < e.at + e.len → a.at ≤ e.at → 0 < e.len → e.at + e.len ≤ length text
      → Clear a.at (e.at + e.len) comments → is_spelled written (mv a) (mv e) word ≡ is_spelled text a e word
  spelled_moved a e word some upward last within clear =
      let high = e.at + e.len in
      let there : moved_by comments e.at ≡ moved_by comments a.at + (e.at - a.at) =
      moved_on comments a.at e.at high upward (omega (arith, last)) clear in
      let n = high - a.at in
      let end : moved_by comments e.at + e.len ≡ moved_by comments a.at + n = omega (arith, there, upward) in
      let to : a.at + n ≡ high = omega (arith, some) in
      ap (λ (bytes : List ℕ). bytes_eq bytes word)
      (ap (λ (m : ℕ). slice_range written (moved_by comments a.at) m) end
      ∙ slice_on text comments a.at n high order some (omega (arith, to)) within clear
      ∙ ap (λ (m : ℕ). slice_range text a.at m) to)

  -- the place of `<limits.h>`
  limits_in : (w a e : Token) → bytes_of written (mv w) ≡ bytes_of text w
      → ((word : List ℕ) → is_spelled written (mv a) (mv e) word ≡ is_spelled text a e word)
      → (if is_limits written (mv w) (mv a) (mv e) then Some (moved_by comments a.at) else None)
      ≡ option_map (moved_by comments) (if is_limits text w a e then Some a.at else None)
  limits_in w a e h same =
      ap₂ (λ (x y : Bool). if x && y then Some (moved_by comments a.at) else None)
      (ap (λ (bytes : List ℕ). bytes_eq bytes (codes "include")) h) (same (codes "<limits.h>"))
      ∙ by_test (is_limits text w a e) where
        by_test : (t : Bool) → (if t then Some (moved_by comments a.at) else None)
            ≡ option_map (moved_by comments) (if t then Some a.at else None)
        by_test true = refl
        by_test false = refl

  limits_moved : (ts : List Token) → SameBytes comments text written ts → IsTogether text comments ts
      → limits_at written (map mv ts) ≡ option_map (moved_by comments) (limits_at text ts)
  limits_moved (w ∷ a ∷ b ∷ c ∷ d ∷ e ∷ []) h n =
      let ab = n.1.0 in
      let bc = n.1.1.0 in
      let cd = n.1.1.1.0 in
      let de = n.1.1.1.1.0 in
      let clear = clear_join a.at (b.at + b.len) b.at (e.at + e.len) comments (omega (arith, ab.some)) ab.clear
      (clear_join b.at (c.at + c.len) c.at (e.at + e.len) comments (omega (arith, bc.some)) bc.clear
      (clear_join c.at (d.at + d.len) d.at (e.at + e.len) comments (omega (arith, cd.some)) cd.clear de.clear)) in
      let up : a.at ≤ e.at = omega (arith, ab.order, bc.order, cd.order, de.order) in
      limits_in w a e h.0 (λ word. spelled_moved a e word (omega (arith, up, de.some)) up de.some de.within clear)
  limits_moved ts h n = refl

  included_moved : (integers : Integers) (ts : List Token) → SameBytes comments text written ts → IsTogether text comments ts
      → included integers written (map mv ts) ≡ map dmv (included integers text ts)
  included_moved integers ts h n =
      ap (λ (o : Option ℕ). elim o [ None ↦ [] | Some at ↦ limits (width_of integers) at ]) (limits_moved ts h n)
      ∙ by_place (limits_at text ts) where
        by_place : (o : Option ℕ)
            → elim (option_map (moved_by comments) o) as (λ z. List Definition) [ None ↦ [] | Some at ↦ limits (width_of integers) at ]
            ≡ map dmv (elim o as (λ z. List Definition) [ None ↦ [] | Some at ↦ limits (width_of integers) at ])
        by_place None = refl
        by_place (Some at) = refl

  -- a directive
  directive_moved : (integers : Integers) (ts : List Token) → SameBytes comments text written ts → IsTogether text comments ts
      → defined_by integers written (map mv ts) ≡ map dmv (defined_by integers text ts)
  directive_moved integers [] h n = refl
  directive_moved integers (w ∷ []) h n = refl
  directive_moved integers (w ∷ x ∷ ts) h n =
      ap (λ (bytes : List ℕ). if bytes_eq bytes (codes "define") then replaced written (mv x) (map mv ts)
      else included integers written (map mv (w ∷ x ∷ ts))) h.0
      ∙ by_word (is_word text w (codes "define")) where
        by_word : (t : Bool) → (if t then replaced written (mv x) (map mv ts) else included integers written (map mv (w ∷ x ∷ ts)))
            ≡ map dmv (if t then replaced text x ts else included integers text (w ∷ x ∷ ts))
        by_word true = replaced_moved x ts h.1 n.1
        by_word false = included_moved integers (w ∷ x ∷ ts) h n

  -- the same bytes of the tokens of each directive
  abbrev AllSame : List (List Token) → Type 0
  AllSame [] = Unit {0}
  AllSame (d ∷ ds) = SameBytes comments text written d × AllSame ds

  all_same : (ts : List Token) → SameBytes comments text written ts → AllSame (directives_of ts)
  all_same [] h = tt
  all_same (t ∷ ts) h = by_hash (is_hash t.kind) (all_same ts h.1) where
    by_hash : (b : Bool) → AllSame (directives_of ts)
        → AllSame (if b then take (len_to_hash ts) ts ∷ directives_of ts else directives_of ts)
    by_hash true rest = (same_take (len_to_hash ts) ts h.1, rest)
    by_hash false rest = rest

  -- directives
  all_moved : (integers : Integers) (ds : List (List Token)) → AllSame ds → AreTogether text comments ds
      → flat_map (defined_by integers written) (map (map mv) ds) ≡ map dmv (flat_map (defined_by integers text) ds)
  all_moved integers [] h n = refl
  all_moved integers (d ∷ ds) h n =
      ap₂ (λ (xs ys : List Definition). xs ++ ys) (directive_moved integers d h.0 n.0) (all_moved integers ds h.1 n.1)
      ∙ sym (map-append dmv (defined_by integers text d) (flat_map (defined_by integers text) ds))

  -- what the directives define, where each of them stands together
  pub by_directives_moved : (integers : Integers) (ts : List Token) → SameBytes comments text written ts
      → AreTogether text comments (directives_of (asides_of ts))
      → by_directives integers written (map mv ts) ≡ map dmv (by_directives integers text ts)
  by_directives_moved integers ts h n =
      ap (λ (l : List Token). flat_map (defined_by integers written) (directives_of l)) (filter_moved (λ k. not (is_code k)) ts)
      ∙ ap (λ (ds : List (List Token)). flat_map (defined_by integers written) ds) (directives_moved (asides_of ts))
      ∙ all_moved integers (directives_of (asides_of ts))
      (all_same (asides_of ts) (same_filter (λ (t : Token). not (is_code t.kind)) ts h)) n

  -- ---- items
  -- a macro
  pub macro_moved : (ds : List Definition) (t : Token) → bytes_of written (mv t) ≡ bytes_of text t
      → is_macro (map dmv ds) written (mv t) ≡ is_macro ds text t
  macro_moved ds t h =
      ap (λ (x : List ℕ). elim (defined_at (map dmv ds) x (moved_by comments t.at)) [ None ↦ false | Some d ↦ is_no_number d ]) h
      ∙ ap (λ (o : Option Definition). elim o [ None ↦ false | Some d ↦ is_no_number d ]) (defined_moved comments ds (bytes_of text t) t.at)
      ∙ by_defined (defined_at ds (bytes_of text t) t.at) where
        by_defined : (o : Option Definition)
            → elim (option_map dmv o) as (λ z. Bool) [ None ↦ false | Some d ↦ is_no_number d ]
            ≡ elim o as (λ z. Bool) [ None ↦ false | Some d ↦ is_no_number d ]
        by_defined None = refl
        by_defined (Some d) = refl

  macros_moved : (ds : List Definition) (ts : List Token) → SameBytes comments text written ts
      → list_any (is_macro (map dmv ds) written) (map mv ts) ≡ list_any (is_macro ds text) ts
  macros_moved ds [] h = refl
  macros_moved ds (t ∷ ts) h = ap₂ (λ (x y : Bool). x || y) (macro_moved ds t h.0) (macros_moved ds ts h.1)

  item_moved : (ds : List Definition) (ts : List Token) → SameBytes comments text written ts
      → defined_in (map dmv ds) written (map mv ts) ≡ map dmv (defined_in ds text ts)
  item_moved ds ts h =
      ap₂ (λ (b : Bool) (ps : List Part). if b then [] else of_item ps) (macros_moved ds ts h) (parts_moved ts h)
      ∙ by_macro (list_any (is_macro ds text) ts) where
        by_macro : (b : Bool) → (if b then [] else of_item (move_parts (moved_by comments) (parts_of text ts)))
            ≡ map dmv (if b then [] else of_item (parts_of text ts))
        by_macro true = refl
        by_macro false = item_stays (moved_by comments) (parts_of text ts)

  -- a run of tokens is found by the same places
  pub range_moved : (ts : List Token) (first end : ℕ) → slice_range (map mv ts) first end ≡ map mv (slice_range ts first end)
  range_moved ts first end =
      ap (λ (l : List Token). take (end - first) l) (drop-map mv first ts) ∙ take-map mv (end - first) (drop first ts)

  -- the tokens of a run stand for the bytes that they stood for
  pub same_range : (ts : List Token) (first end : ℕ) → SameBytes comments text written ts
      → SameBytes comments text written (slice_range ts first end)
  same_range ts first end h = same_take (end - first) (drop first ts) (same_drop first ts h)

  items_moved : (ds : List Definition) (code : List Token) (items : List Item) → SameBytes comments text written code
      → by_items (map dmv ds) written (map mv code) items ≡ map dmv (by_items ds text code items)
  items_moved ds code [] h = refl
  items_moved ds code (item ∷ items) h =
      ap₂ (λ (xs ys : List Definition). xs ++ ys)
      (ap (λ (l : List Token). defined_in (map dmv ds) written l) (range_moved code item.first item.end)
      ∙ item_moved ds (item_tokens code item) (same_range code item.first item.end h)) (items_moved ds code items h)
      ∙ sym (map-append dmv (defined_in ds text (item_tokens code item)) (by_items ds text code items))

  -- ---- in the order of the text
  place_moved : (at : ℕ) (es : List Definition) → place_in (moved_by comments at) (map dmv es) ≡ place_in at es
  place_moved at [] = refl
  place_moved at (e ∷ es) =
      ap₂ (λ (b : Bool) (n : ℕ). cond (not b) (1 + n) 0) (moved_order comments at e.at) (place_moved at es)

  insert_moved : (es : List Definition) (n : ℕ) (d : Definition) → insert (map dmv es) n (dmv d) ≡ map dmv (insert es n d)
  insert_moved es n d =
      ap₂ (λ (xs ys : List Definition). xs ++ dmv d ∷ ys) (take-map dmv n es) (drop-map dmv n es)
      ∙ sym (map-append dmv (take n es) (d ∷ drop n es))

  with_moved : (d : Definition) (es : List Definition) → with_placed (dmv d) (map dmv es) ≡ map dmv (with_placed d es)
  with_moved d es = ap (λ (n : ℕ). insert (map dmv es) n (dmv d)) (place_moved d.at es) ∙ insert_moved es (place_in d.at es) d

  all_with_moved : (ds es : List Definition) → with_all_placed (map dmv ds) (map dmv es) ≡ map dmv (with_all_placed ds es)
  all_with_moved [] es = refl
  all_with_moved (d ∷ ds) es =
      ap (λ (l : List Definition). with_all_placed (map dmv ds) l) (with_moved d es) ∙ all_with_moved ds (with_placed d es)

  -- What a file defines is the same, where it stands then.
  pub definitions_moved : (integers : Integers) (ts : List Token) (items : List Item) → SameBytes comments text written ts
      → AreTogether text comments (directives_of (asides_of ts))
      → definitions_of integers written (map mv ts) items ≡ map dmv (definitions_of integers text ts items)
  definitions_moved integers ts items h n =
      let ds = by_directives integers text ts in
      ap (λ (l : List Definition). with_all_placed (by_items l written (code_of (map mv ts)) items) l) (by_directives_moved integers ts h n)
      ∙ ap (λ (l : List Token). with_all_placed (by_items (map dmv ds) written l items) (map dmv ds)) (filter_moved is_code ts)
      ∙ ap (λ (l : List Definition). with_all_placed l (map dmv ds))
      (items_moved ds (code_of ts) items (same_filter (λ (t : Token). is_code t.kind) ts h))
      ∙ all_with_moved (by_items ds text (code_of ts) items) ds

  -- No constant stands twice then that didn't.
  clash_moved : (d : Definition) (es : List Definition) → list_any (is_clash (dmv d)) (map dmv es) ≡ list_any (is_clash d) es
  clash_moved d [] = refl
  clash_moved d (e ∷ es) = ap (λ (b : Bool). is_clash d e || b) (clash_moved d es)

  -- the first definition with a name that stands before it, at its place in the text written
  pub repeated_moved : (before ds : List Definition)
      → repeated (map dmv before) (map dmv ds) ≡ option_map (moved_by comments) (repeated before ds)
  repeated_moved before [] = refl
  repeated_moved before (d ∷ ds) =
      ap₂ (λ (b : Bool) (o : Option ℕ). if b then Some (moved_by comments d.at) else o) (clash_moved d before)
      (ap (λ (l : List Definition). repeated l (map dmv ds)) (sym (map-append dmv before (d ∷ []))) ∙ repeated_moved (before ++ d ∷ []) ds)
      ∙ by_clash (list_any (is_clash d) before) where
        by_clash : (b : Bool)
            → (if b then Some (moved_by comments d.at) else option_map (moved_by comments) (repeated (before ++ d ∷ []) ds))
            ≡ option_map (moved_by comments) (if b then Some d.at else repeated (before ++ d ∷ []) ds)
        by_clash true = refl
        by_clash false = refl
