-- The tokens of a function stand in order in its text, a colon has one byte, and no anchor stands right behind a `/`.
use Rattle.std.proofs.Common.{◌≡◌, ◌∙◌, ◌≤◌, ◌<◌, ◌+◌, ◌-◌, ◌++◌, ◌∷◌, ℕ, zero, suc, ℤ, Bool, true, false, cond, Option, List, [], length}
use Rattle.std.proofs.Common.{map, get_or, drop, take}
use Rattle.std.proofs.Common.{◌⊎◌, inl, IsTrue}
use Rattle.std.proofs.Common.{inr, refl, sym, ap, subst, append_assoc, arith, Contains}
use Rattle.std.specs.List.{slice_range}
use Rattle.std.proofs.lemmas.List.{length-take-le, length-drop, length-append, take-append-drop}
use Rattle.std.proofs.lemmas.List.Elements.{Contains-append_right}
use Rattle.lang_tokens.specs.declared.word.Word as lex_word
use Rattle.lang_tokens.specs.declared.sign.Sign as lex_sign
use Rattle.lang_tokens.specs.declared.token.Kind as lex_kind
use Rattle.lang_tokens.specs.declared.token.Token as lex_token
use Rattle.lang_tokens.specs.Lexemes.{IsToken}
use Rattle.lang_tokens.specs.Reading as lex
use Rattle.lang_tokens.specs.Reading.{end_at}
use Rattle.lang_tokens.specs.TokenLists.{AreTokensAfter}
use Rattle.lang_tokens.proofs.reading.Placed.{placed_tokens}
use Rattle.source_grammar.specs.Tokens.{Kind, Token, token}
use Rattle.source_grammar.specs.Grammar.{Function, Reads}
use Rattle.lang_tokens.specs.declared.lexicon.Lexicon.TheVariants.{C}
use Rattle.source_tokens.specs.Constants.{constant_at}
use Rattle.source_tokens.specs.View.{word_kind, kind_of, bytes_of, tokens_of}
use Rattle.source_tokens.specs.declared.definition.Definition.{Definition}
use Rattle.source_constants.specs.Directives.{is_code, code_of}
use Rattle.acsl_comments.specs.Places.{Ascend, IsEdge, IsBehindNoSlash}
use Rattle.acsl_anchors.specs.Anchors.{Anchor, anchors_of}
use Rattle.acsl_anchors.specs.Laws.{AnchorsStandIn}
use Rattle.acsl_anchors.proofs.standing.Ranges.{is_anchor, is_colon, HoldsAt, Standing, Placed}
use Rattle.acsl_anchors.proofs.standing.Ends.{IsSlash, EndsApart, behind_no_slash, apart_end, after_token, before_token, token_in, next_in}
use Rattle.acsl_anchors.proofs.standing.Slashes.{is_over, AllApart, AreApart, reads_apart}
use Rattle.acsl_anchors.proofs.standing.Anchors.{function_placed}

-- A word is no colon,
word_is_none : (w : lex_word.Word) → is_colon (word_kind w) ≡ false
word_is_none lex_word.TheVariants.Int = refl
word_is_none _ = refl

-- and a sign that is one has a byte,
sign_is_one : (s : lex_sign.Sign) (bytes : List ℕ) (value : Option ℤ)
    → is_colon (kind_of bytes value (lex_kind.TheVariants.Sign s)) ≡ true → IsToken (lex_kind.TheVariants.Sign s) bytes → length bytes ≡ 1
sign_is_one lex_sign.TheVariants.Colon bytes value h i = ap length (sym i)
sign_is_one _ bytes value h i = cc

-- so a token that is one has a byte.
colon_is_one : (k : lex_kind.Kind) (bytes : List ℕ) (value : Option ℤ) → is_colon (kind_of bytes value k) ≡ true → IsToken k bytes
    → length bytes ≡ 1
colon_is_one (lex_kind.TheVariants.Word w) bytes value h i = let e = word_is_none w in cc
colon_is_one (lex_kind.TheVariants.Sign s) bytes value h i = sign_is_one s bytes value h i
colon_is_one lex_kind.TheVariants.Name bytes value h i = cc
colon_is_one (lex_kind.TheVariants.Number n) bytes value h i = cc
colon_is_one (lex_kind.TheVariants.Foreign f) bytes value h i = cc
colon_is_one (lex_kind.TheVariants.Aside a) bytes value h i = cc
colon_is_one lex_kind.TheVariants.End bytes value h i = cc

-- A `/` is one to the grammar,
slash_is_over : (bytes : List ℕ) (value : Option ℤ) (t : lex_token.Token) → IsSlash t → is_over (kind_of bytes value t.kind) ≡ true
slash_is_over bytes value t s = ap (λ (k : lex_kind.Kind). is_over (kind_of bytes value k)) s

-- and no colon.
slash_no_colon : (bytes : List ℕ) (value : Option ℤ) (t : lex_token.Token) → is_colon (kind_of bytes value t.kind) ≡ true → IsSlash t → ⊥
slash_no_colon bytes value t e s =
    let f = ap (λ (k : lex_kind.Kind). is_colon (kind_of bytes value k)) s in cc

-- the bytes of a range within a text
range_length : (text : List ℕ) (at len : ℕ) → at + len ≤ length text → length (slice_range text at (at + len)) ≡ len
range_length text at len h = length-take-le ((at + len) - at) (drop at text) (omega (arith, length-drop at text)) ∙ omega arith

-- what stands among tokens is one of them
listed : (tokens before rest : List lex_token.Token) (t : lex_token.Token) → before ++ t ∷ rest ≡ tokens → Contains tokens t
listed tokens before rest t e = let P : List lex_token.Token → Type 0 = λ l. Contains l t in
    subst P e (Contains-append_right before (t ∷ rest) t (0, omega arith, refl))

-- all but the last are the same where the last are
init_same : (z : lex_token.Token) (xs ys : List lex_token.Token) → xs ++ z ∷ [] ≡ ys ++ z ∷ [] → xs ≡ ys
init_same z [] [] e = refl
init_same z [] (y ∷ ys) e =
    absurd (omega (arith, ap (λ (l : List lex_token.Token). length l) e, length-append ys (z ∷ [])))
init_same z (x ∷ xs) [] e =
    absurd (omega (arith, ap (λ (l : List lex_token.Token). length l) e, length-append xs (z ∷ [])))
init_same z (x ∷ xs) (y ∷ ys) e = let i = init_same z xs ys cc in cc

module _ (constants : List Definition) (text : List ℕ) (tokens front : List lex_token.Token)
    (ended : front ++ end_at (length text) ∷ [] ≡ tokens) (placed : AreTokensAfter text 0 front)
    (of_code : (t : lex_token.Token) → Contains tokens t → IsTrue (is_code t.kind)) where
  -- what a token is to the grammar
  abbrev kind_in : lex_token.Token → Kind
  kind_in t = kind_of (bytes_of text t) (constant_at constants (bytes_of text t) t.at) t.kind

  -- an edge of these tokens, right behind which no `/` ends
  abbrev Edge : ℕ → Type 0
  Edge place = IsEdge tokens place × IsBehindNoSlash tokens place

  -- no `/` of the tokens ends at the place
  apart_in : (place : ℕ) (ts : List lex_token.Token) → ts ≡ front → EndsApart place ts → IsBehindNoSlash tokens place
  apart_in place ts e h =
      let P : List lex_token.Token → Type 0 = λ l. IsBehindNoSlash l place in
      subst P (ap (λ (l : List lex_token.Token). l ++ end_at (length text) ∷ []) e ∙ ended)
      (behind_no_slash place (ts ++ end_at (length text) ∷ []) (apart_end place (length text) ts h))

  -- the tokens in order, as these
  placed_as : (ts : List lex_token.Token) → ts ≡ front → AreTokensAfter text 0 ts
  placed_as ts e = let P : List lex_token.Token → Type 0 = λ l. AreTokensAfter text 0 l in subst P (sym e) placed

  -- one of them is listed
  in_tokens : (xs : List lex_token.Token) (t : lex_token.Token) (ys : List lex_token.Token) → xs ++ t ∷ ys ≡ front → Contains tokens t
  in_tokens xs t ys e = listed tokens xs (ys ++ end_at (length text) ∷ []) t
      (sym (append_assoc xs (t ∷ ys) (end_at (length text) ∷ []))
      ∙ ap (λ (l : List lex_token.Token). l ++ end_at (length text) ∷ []) e ∙ ended)

  -- it begins or ends at such an edge
  edge_of : {place : ℕ} (xs : List lex_token.Token) (t : lex_token.Token) (ys : List lex_token.Token) → xs ++ t ∷ ys ≡ front
      → 0 < t.len → (place ≡ t.at) ⊎ (place ≡ t.at + t.len) → IsEdge tokens place
  edge_of xs t ys e some edge =
      let listed = in_tokens xs t ys e in
      record { token = t; listed = listed; is_code = of_code t listed; some = some; edge = edge }

  -- What follows a colon begins at such an edge.
  behind_colon : (xs : List lex_token.Token) (t : lex_token.Token) (ys : List lex_token.Token) → xs ++ t ∷ ys ≡ front
      → is_colon (kind_in t) ≡ true → Edge (t.at + 1)
  behind_colon xs t ys e c =
      let (place, i) = token_in text xs t ys 0 (placed_as (xs ++ t ∷ ys) e) in
      let bytes = slice_range text t.at (t.at + t.len) in
      let one : length bytes ≡ 1 = colon_is_one t.kind bytes (constant_at constants bytes t.at) c i.is_token in
      let len : t.len ≡ 1 = omega (arith, one, range_length text t.at t.len i.within) in
      let apart = apart_in (t.at + t.len) (xs ++ t ∷ ys) e
      (after_token text xs t ys 0 (placed_as (xs ++ t ∷ ys) e) (slash_no_colon (bytes_of text t) (constant_at constants (bytes_of text t)
      t.at) t c) i.some) in (
        edge_of xs t ys e i.some (inr (omega (arith, len))),
        (let P : ℕ → Type 0 = λ n. IsBehindNoSlash tokens (t.at + n) in subst P len apart),
      )

  -- A token behind another one holds.
  holds : (xs : List lex_token.Token) (u t : lex_token.Token) (ys : List lex_token.Token) → xs ++ u ∷ t ∷ ys ≡ front
      → (is_over (kind_in u) ≡ true → is_anchor (kind_in t) ≡ true → ⊥)
      → HoldsAt Edge (kind_in t) t.at
  holds xs u t ys e apart =
      let i = next_in text xs u t ys 0 (placed_as (xs ++ u ∷ t ∷ ys) e) in
      let before : (xs ++ u ∷ []) ++ t ∷ ys ≡ front = append_assoc xs (u ∷ []) (t ∷ ys) ∙ e in
      record {
        begin = λ a. (
          edge_of (xs ++ u ∷ []) t ys before i.some (inl refl),
          apart_in t.at (xs ++ u ∷ t ∷ ys) e
              (before_token text xs u t ys 0 (placed_as (xs ++ u ∷ t ∷ ys) e) (λ s. apart (slash_is_over (bytes_of text u) (constant_at
              constants (bytes_of text u) u.at) u s) a)),
        );
        behind = λ c. behind_colon (xs ++ u ∷ []) t ys before c;
      }

  -- Tokens behind a place are behind any earlier one.
  from_before : (ts : List Token) (low from to : ℕ) → low ≤ from → Standing Edge from ts to → Standing Edge low ts to
  from_before [] low from to h s = omega (arith, h, s)
  from_before (token k a ∷ ts) low from to h s = (omega (arith, s.0, h), s.1, s.2)

  -- tokens behind another one
  stand_after : (xs : List lex_token.Token) (u : lex_token.Token) (mid post : List lex_token.Token)
      → xs ++ u ∷ (mid ++ post) ≡ front → u.at + u.len ≤ length text → AllApart (kind_in u) (tokens_of constants text mid)
      → Standing Edge (u.at + u.len) (tokens_of constants text mid) (length text + 1)
  stand_after xs u [] post e h a = omega (arith, h)
  stand_after xs u (t ∷ mid) post e h a =
      let i = next_in text xs u t (mid ++ post) 0 (placed_as (xs ++ u ∷ t ∷ (mid ++ post)) e) in (
        i.after,
        holds xs u t (mid ++ post) e a.0,
        from_before (tokens_of constants text mid) (t.at + 1) (t.at + t.len) (length text + 1) (omega (arith, i.some))
            (stand_after (xs ++ u ∷ []) t mid post (append_assoc xs (u ∷ []) (t ∷ (mid ++ post)) ∙ e) i.within a.1),
      )

  -- the tokens of a function
  stand : (pre mid post : List lex_token.Token) → pre ++ (mid ++ post) ≡ front → AreApart (tokens_of constants text mid)
      → Standing Edge 0 (tokens_of constants text mid) (length text + 1)
  stand pre [] post e a = omega arith
  stand pre (t ∷ mid) post e a =
      let (place, i) = token_in text pre t (mid ++ post) 0 (placed_as (pre ++ t ∷ (mid ++ post)) e) in (
        omega arith,
        record { begin = λ h. absurd (a.0 h); behind = λ c. behind_colon pre t (mid ++ post) e c },
        from_before (tokens_of constants text mid) (t.at + 1) (t.at + t.len) (length text + 1) (omega (arith, i.some))
            (stand_after pre t mid post e i.within a.1),
      )

  -- Anchors in order are in order,
  ascending : (xs : List Anchor) (from to : ℕ) → Placed Edge from xs to → Ascend from to (map (λ a. a.place) xs)
  ascending [] from to h = h
  ascending (x ∷ xs) from to h = (h.0, ascending xs x.place to h.2)

  -- and each stands at such an edge.
  all_edges : (xs : List Anchor) (from to : ℕ) → Placed Edge from xs to → (k : ℕ) (d : Anchor) → k < length xs → Edge (get_or xs k d).place
  all_edges [] from to h k d i = absurd (omega (arith, i))
  all_edges (x ∷ xs) from to h zero d i = h.1
  all_edges (x ∷ xs) from to h (suc k) d i = all_edges xs x.place to h.2 k d (omega (arith, i))

  -- So do those of the function that some of the tokens read as.
  pub anchors_stand_in : (first end : ℕ) (f : Function) → Reads (tokens_of constants text (slice_range front first end)) f
      → AnchorsStandIn text tokens (anchors_of f)
  anchors_stand_in first end f reads =
      let mid = slice_range front first end in
      let post = drop (end - first) (drop first front) in
      let whole : take first front ++ (mid ++ post) ≡ front =
      ap (λ (l : List lex_token.Token). take first front ++ l) (take-append-drop (end - first) (drop first front))
      ∙ take-append-drop first front in
      let standing = stand (take first front) mid post whole (reads_apart (tokens_of constants text mid) f reads) in
      let here : Placed Edge 0 (anchors_of f) (length text) = function_placed Edge f (length text)
      (let P : List Token → Type 0 = λ l. Standing Edge 0 l (length text + 1) in subst P (sym reads.spelled) standing) in
      record {
        order = ascending (anchors_of f) 0 (length text) here;
        edges = λ k d i. (all_edges (anchors_of f) 0 (length text) here k d i).0;
        apart = λ k d i. (all_edges (anchors_of f) 0 (length text) here k d i).1;
      }

-- ---- tokens that stand in no directive
-- what is listed behind another one
listed_behind : (u t : lex_token.Token) (ts : List lex_token.Token) → Contains ts t → Contains (u ∷ ts) t
listed_behind u t ts (k, i, e) = (suc k, omega (arith, i), e)

-- they are tokens,
from_code : (ts : List lex_token.Token) (t : lex_token.Token) → Contains (code_of ts) t → Contains ts t × IsTrue (is_code t.kind)
from_code [] t h = let (k, i, e) = h in absurd (omega (arith, i))
from_code (u ∷ ts) t h = by_kind (is_code u.kind) refl (λ l. from_code ts t l) h where
  by_kind : (b : Bool) → is_code u.kind ≡ b → (Contains (code_of ts) t → Contains ts t × IsTrue (is_code t.kind))
      → Contains (cond b (u ∷ code_of ts) (code_of ts)) t → Contains (u ∷ ts) t × IsTrue (is_code t.kind)
  by_kind false same rest h = let (listed, of_code) = rest h in (listed_behind u t ts listed, of_code)
  by_kind true same rest (zero, i, e) =
      ((zero, omega arith, e), ap (λ (x : lex_token.Token). is_code x.kind) (sym e) ∙ same)
  by_kind true same rest (suc k, i, e) =
      let (listed, of_code) = rest (k, omega (arith, i), e) in (listed_behind u t ts listed, of_code)

-- and each token that stands in none is one of them.
to_code : (ts : List lex_token.Token) (t : lex_token.Token) → Contains ts t → is_code t.kind ≡ true → Contains (code_of ts) t
to_code [] t (k, i, e) h = absurd (omega (arith, i))
to_code (u ∷ ts) t (k, i, e) h = by_kind (is_code u.kind) refl (λ l. to_code ts t l h) k i e where
  by_kind : (b : Bool) → is_code u.kind ≡ b → (Contains ts t → Contains (code_of ts) t) → (k : ℕ) → k < suc (length ts)
      → get_or (u ∷ ts) k t ≡ t → Contains (cond b (u ∷ code_of ts) (code_of ts)) t
  by_kind true same rest (suc k) i e = listed_behind u t (code_of ts) (rest (k, omega (arith, i), e))
  by_kind false same rest (suc k) i e = rest (k, omega (arith, i), e)
  by_kind true same rest zero i e = (zero, omega arith, e)
  by_kind false same rest zero i e = let f = ap (λ (x : lex_token.Token). is_code x.kind) e in cc

-- tokens behind a place are so behind an earlier one
earlier : (text : List ℕ) (low place : ℕ) (ts : List lex_token.Token) → low ≤ place → AreTokensAfter text place ts
    → AreTokensAfter text low ts
earlier text low place [] i h = tt
earlier text low place (t ∷ ts) i h =
    (record { after = omega (arith, h.0.after, i); some = h.0.some; within = h.0.within; is_token = h.0.is_token }, h.1)

-- They stand in order.
code_placed : (text : List ℕ) (place : ℕ) (ts : List lex_token.Token) → AreTokensAfter text place ts
    → AreTokensAfter text place (code_of ts)
code_placed text place [] h = tt
code_placed text place (t ∷ ts) h = by_kind (is_code t.kind) (code_placed text (t.at + t.len) ts h.1) where
  by_kind : (b : Bool) → AreTokensAfter text (t.at + t.len) (code_of ts) → AreTokensAfter text place (cond b (t ∷ code_of ts) (code_of ts))
  by_kind true rest = (h.0, rest)
  by_kind false rest = earlier text place (t.at + t.len) (code_of ts) (omega (arith, h.0.after, h.0.some)) rest

-- The end is behind them.
code_ended : (front : List lex_token.Token) (n : ℕ) → code_of front ++ end_at n ∷ [] ≡ code_of (front ++ end_at n ∷ [])
code_ended [] n = refl
code_ended (t ∷ ts) n = by_kind (is_code t.kind) (code_ended ts n) where
  by_kind : (b : Bool) → code_of ts ++ end_at n ∷ [] ≡ code_of (ts ++ end_at n ∷ [])
      → cond b (t ∷ code_of ts) (code_of ts) ++ end_at n ∷ [] ≡ cond b (t ∷ code_of (ts ++ end_at n ∷ [])) (code_of (ts ++ end_at n ∷ []))
  by_kind true h = ap (λ (l : List lex_token.Token). t ∷ l) h
  by_kind false h = h

-- an edge of one of them is one among all tokens
edge_in : (ts : List lex_token.Token) (place : ℕ) → IsEdge (code_of ts) place → IsEdge ts place
edge_in ts place e =
    let (listed, of_code) = from_code ts e.token e.listed in
    record { token = e.token; listed = listed; is_code = of_code; some = e.some; edge = e.edge }

-- and a `/` is one of them
apart_in_all : (ts : List lex_token.Token) (place : ℕ) → IsBehindNoSlash (code_of ts) place → IsBehindNoSlash ts place
apart_in_all ts place h t listed slash end = h t (to_code ts t listed (ap (λ (k : lex_kind.Kind). is_code k) slash)) slash end

-- The anchors of a function stand in its text.
pub anchors_stand : (constants : List Definition) (text : List ℕ) (tokens front : List lex_token.Token) (first end : ℕ) (f : Function)
    → lex.Reads C text tokens → front ++ end_at (length text) ∷ [] ≡ tokens
    → Reads (tokens_of constants text (slice_range (code_of front) first end)) f → AnchorsStandIn text tokens (anchors_of f)
anchors_stand constants text tokens front first end f h ended reads =
    let all = placed_tokens C text tokens h in
    let P : List lex_token.Token → Type 0 = λ l. AreTokensAfter text 0 l in
    let placed = subst P (init_same (end_at (length text)) all.front front (all.ended ∙ sym ended)) all.placed in
    let code : code_of front ++ end_at (length text) ∷ [] ≡ code_of tokens =
    code_ended front (length text) ∙ ap (λ (l : List lex_token.Token). code_of l) ended in
    let stand = anchors_stand_in constants text (code_of tokens) (code_of front) code (code_placed text 0 front placed)
    (λ t listed. (from_code tokens t listed).1) first end f reads in
    record {
      order = stand.order;
      edges = λ k d i. edge_in tokens (get_or (anchors_of f) k d).place (stand.edges k d i);
      apart = λ k d i. apart_in_all tokens (get_or (anchors_of f) k d).place (stand.apart k d i);
    }
