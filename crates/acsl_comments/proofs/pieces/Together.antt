-- Where no comment stands the text goes on as it did; and none stands in a directive.
use Rattle.std.proofs.Common.{◌≡◌, ◌≤◌, ◌<◌, ◌+◌, ◌-◌, ◌⊎◌, inl, inr, ⊎_elim, ℕ, zero, suc, Bool, true, false, cond, not, nat_le, List, []}
use Rattle.std.proofs.Common.{◌∷◌, ◌++◌}
use Rattle.std.proofs.Common.{length, take, drop, refl, sym, ap, subst, ◌∙◌, arith}
use Rattle.std.specs.List.{AllByRecursion, slice_range}
use Rattle.std.proofs.lemmas.Bool.{le-leb, lt-leb}
use Rattle.std.proofs.lemmas.List.{append_assoc, length-drop, length-take-le, take-append-drop, drop-drop}
use Rattle.std.proofs.Math.Seq.{drop-append-add}
use Rattle.lang_tokens.specs.declared.lexicon.Lexicon.TheVariants.{C}
use Rattle.lang_tokens.specs.declared.before.Before.{Before}
use Rattle.lang_tokens.specs.declared.before.Before.TheVariants.{Blanks, Others, Directive}
use Rattle.lang_tokens.specs.declared.token.Aside.TheVariants as aside
use Rattle.lang_tokens.specs.declared.token.Kind.{Kind}
use Rattle.lang_tokens.specs.declared.token.Kind.TheVariants as kind
use Rattle.lang_tokens.specs.declared.token.Token.{Token}
use Rattle.lang_tokens.specs.Bytes.{is_blank}
use Rattle.lang_tokens.specs.Reading.{Piece, blank, line_comment, block_comment, token, piece_bytes, AllFit, tokens_from, behind_token}
use Rattle.lang_tokens.specs.Reading.{behind_blank, behind_comment, is_outside, may_stand}
use Rattle.lang_tokens.specs.TokenLists.{AreTokensAfter}
use Rattle.source_constants.specs.Directives.{is_code, asides_of, is_hash, len_to_hash, directives_of}
use Rattle.acsl_comments.specs.Places.{Ascend}
use Rattle.acsl_comments.specs.Texts.{moved_by, with_comments}
use Rattle.acsl_comments.specs.declared.comment.Comment.{Comment}
use Rattle.acsl_comments.proofs.pieces.Plain.{blank_outside}
use Rattle.acsl_comments.proofs.pieces.Edges.{IsEdgeIn}
use Rattle.acsl_comments.proofs.pieces.Places.{places, ascend_within, moved_before}

-- no comment stands between two places
abbrev pub Clear : (low high : ℕ) → List Comment → Type 0
Clear low high comments = AllByRecursion (λ c. (c.place ≤ low) ⊎ (high ≤ c.place)) comments

-- what is clear up to behind another place and from there on is clear
pub clear_join : (low between on high : ℕ) (comments : List Comment) → on < between → Clear low between comments → Clear on high comments
    → Clear low high comments
clear_join low between on high [] h i j = tt
clear_join low between on high (c ∷ cs) h i j = (
  ⊎_elim (λ l. inl l) (λ m. ⊎_elim (λ k. absurd (omega (arith, h, m, k))) (λ k. inr k) j.0) i.0,
  clear_join low between on high cs h i.1 j.1,
)

-- ---- places
-- what stands where no comment does is moved as the first place is
pub moved_on : (comments : List Comment) (low place high : ℕ) → low ≤ place → place < high → Clear low high comments
    → moved_by comments place ≡ moved_by comments low + (place - low)
moved_on [] low place high h i clear = omega (arith, h)
moved_on (c ∷ cs) low place high h i clear =
    let rest = moved_on cs low place high h i clear.1 in
    ⊎_elim
    (λ (first : c.place ≤ low).
    let later : c.place ≤ place = omega (arith, first, h) in
    rw (le-leb c.place low first, le-leb c.place place later) (omega (arith, rest)))
    (λ (last : high ≤ c.place).
    let before : low < c.place = omega (arith, last, h, i) in
    let past : place < c.place = omega (arith, last, i) in
    rw (lt-leb c.place low before, lt-leb c.place place past) rest)
    clear.0

-- nothing is moved to the left
pub moved_right : (comments : List Comment) (place : ℕ) → place ≤ moved_by comments place
moved_right [] place = omega arith
moved_right (c ∷ cs) place = by_place (leb_of c.place place) (moved_right cs place) where
  leb_of : ℕ → ℕ → Bool
  leb_of a b = nat_le a b

  by_place : (t : Bool) → place ≤ moved_by cs place → place ≤ cond t (length c.bytes + moved_by cs place) (moved_by cs place)
  by_place true h = omega (arith, h)
  by_place false h = h

-- ---- bytes
-- bytes within a front are told by it alone
front_only : (xs ys zs : List ℕ) (m n : ℕ) → m + n ≤ length xs → take n (drop m (xs ++ ys)) ≡ take n (drop m (xs ++ zs))
front_only xs ys zs m zero h = refl
front_only [] ys zs m (suc n) h = absurd (omega (arith, h))
front_only (x ∷ xs) ys zs zero (suc n) h = ap (λ (l : List ℕ). x ∷ l) (front_only xs ys zs zero n (omega (arith, h)))
front_only (x ∷ xs) ys zs (suc m) (suc n) h = front_only xs ys zs m (suc n) (omega (arith, h))

-- behind a front of that length
drop_front : (xs ys : List ℕ) (n m : ℕ) → length xs ≡ n → drop (n + m) (xs ++ ys) ≡ drop m ys
drop_front xs ys n m e = ap (λ (k : ℕ). drop (k + m) (xs ++ ys)) (sym e) ∙ drop-append-add xs ys m

-- the bytes from a place on where no comment stands between
bytes_on : (at to : ℕ) (rest : List ℕ) (comments : List Comment) (low n high : ℕ) → Ascend at to (places comments) → at + length rest ≡ to
    → at ≤ low → low < high → low + n ≤ high → high ≤ to → Clear low high comments
    → take n (drop (moved_by comments low - at) (with_comments at rest comments)) ≡ take n (drop (low - at) rest)
bytes_on at to rest [] low n high order e h some within end clear = refl
bytes_on at to rest (c ∷ cs) low n high order e h some within end clear =
    let k = c.place - at in
    let upper : c.place ≤ to = ascend_within c.place to (places cs) order.1 in
    let len : length (take k rest) ≡ k = length-take-le k rest (omega (arith, order.0, upper, e)) in
    let more = with_comments c.place (drop k rest) cs in
    ⊎_elim
    (λ (first : c.place ≤ low).
    let right = moved_right cs low in
    let rest_is = bytes_on c.place to (drop k rest) cs low n high order.1 (omega (arith, length-drop k rest, order.0, upper, e)) first some
    within end clear.1 in
    let shift : (length c.bytes + moved_by cs low) - at ≡ k + (length c.bytes + (moved_by cs low - c.place)) =
    omega (arith, right, first, order.0, h) in
    let there : k + (low - c.place) ≡ low - at = omega (arith, first, order.0, h) in
    rw (le-leb c.place low first, shift) (ap (λ (l : List ℕ). take n l)
    (drop_front (take k rest) (c.bytes ++ more) k (length c.bytes + (moved_by cs low - c.place)) len
    ∙ drop_front c.bytes more (length c.bytes) (moved_by cs low - c.place) refl)
    ∙ rest_is ∙ ap (λ (l : List ℕ). take n l) (drop-drop (low - c.place) k rest ∙ ap (λ (m : ℕ). drop m rest) there)))
    (λ (last : high ≤ c.place).
    let before : low < c.place = omega (arith, last, some) in
    let stays : moved_by cs low ≡ low = moved_before cs c.place to low order.1 before in
    let short : (low - at) + n ≤ length (take k rest) = omega (arith, len, last, within, h) in
    rw (lt-leb c.place low before, stays) (front_only (take k rest) (c.bytes ++ more) (drop k rest) (low - at) n short
    ∙ ap (λ (l : List ℕ). take n (drop (low - at) l)) (take-append-drop k rest)))
    clear.0

-- The bytes between two places between which no comment stands are the same.
pub slice_on : (text : List ℕ) (comments : List Comment) (low n high : ℕ) → Ascend 0 (length text) (places comments) → low < high
    → low + n ≤ high → high ≤ length text → Clear low high comments
    → slice_range (with_comments 0 text comments) (moved_by comments low) (moved_by comments low + n) ≡ slice_range text low (low + n)
slice_on text comments low n high order some within end clear =
    let one : (moved_by comments low + n) - moved_by comments low ≡ n = omega arith in
    let two : (low + n) - low ≡ n = omega arith in
    let here : moved_by comments low - 0 ≡ moved_by comments low = omega arith in
    let there : low - 0 ≡ low = omega arith in
    let same = bytes_on 0 (length text) text comments low n high order (omega arith) (omega arith) some within end clear in
    rw (one, two) (rw (here, there) at same)

-- ---- tokens of directives
-- a token of no directive among these begins or ends at the place
abbrev pub IsEdgeOf : List Token → ℕ → Type 0
IsEdgeOf [] place = ⊥
IsEdgeOf (t ∷ ts) place = ((is_code t.kind ≡ true) × ((place ≡ t.at) ⊎ (place ≡ t.at + t.len))) ⊎ IsEdgeOf ts place

-- an edge among pieces is one among their tokens
pub edge_of : (at : ℕ) (pieces : List Piece) (place : ℕ) → IsEdgeIn at pieces place → IsEdgeOf (tokens_from at pieces) place
edge_of at [] place e = e
edge_of at (token k bytes ∷ pieces) place (inl e) = inl e
edge_of at (token k bytes ∷ pieces) place (inr e) = inr (edge_of (at + length bytes) pieces place e)
edge_of at (blank b ∷ pieces) place (inl e) = absurd e
edge_of at (blank b ∷ pieces) place (inr e) = edge_of (at + 1) pieces place e
edge_of at (line_comment body ∷ pieces) place (inl e) = absurd e
edge_of at (line_comment body ∷ pieces) place (inr e) = edge_of (at + length (piece_bytes (line_comment body))) pieces place e
edge_of at (block_comment body ∷ pieces) place (inl e) = absurd e
edge_of at (block_comment body ∷ pieces) place (inr e) = edge_of (at + length (piece_bytes (block_comment body))) pieces place e

-- behind a token of the code stands none of a directive but one that begins it
abbrev pub IsRow : (inside : Bool) → List Token → Type 0
IsRow inside [] = Unit {0}
IsRow inside (t ∷ ts) = (is_code t.kind ≡ false → is_hash t.kind ≡ false → inside ≡ true) × IsRow (not (is_code t.kind)) ts

-- the tokens of a reading are so
row_first : (before : Before) (inside : Bool) (k : Kind) (bytes rest : List ℕ) → (before ≡ Directive → inside ≡ true)
    → may_stand C before k ≡ true → is_code k ≡ false → is_hash k ≡ false → inside ≡ true
row_first before inside (kind.Aside aside.Hash) bytes rest h fit code hash = let none : true ≡ false = hash in cc
row_first Directive inside (kind.Aside sort) bytes rest h fit code hash = h refl
row_first Blanks inside (kind.Aside (aside.Word w)) bytes rest h fit code hash = let none : false ≡ true = fit in cc
row_first Blanks inside (kind.Aside _) bytes rest h fit code hash = let none : false ≡ true = fit in cc
row_first Others inside (kind.Aside (aside.Word w)) bytes rest h fit code hash = let none : false ≡ true = fit in cc
row_first Others inside (kind.Aside _) bytes rest h fit code hash = let none : false ≡ true = fit in cc
row_first before inside _ bytes rest h fit code hash = let none : true ≡ false = code in cc

-- behind a token in a directive it goes on, and behind another one none does
row_behind : (k : Kind) → behind_token k ≡ Directive → not (is_code k) ≡ true
row_behind (kind.Aside sort) h = refl
row_behind _ h = cc

-- a directive that goes on behind a blank or a comment did before it
blank_before : (before : Before) (b : ℕ) → is_blank b ≡ true → behind_blank before b ≡ Directive → before ≡ Directive
blank_before Directive b h e = refl
blank_before Blanks b h e = let out = blank_outside Blanks b refl h in let same = ap is_outside e in cc
blank_before Others b h e = let out = blank_outside Others b refl h in let same = ap is_outside e in cc

comment_before : (before : Before) → behind_comment before ≡ Directive → before ≡ Directive
comment_before Directive e = refl
comment_before Blanks e = cc
comment_before Others e = cc

-- tokens of pieces that fit start a row as the place before them says
pub row_of : (before : Before) (inside : Bool) (at : ℕ) (pieces : List Piece) → AllFit C before pieces []
    → (before ≡ Directive → inside ≡ true) → IsRow inside (tokens_from at pieces)
row_of before inside at [] fit h = tt
row_of before inside at (token k bytes ∷ pieces) fit h = (
  row_first before inside k bytes [] h fit.0.0,
  row_of (behind_token k) (not (is_code k)) (at + length bytes) pieces fit.1 (row_behind k),
)
row_of before inside at (blank b ∷ pieces) fit h =
    row_of (behind_blank before b) inside (at + 1) pieces fit.1 (λ e. h (blank_before before b fit.0 e))
row_of before inside at (line_comment body ∷ pieces) fit h =
    row_of (behind_comment before) inside (at + length (piece_bytes (line_comment body))) pieces fit.1 (λ e. h (comment_before before e))
row_of before inside at (block_comment body ∷ pieces) fit h =
    row_of (behind_comment before) inside (at + length (piece_bytes (block_comment body))) pieces fit.1 (λ e. h (comment_before before e))

-- a token stands behind another one within the text, with no comment between them
pub record IsNear (text : List ℕ) (comments : List Comment) (t u : Token) : Type 0 where
  -- the first has bytes
  pub first : 0 < t.len
  -- it ends before the second one
  pub order : t.at + t.len ≤ u.at
  -- that has bytes
  pub some : 0 < u.len
  -- and stands in the text
  pub within : u.at + u.len ≤ length text
  -- no comment stands between the first byte and the last
  pub clear : Clear t.at (u.at + u.len) comments

-- so does each of these, the first behind this token
abbrev pub AreNear : List ℕ → List Comment → Token → List Token → Type 0
AreNear text comments t [] = Unit {0}
AreNear text comments t (u ∷ us) = IsNear text comments t u × AreNear text comments u us

-- so do the tokens of a directive behind its first
abbrev pub IsTogether : List ℕ → List Comment → List Token → Type 0
IsTogether text comments [] = Unit {0}
IsTogether text comments (t ∷ ts) = AreNear text comments t ts

-- so do those of all directives
abbrev pub AreTogether : List ℕ → List Comment → List (List Token) → Type 0
AreTogether text comments [] = Unit {0}
AreTogether text comments (d ∷ ds) = IsTogether text comments d × AreTogether text comments ds

-- edges of tokens behind a place are behind it
edge_after : (text : List ℕ) (q : ℕ) (ts : List Token) (place : ℕ) → AreTokensAfter text q ts → IsEdgeOf ts place → q ≤ place
edge_after text q [] place h e = absurd e
edge_after text q (t ∷ ts) place h (inl (code, inl e)) = omega (arith, h.0.after, e)
edge_after text q (t ∷ ts) place h (inl (code, inr e)) = omega (arith, h.0.after, e)
edge_after text q (t ∷ ts) place h (inr e) = omega (arith, h.0.after, edge_after text (t.at + t.len) ts place h.1 e)

-- the first place of tokens isn't behind any of them
place_after : (text : List ℕ) (xs : List Token) (t : Token) (ys : List Token) (q : ℕ) → AreTokensAfter text q (xs ++ t ∷ ys) → q ≤ t.at
place_after text [] t ys q h = h.0.after
place_after text (x ∷ xs) t ys q h = let i = place_after text xs t ys (x.at + x.len) h.1 in omega (arith, h.0.after, i)

-- an edge isn't between two tokens of a directive that stand one behind the other
edge_apart : (text : List ℕ) (xs : List Token) (t u : Token) (ys : List Token) (q place : ℕ) → AreTokensAfter text q (xs ++ t ∷ u ∷ ys)
    → is_code t.kind ≡ false → is_code u.kind ≡ false → IsEdgeOf (xs ++ t ∷ u ∷ ys) place → (place ≤ t.at) ⊎ (u.at + u.len ≤ place)
edge_apart text [] t u ys q place h a b (inl e) = let code = e.0 in absurd cc
edge_apart text [] t u ys q place h a b (inr (inl e)) = let code = e.0 in absurd cc
edge_apart text [] t u ys q place h a b (inr (inr e)) = inr (edge_after text (u.at + u.len) ys place h.1.1 e)
edge_apart text (x ∷ xs) t u ys q place h a b (inl (code, inl e)) =
    inl (let i = place_after text xs t (u ∷ ys) (x.at + x.len) h.1 in omega (arith, e, i))
edge_apart text (x ∷ xs) t u ys q place h a b (inl (code, inr e)) =
    inl (let i = place_after text xs t (u ∷ ys) (x.at + x.len) h.1 in omega (arith, e, i))
edge_apart text (x ∷ xs) t u ys q place h a b (inr e) = edge_apart text xs t u ys (x.at + x.len) place h.1 a b e

-- nor is a comment
clear_apart : (text : List ℕ) (xs : List Token) (t u : Token) (ys : List Token) (comments : List Comment)
    → AreTokensAfter text 0 (xs ++ t ∷ u ∷ ys) → is_code t.kind ≡ false → is_code u.kind ≡ false
    → AllByRecursion (λ c. IsEdgeOf (xs ++ t ∷ u ∷ ys) c.place) comments → Clear t.at (u.at + u.len) comments
clear_apart text xs t u ys [] h a b edges = tt
clear_apart text xs t u ys (c ∷ cs) h a b edges =
    (edge_apart text xs t u ys 0 c.place h a b edges.0, clear_apart text xs t u ys cs h a b edges.1)

-- two tokens that stand one behind the other
two_in : (text : List ℕ) (xs : List Token) (t u : Token) (ys : List Token) (q : ℕ) → AreTokensAfter text q (xs ++ t ∷ u ∷ ys)
    → (0 < t.len) × (t.at + t.len ≤ u.at) × (0 < u.len) × (u.at + u.len ≤ length text)
two_in text [] t u ys q h = (h.0.some, h.1.0.after, h.1.0.some, h.1.0.within)
two_in text (x ∷ xs) t u ys q h = two_in text xs t u ys (x.at + x.len) h.1

module _ (text : List ℕ) (comments : List Comment) (front : List Token) (placed : AreTokensAfter text 0 front)
    (edges : AllByRecursion (λ c. IsEdgeOf front c.place) comments) where
  -- two tokens of a directive
  near : (xs : List Token) (t u : Token) (ys : List Token) → xs ++ t ∷ u ∷ ys ≡ front → is_code t.kind ≡ false → is_code u.kind ≡ false
      → IsNear text comments t u
  near xs t u ys e a b =
      let P : List Token → Type 0 = λ l. AreTokensAfter text 0 l in
      let Q : List Token → Type 0 = λ l. AllByRecursion (λ c. IsEdgeOf l c.place) comments in
      let here = subst P (sym e) placed in
      let two = two_in text xs t u ys 0 here in
      record {
        first = two.0;
        order = two.1;
        some = two.2;
        within = two.3;
        clear = clear_apart text xs t u ys comments here a b (subst Q (sym e) edges);
      }

  -- the tokens up to the next directive
  abbrev to_hash : List Token → List Token
  to_hash ts = take (len_to_hash ts) ts

  -- behind a token of the code there are none
  none_behind : (ts : List Token) → IsRow false ts → to_hash (asides_of ts) ≡ []
  none_behind [] row = refl
  none_behind (u ∷ ts) row = by_kind (is_code u.kind) refl (is_hash u.kind) refl row.0 row.1 (λ more. none_behind ts more) where
    by_kind : (code : Bool) → is_code u.kind ≡ code → (hash : Bool) → is_hash u.kind ≡ hash
        → (is_code u.kind ≡ false → is_hash u.kind ≡ false → false ≡ true) → IsRow (not (is_code u.kind)) ts
        → (IsRow false ts → to_hash (asides_of ts) ≡ [])
        → to_hash (cond (not code) (u ∷ asides_of ts) (asides_of ts)) ≡ []
    by_kind true e hash f none more rest =
        let P : Bool → Type 0 = λ t. IsRow (not t) ts in rest (subst P e more)
    by_kind false e true f none more rest = rw f refl
    by_kind false e false f none more rest = let no = none e f in cc

  -- behind a token of a directive they stand together
  near_behind : (xs : List Token) (t : Token) (ts : List Token) → xs ++ t ∷ ts ≡ front → is_code t.kind ≡ false → IsRow true ts
      → AreNear text comments t (to_hash (asides_of ts))
  near_behind xs t [] e a row = tt
  near_behind xs t (u ∷ ts) e a row =
      by_kind (is_code u.kind) refl (is_hash u.kind) refl row.1
      (λ b r. near_behind (xs ++ t ∷ []) u ts (append_assoc xs (t ∷ []) (u ∷ ts) ∙ e) b r) where
        row_on : (code : Bool) → is_code u.kind ≡ code → IsRow (not (is_code u.kind)) ts → IsRow (not code) ts
        row_on code f r = let P : Bool → Type 0 = λ t. IsRow (not t) ts in subst P f r

        by_kind : (code : Bool) → is_code u.kind ≡ code → (hash : Bool) → is_hash u.kind ≡ hash → IsRow (not (is_code u.kind)) ts
            → (is_code u.kind ≡ false → IsRow true ts → AreNear text comments u (to_hash (asides_of ts)))
            → AreNear text comments t (to_hash (cond (not code) (u ∷ asides_of ts) (asides_of ts)))
        by_kind true f hash g r more =
            let P : List Token → Type 0 = λ l. AreNear text comments t l in subst P (sym (none_behind ts (row_on true f r))) tt
        by_kind false f true g r more = rw g tt
        by_kind false f false g r more =
            let one : 1 + len_to_hash (asides_of ts) ≡ suc (len_to_hash (asides_of ts)) = omega arith in
            rw (g, one) (near xs t u ts e a f, more f (row_on false f r))

  -- So do the tokens of each directive.
  pub together : (xs ts : List Token) (inside : Bool) → xs ++ ts ≡ front → IsRow inside ts
      → AreTogether text comments (directives_of (asides_of ts))
  together xs [] inside e row = tt
  together xs (t ∷ ts) inside e row =
      by_kind (is_code t.kind) refl (is_hash t.kind) refl row.1
      (λ r. together (xs ++ t ∷ []) ts (not (is_code t.kind)) (append_assoc xs (t ∷ []) ts ∙ e) r) where
        first : (d : List Token) → AreNear text comments t d → IsTogether text comments d
        first [] h = tt
        first (u ∷ us) h = h.1

        by_kind : (code : Bool) → is_code t.kind ≡ code → (hash : Bool) → is_hash t.kind ≡ hash → IsRow (not (is_code t.kind)) ts
            → (IsRow (not (is_code t.kind)) ts → AreTogether text comments (directives_of (asides_of ts)))
            → AreTogether text comments (directives_of (cond (not code) (t ∷ asides_of ts) (asides_of ts)))
        by_kind true f hash g r more = more r
        by_kind false f true g r more =
            let P : Bool → Type 0 = λ t. IsRow (not t) ts in
            rw g (first (to_hash (asides_of ts)) (near_behind xs t ts e f (subst P f r)), more r)
        by_kind false f false g r more = rw g (more r)
