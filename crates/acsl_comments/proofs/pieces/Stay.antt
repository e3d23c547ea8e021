-- The tokens of a text stay when comments are put in.
use Rattle.std.proofs.Common.{Contains, inl}
use Rattle.std.proofs.Common.{◌≡◌, ◌+◌, ◌&&◌, subst, inr, ℕ, ℤ, Bool, true, false, Option, Some, None, if◌then◌else◌, List, [], ◌∷◌, ◌++◌}
use Rattle.std.proofs.Common.{length, map, refl, ap, ap₂, sym, ◌∙◌, subst₂, arith}
use Rattle.std.proofs.lemmas.List.{append-nil, map-append}
use Rattle.std.proofs.lemmas.List.Elements.{recursion_from_All, All-weaker, Contains-append_left}
use Rattle.std.specs.List.{AllByRecursion}
use Rattle.std.specs.Option.{option_map}
use Rattle.std.specs.Str.{bytes_eq}
use Rattle.lang_tokens.specs.declared.lexicon.Lexicon.TheVariants.{C}
use Rattle.lang_tokens.specs.declared.token.Token.{Token}
use Rattle.lang_tokens.specs.declared.before.Before.TheVariants.{Blanks}
use Rattle.lang_tokens.specs.Reading.{Piece, spelling, AllFit, tokens_from, end_at, Reads}
use Rattle.lang_tokens.specs.declared.token.Kind.TheVariants.{End}
use Rattle.source_grammar.specs.Tokens as g
use Rattle.source_tokens.specs.Constants.{is_before, defined_at, constant_at}
use Rattle.source_tokens.specs.View.{bytes_of, kind_of, tokens_of}
use Rattle.source_tokens.specs.declared.definition.Definition.{Definition}
use Rattle.acsl_shift.specs.Moves.{moved}
use Rattle.acsl_comments.specs.Law.{TokensStay, ReadsWith, token_moved_by, definition_moved_by}
use Rattle.acsl_comments.specs.Places.{IsEdge, IsGap, IsBehindNoSlash, MayStand}
use Rattle.acsl_comments.specs.Texts.{moved_by}
use Rattle.acsl_comments.specs.declared.comment.Comment.{Comment}
use Rattle.acsl_comments.proofs.pieces.Edges.{MayHold, edge_in, IsClearIn, clear_in}
use Rattle.acsl_comments.proofs.pieces.Places.{length-with_comments, moved_order}
use Rattle.acsl_comments.proofs.pieces.Placed.{Placed, place_at, placed_from, lexed, placed_of, tokens_lexed, tokens_found, range_is}
use Rattle.acsl_comments.proofs.pieces.Steps.{Mixed}
use Rattle.acsl_comments.proofs.pieces.Whole.{mixed_from}

-- all tokens of pieces, with the end of their text
abbrev all_tokens : List Piece → List Token
all_tokens pieces = tokens_from 0 pieces ++ end_at (length (spelling pieces)) ∷ []

-- the same, each with its bytes
abbrev all_placed : List Piece → List Placed
all_placed pieces = placed_from 0 pieces ++ record { kind = End; bytes = []; at = length (spelling pieces) } ∷ []

-- tokens at other places, as the lexer sees them
lexed_moved : (comments : List Comment) (ps : List Placed) → map lexed (map (place_at (moved_by comments)) ps)
    ≡ map (token_moved_by comments) (map lexed ps)
lexed_moved comments [] = refl
lexed_moved comments (p ∷ ps) = ap (λ (ts : List Token). token_moved_by comments (lexed p) ∷ ts) (lexed_moved comments ps)

-- the end of a text has no bytes
end_bytes : (text : List ℕ) → bytes_of text (end_at (length text)) ≡ []
end_bytes text = let P : List ℕ → Type 0 = λ l. bytes_of l (end_at (length text)) ≡ [] in
    subst P (append-nil text) (range_is text [] [] (length text) (length text + 0) refl refl)

-- what the tokens are with their bytes
all_tokens_placed : (pieces : List Piece) → map (placed_of (spelling pieces)) (all_tokens pieces) ≡ all_placed pieces
all_tokens_placed pieces =
    let text = spelling pieces in
    let first : map (placed_of text) (tokens_from 0 pieces) ≡ placed_from 0 pieces =
    ap (map (placed_of text)) (tokens_lexed 0 pieces) ∙ tokens_found text [] 0 pieces refl refl in
    map-append (placed_of text) (tokens_from 0 pieces) (end_at (length text) ∷ [])
    ∙ ap₂ (λ (ps : List Placed) (bs : List ℕ). ps ++ record { kind = End; bytes = bs; at = length text } ∷ []) first (end_bytes text)

-- the bytes of tokens that stand so
bytes_placed : (text : List ℕ) (ts : List Token) → map (bytes_of text) ts ≡ map (λ (p : Placed). p.bytes) (map (placed_of text) ts)
bytes_placed text [] = refl
bytes_placed text (t ∷ ts) = ap (λ (bs : List (List ℕ)). bytes_of text t ∷ bs) (bytes_placed text ts)

-- tokens at other places have their bytes
bytes_moved : (to : ℕ → ℕ) (ps : List Placed) → map (λ (p : Placed). p.bytes) (map (place_at to) ps) ≡ map (λ (p : Placed). p.bytes) ps
bytes_moved to [] = refl
bytes_moved to (p ∷ ps) = ap (λ (bs : List (List ℕ)). p.bytes ∷ bs) (bytes_moved to ps)

-- ---- tokens as the grammar sees them
-- the definition of a name stands where it stood among the others
pub defined_moved : (comments : List Comment) (ds : List Definition) (x : List ℕ) (at : ℕ)
    → defined_at (map (definition_moved_by comments) ds) x (moved_by comments at)
    ≡ option_map (definition_moved_by comments) (defined_at ds x at)
defined_moved comments [] x at = refl
defined_moved comments (d ∷ ds) x at =
    ap₂ (λ (o : Option Definition) (t : Bool). elim o [
      | None ↦ if t then Some (definition_moved_by comments d) else None
      | Some e ↦ Some
          e
    ])
    (defined_moved comments ds x at) (ap (λ (t : Bool). bytes_eq x d.name && t) (moved_order comments d.at at))
    ∙ by_later (defined_at ds x at) (is_before x at d) where
      by_later : (o : Option Definition) (t : Bool)
          → elim (option_map (definition_moved_by comments) o) as (λ z. Option Definition)
          [ None ↦ if t then Some (definition_moved_by comments d) else None | Some e ↦ Some e ]
          ≡ option_map (definition_moved_by comments) (elim o as (λ z. Option Definition) [
            | None ↦ if t then Some d else None
            | Some e ↦
                Some e
          ])
      by_later None true = refl
      by_later None false = refl
      by_later (Some e) t = refl

-- so a name stands for the same number
pub constant_moved : (comments : List Comment) (ds : List Definition) (x : List ℕ) (at : ℕ)
    → constant_at (map (definition_moved_by comments) ds) x (moved_by comments at) ≡ constant_at ds x at
constant_moved comments ds x at =
    ap (λ (o : Option Definition). elim o [ None ↦ None | Some d ↦ d.value ]) (defined_moved comments ds x at)
    ∙ by_defined (defined_at ds x at) where
      by_defined : (o : Option Definition)
          → elim (option_map (definition_moved_by comments) o) as (λ z. Option ℤ) [ None ↦ None | Some d ↦ d.value ]
          ≡ elim o as (λ z. Option ℤ) [ None ↦ None | Some d ↦ d.value ]
      by_defined None = refl
      by_defined (Some d) = refl

-- a token as the grammar sees it
abbrev parsed : List Definition → Placed → g.Token
parsed ds p = g.token (kind_of p.bytes (constant_at ds p.bytes p.at) p.kind) p.at

-- tokens as the grammar sees them
parsed_placed : (ds : List Definition) (text : List ℕ) (ts : List Token) → tokens_of ds text ts ≡ map (parsed ds) (map (placed_of text) ts)
parsed_placed ds text [] = refl
parsed_placed ds text (t ∷ ts) = ap (λ (ps : List g.Token). parsed ds (placed_of text t) ∷ ps) (parsed_placed ds text ts)

-- tokens at other places, as the grammar sees them
parsed_moved : (comments : List Comment) (ds : List Definition) (ps : List Placed)
    → map (parsed (map (definition_moved_by comments) ds)) (map (place_at (moved_by comments)) ps)
    ≡ moved (moved_by comments) (map (parsed ds) ps)
parsed_moved comments ds [] = refl
parsed_moved comments ds (p ∷ ps) =
    ap₂ (λ (value : Option ℤ) (ts : List g.Token). g.token (kind_of p.bytes value p.kind) (moved_by comments p.at) ∷ ts)
    (constant_moved comments ds p.bytes p.at) (parsed_moved comments ds ps)

module _ (pieces : List Piece) (comments : List Comment) (fit : AllFit C Blanks pieces [])
    (stand : MayStand (spelling pieces) (all_tokens pieces) comments) where
  -- each comment may stand among the pieces
  held : AllByRecursion (λ c. MayHold false 0 pieces c.place) comments
  held = recursion_from_All (λ c. MayHold false 0 pieces c.place) comments
      (All-weaker (λ c. IsEdge (all_tokens pieces) c.place) (λ c. MayHold false 0 pieces c.place)
      (λ c edge. inr (edge_in pieces (length (spelling pieces)) c.place edge)) comments stand.edges)

  -- a token among the pieces is one of the text
  listed : (t : Token) → Contains (tokens_from 0 pieces) t → Contains (all_tokens pieces) t
  listed t h = Contains-append_left (tokens_from 0 pieces) (end_at (length (spelling pieces)) ∷ []) t h

  -- none stands right behind a `/` of the pieces
  apart : AllByRecursion (λ c. IsClearIn 0 pieces c.place) comments
  apart = recursion_from_All (λ c. IsClearIn 0 pieces c.place) comments
      (All-weaker (λ c. IsBehindNoSlash (all_tokens pieces) c.place) (λ c. IsClearIn 0 pieces c.place)
      (λ c none. clear_in 0 pieces c.place (λ t h. none t (listed t h))) comments stand.apart)

  -- the pieces with the comments put in
  mixed : Mixed Blanks 0 pieces comments
  mixed = mixed_from false Blanks 0 (length (spelling pieces)) pieces (λ e. cc) fit (omega arith) Blanks comments (inl refl) (record {
    order = stand.order;
    held = held;
    gaps = recursion_from_All (λ c. IsGap c.bytes) comments stand.gaps;
    apart = apart;
  })

  -- their tokens
  told : placed_from 0 mixed.now ≡ map (place_at (moved_by comments)) (placed_from 0 pieces)
  told = mixed.told 0 (moved_by comments) (λ place h. omega arith)

  -- where they end
  end_moved : length (spelling mixed.now) ≡ moved_by comments (length (spelling pieces))
  end_moved = omega (
    arith,
    ap length mixed.spelled,
    length-with_comments 0 (length (spelling pieces)) (spelling pieces) comments
        stand.order (omega arith),
  )

  -- the lexer's tokens are those of the text, moved
  tokens_moved : all_tokens mixed.now ≡ map (token_moved_by comments) (all_tokens pieces)
  tokens_moved =
      let front : tokens_from 0 mixed.now ≡ map (token_moved_by comments) (tokens_from 0 pieces) =
      tokens_lexed 0 mixed.now ∙ (ap (map lexed) told ∙ (lexed_moved comments (placed_from 0 pieces)
      ∙ ap (map (token_moved_by comments)) (sym (tokens_lexed 0 pieces)))) in
      ap₂ (λ (ts : List Token) (n : ℕ). ts ++ end_at n ∷ []) front end_moved
      ∙ sym (map-append (token_moved_by comments) (tokens_from 0 pieces) (end_at (length (spelling pieces)) ∷ []))

  -- and so are they with their bytes
  placed_too : all_placed mixed.now ≡ map (place_at (moved_by comments)) (all_placed pieces)
  placed_too =
      ap₂ (λ (ps : List Placed) (n : ℕ). ps ++ record { kind = End; bytes = []; at = n } ∷ []) told end_moved
      ∙ sym (map-append (place_at (moved_by comments)) (placed_from 0 pieces)
      (record { kind = End; bytes = []; at = length (spelling pieces) } ∷ []))

  -- they read as their tokens
  reads_now : Reads C (spelling mixed.now) (all_tokens mixed.now)
  reads_now = record {
    front = tokens_from 0 mixed.now;
    whole = record { pieces = mixed.now; spelled = append-nil (spelling mixed.now); fit = mixed.fit; place = refl; told = refl };
    told = refl;
  }

  -- the text of the pieces has the tokens that were there before, moved
  same_now : map (placed_of (spelling mixed.now)) (all_tokens mixed.now)
      ≡ map (place_at (moved_by comments)) (map (placed_of (spelling pieces)) (all_tokens pieces))
  same_now = all_tokens_placed mixed.now ∙ (placed_too ∙ ap (map (place_at (moved_by comments))) (sym (all_tokens_placed pieces)))

  -- their bytes are the same
  bytes_now : map (bytes_of (spelling mixed.now)) (all_tokens mixed.now) ≡ map (bytes_of (spelling pieces)) (all_tokens pieces)
  bytes_now = bytes_placed (spelling mixed.now) (all_tokens mixed.now)
      ∙ (ap (map (λ (p : Placed). p.bytes)) same_now
      ∙ (bytes_moved (moved_by comments) (map (placed_of (spelling pieces)) (all_tokens pieces))
      ∙ sym (bytes_placed (spelling pieces) (all_tokens pieces))))

  -- so are they to the grammar, but for their places
  parsed_now : (ds : List Definition) → tokens_of (map (definition_moved_by comments) ds) (spelling mixed.now) (all_tokens mixed.now)
      ≡ moved (moved_by comments) (tokens_of ds (spelling pieces) (all_tokens pieces))
  parsed_now ds =
      let now = map (definition_moved_by comments) ds in
      parsed_placed now (spelling mixed.now) (all_tokens mixed.now)
      ∙ (ap (map (parsed now)) same_now ∙ (parsed_moved comments ds (map (placed_of (spelling pieces)) (all_tokens pieces))
      ∙ ap (moved (moved_by comments)) (sym (parsed_placed ds (spelling pieces) (all_tokens pieces)))))

  -- the tokens of a text that is given by its pieces stay
  stay_spelled : ReadsWith (spelling pieces) (all_tokens pieces) comments
  stay_spelled = record {
    reads = subst₂ (Reads C) mixed.spelled tokens_moved reads_now;
    bytes = subst₂ (λ (text : List ℕ) (tokens : List Token). map (bytes_of text) tokens
        ≡ map (bytes_of (spelling pieces)) (all_tokens pieces)) mixed.spelled tokens_moved bytes_now;
    same = λ ds. subst₂ (λ (text : List ℕ) (tokens : List Token). tokens_of (map (definition_moved_by comments) ds) text tokens
        ≡ moved (moved_by comments) (tokens_of ds (spelling pieces) (all_tokens pieces))) mixed.spelled tokens_moved (parsed_now ds);
  }

-- The tokens of a text stay.
pub stay : TokensStay
stay text tokens comments reads stand =
    let pieces = reads.whole.pieces in
    let spelled : spelling pieces ≡ text = sym (append-nil (spelling pieces)) ∙ reads.whole.spelled in
    let all : all_tokens pieces ≡ tokens = ap₂ (λ (ts : List Token) (n : ℕ). ts ++ end_at n ∷ []) reads.whole.told (ap length spelled)
    ∙ reads.told in
    subst₂ (λ (text : List ℕ) (tokens : List Token). MayStand text tokens comments → ReadsWith text tokens comments) spelled all
    (stay_spelled pieces comments reads.whole.fit) stand
