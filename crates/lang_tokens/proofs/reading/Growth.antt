-- A reading grows by the piece that stands next.
use Rattle.std.proofs.Common.{◌≡◌, ◌≤◌, ◌<◌, ◌+◌, ◌-◌, ℕ, Bool, true, List, [], ◌∷◌, ◌++◌, length, take, drop, refl, sym, ap, subst, ◌∙◌}
use Rattle.std.proofs.Common.{arith, Option, Some}
use Rattle.std.proofs.Common.{None}
use Rattle.std.proofs.lemmas.List.{append_assoc, append-nil, length-append, length-drop, take_rest, drop_at, drop-drop}
use Rattle.lang_tokens.specs.declared.lexicon.Lexicon.{Lexicon}
use Rattle.lang_tokens.specs.declared.lexicon.Lexicon.TheVariants.{Own, C}
use Rattle.lang_tokens.specs.declared.token.Kind.{Kind}
use Rattle.lang_tokens.specs.declared.token.Token.{Token}
use Rattle.lang_tokens.specs.declared.found.Found.{Found}
use Rattle.lang_tokens.specs.declared.before.Before.{Before}
use Rattle.lang_tokens.specs.declared.before.Before.TheVariants.{Blanks}
use Rattle.lang_tokens.specs.Bytes.{is_letter, is_digit, is_quote}
use Rattle.lang_tokens.specs.Signs.{sign_bytes, foreign_bytes}
use Rattle.lang_tokens.specs.Lexemes.{IsLexeme, IsForeignLexeme, a_word, a_number, a_sign, an_other, a_foreign_sign, a_quoted, a_stray}
use Rattle.lang_tokens.specs.Reading.{Piece, blank, line_comment, block_comment, token, piece_bytes, spelling, Fits, AllFit, piece_tokens}
use Rattle.lang_tokens.specs.Reading.{tokens_from, ReadsUpTo, behind, behind_all}
use Rattle.lang_tokens.specs.declared.fault.LexFault.{LexFault}
use Rattle.lang_tokens.specs.Faults.{Stands, HasFault}
use Rattle.lang_tokens.specs.Steps.{StandsFirst, piece_kind}
use Rattle.lang_tokens.proofs.quoted.Parts.{quoted_test}
use Rattle.lang_tokens.proofs.lexemes.Heads.{heads, is_mark, sign_heads, foreign_heads, word_heads, numeral_heads, leads_number}
use Rattle.lang_tokens.proofs.lexemes.Heads.{number_heads, quoted_heads}

heads_some : (p : ℕ → Bool) (xs : List ℕ) → heads p xs ≡ true → 0 < length xs
heads_some p [] h = cc
heads_some p (x ∷ xs) h = omega arith

foreign_some : (bytes : List ℕ) → IsForeignLexeme bytes → 0 < length bytes
foreign_some bytes (a_foreign_sign sign e) =
    subst (λ (bs : List ℕ). 0 < length bs) e (heads_some is_mark (foreign_bytes sign) (foreign_heads sign))
foreign_some bytes (a_quoted q) = heads_some is_quote bytes (quoted_heads bytes (quoted_test bytes q))
foreign_some bytes (a_stray b is e) = rw (← e) (omega arith)

-- a lexeme has a byte
pub lexeme_some : (lexicon : Lexicon) (bytes : List ℕ) → IsLexeme lexicon bytes → 0 < length bytes
lexeme_some lexicon bytes (a_word w) = heads_some is_letter bytes (word_heads bytes w)
lexeme_some Own bytes (a_number n) = heads_some is_digit bytes (numeral_heads bytes n)
lexeme_some C bytes (a_number n) = heads_some leads_number bytes (number_heads bytes n)
lexeme_some lexicon bytes (a_sign sign e) =
    subst (λ (bs : List ℕ). 0 < length bs) e (heads_some is_mark (sign_bytes sign) (sign_heads sign))
lexeme_some Own bytes (an_other o) = absurd o
lexeme_some C bytes (an_other o) = foreign_some bytes o

-- a piece has a byte
pub piece_some : (lexicon : Lexicon) (before : Before) (piece : Piece) (rest : List ℕ) → Fits lexicon before piece rest
    → 0 < length (piece_bytes piece)
piece_some lexicon before (blank b) rest fits = omega arith
piece_some lexicon before (line_comment body) rest fits = omega arith
piece_some lexicon before (block_comment body) rest fits = omega arith
piece_some lexicon before (token kind bytes) rest fits = lexeme_some lexicon bytes fits.1.longest.lexeme

spelling_push : (pieces : List Piece) (piece : Piece) → spelling (pieces ++ piece ∷ []) ≡ spelling pieces ++ piece_bytes piece
spelling_push [] piece = append-nil (piece_bytes piece)
spelling_push (p ∷ pieces) piece = ap (λ (bs : List ℕ). piece_bytes p ++ bs) (spelling_push pieces piece)
    ∙ sym (append_assoc (piece_bytes p) (spelling pieces) (piece_bytes piece))

spelled_push : (pieces : List Piece) (piece : Piece) (rest : List ℕ) →
    spelling (pieces ++ piece ∷ []) ++ rest ≡ spelling pieces ++ (piece_bytes piece ++ rest)
spelled_push pieces piece rest = ap (λ (bs : List ℕ). bs ++ rest) (spelling_push pieces piece)
    ∙ append_assoc (spelling pieces) (piece_bytes piece) rest

fit_push : (lexicon : Lexicon) (before : Before) (pieces : List Piece) (piece : Piece) (rest : List ℕ)
    → AllFit lexicon before pieces (piece_bytes piece ++ rest) → Fits lexicon (behind_all before pieces) piece rest
    → AllFit lexicon before (pieces ++ piece ∷ []) rest
fit_push lexicon before [] piece rest fit fits = (fits, tt)
fit_push lexicon before (p ∷ pieces) piece rest fit fits = (
  subst (Fits lexicon before p) (sym (spelled_push pieces piece rest)) fit.0,
  fit_push lexicon (behind before p) pieces piece rest fit.1 fits,
)

-- what stands before what follows a piece behind pieces
pub behind_push : (before : Before) (pieces : List Piece) (piece : Piece) → behind_all before (pieces ++ piece ∷ [])
    ≡ behind (behind_all before pieces) piece
behind_push before [] piece = refl
behind_push before (p ∷ pieces) piece = behind_push (behind before p) pieces piece

tokens_push : (at : ℕ) (pieces : List Piece) (piece : Piece) → tokens_from at (pieces ++ piece ∷ [])
    ≡ tokens_from at pieces ++ piece_tokens (at + length (spelling pieces)) piece
tokens_push at [] piece = let none : at + 0 ≡ at = omega arith in rw none (append-nil (piece_tokens at piece))
tokens_push at (p ∷ pieces) piece =
    let next : at + length (piece_bytes p) + length (spelling pieces) ≡ at + length (piece_bytes p ++ spelling pieces) =
    omega (arith, length-append (piece_bytes p) (spelling pieces)) in
    let more = tokens_push (at + length (piece_bytes p)) pieces piece in
    ap (λ (ts : List Token). piece_tokens at p ++ ts) (rw next at more)
    ∙ sym (append_assoc (piece_tokens at p) (tokens_from (at + length (piece_bytes p)) pieces)
    (piece_tokens (at + length (piece_bytes p ++ spelling pieces)) piece))

-- A reading, and what stands in its line before what follows.
pub record ReadsBehind (lexicon : Lexicon) (text : List ℕ) (at : ℕ) (tokens : List Token) (rest : List ℕ) (before : Before) : Type 0 where
  -- the text reads up to this place
  pub reads : ReadsUpTo lexicon text at tokens rest
  -- this stands before what follows
  pub behind_is : behind_all Blanks reads.pieces ≡ before

-- every text reads up to its start, as no tokens
pub reads_none : (lexicon : Lexicon) (text : List ℕ) → ReadsBehind lexicon text 0 [] text Blanks
reads_none lexicon text = record { reads = record { pieces = []; spelled = refl; fit = tt; place = refl; told = refl }; behind_is = refl }

-- the token of what is found
abbrev pub found_tokens : ℕ → Option Kind → ℕ → List Token
found_tokens at None len = []
found_tokens at (Some kind) len = record { kind = kind; at = at; len = len } ∷ []

found_piece : (at : ℕ) (piece : Piece) (kind : Option Kind) (len : ℕ) → length (piece_bytes piece) ≡ len → piece_kind piece ≡ kind
    → piece_tokens at piece ≡ found_tokens at kind len
found_piece at (token k bytes) kind len e f = rw (← f, ← e) refl
found_piece at (blank b) kind len e f = rw (← f) refl
found_piece at (line_comment body) kind len e f = rw (← f) refl
found_piece at (block_comment body) kind len e f = rw (← f) refl

-- a reading goes on by the piece that stands first in the rest
pub reads_more : (lexicon : Lexicon) (text : List ℕ) (at : ℕ) (tokens : List Token) (rest : List ℕ) (before : Before) (found : Found)
    → ReadsBehind lexicon text at tokens rest before → StandsFirst lexicon before rest found
    → ReadsBehind lexicon text (at + found.len) (tokens ++ found_tokens at found.kind found.len) (drop found.len rest) found.behind
reads_more lexicon text at tokens rest before found so_far stands = record {
  reads = record {
    pieces = pieces;
    spelled = spelled_push reads.pieces stands.piece (drop found.len rest)
        ∙ (ap (λ (bs : List ℕ). spelling reads.pieces ++ bs) split ∙ reads.spelled);
    fit = fit_push lexicon Blanks reads.pieces stands.piece (drop found.len rest)
        (subst (AllFit lexicon Blanks reads.pieces) (sym split) reads.fit)
        (subst (λ (b : Before). Fits lexicon b stands.piece (drop found.len rest)) (sym so_far.behind_is)
        (subst (Fits lexicon before stands.piece) after stands.fits));
    place = place;
    told = tokens_push 0 reads.pieces stands.piece ∙ told;
  };
  behind_is = behind_push Blanks reads.pieces stands.piece
      ∙ (ap (λ (b : Before). behind b stands.piece) so_far.behind_is ∙ stands.behind_is);
}
  where
    reads : ReadsUpTo lexicon text at tokens rest
    reads = so_far.reads

    pieces : List Piece
    pieces = reads.pieces ++ stands.piece ∷ []

    after : stands.after ≡ drop found.len rest
    after = sym (drop_at (piece_bytes stands.piece) stands.after found.len stands.length_is) ∙ ap (drop found.len) stands.split

    split : piece_bytes stands.piece ++ drop found.len rest ≡ rest
    split = rw (← after) stands.split

    place : length (spelling pieces) ≡ at + found.len
    place = omega (
      arith,
      ap length (spelling_push reads.pieces stands.piece),
      length-append (spelling reads.pieces) (piece_bytes stands.piece),
      stands.length_is,
      reads.place,
    )

    told : tokens_from 0 reads.pieces ++ piece_tokens (0 + length (spelling reads.pieces)) stands.piece
        ≡ tokens ++ found_tokens at found.kind found.len
    told =
        let here : 0 + length (spelling reads.pieces) ≡ at = omega (arith, reads.place) in
        let piece = found_piece at stands.piece found.kind found.len stands.length_is stands.kind_is in
        rw (reads.told, here, piece) refl

-- a fault that stands behind a reading is the fault of its text
pub fault_behind : (lexicon : Lexicon) (text : List ℕ) (at : ℕ) (tokens : List Token) (rest : List ℕ) (before : Before) (fault : LexFault)
    → ReadsBehind lexicon text at tokens rest before → Stands lexicon fault before at rest → HasFault lexicon text fault
fault_behind lexicon text at tokens rest before fault so_far stands = record {
  place = at;
  tokens = tokens;
  rest = rest;
  reads = so_far.reads;
  stands = subst (λ (b : Before). Stands lexicon fault b at rest) (sym so_far.behind_is) stands;
}

-- what is found lies in the rest, and has a byte
pub found_some : (lexicon : Lexicon) (before : Before) (rest : List ℕ) (found : Found) → StandsFirst lexicon before rest found
    → 0 < found.len
found_some lexicon before rest found stands =
    omega (arith, piece_some lexicon before stands.piece stands.after stands.fits, stands.length_is)

-- what is found lies within the rest
pub found_within : (lexicon : Lexicon) (before : Before) (rest : List ℕ) (found : Found) → StandsFirst lexicon before rest found
    → found.len ≤ length rest
found_within lexicon before rest found stands = omega (
  arith,
  stands.length_is,
  ap length stands.split,
  length-append (piece_bytes stands.piece) stands.after,
)

-- one turn of the loop
pub reads_step : (lexicon : Lexicon) (text : List ℕ) (at : ℕ) (tokens items : List Token) (before : Before) (found : Found)
    → ReadsBehind lexicon text at tokens (drop at text) before → StandsFirst lexicon before (take (length text - at) (drop at text)) found
    → items ≡ tokens ++ found_tokens at found.kind found.len
    → ReadsBehind lexicon text (at + found.len) items (drop (at + found.len) text) found.behind
reads_step lexicon text at tokens items before found reads stands e =
    let here = rw (take_rest text at) at stands in
    let more = reads_more lexicon text at tokens (drop at text) before found reads here in
    rw e (rw (drop-drop found.len at text) at more)

-- what is found from a place on ends within the text
pub found_fits : (lexicon : Lexicon) (text : List ℕ) (at : ℕ) (before : Before) (found : Found) → at ≤ length text
    → StandsFirst lexicon before (take (length text - at) (drop at text)) found → at + found.len ≤ length text
found_fits lexicon text at before found within stands = omega (
  arith,
  found_within lexicon before (drop at text) found (rw (take_rest text at) at stands),
  length-drop at text,
)

-- the fault that stands where the lexer is, is the fault of the text
pub fault_step : (lexicon : Lexicon) (text : List ℕ) (at : ℕ) (tokens : List Token) (before : Before) (fault : LexFault)
    → ReadsBehind lexicon text at tokens (drop at text) before → Stands lexicon fault before at (take (length text - at) (drop at text))
    → HasFault lexicon text fault
fault_step lexicon text at tokens before fault so_far stands =
    fault_behind lexicon text at tokens (drop at text) before fault so_far (rw (take_rest text at) at stands)
