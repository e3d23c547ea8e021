-- The lines on which the tokens of a generated text stand.
use Rattle.std.proofs.Common.{◌≡◌, ◌+◌, ℕ, Bool, true, false, cond, eqb, List, [], ◌∷◌, ◌++◌, length, take, refl, sym, ap, ap₂, ◌∙◌, arith}
use Rattle.std.specs.List.{count_by, list_all}
use Rattle.std.proofs.lemmas.Bool.{and_parts, eqb-true}
use Rattle.std.proofs.lemmas.List.{append_assoc, append-nil, length-append, take_at}
use Rattle.std.proofs.lemmas.List.Sums.{sum_by-append}
use Rattle.lang_tokens.specs.declared.sign.Sign.{Sign}
use Rattle.lang_tokens.specs.declared.sign.Sign.TheVariants.{LeftParen}
use Rattle.lang_tokens.specs.Bytes.{is_letter, is_digit, is_word_byte}
use Rattle.lang_tokens.specs.Words.{word_bytes}
use Rattle.lang_tokens.specs.Signs.{sign_bytes}
use Rattle.lang_tokens.specs.Lines.{line_at}
use Rattle.lang_tokens.proofs.lexemes.Heads.{word_spelled}
use Rattle.lang_grammar.specs.Grammar as g
use Rattle.out_workload.proofs.bodies.WholeTokens.{word_passes, numeral_passes}
use Rattle.out_workload.proofs.bodies.Pieces.{Part, space, word, sign, letter, number, part_bytes, spelled, IsGood, AllGood, good_parts}
use Rattle.out_workload.proofs.bodies.Pieces.{part_tokens, tokens_at}

-- how many line feeds there are
abbrev pub feeds : List ℕ → ℕ
feeds bytes = count_by (λ b. eqb b 10) bytes

abbrev pub line_behind : ℕ → Part → ℕ
line_behind line (space b) = cond (eqb b 10) (line + 1) line
line_behind line _ = line

abbrev pub part_lines : ℕ → Part → List ℕ
part_lines line (space b) = []
part_lines line _ = line ∷ []

-- the line of each token, where the first part stands on this line
abbrev pub lines_at : ℕ → List Part → List ℕ
lines_at line [] = []
lines_at line (p ∷ ps) = part_lines line p ++ lines_at (line_behind line p) ps

-- the line after all parts
abbrev pub line_after : ℕ → List Part → ℕ
line_after line [] = line
line_after line (p ∷ ps) = line_after (line_behind line p) ps

-- the lines of tokens
abbrev pub lines_of : (ℕ → ℕ) → List g.Token → List ℕ
lines_of line [] = []
lines_of line (g.token k a ∷ ts) = line a ∷ lines_of line ts

lines_append : (line : ℕ → ℕ) (xs ys : List g.Token) → lines_of line (xs ++ ys) ≡ lines_of line xs ++ lines_of line ys
lines_append line [] ys = refl
lines_append line (g.token k a ∷ xs) ys = ap (λ l. line a ∷ l) (lines_append line xs ys)

-- ---- tokens have no line feed
one_feed : (b : ℕ) (t : Bool) → eqb b 10 ≡ t → feeds (b ∷ []) ≡ cond t 1 0
one_feed b true e = let f : cond {A = ℕ} (eqb b 10) 1 0 ≡ 1 = ap (λ (t : Bool). cond {A = ℕ} t 1 0) e in omega (arith, f)
one_feed b false e = let f : cond {A = ℕ} (eqb b 10) 1 0 ≡ 0 = ap (λ (t : Bool). cond {A = ℕ} t 1 0) e in omega (arith, f)

no_feed : (p : ℕ → Bool) (b : ℕ) (t : Bool) → p 10 ≡ false → eqb b 10 ≡ t → p b ≡ true → feeds (b ∷ []) ≡ 0
no_feed p b true n e h = let no : p b ≡ false = ap p (eqb-true b 10 e) ∙ n in cc
no_feed p b false n e h = one_feed b false e

no_feeds : (p : ℕ → Bool) (bytes : List ℕ) → p 10 ≡ false → list_all p bytes ≡ true → feeds bytes ≡ 0
no_feeds p [] n h = refl
no_feeds p (b ∷ bs) n h =
    let both = and_parts (p b) (list_all p bs) h in
    omega (arith, sum_by-append (λ b. cond (eqb b 10) 1 0) (b ∷ []) bs, no_feed p b (eqb b 10) n refl both.0, no_feeds p bs n both.1)

sign_feeds : (s : Sign) → feeds (sign_bytes s) ≡ 0
sign_feeds LeftParen = refl
sign_feeds _ = refl

space_line : (b line : ℕ) (t : Bool) → eqb b 10 ≡ t → cond (eqb b 10) (line + 1) line ≡ line + feeds (b ∷ [])
space_line b line true e = ap (λ (t : Bool). cond t (line + 1) line) e ∙ omega (arith, one_feed b true e)
space_line b line false e = ap (λ (t : Bool). cond t (line + 1) line) e ∙ omega (arith, one_feed b false e)

line_behind_is : (p : Part) (line : ℕ) → IsGood p → line_behind line p ≡ line + feeds (part_bytes p)
line_behind_is (space b) line g = space_line b line (eqb b 10) refl
line_behind_is (word w) line g = omega (arith, no_feeds is_word_byte (word_bytes w) refl (word_passes (word_bytes w) (word_spelled w)))
line_behind_is (sign s) line g = omega (arith, sign_feeds s)
line_behind_is (letter b) line g = omega (arith, no_feed is_letter b (eqb b 10) refl refl g)
line_behind_is (number n bytes) line g = omega (arith, no_feeds is_digit bytes refl (numeral_passes bytes g.digits))

-- ---- the lines of the text's tokens
line_here : (text front after : List ℕ) (at line : ℕ) → front ++ after ≡ text → length front ≡ at → 1 + feeds front ≡ line
    → line_at text at ≡ line
line_here text front after at line e f h = ap (λ (x : List ℕ). 1 + feeds x) (ap (take at) (sym e) ∙ take_at front after at f) ∙ h

part_lines_are : (text front after : List ℕ) (at line : ℕ) (p : Part) → front ++ after ≡ text → length front ≡ at → 1 + feeds front ≡ line
    → lines_of (line_at text) (part_tokens at p) ≡ part_lines line p
part_lines_are text front after at line (space b) e f h = refl
part_lines_are text front after at line (word w) e f h = ap (λ (x : ℕ). x ∷ []) (line_here text front after at line e f h)
part_lines_are text front after at line (sign s) e f h = ap (λ (x : ℕ). x ∷ []) (line_here text front after at line e f h)
part_lines_are text front after at line (letter b) e f h = ap (λ (x : ℕ). x ∷ []) (line_here text front after at line e f h)
part_lines_are text front after at line (number n bytes) e f h = ap (λ (x : ℕ). x ∷ []) (line_here text front after at line e f h)

-- the lines of the tokens of parts within a text are those counted part by part
pub lines_are : (text front after : List ℕ) (at line : ℕ) (ps : List Part) → AllGood ps → front ++ (spelled ps ++ after) ≡ text
    → length front ≡ at → 1 + feeds front ≡ line → lines_of (line_at text) (tokens_at at ps) ≡ lines_at line ps
lines_are text front after at line [] g e f h = refl
lines_are text front after at line (p ∷ ps) g e f h =
    let one : front ++ (part_bytes p ++ (spelled ps ++ after)) ≡ text =
    ap (λ (x : List ℕ). front ++ x) (sym (append_assoc (part_bytes p) (spelled ps) after)) ∙ e in
    let more : (front ++ part_bytes p) ++ (spelled ps ++ after) ≡ text = append_assoc front (part_bytes p) (spelled ps ++ after) ∙ one in
    let size : length (front ++ part_bytes p) ≡ at + length (part_bytes p) = omega (arith, length-append front (part_bytes p)) in
    let good = good_parts p ps g in
    let behind : line_behind line p ≡ line + feeds (part_bytes p) = line_behind_is p line good.0 in
    let lines : 1 + feeds (front ++ part_bytes p) ≡ line_behind line p =
    omega (arith, sum_by-append (λ b. cond (eqb b 10) 1 0) front (part_bytes p), behind) in
    lines_append (line_at text) (part_tokens at p) (tokens_at (at + length (part_bytes p)) ps)
    ∙ ap₂ (λ (x y : List ℕ). x ++ y) (part_lines_are text front (part_bytes p ++ (spelled ps ++ after)) at line p one f h)
    (lines_are text (front ++ part_bytes p) after (at + length (part_bytes p)) (line_behind line p) ps good.1 more size lines)

-- the line after all parts
pub behind_all : (front : List ℕ) (line : ℕ) (ps : List Part) → AllGood ps → 1 + feeds front ≡ line
    → 1 + feeds (front ++ spelled ps) ≡ line_after line ps
behind_all front line [] g h = ap (λ (x : List ℕ). 1 + feeds x) (append-nil front) ∙ h
behind_all front line (p ∷ ps) g h =
    let good = good_parts p ps g in
    let behind : line_behind line p ≡ line + feeds (part_bytes p) = line_behind_is p line good.0 in
    let lines : 1 + feeds (front ++ part_bytes p) ≡ line_behind line p =
    omega (arith, sum_by-append (λ b. cond (eqb b 10) 1 0) front (part_bytes p), behind) in
    ap (λ (x : List ℕ). 1 + feeds x) (sym (append_assoc front (part_bytes p) (spelled ps)))
    ∙ behind_all (front ++ part_bytes p) (line_behind line p) ps good.1 lines
