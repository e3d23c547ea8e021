-- The tokens of a text, and what they are to the grammar.
use Rattle.std.proofs.Common.{◌≡◌, ◌∙◌, ◌+◌, ◌-◌, ◌++◌, ◌<◌, ◌≤◌, ℕ, zero, suc, Bool, true, false, List, [], ◌∷◌, length, map, drop}
use Rattle.std.proofs.Common.{take, nat_lt, refl, sym, ap, ap₂, arith}
use Rattle.std.proofs.Math.ListN.{get_or-append}
use Rattle.std.proofs.Math.Seq.{take-append_seam}
use Rattle.std.proofs.lemmas.Bool.{ltb-true, ltb-false}
use Rattle.std.proofs.lemmas.List.{drop-map, drop_all, drop_more, length-append, take-map}
use Rattle.std.specs.Prelude.{if◌then◌else◌, slice_range}
use Rattle.lang_grammar.specs.Grammar.{Kind, colon, semicolon, the_end, Expr, spell_expr}
use Rattle.lang_grammar.specs.Expressions.{IsLongest}
use Rattle.lang_grammar.specs.View.{kind_of, sign_kind, word_kind, token_of, tokens_of}
use Rattle.lang_tokens.specs.Lexemes.{IsToken}
use Rattle.lang_tokens.specs.Reading.{end_at}
use Rattle.lang_tokens.specs.TokenLists.{AreTokensAfter, AreTokensOf}
use Rattle.lang_tokens.specs.declared.sign.Sign as lex_sign
use Rattle.lang_tokens.specs.declared.word.Word as lex_word
use Rattle.lang_tokens.specs.declared.token.Kind as lex_kind
use Rattle.lang_tokens.specs.declared.token.Token as lex_token
use Rattle.ask_claims.specs.Claims.{is_choice, choice_at}
use Rattle.ask_claims.specs.Steps.{is_end, is_colon, is_semicolon, is_nondet, token_at, first_choice}
use Rattle.ask_claims.proofs.grammar.Spelling.{ends_claim}
use Rattle.ask_claims.proofs.grammar.Unexpected.{names_claim, ends_text, ends_name}

-- ---- kinds
pub word_other : (w : lex_word.Word) → (names_claim (word_kind w) ≡ false) × (ends_text (word_kind w) ≡ false)
word_other lex_word.TheVariants.Int = (refl, refl)
word_other _ = (refl, refl)

-- a sign neither begins a claim nor ends the text
pub sign_other : (s : lex_sign.Sign) → (names_claim (sign_kind s) ≡ false) × (ends_text (sign_kind s) ≡ false)
sign_other lex_sign.TheVariants.Colon = (refl, refl)
sign_other _ = (refl, refl)

word_ends : (w : lex_word.Word) → (ends_name (word_kind w) ≡ false) × (ends_claim (word_kind w) ≡ false)
word_ends lex_word.TheVariants.Int = (refl, refl)
word_ends _ = (refl, refl)

-- the grammar and the code take the same tokens for a `:`
pub colon_same : (b : List ℕ) (k : lex_kind.Kind) → ends_name (kind_of b k) ≡ is_colon k
colon_same b (lex_kind.TheVariants.Word w) = (word_ends w).0
colon_same b (lex_kind.TheVariants.Sign lex_sign.TheVariants.Colon) = refl
colon_same b (lex_kind.TheVariants.Sign _) = refl
colon_same b _ = refl

-- the grammar and the code take the same tokens for a `;`
pub semicolon_same : (b : List ℕ) (k : lex_kind.Kind) → ends_claim (kind_of b k) ≡ is_semicolon k
semicolon_same b (lex_kind.TheVariants.Word w) = (word_ends w).1
semicolon_same b (lex_kind.TheVariants.Sign lex_sign.TheVariants.Semicolon) = refl
semicolon_same b (lex_kind.TheVariants.Sign _) = refl
semicolon_same b _ = refl

is_the_colon : (k : Kind) → ends_name k ≡ true → k ≡ colon
is_the_colon colon h = refl
is_the_colon _ h = cc

is_the_semicolon : (k : Kind) → ends_claim k ≡ true → k ≡ semicolon
is_the_semicolon semicolon h = refl
is_the_semicolon _ h = cc

-- what the code takes for a `:` is one to the grammar
pub colon_is : (b : List ℕ) (k : lex_kind.Kind) → is_colon k ≡ true → kind_of b k ≡ colon
colon_is b k h = is_the_colon (kind_of b k) (colon_same b k ∙ h)

-- what the code takes for a `;` is one to the grammar
pub semicolon_is : (b : List ℕ) (k : lex_kind.Kind) → is_semicolon k ≡ true → kind_of b k ≡ semicolon
semicolon_is b k h = is_the_semicolon (kind_of b k) (semicolon_same b k ∙ h)

-- what the code takes for the end of the text is it to the grammar
pub end_is : (b : List ℕ) (k : lex_kind.Kind) → is_end k ≡ true → kind_of b k ≡ the_end
end_is b lex_kind.TheVariants.End h = refl
end_is b _ h = cc

-- ---- `nondet`
word_choice : (w : lex_word.Word) → is_nondet (lex_kind.TheVariants.Word w) ≡ is_choice (word_kind w)
word_choice lex_word.TheVariants.Nondet = refl
word_choice _ = refl

sign_choice : (s : lex_sign.Sign) → is_choice (sign_kind s) ≡ false
sign_choice lex_sign.TheVariants.Colon = refl
sign_choice _ = refl

choice_kind : (b : List ℕ) (k : lex_kind.Kind) → is_nondet k ≡ is_choice (kind_of b k)
choice_kind b (lex_kind.TheVariants.Word w) = word_choice w
choice_kind b (lex_kind.TheVariants.Sign s) = sym (sign_choice s)
choice_kind b _ = refl

-- the first `nondet` that the code finds is the first one to the grammar
pub choice_same : (text : List ℕ) (ts : List lex_token.Token) → first_choice ts ≡ choice_at (tokens_of text ts)
choice_same text [] = refl
choice_same text (t ∷ ts) =
    ap₂ (λ (b : Bool) (r : ℕ). if b then t.at else r) (choice_kind (slice_range text t.at (t.at + t.len)) t.kind) (choice_same text ts)

-- ---- the tokens from one on
pub drop_token : (text : List ℕ) (ts : List lex_token.Token) (i : ℕ) → i < length ts
    → drop i (tokens_of text ts) ≡ token_of text (token_at ts i) ∷ drop (i + 1) (tokens_of text ts)
drop_token text ts i h =
    drop-map (token_of text) i ts ∙ ap (map (token_of text)) (drop_more ts i (end_at 0) h)
    ∙ ap (λ y. token_of text (token_at ts i) ∷ y) (sym (drop-map (token_of text) (i + 1) ts))

-- the tokens of the longest expression
pub spelled : (text : List ℕ) (ts : List lex_token.Token) (from n : ℕ) (e : Expr) → IsLongest (drop from (tokens_of text ts)) n e
    → tokens_of text (slice_range ts from (from + n)) ≡ spell_expr e
spelled text ts from n e l =
    let i : from + n - from ≡ n = omega arith in
    ap (λ k. map (token_of text) (take k (drop from ts))) i ∙ sym (take-map (token_of text) n (drop from ts))
    ∙ ap (take n) (sym (drop-map (token_of text) from ts) ∙ l.split)
    ∙ ap (λ k. take k (l.front ++ l.next ∷ l.rest)) (sym l.size) ∙ take-append_seam l.front (l.next ∷ l.rest) ∙ sym l.reads.spelled

-- ---- the end of a text is its last token
kind_goes : (k : lex_kind.Kind) (b : List ℕ) → IsToken k b → is_end k ≡ false
kind_goes lex_kind.TheVariants.End b h = absurd h
kind_goes _ b h = refl

placed_goes : (text : List ℕ) (place : ℕ) (ts : List lex_token.Token) (i : ℕ) → AreTokensAfter text place ts → i < length ts
    → is_end (token_at ts i).kind ≡ false
placed_goes text place [] i a h = absurd (omega arith)
placed_goes text place (t ∷ ts) zero a h = kind_goes t.kind _ a.0.is_token
placed_goes text place (t ∷ ts) (suc i) a h = placed_goes text (t.at + t.len) ts i a.1 (omega (arith, h))

-- behind the end of the text no token follows
pub end_last : (text : List ℕ) (ts : List lex_token.Token) (i : ℕ) → AreTokensOf text ts → is_end (token_at ts i).kind ≡ true
    → drop (i + 1) (tokens_of text ts) ≡ []
end_last text ts i a h = drop-map (token_of text) (i + 1) ts ∙ ap (map (token_of text))
    (drop_all (i + 1) ts (on (nat_lt i (length a.front)) refl)) where
      size : length ts ≡ length a.front + 1
      size = ap length (sym a.ended) ∙ length-append a.front (end_at (length text) ∷ [])

      on : (b : Bool) → nat_lt i (length a.front) ≡ b → length ts ≤ i + 1
      on true m =
          let l = ltb-true i (length a.front) m in
          let same : token_at ts i ≡ token_at a.front i = ap (λ x. token_at x i) (sym a.ended)
          ∙ get_or-append a.front (end_at (length text) ∷ []) (end_at 0) i l in
          let goes : is_end (token_at ts i).kind ≡ false = ap (λ (t : lex_token.Token). is_end t.kind) same
          ∙ placed_goes text 0 a.front i a.placed l in
          absurd (let k : true ≡ false = sym h ∙ goes in cc)
      on false m = let l = ltb-false i (length a.front) m in omega (arith, size, l)
