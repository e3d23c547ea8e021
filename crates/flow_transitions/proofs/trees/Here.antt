-- What the reading sees of a token is what the token is to the grammar.
use Rattle.std.proofs.Common.{◌≡◌, ◌∙◌, ◌+◌, ◌<◌, ℕ, List, [], ◌∷◌, length, map, drop, get_or, refl, sym, ap, ap₂}
use Rattle.std.proofs.lemmas.List.{drop-map, drop_more}
use Rattle.std.proofs.lemmas.Option.{slice_get-get_or}
use Rattle.std.specs.Prelude.{slice_range}
use Rattle.lang_grammar.specs.Grammar.{Kind, a_name, comma, semicolon, left_brace, right_brace, left_paren, right_paren, change_sign}
use Rattle.lang_grammar.specs.Grammar.{replaces}
use Rattle.lang_grammar.specs.Grammar.{demand_word, assumes as to_assume, the_end, token}
use Rattle.lang_grammar.specs.View.{sign_kind}
use Rattle.lang_tokens.specs.Lines.{line_at}
use Rattle.lang_tokens.specs.Reading.{end_at}
use Rattle.lang_tokens.specs.declared.sign.Sign as lex_sign
use Rattle.lang_tokens.specs.declared.word.Word as lex_word
use Rattle.lang_tokens.specs.declared.token.Kind as lex_kind
use Rattle.lang_tokens.specs.declared.token.Token as lex_token
use Rattle.flow_transitions.specs.declared.reading.symbol.Symbol.{Symbol}
use Rattle.flow_transitions.specs.declared.reading.symbol.Symbol.TheVariants as symbol
use Rattle.flow_transitions.specs.AutoSymbols.{symbol_of, word_symbol, sign_symbol, Seen, seen, seen_or_end, seen_at}
use Rattle.flow_transitions.specs.AutoGrammar.{kind_here, token_here, tokens_here}
use Rattle.flow_transitions.specs.AutoReading.{Stand, Progress, token_at, at_vars, at_variable, at_points, at_point, at_edge, at_source}
use Rattle.flow_transitions.specs.AutoReading.{at_target}
use Rattle.flow_transitions.specs.AutoReading.{at_act}

abbrev pub symbol_here : Kind → Symbol
symbol_here (a_name x) = symbol.Name
symbol_here comma = symbol.Comma
symbol_here semicolon = symbol.Semicolon
symbol_here (change_sign replaces) = symbol.Equal
symbol_here left_paren = symbol.LeftParen
symbol_here right_paren = symbol.RightParen
symbol_here left_brace = symbol.LeftBrace
symbol_here right_brace = symbol.RightBrace
symbol_here (demand_word to_assume) = symbol.Assume
symbol_here the_end = symbol.End
symbol_here _ = symbol.Other

abbrev pub name_in : Kind → List ℕ
name_in (a_name x) = x
name_in _ = []

-- a token as the reading sees it
abbrev pub seen_here : List ℕ → Kind → ℕ → Seen
seen_here text k a = record { symbol = symbol_here k; bytes = name_in k; line = line_at text a; at = a }

-- only of a name the bytes are looked at
abbrev with_bytes : Symbol → List ℕ → ℕ → ℕ → Seen
with_bytes y b line a = record { symbol = y; bytes = b; line = line; at = a }

no_bytes : (stand : Stand) (r : Progress) (y : Symbol) (b : List ℕ) (line a : ℕ) → (y ≡ symbol.Name → ⊥)
    → token_at stand r (with_bytes y b line a) ≡ token_at stand r (with_bytes y [] line a)
no_bytes at_vars r symbol.Name b line a h = absurd (h refl)
no_bytes at_vars r _ b line a h = refl
no_bytes at_variable r symbol.Name b line a h = absurd (h refl)
no_bytes at_variable r _ b line a h = refl
no_bytes at_points r symbol.Name b line a h = absurd (h refl)
no_bytes at_points r _ b line a h = refl
no_bytes at_point r symbol.Name b line a h = absurd (h refl)
no_bytes at_point r _ b line a h = refl
no_bytes at_edge r symbol.Name b line a h = absurd (h refl)
no_bytes at_edge r _ b line a h = refl
no_bytes (at_source l) r symbol.Name b line a h = absurd (h refl)
no_bytes (at_source l) r _ b line a h = refl
no_bytes (at_target l f p) r symbol.Name b line a h = absurd (h refl)
no_bytes (at_target l f p) r _ b line a h = refl
no_bytes (at_act e) r symbol.Name b line a h = absurd (h refl)
no_bytes (at_act e) r _ b line a h = refl
no_bytes _ r symbol.Comma b line a h = refl
no_bytes _ r symbol.Semicolon b line a h = refl
no_bytes _ r _ b line a h = refl

word_here : (b : List ℕ) (w : lex_word.Word) → (word_symbol w ≡ symbol.Name → ⊥)
    × (word_symbol w ≡ symbol_here (kind_here b (lex_kind.TheVariants.Word w)))
    × ([] ≡ name_in (kind_here b (lex_kind.TheVariants.Word w)))
word_here b lex_word.TheVariants.VerifierAssume = (λ h. cc, refl, refl)
word_here b lex_word.TheVariants.Assert = (λ h. cc, refl, refl)
word_here b lex_word.TheVariants.VerifierAssert = (λ h. cc, refl, refl)
word_here b _ = (λ h. cc, refl, refl)

sign_here : (s : lex_sign.Sign) → (sign_symbol s ≡ symbol.Name → ⊥) × (sign_symbol s ≡ symbol_here (sign_kind s))
    × ([] ≡ name_in (sign_kind s))
sign_here lex_sign.TheVariants.Comma = (λ h. cc, refl, refl)
sign_here _ = (λ h. cc, refl, refl)

kind_seen : (text b : List ℕ) (a : ℕ) (stand : Stand) (r : Progress) (k : lex_kind.Kind)
    → token_at stand r (with_bytes (symbol_of k) b (line_at text a) a) ≡ token_at stand r (seen_here text (kind_here b k) a)
kind_seen text b a stand r k = on k where
  by : (k : lex_kind.Kind) → (symbol_of k ≡ symbol.Name → ⊥) × (symbol_of k ≡ symbol_here (kind_here b k)) × ([] ≡ name_in (kind_here b k))
      → token_at stand r (with_bytes (symbol_of k) b (line_at text a) a) ≡ token_at stand r (seen_here text (kind_here b k) a)
  by k h = no_bytes stand r (symbol_of k) b (line_at text a) a h.0 ∙ ap₂ (λ y z. token_at stand r (with_bytes y z (line_at text a) a)) h.1
      h.2

  on : (k : lex_kind.Kind) → token_at stand r (with_bytes (symbol_of k) b (line_at text a) a)
      ≡ token_at stand r (seen_here text (kind_here b k) a)
  on lex_kind.TheVariants.Name = refl
  on (lex_kind.TheVariants.Word w) = by (lex_kind.TheVariants.Word w) (word_here b w)
  on (lex_kind.TheVariants.Sign s) = by (lex_kind.TheVariants.Sign s) (sign_here s)
  on (lex_kind.TheVariants.Number n) = by (lex_kind.TheVariants.Number n) (λ h. cc, refl, refl)
  on (lex_kind.TheVariants.Foreign f) = by (lex_kind.TheVariants.Foreign f) (λ h. cc, refl, refl)
  on (lex_kind.TheVariants.Aside s) = by (lex_kind.TheVariants.Aside s) (λ h. cc, refl, refl)
  on lex_kind.TheVariants.End = by lex_kind.TheVariants.End (λ h. cc, refl, refl)

symbol_seen : (b : List ℕ) (k : lex_kind.Kind) → symbol_of k ≡ symbol_here (kind_here b k)
symbol_seen b lex_kind.TheVariants.Name = refl
symbol_seen b (lex_kind.TheVariants.Word w) = (word_here b w).1
symbol_seen b (lex_kind.TheVariants.Sign s) = (sign_here s).1
symbol_seen b _ = refl

module _ (text : List ℕ) (tokens : List lex_token.Token) where
  abbrev pub there : ℕ → lex_token.Token
  there i = get_or tokens i (end_at 0)

  abbrev pub kind_at : ℕ → Kind
  kind_at i = kind_here (slice_range text (there i).at ((there i).at + (there i).len)) (there i).kind

  -- the tokens from number i on begin with the token of this number
  pub drop_here : (i : ℕ) → i < length tokens → drop i (tokens_here text tokens)
      ≡ token (kind_at i) (there i).at ∷ drop (i + 1) (tokens_here text tokens)
  drop_here i h =
      drop-map (token_here text) i tokens ∙ ap (map (token_here text)) (drop_more tokens i (end_at 0) h)
      ∙ ap (λ y. token_here text (there i) ∷ y) (sym (drop-map (token_here text) (i + 1) tokens))

  seen_is : (i : ℕ) → i < length tokens → seen_at text tokens i ≡ seen text (there i)
  seen_is i h = ap (seen_or_end text) (slice_get-get_or tokens i (end_at 0) h)

  -- the reading steps with a token as with its kind and place
  pub token_seen : (i : ℕ) (stand : Stand) (r : Progress) → i < length tokens
      → token_at stand r (seen_at text tokens i) ≡ token_at stand r (seen_here text (kind_at i) (there i).at)
  token_seen i stand r h = ap (token_at stand r) (seen_is i h) ∙ kind_seen text _ (there i).at stand r (there i).kind

  -- the reading sees a token in its place
  pub place_seen : (i : ℕ) → i < length tokens → (seen_at text tokens i).at ≡ (there i).at
  place_seen i h = ap (λ (s : Seen). s.at) (seen_is i h)

  -- the reading sees the symbol of the token's kind
  pub symbol_there : (i : ℕ) → i < length tokens → (seen_at text tokens i).symbol ≡ symbol_here (kind_at i)
  symbol_there i h = ap (λ (s : Seen). s.symbol) (seen_is i h) ∙ symbol_seen _ (there i).kind
