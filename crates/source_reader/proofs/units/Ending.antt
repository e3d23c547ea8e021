-- Tokens of the code are counted up to where a unit ends.
use Rattle.std.proofs.Common.{◌≡◌, ◌∙◌, ◌+◌, ◌≤◌, ◌<◌, ℕ, ℤ, List, [], ◌∷◌, length, map, drop, get_or, Option, None, Some, refl, sym, ap}
use Rattle.std.proofs.Common.{arith}
use Rattle.std.proofs.lemmas.List.{at_drop_more, at_drop_all}
use Rattle.lang_tokens.specs.declared.token.Token as lex_token
use Rattle.lang_tokens.specs.declared.token.Kind as lex_kind
use Rattle.source_grammar.specs.Tokens.{Kind, a_name, a_number}
use Rattle.source_grammar.specs.View.{plain_kind}
use Rattle.source_tokens.specs.declared.definition.Definition.{Definition}
use Rattle.source_tokens.specs.Constants.{constant_at}
use Rattle.source_tokens.specs.View.{bytes_of, kind_of, tokens_of}
use Rattle.source_reader.specs.Units.{turn_in, turn_of, code_turn, unit_length, Goes}
use Rattle.source_reader.specs.declared.units.Turn.{Turn}

plain_turn : (k : Kind) → turn_in (plain_kind k) ≡ turn_in k
plain_turn (a_name x) = refl
plain_turn (a_number n) = refl
plain_turn _ = refl

-- what a token's symbol says of it
code_turn_is : (k : Kind) (t : lex_token.Token)
    → ((bytes : List ℕ) (value : Option ℤ) → k ≡ plain_kind (kind_of bytes value t.kind)) → turn_in k ≡ code_turn t
code_turn_is k t f = ap turn_in (f [] None) ∙ plain_turn (kind_of [] None t.kind)

-- the turns of the tokens are those of the code's
pub code_turns : (constants : List Definition) (text : List ℕ) (ts : List lex_token.Token)
    → map code_turn ts ≡ map turn_of (tokens_of constants text ts)
code_turns constants text [] = refl
code_turns constants text (t ∷ ts) =
    ap (λ b. b ∷ map code_turn ts) (own t.kind) ∙ ap (λ bs. own_turn ∷ bs) (code_turns constants text ts) where
      value : Option ℤ
      value = constant_at constants (bytes_of text t) t.at

      own_turn : Turn
      own_turn = turn_in (kind_of (bytes_of text t) value t.kind)

      own : (k : lex_kind.Kind) → turn_in (kind_of [] None k) ≡ turn_in (kind_of (bytes_of text t) value k)
      own lex_kind.TheVariants.Name = refl
      own _ = refl

-- at this token and this depth, no more than so many deep, the unit goes on
abbrev pub GoesOnAt : (depth i : ℕ) → List lex_token.Token → Type 0
GoesOnAt depth i items =
    (unit_length 0 (map code_turn items) ≡ i + unit_length depth (map code_turn (drop i items))) × (depth ≤ i) × (i ≤ length items)

at_token : (items : List lex_token.Token) (i : ℕ) (d : lex_token.Token) (k : Kind) → i < length items
    → ((bytes : List ℕ) (value : Option ℤ) → k ≡ plain_kind (kind_of bytes value (get_or items i d).kind))
    → map code_turn (drop i items) ≡ turn_in k ∷ map code_turn (drop (i + 1) items)
at_token items i d k h f = at_drop_more (map code_turn) items i d h
    ∙ ap (λ b. b ∷ map code_turn (drop (i + 1) items)) (sym (code_turn_is k (get_or items i d) f))

-- it goes on behind one more token
pub goes_on : (items : List lex_token.Token) (i depth next : ℕ) (d : lex_token.Token) (t : Turn) (k : Kind) → i < length items
    → t ≡ turn_in k → ((bytes : List ℕ) (value : Option ℤ) → k ≡ plain_kind (kind_of bytes value (get_or items i d).kind))
    → GoesOnAt depth i items → Goes depth t (Some next) → GoesOnAt next (i + 1) items
goes_on items i depth next d t k h e f was more =
    let p = ap (unit_length depth) (at_token items i d k h f) in
    let q = ap (λ b. unit_length depth (b ∷ map code_turn (drop (i + 1) items))) e in
    let r = more.0 (map code_turn (drop (i + 1) items)) in
    let s = was.0 in let l = was.1 in let m = more.1 in
    (omega (arith, p, q, r, s), omega (arith, l, m), omega (arith, h))

-- or has ended
pub goes_no_more : (items : List lex_token.Token) (i depth : ℕ) (d : lex_token.Token) (t : Turn) (k : Kind) → i < length items
    → t ≡ turn_in k → ((bytes : List ℕ) (value : Option ℤ) → k ≡ plain_kind (kind_of bytes value (get_or items i d).kind))
    → GoesOnAt depth i items → Goes depth t None → i ≡ unit_length 0 (map code_turn items)
goes_no_more items i depth d t k h e f was none =
    let p = ap (unit_length depth) (at_token items i d k h f) in
    let q = ap (λ b. unit_length depth (b ∷ map code_turn (drop (i + 1) items))) e in
    let r = none (map code_turn (drop (i + 1) items)) in
    let s = was.0 in omega (arith, p, q, r, s)

-- or behind the last token
pub goes_to_the_end : (items : List lex_token.Token) (i depth : ℕ) → length items ≤ i → GoesOnAt depth i items
    → length items ≡ unit_length 0 (map code_turn items)
goes_to_the_end items i depth h was =
    let p = at_drop_all (λ ts. unit_length depth (map code_turn ts)) items i h in
    let s = was.0 in let l = was.2 in omega (arith, p, s, l, h)
