-- One token more of a function whose variables are counted.
use Rattle.std.proofs.Common.{◌≡◌, ◌∙◌, ◌+◌, ◌<◌, ◌++◌, ◌&&◌, not, ℕ, ℤ, suc, Bool, true, false, List, [], ◌∷◌, Option, None, length, drop}
use Rattle.std.proofs.Common.{get_or}
use Rattle.std.proofs.Common.{refl, sym, ap, ap₂, arith, drop-cons}
use Rattle.std.proofs.Common.{if◌then◌else◌}
use Rattle.lang_tokens.specs.declared.word.Word.{Word}
use Rattle.lang_tokens.specs.declared.word.Word.TheVariants.{Main}
use Rattle.lang_tokens.specs.declared.sign.Sign.{Sign}
use Rattle.lang_tokens.specs.declared.sign.Sign.TheVariants.{LeftParen}
use Rattle.lang_tokens.specs.declared.token.Kind as lex_kind
use Rattle.lang_tokens.specs.declared.token.Token as lex_token
use Rattle.source_grammar.specs.Tokens.{Kind, a_name, a_number, Token}
use Rattle.source_grammar.specs.View.{plain_kind}
use Rattle.source_tokens.specs.View.{bytes_of, kind_of, sign_kind, tokens_of, word_kind}
use Rattle.source_file.specs.declared.width.Place.{Place}
use Rattle.source_file.specs.declared.width.Place.TheVariants.{Heading, Elsewhere, Declaring, Behind}
use Rattle.source_file.specs.Width.{begins_bracket, behind, declared_from, declaring, elsewhere, in_heading, is_name, names, next}
use Rattle.source_file.specs.Width.{text_of}

-- ---- texts and numbers don't matter

heading_plain : (k : Kind) → in_heading (plain_kind k) ≡ in_heading k
heading_plain (a_name x) = refl
heading_plain (a_number n) = refl
heading_plain k = refl

elsewhere_plain : (k : Kind) → elsewhere (plain_kind k) ≡ elsewhere k
elsewhere_plain (a_name x) = refl
elsewhere_plain (a_number n) = refl
elsewhere_plain k = refl

declaring_plain : (k : Kind) → declaring (plain_kind k) ≡ declaring k
declaring_plain (a_name x) = refl
declaring_plain (a_number n) = refl
declaring_plain k = refl

behind_plain : (k : Kind) (d : ℕ) → behind (plain_kind k) d ≡ behind k d
behind_plain (a_name x) d = refl
behind_plain (a_number n) d = refl
behind_plain k d = refl

name_plain : (k : Kind) → is_name (plain_kind k) ≡ is_name k
name_plain (a_name x) = refl
name_plain (a_number n) = refl
name_plain k = refl

next_plain : (p : Place) (k : Kind) → next p (plain_kind k) ≡ next p k
next_plain Heading k = heading_plain k
next_plain Elsewhere k = elsewhere_plain k
next_plain Declaring k = declaring_plain k
next_plain (Behind d) k = behind_plain k d

names_plain : (p : Place) (k : Kind) → names p (plain_kind k) ≡ names p k
names_plain Heading k = refl
names_plain Elsewhere k = refl
names_plain Declaring k = name_plain k
names_plain (Behind d) k = refl

-- ---- a declared name is the bytes of its token

word_name : (w : Word) → is_name (word_kind w) ≡ false
word_name Main = refl
word_name w = refl

sign_name : (s : Sign) → is_name (sign_kind s) ≡ false
sign_name LeftParen = refl
sign_name s = refl

named : (p : Place) (k : Kind) → is_name k ≡ false → names p k ≡ false
named Heading k e = refl
named Elsewhere k e = refl
named Declaring k e = e
named (Behind d) k e = refl

abbrev chosen : (test more : Bool) → List ℕ → List (List ℕ)
chosen test more x = if test && more then x ∷ [] else []

unnamed : (p : Place) (k : Kind) (more : Bool) (x : List ℕ) → is_name k ≡ false
    → chosen (names p k) more (text_of k) ≡ chosen (names p k) more x
unnamed p k more x e =
    ap (λ (b : Bool). chosen b more (text_of k)) (named p k e) ∙ sym (ap (λ (b : Bool). chosen b more x) (named p k e))

bytes_declared : (p : Place) (bytes : List ℕ) (v : Option ℤ) (k : lex_kind.Kind) (more : Bool)
    → (let kind = kind_of bytes v k in chosen (names p kind) more (text_of kind) ≡ chosen (names p kind) more bytes)
bytes_declared p bytes v (lex_kind.TheVariants.Word w) more = unnamed p (word_kind w) more bytes (word_name w)
bytes_declared p bytes v lex_kind.TheVariants.Name more = refl
bytes_declared p bytes v (lex_kind.TheVariants.Number n) more = unnamed p _ more bytes refl
bytes_declared p bytes v (lex_kind.TheVariants.Sign s) more = unnamed p (sign_kind s) more bytes (sign_name s)
bytes_declared p bytes v (lex_kind.TheVariants.Foreign sort) more = unnamed p _ more bytes refl
bytes_declared p bytes v (lex_kind.TheVariants.Aside aside) more = unnamed p _ more bytes refl
bytes_declared p bytes v lex_kind.TheVariants.End more = unnamed p _ more bytes refl

-- ---- a token more

-- the symbol of this kind is that of the token of this number
module _ (text : List ℕ) (ts : List lex_token.Token) (i : ℕ) (d : lex_token.Token) (l : i < length ts) (p : Place) (symbol : Kind)
    (is : (bytes : List ℕ) (v : Option ℤ) → symbol ≡ plain_kind (kind_of bytes v (get_or ts i d).kind)) where
  abbrev rest : List Token
  rest = tokens_of [] text (drop (i + 1) ts)

  abbrev bytes : List ℕ
  bytes = bytes_of text (get_or ts i d)

  abbrev kind : Kind
  kind = kind_of bytes None (get_or ts i d).kind

  same_names : names p symbol ≡ names p kind
  same_names = ap (names p) (is bytes None) ∙ names_plain p kind

  same_next : next p symbol ≡ next p kind
  same_next = ap (next p) (is bytes None) ∙ next_plain p kind

  here : declared_from p (tokens_of [] text (drop i ts))
      ≡ chosen (names p symbol) (not (begins_bracket rest)) bytes ++ declared_from (next p symbol) rest
  here =
      let one : suc i ≡ i + 1 = omega arith in
      let split : drop i ts ≡ get_or ts i d ∷ drop (i + 1) ts =
      drop-cons ts i d l ∙ ap (λ (n : ℕ). get_or ts i d ∷ drop n ts) one in
      ap (λ (x : List lex_token.Token). declared_from p (tokens_of [] text x)) split
      ∙ ap₂ (λ (x y : List (List ℕ)). x ++ y)
      (bytes_declared p bytes None (get_or ts i d).kind (not (begins_bracket rest))
      ∙ ap (λ (b : Bool). chosen b (not (begins_bracket rest)) bytes) (sym same_names))
      (ap (λ (q : Place). declared_from q rest) (sym same_next))

  -- it declares a variable
  pub declares : names p symbol ≡ true → begins_bracket rest ≡ false
      → declared_from p (tokens_of [] text (drop i ts)) ≡ bytes ∷ declared_from (next p symbol) rest
  declares e f = here ∙ ap₂ (λ (b c : Bool). chosen b (not c) bytes ++ declared_from (next p symbol) rest) e f

  -- it declares an array
  pub sizes : names p symbol ≡ true → begins_bracket rest ≡ true
      → declared_from p (tokens_of [] text (drop i ts)) ≡ declared_from (next p symbol) rest
  sizes e f = here ∙ ap₂ (λ (b c : Bool). chosen b (not c) bytes ++ declared_from (next p symbol) rest) e f

  -- it declares nothing
  pub passes : names p symbol ≡ false → declared_from p (tokens_of [] text (drop i ts)) ≡ declared_from (next p symbol) rest
  passes e = here ∙ ap (λ (b : Bool). chosen b (not (begins_bracket rest)) bytes ++ declared_from (next p symbol) rest) e
