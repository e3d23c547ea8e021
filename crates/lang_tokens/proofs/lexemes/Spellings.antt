-- One spelling is that of one reserved word, or of one sign.
use Rattle.std.proofs.Common.{◌≡◌, ◌≤◌, ◌⊎◌, inl, inr, ⊎_elim, true, false, ℕ, cond, List, [], ◌∷◌, length, refl, ap, sym, subst, ◌∙◌}
use Rattle.std.proofs.Common.{arith}
use Rattle.std.proofs.Common.{Option, Some, None}
use Rattle.std.specs.Str.{bytes_eq}
use Rattle.std.proofs.lemmas.Bool.{cases_Bool}
use Rattle.std.proofs.lemmas.Slice.Eq.{bytes_eq-Decides}
use Rattle.lang_tokens.specs.declared.sign.Sign.{Sign}
use Rattle.lang_tokens.specs.declared.sign.Sign.TheVariants.{LeftParen, RightParen, LeftBrace, RightBrace, Comma, Semicolon, Colon, Assign}
use Rattle.lang_tokens.specs.declared.sign.Sign.TheVariants.{PlusAssign}
use Rattle.lang_tokens.specs.declared.sign.Sign.TheVariants.{MinusAssign, Increment, Decrement, Plus, Minus, Star, Bang, Less, LessEqual}
use Rattle.lang_tokens.specs.declared.sign.Sign.TheVariants.{Greater, GreaterEqual}
use Rattle.lang_tokens.specs.declared.sign.Sign.TheVariants.{EqualEqual, BangEqual, AndAnd, OrOr, Slash, Percent, Question}
use Rattle.lang_tokens.specs.declared.sign.Sign.TheVariants.{LeftBracket, RightBracket, StarAssign, SlashAssign, PercentAssign}
use Rattle.lang_tokens.specs.declared.word.Word.{Word}
use Rattle.lang_tokens.specs.declared.word.Word.TheVariants.{Auto, Break, Case, Char, Const, Continue, Default, Do, Double, Else, Enum}
use Rattle.lang_tokens.specs.declared.word.Word.TheVariants.{Extern, Float, For, Goto}
use Rattle.lang_tokens.specs.declared.word.Word.TheVariants.{If, Inline, Int, Long, Register, Return, Short, Signed, SizeOf, Static, Struct}
use Rattle.lang_tokens.specs.declared.word.Word.TheVariants.{Switch, TypeDef}
use Rattle.lang_tokens.specs.declared.word.Word.TheVariants.{Union, Unsigned, Void, Volatile, While, Assume, Assert, Main, Nondet}
use Rattle.lang_tokens.specs.declared.word.Word.TheVariants.{VerifierAssume, VerifierAssert}
use Rattle.lang_tokens.specs.declared.word.Word.TheVariants.{VerifierNondetInt}
use Rattle.lang_tokens.specs.declared.foreign.ForeignSign.{ForeignSign}
use Rattle.lang_tokens.specs.declared.foreign.ForeignSign.TheVariants as foreign
use Rattle.lang_tokens.specs.Signs.{sign_bytes, foreign_bytes}
use Rattle.lang_tokens.specs.Words.{word_bytes}
use Rattle.lang_tokens.specs.Lexemes.{IsReserved}

-- the first of these that is spelled so
abbrev pub first_spelled : {X : Type 0} → (X → List ℕ) → List X → List ℕ → Option X
first_spelled spell [] bytes = None
first_spelled spell (x ∷ xs) bytes = cond (bytes_eq (spell x) bytes) (Some x) (first_spelled spell xs bytes)

-- the reserved words
abbrev pub all_words : List Word
all_words = Auto ∷ Break ∷ Case ∷ Char ∷ Const ∷ Continue ∷ Default ∷ Do ∷ Double ∷ Else ∷ Enum ∷ Extern ∷ Float ∷ For ∷ Goto ∷ If
    ∷ Inline ∷ Int ∷ Long ∷ Register ∷ Return ∷ Short ∷ Signed ∷ SizeOf ∷ Static ∷ Struct ∷ Switch ∷ TypeDef ∷ Union ∷ Unsigned ∷ Void
    ∷ Volatile ∷ While ∷ Assume ∷ Assert ∷ Main ∷ Nondet ∷ VerifierAssume ∷ VerifierAssert ∷ VerifierNondetInt ∷ []

-- the signs of the language
abbrev pub all_signs : List Sign
all_signs = LeftParen ∷ RightParen ∷ LeftBrace ∷ RightBrace ∷ Comma ∷ Semicolon ∷ Colon ∷ Assign ∷ PlusAssign ∷ MinusAssign ∷ Increment
    ∷ Decrement ∷ Plus ∷ Minus ∷ Star ∷ Bang ∷ Less ∷ LessEqual ∷ Greater ∷ GreaterEqual ∷ EqualEqual ∷ BangEqual ∷ AndAnd ∷ OrOr ∷ Slash
    ∷ Percent ∷ Question ∷ LeftBracket ∷ RightBracket ∷ StarAssign ∷ SlashAssign ∷ PercentAssign ∷ []

-- the signs that only C has
abbrev pub all_foreign : List ForeignSign
all_foreign = foreign.Dot ∷ foreign.Arrow ∷ foreign.And ∷ foreign.Or ∷ foreign.Caret ∷ foreign.Tilde ∷ foreign.ShiftLeft
    ∷ foreign.ShiftRight ∷ foreign.Ellipsis ∷ foreign.AndAssign ∷ foreign.OrAssign ∷ foreign.CaretAssign ∷ foreign.ShiftLeftAssign
    ∷ foreign.ShiftRightAssign ∷ foreign.LessColon ∷ foreign.ColonGreater ∷ foreign.LessPercent ∷ foreign.PercentGreater
    ∷ foreign.PercentColon ∷ []

abbrev word_of : List ℕ → Option Word
word_of bytes = first_spelled word_bytes all_words bytes

-- the sign of the language that the bytes spell
abbrev pub sign_of : List ℕ → Option Sign
sign_of bytes = first_spelled sign_bytes all_signs bytes

-- the sign that only C has and that they spell
abbrev pub foreign_of : List ℕ → Option ForeignSign
foreign_of bytes = first_spelled foreign_bytes all_foreign bytes

word_back : (word : Word) → word_of (word_bytes word) ≡ Some word
word_back Auto = refl
word_back _ = refl

-- each sign is found by its spelling
pub sign_back : (sign : Sign) → sign_of (sign_bytes sign) ≡ Some sign
sign_back LeftParen = refl
sign_back _ = refl

-- so is each one that only C has
pub foreign_back : (sign : ForeignSign) → foreign_of (foreign_bytes sign) ≡ Some sign
foreign_back foreign.Dot = refl
foreign_back _ = refl

-- and none of these is one of the language
pub foreign_no_sign : (sign : ForeignSign) → sign_of (foreign_bytes sign) ≡ None
foreign_no_sign foreign.Dot = refl
foreign_no_sign _ = refl

-- two reserved words with one spelling are the same
pub one_word : (w v : Word) (bytes : List ℕ) → word_bytes w ≡ bytes → word_bytes v ≡ bytes → w ≡ v
one_word w v bytes e f =
    let same : Some w ≡ Some v = sym (word_back w) ∙ (ap word_of (e ∙ sym f) ∙ word_back v) in
    cc

-- two signs with one spelling are the same
pub one_sign : (s t : Sign) (bytes : List ℕ) → sign_bytes s ≡ bytes → sign_bytes t ≡ bytes → s ≡ t
one_sign s t bytes e f =
    let same : Some s ≡ Some t = sym (sign_back s) ∙ (ap sign_of (e ∙ sym f) ∙ sign_back t) in
    cc

-- a sign of the language has at most two bytes
pub sign_short : (sign : Sign) → length (sign_bytes sign) ≤ 2
sign_short LeftParen = omega arith
sign_short _ = omega arith

-- one that only C has has at most three
pub foreign_short : (sign : ForeignSign) → length (foreign_bytes sign) ≤ 3
foreign_short foreign.Dot = omega arith
foreign_short _ = omega arith

-- and one at least
pub sign_some : (sign : Sign) → 1 ≤ length (sign_bytes sign)
sign_some LeftParen = omega arith
sign_some _ = omega arith

-- so has one that only C has
pub foreign_some : (sign : ForeignSign) → 1 ≤ length (foreign_bytes sign)
foreign_some foreign.Dot = omega arith
foreign_some _ = omega arith

-- a reserved word has at most 32 bytes
pub word_short : (word : Word) → length (word_bytes word) ≤ 32
word_short Auto = omega arith
word_short _ = omega arith

-- what is found is spelled so
pub first_sound : {X : Type 0} (spell : X → List ℕ) (xs : List X) (bytes : List ℕ) (x : X) → first_spelled spell xs bytes ≡ Some x
    → spell x ≡ bytes
first_sound spell [] bytes x e = cc
first_sound spell (y ∷ xs) bytes x e = ⊎_elim
    (λ (same : bytes_eq (spell y) bytes ≡ true). let found : Some y ≡ Some x = rw same at e in let one : y ≡ x = cc in
    sym (ap spell one) ∙ (bytes_eq-Decides (spell y) bytes).0 same)
    (λ (other : bytes_eq (spell y) bytes ≡ false). first_sound spell xs bytes x (rw other at e))
    (cases_Bool (bytes_eq (spell y) bytes))

-- each of these has the property
abbrev pub EachOf : {X : Type 0} → (X → Type 0) → List X → Type 0
EachOf P [] = Unit {0}
EachOf P (x ∷ xs) = P x × EachOf P xs

-- what each of them has, one that is found among them has
pub each_found : {X : Type 0} (P : X → Type 0) (spell : X → List ℕ) (xs : List X) (bytes : List ℕ) (x : X) → EachOf P xs
    → first_spelled spell xs bytes ≡ Some x → P x
each_found P spell [] bytes x each e = cc
each_found P spell (y ∷ xs) bytes x each e = ⊎_elim
    (λ (same : bytes_eq (spell y) bytes ≡ true). let found : Some y ≡ Some x = rw same at e in let one : y ≡ x = cc in subst P one each.0)
    (λ (other : bytes_eq (spell y) bytes ≡ false). each_found P spell xs bytes x each.1 (rw other at e))
    (cases_Bool (bytes_eq (spell y) bytes))

-- either the bytes spell a reserved word, or they don't
pub reserved_or_not : (bytes : List ℕ) → IsReserved bytes ⊎ (IsReserved bytes → ⊥)
reserved_or_not bytes = from (word_of bytes) refl
  where
    from : (o : Option Word) → word_of bytes ≡ o → IsReserved bytes ⊎ (IsReserved bytes → ⊥)
    from (Some w) e = inl (w, first_sound word_bytes all_words bytes w e)
    from None e = inr (λ found. let is : word_of bytes ≡ Some found.0 = sym (ap word_of found.1) ∙ word_back found.0 in cc)
