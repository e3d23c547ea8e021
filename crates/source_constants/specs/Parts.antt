-- What tokens are to the definitions of constants, in directives and out of them.
use Rattle.std.specs.Prelude.{ℕ, ℤ, pos, negsuc, neg_ℤ, List, map}
use Rattle.lang_tokens.specs.declared.word.Word as word
use Rattle.lang_tokens.specs.declared.sign.Sign as sign
use Rattle.lang_tokens.specs.declared.token.Aside as aside
use Rattle.lang_tokens.specs.declared.token.Kind as kind
use Rattle.lang_tokens.specs.declared.token.Token.{Token}
use Rattle.source_tokens.specs.View.{bytes_of}
use Rattle.source_constants.specs.declared.part.Part.{Part}
use Rattle.source_constants.specs.declared.part.Part.TheVariants as part

-- what a sign is
abbrev pub sign_part : sign.Sign → Part
sign_part sign.TheVariants.Assign = part.Assign
sign_part sign.TheVariants.Minus = part.Minus
sign_part sign.TheVariants.Comma = part.Comma
sign_part sign.TheVariants.Semicolon = part.Semicolon
sign_part sign.TheVariants.LeftParen = part.LeftParen
sign_part sign.TheVariants.RightParen = part.RightParen
sign_part sign.TheVariants.LeftBrace = part.LeftBrace
sign_part sign.TheVariants.RightBrace = part.RightBrace
sign_part _ = part.Other

-- what a reserved word is
abbrev pub word_part : word.Word → Part
word_part word.TheVariants.Static = part.Static
word_part word.TheVariants.Const = part.Const
word_part word.TheVariants.Int = part.Int
word_part word.TheVariants.Enum = part.Enum
word_part _ = part.Other

-- what a token of a directive is, with these bytes at this place
abbrev pub aside_part : List ℕ → (at : ℕ) → aside.Aside → Part
aside_part bytes at aside.TheVariants.Name = part.Name bytes at
aside_part bytes at (aside.TheVariants.Word w) = word_part w
aside_part bytes at (aside.TheVariants.Number n) = part.Number n
aside_part bytes at (aside.TheVariants.Sign s) = sign_part s
aside_part bytes at _ = part.Other

-- what a token is, with these bytes at this place
abbrev pub kind_part : List ℕ → (at : ℕ) → kind.Kind → Part
kind_part bytes at kind.TheVariants.Name = part.Name bytes at
kind_part bytes at (kind.TheVariants.Word w) = word_part w
kind_part bytes at (kind.TheVariants.Number n) = part.Number n
kind_part bytes at (kind.TheVariants.Sign s) = sign_part s
kind_part bytes at (kind.TheVariants.Aside a) = aside_part bytes at a
kind_part bytes at _ = part.Other

-- what a token of this text is
abbrev pub part_of : (text : List ℕ) → Token → Part
part_of text t = kind_part (bytes_of text t) t.at t.kind

-- what tokens of it are
abbrev pub parts_of : (text : List ℕ) → List Token → List Part
parts_of text ts = map (part_of text) ts

-- the opposite of a number of the text, which is at least 0
abbrev pub opposite : ℤ → ℤ
opposite (pos n) = neg_ℤ (pos n)
opposite (negsuc n) = pos 0
