-- What the tokens of a text are to the grammar of functions and to the division of a file into items.
use Rattle.std.specs.Prelude.{◌+◌, ℕ, ℤ, pos, negsuc, List, map, slice_range, Option}
use Rattle.source_grammar.specs.Tokens as g
use Rattle.source_grammar.specs.Tokens.{Kind, Token}
use Rattle.source_items.specs.declared.mark.Bracket.TheVariants.{Round, Square, Curly}
use Rattle.source_items.specs.declared.mark.Mark.{Mark}
use Rattle.source_items.specs.declared.mark.Mark.TheVariants as mark
use Rattle.lang_tokens.specs.declared.word.Word as lex_word
use Rattle.lang_tokens.specs.declared.sign.Sign as lex_sign
use Rattle.lang_tokens.specs.declared.token.Kind as lex_kind
use Rattle.lang_tokens.specs.declared.token.Token as lex_token
use Rattle.source_tokens.specs.declared.definition.Definition.{Definition}
use Rattle.source_tokens.specs.Constants.{constant_at}

-- what a sign is to the grammar
abbrev pub sign_kind : lex_sign.Sign → Kind
sign_kind lex_sign.TheVariants.LeftParen = g.left_paren
sign_kind lex_sign.TheVariants.RightParen = g.right_paren
sign_kind lex_sign.TheVariants.LeftBrace = g.left_brace
sign_kind lex_sign.TheVariants.RightBrace = g.right_brace
sign_kind lex_sign.TheVariants.Comma = g.comma
sign_kind lex_sign.TheVariants.Semicolon = g.semicolon
sign_kind lex_sign.TheVariants.Colon = g.colon
sign_kind lex_sign.TheVariants.Assign = g.change_sign g.replaces
sign_kind lex_sign.TheVariants.PlusAssign = g.change_sign g.adds
sign_kind lex_sign.TheVariants.MinusAssign = g.change_sign g.subtracts
sign_kind lex_sign.TheVariants.StarAssign = g.change_sign g.multiplies
sign_kind lex_sign.TheVariants.SlashAssign = g.change_sign g.divides
sign_kind lex_sign.TheVariants.PercentAssign = g.change_sign g.remains
sign_kind lex_sign.TheVariants.Increment = g.step_sign g.up
sign_kind lex_sign.TheVariants.Decrement = g.step_sign g.down
sign_kind lex_sign.TheVariants.Plus = g.infix_sign g.plus_op
sign_kind lex_sign.TheVariants.Minus = g.infix_sign g.minus_op
sign_kind lex_sign.TheVariants.Star = g.infix_sign g.times_op
sign_kind lex_sign.TheVariants.Slash = g.infix_sign g.over_op
sign_kind lex_sign.TheVariants.Percent = g.infix_sign g.remainder_op
sign_kind lex_sign.TheVariants.Bang = g.bang
sign_kind lex_sign.TheVariants.Less = g.infix_sign (g.compare_op g.less)
sign_kind lex_sign.TheVariants.LessEqual = g.infix_sign (g.compare_op g.at_most)
sign_kind lex_sign.TheVariants.Greater = g.infix_sign (g.compare_op g.greater)
sign_kind lex_sign.TheVariants.GreaterEqual = g.infix_sign (g.compare_op g.at_least)
sign_kind lex_sign.TheVariants.EqualEqual = g.infix_sign (g.compare_op g.equal)
sign_kind lex_sign.TheVariants.BangEqual = g.infix_sign (g.compare_op g.unequal)
sign_kind lex_sign.TheVariants.AndAnd = g.infix_sign g.and_op
sign_kind lex_sign.TheVariants.OrOr = g.infix_sign g.or_op
sign_kind lex_sign.TheVariants.Question = g.question
sign_kind lex_sign.TheVariants.LeftBracket = g.left_bracket
sign_kind lex_sign.TheVariants.RightBracket = g.right_bracket

-- what a reserved word is to the grammar
abbrev pub word_kind : lex_word.Word → Kind
word_kind lex_word.TheVariants.Int = g.int_word
word_kind lex_word.TheVariants.Void = g.void_word
word_kind lex_word.TheVariants.Main = g.main_word
word_kind lex_word.TheVariants.Static = g.storage_word
word_kind lex_word.TheVariants.Inline = g.storage_word
word_kind lex_word.TheVariants.Extern = g.storage_word
word_kind lex_word.TheVariants.Const = g.const_word
word_kind lex_word.TheVariants.If = g.if_word
word_kind lex_word.TheVariants.Else = g.else_word
word_kind lex_word.TheVariants.While = g.while_word
word_kind lex_word.TheVariants.Do = g.do_word
word_kind lex_word.TheVariants.For = g.for_word
word_kind lex_word.TheVariants.Break = g.jump_word g.breaks
word_kind lex_word.TheVariants.Continue = g.jump_word g.continues
word_kind lex_word.TheVariants.Return = g.return_word
word_kind lex_word.TheVariants.Assume = g.demand_word g.assumes
word_kind lex_word.TheVariants.VerifierAssume = g.demand_word g.assumes
word_kind lex_word.TheVariants.Assert = g.demand_word g.asserts
word_kind lex_word.TheVariants.VerifierAssert = g.demand_word g.asserts
word_kind lex_word.TheVariants.Nondet = g.nondet_word
word_kind lex_word.TheVariants.VerifierNondetInt = g.nondet_word
word_kind _ = g.other_sign

-- a literal's value, which is at least 0
abbrev pub literal : ℤ → ℕ
literal (pos n) = n
literal (negsuc n) = 0

-- what a token with these bytes, for which a name may stand as a number, is to the grammar
abbrev pub kind_of : List ℕ → Option ℤ → lex_kind.Kind → Kind
kind_of bytes value (lex_kind.TheVariants.Word w) = word_kind w
kind_of bytes value lex_kind.TheVariants.Name = g.a_name (record { text = bytes; value = value })
kind_of bytes value (lex_kind.TheVariants.Number n) = g.a_number (literal n)
kind_of bytes value (lex_kind.TheVariants.Sign s) = sign_kind s
kind_of bytes value _ = g.other_sign

-- the bytes of a token of this text
abbrev pub bytes_of : List ℕ → lex_token.Token → List ℕ
bytes_of text t = slice_range text t.at (t.at + t.len)

-- by these definitions, in the order of the text
module _ (constants : List Definition) where
  -- a token of this text
  abbrev pub token_of : List ℕ → lex_token.Token → Token
  token_of text t = let bytes = bytes_of text t in g.token (kind_of bytes (constant_at constants bytes t.at) t.kind) t.at

  -- the tokens of this text
  abbrev pub tokens_of : List ℕ → List lex_token.Token → List Token
  tokens_of text ts = map (token_of text) ts

-- what a sign is to the division of a file
abbrev pub sign_mark : lex_sign.Sign → Mark
sign_mark lex_sign.TheVariants.LeftParen = mark.Opens Round
sign_mark lex_sign.TheVariants.RightParen = mark.Closes Round
sign_mark lex_sign.TheVariants.LeftBrace = mark.Opens Curly
sign_mark lex_sign.TheVariants.RightBrace = mark.Closes Curly
sign_mark lex_sign.TheVariants.LeftBracket = mark.Opens Square
sign_mark lex_sign.TheVariants.RightBracket = mark.Closes Square
sign_mark lex_sign.TheVariants.Semicolon = mark.Semicolon
sign_mark _ = mark.Other

-- what a reserved word is to it: those that no word of C is may be a function's name
abbrev pub word_mark : lex_word.Word → Mark
word_mark lex_word.TheVariants.Int = mark.Returned
word_mark lex_word.TheVariants.Void = mark.Returned
word_mark lex_word.TheVariants.Static = mark.Storage
word_mark lex_word.TheVariants.Inline = mark.Storage
word_mark lex_word.TheVariants.Extern = mark.Storage
word_mark lex_word.TheVariants.Main = mark.Name
word_mark lex_word.TheVariants.Assume = mark.Name
word_mark lex_word.TheVariants.VerifierAssume = mark.Name
word_mark lex_word.TheVariants.Assert = mark.Name
word_mark lex_word.TheVariants.VerifierAssert = mark.Name
word_mark lex_word.TheVariants.Nondet = mark.Name
word_mark lex_word.TheVariants.VerifierNondetInt = mark.Name
word_mark _ = mark.Other

-- what a token is to it
abbrev pub mark_of : lex_token.Token → Mark
mark_of t = elim t.kind [
  | lex_kind.TheVariants.Word w ↦ word_mark w
  | lex_kind.TheVariants.Name ↦ mark.Name
  | lex_kind.TheVariants.Sign s ↦ sign_mark s
  | _ ↦ mark.Other
]

-- what tokens are to it
abbrev pub marks_of : List lex_token.Token → List Mark
marks_of ts = map mark_of ts
