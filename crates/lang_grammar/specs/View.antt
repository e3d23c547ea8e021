-- What the tokens of a text are to the grammar.
use Rattle.std.specs.Prelude.{◌+◌, ℕ, ℤ, pos, negsuc, List, [], map, slice_range}
use Rattle.lang_grammar.specs.Grammar as g
use Rattle.lang_grammar.specs.Grammar.{Kind, Token}
use Rattle.lang_tokens.specs.declared.word.Word as lex_word
use Rattle.lang_tokens.specs.declared.sign.Sign as lex_sign
use Rattle.lang_tokens.specs.declared.token.Kind as lex_kind
use Rattle.lang_tokens.specs.declared.token.Token as lex_token

-- what a sign is to the grammar
abbrev pub sign_kind : lex_sign.Sign → Kind
sign_kind lex_sign.TheVariants.LeftParen = g.left_paren
sign_kind lex_sign.TheVariants.RightParen = g.right_paren
sign_kind lex_sign.TheVariants.LeftBrace = g.left_brace
sign_kind lex_sign.TheVariants.RightBrace = g.right_brace
sign_kind lex_sign.TheVariants.Comma = g.comma
sign_kind lex_sign.TheVariants.Semicolon = g.semicolon
sign_kind lex_sign.TheVariants.Colon = g.colon
sign_kind lex_sign.TheVariants.Assign = g.change_sign g.replaces
sign_kind lex_sign.TheVariants.PlusAssign = g.change_sign g.adds
sign_kind lex_sign.TheVariants.MinusAssign = g.change_sign g.subtracts
sign_kind lex_sign.TheVariants.Increment = g.step_sign g.up
sign_kind lex_sign.TheVariants.Decrement = g.step_sign g.down
sign_kind lex_sign.TheVariants.Plus = g.infix_sign g.plus_op
sign_kind lex_sign.TheVariants.Minus = g.infix_sign g.minus_op
sign_kind lex_sign.TheVariants.Star = g.infix_sign g.times_op
sign_kind lex_sign.TheVariants.Bang = g.bang
sign_kind lex_sign.TheVariants.Less = g.infix_sign (g.compare_op g.less)
sign_kind lex_sign.TheVariants.LessEqual = g.infix_sign (g.compare_op g.at_most)
sign_kind lex_sign.TheVariants.Greater = g.infix_sign (g.compare_op g.greater)
sign_kind lex_sign.TheVariants.GreaterEqual = g.infix_sign (g.compare_op g.at_least)
sign_kind lex_sign.TheVariants.EqualEqual = g.infix_sign (g.compare_op g.equal)
sign_kind lex_sign.TheVariants.BangEqual = g.infix_sign (g.compare_op g.unequal)
sign_kind lex_sign.TheVariants.AndAnd = g.infix_sign g.and_op
sign_kind lex_sign.TheVariants.OrOr = g.infix_sign g.or_op
sign_kind _ = g.other_word

-- what a reserved word is to the grammar
abbrev pub word_kind : lex_word.Word → Kind
word_kind lex_word.TheVariants.Int = g.int_word
word_kind lex_word.TheVariants.Main = g.main_word
word_kind lex_word.TheVariants.Void = g.void_word
word_kind lex_word.TheVariants.If = g.if_word
word_kind lex_word.TheVariants.Else = g.else_word
word_kind lex_word.TheVariants.While = g.while_word
word_kind lex_word.TheVariants.Do = g.do_word
word_kind lex_word.TheVariants.For = g.for_word
word_kind lex_word.TheVariants.Break = g.jump_word g.breaks
word_kind lex_word.TheVariants.Continue = g.jump_word g.continues
word_kind lex_word.TheVariants.Return = g.return_word
word_kind lex_word.TheVariants.Assume = g.demand_word g.assumes
word_kind lex_word.TheVariants.VerifierAssume = g.demand_word g.assumes
word_kind lex_word.TheVariants.Assert = g.demand_word g.asserts
word_kind lex_word.TheVariants.VerifierAssert = g.demand_word g.asserts
word_kind lex_word.TheVariants.Nondet = g.nondet_word
word_kind lex_word.TheVariants.VerifierNondetInt = g.nondet_word
word_kind _ = g.other_word

-- a literal's value, which is at least 0
abbrev pub literal : ℤ → ℕ
literal (pos n) = n
literal (negsuc n) = 0

-- what a token with these bytes is to the grammar
abbrev pub kind_of : List ℕ → lex_kind.Kind → Kind
kind_of bytes (lex_kind.TheVariants.Word w) = word_kind w
kind_of bytes lex_kind.TheVariants.Name = g.a_name bytes
kind_of bytes (lex_kind.TheVariants.Number n) = g.a_number (literal n)
kind_of bytes (lex_kind.TheVariants.Sign s) = sign_kind s
kind_of bytes (lex_kind.TheVariants.Foreign f) = g.other_word
kind_of bytes (lex_kind.TheVariants.Aside a) = g.other_word
kind_of bytes lex_kind.TheVariants.End = g.the_end

-- a token of this text
abbrev pub token_of : List ℕ → lex_token.Token → Token
token_of text t = g.token (kind_of (slice_range text t.at (t.at + t.len)) t.kind) t.at

-- the tokens of this text
abbrev pub tokens_of : List ℕ → List lex_token.Token → List Token
tokens_of text ts = map (token_of text) ts

-- the same without names and numbers
abbrev pub plain_kind : lex_kind.Kind → Kind
plain_kind (lex_kind.TheVariants.Word w) = word_kind w
plain_kind lex_kind.TheVariants.Name = g.a_name []
plain_kind (lex_kind.TheVariants.Number n) = g.a_number 0
plain_kind (lex_kind.TheVariants.Sign s) = sign_kind s
plain_kind (lex_kind.TheVariants.Foreign f) = g.other_word
plain_kind (lex_kind.TheVariants.Aside a) = g.other_word
plain_kind lex_kind.TheVariants.End = g.the_end

-- a token without its name or number
abbrev pub plain_token : lex_token.Token → Token
plain_token t = g.token (plain_kind t.kind) t.at
