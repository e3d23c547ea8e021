-- How the reserved words are spelled.
use Rattle.std.specs.Prelude.{◌≡◌, ℕ, List, [], ◌∷◌, codes}
use Rattle.lang_tokens.specs.declared.word.Word.{Word}
use Rattle.lang_tokens.specs.declared.word.Word.TheVariants.{Auto, Break, Case, Char, Const, Continue, Default, Do, Double, Else, Enum}
use Rattle.lang_tokens.specs.declared.word.Word.TheVariants.{Extern, Float, For, Goto}
use Rattle.lang_tokens.specs.declared.word.Word.TheVariants.{If, Inline, Int, Long, Register, Return, Short, Signed, SizeOf, Static, Struct}
use Rattle.lang_tokens.specs.declared.word.Word.TheVariants.{Switch, TypeDef}
use Rattle.lang_tokens.specs.declared.word.Word.TheVariants.{Union, Unsigned, Void, Volatile, While, Assume, Assert, Main, Nondet}
use Rattle.lang_tokens.specs.declared.word.Word.TheVariants.{VerifierAssume, VerifierAssert}
use Rattle.lang_tokens.specs.declared.word.Word.TheVariants.{VerifierNondetInt}

-- the bytes of a reserved word
abbrev pub word_bytes : Word → List ℕ
word_bytes Auto = codes "auto"
word_bytes Break = codes "break"
word_bytes Case = codes "case"
word_bytes Char = codes "char"
word_bytes Const = codes "const"
word_bytes Continue = codes "continue"
word_bytes Default = codes "default"
word_bytes Do = codes "do"
word_bytes Double = codes "double"
word_bytes Else = codes "else"
word_bytes Enum = codes "enum"
word_bytes Extern = codes "extern"
word_bytes Float = codes "float"
word_bytes For = codes "for"
word_bytes Goto = codes "goto"
word_bytes If = codes "if"
word_bytes Inline = codes "inline"
word_bytes Int = codes "int"
word_bytes Long = codes "long"
word_bytes Register = codes "register"
word_bytes Return = codes "return"
word_bytes Short = codes "short"
word_bytes Signed = codes "signed"
word_bytes SizeOf = codes "sizeof"
word_bytes Static = codes "static"
word_bytes Struct = codes "struct"
word_bytes Switch = codes "switch"
word_bytes TypeDef = codes "typedef"
word_bytes Union = codes "union"
word_bytes Unsigned = codes "unsigned"
word_bytes Void = codes "void"
word_bytes Volatile = codes "volatile"
word_bytes While = codes "while"
word_bytes Assume = codes "assume"
word_bytes Assert = codes "assert"
word_bytes Main = codes "main"
word_bytes Nondet = codes "nondet"
word_bytes VerifierAssume = codes "__VERIFIER_assume"
word_bytes VerifierAssert = codes "__VERIFIER_assert"
word_bytes VerifierNondetInt = codes "__VERIFIER_nondet_int"

-- None of these words is spelled so.
abbrev pub NoneSpelled : List Word → List ℕ → Type 0
NoneSpelled [] bytes = Unit {0}
NoneSpelled (word ∷ words) bytes = (word_bytes word ≡ bytes → ⊥) × NoneSpelled words bytes
