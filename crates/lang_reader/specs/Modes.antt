-- What the tokens, the modes and the reader of the second pass stand for.
use Rattle.std.specs.Prelude.{List}
use Rattle.lang_grammar.specs.Grammar.{Kind, a_name, a_number, other_word}
use Rattle.lang_grammar.specs.View.{literal}
use Rattle.lang_grammar.specs.Symbols.{symbol_kind, direction_of}
use Rattle.lang_tree.specs.View.{statements_of}
use Rattle.lang_meaning.specs.Walk.{State}
use Rattle.lang_meaning.specs.Feed.{Frame, Machine, at}
use Rattle.lang_meaning.specs.Feed.{Mode, heading, stands, named, wants, has, calls, closes, opens, heads, first_part, test_part, last_part}
use Rattle.lang_meaning.specs.Feed.{stepping, ends, after, declares, declared, returning}
use Rattle.lang_reader.specs.Frames.{test_of, frames_of}
use Rattle.lang_reader.specs.Views.{state_of}
use Rattle.lang_reader.specs.Values.{value_of}
use Rattle.lang_reader.specs.declared.lexeme.Lexeme as code_lexeme
use Rattle.lang_reader.specs.declared.mode.Mode as code_mode
use Rattle.lang_reader.specs.declared.reader.Reader.{Reader}

-- a kind of token that is no name and no number
abbrev pub unnamed : Kind → Kind
unnamed (a_name x) = other_word
unnamed (a_number n) = other_word
unnamed k = k

abbrev pub lexeme_kind : code_lexeme.Lexeme → Kind
lexeme_kind (code_lexeme.TheVariants.Name x) = a_name x
lexeme_kind (code_lexeme.TheVariants.Number n) = a_number (literal n)
lexeme_kind (code_lexeme.TheVariants.Plain s) = unnamed (symbol_kind s)

abbrev pub mode_of : code_mode.Mode → Mode
mode_of code_mode.TheVariants.Heading = heading
mode_of code_mode.TheVariants.Stands = stands
mode_of (code_mode.TheVariants.Named x a) = named x a
mode_of code_mode.TheVariants.Wants = wants
mode_of (code_mode.TheVariants.Has v) = has (value_of v)
mode_of (code_mode.TheVariants.Calls a) = calls a
mode_of (code_mode.TheVariants.Closes a) = closes a
mode_of (code_mode.TheVariants.Opens t a) = opens (test_of t) a
mode_of (code_mode.TheVariants.Heads a) = heads a
mode_of code_mode.TheVariants.FirstPart = first_part
mode_of code_mode.TheVariants.TestPart = test_part
mode_of code_mode.TheVariants.LastPart = last_part
mode_of (code_mode.TheVariants.Stepping d a) = stepping (direction_of d) a
mode_of (code_mode.TheVariants.Ends ns) = ends (statements_of ns.items)
mode_of (code_mode.TheVariants.After ns) = after (statements_of ns.items)
mode_of code_mode.TheVariants.Declares = declares
mode_of (code_mode.TheVariants.Declared x a) = declared x a
mode_of code_mode.TheVariants.Returning = returning

-- what stands for the reader and what is read next
abbrev pub machine_of : Reader → code_mode.Mode → Machine
machine_of r m = at (state_of r.context) (frames_of r.frames) (mode_of m)

-- the state and what is pending
abbrev pub pending_of : Reader → State × List Frame
pending_of r = (state_of r.context, frames_of r.frames)
