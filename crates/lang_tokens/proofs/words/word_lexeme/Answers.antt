use Rattle.std.proofs.Common.{refl}
use Rattle.lang_tokens.specs.declared.lexicon.Lexicon.TheVariants.{C}
use Rattle.lang_tokens.specs.declared.token.Foreign.TheVariants.{LongName}
use Rattle.lang_tokens.specs.declared.token.Kind.TheVariants as kind
use Rattle.lang_tokens.proofs.reading.Standing.{word_front, lexeme_stands}
use Rattle.lang_tokens.proofs.words.word_lexeme.Goals as goal

pub returns-then-len-gt-LONGEST_WORD : goal.returns-then-len-gt-LONGEST_WORD
returns-then-len-gt-LONGEST_WORD c =
    let front = word_front C c.args.rest.now c.word_len-len.result c.word_len-len.ensures.len c.requires.some c.requires.letter in
    lexeme_stands _ _ (kind.Foreign LongName) front
    (refl, record { word = front.passes; long = rw front.length_is c.if-len-gt-LONGEST_WORD.true })

pub returns-in-Some : goal.returns-in-Some
returns-in-Some c =
    let front = word_front C c.args.rest.now c.word_len-len.result c.word_len-len.ensures.len c.requires.some c.requires.letter in
    lexeme_stands _ _ (kind.Word c.in-Some.word) front (refl, c.in-Some.ensures)

pub returns-in-None : goal.returns-in-None
returns-in-None c =
    let front = word_front C c.args.rest.now c.word_len-len.result c.word_len-len.ensures.len c.requires.some c.requires.letter in
    lexeme_stands _ _ kind.Name front
    (refl, record { word = front.passes; free = c.in-None.ensures; short = rw front.length_is c.if-len-gt-LONGEST_WORD.false })
