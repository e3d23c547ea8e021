use Rattle.std.proofs.Common.{refl, true}
use Rattle.std.proofs.lemmas.Bool.{and_from}
use Rattle.lang_tokens.specs.declared.lexicon.Lexicon.TheVariants.{Own}
use Rattle.lang_tokens.specs.Reading.{is_outside}
use Rattle.lang_tokens.specs.declared.token.Kind.TheVariants as kind
use Rattle.lang_tokens.proofs.reading.Standing.{word_front, long_name, token_stands}
use Rattle.lang_tokens.proofs.words.word.Goals as goal

pub returns-then-len-gt-LONGEST_WORD : goal.returns-then-len-gt-LONGEST_WORD
returns-then-len-gt-LONGEST_WORD c =
    let front = word_front Own c.args.rest.now c.word_len-len.result c.word_len-len.ensures.len c.requires.some c.requires.letter in
    λ before out. (refl, out, long_name _ _ front c.if-len-gt-LONGEST_WORD.true)

pub returns-in-Some : goal.returns-in-Some
returns-in-Some c =
    let front = word_front Own c.args.rest.now c.word_len-len.result c.word_len-len.ensures.len c.requires.some c.requires.letter in
    λ before out. token_stands before _ _ (kind.Word c.in-Some.word) (and_from (is_outside before) true out refl) front c.in-Some.ensures tt

pub returns-in-None : goal.returns-in-None
returns-in-None c =
    let front = word_front Own c.args.rest.now c.word_len-len.result c.word_len-len.ensures.len c.requires.some c.requires.letter in
    λ before out. token_stands before _ _ kind.Name (and_from (is_outside before) true out refl) front
    (record { word = front.passes; free = c.in-None.ensures; short = rw front.length_is c.if-len-gt-LONGEST_WORD.false })
    tt
