use Rattle.std.proofs.Common.{◌≡◌, true, false, sym, ◌∙◌, take, drop, refl, w64, to_z, of_z}
use Rattle.std.specs.Str.Parse.{digits_value}
use Rattle.std.proofs.lemmas.Bool.{or_left, or_right, or_from, and_from}
use Rattle.std.proofs.lemmas.List.{take_rest}
use Rattle.lang_tokens.specs.Lexemes.{is_padded}
use Rattle.lang_tokens.specs.Directives.{starts_with_letter}
use Rattle.lang_tokens.specs.Reading.{is_outside}
use Rattle.lang_tokens.specs.Faults.{is_bad}
use Rattle.lang_tokens.specs.declared.token.Kind.TheVariants as kind
use Rattle.lang_tokens.specs.Bytes.{is_digit}
use Rattle.lang_tokens.proofs.words.Runs.{all_run}
use Rattle.lang_tokens.proofs.number.Values.{value_back}
use Rattle.lang_tokens.proofs.reading.Standing.{numeral_front, bad_number, long_number, token_stands}
use Rattle.lang_tokens.proofs.number.number.Goals as goal
use Rattle.lang_tokens.proofs.number.number.Goals.{then-is_padded-via-then-is_padded}
use Rattle.lang_tokens.proofs.number.number.Goals.{then-is_padded-via-else-is_padded+then-starts_with_letter}

pub returns-then-is_padded : goal.returns-then-is_padded
returns-then-is_padded c =
    let rest = c.args.rest.now in
    let len = c.digits_len-len.result in
    let bad : is_bad (take len rest) (drop len rest) ≡ true = elim c.then-is_padded.branch [
      | then-is_padded-via-then-is_padded w ↦ or_left (is_padded (take len rest)) (starts_with_letter (drop len rest))
          (sym c.is_padded.ensures ∙ w.if-is_padded.true)
      | then-is_padded-via-else-is_padded+then-starts_with_letter w ↦ or_right (is_padded (take len rest))
          (starts_with_letter (drop len rest)) (rw (take_rest rest len) at
          (sym w.starts_with_letter.ensures ∙ w.if-starts_with_letter.true))
    ] in
    λ before out. (refl, out, bad_number rest len (numeral_front rest len c.digits_len-len.ensures c.requires.some c.requires.digit) bad)

pub literal_value-requires : goal.literal_value-requires
literal_value-requires c = rw c.digits_len-len.ensures (all_run is_digit c.args.rest.now)

pub returns-in-Some : goal.returns-in-Some
returns-in-Some c =
    let rest = c.args.rest.now in
    let len = c.digits_len-len.result in
    let front = numeral_front rest len c.digits_len-len.ensures c.requires.some c.requires.digit in
    let apart : starts_with_letter (drop len rest) ≡ false = rw (take_rest rest len) at
    (sym c.starts_with_letter.ensures ∙ c.if-starts_with_letter.false) in
    λ before out. token_stands before rest len (kind.Number (to_z w64 (of_z w64 c.in-Some.value)))
    (and_from (is_outside before) true out refl) front
    (record {
      digits = front.passes;
      plain = sym c.is_padded.ensures ∙ c.if-is_padded.false;
      value_is = value_back c.in-Some.value (digits_value 10 (take len rest)) c.in-Some.ensures.0 c.in-Some.ensures.1;
      within = c.in-Some.ensures.1;
    })
    apart

pub returns-in-None : goal.returns-in-None
returns-in-None c =
    let rest = c.args.rest.now in
    let len = c.digits_len-len.result in
    let apart : starts_with_letter (drop len rest) ≡ false = rw (take_rest rest len) at
    (sym c.starts_with_letter.ensures ∙ c.if-starts_with_letter.false) in
    let good : is_bad (take len rest) (drop len rest) ≡ false = or_from (is_padded (take len rest)) (starts_with_letter (drop len rest))
    (sym c.is_padded.ensures ∙ c.if-is_padded.false) apart in
    let front = numeral_front rest len c.digits_len-len.ensures c.requires.some c.requires.digit in
    λ before out. (refl, out, long_number rest len front good c.in-None.ensures)
