use Rattle.std.proofs.Common.{arith, ◌≤◌, ◌+◌, take}
use Rattle.std.specs.Str.Parse.{digits_value}
use Rattle.lang_tokens.proofs.number.Digits.{value_more, value_front}
use Rattle.lang_tokens.proofs.number.literal_value.Goals as goal

pub returns-then-value-digit : goal.returns-then-value-digit
returns-then-value-digit c =
    let more = value_more c.args.digits.now c.loop-byte.byte-index c.requires c.loop-byte-test.true in
    let front : digits_value 10 (take (c.loop-byte.byte-index + 1) c.args.digits.now) ≤ digits_value 10 c.args.digits.now =
    value_front c.args.digits.now (c.loop-byte.byte-index + 1) in
    omega (arith, more.value_is, more.digit_low, c.loop-byte.invariant.0)

pub loop-byte-preserved : goal.loop-byte-preserved
loop-byte-preserved c =
    let more = value_more c.args.digits.now c.loop-byte.byte-index c.requires c.loop-byte-test.true in
    omega (arith, more.value_is, more.digit_low, c.loop-byte.invariant.0)
