use Rattle.std.proofs.Common.{◌≡◌, ◌<◌, ◌^◌, length, rules, arith, Ok, Err}
use Rattle.std.proofs.lemmas.Str.Parse.{parse_digits}
use Rattle.std.specs.Str.Parse.{digits_value}
use Rattle.std.specs.declared.num.ParseIntError.{ParseIntError}
use Rattle.ask_words.proofs.values.Numbers.{digits, in_range, none_in_range}
use Rattle.ask_words.proofs.values.number.Goals as goal

pub returns-then-value-most : goal.returns-then-value-most
returns-then-value-most c =
    let p : ((0 < length c.args.text.now) × (digits_value 10 c.args.text.now < 2 ^ 32))
    × (c.in-Ok.value ≡ digits_value 10 c.args.text.now) = parse_digits digits {E = ParseIntError} 32 c.args.text.now
    (Ok c.in-Ok.value) c.in-Ok.ensures.value.0 (search rules) in
    in_range c.args.least c.args.most c.in-Ok.value c.args.text.now (omega arith) (search rules) p.0.0 p.1 c.if-least-value.true
    c.if-value-most.true

pub returns-in-Err : goal.returns-in-Err
returns-in-Err c =
    let p = parse_digits digits {E = ParseIntError} 32 c.args.text.now (Err c.in-Err.field-0) c.in-Err.ensures.value.0 (search rules) in
    none_in_range c.args.least c.args.most c.args.text.now (omega arith) p
