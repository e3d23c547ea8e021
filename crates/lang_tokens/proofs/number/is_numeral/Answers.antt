use Rattle.std.proofs.Common.{◌∙◌, sym}
use Rattle.lang_tokens.specs.Bytes.{is_digit}
use Rattle.lang_tokens.proofs.words.Runs.{run_is_all}
use Rattle.lang_tokens.proofs.lexemes.Numbers.{numeral_from}
use Rattle.lang_tokens.proofs.number.is_numeral.Goals as goal

pub returns-then-not-is_empty : goal.returns-then-not-is_empty
returns-then-not-is_empty c = rw c.digits_len.ensures (run_is_all is_digit c.args.bytes.now
    ∙ numeral_from c.args.bytes.now (sym c.is_empty.ensures ∙ c.if-not-is_empty.true))
