use Rattle.std.proofs.Common.{◌∙◌, ap, sym, subst, FitsSigned, w64}
use Rattle.std.specs.Str.{IsAscii}
use Rattle.std.proofs.lemmas.Str.{IsUtf8-from_ascii}
use Rattle.std.proofs.lemmas.Fmt.{IsAscii-signed, parse-signed_decimal}
use Rattle.std.specs.Result.{result_ok}
use Rattle.base_fractions.proofs.texts.Slashes.{mag_small}
use Rattle.base_fractions.proofs.digits.read_number.Goals as goal

pub returns-in-Ok : goal.returns-in-Ok
returns-in-Ok c = λ z h e.
    let m = mag_small z h in
    let f : FitsSigned w64 z = record { sfits = m } in
    c.ok.ensures.value ∙ ap result_ok (parse-signed_decimal w64 z c.in-Ok.text.now c.parse.result f m (c.in-Ok.ensures.cases.0 ∙ e)
    c.parse.ensures.value.0)

pub returns-in-Err : goal.returns-in-Err
returns-in-Err c = λ z h e.
    absurd (c.in-Err.ensures.cases.0 (IsUtf8-from_ascii c.args.text.now (subst IsAscii (sym e) (IsAscii-signed z (mag_small z h)))))
