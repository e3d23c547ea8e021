use Rattle.cert_text.proofs.numbers.FracTexts.{frac_read}
use Rattle.cert_text.proofs.numbers.FracNumeral.number.Goals as goal

pub returns : goal.returns
returns c = frac_read c.args.text.now c.read.result c.read.ensures.read
