use Rattle.cert_text.proofs.numbers.FracTexts.{frac_ascii, frac_back}
use Rattle.cert_text.proofs.numbers.FracNumeral.canonical.Goals as goal

pub returns-clause-ascii : goal.returns-clause-ascii
returns-clause-ascii c = frac_ascii c.args.self c.num-num.ensures.fits

pub returns-clause-back : goal.returns-clause-back
returns-clause-back c = frac_back c.args.self c.num-num.ensures.fits
