use Rattle.std.proofs.Common.{◌≡◌, sym, subst, Some}
use Rattle.base_fractions.specs.Extended.{extended}
use Rattle.base_fractions.specs.Texts.{frac_text}
use Rattle.flow_systems.specs.Report.{bound_text}
use Rattle.cert_text.specs.Numbers.{ext_of}
use Rattle.cert_text.proofs.numbers.FracTexts.{fin_back, frac_text_of}
use Rattle.cert_text.proofs.numbers.ExtNumeral.canonical.Goals as goal

-- that the fraction fits is told by its text
pub returns-in-Fin-clause-back : goal.returns-in-Fin-clause-back
returns-in-Fin-clause-back c =
    let q = c.in-Fin.number in
    subst (λ e. ext_of (bound_text (extended e)) ≡ Some e) (sym c.in-Fin.is)
    (fin_back q (frac_text_of (frac_text q) q c.canonical.ensures.back).1)
