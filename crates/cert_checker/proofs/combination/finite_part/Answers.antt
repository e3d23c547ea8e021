use Rattle.std.proofs.Common.{◌≡◌, ◌∙◌, refl, sym, ap}
use Rattle.base_numbers.specs.Rational.{ℚ, zero_ℚ}
use Rattle.base_fractions.specs.declared.ext.Ext.{Ext}
use Rattle.base_fractions.specs.declared.ext.Ext.TheVariants.{NegInf, Fin, PosInf}
use Rattle.base_fractions.specs.Extended.{extended}
use Rattle.theory_validity.specs.Certificates.{num}
use Rattle.cert_checker.proofs.combination.finite_part.Goals as goal

finite : (q : ℚ) → q ≡ num (extended (Fin q))
unfolding num
finite q = refl

infinite : (b : Ext) → ((q : ℚ) → b ≡ Fin q → ⊥) → zero_ℚ ≡ num (extended b)
unfolding num
infinite NegInf n = refl
infinite (Fin q) n = absurd (n q refl)
infinite PosInf n = refl

pub returns-in-Fin : goal.returns-in-Fin
returns-in-Fin c = finite c.in-Fin.number ∙ ap (λ b. num (extended b)) (sym c.in-Fin.is)

pub returns-in_default : goal.returns-in_default
returns-in_default c = c.zero.ensures.value ∙ infinite c.args.bound c.in_default.not-Fin
