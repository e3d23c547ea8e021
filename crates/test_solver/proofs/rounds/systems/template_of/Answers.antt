use Rattle.std.proofs.Common.{◌≤◌, ℕ, zero, suc, refl, sym, subst, arith}
use Rattle.std.specs.Prelude.{IsTrue}
use Rattle.std.proofs.lemmas.Result.{IfOk-weaker}
use Rattle.flow_templates.specs.Domains.{intervals_of, zones_of}
use Rattle.flow_systems.specs.SystemLimits.{is_over}
use Rattle.test_solver.proofs.rounds.systems.template_of.Goals as goal

intervals_are_over : (n : ℕ) → 1 ≤ n → n ≤ 3 → IsTrue (is_over n (intervals_of n))
intervals_are_over zero l h = absurd (omega (arith, l))
intervals_are_over (suc zero) l h = refl
intervals_are_over (suc (suc zero)) l h = refl
intervals_are_over (suc (suc (suc zero))) l h = refl
intervals_are_over (suc (suc (suc (suc n)))) l h = absurd (omega (arith, h))

zones_are_over : (n : ℕ) → 1 ≤ n → n ≤ 3 → IsTrue (is_over n (zones_of n))
zones_are_over zero l h = absurd (omega (arith, l))
zones_are_over (suc zero) l h = refl
zones_are_over (suc (suc zero)) l h = refl
zones_are_over (suc (suc (suc zero))) l h = refl
zones_are_over (suc (suc (suc (suc n)))) l h = absurd (omega (arith, h))

pub returns-then-in_pairs : goal.returns-then-in_pairs
returns-then-in_pairs c =
    IfOk-weaker c.zones.result _ _ (λ rows e. subst (λ t. IsTrue (is_over c.args.count t)) (sym e)
    (zones_are_over c.args.count c.requires.some c.requires.few)) c.zones.ensures.rows

pub returns-in_ok-intervals : goal.returns-in_ok-intervals
returns-in_ok-intervals c =
    subst (λ t. IsTrue (is_over c.args.count t)) (sym c.in_ok-intervals.ensures.rows)
    (intervals_are_over c.args.count c.requires.some c.requires.few)
