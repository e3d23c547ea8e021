use Rattle.std.proofs.Common.{◌≡◌, rules}
use Rattle.flow_systems.specs.declared.spot.Spot.{Spot}
use Rattle.cert_checker.specs.declared.fault.CheckFault.TheVariants as check
use Rattle.top_texts.proofs.checks.Refused.{check_refused}
use Rattle.top_texts.proofs.check.accept.check_refusal.Goals as goal

pub returns-in_default : goal.returns-in_default
returns-in_default c =
    let other : (spot : Spot) → c.args.fault ≡ check.Wide spot → ⊥ = search rules in
    λ system certificate composition stop. check_refused system certificate _ other composition stop
