use Rattle.std.proofs.Common.{◌≡◌, ℕ, List, length, refl, ap, sym, subst₂, arith}
use Rattle.std.specs.Prelude.{IsTrue}
use Rattle.flow_systems.specs.SystemLimits.{is_over}
use Rattle.bench_transformers.proofs.system_over_zones.Goals as goal

pub new-requires : goal.new-requires
new-requires c =
    let names = ap (λ (ns : List (List ℕ)). length ns) c.as_slice.ensures in
    let test = c.if-as_slice-ne8.false in
    let eight : length c.in_ok-flow.flow.names ≡ 8 = omega (arith, names, test) in
    subst₂ (λ n t. IsTrue (is_over n t)) (sym eight) (sym c.in-Ok.ensures.rows) refl
