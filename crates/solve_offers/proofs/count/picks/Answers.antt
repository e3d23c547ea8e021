use Rattle.std.proofs.Common.{◌≡◌, ◌∙◌, ℕ, List, ◌+◌, ◌-◌, ◌*◌, ◌^◌, ◌<◌, ◌≤◌, ap, ap₂, subst, sym, suc, length, arith}
use Rattle.std.specs.Prelude.{ℤ}
use Rattle.base_limits.specs.declared.limits.TheConstants.{MOST_IMPROVEMENTS}
use Rattle.flow_edges.specs.declared.edge.Edge.{Edge}
use Rattle.flow_systems.specs.Equations.{Equations}
use Rattle.flow_systems.specs.View.{equations_of}
use Rattle.theory_validity.specs.Certificates.{edges_into}
use Rattle.theory_strategy.specs.PickCount.{pick_count}
use Rattle.theory_strategy.proofs.round.FewRounds.{rounds_fewer}
use Rattle.solve_offers.proofs.count.Products.{product_to, product_to-zero, product_to-more, product_to-all, product_to-grows}
use Rattle.solve_offers.proofs.count.picks.Goals as goal

pub loop-point-init : goal.loop-point-init
loop-point-init c = record { product = sym (product_to-zero (equations_of c.args.system.now)); small = omega arith }

-- the product with the next point's unknowns
next : (system : Equations) (product p count : ℕ) (edges : List Edge) (rows : List (List ℤ)) → edges ≡ system.edges → rows ≡ system.template
    →
    count ≡ length (edges_into p edges) → product ≡ product_to system p → product * (count + 1) ^ length rows ≡ product_to system (p + 1)
next system product p count edges rows same_edges same_rows into before =
    let counted : count ≡ length (edges_into p system.edges) = into ∙ ap (λ es. length (edges_into p es)) same_edges in
    let factor : count + 1 ≡ suc (length (edges_into p system.edges)) = omega arith in
    ap₂ (λ a b. a * b) before (ap₂ (λ a b. a ^ b) factor (ap (λ t. length t) same_rows)) ∙ sym (product_to-more system p)

pub returns-in-None-clause-count : goal.returns-in-None-clause-count
returns-in-None-clause-count c =
    let system = equations_of c.args.system.now in
    let p = c.loop-point.point in
    let points : length c.as_slice.result.now ≡ system.points = ap (λ ps. length ps) c.as_slice.ensures in
    let within = c.loop-point-test.true in
    let up = product_to-grows system (p + 1) (system.points - (p + 1)) in
    let all : product_to system (p + 1 + (system.points - (p + 1))) ≡ pick_count system =
    ap (product_to system) (omega arith) ∙ product_to-all system in
    let here =
    next (equations_of c.args.system.now) c.loop-point.product c.loop-point.point c.count_into.result c.as_slice-edges.result.now
    c.as_slice-rows.result.now
    c.as_slice-edges.ensures c.as_slice-rows.ensures.rows c.count_into.ensures.count c.loop-point.invariant.product in
    λ h. c.in-None.ensures (omega arith)

pub loop-point-preserved : goal.loop-point-preserved
loop-point-preserved c = record {
  product = c.in-Some.ensures.1
      ∙ next (equations_of c.args.system.now) c.loop-point.product c.loop-point.point c.count_into.result c.as_slice-edges.result.now
      c.as_slice-rows.result.now
      c.as_slice-edges.ensures c.as_slice-rows.ensures.rows c.count_into.ensures.count c.loop-point.invariant.product;
  small = subst (λ n. n ≤ MOST_IMPROVEMENTS) (sym c.in-Some.ensures.1) c.in-Some.ensures.0;
}

-- after the last point
whole : (c : goal.After-loop-point) → c.loop-point.product ≡ pick_count (equations_of c.args.system.now)
whole c =
    let system = equations_of c.args.system.now in
    let points : length c.as_slice.result.now ≡ system.points = ap (λ ps. length ps) c.as_slice.ensures in
    let low = c.loop-point-test.false in
    let high = c.loop-point.auto.point-end in
    c.loop-point.invariant.product ∙ ap (product_to system) (omega arith) ∙ product_to-all system

pub returns-clause-count : goal.returns-clause-count
returns-clause-count c = (subst (λ n. n ≤ MOST_IMPROVEMENTS) (whole c) c.loop-point.invariant.small, whole c)

pub returns-clause-rounds : goal.returns-clause-rounds
returns-clause-rounds c T evident n d z pick steps rounds = subst (λ p. n < p) (sym (whole c))
    (rounds_fewer (equations_of c.args.system.now) T evident n d z pick steps rounds)
