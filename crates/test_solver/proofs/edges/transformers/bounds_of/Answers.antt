use Rattle.std.proofs.Common.{◌≡◌, ◌∙◌, ◌+◌, ◌-◌, ◌*◌, ◌<◌, ℕ, zero, suc, List, length, ap, ap₂, sym, arith, length-append}
use Rattle.std.specs.Prelude.{replicate}
use Rattle.std.proofs.lemmas.List.{length-replicate}
use Rattle.std.proofs.Math.Nat.{suc-mul}
use Rattle.base_numbers.specs.Extended.{Ext, neg_inf, pos_inf}
use Rattle.flow_systems.specs.Starts.{start_bounds}
use Rattle.test_solver.proofs.edges.transformers.bounds_of.Goals as goal

length-start : (points rows : ℕ) → 0 < points → length (start_bounds points rows) ≡ points * rows
length-start zero rows l = absurd (omega (arith, l))
length-start (suc p) rows l =
    let less : suc p - 1 ≡ p = omega arith in
    length-append (replicate rows pos_inf) (replicate ((suc p - 1) * rows) neg_inf)
    ∙ ap₂ (λ a b. a + b) (length-replicate rows pos_inf) (length-replicate ((suc p - 1) * rows) neg_inf ∙ ap (λ n. n * rows) less)
    ∙ (let e : rows + p * rows ≡ p * rows + rows = omega arith in e) ∙ sym (suc-mul p rows)

pub loop-at-init : goal.loop-at-init
loop-at-init c = ap (λ (bs : List Ext). length bs) c.in_ok-vector.ensures.list
    ∙ length-start (length c.args.system.now.flow.points) (length c.args.system.now.template) c.requires
