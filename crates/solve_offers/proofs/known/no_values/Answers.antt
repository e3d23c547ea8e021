use Rattle.std.proofs.Common.{◌≡◌, ◌∙◌, ◌*◌, ◌∷◌, [], ◌++◌, length, ap, ap₂, arith}
use Rattle.std.specs.Prelude.{None, replicate}
use Rattle.std.proofs.lemmas.List.{replicate-append-replicate}
use Rattle.solve_offers.proofs.known.no_values.Goals as goal

pub loop-entry-preserved : goal.loop-entry-preserved
loop-entry-preserved c = c.in_ok-push.ensures.items ∙ ap (λ xs. xs ++ None ∷ []) c.loop-entry.invariant
    ∙ replicate-append-replicate c.loop-entry._entry 1 None

pub returns : goal.returns
returns c =
    let system = c.args.system.now in
    let all : length c.as_slice-edges.result.now * length c.as_slice-rows.result.now ≡ length system.flow.edges * length system.template =
    ap₂ (λ a b. a * b) (ap (λ es. length es) c.as_slice-edges.ensures) (ap (λ t. length t) c.as_slice-rows.ensures.rows) in
    c.loop-entry.invariant ∙ ap (λ n. replicate n None) (omega (arith, all, c.loop-entry-test.false, c.loop-entry.auto._entry-end))
