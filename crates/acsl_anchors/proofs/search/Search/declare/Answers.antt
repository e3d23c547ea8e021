use Rattle.std.proofs.Common.{◌≡◌, ◌∙◌, ℕ, List, length, ap, arith}
use Rattle.acsl_anchors.specs.Anchors.{number_among}
use Rattle.acsl_anchors.proofs.Variables.{declared_again, declared_more}
use Rattle.acsl_anchors.proofs.search.Search.declare.Goals as goal

pub returns-in_ok-push-2-clause-scope : goal.returns-in_ok-push-2-clause-scope
returns-in_ok-push-2-clause-scope c =
    declared_more c.args.name c.args.self.now.variables.items _ c.args.self.now.known.items _ c.number_among-number.result
    (c.number_among-number.ensures.number ∙ ap (λ (l : List (List ℕ)). number_among c.args.name l) c.deref.ensures.value)
    (omega (arith, c.if-number-len.true, c.len.ensures)) (search c.in_ok-push-2.ensures.items) (search c.in_ok-push.ensures.items)

pub returns-else-number-len-clause-scope : goal.returns-else-number-len-clause-scope
returns-else-number-len-clause-scope c =
    let same : length c.deref.result.now ≡ length c.args.self.now.variables.items =
    ap (λ (l : List (List ℕ)). length l) c.deref.ensures.value in
    declared_again c.args.name c.args.self.now.variables.items c.args.self.now.known.items _ c.number_among-number.result
    (c.number_among-number.ensures.number ∙ ap (λ (l : List (List ℕ)). number_among c.args.name l) c.deref.ensures.value)
    (omega (arith, c.if-number-len.false, c.len.ensures, same, c.number_among-number.ensures.within)) (search c.in_ok-push.ensures.items)
