use Rattle.std.proofs.Common.{◌∙◌, length, ap, arith}
use Rattle.std.proofs.lemmas.List.{length-map}
use Rattle.base_fractions.specs.Extended.{extended}
use Rattle.cert_checker.specs.Stands.{start_at}
use Rattle.cert_checker.proofs.events.Sequence.{starts}
use Rattle.cert_checker.proofs.steps.restart.Goals as goal

pub returns-clause-start : goal.returns-clause-start
returns-clause-start c = λ system q e.
    let a = ap (λ b. length b) c.as_slice.ensures in
    let m = length-map c.as_slice.result.now extended in
    let s = c.loop-u.invariant.size in
    let l = c.loop-u-test.false in
    starts system c.loop-u.bounds c.loop-u.u (omega (arith, a, m, s, l)) (λ j i. c.loop-u.invariant.start j i ∙ ap (λ r. start_at r j) q)
    (s ∙ e)
