use Rattle.std.proofs.Common.{◌≡◌, ◌∙◌, ℕ, ◌*◌, ◌/◌, ◌%◌, ◌<◌, List, length, map, get_or, sym, ap, arith}
use Rattle.std.proofs.lemmas.List.{length-map}
use Rattle.base_numbers.specs.Extended.{Ext, neg_inf}
use Rattle.base_fractions.specs.Extended.{extended}
use Rattle.base_fractions.specs.declared.ext.Ext.{Ext as Bound}
use Rattle.flow_systems.specs.Equations.{Equations, Vector}
use Rattle.cert_checker.specs.Stands.{Stands}
use Rattle.cert_checker.proofs.events.Numbers.{bound_of}
use Rattle.base_fractions.proofs.extended.Compared.{differs, equals}
use Rattle.cert_checker.proofs.final_vector.Compared.{final_first, final_more, final_stops, final_all}
use Rattle.cert_checker.proofs.final_vector.compare.Goals as goal

pub loop-unknown-init : goal.loop-unknown-init
loop-unknown-init c = λ system z ends h g. final_first system z ends

-- an unknown's bounds in both vectors
both_at : (system : Equations) (z ends : Vector) (xs ys : List Ext) → Stands system xs z → Stands system ys ends → (listed : List Bound)
    → map extended listed ≡ ys → (u : ℕ) → u < length listed →
    (get_or xs u neg_inf ≡ z (u / length system.template) (u % length system.template))
    × (get_or ys u neg_inf ≡ ends (u / length system.template) (u % length system.template))
    × (u < system.points * length system.template)
both_at system z ends xs ys h g listed e u l =
    let m = length-map listed extended in
    let b = ap (λ bs. length bs) e in
    let s = h.size in
    let q = g.size in (
      bound_of system xs z h u (omega (arith, m, b, l, s, q)),
      bound_of system ys ends g u (omega (arith, m, b, l)),
      omega (arith, m, b, l, q),
    )

pub returns-then-ne : goal.returns-then-ne
returns-then-ne c = λ system z ends h g.
    let u = c.loop-unknown.unknown in
    let at = both_at system z ends c.args.reached.now c.args.bounds.now h g c.as_slice.result.now c.as_slice.ensures u
    c.loop-unknown-test.true in
    final_stops system z ends u (c.loop-unknown.invariant system z ends h g) at.2
    (λ e. differs c.at.result c.at-in-loop-unknown.result c.if-ne.ensures
    (c.at.ensures ∙ at.0 ∙ e ∙ sym (c.at-in-loop-unknown.ensures ∙ at.1)))

pub loop-unknown-preserved : goal.loop-unknown-preserved
loop-unknown-preserved c = λ system z ends h g.
    let u = c.loop-unknown.unknown in
    let at = both_at system z ends c.args.reached.now c.args.bounds.now h g c.as_slice.result.now c.as_slice.ensures u
    c.loop-unknown-test.true in
    final_more system z ends u (c.loop-unknown.invariant system z ends h g) at.2
    (sym (c.at.ensures ∙ at.0) ∙ equals c.at.result c.at-in-loop-unknown.result c.if-ne.ensures ∙ (c.at-in-loop-unknown.ensures ∙ at.1))

pub returns : goal.returns
returns c = λ system z ends h g.
    let m = length-map c.as_slice.result.now extended in
    let b = ap (λ bs. length bs) c.as_slice.ensures in
    let t = c.loop-unknown-test.false in
    let s = g.size in
    (tt, final_all system z ends c.loop-unknown.unknown (c.loop-unknown.invariant system z ends h g) (omega (arith, m, b, t, s)))
