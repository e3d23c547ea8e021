use Rattle.std.proofs.Common.{◌≡◌, ◌∙◌, ◌<◌, length, get_or, refl, sym, ap, subst, arith}
use Rattle.std.proofs.lemmas.List.{get_or_read}
use Rattle.base_numbers.specs.Rational.{zero_ℚ}
use Rattle.base_fractions.specs.Extended.{extended}
use Rattle.flow_systems.specs.View.{equations_of}
use Rattle.theory_validity.specs.Certificates.{NotFinite}
use Rattle.cert_checker.proofs.combination.Entries.{bound_at_row}
use Rattle.cert_checker.proofs.multipliers.Signs.{up_to_more}
use Rattle.cert_checker.proofs.multipliers.are_allowed.Goals as goal

pub loop-r-preserved : goal.loop-r-preserved
loop-r-preserved c = λ z h.
    let S = equations_of c.args.system.now in
    let rows = c.args.rows.now in
    let r = c.loop-r.r in
    let x = c.index-rows-r.result in
    let l : r < length c.args.system.now.template = omega (arith, c.loop-r-test.true, c.requires.rows) in
    let e : x ≡ get_or rows r zero_ℚ = get_or_read rows r x c.loop-r-test.true c.index-rows-r.is zero_ℚ in
    let b : extended c.at.result ≡ z c.args.point r = bound_at_row S c.args.bounds.now z h c.args.point r (length c.as_slice.result.now)
    (extended c.at.result) c.requires.point l (ap (λ rs. length rs) c.as_slice.ensures.rows) c.at.ensures in
    up_to_more {P = λ k. NotFinite (z c.args.point k) → get_or rows k zero_ℚ ≡ zero_ℚ} r (c.loop-r.invariant z h)
    (λ n. sym e ∙ c.is_allowed.ensures.0 c.if-not-is_allowed.false (subst NotFinite (sym b) n))

pub returns : goal.returns
returns c = λ z h. (
  (λ t r l. c.loop-r.invariant z h r (let n = c.loop-r-test.false in omega (arith, l, n, c.requires.rows))),
  (λ all. refl),
)
