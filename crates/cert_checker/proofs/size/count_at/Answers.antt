use Rattle.std.proofs.Common.{◌≡◌, ◌∙◌, ◌/◌, ◌%◌, length, sym, ap, arith}
use Rattle.base_fractions.specs.Extended.{extended}
use Rattle.flow_systems.specs.View.{equations_of}
use Rattle.theory_validity.specs.Certificates.{into_needs, needs_at}
use Rattle.cert_checker.proofs.size.Counts.{needs_finite, needs_top}
use Rattle.cert_checker.proofs.events.Ranges.{few_edges}
use Rattle.cert_checker.proofs.size.count_at.Goals as goal

pub returns-in-PosInf-clause-count : goal.returns-in-PosInf-clause-count
returns-in-PosInf-clause-count c =
    let S = equations_of c.args.system.now in
    let p = c.args.unknown / length c.args.system.now.template in
    let r = c.args.unknown % length c.args.system.now.template in
    sym (ap (λ ns. length ns) (ap (λ b. needs_at S p r (extended b)) c.in-PosInf.is ∙ needs_top S p r))

pub returns-in_default : goal.returns-in_default
returns-in_default c =
    let S = equations_of c.args.system.now in
    let rows : length c.as_slice.result.now ≡ length c.args.system.now.template = ap (λ xs. length xs) c.as_slice.ensures.rows in
    let p = c.args.unknown / length c.args.system.now.template in
    let r = c.args.unknown % length c.args.system.now.template in
    record {
      count = c.count_into.ensures.count r 0 ∙ ap (λ w. length (into_needs (c.args.unknown / w) r 0 c.as_slice-in_default.result.now)) rows
          ∙ ap (λ es. length (into_needs p r 0 es)) c.as_slice-in_default.ensures
          ∙ sym (ap (λ ns. length ns) (needs_finite S p r c.args.bound c.in_default.not-PosInf));
      few = (let f = c.count_into.ensures.few in let e = ap (λ es. length es) c.as_slice-in_default.ensures in
          let l = few_edges c.args.system.now.flow in omega (arith, f, e, l));
    }
