use Rattle.std.proofs.Common.{◌∙◌, ◌+◌, ◌*◌, ◌++◌, List, length, get_or, map, sym, ap, subst}
use Rattle.std.proofs.lemmas.List.{append_assoc}
use Rattle.base_numbers.specs.Extended.{neg_inf}
use Rattle.flow_systems.specs.View.{equations_of}
use Rattle.cert_types.specs.Certificates.{evidence_of}
use Rattle.solve_offers.specs.AtBounds.{vector_at}
use Rattle.solve_offers.specs.Known.{AreKnown}
use Rattle.solve_offers.specs.Offers.{is_top}
use Rattle.solve_offers.proofs.offers.Offered.{below_top}
use Rattle.solve_rounds.specs.Uppers.{uppers_of_rows, uppers_into}
use Rattle.solve_rounds.proofs.uppers.UpperLists.{rows_top, rows_edges}
use Rattle.solve_rounds.proofs.uppers.push_point.Goals as goal
use Rattle.solve_rounds.proofs.uppers.push_point.Goals.{then-not-is_unlimited+in_ok-push_into, else-not-is_unlimited}

pub loop-row-preserved : goal.loop-row-preserved
loop-row-preserved c =
    let system = c.args.at.now.system.now in
    let E = equations_of system in
    let z = vector_at system c.args.at.now.bounds.now in
    let p = c.args.point in
    let r = c.loop-row.row in
    let old = map evidence_of c.args.uppers.now.items in
    let bound = ap is_top (c.at.ensures ∙ ap (λ n. get_or c.args.at.now.bounds.now (p * n + r) neg_inf)
    (ap (λ (t : List _). length t) c.as_slice.ensures.rows)) in
    elim c.if-not-is_unlimited.branch [
      | then-not-is_unlimited+in_ok-push_into w ↦ record {
        uppers = ap (λ v. map evidence_of v.items) w.uppers-is
            ∙ w.in_ok-push_into.ensures.uppers
            ∙ ap (λ s. s ++ uppers_into E z p r) c.loop-row.invariant.uppers
            ∙ append_assoc old (uppers_of_rows E z p r) (uppers_into E z p r)
            ∙ ap (λ s. old ++ s) (rows_edges E z p r (sym (sym w.if-not-is_unlimited.true ∙ c.is_unlimited.ensures ∙ bound)));
        known = subst (AreKnown system c.args.at.now.bounds.now) (sym w.known-is) w.in_ok-push_into.ensures.known;
      }
      | else-not-is_unlimited w ↦ record {
        uppers = ap (λ v. map evidence_of v.items) w.uppers-is ∙ c.loop-row.invariant.uppers
            ∙ ap (λ s. old ++ s) (rows_top E z p r (sym (sym w.if-not-is_unlimited.false ∙ c.is_unlimited.ensures ∙ bound)));
        known = subst (AreKnown system c.args.at.now.bounds.now) (sym w.known-is) c.loop-row.invariant.known;
      }
    ]

pub push_into-requires-clause-limited : goal.push_into-requires-clause-limited
push_into-requires-clause-limited c =
    let bounds = c.args.at.now.bounds.now in
    let place = ap (λ n. get_or bounds (c.args.point * n + c.loop-row.row) neg_inf)
    (ap (λ (t : List _). length t) c.as_slice.ensures.rows) in
    below_top (vector_at c.args.at.now.system.now bounds c.args.point c.loop-row.row)
    (sym (sym c.if-not-is_unlimited.true ∙ c.is_unlimited.ensures ∙ ap is_top (c.at.ensures ∙ place)))
