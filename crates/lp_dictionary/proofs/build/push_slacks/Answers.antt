use Rattle.std.proofs.Common.{◌++◌, [], map, ap, sym, ◌∙◌}
use Rattle.std.proofs.lemmas.List.{get_or-map}
use Rattle.base_numbers.specs.Rational.{zero_ℚ}
use Rattle.lp_dictionary.specs.declared.problem.Row.{Row}
use Rattle.lp_dictionary.specs.Build.{slack_entries}
use Rattle.lp_dictionary.proofs.build.Built.{slacks_more, slacks_none}
use Rattle.lp_dictionary.proofs.build.push_slacks.Goals as goal

pub loop-i-init : goal.loop-i-init
loop-i-init g c =
    let m = g.F.OrderedField.meaning in
    ap (map m) c.requires ∙ sym (slacks_none c.args.auxiliary (map (λ (r : Row _). r.coeffs) c.args.rows.now)
    (map (λ (r : Row _). m r.side) c.args.rows.now))

pub loop-i-preserved : goal.loop-i-preserved
loop-i-preserved g c =
    let m = g.F.OrderedField.meaning in
    let r = c.index-rows-i.result in
    c.in_ok-push_slack.ensures ∙ ap (λ x. x ++ slack_entries c.args.auxiliary r.coeffs (m r.side)) c.loop-i.invariant
    ∙ sym (slacks_more c.args.auxiliary (map (λ (r : Row _). r.coeffs) c.args.rows.now)
    (map (λ (r : Row _). m r.side) c.args.rows.now) c.loop-i.i r.coeffs (m r.side)
    (get_or-map (λ (r : Row _). r.coeffs) c.args.rows.now c.loop-i.i r [] c.loop-i-test.true
    ∙ ap (λ (r : Row _). r.coeffs) (sym c.index-rows-i.is))
    (get_or-map (λ (r : Row _). m r.side) c.args.rows.now c.loop-i.i r zero_ℚ c.loop-i-test.true
    ∙ ap (λ (r : Row _). m r.side) (sym c.index-rows-i.is)))
