use Rattle.std.proofs.Common.{◌+◌, ◌<◌, ◌++◌, ◌∷◌, [], length, map, take, ap, sym, ◌∙◌, arith}
use Rattle.std.proofs.lemmas.List.{map_more}
use Rattle.base_numbers.specs.Rational.{zero_ℚ}
use Rattle.lp_dictionary.specs.Build.{signed_by}
use Rattle.lp_dictionary.proofs.build.Built.{appended_more}
use Rattle.lp_dictionary.proofs.build.push_spread.Goals as goal

pub loop-col-preserved : goal.loop-col-preserved
loop-col-preserved g c =
    let m = g.F.OrderedField.meaning in
    let f = signed_by c.args.negated in
    let xs = c.args.coefficients.now in
    let k = c.loop-col.col in
    let within : c.loop-col.col < length c.args.coefficients.now = let e = c.len-col-end.ensures in let l = c.loop-col-test.true in
    omega (arith, e, l) in
    appended_more m c.loop-col.entries.items c.push.new.self.items (map m c.args.entries.now.items) (map f (take k xs))
    (map f (take (k + 1) xs)) c.signed.result c.in_ok-push.ensures.items c.loop-col.invariant
    (map_more f xs k zero_ℚ within ∙ ap (λ v. map f (take k xs) ++ v ∷ []) (sym (c.signed.ensures ∙ ap f c.at.ensures)))
