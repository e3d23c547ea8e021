use Rattle.std.proofs.Common.{◌+◌, ◌++◌, ◌∷◌, [], map, ap, sym, ◌∙◌}
use Rattle.base_numbers.specs.Vector.{zeros}
use Rattle.lp_dictionary.proofs.build.Built.{zeros_more, appended_more}
use Rattle.lp_dictionary.proofs.build.push_zeros.Goals as goal

pub loop-k-preserved : goal.loop-k-preserved
loop-k-preserved g c =
    let m = g.F.OrderedField.meaning in
    appended_more m c.loop-k.entries.items c.push.new.self.items (map m c.args.entries.now.items) (zeros c.loop-k._k)
    (zeros (c.loop-k._k + 1)) c.zero.result c.in_ok-push.ensures.items c.loop-k.invariant
    (zeros_more c.loop-k._k ∙ ap (λ x. zeros c.loop-k._k ++ x ∷ []) (sym c.zero.ensures.value))
