use Rattle.std.proofs.Common.{◌+◌, ◌-◌, length, take, drop}
use Rattle.source_tokens.proofs.placed.Fronts.{dropped, taken}
use Rattle.source_constants.proofs.directive.add_all.Goals as goal

pub add_defined-requires : goal.add_defined-requires
add_defined-requires c =
    let text = c.args.text.now in
    let asides = c.args.asides.now in
    let from = c.loop-index.index + 1 in
    taken text (take (length asides - from) (drop from asides)) c.len_to_hash.result
    (taken text (drop from asides) (length asides - from) (dropped text asides from c.requires))
