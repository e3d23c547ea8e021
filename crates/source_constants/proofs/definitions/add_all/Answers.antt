use Rattle.std.proofs.Common.{◌∙◌, ap, sym}
use Rattle.source_constants.specs.Definitions.{with_placed}
use Rattle.source_constants.proofs.placing.{one_more}
use Rattle.source_constants.proofs.definitions.add_all.Goals as goal

pub loop-definition-preserved : goal.loop-definition-preserved
loop-definition-preserved c =
    let d = c.in-Some.definition in
    c.in_ok-add.ensures ∙ ap (with_placed d) c.loop-definition.invariant
    ∙ sym (one_more c.loop-definition.yielded d c.args.list.now.items)
