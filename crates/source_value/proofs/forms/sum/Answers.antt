use Rattle.std.proofs.Common.{ap, pos}
use Rattle.lang_tree.specs.Limits.{has_numbers}
use Rattle.source_core.specs.Forms.{plus, scaled}
use Rattle.source_value.specs.Answers.{IsForm}
use Rattle.source_value.proofs.answers.Handed.{wanted_as}
use Rattle.source_value.proofs.forms.Made.{scaled-one}
use Rattle.source_value.proofs.forms.sum.Goals as goal

pub returns : goal.returns
returns c =
    let left = c.args.left.now in
    let right = c.args.right.now in
    wanted_as IsForm has_numbers c.multiple_of_form_added.result (plus left (scaled (pos 1) right)) (plus left right)
    (ap (plus left) (scaled-one right)) c.multiple_of_form_added.ensures
