use Rattle.std.proofs.Common.{ap, ◌∙◌}
use Rattle.lang_tree.specs.View.{statements_of}
use Rattle.lang_reader.proofs.nodes.Appended.{statements_append}
use Rattle.lang_reader.proofs.nodes.followed.Goals as goal

pub returns : goal.returns
returns c = ap statements_of c.in_ok-append.ensures.items ∙ statements_append c.args.nodes.items c.args.more.items
