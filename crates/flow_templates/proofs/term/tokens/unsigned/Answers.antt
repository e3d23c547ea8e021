use Rattle.std.proofs.Common.{w64, rules}
use Rattle.std.proofs.lemmas.Int.{to_z-of_z}
use Rattle.flow_templates.proofs.term.Steps.{name_first, number_first}
use Rattle.flow_templates.proofs.term.tokens.unsigned.Goals as goal

pub returns-in-Name : goal.returns-in-Name
returns-in-Name c =
    name_first c.args.line.now c.args.tokens.now _ c.args.negative c.named.result c.in-len1-up.len_at_least c.in-Name.is
    c.named.ensures.coefficient c.named.ensures.name c.requires

pub returns-in-Number : goal.returns-in-Number
returns-in-Number c =
    number_first c.args.line.now c.args.tokens.now _ c.args.negative c.in-Number.factor _ c.multiple.result
    c.in-len1-up.len_at_least c.in-Number.is (to_z-of_z w64 c.in-Number.factor (search rules)) c.multiple.ensures
