use Rattle.std.proofs.Common.{◌≡◌, ◌+◌, ◌≤◌, suc, length, arith}
use Rattle.lp_dictionary.proofs.dict.DictReads.{placed_read}
use Rattle.lp_dictionary.proofs.dict.DictTableau.entry.Goals as goal

pub returns : goal.returns
returns g c =
    let d = c.args.self.now in
    let k = d.others.ok.0 in
    let s : c.len-stride.result + 1 ≡ suc (length d.others.items) = omega arith in
    let b : c.args.col ≤ length d.others.items = omega arith in
    placed_read g.F.OrderedField.meaning d.entries.items d.basics.items d.others.items d.goals c.args.row c.args.col
    (c.len-stride.result + 1) c.index.result.now d.sized c.requires.row b s c.index.ensures
