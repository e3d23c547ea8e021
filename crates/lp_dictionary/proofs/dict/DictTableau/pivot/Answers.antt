use Rattle.std.proofs.Common.{◌≡◌, ◌+◌, suc, length, sym, ap, ◌∙◌, subst, arith}
use Rattle.std.proofs.Common.{set}
use Rattle.lp_theory.specs.Table.{Agree, pivot_table}
use Rattle.base_fractions.specs.Operation.{first_wide}
use Rattle.lp_dictionary.specs.Cells.{cells_table}
use Rattle.lp_dictionary.proofs.cells.DictPivots.{pivot_agrees, written_back, exchange_in, pivot_operations_in}
use Rattle.lp_dictionary.proofs.dict.DictTableau.pivot.Goals as goal

pub returns-in-Ok-clause-exchanged : goal.returns-in-Ok-clause-exchanged
returns-in-Ok-clause-exchanged g c =
    let m = g.F.OrderedField.meaning in
    let d = c.args.self.now in
    let kb = d.basics.ok.0 in
    let ko = d.others.ok.0 in
    let ke = d.entries.ok.0 in
    let n : c.len.result + d.goals ≡ length d.basics.items + d.goals = omega arith in
    let s : c.len-stride.result + 1 ≡ suc (length d.others.items) = omega arith in
    let h = exchange_in m (c.len.result + d.goals) (length d.basics.items + d.goals) c.args.row (c.len-stride.result + 1)
    (suc (length d.others.items)) c.args.col c.deref_mut.result.now d.entries.items c.exchange.new.entries n s
    c.deref_mut.ensures.value c.in-Ok.ensures.exchanged in
    let l : length c.exchange.new.entries ≡ d.entries.len = omega arith in
    subst (λ ys. Agree (pivot_table (cells_table m d.basics.items d.others.items d.goals d.entries.items) c.args.row c.args.col)
    (cells_table m (set d.basics.items c.args.row c.index.result.now) (set d.others.items c.args.col c.index-leaving.result.now) d.goals
    ys))
    (sym (written_back d.entries.items c.exchange.new.entries d.entries.len l))
    (pivot_agrees m d.basics.items d.others.items d.goals d.entries.items c.exchange.new.entries c.args.row c.args.col c.index.result.now
    c.index-leaving.result.now c.requires.row c.requires.col c.index.ensures c.index-leaving.ensures h)

pub returns-in-Ok-clause-fits : goal.returns-in-Ok-clause-fits
returns-in-Ok-clause-fits g c =
    let d = c.args.self.now in
    ap (first_wide g.F.OrderedField.LIMIT)
    (pivot_operations_in g.F.OrderedField.meaning d.basics.items d.others.items d.goals d.entries.items c.args.row c.args.col
    (c.len.result + d.goals) (c.len-stride.result + 1) c.deref_mut.result.now (let k = d.basics.ok.0 in omega arith)
    (let k = d.others.ok.0 in omega arith) c.deref_mut.ensures.value)
    ∙ c.in-Ok.ensures.fits

pub returns-in-Err-clause-refused : goal.returns-in-Err-clause-refused
returns-in-Err-clause-refused g c =
    let d = c.args.self.now in
    ap (first_wide g.F.OrderedField.LIMIT)
    (pivot_operations_in g.F.OrderedField.meaning d.basics.items d.others.items d.goals d.entries.items c.args.row c.args.col
    (c.len.result + d.goals) (c.len-stride.result + 1) c.deref_mut.result.now (let k = d.basics.ok.0 in omega arith)
    (let k = d.others.ok.0 in omega arith) c.deref_mut.ensures.value)
    ∙ c.in-Err.ensures.wide
