use Rattle.std.proofs.Common.{sym, ◌∙◌}
use Rattle.lp_simplex.proofs.scan.Scans.{before_less, before_equal, before_greater}
use Rattle.lp_simplex.proofs.scan.is_before.Goals as goal

pub returns-in-Less : goal.returns-in-Less
returns-in-Less g c =
    let m = g.F.OrderedField.meaning in
    let T = g.T.Tableau.table c.args.tableau.now in
    before_less (m c.args.ratio) (m c.args.best.ratio) (T.row_name c.args.row) (T.row_name c.args.best.row)
    (sym (g.met.F.OrderedField.ordered c.args.ratio c.args.best.ratio) ∙ sym c.cmp.ensures ∙ c.in-Less.is)

pub returns-in-Equal : goal.returns-in-Equal
returns-in-Equal g c =
    let m = g.F.OrderedField.meaning in
    let T = g.T.Tableau.table c.args.tableau.now in
    before_equal (m c.args.ratio) (m c.args.best.ratio) (T.row_name c.args.row) (T.row_name c.args.best.row) c.basic.result
    c.basic-in-Equal.result
    (sym (g.met.F.OrderedField.ordered c.args.ratio c.args.best.ratio) ∙ sym c.cmp.ensures ∙ c.in-Equal.is) c.basic.ensures
    c.basic-in-Equal.ensures

pub returns-in-Greater : goal.returns-in-Greater
returns-in-Greater g c =
    let m = g.F.OrderedField.meaning in
    let T = g.T.Tableau.table c.args.tableau.now in
    before_greater (m c.args.ratio) (m c.args.best.ratio) (T.row_name c.args.row) (T.row_name c.args.best.row)
    (sym (g.met.F.OrderedField.ordered c.args.ratio c.args.best.ratio) ∙ sym c.cmp.ensures ∙ c.in-Greater.is)
