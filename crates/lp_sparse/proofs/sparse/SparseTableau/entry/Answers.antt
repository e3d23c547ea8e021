use Rattle.std.proofs.Common.{◌<◌, suc, length, sym, ◌∙◌, subst, arith}
use Rattle.lp_dictionary.specs.Entries.{Rises}
use Rattle.lp_sparse.proofs.rows.RowsAt.{row_is}
use Rattle.lp_sparse.proofs.sparse.SparseTableau.entry.Goals as goal

pub value_in-requires : goal.value_in-requires
value_in-requires g c =
    let d = c.args.self.now in
    let n = suc (length d.others.items) in
    let kr = d.rows.ok.0 in
    let l : c.args.row < length d.rows.items = omega arith in (
      n,
      subst (Rises 0 n) (row_is d.rows.items c.args.row c.index.result.now l c.index.ensures ∙ sym c.deref.ensures.value)
          (d.rising c.requires.fresh c.args.row),
    )
