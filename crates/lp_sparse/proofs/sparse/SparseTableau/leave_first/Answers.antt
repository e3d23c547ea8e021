use Rattle.std.proofs.Common.{◌≡◌, ◌<◌, ℕ, length, get_or, sym, ap, ◌∙◌, subst, arith}
use Rattle.lp_theory.specs.Table.{Agree, skip}
use Rattle.lp_theory.specs.Run.{place_of, leave_table}
use Rattle.lp_sparse.specs.Entries.{left_out}
use Rattle.lp_sparse.specs.Rows.{row_at, numbers}
use Rattle.lp_sparse.specs.Named.{named_table}
use Rattle.lp_sparse.proofs.sparse.Tabled.{sparse_leaves, leave_rises, leave_no_zeros}
use Rattle.lp_sparse.proofs.sparse.SparseTableau.leave_first.Goals as goal

pub invariant_of-self-clause-rising : goal.invariant_of-self-clause-rising
invariant_of-self-clause-rising g c = λ _.
    let d = c.args.self.now in
    let z = c.zero_place-col.result in
    let z_in = subst (λ xs. c.zero_place-col.result < length xs) c.deref.ensures.value c.zero_place-col.ensures.within in
    let at : c.len.result ≡ length d.basics.items = omega arith in
    let zs = c.leave_out_with_row.new.rows.items in
    let left = λ (i : ℕ). c.leave_out_with_row.ensures.left i ∙ ap (λ n. left_out z (row_at d.rows.items (skip n i))) at in
    leave_rises g.F.OrderedField.meaning d.basics.items d.others.items c.remove.new.self.items d.rows.items zs z z_in
    c.remove.ensures.items left (d.rising c.requires.fresh)

pub returns-clause-left : goal.returns-clause-left
returns-clause-left g c =
    let m = g.F.OrderedField.meaning in
    let d = c.args.self.now in
    let bs = d.basics.items in
    let ns = d.others.items in
    let w = c.deref.ensures.value in
    let z = c.zero_place-col.result in
    let z_in = subst (λ xs. c.zero_place-col.result < length xs) w c.zero_place-col.ensures.within in
    let z_is = c.zero_place-col.ensures.place ∙ ap (λ xs. place_of (λ k. get_or xs k 0) (length xs) 0) w in
    let at : c.len.result ≡ length d.basics.items = omega arith in
    let zs = c.leave_out_with_row.new.rows.items in
    let left = λ (i : ℕ). c.leave_out_with_row.ensures.left i ∙ ap (λ n. left_out z (row_at d.rows.items (skip n i))) at in
    subst (λ q. Agree (leave_table (named_table bs ns q (numbers m d.rows.items)))
    (named_table bs c.remove.new.self.items 1 (numbers m zs))) (sym c.requires.goals)
    (sparse_leaves m bs ns c.remove.new.self.items d.rows.items zs z z_in c.remove.ensures.items left z_is)

pub returns-clause-no_zero : goal.returns-clause-no_zero
returns-clause-no_zero g c =
    let d = c.args.self.now in
    let z = c.zero_place-col.result in
    let z_in = subst (λ xs. c.zero_place-col.result < length xs) c.deref.ensures.value c.zero_place-col.ensures.within in
    let at : c.len.result ≡ length d.basics.items = omega arith in
    let zs = c.leave_out_with_row.new.rows.items in
    let left = λ (i : ℕ). c.leave_out_with_row.ensures.left i ∙ ap (λ n. left_out z (row_at d.rows.items (skip n i))) at in
    leave_no_zeros g.F.OrderedField.meaning d.basics.items d.others.items c.remove.new.self.items d.rows.items zs z z_in
    c.remove.ensures.items left
