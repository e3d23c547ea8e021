use Rattle.std.proofs.Common.{◌≡◌, ◌+◌, ◌-◌, ◌*◌, ◌<◌, suc, length, get_or, take, sym, ap, ap₂, ◌∙◌, subst, arith}
use Rattle.lp_theory.specs.Table.{Agree}
use Rattle.lp_theory.specs.Run.{place_of, leave_table}
use Rattle.lp_dictionary.specs.Cells.{cells_table}
use Rattle.lp_dictionary.proofs.cells.DictPivots.{written_back}
use Rattle.lp_dictionary.proofs.cells.DictLeaves.{leave_agrees, shifts_in}
use Rattle.lp_dictionary.proofs.dict.DictTableau.leave_first.Goals as goal

pub returns-clause-left : goal.returns-clause-left
returns-clause-left g c =
    let m = g.F.OrderedField.meaning in
    let d = c.args.self.now in
    let bs = d.basics.items in
    let ns = d.others.items in
    let kb = d.basics.ok.0 in
    let ko = d.others.ok.0 in
    let ke = d.entries.ok.0 in
    let z = c.zero_place-col.result in
    let w = c.deref.ensures.value in
    let z_in : c.zero_place-col.result < length d.others.items = subst (λ xs. c.zero_place-col.result < length xs) w
    c.zero_place-col.ensures.within in
    let z_is : c.zero_place-col.result ≡ place_of (λ k. get_or d.others.items k 0) (length d.others.items) 0 =
    c.zero_place-col.ensures.place ∙ ap (λ xs. place_of (λ k. get_or xs k 0) (length xs) 0) w in
    let n : c.len-rows.result + 1 ≡ length d.basics.items + 1 = omega arith in
    let r : c.len.result ≡ length d.basics.items = omega arith in
    let s : c.len-stride.result + 1 ≡ suc (length d.others.items) = omega arith in
    let u : c.len-stride.result + 1 - 1 ≡ length d.others.items = omega arith in
    let h = shifts_in m (c.len-rows.result + 1) (length bs + 1) c.len.result (length bs) (c.len-stride.result + 1) (suc (length ns)) z
    c.deref_mut.result.now d.entries.items c.shift_rows.new.entries n r s c.deref_mut.ensures.value c.shift_rows.ensures in
    let l : length c.shift_rows.new.entries ≡ d.entries.len = omega arith in
    let back = written_back d.entries.items c.shift_rows.new.entries d.entries.len l in
    let taken = c.truncate.ensures.items ∙ ap (take ((c.len-rows.result + 1) * (c.len-stride.result + 1 - 1))) back
    ∙ ap₂ (λ a b. take (a * b) c.shift_rows.new.entries) n u in
    subst (λ q. Agree (leave_table (cells_table m bs ns q d.entries.items))
    (cells_table m bs c.remove.new.self.items 1 c.truncate.new.self.items)) (sym c.requires.goals)
    (leave_agrees m bs ns c.remove.new.self.items d.entries.items c.shift_rows.new.entries c.truncate.new.self.items z z_in z_is h
    c.remove.ensures.items taken)
