use Rattle.std.proofs.Common.{◌≡◌, ◌<◌, suc, None, length, set, sym, ap, ◌∙◌, subst, arith}
use Rattle.std.proofs.lemmas.List.{length-set, with_items_is}
use Rattle.lp_theory.specs.Table.{Agree, pivot_table}
use Rattle.base_fractions.specs.Operation.{first_wide}
use Rattle.lp_dictionary.specs.Faults.{Refuses}
use Rattle.lp_sparse.specs.Rows.{numbers, EachRises, Exchanges, exchange_operations}
use Rattle.lp_sparse.specs.Named.{named_table}
use Rattle.lp_sparse.proofs.sparse.Tabled.{sparse_pivots, pivot_rises, pivot_operations_are}
use Rattle.lp_sparse.proofs.sparse.SparseTableau.pivot.Goals as goal

pub exchange-requires-clause-rising : goal.exchange-requires-clause-rising
exchange-requires-clause-rising g c =
    let d = c.args.self.now in (
      suc (length d.others.items),
      subst (EachRises (suc (length d.others.items))) (sym c.deref_mut.ensures.value)
          (d.rising c.requires.fresh),
    )

pub invariant_of-self-clause-few : goal.invariant_of-self-clause-few
invariant_of-self-clause-few g c =
    let d = c.args.self.now in
    subst (λ n. n < 4294967296) (sym (length-set d.others.items c.args.col c.index-leaving.result.now)) d.few

pub invariant_of-self-clause-rising : goal.invariant_of-self-clause-rising
invariant_of-self-clause-rising g c =
    let m = g.F.OrderedField.meaning in
    let d = c.args.self.now in
    let ns = d.others.items in
    let n = suc (length ns) in
    let new = c.exchange.new.rows in
    let v = c.deref_mut.ensures.value in
    let kr = d.rows.ok.0 in
    let long : length c.exchange.new.rows ≡ d.rows.len = omega arith in
    let same : length c.exchange.new.rows ≡ length d.rows.items = omega arith in
    let h = subst (λ xs. Exchanges m (length xs) c.args.row n c.args.col xs new) v
    (c.in-Ok.ensures.exchanged n (subst (EachRises n) (sym v) (d.rising c.requires.fresh))) in
    λ f. subst (EachRises (suc (length (set ns c.args.col c.index-leaving.result.now)))) (sym (with_items_is d.rows new long))
    (subst (λ w. EachRises (suc w) new) (sym (length-set ns c.args.col c.index-leaving.result.now))
    (pivot_rises m d.basics.items ns d.goals d.rows.items new c.args.row c.args.col d.sized h same))

pub returns-in-Ok-clause-exchanged : goal.returns-in-Ok-clause-exchanged
returns-in-Ok-clause-exchanged g c =
    let m = g.F.OrderedField.meaning in
    let d = c.args.self.now in
    let bs = d.basics.items in
    let ns = d.others.items in
    let n = suc (length ns) in
    let new = c.exchange.new.rows in
    let v = c.deref_mut.ensures.value in
    let kr = d.rows.ok.0 in
    let long : length c.exchange.new.rows ≡ d.rows.len = omega arith in
    let h = subst (λ xs. Exchanges m (length xs) c.args.row n c.args.col xs new) v
    (c.in-Ok.ensures.exchanged n (subst (EachRises n) (sym v) (d.rising c.requires.fresh))) in
    subst (λ xs. Agree (pivot_table (named_table bs ns d.goals (numbers m d.rows.items)) c.args.row c.args.col)
    (named_table (set bs c.args.row c.index.result.now) (set ns c.args.col c.index-leaving.result.now) d.goals (numbers m xs)))
    (sym (with_items_is d.rows new long))
    (sparse_pivots m bs ns d.goals d.rows.items new c.args.row c.args.col d.sized h c.index.result.now c.index-leaving.result.now
    c.requires.row c.requires.col c.index.ensures c.index-leaving.ensures)

pub returns-in-Ok-clause-fits : goal.returns-in-Ok-clause-fits
returns-in-Ok-clause-fits g c =
    let m = g.F.OrderedField.meaning in
    let L = g.F.OrderedField.LIMIT in
    let d = c.args.self.now in
    let n = suc (length d.others.items) in
    let v = c.deref_mut.ensures.value in
    ap (first_wide L) (pivot_operations_are d.basics.items d.others.items d.goals (length d.rows.items) (numbers m d.rows.items) c.args.row
    c.args.col d.sized)
    ∙ subst (λ xs. first_wide L (exchange_operations (numbers m xs) (length xs) c.args.row n c.args.col) ≡ None) v
    (c.in-Ok.ensures.fits n (subst (EachRises n) (sym v) (d.rising c.requires.fresh)))

pub returns-in-Err-clause-refused : goal.returns-in-Err-clause-refused
returns-in-Err-clause-refused g c =
    let m = g.F.OrderedField.meaning in
    let L = g.F.OrderedField.LIMIT in
    let d = c.args.self.now in
    let n = suc (length d.others.items) in
    let v = c.deref_mut.ensures.value in
    subst (λ os. Refuses m L os c.in-Err.fault) (sym (pivot_operations_are d.basics.items d.others.items d.goals (length d.rows.items)
    (numbers m d.rows.items) c.args.row c.args.col d.sized))
    (subst (λ xs. Refuses m L (exchange_operations (numbers m xs) (length xs) c.args.row n c.args.col) c.in-Err.fault) v
    (c.in-Err.ensures.refused n (subst (EachRises n) (sym v) (d.rising c.requires.fresh))))
