use Rattle.std.proofs.Common.{◌≡◌, ◌+◌, ◌*◌, ◌<◌, ◌≤◌, ◌++◌, ℕ, suc, Bool, true, false, length, map, get_or, refl, ap, sym, ◌∙◌, subst}
use Rattle.std.proofs.Common.{arith}
use Rattle.std.proofs.lemmas.List.{length-map}
use Rattle.lp_theory.specs.Table.{Agree}
use Rattle.lp_dictionary.specs.declared.problem.Row.{Row}
use Rattle.lp_dictionary.specs.Build.{goals_of, width_of, other_name, slacks_entries, goals_entries}
use Rattle.lp_dictionary.specs.Cells.{cells_table}
use Rattle.lp_dictionary.specs.Exact.{exact, start_table}
use Rattle.lp_dictionary.proofs.cells.DictStarts.{shaped_rows, start_agrees, start_sized}
use Rattle.lp_dictionary.proofs.dict.DictTableau.build.Goals as goal

two_goals : (b : Bool) → goals_of b ≤ 2
two_goals true = omega arith
two_goals false = omega arith

pub invariant_of-result : goal.invariant_of-result
invariant_of-result g c =
    let m = g.F.OrderedField.meaning in
    let p = c.args.problem.now in
    let W = length p.goal in
    let A = map (λ (r : Row _). r.coeffs) p.rows.items in
    let b = map (λ (r : Row _). m r.side) p.rows.items in
    let kr = p.rows.ok.0 in
    let aux = c.is_some-auxiliary.result in
    let n = length-map p.rows.items (λ (r : Row _). m r.side) in
    let bs_long : length c.in_ok-basics.basics.items ≡ length (map (λ (r : Row _). m r.side) p.rows.items) =
    let e = c.in_ok-basics.ensures.0 in let f = c.len.ensures in omega (arith, e, f, n, kr) in
    let cols : c.len-cols.result ≡ length p.goal = c.len-cols.ensures in
    let ns_long = subst (λ w. length c.in_ok-others.others.items ≡ width_of c.is_some-auxiliary.result w) cols c.in_ok-others.ensures.0 in
    let entries = c.in_ok-entries.ensures ∙ ap (λ k. slacks_entries aux A b k ++ goals_entries aux p.goal) (sym n) in
    record {
      sized = subst (λ q. length c.in_ok-entries.entries.items ≡ (length c.in_ok-basics.basics.items + q)
          * (suc (length c.in_ok-others.others.items))) (sym c.goal_count.ensures)
          (start_sized W A b p.goal (shaped_rows m W p.rows.items c.requires.rows) refl m
          c.in_ok-basics.basics.items c.in_ok-others.others.items c.in_ok-entries.entries.items aux bs_long ns_long entries);
      two = subst (λ q. q ≤ 2) (sym c.goal_count.ensures) (two_goals aux);
    }

pub returns-clause-first : goal.returns-clause-first
returns-clause-first g c =
    let m = g.F.OrderedField.meaning in
    let p = c.args.problem.now in
    let W = length p.goal in
    let A = map (λ (r : Row _). r.coeffs) p.rows.items in
    let b = map (λ (r : Row _). m r.side) p.rows.items in
    let kr = p.rows.ok.0 in
    let aux = c.is_some-auxiliary.result in
    let n = length-map p.rows.items (λ (r : Row _). m r.side) in
    let rows : c.len.result ≡ length (map (λ (r : Row _). m r.side) p.rows.items) = let f = c.len.ensures in omega (arith, f, n, kr) in
    let bs_long : length c.in_ok-basics.basics.items ≡ length (map (λ (r : Row _). m r.side) p.rows.items) =
    let e = c.in_ok-basics.ensures.0 in omega (arith, e, rows) in
    let cols : c.len-cols.result ≡ length p.goal = c.len-cols.ensures in
    let ns_long = subst (λ w. length c.in_ok-others.others.items ≡ width_of c.is_some-auxiliary.result w) cols c.in_ok-others.ensures.0 in
    let ns_are = subst (λ w. (k : ℕ) → k < width_of c.is_some-auxiliary.result w → get_or c.in_ok-others.others.items k 0 ≡ other_name w k)
    cols c.in_ok-others.ensures.1 in
    let bs_are = λ (k : ℕ) (l : k < length (map (λ (r : Row _). m r.side) p.rows.items)).
    let e = c.in_ok-basics.ensures.1 k (omega (arith, l, rows)) in
    let f : c.len-cols.result + 1 + k ≡ suc (k + length p.goal) = omega (arith, cols) in e ∙ f in
    let entries = c.in_ok-entries.ensures ∙ ap (λ k. slacks_entries aux A b k ++ goals_entries aux p.goal) (sym n) in
    subst (λ q. Agree (start_table (exact m p)) (cells_table m c.in_ok-basics.basics.items c.in_ok-others.others.items q
    c.in_ok-entries.entries.items)) (sym c.goal_count.ensures)
    (start_agrees W A b p.goal (shaped_rows m W p.rows.items c.requires.rows) refl m
    c.in_ok-basics.basics.items c.in_ok-others.others.items c.in_ok-entries.entries.items bs_long bs_are
    aux c.lowest_side.result c.is_some-auxiliary.ensures c.lowest_side.ensures ns_long ns_are entries)
