use Rattle.std.proofs.Common.{◌≡◌, ◌+◌, ◌<◌, ◌≤◌, ◌++◌, ℕ, suc, Bool, true, false, length, map, get_or, refl, sym, ◌∙◌, subst, arith}
use Rattle.std.proofs.lemmas.List.{length-map, map-id}
use Rattle.base_numbers.specs.Rational.{ℚ}
use Rattle.lp_theory.specs.Table.{Agree}
use Rattle.lp_dictionary.specs.declared.problem.Row.{Row}
use Rattle.lp_dictionary.specs.Build.{goals_of, width_of, other_name, slacks_entries, goals_entries}
use Rattle.lp_dictionary.specs.Exact.{exact, start_table}
use Rattle.lp_dictionary.proofs.cells.DictStarts.{shaped_rows, start_agrees}
use Rattle.lp_sparse.specs.Rows.{numbers}
use Rattle.lp_sparse.specs.Named.{named_table}
use Rattle.lp_sparse.proofs.build.Starting.{short_rows, first_agrees, first_rises}
use Rattle.lp_sparse.proofs.sparse.SparseTableau.build.Goals as goal

two_goals : (b : Bool) → goals_of b ≤ 2
two_goals true = omega arith
two_goals false = omega arith

few_columns : (b : Bool) (W : ℕ) → W < 4294967295 → width_of b W < 4294967296
few_columns true W l = omega (arith, l)
few_columns false W l = omega (arith, l)

pub first_rows-requires-clause-rows : goal.first_rows-requires-clause-rows
first_rows-requires-clause-rows g c =
    let p = c.args.problem.now in
    let f = c.requires.few in
    short_rows (length p.goal) 4294967295 p.rows.items c.requires.rows (omega (arith, f))

pub invariant_of-result : goal.invariant_of-result
invariant_of-result g c =
    let m = g.F.OrderedField.meaning in
    let p = c.args.problem.now in
    let W = length p.goal in
    let A = map (λ (r : Row _). r.coeffs) p.rows.items in
    let b = map (λ (r : Row _). m r.side) p.rows.items in
    let few = c.requires.few in
    let kr = p.rows.ok.0 in
    let aux = c.is_some-auxiliary.result in
    let n = length-map p.rows.items (λ (r : Row _). m r.side) in
    let ns = c.in_ok-others.others.items in
    let bs_long : length c.in_ok-basics.basics.items ≡ length (map (λ (r : Row _). m r.side) p.rows.items) =
    let e = c.in_ok-basics.ensures.0 in let f = c.len.ensures in omega (arith, e, f, n, kr) in
    let cols : c.len-cols.result ≡ length p.goal = c.len-cols.ensures in
    let ns_long = subst (λ w. length c.in_ok-others.others.items ≡ width_of c.is_some-auxiliary.result w) cols c.in_ok-others.ensures.0 in
    let goals = c.goal_count.ensures in
    let count = c.in_ok-rows.ensures.count in
    let sized : length c.in_ok-rows.rows.items ≡ length (map (λ (r : Row _). m r.side) p.rows.items) + goals_of c.is_some-auxiliary.result =
    omega (arith, count, n) in
    record {
      sized = omega (arith, sized, bs_long, goals);
      two = subst (λ q. q ≤ 2) (sym goals) (two_goals aux);
      few = subst (λ k. k < 4294967296) (sym ns_long) (few_columns aux W (omega (arith, few)));
      rising = λ f. first_rises W A b p.goal (shaped_rows m W p.rows.items c.requires.rows) refl m
          c.in_ok-basics.basics.items ns c.in_ok-rows.rows.items aux bs_long ns_long c.in_ok-rows.ensures.rows sized;
    }

pub returns-clause-first : goal.returns-clause-first
returns-clause-first g c =
    let m = g.F.OrderedField.meaning in
    let p = c.args.problem.now in
    let W = length p.goal in
    let A = map (λ (r : Row _). r.coeffs) p.rows.items in
    let b = map (λ (r : Row _). m r.side) p.rows.items in
    let u = p.goal in
    let kr = p.rows.ok.0 in
    let aux = c.is_some-auxiliary.result in
    let bs = c.in_ok-basics.basics.items in
    let ns = c.in_ok-others.others.items in
    let n = length-map p.rows.items (λ (r : Row _). m r.side) in
    let bs_long : length c.in_ok-basics.basics.items ≡ length (map (λ (r : Row _). m r.side) p.rows.items) =
    let e = c.in_ok-basics.ensures.0 in let f = c.len.ensures in omega (arith, e, f, n, kr) in
    let cols : c.len-cols.result ≡ length p.goal = c.len-cols.ensures in
    let ns_long = subst (λ w. length c.in_ok-others.others.items ≡ width_of c.is_some-auxiliary.result w) cols c.in_ok-others.ensures.0 in
    let ns_are = subst (λ w. (k : ℕ) → k < width_of c.is_some-auxiliary.result w → get_or c.in_ok-others.others.items k 0 ≡ other_name w k)
    cols c.in_ok-others.ensures.1 in
    let bs_are = λ (k : ℕ) (l : k < length (map (λ (r : Row _). m r.side) p.rows.items)).
    let q = c.len.ensures in
    let e = c.in_ok-basics.ensures.1 k (omega (arith, l, n, q, kr)) in
    let f : c.len-cols.result + 1 + k ≡ suc (k + length p.goal) = omega (arith, cols) in e ∙ f in
    let all = slacks_entries aux A b (length b) ++ goals_entries aux u in
    let shaped = shaped_rows m W p.rows.items c.requires.rows in
    subst (λ q. Agree (start_table (exact m p)) (named_table bs ns q (numbers m c.in_ok-rows.rows.items))) (sym c.goal_count.ensures)
    (first_agrees W A b u shaped refl m bs ns c.in_ok-rows.rows.items aux bs_long ns_long c.in_ok-rows.ensures.rows
    (start_table (exact m p))
    (start_agrees W A b u shaped refl (λ (q : ℚ). q) bs ns all bs_long bs_are aux c.lowest_side.result c.is_some-auxiliary.ensures
    c.lowest_side.ensures ns_long ns_are (map-id all)))
