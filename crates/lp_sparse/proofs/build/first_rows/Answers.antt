use Rattle.std.proofs.Common.{◌≡◌, ◌<◌, ◌∷◌, ◌++◌, ℕ, suc, Bool, true, false, List, Vec, [], length, map, get_or, ap, sym, ◌∙◌, subst}
use Rattle.std.proofs.Common.{arith}
use Rattle.std.proofs.lemmas.List.{length-map, length_push}
use Rattle.base_numbers.specs.Rational.{zero_ℚ}
use Rattle.lp_dictionary.specs.declared.problem.Row.{Row}
use Rattle.lp_dictionary.specs.Build.{slack_entries, auxiliary_entries, goal_entries}
use Rattle.lp_sparse.specs.declared.row.SparseRow.{SparseRow}
use Rattle.lp_dictionary.specs.Keeps.{Lists}
use Rattle.lp_sparse.specs.Rows.{row_at}
use Rattle.lp_sparse.specs.Build.{IsFirst}
use Rattle.lp_sparse.proofs.build.Starting.{first_one, first_two}
use Rattle.lp_sparse.proofs.build.first_rows.Goals as goal
use Rattle.lp_sparse.proofs.build.first_rows.Goals.{then-auxiliary+in_ok-auxiliary_row+in_ok-push, else-auxiliary}

pub returns-clause-rows : goal.returns-clause-rows
returns-clause-rows g c =
    let m = g.F.OrderedField.meaning in
    let p = c.args.problem.now in
    let rs = p.rows.items in
    let A = map (λ (r : Row _). r.coeffs) rs in
    let b = map (λ (r : Row _). m r.side) rs in
    let u = p.goal in
    let slacks = c.in_ok-rows.rows.items in
    let rows = c.push-2.new.self.items in
    let y = c.in_ok-goal_row.field-0 in
    let n = length-map rs (λ (r : Row _). m r.side) in
    let count : length c.in_ok-rows.rows.items ≡ length (map (λ (r : Row _). g.F.OrderedField.meaning r.side)
    c.args.problem.now.rows.items) = c.in_ok-rows.ensures.count ∙ ap length c.deref.ensures.value ∙ sym n in
    let made = λ (aux : Bool) (e : c.args.auxiliary ≡ aux) (i : ℕ) (l : i < length b).
    subst (λ t. Lists m (slack_entries t (get_or A i []) (get_or b i zero_ℚ)) (row_at slacks i)) e
    (subst (λ xs. (j : ℕ) → j < length xs → Lists m (slack_entries c.args.auxiliary
    (get_or (map (λ (r : Row _). r.coeffs) xs) j []) (get_or (map (λ (r : Row _). m r.side) xs) j zero_ℚ))
    (row_at slacks j)) c.deref.ensures.value c.in_ok-rows.ensures.rows i (subst (λ k. i < k) n l)) in
    let last = λ (aux : Bool) (e : c.args.auxiliary ≡ aux). subst
    (λ t. Lists m (goal_entries t u) y.entries.items) e c.in_ok-goal_row.ensures in
    elim c.if-auxiliary.branch [
      | then-auxiliary+in_ok-auxiliary_row+in_ok-push w ↦
          let x = w.in_ok-auxiliary_row.field-0 in
          let e = w.if-auxiliary.true in
          let mid = w.push.new.self.items in
          let longer : length w.push.new.self.items ≡ suc (length (map (λ (r : Row _). g.F.OrderedField.meaning r.side)
          c.args.problem.now.rows.items)) = let f = ap length w.in_ok-push.ensures.items in let h = length_push slacks x in
          omega (arith, f, h, count) in
          let first = subst (λ k. Lists m (auxiliary_entries k) x.entries.items) w.len.ensures w.in_ok-auxiliary_row.ensures in
          subst (λ t. IsFirst m t A b u rows) (sym e)
          (first_two m A b u slacks mid rows x y count longer (made true e) first (last true e) w.in_ok-push.ensures.items
          (subst (λ (v : List (SparseRow _)). rows ≡ v ++ y ∷ []) (ap (λ (v : Vec _ _). v.items) w.rows-is)
          c.in_ok-push-2.ensures.items))
      | else-auxiliary w ↦
          let e = w.if-auxiliary.false in
          subst (λ t. IsFirst m t A b u rows) (sym e)
          (first_one m A b u slacks rows y count (made false e) (last false e)
          (subst (λ (v : List (SparseRow _)). rows ≡ v ++ y ∷ []) (ap (λ (v : Vec _ _). v.items) w.rows-is)
          c.in_ok-push-2.ensures.items))
    ]
