-- The parts that are cut off so far, and those of the unknowns left.
use Rattle.std.proofs.Common.{◌≡◌, ◌∙◌, ℕ, zero, suc, ◌+◌, ◌-◌, ◌<◌, ◌≤◌, Bool, List, [], ◌∷◌, ◌++◌, length, map, Option, Some, None, ap}
use Rattle.std.proofs.Common.{ap₂, sym, append_assoc, arith}
use Rattle.std.specs.Prelude.{find}
use Rattle.std.specs.List.{filter}
use Rattle.std.proofs.lemmas.List.{append-nil}
use Rattle.solve_joint.specs.declared.node.Node.{Node}
use Rattle.solve_joint.specs.Cuts.{are_one_part, are_apart, may_come, cut_next, cut_from}

module _ (rows : List (List Bool)) (n : ℕ) (all : List (List ℕ)) (lists : List (List ℕ)) (turn : ℕ) (left : List Node)
    (h : all ≡ lists ++ cut_from rows (n - turn) left) (l : turn < n) where
  step : cut_from rows (n - turn) left ≡ cut_next rows left (cut_from rows (n - (turn + 1))) (find (may_come rows left) left)
  step = let e : n - turn ≡ suc (n - (turn + 1)) = omega (arith, l) in ap (λ m. cut_from rows m left) e

  -- one more part
  pub cut_more : (part : Node) (list : List ℕ) (next : List Node) → Some part ≡ find (may_come rows left) left
      → list ≡ map (λ (a : Node). a.unknown) (filter (are_one_part rows part) left) → next ≡ filter (are_apart rows part) left →
      all ≡ (lists ++ list ∷ []) ++ cut_from rows (n - (turn + 1)) next
  cut_more part list next e f g =
      h ∙ ap (λ ys. lists ++ ys) (step ∙ ap (cut_next rows left (cut_from rows (n - (turn + 1)))) (sym e)
      ∙ ap₂ (λ x y. x ∷ cut_from rows (n - (turn + 1)) y) (sym f) (sym g))
      ∙ sym (append_assoc lists (list ∷ []) (cut_from rows (n - (turn + 1)) next))

  -- and none
  pub cut_stops : None ≡ find (may_come rows left) left → lists ≡ all
  cut_stops e = sym (h ∙ ap (λ ys. lists ++ ys) (step ∙ ap (cut_next rows left (cut_from rows (n - (turn + 1)))) (sym e))
      ∙ append-nil lists)

-- behind the last turn all parts are cut off
pub cut_all : (rows : List (List Bool)) (n : ℕ) (all lists : List (List ℕ)) (turn : ℕ) (left : List Node)
    → all ≡ lists ++ cut_from rows (n - turn) left → n ≤ turn → lists ≡ all
cut_all rows n all lists turn left h l = let e : n - turn ≡ 0 = omega (arith, l) in
    sym (h ∙ ap (λ m. lists ++ cut_from rows m left) e ∙ append-nil lists)

-- there are at most so many parts
pub length-cut : (rows : List (List Bool)) (n : ℕ) (left : List Node) → length (cut_from rows n left) ≤ n
length-cut rows zero left = omega arith
length-cut rows (suc n) left = by (find (may_come rows left) left) (λ next. length-cut rows n next)
  where
    by : (o : Option Node) → ((next : List Node) → length (cut_from rows n next) ≤ n)
        → length (cut_next rows left (cut_from rows n) o) ≤ suc n
    by None h = omega arith
    by (Some part) h = omega (arith, h (filter (are_apart rows part) left))
