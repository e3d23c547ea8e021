-- The nodes of a program make its points in order.
use Rattle.std.proofs.Common.{◌≡◌, ◌∙◌, ℕ, zero, suc, ◌+◌, Bool, true, false, List, [], ◌∷◌, ◌++◌, length, map, refl, sym, ap, ap₂, arith}
use Rattle.std.proofs.Common.{length-append}
use Rattle.std.specs.Prelude.{if◌then◌else◌}
use Rattle.std.specs.List.{range_with_len}
use Rattle.std.proofs.lemmas.List.{map-append, length-map}
use Rattle.std.proofs.lemmas.List.FromFn.{length-range_with_len}
use Rattle.lang_tree.specs.Tree.{Statement, Statements, set, havoc, assume, only_where, check, branch, loop, jump, label, nil, cons}
use Rattle.lang_tree.specs.PointNumbers.{splits, points_of, points_in}
use Rattle.flow_edges.specs.declared.point.Place.TheVariants.{Assume, Exit}
use Rattle.flow_edges.specs.declared.point.Point.{Point}
use Rattle.flow_edges.specs.Points.{Made, made, made_by, made_in}
use Rattle.flow_edges.specs.PathLaws.{PointsAreNumbered}

range-append : (a m n : ℕ) → range_with_len a (m + n) ≡ range_with_len a m ++ range_with_len (a + m) n
range-append a zero n =
    let e : 0 + n ≡ n = omega arith in
    let f : a ≡ a + 0 = omega arith in
    ap₂ range_with_len f e
range-append a (suc m) n =
    let e : suc m + n ≡ suc (m + n) = omega arith in
    let f : a + 1 + m ≡ a + suc m = omega arith in
    ap (range_with_len a) e ∙ ap (λ r. a ∷ r) (range-append (a + 1) m n ∙ ap (λ k. range_with_len (a + 1) m ++ range_with_len k n) f)

abbrev numbers : List Made → List ℕ
numbers ms = map (λ m. m.number) ms

numbers_if : (b : Bool) (n line : ℕ) → numbers (if b then made n Assume line ∷ [] else []) ≡ range_with_len n (if b then 1 else 0)
numbers_if true n line = refl
numbers_if false n line = refl

-- two parts of a list one after another
joined : (xs ys : List Made) (a m n : ℕ) → numbers xs ≡ range_with_len a m → numbers ys ≡ range_with_len (a + m) n
    → numbers (xs ++ ys) ≡ range_with_len a (m + n)
joined xs ys a m n p q = map-append (λ k. k.number) xs ys ∙ ap₂ (λ u v. u ++ v) p q ∙ sym (range-append a m n)

mutual
  numbers_by : (s : Statement) (n : ℕ) → numbers (made_by s n) ≡ range_with_len n (points_of s)
  numbers_by (set var form line) n = refl
  numbers_by (havoc var line) n = refl
  numbers_by (assume c line) n = numbers_if (splits c) n line
  numbers_by (only_where c line) n = refl
  numbers_by (check about c line) n = refl
  numbers_by (branch c first second line) n =
      let p = points_in first in
      let q = points_in second in
      let e : p + (q + 1) ≡ p + q + 1 = omega arith in
      joined (made_in first n) _ n p (q + 1) (numbers_in first n) (joined (made_in second (n + p)) _ (n + p) q 1 (numbers_in second (n + p))
      refl) ∙ ap (range_with_len n) e
  numbers_by (loop kind c body line) n =
      let e : suc (points_in body) ≡ 1 + points_in body = omega arith in
      ap (λ r. n ∷ r) (numbers_in body (n + 1)) ∙ ap (range_with_len n) e
  numbers_by (jump kind line) n = refl
  numbers_by (label name line) n = refl

  numbers_in : (ss : Statements) (n : ℕ) → numbers (made_in ss n) ≡ range_with_len n (points_in ss)
  numbers_in nil n = refl
  numbers_in (cons s rest) n = joined (made_by s n) (made_in rest (n + points_of s)) n (points_of s) (points_in rest) (numbers_by s n)
      (numbers_in rest (n + points_of s))

-- as many as the range has
made_count : (body : Statements) → length (made_in body 1) ≡ points_in body
made_count body = sym (length-map (made_in body 1) (λ m. m.number)) ∙ ap length (numbers_in body 1)
    ∙ length-range_with_len 1 (points_in body)

-- the nodes of every program make the points 1, 2, 3 and so on, each once, in order
pub numbering : PointsAreNumbered
numbering body =
    let inner : List Point = map (λ m. m.point) (made_in body 1) in
    let last : List Point = record { place = Exit; line = 0 } ∷ [] in
    record {
      numbers = numbers_in body 1;
      count = omega (arith, made_count body, length-map (made_in body 1) (λ m. m.point), length-append inner last);
    }
