-- The points of a program, made without their numbers.
use Rattle.std.proofs.Common.{◌≡◌, ◌∙◌, ℕ, ◌+◌, Bool, true, false, List, [], ◌∷◌, ◌++◌, map, refl, sym, ap, ap₂, append_assoc}
use Rattle.std.specs.Prelude.{if◌then◌else◌}
use Rattle.std.proofs.lemmas.List.{map-append}
use Rattle.lang_tree.specs.Tree.{Statement, Statements, set, havoc, assume, only_where, check, branch, loop, jump, label, nil, cons}
use Rattle.lang_tree.specs.PointNumbers.{splits, points_of, points_in, join_of}
use Rattle.flow_edges.specs.declared.point.Place.TheVariants.{Entry, Loop, Join, Assume, Exit}
use Rattle.flow_edges.specs.declared.point.Point.{Point}
use Rattle.flow_edges.specs.Points.{Made, made, made_by, made_in, points_of_program}
use Rattle.flow_edges.specs.Places.{one_point, places_of, places_in}

abbrev pub plain : List Made → List Point
plain ms = map (λ m. m.point) ms

plain-append : (xs ys : List Made) (a b : List Point) → plain xs ≡ a → plain ys ≡ b → plain (xs ++ ys) ≡ a ++ b
plain-append xs ys a b e f = map-append (λ m. m.point) xs ys ∙ ap₂ (λ u v. u ++ v) e f

plain-if : (b : Bool) (n line : ℕ) → plain (if b then made n Assume line ∷ [] else []) ≡ (if b then one_point Assume line else [])
plain-if true n line = refl
plain-if false n line = refl

mutual
  plain_by : (s : Statement) (n : ℕ) → plain (made_by s n) ≡ places_of s
  plain_by (set var form line) n = refl
  plain_by (havoc var line) n = refl
  plain_by (assume c line) n = plain-if (splits c) n line
  plain_by (only_where c line) n = refl
  plain_by (check about c line) n = refl
  plain_by (branch c first second line) n =
      let one : List Made = made (join_of first second n) Join line ∷ [] in
      plain-append (made_in first n) (made_in second (n + points_in first) ++ one) _ _ (plain_in first n)
      (plain-append (made_in second (n + points_in first)) one _ _ (plain_in second (n + points_in first)) refl)
  plain_by (loop kind c body line) n = ap (λ r. one_point Loop line ++ r) (plain_in body (n + 1))
  plain_by (jump kind line) n = refl
  plain_by (label name line) n = refl

  -- the points that statements make, without their numbers, are those that are counted without them
  pub plain_in : (ss : Statements) (n : ℕ) → plain (made_in ss n) ≡ places_in ss
  plain_in nil n = refl
  plain_in (cons s rest) n = plain-append (made_by s n) (made_in rest (n + points_of s)) _ _ (plain_by s n)
      (plain_in rest (n + points_of s))

-- the entry, the points of the statements and the exit are the points of the program
pub placed : (entry inner points : List Point) (body : Statements) → entry ≡ one_point Entry 0 → inner ≡ entry ++ places_in body
    → points ≡ inner ++ one_point Exit 0 →
    points ≡ points_of_program body
placed entry inner points body e f g =
    g ∙ ap (λ z. z ++ one_point Exit 0) (f ∙ ap (λ z. z ++ places_in body) e)
    ∙ append_assoc (one_point Entry 0) (places_in body) (one_point Exit 0)
    ∙ ap (λ z. one_point Entry 0 ++ (z ++ one_point Exit 0)) (sym (plain_in body 1))
