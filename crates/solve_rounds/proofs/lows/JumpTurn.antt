-- The step of a point's turn is that of the theory.
use Rattle.std.proofs.Common.{◌≡◌, ◌∙◌, ℕ, zero, suc, ◌+◌, ◌/◌, ◌%◌, List, [], ◌∷◌, ◌++◌, length, get_or, map, take, drop, refl, sym, ap}
use Rattle.std.proofs.Common.{ap₂, subst, arith}
use Rattle.std.specs.List.{range_with_len}
use Rattle.std.proofs.Math.Seq.{take-append_seam, drop-append_seam}
use Rattle.base_numbers.specs.Rational.{ℚ, zero_ℚ}
use Rattle.flow_systems.specs.Equations.{Vector}
use Rattle.flow_systems.specs.declared.trace.Trace.{Trace}
use Rattle.theory_validity.specs.Steps.{Item, Pieces}
use Rattle.theory_validity.specs.Certificates.{num}
use Rattle.cert_types.specs.declared.step.Step.{Step as CodeStep}
use Rattle.cert_types.specs.Certificates.{pieces_of, jump_item}
use Rattle.theory_strategy.specs.Growth.{split, with_words}
use Rattle.solve_joint.specs.Joints.{word_of}
use Rattle.theory_rounds.specs.JointItems.{listed_items, point_items}
use Rattle.solve_rounds.specs.Lows.{edge_in, low_in, item_in, raise_at, AreRaised, items_at}
use Rattle.solve_rounds.specs.Turning.{jump_item_at, jump_items_at}
use Rattle.solve_rounds.proofs.lows.ListedLows.{item_is, raised_item}

-- the values of a function at a range that begins one later
pub range_shifted : {X : Type 0} (f : ℕ → X) (a n : ℕ) → map f (range_with_len (a + 1) n) ≡ map (λ k. f (suc k)) (range_with_len a n)
range_shifted f a zero = refl
range_shifted f a (suc n) = let e : a + 1 ≡ suc a = omega arith in ap₂ (λ x xs. x ∷ xs) (ap f e) (range_shifted f (a + 1) n)

-- a trace with so many start values, cut behind them
pub split_trace : (n : ℕ) (t : Trace) → length t.start ≡ n → split n (word_of t) ≡ pieces_of t
unfolding split
split_trace n t e =
    ap₂ (λ s f. let p : Pieces = record { start = s; free = f } in p) (subst (λ m. take m (t.start ++ t.free) ≡ t.start) e
    (take-append_seam t.start t.free))
    (subst (λ m. drop m (t.start ++ t.free) ≡ t.free) e (drop-append_seam t.start t.free))

-- an item with other words, given by its parts
pub words_by_parts : (u : Item) (p r e : ℕ) (low second other : Pieces) (number : ℚ) (x : ℚ) → u.point ≡ p → u.row ≡ r → u.edge ≡ e
    → u.low ≡ low → other ≡ second → x ≡ number →
    with_words u u.low other x ≡ record { point = p; row = r; edge = e; low = low; second = second; number = number }
unfolding with_words
words_by_parts u p r e low second other number x a b c d f g =
    ap₂ (λ i j. let v : Item = record { point = i; row = j; edge = u.edge; low = u.low; second = other; number = x } in v) a b
    ∙ ap₂ (λ i j. let v : Item = record { point = p; row = r; edge = i; low = j; second = other; number = x } in v) c d
    ∙ ap₂ (λ i j. let v : Item = record { point = p; row = r; edge = e; low = low; second = i; number = j } in v) f g

-- traces with so many start values
abbrev pub AllStart : ℕ → List Trace → Type 0
AllStart n [] = Unit {0}
AllStart n (t ∷ ts) = (length t.start ≡ n) × AllStart n ts

-- the items of the code's jump are those of a point
pub jump_is : (rows n : ℕ) (y : Vector) (raises : List CodeStep) (places list : List ℕ) (to : List ℚ) (highs : List Trace)
    → AreRaised raises places list → AllStart n highs → length highs ≡ length list →
    to ≡ map (λ v. num (y v.point v.row)) (listed_items (items_at rows raises places list)) →
    map (jump_item rows) (jump_items_at raises places list to highs) ≡ point_items n y (items_at rows raises places list)
    (map word_of highs)
unfolding point_items listed_items
jump_is rows n y raises places [] to highs h s l e = refl
jump_is rows n y raises places (u ∷ list) to [] h s l e = absurd (omega arith)
jump_is rows n y raises places (u ∷ list) [] (high ∷ highs) h s l e = cc
jump_is rows n y raises places (u ∷ list) (q ∷ to) (high ∷ highs) h s l e =
    let step = raise_at raises places u in
    let raised = h 0 (omega arith) in
    let i = item_is rows step raised.filled in
    let p = raised_item rows raises places u raised in
    ap (λ xs. jump_item rows (jump_item_at raises places (u ∷ list) (q ∷ to) (high ∷ highs) 0) ∷ map (jump_item rows) xs)
    (range_shifted (jump_item_at raises places (u ∷ list) (q ∷ to) (high ∷ highs)) 0 (length list))
    ∙ ap₂ (λ x xs. x ∷ xs)
    (sym (words_by_parts (item_in rows step) (u / rows) (u % rows) (edge_in step) (pieces_of (low_in step)) (pieces_of high)
    (split n (word_of high)) q (num (y (item_in rows step).point (item_in rows step).row))
    p.0 p.1 i.edge i.low (split_trace n high s.0) (sym (first e))))
    (jump_is rows n y raises places list to highs (λ k m. h (suc k) (omega arith)) s.1 (omega arith) (rest e))
  where
    first : q ∷ to ≡ map (λ v. num (y v.point v.row)) (listed_items (items_at rows raises places (u ∷ list)))
        → q ≡ num (y (item_in rows (raise_at raises places u)).point (item_in rows (raise_at raises places u)).row)
    first f = ap (λ xs. get_or xs 0 zero_ℚ) f

    rest : q ∷ to ≡ map (λ v. num (y v.point v.row)) (listed_items (items_at rows raises places (u ∷ list)))
        → to ≡ map (λ v. num (y v.point v.row)) (listed_items (items_at rows raises places list))
    rest f = ap (drop 1) f
