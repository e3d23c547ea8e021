-- The step of a raise is that of the theory.
use Rattle.std.proofs.Common.{◌≡◌, ◌∙◌, ℕ, suc, pos, Bool, true, false, List, [], ◌∷◌, ◌++◌, length, refl, sym, ap, ap₂, subst, arith}
use Rattle.std.specs.Prelude.{ℤ, ◌+ℤ◌, if◌then◌else◌}
use Rattle.std.proofs.Math.Seq.{take-append_seam, drop-append_seam}
use Rattle.base_numbers.specs.Rational.{ℚ, whole, ◌+ℚ◌, ◌-ℚ◌, ◌*ℚ◌, ◌/ℚ◌, lt_ℚ, floor}
use Rattle.base_numbers.specs.Extended.{Ext, neg_inf, fin, pos_inf}
use Rattle.base_numbers.specs.Vector.{add_vec, scale_vec}
use Rattle.flow_edges.specs.declared.edge.Edge.{Edge}
use Rattle.flow_systems.specs.Equations.{Equations, Vector}
use Rattle.flow_systems.specs.declared.trace.Trace.{Trace}
use Rattle.theory_validity.specs.Words.{lin, end_form, moved}
use Rattle.theory_validity.specs.Steps.{Pieces, Item, Step, Plain, Ray, end_value, edge_of, row_of}
use Rattle.theory_validity.specs.Transformers.{Unlimited}
use Rattle.cert_types.specs.Certificates.{pieces_of, no_pieces}
use Rattle.theory_strategy.specs.Growth.{split, with_words, raise, raised_to, ray_low}
use Rattle.solve_composition.specs.declared.value.Value.TheVariants.{Unreached, Empty, Best, Unbounded}
use Rattle.solve_composition.specs.Value.{word_of}
use Rattle.solve_raise.specs.Numbers.{fitting, multiple, moved_pieces}
use Rattle.solve_raise.specs.Lows.{low_of}
use Rattle.solve_raise.specs.Raises.{raised}
use Rattle.solve_raise.specs.Laws.{RaisesAgree}

-- a word is split where its start values end
seam : (n : ℕ) (start free : List ℚ) → length start ≡ n → split n (start ++ free) ≡ record { start = start; free = free }
unfolding split
seam n start free e = subst (λ k. split k (start ++ free) ≡ record { start = start; free = free }) e
    (ap₂ (λ (a b : List ℚ). let t : Pieces = record { start = a; free = b } in t) (take-append_seam start free)
    (drop-append_seam start free))

add-append : (t : ℚ) (xs ds ys es : List ℚ) → length xs ≡ length ds → add_vec (xs ++ ys) (scale_vec t (ds ++ es))
    ≡ add_vec xs (scale_vec t ds) ++ add_vec ys (scale_vec t es)
unfolding add_vec scale_vec
add-append t [] [] ys es e = refl
add-append t [] (d ∷ ds) ys es e = absurd (omega arith)
add-append t (x ∷ xs) [] ys es e = absurd (omega arith)
add-append t (x ∷ xs) (d ∷ ds) ys es e = ap (λ r. (x +ℚ (t *ℚ d)) ∷ r) (add-append t xs ds ys es (omega arith))

length-moved : (t : ℚ) (xs ds : List ℚ) → length xs ≡ length ds → length (add_vec xs (scale_vec t ds)) ≡ length xs
unfolding add_vec scale_vec
length-moved t [] [] e = refl
length-moved t [] (d ∷ ds) e = absurd (omega arith)
length-moved t (x ∷ xs) [] e = absurd (omega arith)
length-moved t (x ∷ xs) (d ∷ ds) e = ap suc (length-moved t xs ds (omega arith))

module _ (n : ℕ) (trace direction : Trace) (l : length trace.start ≡ n) (k : length direction.start ≡ n) where
  split_moved : (t : ℚ) → split n (moved (word_of trace) t (word_of direction)) ≡ moved_pieces t trace direction
  unfolding moved
  split_moved t =
      let e : length trace.start ≡ length direction.start = l ∙ sym k in
      ap (split n) (add-append t trace.start direction.start trace.free direction.free e)
      ∙ seam n (add_vec trace.start (scale_vec t direction.start)) (add_vec trace.free (scale_vec t direction.free))
      (length-moved t trace.start direction.start e ∙ l)

  split_either : (b : Bool) (t : ℚ) → split n (if b then word_of trace else moved (word_of trace) t (word_of direction))
      ≡ (if b then pieces_of trace else moved_pieces t trace direction)
  split_either true t = seam n trace.start trace.free l
  split_either false t = split_moved t

module _ (system : Equations) (z : Vector) (edge : Edge) (row : List ℤ) (trace direction : Trace)
    (l : length trace.start ≡ system.variables) (k : length direction.start ≡ system.variables) where
  low_agrees : (h : Unlimited system z edge row) → h.word ≡ word_of trace → h.direction ≡ word_of direction → (b : Ext) →
      split system.variables (ray_low system z edge row h b) ≡ low_of system edge row b trace direction
  unfolding ray_low low_of
  low_agrees h e f neg_inf = ap (split system.variables) e ∙ seam system.variables trace.start trace.free l
  low_agrees h e f (fin b) =
      ap₂ (λ w d. split system.variables (if lt_ℚ b (end_value system edge row w) then w else moved w
      (whole (floor ((b -ℚ end_value system edge row w) /ℚ lin (end_form system.variables edge.actions row) d) +ℤ pos 1)) d)) e f
      ∙ split_either system.variables trace direction l k (lt_ℚ b (end_value system edge row (word_of trace)))
      (multiple b (end_value system edge row (word_of trace)) (lin (end_form system.variables edge.actions row) (word_of direction)))
  low_agrees h e f pos_inf = ap (split system.variables) e ∙ seam system.variables trace.start trace.free l

item_same : (u : Item) (low low' second second' : Pieces) (number number' : ℚ) → low ≡ low' → second ≡ second' → number ≡ number'
    → with_words u low second number ≡ with_words u low' second' number'
item_same u low low' second second' number number' e f g = ap (λ x. with_words u x second number) e ∙ ap₂ (λ x y. with_words u low' x y) f g

-- the code's step of a raise is that of the theory
pub agree : RaisesAgree
unfolding raise raised split
agree system z u neg_inf h (Unreached r) w = refl
agree system z u neg_inf h (Empty rows guards) w = refl
agree system z u neg_inf h (Best value trace rows guards) w = absurd w
agree system z u neg_inf h (Unbounded trace direction) w = absurd w
agree system z u (fin c) h (Unreached r) w = absurd w
agree system z u (fin c) h (Empty rows guards) w = absurd w
agree system z u (fin c) h (Best value trace rows guards) w =
    ap (λ i. let step : Step = record { kind = Plain; items = i ∷ [] } in step)
    (item_same u (split system.variables h.1.0) (pieces_of trace) (split 0 []) no_pieces (raised_to fitting (z u.point u.row) c)
    (raised_to fitting (z u.point u.row) value)
    (ap (split system.variables) w.1 ∙ seam system.variables trace.start trace.free w.2) refl
    (ap (raised_to fitting (z u.point u.row)) w.0))
agree system z u (fin c) h (Unbounded trace direction) w = absurd w
agree system z u pos_inf h (Unreached r) w = absurd w
agree system z u pos_inf h (Empty rows guards) w = absurd w
agree system z u pos_inf h (Best value trace rows guards) w = absurd w
agree system z u pos_inf h (Unbounded trace direction) w =
    let edge = edge_of system u in
    let row = row_of system u in
    ap (λ i. let step : Step = record { kind = Ray; items = i ∷ [] } in step)
    (item_same u (split system.variables (ray_low system z edge row h (z u.point u.row)))
    (low_of system edge row (z u.point u.row) trace direction) (split system.variables h.direction) (pieces_of direction)
    (lin (end_form system.variables edge.actions row) h.direction) (lin (end_form system.variables edge.actions row) (word_of direction))
    (low_agrees system z edge row trace direction w.2 w.3 h w.0 w.1 (z u.point u.row))
    (ap (split system.variables) w.1 ∙ seam system.variables direction.start direction.free w.3)
    (ap (lin (end_form system.variables edge.actions row)) w.1))
