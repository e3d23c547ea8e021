-- Low words of a rising list, and what items of steps need.
use Rattle.std.proofs.Common.{take-append-drop, length-take, length-drop, arith, ◌≡◌, ◌∙◌, ⊎_elim, ℕ, ◌+◌, List, [], ◌∷◌, length, refl, sym}
use Rattle.std.proofs.Common.{ap, subst}
use Rattle.base_numbers.proofs.extended.ExtendedLaws.{above_neg_inf}
use Rattle.base_facts.specs.Elements.{In}
use Rattle.base_numbers.specs.Rational.{ℚ, ◌+ℚ◌}
use Rattle.base_numbers.specs.Extended.{Ext, neg_inf, fin, pos_inf, ◌<ᴱ◌}
use Rattle.flow_systems.specs.States.{dotℚ}
use Rattle.flow_systems.specs.Equations.{Equations, Vector}
use Rattle.theory_validity.specs.Words.{Word, free_count, val, width, end_form, start_of}
use Rattle.theory_validity.specs.Steps.{word, Runs, end_value, Placed, edge_of}
use Rattle.theory_validity.specs.Certificates.{num}
use Rattle.theory_validity.proofs.words.WordLaws.{val-end_form}
use Rattle.theory_validity.proofs.words.Widths.{end_form_width}
use Rattle.lp_theory.specs.Listed.{at}
use Rattle.lp_theory.specs.Free.{unsplit}
use Rattle.theory_transformers.specs.Limits.{shift, tabulate}
use Rattle.theory_transformers.specs.JointProblems.{Listed, picked, own_row, columns_of, words_of, AllRising}
use Rattle.theory_transformers.specs.JointSteps.{pieces, AllLow, IsPicked, AllPicked, item_of}
use Rattle.theory_transformers.proofs.limits.Products.{product-at, product-tabulate, length-tabulate}
use Rattle.theory_transformers.proofs.edge_problems.EdgePoints.{edge_runs, edge_meets}
use Rattle.theory_transformers.proofs.edge_problems.TransformerOf.{transformer_exceeds}

-- a word cut to its edge's columns runs as it does, with its value
cut_runs : (system : Equations) (z : Vector) (u : Listed) (w : Word) → Runs system z (picked system u) w
    → Runs system z (picked system u) (tabulate (columns_of system u) (at w))
unfolding columns_of
cut_runs system z u w runs =
    edge_runs system z (picked system u) (at w)
    (record { above = λ r row g. above_neg_inf (dotℚ row (start_of system.variables w)) (z (picked system u).from r) (runs.fits r row g) })
    (edge_meets system z (picked system u) w runs)

cut_value : (system : Equations) (u : Listed) (w : Word) → end_value system (picked system u) (own_row system u) w
    ≡ end_value system (picked system u) (own_row system u) (tabulate (columns_of system u) (at w))
unfolding columns_of end_value val
cut_value system u w =
    let n = system.variables in
    let e = picked system u in
    let f = end_form n e.actions (own_row system u) in
    sym (val-end_form n e.actions (own_row system u) w) ∙ ap (λ t. t +ℚ f.constant)
    (sym (product-at f.coeffs w) ∙ sym (product-tabulate f.coeffs (width n e.actions) (at w)
    (end_form_width n e.actions (own_row system u))))
    ∙ val-end_form n e.actions (own_row system u) (tabulate (width n e.actions) (at w))

-- under the list condition there are low words
pub lows : (system : Equations) (b : Vector) (list : List Listed) → AllRising system b list → (ws : List Word) × AllLow system b list ws
lows system b [] h = ([], tt)
lows system b (u ∷ rest) h =
    let e = transformer_exceeds system b (picked system u) (own_row system u) (fin h.0.bound) h.0.above in
    let r = lows system b rest h.1 in (
      tabulate (columns_of system u) (at e.0) ∷ r.0,
      (
        record {
          size = length-tabulate (columns_of system u) (at e.0);
          runs = cut_runs system b u e.0 e.1;
          above = subst (λ s. s <ᴱ fin (end_value system (picked system u) (own_row system u) (tabulate (columns_of system u) (at e.0))))
              (sym h.0.finite) (subst (λ s. fin h.0.bound <ᴱ fin s) (cut_value system u e.0) e.2);
        },
        r.1,
      ),
    )

-- words with a value for each column
abbrev pub AllSized : Equations → List Listed → List Word → Type 0
AllSized system [] ws = Unit {0}
AllSized system (u ∷ rest) [] = ⊥
AllSized system (u ∷ rest) (w ∷ ws) = (length w ≡ columns_of system u) × AllSized system rest ws

-- the words of a point have a value for each column
pub words_sized : (system : Equations) (list : List Listed) (x : ℕ → ℚ) → AllSized system list (words_of system list x)
unfolding words_of
words_sized system [] x = tt
words_sized system (u ∷ rest) x = (
  length-tabulate (columns_of system u) (unsplit x),
  words_sized system rest (shift (columns_of system u + columns_of system u) x),
)

-- an item of a picked unknown is placed
pub item_placed : (system : Equations) (u : Listed) (l h : Word) (c : ℚ) → IsPicked system u
    → Placed system (item_of system.variables u l h c)
unfolding item_of edge_of picked
item_placed system u l h c p = record {
  later = p.later;
  point_within = p.point_within;
  row_within = p.row_within;
  edge_within =
      p.edge_within;
  into = p.into;
}

-- each member of a list of picked unknowns is picked
pub picked_at : (system : Equations) (list : List Listed) (u : Listed) → AllPicked system list → In list u → IsPicked system u
picked_at system [] u h m = absurd m
picked_at system (v ∷ list) u h m = ⊎_elim (λ e. subst (λ s. IsPicked system s) e h.0) (λ k. picked_at system list u h.1 k) m

-- a finite number is its number
pub num_back : (v : Ext) (c : ℚ) → v ≡ fin c → fin (num v) ≡ v
unfolding num
num_back neg_inf c e = cc
num_back (fin d) c e = refl
num_back pos_inf c e = cc

-- the pieces of a word are its word, and have its numbers of values
pub word_pieces : (n : ℕ) (w : Word) → word (pieces n w) ≡ w
unfolding pieces
word_pieces n w = take-append-drop n w

-- the pieces of a word with a value for each column have a value for each variable and for each free value
pub pieces_sized : (system : Equations) (u : Listed) (w : Word) → length w ≡ columns_of system u →
    (length (pieces system.variables w).start ≡ system.variables) × (length (pieces system.variables w).free
    ≡ free_count (picked system u).actions)
unfolding pieces columns_of width
pieces_sized system u w e = let a = length-take system.variables w in let b = length-drop system.variables w in
    (omega (arith, a, e), omega (arith, b, e))
