-- The words of exact evidence, and the raise of an unknown that they give.
use Rattle.std.specs.Prelude.{◌≡◌, pos, ◌+ℤ◌, ℤ, List, [], ◌∷◌, Bool, if◌then◌else◌}
use Rattle.base_numbers.specs.Rational.{ℚ, whole, ◌+ℚ◌, ◌-ℚ◌, ◌/ℚ◌, lt_ℚ, floor}
use Rattle.base_numbers.specs.Extended.{Ext, neg_inf, fin, pos_inf}
use Rattle.flow_edges.specs.declared.edge.Edge.{Edge}
use Rattle.flow_systems.specs.Equations.{Equations, Vector}
use Rattle.theory_validity.specs.Words.{Word, lin, end_form, moved}
use Rattle.theory_validity.specs.Steps.{Item, Step, Plain, Ray, edge_of, row_of, end_value}
use Rattle.theory_validity.specs.Transformers.{Reaches}
use Rattle.lp_theory.specs.Problem.{Outcome, best, unbounded, empty}
use Rattle.lp_theory.specs.Simplex.{lp}
use Rattle.theory_strategy.specs.Growth.{split, with_words, raised_to}
use Rattle.theory_rounds.specs.Evidence.{word_at}
use Rattle.theory_transformers.specs.EdgeProblems.{whole_problem}

-- the words of evidence are those of an outcome: of a best one its word, of an unbounded one its word and its direction
abbrev pub HasWords : (system : Equations) (z : Vector) (edge : Edge) (row : List ℤ) (v : Ext) → Reaches system z edge row v → Outcome
    → Type 0
HasWords system z edge row neg_inf h (best x v y) = ⊥
HasWords system z edge row neg_inf h (unbounded x d) = ⊥
HasWords system z edge row neg_inf h (empty y) = Unit {0}
HasWords system z edge row (fin c) h (best x v y) = h.1.0 ≡ word_at system edge x
HasWords system z edge row (fin c) h (unbounded x d) = ⊥
HasWords system z edge row (fin c) h (empty y) = ⊥
HasWords system z edge row pos_inf h (best x v y) = ⊥
HasWords system z edge row pos_inf h (unbounded x d) = (h.word ≡ word_at system edge x) × (h.direction ≡ word_at system edge d)
HasWords system z edge row pos_inf h (empty y) = ⊥

-- the first of a word and the words in a direction from it, by whole numbers, that exceeds a bound
unfoldable pub low_word : Equations → Edge → List ℤ → Word → Word → Ext → Word
low_word system edge row w d neg_inf = w
low_word system edge row w d (fin b) =
    let e = end_value system edge row w in
    if lt_ℚ b e then w else moved w (whole (floor ((b -ℚ e) /ℚ lin (end_form system.variables edge.actions row) d) +ℤ pos 1)) d
low_word system edge row w d pos_inf = w

-- the step that raises an unknown, as it is read from the outcome of the problem of its edge and row: no item where that is empty
unfoldable pub raise_read : (ℚ → Bool) → Equations → Vector → Item → Outcome → Step
raise_read fitting system z u (best x v y) = record {
  kind = Plain;
  items = with_words u (split system.variables (word_at system (edge_of system u) x)) (split 0 [])
      (raised_to fitting (z u.point u.row) (v +ℚ (end_form system.variables (edge_of system u).actions (row_of system u)).constant)) ∷ [];
}
raise_read fitting system z u (unbounded x d) =
    let edge = edge_of system u in
    let row = row_of system u in
    record {
      kind = Ray;
      items = with_words u (split system.variables (low_word system edge row (word_at system edge x) (word_at system edge d)
          (z u.point u.row)))
          (split system.variables (word_at system edge d))
          (lin (end_form system.variables edge.actions row) (word_at system edge d)) ∷ [];
    }
raise_read fitting system z u (empty y) = record { kind = Plain; items = [] }

-- the outcome of the problem of an unknown's edge and row
abbrev pub outcome_at : Equations → Vector → Item → Outcome
outcome_at system z u = lp (whole_problem system z (edge_of system u) (row_of system u))
