-- The step of a raise is the one by which the theory's growth raises an unknown, where its evidence has the words of the value.
use Rattle.std.specs.Prelude.{◌≡◌, length}
use Rattle.base_numbers.specs.Extended.{Ext, neg_inf, fin, pos_inf}
use Rattle.flow_systems.specs.Equations.{Equations, Vector}
use Rattle.theory_validity.specs.Steps.{Item, edge_of, row_of}
use Rattle.theory_validity.specs.Transformers.{Reaches}
use Rattle.theory_strategy.specs.Growth.{raise}
use Rattle.solve_composition.specs.declared.value.Value.{Value}
use Rattle.solve_composition.specs.declared.value.Value.TheVariants.{Unreached, Empty, Best, Unbounded}
use Rattle.solve_composition.specs.Value.{word_of}
use Rattle.solve_raise.specs.Numbers.{fitting}
use Rattle.solve_raise.specs.Raises.{raised}

-- the evidence for a number is that of a value: the same number, and the same words, whose start values are those of the variables
abbrev pub HasWords : (system : Equations) (z : Vector) (u : Item) (v : Ext) → Reaches system z (edge_of system u) (row_of system u) v
    → Value → Type 0
HasWords system z u neg_inf h (Unreached r) = Unit {0}
HasWords system z u neg_inf h (Empty rows guards) = Unit {0}
HasWords system z u neg_inf h (Best value trace rows guards) = ⊥
HasWords system z u neg_inf h (Unbounded trace direction) = ⊥
HasWords system z u (fin c) h (Unreached r) = ⊥
HasWords system z u (fin c) h (Empty rows guards) = ⊥
HasWords system z u (fin c) h (Best value trace rows guards) = (c ≡ value) × (h.1.0 ≡ word_of trace)
    × (length trace.start ≡ system.variables)
HasWords system z u (fin c) h (Unbounded trace direction) = ⊥
HasWords system z u pos_inf h (Unreached r) = ⊥
HasWords system z u pos_inf h (Empty rows guards) = ⊥
HasWords system z u pos_inf h (Best value trace rows guards) = ⊥
HasWords system z u pos_inf h (Unbounded trace direction) =
    (h.word ≡ word_of trace) × (h.direction ≡ word_of direction) × (length trace.start ≡ system.variables)
    × (length direction.start ≡ system.variables)

-- both steps are the same
abbrev pub RaisesAgree : Type 0
RaisesAgree = (system : Equations) (z : Vector) (u : Item) (v : Ext) (h : Reaches system z (edge_of system u) (row_of system u) v)
    (value : Value) →
    HasWords system z u v h value → raise fitting system z u v h ≡ raised system u (z u.point u.row) value
