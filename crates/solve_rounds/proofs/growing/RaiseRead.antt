-- The raise of the theory by exact evidence is the step that is made of a value.
use Rattle.std.proofs.Common.{◌≡◌, ◌∙◌, ℕ, length, length-append, refl, sym, ap, subst, arith}
use Rattle.base_numbers.specs.Rational.{ℚ, zero_ℚ, ◌<ℚ◌}
use Rattle.base_numbers.specs.Extended.{Ext, neg_inf, fin, pos_inf, ◌<ᴱ◌}
use Rattle.flow_edges.specs.declared.edge.Edge.{Edge}
use Rattle.flow_systems.specs.Equations.{Equations, Vector}
use Rattle.flow_systems.specs.declared.trace.Trace.{Trace}
use Rattle.theory_validity.specs.Words.{width, end_form, guard_forms, lin}
use Rattle.theory_validity.specs.Steps.{Item, edge_of, row_of, Sized}
use Rattle.theory_validity.specs.Transformers.{Reaches}
use Rattle.cert_types.specs.Certificates.{pieces_of}
use Rattle.lp_theory.specs.Problem.{Outcome, best, unbounded, empty}
use Rattle.lp_theory.specs.Simplex.{lp}
use Rattle.lp_theory.specs.Free.{unsplit}
use Rattle.theory_transformers.specs.EdgeProblems.{transformer, whole_problem}
use Rattle.theory_transformers.proofs.limits.Products.{length-tabulate}
use Rattle.theory_strategy.specs.Picks.{value_at}
use Rattle.theory_strategy.specs.Growth.{raise_at}
use Rattle.theory_rounds.specs.Evidence.{exact_evidence}
use Rattle.theory_rounds.specs.Raises.{HasWords as HasExactWords}
use Rattle.theory_rounds.specs.Rounds.{exact_raise}
use Rattle.theory_rounds.proofs.evidence.EvidenceWords.{evidence_words}
use Rattle.solve_composition.specs.declared.value.Value.{Value}
use Rattle.solve_composition.specs.declared.value.Value.TheVariants.{Unreached, Empty, Best, Unbounded}
use Rattle.solve_transformer.specs.Values.{IsTraceOf, ReadsOutcome, IsValue}
use Rattle.solve_composition.specs.Value.{number_of}
use Rattle.solve_transformer.specs.Meanings.{HasEvidence}
use Rattle.solve_raise.specs.Numbers.{fitting}
use Rattle.solve_raise.specs.Raises.{raised, HasSizes, Rises}
use Rattle.solve_raise.specs.Laws.{HasWords}
use Rattle.solve_raise.proofs.numbers.Agree.{agree}

fin_same : (a b : ℚ) → fin a ≡ fin b → a ≡ b
fin_same a b e = cc

-- nothing is below −∞
pub not_below : (v : Ext) → v <ᴱ neg_inf → ⊥
not_below neg_inf h = h
not_below (fin c) h = h
not_below pos_inf h = h

module _ (system : Equations) (z : Vector) (u : Item) where
  edge : Edge
  edge = edge_of system u

  -- evidence with the words of an outcome has the words of the value that is read from it
  read_words : (v : Ext) (h : Reaches system z (edge_of system u) (row_of system u) v) (o : Outcome) (value : Value) (c : ℚ)
      (bounds : ℕ → Ext) (count : ℕ) → v ≡ number_of value →
      HasExactWords system z (edge_of system u) (row_of system u) v h o →
      ReadsOutcome system.variables (width system.variables (edge_of system u).actions) c bounds system.template count o value
      → HasWords system z u v h value
  read_words neg_inf h (best x w y) value c bounds count e words r = absurd words
  read_words neg_inf h (unbounded x d) value c bounds count e words r = absurd words
  read_words neg_inf h (empty y) (Unreached k) c bounds count e words r = tt
  read_words neg_inf h (empty y) (Empty rows guards) c bounds count e words r = tt
  read_words neg_inf h (empty y) (Best value trace rows guards) c bounds count e words r = absurd r
  read_words neg_inf h (empty y) (Unbounded trace direction) c bounds count e words r = absurd r
  read_words (fin a) h (best x w y) (Unreached k) c bounds count e words r = absurd r
  read_words (fin a) h (best x w y) (Empty rows guards) c bounds count e words r = absurd r
  read_words (fin a) h (best x w y) (Best value trace rows guards) c bounds count e words r =
      (fin_same a value e, words ∙ sym r.1.word, r.1.size)
  read_words (fin a) h (best x w y) (Unbounded trace direction) c bounds count e words r = absurd r
  read_words (fin a) h (unbounded x d) value c bounds count e words r = absurd words
  read_words (fin a) h (empty y) value c bounds count e words r = absurd words
  read_words pos_inf h (best x w y) value c bounds count e words r = absurd words
  read_words pos_inf h (unbounded x d) (Unreached k) c bounds count e words r = absurd r
  read_words pos_inf h (unbounded x d) (Empty rows guards) c bounds count e words r = absurd r
  read_words pos_inf h (unbounded x d) (Best value trace rows guards) c bounds count e words r = absurd r
  read_words pos_inf h (unbounded x d) (Unbounded trace direction) c bounds count e words r =
      (words.0 ∙ sym r.0.word, words.1 ∙ sym r.1.word, r.0.size, r.1.size)
  read_words pos_inf h (empty y) value c bounds count e words r = absurd words

  module _ (exceeds : z u.point u.row <ᴱ value_at system (transformer system) z u) where
    no_number : (v : Ext) → value_at system (transformer system) z u ≡ v → v ≡ neg_inf → ⊥
    no_number v e f = not_below (z u.point u.row) (subst (λ w. z u.point u.row <ᴱ w) (e ∙ f) exceeds)

    -- the step of the theory is the one that is made of the value
    pub raise_is : (value : Value) → IsValue system z (edge_of system u) (row_of system u) value
        → value_at system (transformer system) z u ≡ number_of value →
        exact_raise fitting system z u ≡ raised system u (z u.point u.row) value
    unfolding raise_at
    raise_is (Unreached r) h e = absurd (no_number neg_inf e refl)
    raise_is (Empty rows guards) h e = absurd (no_number neg_inf e refl)
    raise_is (Best value trace rows guards) h e =
        agree system z u (value_at system (transformer system) z u) (exact_evidence system z (edge_of system u) (row_of system u))
        (Best value trace rows guards)
        (read_words (value_at system (transformer system) z u) (exact_evidence system z (edge_of system u) (row_of system u))
        (lp (whole_problem system z (edge_of system u) (row_of system u)))
        (Best value trace rows guards) (end_form system.variables (edge_of system u).actions (row_of system u)).constant
        (z (edge_of system u).from) (length (guard_forms system.variables (edge_of system u).actions)) e
        (evidence_words system z (edge_of system u) (row_of system u) h.0) h.1)
    raise_is (Unbounded trace direction) h e =
        agree system z u (value_at system (transformer system) z u) (exact_evidence system z (edge_of system u) (row_of system u))
        (Unbounded trace direction)
        (read_words (value_at system (transformer system) z u) (exact_evidence system z (edge_of system u) (row_of system u))
        (lp (whole_problem system z (edge_of system u) (row_of system u)))
        (Unbounded trace direction) (end_form system.variables (edge_of system u).actions (row_of system u)).constant
        (z (edge_of system u).from) (length (guard_forms system.variables (edge_of system u).actions)) e
        (evidence_words system z (edge_of system u) (row_of system u) h.0) h.1)

  trace_sized : (x : ℕ → ℚ) (trace : Trace) → IsTraceOf system.variables (width system.variables (edge_of system u).actions) x trace
      → Sized system u (pieces_of trace)
  unfolding width
  trace_sized x trace h = (
    h.size,
    (let a = ap (λ w. length w) h.word in
        let s = h.size in
        omega (arith, a, s, length-append trace.start trace.free, length-tabulate (width system.variables (edge_of system u).actions) x)),
  )

  -- the traces of a value have the sizes of the edge
  pub sizes_are : (value : Value) → IsValue system z (edge_of system u) (row_of system u) value → HasSizes system u value
  sizes_are (Unreached r) h = tt
  sizes_are (Empty rows guards) h = tt
  sizes_are (Best value trace rows guards) h = by (lp (whole_problem system z (edge_of system u) (row_of system u))) h.1
    where
      by : (o : Outcome) → ReadsOutcome system.variables (width system.variables (edge_of system u).actions)
          (end_form system.variables (edge_of system u).actions (row_of system u)).constant (z (edge_of system u).from)
          system.template (length (guard_forms system.variables (edge_of system u).actions)) o (Best value trace rows guards)
          → Sized system u (pieces_of trace)
      by (best x w y) r = trace_sized (unsplit x) trace r.1
      by (unbounded x d) r = absurd r
      by (empty y) r = absurd r
  sizes_are (Unbounded trace direction) h = by (lp (whole_problem system z (edge_of system u) (row_of system u))) h.1
    where
      by : (o : Outcome) → ReadsOutcome system.variables (width system.variables (edge_of system u).actions)
          (end_form system.variables (edge_of system u).actions (row_of system u)).constant (z (edge_of system u).from)
          system.template (length (guard_forms system.variables (edge_of system u).actions)) o (Unbounded trace direction)
          → Sized system u (pieces_of trace) × Sized system u (pieces_of direction)
      by (best x w y) r = absurd r
      by (unbounded x d) r = (trace_sized (unsplit x) trace r.0, trace_sized (unsplit d) direction r.1)
      by (empty y) r = absurd r

  -- along the direction of a value the row rises
  pub rises_are : (value : Value) → HasEvidence system z (edge_of system u) (row_of system u) value → Rises system u value
  rises_are (Unreached r) h = tt
  rises_are (Empty rows guards) h = tt
  rises_are (Best value trace rows guards) h = tt
  rises_are (Unbounded trace direction) h =
      subst (λ w. zero_ℚ <ℚ lin (end_form system.variables (edge_of system u).actions (row_of system u)) w) h.along h.unlimited.gains
