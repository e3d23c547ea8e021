-- Vectors that agree at the template's rows have the same problems, raises and turns.
use Rattle.std.proofs.Common.{◌≡◌, ◌∙◌, ℕ, suc, ◌<◌, Bool, true, false, ◌||◌, List, [], ◌∷◌, ◌++◌, length, refl, sym, ap, arith}
use Rattle.std.proofs.Common.{if◌then◌else◌}
use Rattle.std.specs.Prelude.{ℤ}
use Rattle.base_numbers.specs.Rational.{ℚ, ◌+ℚ◌}
use Rattle.base_numbers.specs.Extended.{Ext, neg_inf, fin, pos_inf}
use Rattle.flow_edges.specs.declared.edge.Edge.{Edge}
use Rattle.flow_systems.specs.Equations.{Equations, Vector}
use Rattle.theory_validity.specs.Words.{width, lin, guard_forms, end_form}
use Rattle.theory_validity.specs.Steps.{Item, Step, Plain, Ray, edge_of, row_of, names, put, new_value, after_step}
use Rattle.theory_validity.specs.Certificates.{after_steps}
use Rattle.theory_validity.specs.Transformers.{Reaches}
use Rattle.lp_theory.specs.Problem.{Outcome, best, unbounded, empty}
use Rattle.lp_theory.specs.Simplex.{lp}
use Rattle.lp_theory.specs.Free.{split_problem}
use Rattle.theory_transformers.specs.Limits.{limits_problem}
use Rattle.theory_transformers.specs.EdgeProblems.{source_limit, source_limits, guard_limits, edge_limits, edge_problem, is_lost, lost}
use Rattle.theory_transformers.specs.EdgeProblems.{transformer}
use Rattle.theory_transformers.proofs.edge_problems.TransformerOf.{transformer_by_source}
use Rattle.theory_transformers.proofs.edge_problems.SplitProblems.{transformer_lost}
use Rattle.theory_strategy.specs.Picks.{value_at}
use Rattle.theory_strategy.specs.Growth.{split, with_words, raised_to, raise, raise_at}
use Rattle.theory_rounds.specs.Evidence.{word_at, exact_evidence}
use Rattle.theory_rounds.specs.Raises.{low_word, raise_read, outcome_at}
use Rattle.theory_rounds.specs.Agreement.{Agree}
use Rattle.theory_rounds.specs.Rounds.{exact_raise}
use Rattle.theory_rounds.proofs.evidence.EvidenceWords.{raise_is_read}

-- ---- the edge's problem
-- the rows of finite bounds
pub same_sources : (embed : ℕ → List ℚ → List ℚ) (n : ℕ) (a b : ℕ → Ext) (rows : List (List ℤ)) → ((r : ℕ) → r < length rows → a r ≡ b r)
    → source_limits embed n a rows ≡ source_limits embed n b rows
unfolding source_limits
same_sources embed n a b [] h = refl
same_sources embed n a b (row ∷ rows) h =
    ap (λ v. source_limit (embed 0) n v row (source_limits (λ r. embed (suc r)) n (λ r. a (suc r)) rows)) (h 0 (omega arith))
    ∙ ap (λ s. source_limit (embed 0) n (b 0) row s) (same_sources (λ r. embed (suc r)) n (λ r. a (suc r)) (λ r. b (suc r)) rows
    (λ r l. h (suc r) (omega arith)))

same_lost : (a b : ℕ → Ext) (rows : List (List ℤ)) → ((r : ℕ) → r < length rows → a r ≡ b r) → lost a rows ≡ lost b rows
unfolding lost
same_lost a b [] h = refl
same_lost a b (row ∷ rows) h =
    ap (λ v. is_lost v || lost (λ r. a (suc r)) rows) (h 0 (omega arith))
    ∙ ap (λ s. is_lost (b 0) || s) (same_lost (λ r. a (suc r)) (λ r. b (suc r)) rows (λ r l. h (suc r) (omega arith)))

module _ (system : Equations) (z q : Vector) (agree : Agree system z q) where
  -- whether a bound at a source is −∞ is the same
  pub lost_agrees : (p : ℕ) → lost (z p) system.template ≡ lost (q p) system.template
  lost_agrees p = same_lost (z p) (q p) system.template (λ r l. agree p r l)

  -- so is an edge's problem
  pub problem_agrees : (edge : Edge) (row : List ℤ) → edge_problem system z edge row ≡ edge_problem system q edge row
  unfolding edge_problem edge_limits
  problem_agrees edge row =
      ap (λ s. limits_problem (width system.variables edge.actions) (s ++ guard_limits (λ u. u) (guard_forms system.variables edge.actions))
      (end_form system.variables edge.actions row).coeffs)
      (same_sources (λ r u. u) system.variables (z edge.from) (q edge.from) system.template (λ r l. agree edge.from r l))

  outcome_agrees : (u : Item) → outcome_at system z u ≡ outcome_at system q u
  outcome_agrees u = ap (λ P. lp (split_problem P)) (problem_agrees (edge_of system u) (row_of system u))

  -- and a transformer
  pub transformer_agrees : (edge : Edge) (row : List ℤ) → transformer system z edge row ≡ transformer system q edge row
  transformer_agrees edge row = transformer_by_source system z q edge row (λ r l. agree edge.from r l)

  -- ---- raises
  read_agrees : (fitting : ℚ → Bool) (u : Item) (o : Outcome) → z u.point u.row ≡ q u.point u.row
      → raise_read fitting system z u o ≡ raise_read fitting system q u o
  unfolding raise_read
  read_agrees fitting u (best x v y) e =
      ap (λ b. record {
        kind = Plain;
        items = with_words u (split system.variables (word_at system (edge_of system u) x)) (split 0 [])
            (raised_to fitting b (v +ℚ (end_form system.variables (edge_of system u).actions (row_of system u)).constant)) ∷ [];
      }) e
  read_agrees fitting u (unbounded x d) e =
      ap (λ b. record {
        kind = Ray;
        items = with_words u (split system.variables (low_word system (edge_of system u) (row_of system u)
            (word_at system (edge_of system u) x) (word_at system (edge_of system u) d) b))
            (split system.variables (word_at system (edge_of system u) d))
            (lin (end_form system.variables (edge_of system u).actions (row_of system u)) (word_at system (edge_of system u) d)) ∷ [];
      }) e
  read_agrees fitting u (empty y) e = refl

-- where a bound at the source is −∞, nothing is raised
raise_nothing : (fitting : ℚ → Bool) (system : Equations) (z : Vector) (u : Item) (v : Ext)
    (h : Reaches system z (edge_of system u) (row_of system u) v) → v ≡ neg_inf →
    raise fitting system z u v h ≡ record { kind = Plain; items = [] }
unfolding raise
raise_nothing fitting system z u neg_inf h e = refl
raise_nothing fitting system z u (fin c) h e = cc
raise_nothing fitting system z u pos_inf h e = cc

lost_raise : (fitting : ℚ → Bool) (system : Equations) (z : Vector) (u : Item) → lost (z (edge_of system u).from) system.template ≡ true
    → exact_raise fitting system z u ≡ record { kind = Plain; items = [] }
unfolding raise_at
lost_raise fitting system z u e =
    raise_nothing fitting system z u (value_at system (transformer system) z u)
    (exact_evidence system z (edge_of system u) (row_of system u)) (transformer_lost system z (edge_of system u) (row_of system u) e)

-- the raise of an unknown is the same
pub raise_agrees : (fitting : ℚ → Bool) (system : Equations) (z q : Vector) (u : Item) → Agree system z q → u.row < length system.template
    → exact_raise fitting system z u ≡ exact_raise fitting system q u
raise_agrees fitting system z q u agree within = by (lost (z (edge_of system u).from) system.template) refl
  where
    by : (b : Bool) → lost (z (edge_of system u).from) system.template ≡ b → exact_raise fitting system z u ≡ exact_raise fitting system q u
    by true e = lost_raise fitting system z u e ∙ sym (lost_raise fitting system q u
        (sym (lost_agrees system z q agree (edge_of system u).from) ∙ e))
    by false e =
        raise_is_read fitting system z u e ∙ read_agrees system z q agree fitting u (outcome_at system z u) (agree u.point u.row within)
        ∙ ap (raise_read fitting system q u) (outcome_agrees system z q agree u)
        ∙ sym (raise_is_read fitting system q u (sym (lost_agrees system z q agree (edge_of system u).from) ∙ e))

-- ---- steps
put_agrees : (system : Equations) (value : Item → Ext) (items : List Item) (z q : Vector) → Agree system z q
    → Agree system (put value items z) (put value items q)
unfolding put
put_agrees system value [] z q agree p r l = agree p r l
put_agrees system value (u ∷ items) z q agree p r l = ap (λ s. if names u p r then value u else s)
    (put_agrees system value items z q agree p r l)

-- vectors that agree do so after a step
pub after_agrees : (system : Equations) (step : Step) (z q : Vector) → Agree system z q
    → Agree system (after_step step z) (after_step step q)
unfolding after_step
after_agrees system step z q agree = put_agrees system (new_value step.kind) step.items z q agree

-- and after steps
pub led_agrees : (system : Equations) (steps : List Step) (z q : Vector) → Agree system z q
    → Agree system (after_steps steps z) (after_steps steps q)
unfolding after_steps
led_agrees system [] z q agree = agree
led_agrees system (s ∷ steps) z q agree = led_agrees system steps (after_step s z) (after_step s q) (after_agrees system s z q agree)
