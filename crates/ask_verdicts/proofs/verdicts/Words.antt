-- The words of an edge at a place are the ways to states that pass a case.
use Rattle.std.proofs.Common.{◌≡◌, ◌∙◌, ℕ, List, [], ◌∷◌, ◌++◌, length, ℤ, refl, sym, ap, ap₂, subst}
use Rattle.std.specs.Prelude.{Option, MatchOption}
use Rattle.base_numbers.specs.Rational.{ℚ, zero_ℚ, ◌≤ℚ◌}
use Rattle.base_numbers.specs.Vector.{dot}
use Rattle.base_numbers.specs.Extended.{Ext, neg_inf, pos_inf}
use Rattle.base_numbers.proofs.rational.Laws.{<ℚ_irrefl}
use Rattle.lang_tree.specs.Meaning.{put}
use Rattle.lang_tree.specs.declared.form.Form.{Form}
use Rattle.flow_edges.specs.declared.edge.Action.{Action}
use Rattle.flow_edges.specs.declared.edge.Action.TheVariants.{Guard, Assign, Havoc, Check}
use Rattle.flow_systems.specs.States.{RationalState, valueℚ, Traces}
use Rattle.flow_systems.specs.Equations.{Equations, Vector, Fits}
use Rattle.flow_systems.specs.declared.trace.Trace.{Trace}
use Rattle.theory_validity.specs.Words.{Word, lin, values, columns, width, start_of, end_of, end_form, guard_forms, combined}
use Rattle.theory_validity.specs.Steps.{Runs}
use Rattle.theory_validity.specs.Transformers.{Unlimited, Reaches}
use Rattle.theory_validity.proofs.words.Traces.{trace_of_word, word_of_trace, start_length}
use Rattle.lp_theory.specs.Problem.{Outcome, best, unbounded, empty}
use Rattle.lp_theory.specs.Simplex.{lp}
use Rattle.lp_theory.specs.Free.{unsplit}
use Rattle.theory_transformers.specs.Limits.{tabulate}
use Rattle.theory_transformers.specs.EdgeProblems.{transformer}
use Rattle.theory_transformers.proofs.edge_problems.TransformerOf.{transformer_reaches}
use Rattle.solve_composition.specs.declared.value.Value.{Value}
use Rattle.solve_composition.specs.declared.value.Value.TheVariants.{Unreached, Empty, Best, Unbounded}
use Rattle.solve_composition.specs.Behind.{placed_actions}
use Rattle.solve_composition.specs.Value.{word_of}
use Rattle.solve_composition.proofs.behind.Forms.{width_behind, ends_behind}
use Rattle.solve_transformer.specs.Places.{placed_edge, state_after}
use Rattle.solve_transformer.specs.Values.{ReadsOutcome, IsValue}
use Rattle.solve_transformer.specs.Meanings.{HasEvidence}
use Rattle.solve_transformer.proofs.values.Evident.{is_transformer}
use Rattle.ask_verdicts.specs.Breaking.{PassesAll, Breaks, NoneBreaks}
use Rattle.ask_verdicts.specs.Verdicts.{IsBreaking, case_problem, last_point, state_of}

-- ---- actions, and guards behind them
-- a trace along both is one along the actions whose end passes the guards
traces_parted : (before : List Action) (case : List Form) (x y : RationalState) → Traces (placed_actions before case) x y
    → Traces before x y × PassesAll case y
traces_parted [] [] x y h = (h, tt)
traces_parted [] (g ∷ gs) x y h =
    let rest = traces_parted [] gs x y h.1 in
    (rest.0, (subst (λ s. valueℚ g s ≤ℚ zero_ℚ) (sym rest.0) h.0, rest.1))
traces_parted (Guard form ∷ before) case x y h = let rest = traces_parted before case x y h.1 in ((h.0, rest.0), rest.1)
traces_parted (Assign var form ∷ before) case x y h = traces_parted before case (put zero_ℚ x var (valueℚ form x)) y h
traces_parted (Havoc var ∷ before) case x y h = let rest = traces_parted before case (put zero_ℚ x var h.0) y h.1 in ((h.0, rest.0), rest.1)
traces_parted (Check about ∷ before) case x y h = traces_parted before case x y h

-- and the other way round
traces_joined : (before : List Action) (case : List Form) (x y : RationalState) → Traces before x y → PassesAll case y
    → Traces (placed_actions before case) x y
traces_joined [] [] x y h p = h
traces_joined [] (g ∷ gs) x y h p = (subst (λ s. valueℚ g s ≤ℚ zero_ℚ) h p.0, traces_joined [] gs x y h p.1)
traces_joined (Guard form ∷ before) case x y h p = (h.0, traces_joined before case x y h.1 p)
traces_joined (Assign var form ∷ before) case x y h p = traces_joined before case (put zero_ℚ x var (valueℚ form x)) y h p
traces_joined (Havoc var ∷ before) case x y h p = (h.0, traces_joined before case (put zero_ℚ x var h.0) y h.1 p)
traces_joined (Check about ∷ before) case x y h p = traces_joined before case x y h p

-- guards leave the state as it is
end_before : (n : ℕ) (before : List Action) (case : List Form) (word : Word)
    → end_of n (placed_actions before case) word ≡ end_of n before word
unfolding end_of
end_before n before case word = ap (λ fs. values fs word) (ends_behind n (columns n) before case)

module _ (system : Equations) (z : Vector) (p : ℕ) (before : List Action) (case : List Form) where
  -- a word that runs leads to such a state
  runs_breaks : (word : Word) → Runs system z (placed_edge p before case) word
      → Breaks system z p before case (end_of system.variables (placed_actions before case) word)
  runs_breaks word runs =
      let n = system.variables in
      let actions = placed_actions before case in
      let parts = traces_parted before case (start_of n word) (end_of n actions word) (trace_of_word n actions word runs.passes) in
      record { start = start_of n word; size = start_length n word; fits = runs.fits; trace = parts.0; passes = parts.1 }

  -- and to each such state leads a word that runs
  breaks_runs : (x : RationalState) → Breaks system z p before case x → (word : Word) × Runs system z (placed_edge p before case) word
  breaks_runs x b =
      let n = system.variables in
      let actions = placed_actions before case in
      let w = word_of_trace n actions b.start x b.size (traces_joined before case b.start x b.trace b.passes) in
      (b.start ++ w.0, record { passes = w.2; fits = subst (Fits system z p) (sym w.3) b.fits })

  reached : (number : Ext) → transformer system z (placed_edge p before case) [] ≡ number
      → Reaches system z (placed_edge p before case) [] number
  reached number e = subst (Reaches system z (placed_edge p before case) []) e (transformer_reaches system z (placed_edge p before case) [])

  none_breaks : transformer system z (placed_edge p before case) [] ≡ neg_inf → NoneBreaks system z p before case
  none_breaks e x b = let run = breaks_runs x b in reached neg_inf e run.0 run.1

  -- 0 never rises
  no_gain : Unlimited system z (placed_edge p before case) [] → ⊥
  unfolding lin end_form combined dot
  no_gain u = <ℚ_irrefl u.gains

  read_is : (o : Outcome) (word : Word) (w : ℕ) (x : ℕ → ℚ) → last_point o ≡ x → word ≡ tabulate w (unsplit x)
      → w ≡ width system.variables before → end_of system.variables (placed_actions before case) word ≡ state_of system before o
  read_is o word w x e f g =
      end_before system.variables before case word ∙ ap (end_of system.variables before) f
      ∙ ap₂ (λ m y. end_of system.variables before (tabulate m (unsplit y))) g (sym e)

  -- the state that a trace of a best value leads to is that of the outcome
  best_reads : (q : ℚ) (B : ℕ → Ext) (t : List (List ℤ)) (k : ℕ) (o : Outcome) (value : ℚ)
      (trace : Trace) (rows multipliers : List ℚ) →
      ReadsOutcome system.variables (width system.variables (placed_actions before case)) q B t k o (Best value trace rows multipliers) →
      end_of system.variables (placed_actions before case) (word_of trace) ≡ state_of system before o
  best_reads q B t k (best x v y) value trace rows multipliers h =
      read_is (best x v y) (word_of trace) (width system.variables (placed_actions before case)) x refl h.1.word
      (width_behind system.variables before case)
  best_reads q B t k (unbounded x d) value trace rows multipliers h = absurd h
  best_reads q B t k (empty y) value trace rows multipliers h = absurd h

  -- a state is found where there is one, and it is the one that the last dictionary gives
  pub says_state : (v : Value) (state : Option RationalState) → IsValue system z (placed_edge p before case) [] v
      → HasEvidence system z (placed_edge p before case) [] v
      → state ≡ state_after system.variables (placed_actions before case) v
      → MatchOption state (NoneBreaks system z p before case) (IsBreaking system z p before case)
  says_state (Unreached r) state h evidence e =
      subst (λ o. MatchOption o (NoneBreaks system z p before case) (IsBreaking system z p before case)) (sym e)
      (none_breaks (is_transformer system z (placed_edge p before case) [] (Unreached r) h))
  says_state (Empty rows multipliers) state h evidence e =
      subst (λ o. MatchOption o (NoneBreaks system z p before case) (IsBreaking system z p before case)) (sym e)
      (none_breaks (is_transformer system z (placed_edge p before case) [] (Empty rows multipliers) h))
  says_state (Best value trace rows multipliers) state h evidence e =
      let n = system.variables in
      let actions = placed_actions before case in
      subst (λ o. MatchOption o (NoneBreaks system z p before case) (IsBreaking system z p before case)) (sym e) (record {
        breaks = runs_breaks (word_of trace) evidence.runs;
        reads = best_reads (end_form n actions []).constant (z p) system.template (length (guard_forms n actions))
            (lp (case_problem system z p before case)) value trace rows multipliers h.1;
      })
  says_state (Unbounded trace direction) state h evidence e =
      absurd (no_gain (reached pos_inf (is_transformer system z (placed_edge p before case) [] (Unbounded trace direction) h)))
