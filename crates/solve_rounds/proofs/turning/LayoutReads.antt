-- What is read by the layout of a list.
use Rattle.std.proofs.Common.{◌≡◌, ◌∙◌, ⊎_elim, inl, inr, ℕ, zero, suc, ◌+◌, ◌≤◌, Bool, true, false, List, [], ◌∷◌, length, map, refl, sym}
use Rattle.std.proofs.Common.{ap, ap₂, subst, arith, cond}
use Rattle.std.specs.Prelude.{Option}
use Rattle.std.specs.List.{filter}
use Rattle.std.proofs.lemmas.List.{length-map}
use Rattle.base_facts.specs.Elements.{In}
use Rattle.base_numbers.specs.Rational.{ℚ}
use Rattle.base_numbers.specs.Extended.{Ext}
use Rattle.flow_systems.specs.declared.system.System.{System}
use Rattle.flow_systems.specs.View.{equations_of}
use Rattle.lp_theory.specs.Problem.{Outcome, best, unbounded, empty}
use Rattle.theory_transformers.specs.Limits.{tabulate, shift}
use Rattle.theory_transformers.specs.JointProblems.{rise_at, joint_words, words_of}
use Rattle.theory_transformers.specs.JointPoints.{Distinct}
use Rattle.solve_ray.specs.declared.layout.Rise.{Rise}
use Rattle.solve_ray.specs.declared.rate.RateOf.{RateOf}
use Rattle.solve_ray.specs.Reading.{at_column, is_named, rate_of, named_rates}
use Rattle.solve_joint.specs.Blocks.{edge_for, split_width, split_columns}
use Rattle.solve_joint.specs.Numbers.{listed_of, all_listed}
use Rattle.solve_joint.specs.Joints.{IsReadFrom, entries_of, word_of}
use Rattle.solve_joint.specs.Layouts.{columns_from, rises_from, layout_of, trace_at, number_at}
use Rattle.solve_joint.specs.declared.joined.Joined.{Joined}
use Rattle.solve_joint.specs.declared.joined.Joined.TheVariants.{Point, Ray}
use Rattle.solve_joint.proofs.blocks.WordReads.{at_tabulate, tabulate_same, words_are}
use Rattle.solve_joint.proofs.layouts.NumberReads.{rises_here}
use Rattle.solve_rounds.specs.Turning.{HasSizes}
use Rattle.solve_rounds.proofs.lows.JumpTurn.{AllStart}

-- ---- lists
length-columns : (first n : ℕ) → length (columns_from first n) ≡ n
length-columns first zero = refl
length-columns first (suc n) = ap suc (length-columns (first + 2) n)

-- a rate's unknown is that of a rise
named_unknown : (ray : List ℚ) (rises : List Rise) (rate : RateOf) → In (named_rates ray rises) rate
    → In (map (λ (rise : Rise). rise.unknown) rises) rate.unknown
named_unknown ray [] rate m = absurd m
named_unknown ray (rise ∷ rises) rate m = by (is_named ray rise) m (λ k. named_unknown ray rises rate k)
  where
    by : (b : Bool) → In (map (rate_of ray) (cond b (rise ∷ filter (is_named ray) rises) (filter (is_named ray) rises))) rate
        → (In (named_rates ray rises) rate → In (map (λ (s : Rise). s.unknown) rises) rate.unknown) →
        In (map (λ (s : Rise). s.unknown) (rise ∷ rises)) rate.unknown
    by true m rec = ⊎_elim (λ e. inl (ap (λ (r : RateOf). r.unknown) e)) (λ k. inr (rec k)) m
    by false m rec = inr (rec m)

module _ (system : System) (pick : List (Option ℕ)) where
  -- the unknowns of a layout are the list
  laid_unknowns : (n place offset : ℕ) (rest : List ℕ) → map (λ (rise : Rise). rise.unknown) (rises_from system pick n place offset rest)
      ≡ rest
  laid_unknowns n place offset [] = refl
  laid_unknowns n place offset (u ∷ rest) = ap (λ xs. u ∷ xs) (laid_unknowns n (place + 1) (offset + split_width system (edge_for pick u))
      rest)

  -- the unknowns of a list's layout are the list
  pub layout_unknowns : (list : List ℕ) → map (λ (rise : Rise). rise.unknown) (layout_of system pick list) ≡ list
  layout_unknowns list = laid_unknowns (length list) 0 0 list

  length-layout : (list : List ℕ) → length (layout_of system pick list) ≡ length list
  length-layout list = sym (length-map (layout_of system pick list) (λ (rise : Rise). rise.unknown)) ∙ ap length (layout_unknowns list)

  laid_starts : (ray : List ℚ) (n place offset : ℕ) (rest : List ℕ) → AllStart (length system.flow.names)
      (map (trace_at ray) (rises_from system pick n place offset rest))
  laid_starts ray n place offset [] = tt
  laid_starts ray n place offset (u ∷ rest) = (
    length-map (columns_from (n + offset) (length system.flow.names)) _ ∙ length-columns (n + offset) (length system.flow.names),
    laid_starts ray n (place + 1) (offset + split_width system (edge_for pick u)) rest,
  )

  -- each trace has a start value for each variable
  pub layout_starts : (ray : List ℚ) (list : List ℕ) → AllStart (length system.flow.names) (map (trace_at ray) (layout_of system pick list))
  layout_starts ray list = laid_starts ray (length list) 0 0 list

  laid_columns : (N : ℕ) (x : ℕ → ℚ) (n place offset : ℕ) (rest : List ℕ) → place + length rest ≤ N →
      map (λ (rise : Rise). at_column (tabulate N x) rise.col) (rises_from system pick n place offset rest)
      ≡ tabulate (length rest) (λ j. x (place + j))
  laid_columns N x n place offset [] l = refl
  laid_columns N x n place offset (u ∷ rest) l =
      let e : place ≡ place + 0 = omega arith in
      ap₂ (λ y ys. y ∷ ys) (at_tabulate N x place (omega arith) ∙ ap x e)
      (laid_columns N x n (place + 1) (offset + split_width system (edge_for pick u)) rest (omega arith)
      ∙ tabulate_same (length rest) (λ j. x (place + 1 + j)) (λ j. x (place + suc j))
      (λ j. let k : place + 1 + j ≡ place + suc j = omega arith in ap x k))

  -- the entries at the layout's columns are the rises of the listed unknowns
  pub layout_rises : (x : ℕ → ℚ) (list : List ℕ) → Distinct (all_listed system pick list) →
      map (λ v. rise_at (all_listed system pick list) x v.point v.row) (all_listed system pick list)
      ≡ map (λ (rise : Rise). at_column (entries_of system pick list x) rise.col) (layout_of system pick list)
  layout_rises x list d =
      let us = all_listed system pick list in
      rises_here us x d ∙ ap (λ n. tabulate n x) (length-map list (listed_of (length system.template) pick))
      ∙ tabulate_same (length list) x (λ j. x (0 + j)) (λ j. let k : j ≡ 0 + j = omega arith in ap x k)
      ∙ sym (laid_columns (length list + split_columns system pick list) x (length list) 0 0 list (omega arith))

  -- the words of a point or a ray are the traces that are read
  pub layout_words : (x : ℕ → ℚ) (list : List ℕ) → map word_of (map (trace_at (entries_of system pick list x)) (layout_of system pick list))
      ≡ joint_words (equations_of system) (all_listed system pick list) x
  unfolding joint_words
  layout_words x list =
      words_are system pick (length list + split_columns system pick list) x (length list) 0 0 list (omega arith)
      ∙ ap (λ n. words_of (equations_of system) (all_listed system pick list) (shift n x))
      (sym (length-map list (listed_of (length system.template) pick)))

  -- what is read has numbers and traces for the whole list, and rates of its unknowns
  pub read_sizes : (base : List Ext) (list : List ℕ) (o : Outcome) (j : Joined) → IsReadFrom system pick base list o j → HasSizes list j
  read_sizes base list (best x v y) (Point to highs) h = (
    ap length h.0 ∙ length-map (layout_of system pick list) (number_at base (entries_of system pick list x)) ∙ length-layout list,
    ap length h.1 ∙ length-map (layout_of system pick list) (trace_at (entries_of system pick list x)) ∙ length-layout list,
  )
  read_sizes base list (best x v y) (Ray rates) h = absurd h
  read_sizes base list (unbounded x d) (Point to highs) h = absurd h
  read_sizes base list (unbounded x d) (Ray rates) h =
      λ rate m. subst (λ s. In s rate.unknown) (layout_unknowns list) (named_unknown (entries_of system pick list d)
      (layout_of system pick list) rate (subst (λ s. In s rate) h m))
  read_sizes base list (empty y) j h = absurd h
