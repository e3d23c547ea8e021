-- The answer of a joint problem from its outcome.
use Rattle.std.proofs.Common.{◌≡◌, ◌∙◌, ℕ, zero, suc, ◌+◌, ◌*◌, ◌<◌, ◌≤◌, List, [], ◌∷◌, length, map, get_or, Option, None, Result, Ok, Err}
use Rattle.std.proofs.Common.{MatchResult, refl, ap, ap₂, sym, subst, arith}
use Rattle.std.proofs.lemmas.List.{length-map}
use Rattle.base_numbers.specs.Rational.{ℚ, zero_ℚ}
use Rattle.base_numbers.specs.Extended.{Ext}
use Rattle.base_fractions.specs.Fits.{long_limit}
use Rattle.base_fractions.specs.Operation.{first_wide}
use Rattle.flow_systems.specs.declared.system.System.{System}
use Rattle.flow_systems.specs.declared.spot.PartFault.{PartFault}
use Rattle.flow_systems.specs.Equations.{Equations, Vector}
use Rattle.flow_systems.specs.View.{equations_of, vector_of}
use Rattle.theory_validity.specs.Words.{width, free_count}
use Rattle.lp_theory.specs.Problem as lp
use Rattle.lp_theory.specs.Problem.{best, unbounded, empty}
use Rattle.lp_simplex.specs.declared.outcome.Outcome.{Outcome}
use Rattle.lp_simplex.specs.declared.outcome.Outcome.TheVariants.{Best, Unbounded, Empty}
use Rattle.lp_simplex.specs.Outcomes.{IsListed, IsOutcomeOf}
use Rattle.theory_transformers.specs.Limits.{shift, tabulate, limits_problem}
use Rattle.theory_transformers.specs.JointProblems.{Listed, joint_problem, raised, AllRising, AllSupport, AllFollow, joint_words, words_of}
use Rattle.theory_transformers.specs.JointPoints.{Distinct}
use Rattle.theory_transformers.proofs.joint_problems.JointRay.{ray_follows, ray_rises}
use Rattle.theory_transformers.proofs.joint_problems.JointMeaning.{point_supports}
use Rattle.theory_transformers.specs.JointOutcomes.{JointOutcome}
use Rattle.solve_ray.specs.Answers.{IsReadingFault, PartAnswers}
use Rattle.solve_ray.specs.Ranges.{AllSplit, AreWithin}
use Rattle.solve_joint.specs.declared.joined.Joined.{Joined}
use Rattle.solve_joint.specs.declared.joined.Joined.TheVariants.{Point, Ray}
use Rattle.solve_joint.specs.Numbers.{listed_of, all_listed, Rises, ArePicked}
use Rattle.solve_joint.specs.Blocks.{edge_at, edge_for, split_width, split_columns}
use Rattle.solve_joint.specs.Problems.{problem_of}
use Rattle.solve_joint.specs.Layouts.{columns_from, rises_from, layout_of, trace_at, AreBounded}
use Rattle.solve_joint.specs.Readings.{point_read, point_operations, ray_read, ray_operations, IsReadable, ReadsOutcome}
use Rattle.solve_joint.specs.Joints.{word_of, entries_of, IsReadFrom, reading_operations, JoinedMeans}
use Rattle.std.proofs.lemmas.List.{map-id}
use Rattle.solve_joint.proofs.blocks.Translated.{columns_are}
use Rattle.solve_joint.proofs.layouts.NumberReads.{numbers_are}
use Rattle.solve_joint.proofs.blocks.WordReads.{words_are}

-- ---- the layout stands within the columns
split_within : (cols first k : ℕ) → first + (k + k) ≤ cols → AllSplit cols (columns_from first k)
split_within cols first zero l = tt
split_within cols first (suc k) l = (omega (arith, l), split_within cols (first + 2) k (omega (arith, l)))

module _ (system : System) (pick : List (Option ℕ)) where
  split_is : (u : ℕ) → split_width system (edge_for pick u) ≡ (length system.flow.names + length system.flow.names)
      + (free_count (edge_at system (edge_for pick u)).actions + free_count (edge_at system (edge_for pick u)).actions)
  unfolding width
  split_is u = omega arith

  laid_within : (n cols place offset : ℕ) (rest : List ℕ) → n + offset + split_columns system pick rest ≤ cols → place + length rest ≤ n
      → AreWithin cols (rises_from system pick n place offset rest)
  laid_within n cols place offset [] l k = tt
  laid_within n cols place offset (u ∷ rest) l k =
      let w = split_is u in
      let names = length system.flow.names in
      let frees = free_count (edge_at system (edge_for pick u)).actions in (
        record {
          rises = omega (arith, l, k);
          starts = split_within cols (n + offset) names (omega (arith, l, w));
          frees =
              split_within cols (n + offset + (names + names)) frees (omega (arith, l, w));
        },
        laid_within n cols (place + 1) (offset + split_width system (edge_for pick u)) rest (omega (arith, l)) (omega (arith, k)),
      )

  -- the layout of a list is within the columns of its problem
  layout_within : (list : List ℕ) → AreWithin (length list + split_columns system pick list) (layout_of system pick list)
  layout_within list = laid_within (length list) (length list + split_columns system pick list) 0 0 list (omega arith) (omega arith)

  laid_bounded : (m n place offset : ℕ) (rest : List ℕ) → m ≡ length system.flow.points * length system.template
      → ArePicked system pick rest → AreBounded m (rises_from system pick n place offset rest)
  laid_bounded m n place offset [] e h = tt
  laid_bounded m n place offset (u ∷ rest) e h = (
    let i = h.0.in_range in omega (arith, i, e),
    laid_bounded m n (place + 1) (offset + split_width system (edge_for pick u)) rest e h.1,
  )

  -- the unknowns of a layout are those of the system
  pub layout_bounded : (m : ℕ) (list : List ℕ) → m ≡ length system.flow.points * length system.template → ArePicked system pick list
      → AreBounded m (layout_of system pick list)
  layout_bounded m list e h = laid_bounded m (length list) 0 0 list e h

-- ---- a list that has a function's values
tabled : (n : ℕ) (f : ℕ → ℚ) (xs : List ℚ) → length xs ≡ n → ((j : ℕ) → j < n → get_or xs j zero_ℚ ≡ f j) → xs ≡ tabulate n f
tabled zero f [] e h = refl
tabled zero f (x ∷ xs) e h = absurd (omega (arith, e))
tabled (suc n) f [] e h = absurd (omega (arith, e))
tabled (suc n) f (x ∷ xs) e h = ap₂ (λ y ys. y ∷ ys) (h 0 (omega arith))
    (tabled n (λ k. f (suc k)) xs (omega (arith, e)) (λ j l. h (suc j) (omega (arith, l))))

listed_is : (n : ℕ) (f : ℕ → ℚ) (xs : List ℚ) → IsListed (λ q. q) n f xs → xs ≡ tabulate n f
listed_is n f xs h = tabled n f xs h.size (λ j l. ap (λ ys. get_or ys j zero_ℚ) (sym (map-id xs)) ∙ h.each j l)

-- ---- from the outcome to the answer
module _ (system : System) (pick : List (Option ℕ)) (base : List Ext) (list : List ℕ) (rises : Rises 0 list) where
  abbrev cols : ℕ
  cols = length list + split_columns system pick list

  -- the problem has the columns of the list's unknowns and words
  cols_are : (problem_of system pick base list).cols ≡ cols
  unfolding joint_problem limits_problem
  cols_are = sym (ap₂ (λ x y. x + y) (sym (length-map list (listed_of (length system.template) pick)))
      (columns_are system pick base list rises list))

  -- the outcome of a joint problem can be read by the layout
  pub readable : (o : lp.Outcome) (out : Outcome ℚ) → IsOutcomeOf (λ q. q) (problem_of system pick base list) o out
      → JointOutcome (equations_of system) (vector_of (length system.template) base) (all_listed system pick list) o
      → IsReadable (layout_of system pick list) out
  readable (best x v y) (Best point value multipliers) h k = subst (λ n. AreWithin n (layout_of system pick list))
      (sym (h.0.size ∙ cols_are)) (layout_within system pick list)
  readable (best x v y) (Unbounded point ray) h k = absurd h
  readable (best x v y) (Empty multipliers) h k = absurd h
  readable (unbounded x d) (Best point value multipliers) h k = absurd h
  readable (unbounded x d) (Unbounded point ray) h k = subst (λ n. AreWithin n (layout_of system pick list)) (sym (h.1.size ∙ cols_are))
      (layout_within system pick list)
  readable (unbounded x d) (Empty multipliers) h k = absurd h
  readable (empty y) out h k = absurd k

  entries_are : (x : ℕ → ℚ) (xs : List ℚ) → IsListed (λ q. q) (problem_of system pick base list).cols x xs
      → xs ≡ entries_of system pick list x
  entries_are x xs h = listed_is (problem_of system pick base list).cols x xs h ∙ ap (λ n. tabulate n x) cols_are

  abbrev Answered : lp.Outcome → Result Joined PartFault → Type 0
  Answered o result = MatchResult result (λ j. IsReadFrom system pick base list o j
      × (first_wide long_limit (reading_operations system pick base list o) ≡ None))
      (λ f. IsReadingFault (reading_operations system pick base list o) f)

  from_point : (x : ℕ → ℚ) (v : ℚ) (y : ℕ → ℚ) (result : Result Joined PartFault) →
      PartAnswers (point_read base (entries_of system pick list x) (layout_of system pick list))
      (point_operations base (entries_of system pick list x) (layout_of system pick list)) result → Answered (best x v y) result
  from_point x v y (Ok j) h = (subst (λ k. IsReadFrom system pick base list (best x v y) k) (sym h.0) (refl, refl), h.1)
  from_point x v y (Err f) h = h

  from_ray : (x d : ℕ → ℚ) (result : Result Joined PartFault) → PartAnswers
      (ray_read (entries_of system pick list d) (layout_of system pick list))
      (ray_operations (entries_of system pick list d) (layout_of system pick list)) result → Answered (unbounded x d) result
  from_ray x d (Ok j) h = (subst (λ k. IsReadFrom system pick base list (unbounded x d) k) (sym h.0) refl, h.1)
  from_ray x d (Err f) h = h

  -- an outcome that is read answers for the joint problem
  pub answered : (o : lp.Outcome) (out : Outcome ℚ) (result : Result Joined PartFault)
      → IsOutcomeOf (λ q. q) (problem_of system pick base list) o out →
      JointOutcome (equations_of system) (vector_of (length system.template) base) (all_listed system pick list) o
      → ReadsOutcome base (layout_of system pick list) out result → Answered o result
  answered (best x v y) (Best point value multipliers) result h k r =
      from_point x v y result (subst (λ p. PartAnswers (point_read base p (layout_of system pick list))
      (point_operations base p (layout_of system pick list)) result) (entries_are x point.items h.0) r)
  answered (best x v y) (Unbounded point ray) result h k r = absurd h
  answered (best x v y) (Empty multipliers) result h k r = absurd h
  answered (unbounded x d) (Best point value multipliers) result h k r = absurd h
  answered (unbounded x d) (Unbounded point ray) result h k r =
      from_ray x d result (subst (λ p. PartAnswers (ray_read p (layout_of system pick list)) (ray_operations p (layout_of system pick list))
      result) (entries_are d ray.items h.1) r)
  answered (unbounded x d) (Empty multipliers) result h k r = absurd h
  answered (empty y) out result h k r = absurd k

  abbrev eqs : Equations
  eqs = equations_of system

  abbrev b : Vector
  b = vector_of (length system.template) base

  abbrev us : List Listed
  us = all_listed system pick list

  -- the words of a point or a ray are the traces that are read
  words_read : (x : ℕ → ℚ) → map word_of (map (trace_at (entries_of system pick list x)) (layout_of system pick list))
      ≡ joint_words eqs us x
  unfolding joint_words
  words_read x =
      words_are system pick cols x (length list) 0 0 list (omega arith)
      ∙ ap (λ n. words_of eqs us (shift n x)) (sym (length-map list (listed_of (length system.template) pick)))

  module _ (rising : AllRising eqs b us) (distinct : Distinct us) where
    -- what is read from a joint outcome has the meaning of the joint problem
    pub means_of : (o : lp.Outcome) (j : Joined) → JointOutcome eqs b us o → IsReadFrom system pick base list o j
        → JoinedMeans system pick base list j
    means_of (best x v y) (Point to highs) k h = record {
      reached = raised us x b;
      greatest = k.1;
      numbers = h.0 ∙ numbers_are system pick base list cols x (omega arith) rising distinct;
      supports = subst (AllSupport eqs (raised us x b) us) (sym (ap (map word_of) h.1 ∙ words_read x))
          (point_supports eqs b us x rising k.0.point);
    }
    means_of (best x v y) (Ray rates) k h = absurd h
    means_of (unbounded x d) (Point to highs) k h = absurd h
    means_of (unbounded x d) (Ray rates) k h = record {
      none = k.1;
      ray = d;
      named = h;
      follow = subst (AllFollow eqs b us d us) (sym (words_read d)) (ray_follows eqs b us x d k.0);
      some = ray_rises eqs b us x d distinct k.0;
    }
    means_of (empty y) j k h = absurd k
