-- A ray of a joint problem: rates of at least 0, one above 0, directions that keep to them, and no greatest supported vector.
use Rattle.std.proofs.Common.{◌≡◌, ℕ, List, [], ◌∷◌, length, sym, subst, subst₂}
use Rattle.base_numbers.proofs.vector.Sums.{positive_term}
use Rattle.base_facts.specs.Elements.{In}
use Rattle.base_numbers.specs.Rational.{ℚ, zero_ℚ, ◌+ℚ◌, ◌-ℚ◌, ◌≤ℚ◌, ◌<ℚ◌}
use Rattle.base_numbers.specs.Extended.{Ext, fin, ◌≤ᴱ◌}
use Rattle.base_numbers.specs.Vector.{sum_to}
use Rattle.base_numbers.proofs.rational.Laws.{not_le_of_lt}
use Rattle.base_numbers.proofs.tactics.Linarith.{lin_le, le, reads_all}
use Rattle.base_numbers.proofs.vector.Vectors.{sum_to_mono}
use Rattle.flow_systems.specs.Equations.{Equations, Vector}
use Rattle.theory_validity.specs.Words.{Word}
use Rattle.theory_validity.specs.Certificates.{num}
use Rattle.lp_theory.specs.Problem.{IsPoint, IsUnbounded, Outcome, best, unbounded, empty, IsOutcome}
use Rattle.lp_theory.specs.Simplex.{lp}
use Rattle.lp_theory.specs.Problem.{moved}
use Rattle.lp_theory.proofs.Evidence.{ray_exceeds}
use Rattle.lp_theory.proofs.search.Programs.{lp_is}
use Rattle.theory_transformers.specs.JointProblems.{Listed, rise_at, raise_by, raised, joint_problem, joint_words, AllRising, Follows}
use Rattle.theory_transformers.specs.JointProblems.{AllFollow}
use Rattle.theory_transformers.specs.JointPoints.{Distinct}
use Rattle.theory_transformers.specs.JointOutcomes.{JointOutcome}
use Rattle.theory_transformers.specs.Candidates.{GreatestSupported, rises_of}
use Rattle.theory_transformers.proofs.joint_problems.JointMeaning.{joint_value, direction_follows}
use Rattle.theory_transformers.proofs.joint_problems.JointLists.{rising_at, supported_at, follow_at, Placed, placed}
use Rattle.theory_transformers.proofs.joint_problems.JointBest.{raised_candidate, joint_greatest, joint_never_empty}

-- some listed unknown's rate is above 0
pub ray_rises : (system : Equations) (b : Vector) (list : List Listed) (x d : ℕ → ℚ) → Distinct list
    → IsUnbounded (joint_problem system b list) x d →
    (u : Listed) × In list u × (zero_ℚ <ℚ rise_at list d u.point u.row)
ray_rises system b list x d distinct u =
    let t = positive_term (length list) d (subst (λ s. zero_ℚ <ℚ s) (joint_value system b list d) u.gains) in
    let p = placed list b b d t.0 distinct t.1 in
    (p.unknown, p.listed, subst (λ s. zero_ℚ <ℚ s) (sym p.rise) t.2)

-- each listed unknown has a direction: a source row with a finite bound rises at most by its own rate (0 if it isn't listed), no guard
-- rises, and the end value rises at least by the unknown's rate
pub ray_follows : (system : Equations) (b : Vector) (list : List Listed) (x d : ℕ → ℚ) → IsUnbounded (joint_problem system b list) x d
    → AllFollow system b list d list (joint_words system list d)
ray_follows system b list x d u = direction_follows system b list d u.keeps

-- each listed unknown has a direction that keeps to the ray's rates
pub ray_direction : (system : Equations) (b : Vector) (list : List Listed) (x d : ℕ → ℚ) → IsUnbounded (joint_problem system b list) x d
    → (u : Listed) → In list u → (e : Word) × Follows system b list d u e
ray_direction system b list x d h u m = follow_at system b list d list (joint_words system list d) u (ray_follows system b list x d h) m

rise_under : (v w : Ext) (r a c : ℚ) → v ≡ fin a → w ≡ fin c → raise_by v r ≤ᴱ w → r ≤ℚ num w -ℚ num v
unfolding raise_by num
rise_under v w r a c e f h =
    subst₂ (λ s t. r ≤ℚ num s -ℚ num t) (sym f) (sym e) (plain (subst₂ (λ s t. raise_by s r ≤ᴱ t) e f h))
  where
    plain : a +ℚ r ≤ℚ c → r ≤ℚ c -ℚ a
    plain h = lin_le (a ∷ r ∷ c ∷ []) (le h ∷ []) (search reads_all depth 40) tt

-- where the joint problem is unbounded there is no greatest supported vector
ray_no_greatest : (system : Equations) (b : Vector) (list : List Listed) (x d : ℕ → ℚ) → AllRising system b list → Distinct list
    → IsUnbounded (joint_problem system b list) x d →
    (q : Vector) → GreatestSupported system b list q → ⊥
unfolding raised
ray_no_greatest system b list x d rising distinct u q g =
    let total = sum_to (length list) (rises_of list b q) in
    let r = ray_exceeds (joint_problem system b list) x d u total in
    not_le_of_lt (subst (λ s. total <ℚ s) (joint_value system b list (moved x r.0 d)) r.3)
    (sum_to_mono (length list) (moved x r.0 d) (rises_of list b q) (λ k l. under (moved x r.0 d) r.2 k
    (placed list b q (moved x r.0 d) k distinct l)))
  where
    under : (z : ℕ → ℚ) → IsPoint (joint_problem system b list) z → (k : ℕ) → Placed list b q z k → z k ≤ℚ rises_of list b q k
    under z p k t =
        let h = rising_at system b list t.unknown rising t.listed in
        let s = supported_at system b q list t.unknown g.candidate.inside t.listed in
        subst₂ (λ i j. i ≤ℚ j) t.rise (sym t.over)
        (rise_under (b t.unknown.point t.unknown.row) (q t.unknown.point t.unknown.row) (rise_at list z t.unknown.point t.unknown.row)
        h.bound s.bound h.finite s.finite
        (g.greatest (raised list z b) (raised_candidate system b list z rising p) t.unknown.point t.unknown.row))

-- the exact run on a joint problem has the greatest supported vector, or a ray and then there is none
pub joint_outcome : (system : Equations) (b : Vector) (list : List Listed) → AllRising system b list → Distinct list
    → JointOutcome system b list (lp (joint_problem system b list))
joint_outcome system b list rising distinct = by (lp (joint_problem system b list)) (lp_is (joint_problem system b list))
  where
    by : (o : Outcome) → IsOutcome (joint_problem system b list) o → JointOutcome system b list o
    by (best x v y) h = (h, joint_greatest system b list x y v rising h)
    by (unbounded x d) h = (h, ray_no_greatest system b list x d rising distinct h)
    by (empty y) h = joint_never_empty system b list y rising h
