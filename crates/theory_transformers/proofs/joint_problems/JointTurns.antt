-- What a round needs of joint problems: the list condition from low words, and transformers at +∞ after a ray.
use Rattle.std.proofs.Common.{◌≡◌, ◌∙◌, ◌⊎◌, inl, inr, ⊎_elim, ℕ, List, sym, subst}
use Rattle.base_facts.specs.Elements.{In}
use Rattle.base_numbers.specs.Rational.{ℚ, zero_ℚ, ◌≤ℚ◌, ◌<ℚ◌}
use Rattle.base_numbers.specs.Extended.{Ext, neg_inf, fin, pos_inf, ◌≤ᴱ◌, ◌<ᴱ◌}
use Rattle.base_numbers.proofs.rational.Laws.{≤ℚ_trans, lt_of_lt_of_le_ℚ, le_or_lt}
use Rattle.base_numbers.proofs.extended.ExtendedLaws.{≤ᴱ_refl}
use Rattle.flow_systems.specs.Equations.{Equations, Vector}
use Rattle.theory_validity.specs.Words.{Word}
use Rattle.theory_validity.specs.Steps.{end_value, after_step}
use Rattle.theory_validity.specs.Transformers.{Unlimited}
use Rattle.lp_theory.specs.Problem.{IsUnbounded}
use Rattle.theory_transformers.specs.EdgeProblems.{transformer}
use Rattle.theory_transformers.specs.JointProblems.{Listed, picked, own_row, rise_at, joint_problem, Follows}
use Rattle.theory_transformers.specs.JointSteps.{Low, AllLow}
use Rattle.theory_transformers.proofs.edge_problems.TransformerOf.{reach_unique, runs_below_at}
use Rattle.theory_transformers.proofs.joint_problems.JointRay.{ray_direction}
use Rattle.theory_transformers.proofs.joint_problems.RaySteps.{joint_ray}
use Rattle.theory_transformers.proofs.joint_problems.RayVector.{joint_ray_top, joint_ray_stays}

-- a low word at a vector is one at a greater vector with the same number there
pub low_above : (system : Equations) (b q : Vector) (u : Listed) (w : Word) → ((p r : ℕ) → b p r ≤ᴱ q p r)
    → q u.point u.row ≡ b u.point u.row → Low system b u w → Low system q u w
low_above system b q u w h e low = record {
  size = low.size;
  runs = runs_below_at system b q (picked system u) w (λ r l. h (picked system u).from r) low.runs;
  above = subst (λ s. s <ᴱ fin (end_value system (picked system u) (own_row system u) w)) (sym e) low.above;
}

top_above : (v : Ext) → v ≤ᴱ pos_inf
top_above neg_inf = tt
top_above (fin c) = tt
top_above pos_inf = tt

-- a ray step doesn't lower
joint_ray_above : (system : Equations) (b : Vector) (list : List Listed) (d : ℕ → ℚ) (ls : List Word) (p r : ℕ) → AllLow system b list ls
    → b p r ≤ᴱ after_step (joint_ray system list d ls) b p r
joint_ray_above system b list d ls p r lo = ⊎_elim
    (λ h. subst (λ s. b p r ≤ᴱ s) (sym (joint_ray_stays system b list d ls p r lo h)) (≤ᴱ_refl (b p r)))
    (λ h. subst (λ s. b p r ≤ᴱ s) (sym (joint_ray_top system b list d ls p r lo h)) (top_above (b p r)))
    (le_or_lt (rise_at list d p r) zero_ℚ)

-- after the ray the transformer of each listed unknown with a rate above 0 is +∞
pub joint_ray_tight : (system : Equations) (b : Vector) (list : List Listed) (x d : ℕ → ℚ) (ls : List Word) → AllLow system b list ls
    → IsUnbounded (joint_problem system b list) x d →
    (u : Listed) → In list u → zero_ℚ <ℚ rise_at list d u.point u.row → (w : Word) → Low system b u w
    → transformer system (after_step (joint_ray system list d ls) b) (picked system u) (own_row system u) ≡ pos_inf
joint_ray_tight system b list x d ls lo un u m pos w low =
    sym (reach_unique system z (picked system u) (own_row system u) pos_inf (endless (ray_direction system b list x d un u m)))
  where
    z : Vector
    z = after_step (joint_ray system list d ls) b

    kept : (p r : ℕ) (c : ℚ) → z p r ≡ fin c → (rise_at list d p r ≤ℚ zero_ℚ) ⊎ (zero_ℚ <ℚ rise_at list d p r)
        → (rise_at list d p r ≤ℚ zero_ℚ) × (b p r ≡ fin c)
    kept p r c e (inl h) = (h, sym (joint_ray_stays system b list d ls p r lo h) ∙ e)
    kept p r c e (inr h) = absurd (differ c (sym (joint_ray_top system b list d ls p r lo h) ∙ e))
      where
        differ : (c : ℚ) → pos_inf ≡ fin c → ⊥
        differ c e = cc

    endless : ((e : Word) × Follows system b list d u e) → Unlimited system z (picked system u) (own_row system u)
    endless f = record {
      word = w;
      runs = runs_below_at system b z (picked system u) w (λ r l. joint_ray_above system b list d ls (picked system u).from r lo) low.runs;
      direction = f.0;
      still = λ r source bound g h. let k = kept (picked system u).from r bound h
          (le_or_lt (rise_at list d (picked system u).from r) zero_ℚ) in ≤ℚ_trans (f.1.still r source bound g k.1) k.0;
      falls = f.1.falls;
      gains = lt_of_lt_of_le_ℚ pos f.1.gains;
    }
