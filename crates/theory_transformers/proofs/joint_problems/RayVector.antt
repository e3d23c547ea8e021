-- Where the ray step of a joint problem leads: the listed unknowns with a rate above 0 to +∞, all others to themselves.
use Rattle.std.proofs.Common.{◌≡◌, ◌∙◌, ◌⊎◌, inl, inr, ⊎_elim, ℕ, Bool, true, false, List, [], ◌∷◌, refl, ap, subst, if◌then◌else◌}
use Rattle.base_numbers.specs.Rational.{ℚ, zero_ℚ, ◌≤ℚ◌, ◌<ℚ◌}
use Rattle.base_numbers.specs.Extended.{pos_inf}
use Rattle.base_numbers.proofs.rational.Laws.{le_or_lt, not_le_of_lt, <ℚ_irrefl}
use Rattle.flow_systems.specs.Equations.{Equations, Vector}
use Rattle.theory_validity.specs.Words.{Word}
use Rattle.theory_validity.specs.Steps.{Ray, names, put, new_value, after_step}
use Rattle.theory_transformers.specs.JointProblems.{Listed, is_at, rise_at, joint_words}
use Rattle.theory_transformers.specs.JointPoints.{Unlisted}
use Rattle.theory_transformers.specs.JointSteps.{AllLow, item_of, ray_items}
use Rattle.theory_transformers.proofs.joint_problems.Rises.{is_at_means, rise_unlisted}
use Rattle.theory_transformers.proofs.joint_problems.JointLows.{AllSized}
use Rattle.theory_transformers.proofs.joint_problems.RaySteps.{joint_ray, sized_words}

-- an unknown whose rate isn't above 0 stays
put_still : (system : Equations) (b : Vector) (rate : ℕ → ℕ → ℚ) (list : List Listed) (ls ds : List Word) (p r : ℕ)
    → AllLow system b list ls → AllSized system list ds → rate p r ≤ℚ zero_ℚ →
    put (new_value Ray) (ray_items system.variables rate list ls ds) b p r ≡ b p r
unfolding put ray_items item_of names is_at new_value
put_still system b rate [] ls ds p r lo si h = refl
put_still system b rate (u ∷ rest) [] ds p r lo si h = absurd lo
put_still system b rate (u ∷ rest) (l ∷ ls) [] p r lo si h = absurd si
put_still system b rate (u ∷ rest) (l ∷ ls) (d ∷ ds) p r lo si h = by (le_or_lt (rate u.point u.row) zero_ℚ)
    (put_still system b rate rest ls ds p r lo.1 si.1 h)
  where
    at : (t : Bool) → is_at u p r ≡ t → zero_ℚ <ℚ rate u.point u.row →
        put (new_value Ray) (ray_items system.variables rate rest ls ds) b p r ≡ b p r →
        (if t then pos_inf else put (new_value Ray) (ray_items system.variables rate rest ls ds) b p r) ≡ b p r
    at true e l k =
        let n = is_at_means u p r e in
        absurd (not_le_of_lt (subst (λ s. zero_ℚ <ℚ rate p s) n.1 (subst (λ s. zero_ℚ <ℚ rate s u.row) n.0 l)) h)
    at false e l k = k

    by : (t : (rate u.point u.row ≤ℚ zero_ℚ) ⊎ (zero_ℚ <ℚ rate u.point u.row))
        → put (new_value Ray) (ray_items system.variables rate rest ls ds) b p r ≡ b p r →
        put (new_value Ray) (⊎_elim (λ i. ray_items system.variables rate rest ls ds)
        (λ i. item_of system.variables u l d (rate u.point u.row) ∷ ray_items system.variables rate rest ls ds) t) b p r ≡ b p r
    by (inl i) k = k
    by (inr i) k = at (is_at u p r) refl i k

-- a listed one with a rate above 0 goes to +∞
put_top : (system : Equations) (b : Vector) (rate : ℕ → ℕ → ℚ) (list : List Listed) (ls ds : List Word) (p r : ℕ) → AllLow system b list ls
    → AllSized system list ds → zero_ℚ <ℚ rate p r → (Unlisted list p r → ⊥) →
    put (new_value Ray) (ray_items system.variables rate list ls ds) b p r ≡ pos_inf
unfolding put ray_items item_of names is_at new_value
put_top system b rate [] ls ds p r lo si h n = absurd (n tt)
put_top system b rate (u ∷ rest) [] ds p r lo si h n = absurd lo
put_top system b rate (u ∷ rest) (l ∷ ls) [] p r lo si h n = absurd si
put_top system b rate (u ∷ rest) (l ∷ ls) (d ∷ ds) p r lo si h n =
    by (le_or_lt (rate u.point u.row) zero_ℚ) (is_at u p r) refl (λ e. put_top system b rate rest ls ds p r lo.1 si.1 h (λ k. n (e, k)))
  where
    by : (t : (rate u.point u.row ≤ℚ zero_ℚ) ⊎ (zero_ℚ <ℚ rate u.point u.row)) (s : Bool) → is_at u p r ≡ s
        → (is_at u p r ≡ false → put (new_value Ray) (ray_items system.variables rate rest ls ds) b p r ≡ pos_inf) →
        put (new_value Ray) (⊎_elim (λ i. ray_items system.variables rate rest ls ds)
        (λ i. item_of system.variables u l d (rate u.point u.row) ∷ ray_items system.variables rate rest ls ds) t) b p r ≡ pos_inf
    by (inl i) true e k =
        let m = is_at_means u p r e in
        absurd (not_le_of_lt h (subst (λ s. rate p s ≤ℚ zero_ℚ) m.1 (subst (λ s. rate s u.row ≤ℚ zero_ℚ) m.0 i)))
    by (inl i) false e k = k e
    by (inr i) true e k = ap (λ s. if s then pos_inf else put (new_value Ray) (ray_items system.variables rate rest ls ds) b p r) e
    by (inr i) false e k = ap (λ s. if s then pos_inf else put (new_value Ray) (ray_items system.variables rate rest ls ds) b p r) e ∙ k e

-- unknowns with a rate above 0 go to +∞
pub joint_ray_top : (system : Equations) (b : Vector) (list : List Listed) (d : ℕ → ℚ) (ls : List Word) (p r : ℕ) → AllLow system b list ls
    → zero_ℚ <ℚ rise_at list d p r → after_step (joint_ray system list d ls) b p r ≡ pos_inf
unfolding after_step
joint_ray_top system b list d ls p r lo h =
    put_top system b (rise_at list d) list ls (joint_words system list d) p r lo (sized_words system list d) h
    (λ n. <ℚ_irrefl (subst (λ s. zero_ℚ <ℚ s) (rise_unlisted list d p r n) h))

-- and the others stay
pub joint_ray_stays : (system : Equations) (b : Vector) (list : List Listed) (d : ℕ → ℚ) (ls : List Word) (p r : ℕ)
    → AllLow system b list ls → rise_at list d p r ≤ℚ zero_ℚ → after_step (joint_ray system list d ls) b p r ≡ b p r
unfolding after_step
joint_ray_stays system b list d ls p r lo h = put_still system b (rise_at list d) list ls (joint_words system list d) p r lo
    (sized_words system list d) h
