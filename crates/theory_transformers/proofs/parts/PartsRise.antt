-- On a rising list each part rises, the part that comes next has the lowest unknown of those that may, and no unknown stands twice.
use Rattle.std.proofs.Common.{◌≡◌, ◌∙◌, ◌⊎◌, inl, inr, ⊎_elim, not, Bool, true, false, true≢false, List, [], ◌∷◌, ◌++◌, refl, sym, ap}
use Rattle.std.proofs.Common.{subst, arith, if◌then◌else◌}
use Rattle.base_facts.specs.Elements.{In}
use Rattle.flow_systems.specs.Equations.{Equations}
use Rattle.theory_transformers.specs.JointProblems.{Listed, is_at}
use Rattle.theory_transformers.specs.JointPoints.{Unlisted, Distinct}
use Rattle.theory_transformers.specs.Parts.{together, keep, parts, InOrder, Lower, LowerThanAll, IsRising, AllRise}
use Rattle.theory_transformers.proofs.joint_problems.Rises.{is_at_means}
use Rattle.theory_transformers.proofs.parts.PartsLaw.{parts_in_order}

keep_lower : (f : Listed → Bool) (u : Listed) (list : List Listed) → LowerThanAll u list → LowerThanAll u (keep f list)
unfolding keep
keep_lower f u [] h = tt
keep_lower f u (v ∷ list) h = by (f v) (keep_lower f u list h.1)
  where
    by : (b : Bool) → LowerThanAll u (keep f list) → LowerThanAll u (if b then v ∷ keep f list else keep f list)
    by true k = (h.0, k)
    by false k = k

keep_rising : (f : Listed → Bool) (list : List Listed) → IsRising list → IsRising (keep f list)
unfolding keep
keep_rising f [] h = tt
keep_rising f (v ∷ list) h = by (f v) (keep_lower f v list h.0) (keep_rising f list h.1)
  where
    by : (b : Bool) → LowerThanAll v (keep f list) → IsRising (keep f list) → IsRising (if b then v ∷ keep f list else keep f list)
    by true k r = (k, r)
    by false k r = r

order_rises : (system : Equations) (list rest : List Listed) (ps : List (List Listed)) → InOrder system list rest ps → IsRising rest
    → AllRise ps
order_rises system list rest [] h r = tt
order_rises system list rest (part ∷ more) h r = (
  subst IsRising (sym h.2) (keep_rising (together system list h.0) rest r),
  order_rises system list (keep (λ v. not (together system list h.0 v)) rest) more h.3
      (keep_rising (λ v. not (together system list h.0 v)) rest r),
)

-- each part of a rising list rises
pub parts_rise : (system : Equations) (list : List Listed) → IsRising list → AllRise (parts system list)
parts_rise system list r = order_rises system list list (parts system list) (parts_in_order system list) r

lower_at : (u : Listed) (list : List Listed) (v : Listed) → LowerThanAll u list → In list v → Lower u v
lower_at u [] v h m = absurd m
lower_at u (x ∷ list) v h m = ⊎_elim (λ e. subst (λ s. Lower u s) e h.0) (λ k. lower_at u list v h.1 k) m

behind_first : (f : Listed → Bool) (before : List Listed) (u : Listed) (behind : List Listed) (v : Listed)
    → IsRising (before ++ (u ∷ behind)) → ((x : Listed) → In before x → f x ≡ false) →
    In (before ++ (u ∷ behind)) v → f v ≡ true → (u ≡ v) ⊎ Lower u v
behind_first f [] u behind v r n m e = ⊎_elim (λ i. inl i) (λ k. inr (lower_at u behind v r.0 k)) m
behind_first f (x ∷ before) u behind v r n m e = ⊎_elim
    (λ i. absurd (true≢false (sym e ∙ ap f (sym i) ∙ n x (inl refl))))
    (λ k. behind_first f before u behind v r.1 (λ y o. n y (inr o)) k e)
    m

not_at : (u v : Listed) → Lower u v → (b : Bool) → is_at v u.point u.row ≡ b → b ≡ false
not_at u v h false e = refl
not_at u v h true e = let k = is_at_means v u.point u.row e in let a = k.0 in let b = k.1 in
    absurd (⊎_elim (λ l. omega (arith, l, a)) (λ l. let c = l.1 in omega (arith, c, b)) h)

unlisted_by : (u : Listed) (list : List Listed) → LowerThanAll u list → Unlisted list u.point u.row
unlisted_by u [] h = tt
unlisted_by u (v ∷ list) h = (not_at u v h.0 (is_at v u.point u.row) refl, unlisted_by u list h.1)

-- a rising list names no unknown twice
pub rising_distinct : (list : List Listed) → IsRising list → Distinct list
rising_distinct [] h = tt
rising_distinct (u ∷ list) h = (unlisted_by u list h.0, rising_distinct list h.1)
