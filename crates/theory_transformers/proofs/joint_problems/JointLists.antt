-- Elements of lists of unknowns with what holds of all of them.
use Rattle.std.proofs.Common.{◌≡◌, ◌∙◌, ◌⊎◌, inl, inr, ⊎_elim, ℕ, zero, suc, ◌<◌, true, false, true≢false, List, [], ◌∷◌, length, refl, sym}
use Rattle.std.proofs.Common.{ap, subst, arith, if◌then◌else◌}
use Rattle.std.proofs.lemmas.Bool.{cases_Bool}
use Rattle.base_facts.specs.Elements.{In}
use Rattle.base_numbers.specs.Rational.{ℚ, ◌-ℚ◌}
use Rattle.flow_systems.specs.Equations.{Equations, Vector}
use Rattle.theory_validity.specs.Words.{Word}
use Rattle.theory_validity.specs.Certificates.{num}
use Rattle.theory_transformers.specs.JointProblems.{Listed, is_at, rise_at, Rising, AllRising, Supports, AllSupport, Follows, AllFollow}
use Rattle.theory_transformers.specs.JointPoints.{Unlisted, Distinct}
use Rattle.theory_transformers.specs.Candidates.{Supported, AllSupported, rises_of}
use Rattle.theory_transformers.proofs.joint_problems.Rises.{is_at_means, is_at_itself}

-- each member of a list that rises does
pub rising_at : (system : Equations) (b : Vector) (list : List Listed) (u : Listed) → AllRising system b list → In list u
    → Rising system b u
rising_at system b [] u h m = absurd m
rising_at system b (v ∷ list) u h m = ⊎_elim (λ e. subst (λ s. Rising system b s) e h.0) (λ k. rising_at system b list u h.1 k) m

-- each member of a list that is supported is
pub supported_at : (system : Equations) (b q : Vector) (list : List Listed) (u : Listed) → AllSupported system b q list → In list u
    → Supported system b q u
supported_at system b q [] u h m = absurd m
supported_at system b q (v ∷ list) u h m = ⊎_elim (λ e. subst (λ s. Supported system b q s) e h.0)
    (λ k. supported_at system b q list u h.1 k) m

-- a list whose members are all supported is supported
pub all_supported : (system : Equations) (b q : Vector) (list : List Listed) → ((u : Listed) → In list u → Supported system b q u)
    → AllSupported system b q list
all_supported system b q [] h = tt
all_supported system b q (u ∷ list) h = (h u (inl refl), all_supported system b q list (λ v m. h v (inr m)))

-- each member of a list with supporting words has one
pub support_at : (system : Equations) (y : Vector) (list : List Listed) (ws : List Word) (u : Listed) → AllSupport system y list ws
    → In list u → (w : Word) × Supports system y u w
support_at system y [] ws u h m = absurd m
support_at system y (v ∷ list) [] u h m = absurd h
support_at system y (v ∷ list) (w ∷ ws) u h m = ⊎_elim (λ e. (w, subst (λ s. Supports system y s w) e h.0))
    (λ k. support_at system y list ws u h.1 k) m

-- each member of a list with directions that keep to the rates has one
pub follow_at : (system : Equations) (b : Vector) (all : List Listed) (rates : ℕ → ℚ) (list : List Listed) (ds : List Word) (u : Listed)
    → AllFollow system b all rates list ds → In list u →
    (d : Word) × Follows system b all rates u d
follow_at system b all rates [] ds u h m = absurd m
follow_at system b all rates (v ∷ list) [] u h m = absurd h
follow_at system b all rates (v ∷ list) (d ∷ ds) u h m = ⊎_elim (λ e. (d, subst (λ s. Follows system b all rates s d) e h.0))
    (λ k. follow_at system b all rates list ds u h.1 k) m

-- no listed unknown is unlisted
pub unlisted_other : (list : List Listed) (p r : ℕ) (u : Listed) → Unlisted list p r → In list u → is_at u p r ≡ false
unlisted_other [] p r u n m = absurd m
unlisted_other (v ∷ list) p r u n m = ⊎_elim (λ e. subst (λ s. is_at s p r ≡ false) e n.0) (λ k. unlisted_other list p r u n.1 k) m

-- a member of a list is not unlisted
pub not_unlisted : (list : List Listed) (u : Listed) → In list u → Unlisted list u.point u.row → ⊥
not_unlisted list u m n = true≢false (sym (is_at_itself u) ∙ unlisted_other list u.point u.row u n m)

moved_unlisted : (list : List Listed) (u : Listed) (p r : ℕ) → is_at u p r ≡ true → Unlisted list u.point u.row → Unlisted list p r
moved_unlisted list u p r e n = let h = is_at_means u p r e in subst (λ s. Unlisted list p s) h.1 (subst (λ s. Unlisted list s u.row) h.0 n)

back_unlisted : (list : List Listed) (u : Listed) (p r : ℕ) → is_at u p r ≡ true → Unlisted list p r → Unlisted list u.point u.row
back_unlisted list u p r e n = let h = is_at_means u p r e in subst (λ s. Unlisted list u.point s) (sym h.1)
    (subst (λ s. Unlisted list s r) (sym h.0) n)

-- where no unknown is listed twice, one unknown is one element
pub distinct_same : (list : List Listed) (u v : Listed) → Distinct list → In list u → In list v → is_at u v.point v.row ≡ true → u ≡ v
distinct_same [] u v d m n e = absurd m
distinct_same (x ∷ list) u v d m n e = by m n (λ k l. distinct_same list u v d.1 k l e)
  where
    by : (x ≡ u) ⊎ In list u → (x ≡ v) ⊎ In list v → (In list u → In list v → u ≡ v) → u ≡ v
    by (inl a) (inl b) f = sym a ∙ b
    by (inl a) (inr k) f = absurd (not_unlisted list v k (moved_unlisted list u v.point v.row e
        (subst (λ s. Unlisted list s.point s.row) a d.0)))
    by (inr k) (inl b) f = absurd (not_unlisted list u k (back_unlisted list u v.point v.row e
        (subst (λ s. Unlisted list s.point s.row) b d.0)))
    by (inr k) (inr l) f = f k l

-- the element that stands at a place
pub record Placed (list : List Listed) (b q : Vector) (x : ℕ → ℚ) (k : ℕ) : Type 0 where
  -- the unknown that stands there
  pub unknown : Listed
  -- it is a member of the list
  pub listed : In list unknown
  -- its rise is the entry at this place
  pub rise : rise_at list x unknown.point unknown.row ≡ x k
  -- its rise over the base is the entry at this place
  pub over : rises_of list b q k ≡ num (q unknown.point unknown.row) -ℚ num (b unknown.point unknown.row)

-- at each place of a list without repetition stands an unknown with the rises of that place
pub placed : (list : List Listed) (b q : Vector) (x : ℕ → ℚ) (k : ℕ) → Distinct list → k < length list → Placed list b q x k
unfolding rise_at rises_of
placed [] b q x k d l = absurd (omega (arith, l))
placed (u ∷ list) b q x zero d l = record {
  unknown = u;
  listed = inl refl;
  rise =
      ap (λ t. if t then x 0 else rise_at list (λ k. x (suc k)) u.point u.row) (is_at_itself u);
  over = refl;
}
placed (u ∷ list) b q x (suc k) d l =
    let h = placed list b q (λ k. x (suc k)) k d.1 (omega (arith, l)) in
    record {
      unknown = h.unknown;
      listed = inr h.listed;
      rise = ap (λ t. if t then x 0 else rise_at list (λ k. x (suc k)) h.unknown.point h.unknown.row) (other h.unknown h.listed) ∙ h.rise;
      over = h.over;
    }
  where
    other : (v : Listed) → In list v → is_at u v.point v.row ≡ false
    other v m = ⊎_elim (λ e. absurd (not_unlisted list v m (moved_unlisted list u v.point v.row e d.0))) (λ e. e)
        (cases_Bool (is_at u v.point v.row))

-- a list whose members all rise rises
pub all_rising : (system : Equations) (b : Vector) (list : List Listed) → ((u : Listed) → In list u → Rising system b u)
    → AllRising system b list
all_rising system b [] h = tt
all_rising system b (u ∷ list) h = (h u (inl refl), all_rising system b list (λ v m. h v (inr m)))
