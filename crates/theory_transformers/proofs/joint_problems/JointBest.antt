-- A joint problem is never empty, and its best point is the greatest supported vector, with a word for each listed unknown.
use Rattle.std.proofs.Common.{◌≡◌, ◌∙◌, ◌⊎◌, inl, inr, ⊎_elim, ℕ, Bool, true, false, List, [], ◌∷◌, length, refl, sym, ap, subst, subst₂}
use Rattle.std.proofs.Common.{if◌then◌else◌}
use Rattle.base_facts.specs.Elements.{In}
use Rattle.base_numbers.specs.Rational.{ℚ, zero_ℚ, ◌+ℚ◌, ◌-ℚ◌, ◌≤ℚ◌}
use Rattle.base_numbers.specs.Extended.{fin, ◌≤ᴱ◌}
use Rattle.base_numbers.specs.Vector.{sum_to}
use Rattle.base_numbers.proofs.rational.Laws.{≤ℚ_refl, ≤ℚ_trans}
use Rattle.base_numbers.proofs.extended.ExtendedLaws.{≤ᴱ_trans, ext_le_of_lt}
use Rattle.flow_systems.specs.Equations.{Equations, Vector}
use Rattle.theory_validity.specs.Words.{Word}
use Rattle.theory_validity.specs.Steps.{end_value}
use Rattle.theory_validity.specs.Certificates.{num}
use Rattle.lp_theory.specs.Problem.{IsPoint, IsBest, IsEmpty}
use Rattle.lp_theory.proofs.Evidence.{weak_best, weak_empty}
use Rattle.theory_transformers.specs.EdgeProblems.{transformer}
use Rattle.theory_transformers.specs.JointProblems.{Listed, picked, own_row, is_at, rise_at, raise_by, raised, joint_problem, joint_words}
use Rattle.theory_transformers.specs.JointProblems.{Supports, AllSupport, Rising, AllRising}
use Rattle.theory_transformers.specs.JointPoints.{greater, joint_point, Unlisted}
use Rattle.theory_transformers.specs.Candidates.{Supported, AllSupported, Candidate, GreatestSupported, rises_of}
use Rattle.theory_transformers.proofs.edge_problems.TransformerOf.{transformer_exceeds, transformer_attains, transformer_upper}
use Rattle.theory_transformers.proofs.edge_problems.TransformerOf.{runs_below_at}
use Rattle.theory_transformers.proofs.joint_points.Joins.{greater_is, greater_first, greater_second}
use Rattle.theory_transformers.proofs.joint_problems.JointMeaning.{point_supports, point_rises, joint_value, supports_point, supports_value}
use Rattle.theory_transformers.proofs.joint_problems.Rises.{listed_or_not, rise-rises_of, rise-greater, rise_mono, raise_mono}
use Rattle.theory_transformers.proofs.joint_problems.Rises.{raise_nothing, raise_to, raised_above, raised_unlisted, sums_same}
use Rattle.theory_transformers.proofs.joint_problems.JointLists.{rising_at, supported_at, all_supported, support_at}

-- ---- never empty
no_rise : (list : List Listed) (p r : ℕ) → rise_at list (λ k. zero_ℚ) p r ≡ zero_ℚ
unfolding rise_at
no_rise [] p r = refl
no_rise (u ∷ list) p r = by (is_at u p r) (no_rise list p r)
  where
    by : (t : Bool) → rise_at list (λ k. zero_ℚ) p r ≡ zero_ℚ → (if t then zero_ℚ else rise_at list (λ k. zero_ℚ) p r) ≡ zero_ℚ
    by true h = refl
    by false h = h

raised-nothing : (list : List Listed) (b : Vector) → raised list (λ k. zero_ℚ) b ≡ b
unfolding raised
raised-nothing list b = λ i p r. (ap (raise_by (b p r)) (no_rise list p r) ∙ raise_nothing (b p r)) i

-- the base has words that run and exceed it
low_words : (system : Equations) (b : Vector) (list : List Listed) → AllRising system b list
    → (ws : List Word) × AllSupport system b list ws
low_words system b [] h = ([], tt)
low_words system b (u ∷ rest) h =
    let e = transformer_exceeds system b (picked system u) (own_row system u) (fin h.0.bound) h.0.above in
    let r = low_words system b rest h.1 in (
      e.0 ∷ r.0,
      (
        record {
          runs = e.1;
          reaches = subst (λ s. s ≤ᴱ fin (end_value system (picked system u) (own_row system u) e.0))
              (sym h.0.finite) (ext_le_of_lt (fin h.0.bound) (fin (end_value system (picked system u) (own_row system u) e.0)) e.2);
        },
        r.1,
      ),
    )

-- under the list condition the joint problem is never empty
pub joint_never_empty : (system : Equations) (b : Vector) (list : List Listed) (y : ℕ → ℚ) → AllRising system b list
    → IsEmpty (joint_problem system b list) y → ⊥
joint_never_empty system b list y rising e =
    let r = low_words system b list rising in
    weak_empty (joint_problem system b list) y e (joint_point system list (λ k. zero_ℚ) r.0)
    (supports_point system b list (λ k. zero_ℚ) r.0 rising (λ k l. ≤ℚ_refl zero_ℚ)
    (subst (λ z. AllSupport system z list r.0) (sym (raised-nothing list b)) r.1))

-- ---- candidates
-- a candidate's words
candidate_words : (system : Equations) (b q : Vector) (list : List Listed) → AllSupported system b q list
    → (ws : List Word) × AllSupport system q list ws
candidate_words system b q [] h = ([], tt)
candidate_words system b q (u ∷ rest) h =
    let e = transformer_attains system q (picked system u) (own_row system u) h.0.bound h.0.supported in
    let r = candidate_words system b q rest h.1 in (
      e.0 ∷ r.0,
      (
        record {
          runs = e.1;
          reaches = subst (λ s. s ≤ᴱ fin (end_value system (picked system u) (own_row system u) e.0))
              (sym h.0.finite) e.2;
        },
        r.1,
      ),
    )

-- a candidate is the base plus its rises
candidate_is : (system : Equations) (b : Vector) (list : List Listed) (q : Vector) → AllRising system b list → Candidate system b list q
    → (p r : ℕ) → raised list (rises_of list b q) b p r ≡ q p r
unfolding raised
candidate_is system b list q rising c p r = by (rise-rises_of list b q p r) (listed_or_not list p r)
  where
    same : Unlisted list p r → raise_by (b p r) (rise_at list (rises_of list b q) p r) ≡ q p r
    same n = raised_unlisted list (rises_of list b q) b p r n ∙ sym (c.outside p r n)

    listed : (u : Listed) → In list u → raise_by (b u.point u.row) (num (q u.point u.row) -ℚ num (b u.point u.row)) ≡ q u.point u.row
    listed u m = let h = rising_at system b list u rising m in let s = supported_at system b q list u c.inside m in
        raise_to (b u.point u.row) (q u.point u.row) h.bound s.bound h.finite s.finite

    by : Unlisted list p r ⊎ (rise_at list (rises_of list b q) p r ≡ num (q p r) -ℚ num (b p r)) →
        ((u : Listed) × In list u × (u.point ≡ p) × (u.row ≡ r)) ⊎ Unlisted list p r
        → raise_by (b p r) (rise_at list (rises_of list b q) p r) ≡ q p r
    by (inl n) k = same n
    by (inr e) (inr n) = same n
    by (inr e) (inl h) = ap (raise_by (b p r)) e ∙ subst₂ (λ s t. raise_by (b s t) (num (q s t) -ℚ num (b s t)) ≡ q s t) h.2 h.3
        (listed h.0 h.1)

-- a word at a smaller vector supports a greater one that has its number
lifted : (system : Equations) (y m : Vector) (u : Listed) (w : Word) → ((p r : ℕ) → y p r ≤ᴱ m p r) → m u.point u.row ≡ y u.point u.row
    → Supports system y u w → Supports system m u w
lifted system y m u w below e s = record {
  runs = runs_below_at system y m (picked system u) w (λ r l. below (picked system u).from r) s.runs;
  reaches = subst (λ t. t ≤ᴱ fin (end_value system (picked system u) (own_row system u) w)) (sym e) s.reaches;
}

-- words of two vectors for one that is everywhere one of them
mixed_words : (system : Equations) (y q m : Vector) (list : List Listed) (ws vs : List Word) → ((p r : ℕ) → y p r ≤ᴱ m p r)
    → ((p r : ℕ) → q p r ≤ᴱ m p r) →
    ((p r : ℕ) → (m p r ≡ y p r) ⊎ (m p r ≡ q p r)) → AllSupport system y list ws → AllSupport system q list vs
    → (us : List Word) × AllSupport system m list us
mixed_words system y q m [] ws vs h i k s t = ([], tt)
mixed_words system y q m (u ∷ rest) [] vs h i k s t = absurd s
mixed_words system y q m (u ∷ rest) (w ∷ ws) [] h i k s t = absurd t
mixed_words system y q m (u ∷ rest) (w ∷ ws) (v ∷ vs) h i k s t =
    let r = mixed_words system y q m rest ws vs h i k s.1 t.1 in
    ⊎_elim (λ e. (w ∷ r.0, (lifted system y m u w h e s.0, r.1))) (λ e. (v ∷ r.0, (lifted system q m u v i e t.0, r.1))) (k u.point u.row)

-- no candidate exceeds the best point
pub joint_above : (system : Equations) (b : Vector) (list : List Listed) (x y : ℕ → ℚ) (v : ℚ) → AllRising system b list
    → IsBest (joint_problem system b list) x v y →
    (q : Vector) → Candidate system b list q → (p r : ℕ) → q p r ≤ᴱ raised list x b p r
unfolding raised
joint_above system b list x y v rising best q c p r =
    subst (λ s. s ≤ᴱ raised list x b p r) (candidate_is system b list q rising c p r)
    (raise_mono (b p r) (rise_at list rs p r) (rise_at list x p r) (rise_mono list rs x p r
    (λ k l. ≤ℚ_trans (greater_second (x k) (rs k)) (sums_same (length list) x gs (λ j o. greater_first (x j) (rs j)) sums k l))))
  where
    rs : ℕ → ℚ
    rs = rises_of list b q

    gs : ℕ → ℚ
    gs k = greater (x k) (rs k)

    first_below : (p r : ℕ) → raised list x b p r ≤ᴱ raised list gs b p r
    first_below p r = raise_mono (b p r) (rise_at list x p r) (rise_at list gs p r)
        (rise_mono list x gs p r (λ k l. greater_first (x k) (rs k)))

    second_below : (p r : ℕ) → q p r ≤ᴱ raised list gs b p r
    second_below p r = subst (λ s. s ≤ᴱ raised list gs b p r) (candidate_is system b list q rising c p r)
        (raise_mono (b p r) (rise_at list rs p r) (rise_at list gs p r) (rise_mono list rs gs p r (λ k l. greater_second (x k) (rs k))))

    one : (p r : ℕ) → (raised list gs b p r ≡ raised list x b p r) ⊎ (raised list gs b p r ≡ q p r)
    one p r = ⊎_elim
        (λ n. inl (raised_unlisted list gs b p r n ∙ sym (raised_unlisted list x b p r n)))
        (λ e. ⊎_elim
        (λ h. inr (ap (raise_by (b p r)) (e ∙ h.0) ∙ candidate_is system b list q rising c p r))
        (λ h. inl (ap (raise_by (b p r)) (e ∙ h.0)))
        (greater_is (rise_at list x p r) (rise_at list rs p r)))
        (rise-greater list x rs p r)

    words : (us : List Word) × AllSupport system (raised list gs b) list us
    words =
        let t = candidate_words system b q list c.inside in
        mixed_words system (raised list x b) q (raised list gs b) list (joint_words system list x) t.0 first_below second_below one
        (point_supports system b list x rising best.point) t.1

    sums : sum_to (length list) gs ≤ℚ sum_to (length list) x
    sums = subst₂ (λ s t. s ≤ℚ t) (supports_value system b list gs words.0) (sym best.value ∙ joint_value system b list x)
        (weak_best (joint_problem system b list) x y v best (joint_point system list gs words.0)
        (supports_point system b list gs words.0 rising (λ k l. ≤ℚ_trans (point_rises system b list x best.point k l)
        (greater_first (x k) (rs k))) words.1))

-- the vector of a point is a candidate
pub raised_candidate : (system : Equations) (b : Vector) (list : List Listed) (x : ℕ → ℚ) → AllRising system b list
    → IsPoint (joint_problem system b list) x → Candidate system b list (raised list x b)
unfolding raised raise_by
raised_candidate system b list x rising p = record {
  outside = λ p r n. raised_unlisted list x b p r n;
  inside = all_supported system b (raised list x b) list (λ u m. one u m (rising_at system b list u rising m));
}
  where
    one : (u : Listed) → In list u → Rising system b u → Supported system b (raised list x b) u
    one u m h =
        let q = raised list x b in
        let e : raise_by (b u.point u.row) (rise_at list x u.point u.row) ≡ fin (h.bound +ℚ rise_at list x u.point u.row) =
        ap (λ s. raise_by s (rise_at list x u.point u.row)) h.finite in
        let s = support_at system q list (joint_words system list x) u (point_supports system b list x rising p) m in
        record {
          bound = h.bound +ℚ rise_at list x u.point u.row;
          finite = e;
          above = subst (λ s. b u.point u.row ≤ᴱ s) e (raised_above list x b u.point u.row (point_rises system b list x p));
          supported = subst (λ s. s ≤ᴱ transformer system q (picked system u) (own_row system u)) e
              (≤ᴱ_trans (q u.point u.row) (fin (end_value system (picked system u) (own_row system u) s.0))
              (transformer system q (picked system u) (own_row system u)) s.1.reaches
              (transformer_upper system q (picked system u) (own_row system u) s.0 s.1.runs));
        }

-- the best point is the greatest supported vector
pub joint_greatest : (system : Equations) (b : Vector) (list : List Listed) (x y : ℕ → ℚ) (v : ℚ) → AllRising system b list
    → IsBest (joint_problem system b list) x v y →
    GreatestSupported system b list (raised list x b)
joint_greatest system b list x y v rising best = record {
  candidate = raised_candidate system b list x rising best.point;
  greatest =
      λ other c p r. joint_above system b list x y v rising best other c p r;
}
