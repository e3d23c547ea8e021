-- At a joint problem's best point each listed unknown's transformer is its number, and above the base.
use Rattle.std.proofs.Common.{◌≡◌, ◌∙◌, ⊎_elim, ℕ, Bool, true, false, List, refl, sym, ap, subst, if◌then◌else◌}
use Rattle.base_facts.specs.Elements.{In}
use Rattle.base_numbers.specs.Rational.{ℚ}
use Rattle.base_numbers.specs.Extended.{Ext, fin, ◌≤ᴱ◌, ◌<ᴱ◌}
use Rattle.base_numbers.proofs.extended.ExtendedLaws.{≤ᴱ_refl, ≤ᴱ_trans, ≤ᴱ_antisymm, ext_le_of_lt, ext_le_or_lt, ext_lt_of_lt_of_le}
use Rattle.flow_systems.specs.Equations.{Equations, Vector}
use Rattle.theory_validity.specs.Words.{Word}
use Rattle.theory_validity.specs.Steps.{Runs, end_value}
use Rattle.lp_theory.specs.Problem.{IsBest}
use Rattle.theory_transformers.specs.EdgeProblems.{transformer}
use Rattle.theory_transformers.specs.JointProblems.{Listed, picked, own_row, is_at, raised, joint_problem, joint_words, AllRising}
use Rattle.theory_transformers.specs.JointPoints.{Unlisted, Distinct}
use Rattle.theory_transformers.specs.Candidates.{Supported, Candidate}
use Rattle.theory_transformers.proofs.edge_problems.TransformerOf.{transformer_upper, transformer_lub, transformer_rises, runs_below_at}
use Rattle.theory_transformers.proofs.joint_problems.JointMeaning.{point_supports, point_rises}
use Rattle.theory_transformers.proofs.joint_problems.Rises.{is_at_means, is_at_itself, raised_above}
use Rattle.theory_transformers.proofs.joint_problems.JointLists.{rising_at, supported_at, all_supported, support_at, unlisted_other}
use Rattle.theory_transformers.proofs.joint_problems.JointLists.{distinct_same}
use Rattle.theory_transformers.proofs.joint_problems.JointBest.{joint_above, raised_candidate}

-- a vector with one unknown at a number
abbrev with_at : Listed → Ext → Vector → Vector
with_at u e z p r = if is_at u p r then e else z p r

with_at_same : (u : Listed) (e : Ext) (z : Vector) → with_at u e z u.point u.row ≡ e
with_at_same u e z = ap (λ t. if t then e else z u.point u.row) (is_at_itself u)

with_at_above : (u : Listed) (e : Ext) (z : Vector) → z u.point u.row ≤ᴱ e → (p r : ℕ) → z p r ≤ᴱ with_at u e z p r
with_at_above u e z h p r = by (is_at u p r) refl
  where
    by : (t : Bool) → is_at u p r ≡ t → z p r ≤ᴱ (if t then e else z p r)
    by true k = let n = is_at_means u p r k in subst (λ s. z p s ≤ᴱ e) n.1 (subst (λ s. z s u.row ≤ᴱ e) n.0 h)
    by false k = ≤ᴱ_refl (z p r)

-- no word of a listed unknown's picked edge exceeds its number
tight_upper : (system : Equations) (b : Vector) (list : List Listed) (x y : ℕ → ℚ) (v : ℚ) → AllRising system b list → Distinct list
    → IsBest (joint_problem system b list) x v y →
    (u : Listed) → In list u → (w : Word) → Runs system (raised list x b) (picked system u) w
    → fin (end_value system (picked system u) (own_row system u) w) ≤ᴱ raised list x b u.point u.row
tight_upper system b list x y v rising distinct best u m w runs =
    ⊎_elim (λ h. h)
    (λ l.
    let l' = ext_le_of_lt (raised list x b u.point u.row) (fin (end_value system (picked system u) (own_row system u) w)) l in
    subst (λ s. s ≤ᴱ raised list x b u.point u.row) (with_at_same u (fin (end_value system (picked system u) (own_row system u) w))
    (raised list x b))
    (joint_above system b list x y v rising best (with_at u (fin (end_value system (picked system u) (own_row system u) w))
    (raised list x b))
    (record {
      outside = outside;
      inside = all_supported system b (with_at u (fin (end_value system (picked system u) (own_row system u) w))
          (raised list x b)) list (λ t k. inside l' t k (is_at u t.point t.row) refl);
    })
    u.point u.row))
    (ext_le_or_lt (fin (end_value system (picked system u) (own_row system u) w)) (raised list x b u.point u.row))
  where
    z : Vector
    z = raised list x b

    c : ℚ
    c = end_value system (picked system u) (own_row system u) w

    q : Vector
    q = with_at u (fin c) z

    candidate : Candidate system b list z
    candidate = raised_candidate system b list x rising best.point

    outside : (p r : ℕ) → Unlisted list p r → q p r ≡ b p r
    outside p r n = ap (λ t. if t then fin c else z p r) (unlisted_other list p r u n m) ∙ candidate.outside p r n

    inside : z u.point u.row ≤ᴱ fin c → (t : Listed) → In list t → (k : Bool) → is_at u t.point t.row ≡ k → Supported system b q t
    inside l t n true e = subst (λ s. Supported system b q s) (distinct_same list u t distinct m n e) (record {
      bound = c;
      finite = with_at_same u (fin c) z;
      above = ≤ᴱ_trans (b u.point u.row) (z u.point u.row) (fin c) (raised_above list x b u.point u.row
          (point_rises system b list x best.point)) l;
      supported = transformer_upper system q (picked system u) (own_row system u) w
          (runs_below_at system z q (picked system u) w (λ r i. with_at_above u (fin c) z l (picked system u).from r) runs);
    })
    inside l t n false e =
        let s = supported_at system b z list t candidate.inside n in
        record {
          bound = s.bound;
          finite = ap (λ k. if k then fin c else z t.point t.row) e ∙ s.finite;
          above = s.above;
          supported = ≤ᴱ_trans (fin s.bound) (transformer system z (picked system t) (own_row system t))
              (transformer system q (picked system t) (own_row system t)) s.supported
              (transformer_rises system z q (picked system t) (own_row system t)
              (λ r i. with_at_above u (fin c) z l (picked system t).from r));
        }

-- the transformer of a listed unknown's picked edge is its number at the best point
pub joint_tight : (system : Equations) (b : Vector) (list : List Listed) (x y : ℕ → ℚ) (v : ℚ) → AllRising system b list → Distinct list
    → IsBest (joint_problem system b list) x v y →
    (u : Listed) → In list u → transformer system (raised list x b) (picked system u) (own_row system u) ≡ raised list x b u.point u.row
joint_tight system b list x y v rising distinct best u m =
    let z = raised list x b in
    let e = picked system u in
    let s = support_at system z list (joint_words system list x) u (point_supports system b list x rising best.point) m in
    ≤ᴱ_antisymm (transformer system z e (own_row system u)) (z u.point u.row)
    ((transformer_lub system z e (own_row system u) (z u.point u.row)).1 (tight_upper system b list x y v rising distinct best u m))
    (≤ᴱ_trans (z u.point u.row) (fin (end_value system e (own_row system u) s.0)) (transformer system z e (own_row system u)) s.1.reaches
    (transformer_upper system z e (own_row system u) s.0 s.1.runs))

-- and is above the base
pub joint_rises : (system : Equations) (b : Vector) (list : List Listed) (x y : ℕ → ℚ) (v : ℚ) → AllRising system b list → Distinct list
    → IsBest (joint_problem system b list) x v y →
    (u : Listed) → In list u → b u.point u.row <ᴱ raised list x b u.point u.row
joint_rises system b list x y v rising distinct best u m =
    let z = raised list x b in
    let e = picked system u in
    let h = rising_at system b list u rising m in
    subst (λ s. s <ᴱ z u.point u.row) (sym h.finite)
    (ext_lt_of_lt_of_le (fin h.bound) (transformer system b e (own_row system u)) (z u.point u.row) h.above
    (subst (λ s. transformer system b e (own_row system u) ≤ᴱ s) (joint_tight system b list x y v rising distinct best u m)
    (transformer_rises system b z e (own_row system u) (λ r i. raised_above list x b e.from r (point_rises system b list x best.point)))))
