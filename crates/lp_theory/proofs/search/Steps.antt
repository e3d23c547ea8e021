-- One step of Bland's rule: what the choice says, and that a step keeps the form, the meaning and feasibility, and does not lower the goal.
use Rattle.std.proofs.Common.{◌≡◌, ℕ, ◌<◌, ◌≤◌, ⊎_elim, true, false, [], ◌∷◌, ap, sym, ◌∙◌, subst, arith, true≢false}
use Rattle.std.proofs.lemmas.Bool.{cases_lt, cases_eq, cases_Bool}
use Rattle.base_numbers.specs.Rational.{zero_ℚ, ◌+ℚ◌, ◌*ℚ◌, neg_ℚ, ◌-ℚ◌, lt_ℚ, ◌≤ℚ◌, ◌<ℚ◌}
use Rattle.base_numbers.proofs.rational.Laws.{≤ℚ_antisymm, le_or_lt, <ℚ_irrefl, ne_of_lt_ℚ, not_le_of_lt, le_of_lt_ℚ, inv_pos, zero_lt_one}
use Rattle.base_numbers.proofs.rational.Laws.{div_ℚ_is, *ℚ_pos}
use Rattle.base_numbers.proofs.rational.Quotients.{quotient_times}
use Rattle.base_numbers.proofs.tactics.Linear.{gap, ◌⊗◌}
use Rattle.base_numbers.proofs.tactics.Linarith.{lin_le, lin_lt, lin_false, lt, eq, eq_times, lin_eq, ge0, gt0, reads_all}
use Rattle.lp_theory.specs.Dictionary.{delta, Dict, IsDict, IsFeasible, share, pivot}
use Rattle.lp_theory.specs.Search.{Search, none, found}
use Rattle.lp_theory.specs.Bland.{ratio_of, Enters, Leaves, entering, leaving, choice_at, choice_of, choose, ChoiceIs}
use Rattle.lp_theory.proofs.Sums.{delta_same, delta_other}
use Rattle.lp_theory.proofs.Pivots.{pivot-const, share_times, pivot_form}
use Rattle.lp_theory.proofs.search.Searches.{lt_yes, lt_no, lt_does, FirstIs, first_is, LeastIs, least_is}

leaving_is : (g n : ℕ) (D : Dict) (c : ℕ) → Enters g n D c → (s : Search) → LeastIs (λ i. lt_ℚ (D.coef i c) zero_ℚ) (ratio_of D c) n s
    → ChoiceIs g n D (choice_at c s)
leaving_is g n D c e none h = (e, λ i l. lt_no (D.coef i c) zero_ℚ (h i l))
leaving_is g n D c e (found r) h = (
  e,
  record {
    name = h.below;
    falls = lt_yes (D.coef r c) zero_ℚ h.wanted;
    least = λ i l f. h.least i l (lt_does f);
    before = λ i l f. h.before i l (lt_does f);
  },
)

entering_is : (g n : ℕ) (D : Dict) (s : Search) → FirstIs (λ k. lt_ℚ zero_ℚ (D.coef g k)) n s → ChoiceIs g n D (choice_of n D s)
unfolding leaving
entering_is g n D none h = λ k l. lt_no zero_ℚ (D.coef g k) (h k l)
entering_is g n D (found c) h =
    leaving_is g n D c
    (record { name = h.0; gains = lt_yes zero_ℚ (D.coef g c) h.1; smallest = λ k l p. smallest k p })
    (leaving n D c) (least_is (λ i. lt_ℚ (D.coef i c) zero_ℚ) (ratio_of D c) n)
  where
    smallest : (k : ℕ) → zero_ℚ <ℚ D.coef g k → c ≤ k
    smallest k p = ⊎_elim (λ l. absurd (true≢false (sym (lt_does p) ∙ h.2 k l))) (λ l. l) (cases_lt k c)

-- the choice of the rule is as the rule says
pub choose_is : (g n : ℕ) (D : Dict) → ChoiceIs g n D (choose g n D)
unfolding choose entering
choose_is g n D = entering_is g n D (entering g n D) (first_is (λ k. lt_ℚ zero_ℚ (D.coef g k)) n)

-- the entering name and the leaving name are determined
pub enters_only : (g n : ℕ) (D : Dict) (c d : ℕ) → Enters g n D c → Enters g n D d → c ≡ d
enters_only g n D c d e f = let a = e.smallest d f.name f.gains in let b = f.smallest c e.name e.gains in omega (arith, a, b)

-- the leaving name is determined
pub leaves_only : (n : ℕ) (D : Dict) (c r s : ℕ) → Leaves n D c r → Leaves n D c s → r ≡ s
leaves_only n D c r s h k = ⊎_elim
    (λ l. absurd (not_le_of_lt (k.before r l h.falls) (h.least s k.name k.falls)))
    (λ l. ⊎_elim (λ m. absurd (not_le_of_lt (h.before s m k.falls) (k.least r h.name h.falls))) (λ m. omega (arith, l, m)) (cases_lt s r))
    (cases_lt r s)

-- the entering name is free, and the leaving name is basic
pub enters_free : (g n : ℕ) (D : Dict) → IsDict n D → (c : ℕ) → zero_ℚ <ℚ D.coef g c → D.basic c ≡ false
enters_free g n D d c p = ⊎_elim (λ b. absurd (<ℚ_irrefl (subst (λ x. zero_ℚ <ℚ x) (d.column g c b) p))) (λ f. f) (cases_Bool (D.basic c))

-- the leaving name is basic
pub leaves_basic : (n : ℕ) (D : Dict) → IsDict n D → (c r : ℕ) → D.coef r c <ℚ zero_ℚ → D.basic r ≡ true
leaves_basic n D d c r p = ⊎_elim (λ b. b) (λ f. absurd (delta_not r c (subst (λ x. x <ℚ zero_ℚ) (d.unit r c f) p)))
    (cases_Bool (D.basic r))
  where
    delta_not : (i k : ℕ) → delta i k <ℚ zero_ℚ → ⊥
    delta_not i k h = ⊎_elim
        (λ e. not_le_of_lt (subst (λ x. x <ℚ zero_ℚ) (ap (λ x. delta i x) (sym e) ∙ delta_same i) h) (le_of_lt_ℚ zero_lt_one))
        (λ e. <ℚ_irrefl (subst (λ x. x <ℚ zero_ℚ) (delta_other i k e) h))
        (cases_eq i k)

-- the ratio times the negated entry is the constant
pub ratio_times : (D : Dict) (c i : ℕ) → D.coef i c <ℚ zero_ℚ → ratio_of D c i *ℚ neg_ℚ (D.coef i c) ≡ D.const i
unfolding ratio_of
ratio_times D c i h = quotient_times (D.const i) (neg_ℚ (D.coef i c)) (λ e. let a = h in
    lin_false (D.coef i c ∷ []) (lt a ∷ eq e ∷ []) (search reads_all depth 40) tt)

-- how far the entering name rises
pub ratio_nonneg : (n : ℕ) (D : Dict) → IsFeasible n D → (c i : ℕ) → i < n → D.coef i c <ℚ zero_ℚ → zero_ℚ ≤ℚ ratio_of D c i
unfolding ratio_of
ratio_nonneg n D f c i l h =
    let a = f.nonneg i l in
    let p : zero_ℚ <ℚ neg_ℚ (D.coef i c) = let b = h in lin_lt (D.coef i c ∷ []) (lt b ∷ []) (search reads_all depth 40) tt in
    subst (λ x. zero_ℚ ≤ℚ x) (sym (div_ℚ_is (D.const i) (neg_ℚ (D.coef i c)))) (a ⊗ le_of_lt_ℚ (inv_pos p))

-- each constant after a pivot: it moves by its coefficient times the rise
pub const_moves : (D : Dict) (c r i : ℕ) → D.coef r c <ℚ zero_ℚ → (pivot D r c).const i ≡ D.const i +ℚ D.coef i c *ℚ ratio_of D c r
const_moves D c r i h =
    let s = share_times D r c i (λ e. ne_of_lt_ℚ h e) in
    let t = ratio_times D c r h in
    pivot-const D r c i ∙ lin_eq (D.const i ∷ D.const r ∷ D.coef i c ∷ D.coef r c ∷ share D r c i ∷ ratio_of D c r ∷ [])
    (eq_times (ratio_of D c r) s ∷ eq_times (share D r c i) t ∷ []) (search reads_all depth 40 fits 9000) tt

-- a pivot of the rule keeps the form
pub step_form : (g n : ℕ) (D : Dict) → IsDict n D → (c r : ℕ) → Enters g n D c → Leaves n D c r → IsDict n (pivot D r c)
step_form g n D d c r e l = pivot_form n D d r c l.name e.name (leaves_basic n D d c r l.falls) (enters_free g n D d c e.gains)
    (λ z. ne_of_lt_ℚ l.falls z)

-- a pivot of the rule keeps feasibility
pub step_feasible : (n : ℕ) (D : Dict) → IsFeasible n D → (c r : ℕ) → Leaves n D c r → IsFeasible n (pivot D r c)
step_feasible n D f c r l = record {
  nonneg = λ i m.
      let θ = ratio_nonneg n D f c r l.name l.falls in
      let a = f.nonneg i m in
      subst (λ x. zero_ℚ ≤ℚ x) (sym (const_moves D c r i l.falls))
      (⊎_elim
      (λ h. lin_le (D.const i ∷ D.coef i c ∷ ratio_of D c r ∷ []) (ge0 a ∷ ge0 (h ⊗ θ) ∷ []) (search reads_all depth 40) tt)
      (λ h.
      let t = ratio_times D c i h in
      let b = l.least i m h in
      let w : zero_ℚ ≤ℚ zero_ℚ -ℚ D.coef i c = gap (le_of_lt_ℚ h) in
      lin_le (D.const i ∷ D.coef i c ∷ ratio_of D c r ∷ ratio_of D c i ∷ []) (eq t ∷ ge0 (gap b ⊗ w) ∷ [])
      (search reads_all depth 40 fits 9000) tt)
      (le_or_lt zero_ℚ (D.coef i c)));
}

-- a pivot of the rule does not lower the goal's constant
pub step_goal : (g n : ℕ) (D : Dict) → IsFeasible n D → (c r : ℕ) → Enters g n D c → Leaves n D c r → D.const g ≤ℚ (pivot D r c).const g
step_goal g n D f c r e l =
    let θ = ratio_nonneg n D f c r l.name l.falls in
    subst (λ x. D.const g ≤ℚ x) (sym (const_moves D c r g l.falls)) (lin_le (D.const g ∷ D.coef g c ∷ ratio_of D c r ∷ [])
    (ge0 (le_of_lt_ℚ e.gains ⊗ θ) ∷ []) (search reads_all depth 40) tt)

-- where it stays the same, nothing moves
pub step_same : (g n : ℕ) (D : Dict) → IsFeasible n D → (c r : ℕ) → Enters g n D c → Leaves n D c r → (pivot D r c).const g ≡ D.const g
    → ratio_of D c r ≡ zero_ℚ
step_same g n D f c r e l s =
    let θ = ratio_nonneg n D f c r l.name l.falls in
    ⊎_elim
    (λ h. ≤ℚ_antisymm h θ)
    (λ h.
    let p : zero_ℚ <ℚ D.coef g c *ℚ ratio_of D c r = *ℚ_pos e.gains h in
    let m = const_moves D c r g l.falls in
    absurd (lin_false (D.const g ∷ (pivot D r c).const g ∷ D.coef g c ∷ ratio_of D c r ∷ []) (gt0 p ∷ eq m ∷ eq s ∷ [])
    (search reads_all depth 40) tt))
    (le_or_lt (ratio_of D c r) zero_ℚ)
