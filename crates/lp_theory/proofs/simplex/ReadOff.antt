-- What the rows of a dictionary over a problem's names say: the first dictionary's equations, and a goal's row at the values that the first
-- dictionary offers.
use Rattle.std.proofs.Common.{◌≡◌, ℕ, suc, ◌+◌, ◌<◌, [], ◌∷◌, refl, ap, sym, ◌∙◌, arith}
use Rattle.base_numbers.proofs.vector.Sums.{sum_first, sum_parts, sum_nothing}
use Rattle.base_numbers.specs.Rational.{ℚ, zero_ℚ, one_ℚ, ◌+ℚ◌, ◌*ℚ◌, neg_ℚ, ◌-ℚ◌}
use Rattle.base_numbers.specs.Vector.{sum_to}
use Rattle.base_numbers.proofs.rational.Laws.{*ℚ-zero, zero-*ℚ}
use Rattle.base_numbers.proofs.tactics.Ring.{ring, reads}
use Rattle.base_numbers.proofs.tactics.Linarith.{eq, eq_times, lin_eq, reads_all}
use Rattle.base_numbers.proofs.vector.Vectors.{sum_to_same, sum_to-scale, sum_to-add}
use Rattle.lp_theory.specs.Problem.{Problem, left, value_at, mixed, mixed_side}
use Rattle.lp_theory.specs.Dictionary.{delta, Dict, row, Models}
use Rattle.lp_theory.specs.Simplex.{names, main_row, aux_row, slack_name, columns, Equations, slack_coef, main_coef, aux_coef, first_dict}
use Rattle.lp_theory.specs.Simplex.{multipliers}
use Rattle.lp_theory.proofs.Sums.{delta_other, sum_delta_right}
use Rattle.lp_theory.proofs.dictionary.Dictionaries.{along, along_free}
use Rattle.lp_theory.proofs.simplex.Roles.{role-column, role-slack, role-zero, first_form, first_free, first-const_slack, first-slack}
use Rattle.lp_theory.proofs.simplex.Roles.{first-main, first-aux, first-const_main, first-const_aux}

-- a row in its parts: the auxiliary variable, the columns, the slacks
row_split : (P : Problem) (D : Dict) (V : ℕ → ℚ) (i : ℕ) → row (names P) D V i ≡
    D.const i +ℚ (D.coef i 0 *ℚ V 0 +ℚ (sum_to P.cols (λ j. D.coef i (suc j) *ℚ V (suc j)) +ℚ sum_to P.rows
    (λ r. D.coef i (slack_name P r) *ℚ V (slack_name P r))))
unfolding row
row_split P D V i =
    ap (λ x. D.const i +ℚ x) (sum_first (P.rows + P.cols) (λ k. D.coef i k *ℚ V k)
    ∙ ap (λ x. D.coef i 0 *ℚ V 0 +ℚ x) (sum_parts P.cols P.rows (λ k. D.coef i (suc k) *ℚ V (suc k))))

sum-neg : (n : ℕ) (f g : ℕ → ℚ) → sum_to n (λ k. neg_ℚ (f k) *ℚ g k) ≡ neg_ℚ (sum_to n (λ k. f k *ℚ g k))
sum-neg n f g =
    sum_to_same n (λ k. neg_ℚ (f k) *ℚ g k) (λ k. neg_ℚ one_ℚ *ℚ (f k *ℚ g k)) (λ k l. ring (f k ∷ g k ∷ []) (search reads depth 40) refl)
    ∙ sum_to-scale n (neg_ℚ one_ℚ) (λ k. f k *ℚ g k) ∙ ring (sum_to n (λ k. f k *ℚ g k) ∷ []) (search reads depth 40) refl

-- the slacks' part of a row of the first dictionary
no_slacks : (P : Problem) (a V : ℕ → ℚ) → ((r : ℕ) → r < P.rows → a (slack_name P r) ≡ zero_ℚ)
    → sum_to P.rows (λ r. a (slack_name P r) *ℚ V (slack_name P r)) ≡ zero_ℚ
no_slacks P a V h = sum_nothing P.rows (λ r. a (slack_name P r) *ℚ V (slack_name P r))
    (λ r l. ap (λ x. x *ℚ V (slack_name P r)) (h r l) ∙ zero-*ℚ (V (slack_name P r)))

parts_eq : (a a' b b' v c c' s : ℚ) → a ≡ a' → b ≡ b' → c ≡ c' → s ≡ zero_ℚ → a +ℚ (b *ℚ v +ℚ (c +ℚ s)) ≡ a' +ℚ (b' *ℚ v +ℚ (c' +ℚ zero_ℚ))
parts_eq a a' b b' v c c' s p q u w = ap (λ x. x +ℚ (b *ℚ v +ℚ (c +ℚ s))) p ∙ ap (λ x. a' +ℚ (x *ℚ v +ℚ (c +ℚ s))) q
    ∙ ap (λ x. a' +ℚ (b' *ℚ v +ℚ (x +ℚ s))) u ∙ ap (λ x. a' +ℚ (b' *ℚ v +ℚ (c' +ℚ x))) w

-- the row of a slack
first_row_slack : (P : Problem) (V : ℕ → ℚ) (r : ℕ) → r < P.rows → row (names P) (first_dict P) V (slack_name P r)
    ≡ P.side r -ℚ left P r (columns V) +ℚ V 0
first_row_slack P V r l =
    let z : (first_dict P).coef (slack_name P r) 0 ≡ one_ℚ = first-slack P r 0 l ∙ ap (slack_coef P r) (role-zero P) in
    let c : sum_to P.cols (λ j. (first_dict P).coef (slack_name P r) (suc j) *ℚ V (suc j)) ≡ neg_ℚ (left P r (columns V)) =
    sum_to_same P.cols (λ j. (first_dict P).coef (slack_name P r) (suc j) *ℚ V (suc j)) (λ j. neg_ℚ (P.coef r j) *ℚ V (suc j))
    (λ j b. ap (λ x. x *ℚ V (suc j)) (first-slack P r (suc j) l ∙ ap (slack_coef P r) (role-column P j b)))
    ∙ sum-neg P.cols (P.coef r) (columns V) in
    let s = no_slacks P ((first_dict P).coef (slack_name P r)) V (λ q b. first-slack P r (slack_name P q) l
    ∙ ap (slack_coef P r) (role-slack P q b)) in
    row_split P (first_dict P) V (slack_name P r)
    ∙ parts_eq ((first_dict P).const (slack_name P r)) (P.side r) ((first_dict P).coef (slack_name P r) 0) one_ℚ (V 0)
    (sum_to P.cols (λ j. (first_dict P).coef (slack_name P r) (suc j) *ℚ V (suc j))) (neg_ℚ (left P r (columns V)))
    (sum_to P.rows (λ q. (first_dict P).coef (slack_name P r) (slack_name P q) *ℚ V (slack_name P q))) (first-const_slack P r l) z c s
    ∙ ring (P.side r ∷ V 0 ∷ left P r (columns V) ∷ []) (search reads depth 40) refl

-- the row of the problem's goal
first_row_main : (P : Problem) (V : ℕ → ℚ) → row (names P) (first_dict P) V (main_row P) ≡ value_at P (columns V)
first_row_main P V =
    let a = first-const_main P in
    let z : (first_dict P).coef (main_row P) 0 ≡ zero_ℚ = first-main P 0 ∙ ap (main_coef P) (role-zero P) in
    let c : sum_to P.cols (λ j. (first_dict P).coef (main_row P) (suc j) *ℚ V (suc j)) ≡ value_at P (columns V) =
    sum_to_same P.cols (λ j. (first_dict P).coef (main_row P) (suc j) *ℚ V (suc j)) (λ j. P.goal j *ℚ V (suc j))
    (λ j b. ap (λ x. x *ℚ V (suc j)) (first-main P (suc j) ∙ ap (main_coef P) (role-column P j b))) in
    let s = no_slacks P ((first_dict P).coef (main_row P)) V (λ q b. first-main P (slack_name P q) ∙ ap (main_coef P) (role-slack P q b)) in
    row_split P (first_dict P) V (main_row P)
    ∙ lin_eq ((first_dict P).const (main_row P) ∷ (first_dict P).coef (main_row P) 0 ∷ V 0
    ∷ sum_to P.cols (λ j. (first_dict P).coef (main_row P) (suc j) *ℚ V (suc j))
    ∷ sum_to P.rows (λ q. (first_dict P).coef (main_row P) (slack_name P q) *ℚ V (slack_name P q)) ∷ value_at P (columns V) ∷ [])
    (eq a ∷ eq_times (V 0) z ∷ eq c ∷ eq s ∷ []) (search reads_all depth 40 fits 9000) tt

-- the row of the first goal
first_row_aux : (P : Problem) (V : ℕ → ℚ) → row (names P) (first_dict P) V (aux_row P) ≡ neg_ℚ (V 0)
first_row_aux P V =
    let a = first-const_aux P in
    let z : (first_dict P).coef (aux_row P) 0 ≡ neg_ℚ one_ℚ = first-aux P 0 ∙ ap aux_coef (role-zero P) in
    let c : sum_to P.cols (λ j. (first_dict P).coef (aux_row P) (suc j) *ℚ V (suc j)) ≡ zero_ℚ =
    sum_nothing P.cols (λ j. (first_dict P).coef (aux_row P) (suc j) *ℚ V (suc j))
    (λ j b. ap (λ x. x *ℚ V (suc j)) (first-aux P (suc j) ∙ ap aux_coef (role-column P j b)) ∙ zero-*ℚ (V (suc j))) in
    let s = no_slacks P ((first_dict P).coef (aux_row P)) V (λ q b. first-aux P (slack_name P q) ∙ ap aux_coef (role-slack P q b)) in
    row_split P (first_dict P) V (aux_row P)
    ∙ lin_eq ((first_dict P).const (aux_row P) ∷ (first_dict P).coef (aux_row P) 0 ∷ V 0
    ∷ sum_to P.cols (λ j. (first_dict P).coef (aux_row P) (suc j) *ℚ V (suc j))
    ∷ sum_to P.rows (λ q. (first_dict P).coef (aux_row P) (slack_name P q) *ℚ V (slack_name P q)) ∷ [])
    (eq a ∷ eq_times (V 0) z ∷ eq c ∷ eq s ∷ []) (search reads_all depth 40 fits 9000) tt

-- what the first dictionary says
pub first_means : (P : Problem) (V : ℕ → ℚ) → Models (names P) (first_dict P) V → Equations P V
first_means P V m = record {
  slacks = λ r l. m.says (slack_name P r) ∙ first_row_slack P V r l;
  main = m.says (main_row P) ∙ first_row_main P V;
  aux = m.says (aux_row P) ∙ first_row_aux P V;
}

-- with the multipliers of a goal's row
sum-multipliers : (P : Problem) (E : Dict) (g : ℕ) (f : ℕ → ℚ) → sum_to P.rows (λ r. E.coef g (slack_name P r) *ℚ f r)
    ≡ neg_ℚ (sum_to P.rows (λ r. multipliers P E g r *ℚ f r))
sum-multipliers P E g f =
    ring (sum_to P.rows (λ r. E.coef g (slack_name P r) *ℚ f r) ∷ []) (search reads depth 40) refl
    ∙ ap neg_ℚ (sym (sum-neg P.rows (λ r. E.coef g (slack_name P r)) f))

-- a goal's row at the first basic solution
pub read_const : (P : Problem) (E : Dict) (g : ℕ) → Models (names P) E (first_dict P).const
    → (first_dict P).const g ≡ E.const g -ℚ mixed_side P (multipliers P E g)
read_const P E g m =
    let F = first_dict P in
    let d = first_form P in
    let z : (first_dict P).const 0 ≡ zero_ℚ = d.still 0 (first_free P 0 (omega arith)) in
    let c : sum_to P.cols (λ j. E.coef g (suc j) *ℚ (first_dict P).const (suc j)) ≡ zero_ℚ =
    sum_nothing P.cols (λ j. E.coef g (suc j) *ℚ (first_dict P).const (suc j))
    (λ j l. ap (λ x. E.coef g (suc j) *ℚ x) (d.still (suc j) (first_free P (suc j) l)) ∙ *ℚ-zero (E.coef g (suc j))) in
    let s : sum_to P.rows (λ r. E.coef g (slack_name P r) *ℚ (first_dict P).const (slack_name P r))
    ≡ neg_ℚ (mixed_side P (multipliers P E g)) =
    sum_to_same P.rows (λ r. E.coef g (slack_name P r) *ℚ (first_dict P).const (slack_name P r))
    (λ r. E.coef g (slack_name P r) *ℚ P.side r) (λ r l. ap (λ x. E.coef g (slack_name P r) *ℚ x) (first-const_slack P r l))
    ∙ sum-multipliers P E g P.side in
    m.says g ∙ row_split P E (first_dict P).const g
    ∙ lin_eq (E.const g ∷ E.coef g 0 ∷ (first_dict P).const 0 ∷ sum_to P.cols (λ j. E.coef g (suc j) *ℚ (first_dict P).const (suc j))
    ∷ sum_to P.rows (λ r. E.coef g (slack_name P r) *ℚ (first_dict P).const (slack_name P r)) ∷ mixed_side P (multipliers P E g) ∷ [])
    (eq_times (E.coef g 0) z ∷ eq c ∷ eq s ∷ []) (search reads_all depth 40 fits 9000) tt

delta-suc : (j k : ℕ) → delta (suc j) (suc k) ≡ delta j k
unfolding delta
delta-suc j k = refl

-- a goal's row with one column at 1
pub read_column : (P : Problem) (E : Dict) (g j : ℕ) → j < P.cols → Models (names P) E (along (first_dict P) (suc j)) →
    along (first_dict P) (suc j) g ≡ E.const g +ℚ E.coef g (suc j) -ℚ mixed_side P (multipliers P E g) +ℚ mixed P (multipliers P E g) j
read_column P E g j b m =
    let d = first_form P in
    let V = along (first_dict P) (suc j) in
    let z : along (first_dict P) (suc j) 0 ≡ zero_ℚ = along_free (names P) (first_dict P) d (suc j) 0 (first_free P 0 (omega arith))
    ∙ delta_other (suc j) 0 (λ e. omega (arith, e)) in
    let c : sum_to P.cols (λ k. E.coef g (suc k) *ℚ along (first_dict P) (suc j) (suc k)) ≡ E.coef g (suc j) =
    sum_to_same P.cols (λ k. E.coef g (suc k) *ℚ along (first_dict P) (suc j) (suc k)) (λ k. E.coef g (suc k) *ℚ delta j k)
    (λ k l. ap (λ x. E.coef g (suc k) *ℚ x) (along_free (names P) (first_dict P) d (suc j) (suc k) (first_free P (suc k) l)
    ∙ delta-suc j k)) ∙ sum_delta_right P.cols j (λ k. E.coef g (suc k)) b in
    let s : sum_to P.rows (λ r. E.coef g (slack_name P r) *ℚ along (first_dict P) (suc j) (slack_name P r))
    ≡ neg_ℚ (mixed_side P (multipliers P E g)) +ℚ mixed P (multipliers P E g) j =
    sum_to_same P.rows (λ r. E.coef g (slack_name P r) *ℚ along (first_dict P) (suc j) (slack_name P r))
    (λ r. E.coef g (slack_name P r) *ℚ P.side r +ℚ multipliers P E g r *ℚ P.coef r j)
    (λ r l. ap (λ x. E.coef g (slack_name P r) *ℚ (x +ℚ (first_dict P).coef (slack_name P r) (suc j))) (first-const_slack P r l)
    ∙ ap (λ x. E.coef g (slack_name P r) *ℚ (P.side r +ℚ x)) (first-slack P r (suc j) l ∙ ap (slack_coef P r) (role-column P j b))
    ∙ ring (E.coef g (slack_name P r) ∷ P.side r ∷ P.coef r j ∷ []) (search reads depth 40) refl)
    ∙ sum_to-add P.rows (λ r. E.coef g (slack_name P r) *ℚ P.side r) (λ r. multipliers P E g r *ℚ P.coef r j)
    ∙ ap (λ x. x +ℚ mixed P (multipliers P E g) j) (sum-multipliers P E g P.side) in
    m.says g ∙ row_split P E (along (first_dict P) (suc j)) g
    ∙ lin_eq (E.const g ∷ E.coef g 0 ∷ along (first_dict P) (suc j) 0 ∷ E.coef g (suc j)
    ∷ sum_to P.cols (λ k. E.coef g (suc k) *ℚ along (first_dict P) (suc j) (suc k))
    ∷ sum_to P.rows (λ r. E.coef g (slack_name P r) *ℚ along (first_dict P) (suc j) (slack_name P r)) ∷ mixed_side P (multipliers P E g)
    ∷ mixed P (multipliers P E g) j ∷ [])
    (eq_times (E.coef g 0) z ∷ eq c ∷ eq s ∷ []) (search reads_all depth 40 fits 9000) tt
