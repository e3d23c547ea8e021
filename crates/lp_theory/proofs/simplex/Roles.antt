-- The first dictionary: which name stands for what, and the form and the meaning.
use Rattle.std.proofs.Common.{◌≡◌, ⊎_elim, ℕ, zero, suc, ◌+◌, ◌-◌, ◌<◌, ◌≤◌, Bool, true, false, cond, ltb, eqb, refl, ap, sym, ◌∙◌, arith}
use Rattle.std.proofs.Common.{true≢false, lt-ltb, le-ltb, eq-eqb, ne_eqb}
use Rattle.std.proofs.lemmas.Bool.{cases_lt}
use Rattle.base_numbers.specs.Rational.{ℚ, zero_ℚ}
use Rattle.lp_theory.specs.Problem.{Problem}
use Rattle.lp_theory.specs.Dictionary.{delta, IsDict}
use Rattle.lp_theory.specs.Simplex.{names, main_row, aux_row, slack_name, Role, auxiliary, column, slack, main_goal, aux_goal, nothing}
use Rattle.lp_theory.specs.Simplex.{role, role_rest, role_goal, is_basic, slack_coef, main_coef, aux_coef, first_coef, first_const}
use Rattle.lp_theory.specs.Simplex.{first_dict}
use Rattle.lp_theory.proofs.Sums.{delta_other}

-- the name of a column
pub role-column : (P : Problem) (j : ℕ) → j < P.cols → role P (suc j) ≡ column j
unfolding role
role-column P j l = ap (λ b. cond b (column j) (role_rest P.rows (j - P.cols))) (lt-ltb j P.cols l)

-- a name after the columns
role_behind : (P : Problem) (m : ℕ) → role P (suc (m + P.cols)) ≡ role_rest P.rows m
unfolding role
role_behind P m =
    let h : P.cols ≤ m + P.cols = omega arith in
    let e : m + P.cols - P.cols ≡ m = omega arith in
    ap (λ b. cond b (column (m + P.cols)) (role_rest P.rows (m + P.cols - P.cols))) (le-ltb (m + P.cols) P.cols h) ∙ ap (role_rest P.rows) e

-- the name of a slack
pub role-slack : (P : Problem) (r : ℕ) → r < P.rows → role P (slack_name P r) ≡ slack r
role-slack P r l = role_behind P r ∙ ap (λ b. cond b (slack r) (role_goal P.rows r)) (lt-ltb r P.rows l)

-- the row of the problem's goal
role-main : (P : Problem) → role P (main_row P) ≡ main_goal
role-main P =
    role_behind P P.rows ∙ ap (λ b. cond b (slack P.rows) (role_goal P.rows P.rows)) (le-ltb P.rows P.rows (omega arith))
    ∙ ap (λ b. cond b main_goal (cond (eqb P.rows (suc P.rows)) aux_goal nothing)) (eq-eqb P.rows P.rows refl)

-- the row of the negated auxiliary variable
role-aux : (P : Problem) → role P (aux_row P) ≡ aux_goal
role-aux P =
    let e : suc (suc (P.rows + P.cols)) ≡ suc (suc P.rows + P.cols) = omega arith in
    ap (role P) e ∙ role_behind P (suc P.rows) ∙ ap (λ b. cond b (slack (suc P.rows)) (role_goal P.rows (suc P.rows)))
    (le-ltb (suc P.rows) P.rows (omega arith))
    ∙ ap (λ b. cond b main_goal (cond (eqb (suc P.rows) (suc P.rows)) aux_goal nothing))
    (ne_eqb (suc P.rows) P.rows (λ x. omega (arith, x)))
    ∙ ap (λ b. cond b aux_goal nothing) (eq-eqb (suc P.rows) (suc P.rows) refl)

-- the name of the auxiliary variable
pub role-zero : (P : Problem) → role P 0 ≡ auxiliary
unfolding role
role-zero P = refl

-- a name below the bound is the auxiliary variable, a column or a slack
pub data NameCase (P : Problem) (i : ℕ) : Type 0 where
  is_zero : i ≡ 0 → NameCase P i
  is_column : (j : ℕ) → j < P.cols → i ≡ suc j → NameCase P i
  is_slack : (r : ℕ) → r < P.rows → i ≡ slack_name P r → NameCase P i

-- each name below the bound is one of these
pub name_cases : (P : Problem) (i : ℕ) → i < names P → NameCase P i
name_cases P zero l = is_zero refl
name_cases P (suc k) l = ⊎_elim
    (λ h. is_column k h refl)
    (λ h. is_slack (k - P.cols) (omega (arith, l, h)) (omega (arith, h)))
    (cases_lt k P.cols)

-- the names after the goals stand for nothing
role-behind : (P : Problem) (i : ℕ) → aux_row P < i → role P i ≡ nothing
role-behind P zero l = absurd (omega (arith, l))
role-behind P (suc k) l =
    let e : suc k ≡ suc ((k - P.cols) + P.cols) = omega (arith, l) in
    let h : suc P.rows < k - P.cols = omega (arith, l, e) in
    ap (role P) e ∙ role_behind P (k - P.cols) ∙ ap (λ b. cond b (slack (k - P.cols)) (role_goal P.rows (k - P.cols)))
    (le-ltb (k - P.cols) P.rows (omega (arith, h)))
    ∙ ap (λ b. cond b main_goal (cond (eqb (k - P.cols) (suc P.rows)) aux_goal nothing))
    (ne_eqb (k - P.cols) P.rows (λ x. omega (arith, x, h)))
    ∙ ap (λ b. cond b aux_goal nothing) (ne_eqb (k - P.cols) (suc P.rows) (λ x. omega (arith, x, h)))

rest_basic : (R m : ℕ) → is_basic (role_rest R m) ≡ true
rest_basic R m = by (ltb m R) (eqb m R) (eqb m (suc R))
  where
    by : (a b c : Bool) → is_basic (cond a (slack m) (cond b main_goal (cond c aux_goal nothing))) ≡ true
    by true b c = refl
    by false true c = refl
    by false false true = refl
    by false false false = refl

-- after the columns each name is basic at first
pub first_basic : (P : Problem) (k : ℕ) → P.cols < k → (first_dict P).basic k ≡ true
unfolding first_dict
first_basic P zero l = absurd (omega (arith, l))
first_basic P (suc k) l =
    let e : suc k ≡ suc ((k - P.cols) + P.cols) = omega (arith, l) in
    ap (λ x. is_basic (role P x)) e ∙ ap is_basic (role_behind P (k - P.cols)) ∙ rest_basic P.rows (k - P.cols)

-- the auxiliary variable and the columns are free at first
pub first_free : (P : Problem) (k : ℕ) → k ≤ P.cols → (first_dict P).basic k ≡ false
unfolding first_dict
first_free P zero l = ap is_basic (role-zero P)
first_free P (suc k) l = ap is_basic (role-column P k l)

by_role_column : (P : Problem) (x y : Role) (d : ℚ) → (is_basic x ≡ false → d ≡ zero_ℚ) → is_basic y ≡ true → first_coef P x d y ≡ zero_ℚ
by_role_column P auxiliary y d h e = h refl
by_role_column P (column j) y d h e = h refl
by_role_column P (slack r) auxiliary d h e = absurd (true≢false (sym e))
by_role_column P (slack r) (column j) d h e = absurd (true≢false (sym e))
by_role_column P (slack r) (slack s) d h e = refl
by_role_column P (slack r) main_goal d h e = refl
by_role_column P (slack r) aux_goal d h e = refl
by_role_column P (slack r) nothing d h e = refl
by_role_column P main_goal auxiliary d h e = absurd (true≢false (sym e))
by_role_column P main_goal (column j) d h e = absurd (true≢false (sym e))
by_role_column P main_goal (slack s) d h e = refl
by_role_column P main_goal main_goal d h e = refl
by_role_column P main_goal aux_goal d h e = refl
by_role_column P main_goal nothing d h e = refl
by_role_column P aux_goal auxiliary d h e = absurd (true≢false (sym e))
by_role_column P aux_goal (column j) d h e = absurd (true≢false (sym e))
by_role_column P aux_goal (slack s) d h e = refl
by_role_column P aux_goal main_goal d h e = refl
by_role_column P aux_goal aux_goal d h e = refl
by_role_column P aux_goal nothing d h e = refl
by_role_column P nothing y d h e = refl

by_role_unit : (P : Problem) (x y : Role) (d : ℚ) → is_basic x ≡ false → first_coef P x d y ≡ d
by_role_unit P auxiliary y d e = refl
by_role_unit P (column j) y d e = refl
by_role_unit P (slack r) y d e = absurd (true≢false e)
by_role_unit P main_goal y d e = absurd (true≢false e)
by_role_unit P aux_goal y d e = absurd (true≢false e)
by_role_unit P nothing y d e = absurd (true≢false e)

by_role_still : (P : Problem) (x : Role) → is_basic x ≡ false → first_const P x ≡ zero_ℚ
by_role_still P auxiliary e = refl
by_role_still P (column j) e = refl
by_role_still P (slack r) e = absurd (true≢false e)
by_role_still P main_goal e = absurd (true≢false e)
by_role_still P aux_goal e = absurd (true≢false e)
by_role_still P nothing e = absurd (true≢false e)

-- the first dictionary has the form of a dictionary
pub first_form : (P : Problem) → IsDict (names P) (first_dict P)
unfolding first_dict
first_form P = record {
  column = λ i k e. by_role_column P (role P i) (role P k) (delta i k)
      (λ f. delta_other i k (λ q. true≢false (sym e ∙ ap (λ x. is_basic (role P x)) (sym q) ∙ f))) e;
  unit = λ i k e. by_role_unit P (role P i) (role P k) (delta i k) e;
  still = λ i e. by_role_still P (role P i) e;
  goals = λ i h. first_basic P i (omega (arith, h));
}

-- its constants
pub first-const_slack : (P : Problem) (r : ℕ) → r < P.rows → (first_dict P).const (slack_name P r) ≡ P.side r
unfolding first_dict
first-const_slack P r l = ap (first_const P) (role-slack P r l)

-- the problem's goal has the constant 0
pub first-const_main : (P : Problem) → (first_dict P).const (main_row P) ≡ zero_ℚ
unfolding first_dict
first-const_main P = ap (first_const P) (role-main P)

-- the first goal has the constant 0
pub first-const_aux : (P : Problem) → (first_dict P).const (aux_row P) ≡ zero_ℚ
unfolding first_dict
first-const_aux P = ap (first_const P) (role-aux P)

-- its coefficients
pub first-slack : (P : Problem) (r k : ℕ) → r < P.rows → (first_dict P).coef (slack_name P r) k ≡ slack_coef P r (role P k)
unfolding first_dict
first-slack P r k l = ap (λ x. first_coef P x (delta (slack_name P r) k) (role P k)) (role-slack P r l)

-- a coefficient of the problem's goal
pub first-main : (P : Problem) (k : ℕ) → (first_dict P).coef (main_row P) k ≡ main_coef P (role P k)
unfolding first_dict
first-main P k = ap (λ x. first_coef P x (delta (main_row P) k) (role P k)) (role-main P)

-- a coefficient of the first goal
pub first-aux : (P : Problem) (k : ℕ) → (first_dict P).coef (aux_row P) k ≡ aux_coef (role P k)
unfolding first_dict
first-aux P k = ap (λ x. first_coef P x (delta (aux_row P) k) (role P k)) (role-aux P)
