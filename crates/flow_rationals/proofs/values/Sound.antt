-- What the limits of equations say of each sum.
use Rattle.std.proofs.Common.{◌≡◌, ◌==◌, ◌&&◌, inl, inr, ⊎_elim, ℕ, zero, suc, ◌≤◌, Bool, true, true≢false, ℤ, pos, negsuc, List, [], ◌∷◌}
use Rattle.std.proofs.Common.{length, sym, subst, arith}
use Rattle.std.specs.Prelude.{IsTrue, slice_get, Some, nat_le}
use Rattle.std.specs.List.{list_all}
use Rattle.std.proofs.lemmas.Bool.{and_parts, eqb-true, leb-true}
use Rattle.std.proofs.lemmas.Int.{ints}
use Rattle.base_facts.specs.Elements.{In}
use Rattle.base_numbers.specs.Rational.{whole, zero_ℚ, ◌<ℚ◌}
use Rattle.base_numbers.proofs.rational.Laws.{whole-zero, whole_lt}
use Rattle.lang_tree.specs.Numbers.{is_number}
use Rattle.flow_rationals.specs.declared.equation.Sum.{Sum}
use Rattle.flow_rationals.specs.declared.equation.Equation.{Equation}
use Rattle.flow_rationals.specs.declared.limits.TheConstants.{MOST_EQUATIONS, MOST_ALTERNATIVES, MOST_SUMS}
use Rattle.flow_rationals.specs.Equations.{is_from, is_sum, is_alternative, is_start, is_equation, alternative_count, are_equations}

-- what each element of a list passes
pub all_at : {A : Type 0} (p : A → Bool) (xs : List A) (x : A) → list_all p xs ≡ true → In xs x → p x ≡ true
all_at p [] x h m = absurd m
all_at p (y ∷ xs) x h m = let b = and_parts (p y) (list_all p xs) h in
    ⊎_elim (λ e. subst (λ z. p z ≡ true) e b.0) (λ k. all_at p xs x b.1 k) m

-- what stands at a place is an element
pub in_slice : {A : Type 0} (xs : List A) (k : ℕ) (x : A) → slice_get xs k ≡ Some x → In xs x
in_slice [] k x e = absurd cc
in_slice (y ∷ xs) zero x e = inl cc
in_slice (y ∷ xs) (suc k) x e = inr (in_slice xs k x e)

-- a sum over n names
pub record IsSound (n : ℕ) (s : Sum) : Type 0 where
  -- there is one coefficient for each name
  pub size : length s.coeffs ≡ n
  -- no coefficient is below 0, and each is at most 2^63 - 1
  pub coeffs : list_all (is_from 0) s.coeffs ≡ true
  -- the constant is a number of a program
  pub constant : is_number s.constant ≡ true
  -- the denominator is at least 1 and at most 2^63 - 1
  pub den : is_from 1 s.den ≡ true
  -- the denominator is above 0 as a fraction
  pub positive : zero_ℚ <ℚ whole s.den

den_positive : (d : ℤ) → is_from 1 d ≡ true → zero_ℚ <ℚ whole d
den_positive (pos n) h =
    let l = leb-true 1 n (and_parts (nat_le 1 n) (nat_le n 9223372036854775807) h).0 in
    subst (λ z. z <ℚ whole (pos n)) whole-zero (whole_lt (pos 0) (pos n) (omega (arith, ints)))
den_positive (negsuc n) h = absurd (true≢false (sym h))

sound_sum : (n : ℕ) (s : Sum) → is_sum n s ≡ true → IsSound n s
sound_sum n s h =
    let a = and_parts (length s.coeffs == n) (list_all (is_from 0) s.coeffs && (is_number s.constant && is_from 1 s.den)) h in
    let b = and_parts (list_all (is_from 0) s.coeffs) (is_number s.constant && is_from 1 s.den) a.1 in
    let c = and_parts (is_number s.constant) (is_from 1 s.den) b.1 in
    record { size = eqb-true (length s.coeffs) n a.0; coeffs = b.0; constant = c.0; den = c.1; positive = den_positive s.den c.1 }

-- an alternative over n names
pub record IsSoundAlternative (n : ℕ) (sums : List Sum) : Type 0 where
  -- there are no more sums than there may be
  pub few : length sums ≤ MOST_SUMS
  -- each sum is sound
  pub each : (s : Sum) → In sums s → IsSound n s

sound_alternative : (n : ℕ) (sums : List Sum) → is_alternative n sums ≡ true → IsSoundAlternative n sums
sound_alternative n sums h =
    let a = and_parts (nat_le 1 (length sums)) (nat_le (length sums) MOST_SUMS && list_all (is_sum n) sums) h in
    let b = and_parts (nat_le (length sums) MOST_SUMS) (list_all (is_sum n) sums) a.1 in
    record { few = leb-true (length sums) MOST_SUMS b.0; each = λ s m. sound_sum n s (all_at (is_sum n) sums s b.1 m) }

-- an equation over n names
pub record IsSoundEquation (n : ℕ) (e : Equation) : Type 0 where
  -- the start is within the limits
  pub start : is_start e.start ≡ true
  -- each alternative is sound
  pub alternatives : (sums : List Sum) → In e.alternatives sums → IsSoundAlternative n sums

sound_equation : (n : ℕ) (e : Equation) → is_equation n e ≡ true → IsSoundEquation n e
sound_equation n e h =
    let a = and_parts (is_start e.start) (list_all (is_alternative n) e.alternatives) h in
    record { start = a.0; alternatives = λ sums m. sound_alternative n sums (all_at (is_alternative n) e.alternatives sums a.1 m) }

-- equations
pub record AreSound (equations : List Equation) : Type 0 where
  -- there is an equation
  pub some : 1 ≤ length equations
  -- there are no more equations than there may be
  pub few : length equations ≤ MOST_EQUATIONS
  -- there are no more alternatives than there may be
  pub few_alternatives : alternative_count equations ≤ MOST_ALTERNATIVES
  -- each equation is sound
  pub each : (e : Equation) → In equations e → IsSoundEquation (length equations) e

-- equations within the limits are sound
pub sound_equations : (equations : List Equation) → IsTrue (are_equations equations) → AreSound equations
sound_equations equations h =
    let n = length equations in
    let a = and_parts (nat_le 1 n && nat_le n MOST_EQUATIONS) (nat_le (alternative_count equations) MOST_ALTERNATIVES
    && list_all (is_equation n) equations) h in
    let b = and_parts (nat_le 1 n) (nat_le n MOST_EQUATIONS) a.0 in
    let c = and_parts (nat_le (alternative_count equations) MOST_ALTERNATIVES) (list_all (is_equation n) equations) a.1 in
    record {
      some = leb-true 1 n b.0;
      few = leb-true n MOST_EQUATIONS b.1;
      few_alternatives = leb-true (alternative_count equations) MOST_ALTERNATIVES c.0;
      each = λ e m. sound_equation n e (all_at (is_equation n) equations e c.1 m);
    }
