-- The first number at which something is found.
use Rattle.std.proofs.Common.{◌≡◌, ℕ, ◌+◌, ◌<◌, ◌≤◌, ⊎_elim, below_more, arith}
use Rattle.std.proofs.lemmas.Bool.{cases_lt}
use Rattle.ask_verdicts.specs.Firsts.{NoneBelow, IsFirst, FitsUpTo, IsFirstRefused}

-- nothing is found at any number below i, and something is so at each
pub record IsPassed (none fits : ℕ → Type 0) (i : ℕ) : Type 0 where
  -- nothing is found there
  pub none_below : NoneBelow none i
  -- this is so there
  pub fit : (k : ℕ) → k < i → fits k

-- before the first number
pub passed_none : (none fits : ℕ → Type 0) → IsPassed none fits 0
passed_none none fits = record { none_below = λ k l. absurd (omega (arith, l)); fit = λ k l. absurd (omega (arith, l)) }

-- behind the last one
pub passed_all : (none fits : ℕ → Type 0) (i n : ℕ) → IsPassed none fits i → n ≤ i → FitsUpTo none fits n
passed_all none fits i n h l k m before = h.fit k (omega (arith, l, m))

-- nothing is found below a lesser number either
pub none_lower : (none : ℕ → Type 0) (i n : ℕ) → NoneBelow none i → n ≤ i → NoneBelow none n
none_lower none i n h l k m = h k (omega (arith, l, m))

module _ (none fits : ℕ → Type 0) (i : ℕ) (h : IsPassed none fits i) (here : fits i) where
  -- one number more
  pub passed_more : none i → IsPassed none fits (i + 1)
  passed_more nothing = record { none_below = below_more none i h.none_below nothing; fit = below_more fits i h.fit here }

  -- up to a number at which something is found
  pub found_fits : (n : ℕ) → (none i → ⊥) → FitsUpTo none fits n
  found_fits n some k l before =
      let all = below_more fits i h.fit here in
      ⊎_elim (λ past. absurd (some (before i past))) (λ at_most. all k (omega (arith, at_most))) (cases_lt i k)

-- ---- what is found is the same
module _ {X : Type 0} (none : ℕ → Type 0) (found : ℕ → X → Type 0) (apart : (k : ℕ) (x : X) → found k x → none k → ⊥) (n : ℕ) where
  not_earlier : (x y : X) (a : IsFirst none found n x) (b : IsFirst none found n y) → b.number < a.number → ⊥
  not_earlier x y a b l = apart b.number y b.here (a.before b.number l)

  -- the first number is one
  pub same_first : (x y : X) (a : IsFirst none found n x) (b : IsFirst none found n y) → a.number ≡ b.number
  same_first x y a b =
      ⊎_elim (λ l. absurd (not_earlier y x b a l)) (λ le. ⊎_elim (λ l. absurd (not_earlier x y a b l)) (λ ge. omega (arith, le, ge))
      (cases_lt b.number a.number)) (cases_lt a.number b.number)

  -- where something is found, not all numbers have nothing
  pub first_found : (x : X) → IsFirst none found n x → NoneBelow none n → ⊥
  first_found x a nothing = apart a.number x a.here (nothing a.number a.within)

-- ---- the first fault is the same
module _ {E : Type 0} (none fits : ℕ → Type 0) (n : ℕ) where
  -- where there is one, not everything is so
  pub refused_unfit : (faulty : ℕ → E → Type 0) (e : E) → ((k : ℕ) → faulty k e → fits k → ⊥) → IsFirstRefused none fits faulty n e
      → FitsUpTo none fits n → ⊥
  refused_unfit faulty e apart a fit = apart a.number a.here (fit a.number a.within a.before)

  module _ (faulty again : ℕ → E → Type 0) (e f : E) (apart : (k : ℕ) → faulty k e → fits k → ⊥)
      (apart_again : (k : ℕ) → again k f → fits k → ⊥) where
    -- the first number is one
    pub same_refused : (a : IsFirstRefused none fits faulty n e) (b : IsFirstRefused none fits again n f) → a.number ≡ b.number
    same_refused a b =
        ⊎_elim (λ l. absurd (apart a.number a.here (b.fit a.number l)))
        (λ le. ⊎_elim (λ l. absurd (apart_again b.number b.here (a.fit b.number l))) (λ ge. omega (arith, le, ge))
        (cases_lt b.number a.number)) (cases_lt a.number b.number)

-- ---- where each number says the same of two things
module _ (none other : ℕ → Type 0) (n : ℕ) (stays : (k : ℕ) → k < n → none k → other k) where
  -- nothing below a number
  pub none_stays : (i : ℕ) → i ≤ n → NoneBelow none i → NoneBelow other i
  none_stays i l h k m = stays k (omega (arith, l, m)) (h k m)

  -- the first at which something is found
  pub first_stays : {X : Type 0} (found again : ℕ → X → Type 0) (x : X) → ((k : ℕ) → k < n → found k x → again k x)
      → IsFirst none found n x → IsFirst other again n x
  first_stays found again x same a =
      let l = a.within in
      record {
        number = a.number;
        within = a.within;
        before = none_stays a.number (omega (arith, l)) a.before;
        here = same a.number a.within a.here;
      }

  -- the first fault
  pub refused_stays : {E : Type 0} (fits fit_again : ℕ → Type 0) (faulty again : ℕ → E → Type 0) (e : E)
      → ((k : ℕ) → k < n → fits k → fit_again k) → ((k : ℕ) → k < n → faulty k e → again k e)
      → IsFirstRefused none fits faulty n e → IsFirstRefused other fit_again again n e
  refused_stays fits fit_again faulty again e fit same a =
      let l = a.within in
      record {
        number = a.number;
        within = a.within;
        before = none_stays a.number (omega (arith, l)) a.before;
        fit = λ k m. fit k (omega (arith, l, m)) (a.fit k m);
        here = same a.number a.within a.here;
      }

  -- what is so up to the first
  pub fits_stay : (fits again : ℕ → Type 0) → ((k : ℕ) → k < n → fits k → again k) → FitsUpTo other fits n → FitsUpTo none again n
  fits_stay fits again same h k l before = same k l (h k l (none_stays k (omega (arith, l)) before))
