-- What `make` answers, and that it makes 0 and 1.
use Rattle.std.proofs.Common.{◌≡◌, ◌≢◌, ◌⊎◌, ◌≤◌, inr, ⊎_elim, ℕ, ℤ, pos, nat_abs, ◌≤ℤ◌, Option, None, Some, IsSome, MatchOption}
use Rattle.std.proofs.Common.{FitsSigned, to_z, of_z, refl, ap, ap₂, sym, ◌∙◌, subst, subst₂, arith}
use mir.Syntax.{w64, w128}
use Rattle.std.proofs.lemmas.Int.{ints, to_z-of_z}
use Rattle.base_numbers.specs.Rational.{ℚ, ratio, signed_by, whole, ◌/ℚ◌}
use Rattle.base_numbers.proofs.rational.Parts.{num-whole, den-whole, ratio-parts}
use Rattle.base_numbers.proofs.rational.Reps.{den_pos}
use Rattle.base_numbers.proofs.rational.Quotients.{ratio_is_fraction, whole_over_one}
use Rattle.base_fractions.specs.Fits.{Fits, long_limit}

match_option_map : {A : Type 0} (o : Option A) {P P' : Type 0} {Q Q' : A → Type 0} → (P → P') → ((x : A) → Q x → Q' x) → MatchOption o P Q
    → MatchOption o P' Q'
match_option_map None f g h = f h
match_option_map (Some x) f g h = g x h

-- what is answered of the ratio of the signed numerator and the denominator's size is what `make` answers of the fraction
pub made_of : (L n d : ℤ) {q : ℚ} (o : Option ℚ) → d ≢ pos 0 → q ≡ whole n /ℚ whole d
    → MatchOption o (¬ (Fits L q)) (λ r. (r ≡ q) × Fits L r) → MatchOption o ((d ≡ pos 0) ⊎ (¬ (Fits L (whole n /ℚ whole d))))
    (λ r. (r ≡ whole n /ℚ whole d) × Fits L r × (d ≢ pos 0))
made_of L n d o h e =
    match_option_map o (λ n. inr (λ f. n (subst (λ q. Fits L q) (sym e) f))) (λ r m. (m.0 ∙ e, m.1, h))

-- the parts that code makes of n and d, as it reads them, have the ratio n / d
pub fraction_read : (n d N : ℤ) (D : ℕ) → d ≢ pos 0 → FitsSigned w64 n → FitsSigned w64 d → FitsSigned w128 N
    → ratio N D ≡ ratio (signed_by (to_z w64 (of_z w64 d)) (to_z w64 (of_z w64 n))) (nat_abs (to_z w64 (of_z w64 d)))
    → ratio (to_z w128 (of_z w128 N)) D ≡ whole n /ℚ whole d
fraction_read n d N D h fn fd fN e =
    ap (λ z. ratio z D) (to_z-of_z w128 N fN) ∙ e ∙ ap₂ ratio (ap₂ signed_by (to_z-of_z w64 d fd) (to_z-of_z w64 n fn))
    (ap nat_abs (to_z-of_z w64 d fd)) ∙ ratio_is_fraction n d h

-- a whole number of a size up to 2 is made
small_fits : {L : ℤ} (z : ℤ) → pos 2 ≤ℤ L → nat_abs z ≤ 2 → Fits L (whole z /ℚ whole (pos 1))
small_fits {L} z low h =
    subst (λ q. Fits L q) (sym (whole_over_one z)) record {
      num_fits = let e = ap nat_abs (num-whole z) in omega (arith, ints);
      den_fits =
          let e = den-whole z in omega (arith, ints);
    }

-- a whole number of a size up to 2 is made, whatever the limit from 2 on
pub small_made : (L : ℤ) {X : Type 0} (m : X → ℚ) (z : ℤ) (o : Option X) → pos 2 ≤ℤ L → nat_abs z ≤ 2
    → MatchOption o ((pos 1 ≡ pos 0) ⊎ (¬ (Fits L (whole z /ℚ whole (pos 1)))))
    (λ r. (m r ≡ whole z /ℚ whole (pos 1)) × Fits L (m r) × (pos 1 ≢ pos 0)) → IsSome o
small_made L m z None low h a = ⊎_elim (λ e. absurd (omega (arith, ints, e))) (λ n. absurd (n (small_fits z low h))) a
small_made L m z (Some x) low h a = refl

-- where `make` answers a value for a whole number, the value stands for that number
pub small_value : (L : ℤ) {X : Type 0} (m : X → ℚ) (z : ℤ) (o : Option X) {x : X} → o ≡ Some x
    → MatchOption o ((pos 1 ≡ pos 0) ⊎ (¬ (Fits L (whole z /ℚ whole (pos 1)))))
    (λ r. (m r ≡ whole z /ℚ whole (pos 1)) × Fits L (m r) × (pos 1 ≢ pos 0)) → m x ≡ whole z
small_value L {X} m z o {x} e a =
    (subst (λ o. MatchOption o ((pos 1 ≡ pos 0) ⊎ (¬ (Fits L (whole z /ℚ whole (pos 1)))))
    (λ r. (m r ≡ whole z /ℚ whole (pos 1)) × Fits L (m r) × (pos 1 ≢ pos 0))) e a).0 ∙ whole_over_one z

-- a number that fits is made from its parts
parts_fraction : (q : ℚ) → whole q.num /ℚ whole (pos q.den) ≡ q
parts_fraction q = sym (ratio_is_fraction q.num (pos q.den) (λ e. den_not_zero (ap nat_abs e))) ∙ ratio-parts q
  where
    den_not_zero : q.den ≡ 0 → ⊥
    den_not_zero e = let h = den_pos q in omega (arith, e, h)

made_back : (L : ℤ) (q : ℚ) (o : Option ℚ) → Fits L q → MatchOption o ((pos q.den ≡ pos 0)
    ⊎ (¬ (Fits L (whole q.num /ℚ whole (pos q.den))))) (λ r. (r ≡ whole q.num /ℚ whole (pos q.den)) × Fits L r × (pos q.den ≢ pos 0))
    → o ≡ Some q
made_back L q None f m =
    absurd (⊎_elim (λ e. let h = den_pos q in let k = ap nat_abs e in omega (arith, h, k))
    (λ n. n (subst (λ x. Fits L x) (sym (parts_fraction q)) f)) m)
made_back L q (Some x) f m = ap Some (m.0 ∙ parts_fraction q)

-- from parts that came from a text, as code passes them, `make` makes the number that they are the parts of
pub made_from_parts : (q : ℚ) (n d : ℤ) (o : Option ℚ) → Fits long_limit q → n ≡ q.num → d ≡ pos q.den →
    MatchOption o ((to_z w64 (of_z w64 d) ≡ pos 0) ⊎ (¬ (Fits long_limit (whole (to_z w64 (of_z w64 n)) /ℚ whole (to_z w64 (of_z w64 d))))))
    (λ r. (r ≡ whole (to_z w64 (of_z w64 n)) /ℚ whole (to_z w64 (of_z w64 d))) × Fits long_limit r × (to_z w64 (of_z w64 d) ≢ pos 0))
    → o ≡ Some q
made_from_parts q n d o f en ed m =
    let hn = f.num_fits in
    let hd = f.den_fits in
    let fn : FitsSigned w64 n = omega (arith, ints, en, hn) in
    let fd : FitsSigned w64 d = omega (arith, ints, ed, hd) in
    made_back long_limit q o f
    (subst₂ (λ x y. MatchOption o ((y ≡ pos 0) ⊎ (¬ (Fits long_limit (whole x /ℚ whole y))))
    (λ r. (r ≡ whole x /ℚ whole y) × Fits long_limit r × (y ≢ pos 0)))
    (to_z-of_z w64 n fn ∙ en) (to_z-of_z w64 d fd ∙ ed) m)
