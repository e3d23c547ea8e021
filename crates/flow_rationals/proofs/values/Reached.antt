-- A fraction that is at most a sum is at most what the sum is worth where great fractions stand in place of +inf.
use Rattle.std.proofs.Common.{◌≡◌, ◌∙◌, inl, inr, ⊎_elim, ℕ, zero, suc, ◌<◌, true, true≢false, ℤ, pos, negsuc, List, [], ◌∷◌, length, refl}
use Rattle.std.proofs.Common.{ap, sym, subst, subst₂, arith, zero-lt-suc}
use Rattle.std.specs.List.{list_all}
use Rattle.std.proofs.lemmas.Bool.{and_parts}
use Rattle.std.proofs.lemmas.Int.{ints}
use Rattle.base_facts.specs.Elements.{In}
use Rattle.base_numbers.specs.Rational.{ℚ, whole, zero_ℚ, one_ℚ, ◌+ℚ◌, ◌-ℚ◌, ◌*ℚ◌, ◌≤ℚ◌}
use Rattle.base_numbers.specs.Extended.{Ext, neg_inf, fin, pos_inf, ◌≤ᴱ◌}
use Rattle.base_numbers.proofs.rational.Laws.{≤ℚ_refl, ≤ℚ_trans, le_of_lt_ℚ, le_or_lt, whole-zero, whole-one, whole_le, zero-*ℚ}
use Rattle.base_numbers.proofs.tactics.Linear.{gap, ◌⊗◌}
use Rattle.base_numbers.proofs.tactics.Linarith.{lin_le, le, eq, ge0, reads_all}
use Rattle.flow_rationals.specs.declared.equation.Sum.{Sum}
use Rattle.flow_rationals.specs.Equations.{is_from}
use Rattle.flow_rationals.specs.Values.{Values, later, number, parts_sum, sum_value}
use Rattle.flow_rationals.proofs.values.Folded.{plus, part, folded, sum_value_is, folded_fin, folded_mono, scaled_below}
use Rattle.flow_rationals.proofs.values.Sound.{IsSound}

-- a fraction in place of an infinity
abbrev pub picked : ℚ → Ext → ℚ
picked top neg_inf = top
picked top (fin q) = q
picked top pos_inf = top

-- these fractions as values
abbrev pub at_top : ℚ → Values → Values
at_top top values k = fin (picked top (values k))

-- it holds of every fraction from some one on, which is at least 0
abbrev pub Finally : (ℚ → Type 0) → Type 0
Finally P = (least : ℚ) × (zero_ℚ ≤ℚ least) × ((top : ℚ) → least ≤ℚ top → P top)

above_both : (a b : ℚ) → (m : ℚ) × (a ≤ℚ m) × (b ≤ℚ m)
above_both a b = ⊎_elim (λ h. (b, h, ≤ℚ_refl b)) (λ h. (a, ≤ℚ_refl a, le_of_lt_ℚ h)) (le_or_lt a b)

-- ---- one part
picked_mono : (a b : ℚ) (x : Ext) → a ≤ℚ b → fin (picked a x) ≤ᴱ fin (picked b x)
picked_mono a b neg_inf h = h
picked_mono a b (fin q) h = ≤ℚ_refl q
picked_mono a b pos_inf h = h

less_asked : (q t : ℚ) (rest : Ext) → fin q ≤ᴱ plus (fin t) rest → fin (q -ℚ t) ≤ᴱ rest
less_asked q t neg_inf h = h
less_asked q t (fin b) h = lin_le (q ∷ t ∷ b ∷ []) (le h ∷ []) (search reads_all depth 40) tt
less_asked q t pos_inf h = tt

none : (a b : ℚ) → whole (pos zero) *ℚ a ≡ whole (pos zero) *ℚ b
none a b = ap (λ z. z *ℚ a) whole-zero ∙ zero-*ℚ a ∙ sym (ap (λ z. z *ℚ b) whole-zero ∙ zero-*ℚ b)

grows : (n : ℕ) (top : ℚ) → zero_ℚ ≤ℚ top → top ≤ℚ whole (pos (suc n)) *ℚ top
grows n top h =
    let one : one_ℚ ≤ℚ whole (pos (suc n)) = subst (λ z. z ≤ℚ whole (pos (suc n))) whole-one
    (whole_le (pos 1) (pos (suc n)) (omega (arith, ints))) in
    by (whole (pos (suc n))) one
  where
    by : (c : ℚ) → one_ℚ ≤ℚ c → top ≤ℚ c *ℚ top
    by c one = lin_le (top ∷ c ∷ []) (ge0 (gap one ⊗ h) ∷ []) (search reads_all depth 40) tt

-- a part that is a fraction, and what is left for the others
reach_finite : (q t : ℚ) (rest : Ext) (f g : ℚ → ℚ) → ((top : ℚ) → g top ≡ t) → ((r : ℚ) → fin r ≤ᴱ rest → Finally (λ top. r ≤ℚ f top))
    → fin q ≤ᴱ plus (fin t) rest →
    Finally (λ top. q ≤ℚ g top +ℚ f top)
reach_finite q t rest f g e more h =
    let r = more (q -ℚ t) (less_asked q t rest h) in
    (r.0, r.1, λ top l. combined (g top) (f top) (e top) (r.2 top l))
  where
    combined : (x y : ℚ) → x ≡ t → q -ℚ t ≤ℚ y → q ≤ℚ x +ℚ y
    combined x y e i = lin_le (q ∷ t ∷ x ∷ y ∷ []) (eq e ∷ le i ∷ []) (search reads_all depth 40) tt

-- a part that is +inf
reach_top : (q : ℚ) (n : ℕ) (f : ℚ → ℚ) → ((top : ℚ) → zero_ℚ ≤ℚ top → f zero_ℚ ≤ℚ f top)
    → Finally (λ top. q ≤ℚ whole (pos (suc n)) *ℚ top +ℚ f top)
reach_top q n f low =
    let m = above_both zero_ℚ (q -ℚ f zero_ℚ) in (
      m.0,
      m.1,
      λ top l. let z = ≤ℚ_trans m.1 l in combined (f zero_ℚ) (f top) top (whole (pos (suc n)) *ℚ top) (≤ℚ_trans m.2 l)
          (grows n top z) (low top z),
    )
  where
    combined : (x y top more : ℚ) → q -ℚ x ≤ℚ top → top ≤ℚ more → x ≤ℚ y → q ≤ℚ more +ℚ y
    combined x y top more h i j = lin_le (q ∷ x ∷ y ∷ top ∷ more ∷ []) (le h ∷ le i ∷ le j ∷ []) (search reads_all depth 40) tt

reach_part : (c : ℤ) (x rest : Ext) (f : ℚ → ℚ) (q : ℚ) → is_from 0 c ≡ true → ¬ (x ≡ neg_inf)
    → ((top : ℚ) → zero_ℚ ≤ℚ top → f zero_ℚ ≤ℚ f top) →
    ((r : ℚ) → fin r ≤ᴱ rest → Finally (λ top. r ≤ℚ f top)) → fin q ≤ᴱ plus (part c x) rest
    → Finally (λ top. q ≤ℚ whole c *ℚ picked top x +ℚ f top)
reach_part (pos zero) x rest f q h n low more i = reach_finite q (whole (pos zero) *ℚ number x) rest f
    (λ top. whole (pos zero) *ℚ picked top x) (λ top. none (picked top x) (number x)) more i
reach_part (pos (suc k)) neg_inf rest f q h n low more i = absurd (n refl)
reach_part (pos (suc k)) (fin a) rest f q h n low more i = reach_finite q (whole (pos (suc k)) *ℚ a) rest f
    (λ top. whole (pos (suc k)) *ℚ a) (λ top. refl) more i
reach_part (pos (suc k)) pos_inf rest f q h n low more i = reach_top q k f low
reach_part (negsuc k) x rest f q h n low more i = absurd (true≢false (sym h))

-- ---- all parts
sum_low : (cs : List ℤ) (values : Values) → list_all (is_from 0) cs ≡ true → (top : ℚ) → zero_ℚ ≤ℚ top
    → parts_sum cs (at_top zero_ℚ values) ≤ℚ parts_sum cs (at_top top values)
sum_low cs values h top z =
    subst₂ (λ x y. x ≤ᴱ y) (folded_fin cs (λ k. picked zero_ℚ (values k))) (folded_fin cs (λ k. picked top (values k)))
    (folded_mono cs (at_top zero_ℚ values) (at_top top values) h (λ k l. picked_mono zero_ℚ top (values k) z))

reach_parts : (cs : List ℤ) (values : Values) (q : ℚ) → list_all (is_from 0) cs ≡ true → ((k : ℕ) → k < length cs → ¬ (values k ≡ neg_inf))
    → fin q ≤ᴱ folded cs values →
    Finally (λ top. q ≤ℚ parts_sum cs (at_top top values))
reach_parts [] values q h n i = (zero_ℚ, ≤ℚ_refl zero_ℚ, λ top l. i)
reach_parts (c ∷ cs) values q h n i =
    let parts = and_parts (is_from 0 c) (list_all (is_from 0) cs) h in
    reach_part c (values 0) (folded cs (later values)) (λ top. parts_sum cs (at_top top (later values))) q parts.0
    (n 0 (zero-lt-suc (length cs)))
    (sum_low cs (later values) parts.1) (λ r j. reach_parts cs (later values) r parts.1 (λ k l. n (suc k) (omega arith)) j) i

-- ---- sums
-- what the guard of a sum asks, with such fractions as values
abbrev pub IsAsked : ℚ → Values → ℚ → Sum → Type 0
IsAsked q values top s = q *ℚ whole s.den ≤ℚ parts_sum s.coeffs (at_top top values) +ℚ whole s.constant

reach_sum : (n : ℕ) (s : Sum) (values : Values) (q : ℚ) → IsSound n s → ((k : ℕ) → k < n → ¬ (values k ≡ neg_inf))
    → fin q ≤ᴱ sum_value s values → Finally (λ top. IsAsked q values top s)
reach_sum n s values q sound m i =
    let r = reach_parts s.coeffs values (q *ℚ whole s.den -ℚ whole s.constant) sound.coeffs (λ k l. m k (subst (λ j. k < j) sound.size l))
    (scaled_below s q (folded s.coeffs values) sound.positive (subst (λ x. fin q ≤ᴱ x) (sum_value_is s values) i)) in
    (r.0, r.1, λ top l. over (whole s.constant) (q *ℚ whole s.den) (parts_sum s.coeffs (at_top top values)) (r.2 top l))
  where
    over : (k x y : ℚ) → x -ℚ k ≤ℚ y → x ≤ℚ y +ℚ k
    over k x y h = lin_le (k ∷ x ∷ y ∷ []) (le h ∷ []) (search reads_all depth 40) tt

-- where q is at most each sum, great enough fractions in place of +inf pass the guard of each
pub reach_sums : (n : ℕ) (sums : List Sum) (values : Values) (q : ℚ) → ((s : Sum) → In sums s → IsSound n s)
    → ((k : ℕ) → k < n → ¬ (values k ≡ neg_inf)) →
    ((s : Sum) → In sums s → fin q ≤ᴱ sum_value s values) → Finally (λ top. (s : Sum) → In sums s → IsAsked q values top s)
reach_sums n [] values q sound m i = (zero_ℚ, ≤ℚ_refl zero_ℚ, λ top l s k. absurd k)
reach_sums n (s ∷ sums) values q sound m i =
    let a = reach_sum n s values q (sound s (inl refl)) m (i s (inl refl)) in
    let b = reach_sums n sums values q (λ t k. sound t (inr k)) m (λ t k. i t (inr k)) in
    let most = above_both a.0 b.0 in (
      most.0,
      ≤ℚ_trans a.1 most.1,
      λ top l t k. ⊎_elim (λ e. subst (λ u. IsAsked q values top u) e (a.2 top (≤ℚ_trans most.1 l))) (λ j. b.2 top (≤ℚ_trans most.2 l) t j)
          k,
    )
