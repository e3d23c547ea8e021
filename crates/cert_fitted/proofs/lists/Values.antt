-- Values at places, and the lists that they make.
use Rattle.std.proofs.Common.{◌≡◌, ◌==◌, ◌+◌, ◌<◌, ◌≤◌, ℕ, zero, suc, true, false, List, [], ◌∷◌, length, drop, get_or}
use Rattle.std.proofs.Common.{refl, sym, ap, ◌∙◌, arith, if◌then◌else◌}
use Rattle.base_numbers.specs.Rational.{ℚ, zero_ℚ}
use Rattle.cert_written.specs.declared.pairs.Pair.{Pair}
use Rattle.cert_written.specs.Pairs.{value_at}

-- the value at a place among the pairs from number i on
abbrev pub left : List Pair → ℕ → ℕ → ℚ
left ps place i = value_at (drop i ps) place

next : (ps : List Pair) (place i : ℕ) (p : Pair) → i < length ps → p ≡ get_or ps i p
    → left ps place i ≡ (if p.place == place then p.value else left ps place (suc i))
next [] place i p lt is = absurd (omega arith)
next (x ∷ ps) place zero p lt is = ap (λ (y : Pair). if y.place == place then y.value else value_at ps place) (sym is)
next (x ∷ ps) place (suc i) p lt is = next ps place i p (omega arith) is

same : (m n : ℕ) → m ≡ n → (m == n) ≡ true
same m n e = grind (arith, e)

differs : (m n : ℕ) → (m ≡ n → ⊥) → (m == n) ≡ false
differs m n e = grind (arith, e)

-- a pair at the place
pub found : (ps : List Pair) (place i : ℕ) (p : Pair) (all : ℚ) → i < length ps → p ≡ get_or ps i p → p.place ≡ place
    → all ≡ left ps place i → p.value ≡ all
found ps place i p all lt is h e =
    sym (e ∙ next ps place i p lt is ∙ ap (λ b. if b then p.value else left ps place (suc i)) (same p.place place h))

-- another one
pub passed : (ps : List Pair) (place i : ℕ) (p : Pair) (all : ℚ) → i < length ps → p ≡ get_or ps i p → (p.place ≡ place → ⊥)
    → all ≡ left ps place i → all ≡ left ps place (i + 1)
passed ps place i p all lt is h e =
    e ∙ next ps place i p lt is ∙ ap (λ b. if b then p.value else left ps place (suc i)) (differs p.place place h)
    ∙ ap (left ps place) (let f : suc i ≡ i + 1 = omega arith in f)

none : (ps : List Pair) (place i : ℕ) → length ps ≤ i → left ps place i ≡ zero_ℚ
none [] place zero le = refl
none [] place (suc i) le = refl
none (x ∷ ps) place zero le = absurd (omega arith)
none (x ∷ ps) place (suc i) le = none ps place i (omega arith)

-- past the end
pub ended : (ps : List Pair) (place i : ℕ) (all : ℚ) → length ps ≤ i → all ≡ left ps place i → zero_ℚ ≡ all
ended ps place i all le e = sym (e ∙ none ps place i le)
