-- Line feeds between two places of a text.
use Rattle.std.proofs.Common.{◌≡◌, ◌∙◌, ⊎_elim, ℕ, zero, suc, ◌+◌, ◌-◌, ◌≤◌, ◌==◌, List, [], ◌∷◌, ◌++◌, length, take, drop}
use Rattle.std.proofs.Common.{count_by, cond, min, refl, sym, ap, arith}
use Rattle.std.specs.Prelude.{slice_range}
use Rattle.std.proofs.lemmas.Bool.{cases_lt}
use Rattle.std.proofs.lemmas.List.{take_all}
use Rattle.std.proofs.lemmas.List.Sums.{sum_by-append}

take_none : (n : ℕ) → take {A = ℕ} n [] ≡ []
take_none zero = refl
take_none (suc n) = refl

-- what stands up to a later place is what stands up to an earlier one, and what is between them
take_range : (text : List ℕ) (a b : ℕ) → a ≤ b → take b text ≡ take a text ++ slice_range text a b
take_range text zero b l = ap (λ n. take n text) (let e : b ≡ b - 0 = omega arith in e)
take_range [] (suc a) b l = take_none b ∙ sym (take_none (b - suc a))
take_range (x ∷ text) (suc a) zero l = absurd (omega (arith, l))
take_range (x ∷ text) (suc a) (suc b) l = ap (λ ys. x ∷ ys) (take_range text a b (omega (arith, l))
    ∙ ap (λ n. take a text ++ take n (drop a text)) (let e : b - a ≡ suc b - suc a = omega arith in e))

-- a place past the end is as good as the end
take_clipped : (text : List ℕ) (k n : ℕ) → n ≡ min (length text) k → take n text ≡ take k text
take_clipped text k n e = ⊎_elim
    (λ l. ap (λ m. take m text) (let s : n ≡ k = omega (arith, e, l) in s))
    (λ l. take_all n text (omega (arith, e, l)) ∙ sym (take_all k text (omega (arith, l))))
    (cases_lt k (length text))

-- the line feeds up to two places, with those between them
pub feeds_between : (text : List ℕ) (known at a b : ℕ) → a ≡ min (length text) known → b ≡ min (length text) at → a ≤ b
    → count_by (λ c. c == 10) (take known text) + count_by (λ c. c == 10) (slice_range text a b) ≡ count_by (λ c. c == 10) (take at text)
feeds_between text known at a b is_a is_b l =
    ap (λ n. n + count_by (λ c. c == 10) (slice_range text a b)) (ap (count_by (λ c. c == 10)) (sym (take_clipped text known a is_a)))
    ∙ sym (sum_by-append (λ c. cond (c == 10) 1 0) (take a text) (slice_range text a b))
    ∙ ap (count_by (λ c. c == 10)) (sym (take_range text a b l) ∙ take_clipped text at b is_b)
