-- Numbers with their negations, as columns of a problem that are split in two.
use Rattle.std.proofs.Common.{◌≡◌, ◌∙◌, ℕ, zero, suc, ◌+◌, ◌≤◌, ℤ, List, [], ◌∷◌, ◌++◌, length, get_or, map, append_assoc, refl, ap, ap₂}
use Rattle.std.proofs.Common.{sym, arith}
use Rattle.std.specs.List.{range_with_len}
use Rattle.std.proofs.lemmas.List.{flat_map_more}
use Rattle.std.proofs.lemmas.List.FromFn.{map-range_with_len_more}
use Rattle.base_numbers.specs.Rational.{ℚ, whole, zero_ℚ, one_ℚ, neg_ℚ, ◌+ℚ◌, ◌*ℚ◌}
use Rattle.base_numbers.proofs.rational.Laws.{+ℚ_idl, +ℚ_idr, *ℚ-zero, *ℚ_idr, neg_ℚ-zero}
use Rattle.flow_systems.specs.States.{dotℚ}
use Rattle.theory_validity.specs.Words.{Affine as Form, shifted, column, columns, start_form}
use Rattle.lp_theory.specs.Listed.{at}
use Rattle.lp_theory.specs.Free.{split}
use Rattle.solve_composition.specs.Composed.{first_entries}
use Rattle.solve_composition.specs.Operations.{column_values}
use Rattle.solve_transformer.specs.Splits.{pair, pairs}
use Rattle.solve_composition.proofs.Ranges.{range_map}
use Rattle.solve_composition.proofs.composed.Dense.{coeff-combined, entries-first}

-- one more number and its negation
pub pairs_push : (xs : List ℚ) (x n : ℚ) (items mid new : List ℚ) → items ≡ pairs xs → mid ≡ items ++ x ∷ [] → n ≡ neg_ℚ x
    → new ≡ mid ++ n ∷ [] → new ≡ pairs (xs ++ x ∷ [])
pairs_push xs x n items mid new h m e k =
    k ∙ ap₂ (λ ys y. ys ++ y ∷ []) m e ∙ append_assoc items (x ∷ []) (neg_ℚ x ∷ []) ∙ ap (λ ys. ys ++ pair x) h ∙ flat_map_more pair [] xs x

-- a number and its negation extend the pairs by the next column
pub pairs_range : (f : ℕ → ℚ) (i : ℕ) (x n : ℚ) (items mid new : List ℚ) → items ≡ pairs (map f (range_with_len 0 i)) → x ≡ f i
    → mid ≡ items ++ x ∷ [] → n ≡ neg_ℚ x → new ≡ mid ++ n ∷ [] → new ≡ pairs (map f (range_with_len 0 (i + 1)))
pairs_range f i x n items mid new h g m e k =
    pairs_push (map f (range_with_len 0 i)) x n items mid new h m e k ∙ ap (λ y. pairs (map f (range_with_len 0 i) ++ y ∷ [])) g
    ∙ ap pairs (sym (map-range_with_len_more f 0 i i (omega arith)))

-- ---- entries
split_zero : (j : ℕ) → split (λ k. zero_ℚ) j ≡ zero_ℚ
split_zero zero = refl
split_zero (suc zero) = neg_ℚ-zero
split_zero (suc (suc k)) = split_zero k

-- an entry of the pairs of a list is that of its split form
pub at-pairs : (w : ℕ) (u : List ℚ) (j : ℕ) → length u ≤ w → at (pairs (first_entries w u)) j ≡ split (at u) j
at-pairs zero [] j l = sym (split_zero j)
at-pairs zero (x ∷ u) j l = absurd (omega (arith, l))
at-pairs (suc w) [] zero l = refl
at-pairs (suc w) [] (suc zero) l = refl
at-pairs (suc w) [] (suc (suc k)) l = at-pairs w [] k (omega arith)
at-pairs (suc w) (x ∷ u) zero l = refl
at-pairs (suc w) (x ∷ u) (suc zero) l = refl
at-pairs (suc w) (x ∷ u) (suc (suc k)) l = at-pairs w u k (omega (arith, l))

-- the pairs of a list are twice as many as its entries
pub length-pairs : (xs : List ℚ) → length (pairs xs) ≡ length xs + length xs
length-pairs [] = refl
length-pairs (x ∷ xs) = let h = length-pairs xs in omega (arith, h)

-- ---- a row at the start
values_shifted : (j : ℕ) (fs : List Form) → column_values (suc j) (map shifted fs) ≡ column_values j fs
unfolding shifted
values_shifted j [] = refl
values_shifted j (f ∷ fs) = ap (λ xs. get_or f.coeffs j zero_ℚ ∷ xs) (values_shifted j fs)

dot_nothing : (cs : List ℤ) (fs : List Form) → dotℚ cs (column_values 0 (map shifted fs)) ≡ zero_ℚ
unfolding shifted
dot_nothing [] fs = refl
dot_nothing (c ∷ cs) [] = refl
dot_nothing (c ∷ cs) (f ∷ fs) = ap₂ (λ a b. a +ℚ b) (*ℚ-zero (whole c)) (dot_nothing cs fs) ∙ +ℚ_idl zero_ℚ

start_entry : (row : List ℤ) (n k : ℕ) → length row ≡ n → dotℚ row (column_values k (columns n)) ≡ get_or (map whole row) k zero_ℚ
unfolding columns column
start_entry [] n k e = refl
start_entry (c ∷ cs) zero k e = absurd (omega (arith, e))
start_entry (c ∷ cs) (suc n) zero e = ap (λ s. (whole c *ℚ one_ℚ) +ℚ s) (dot_nothing cs (columns n)) ∙ +ℚ_idr (whole c *ℚ one_ℚ)
    ∙ *ℚ_idr (whole c)
start_entry (c ∷ cs) (suc n) (suc k) e =
    ap₂ (λ a b. a +ℚ b) (*ℚ-zero (whole c)) (ap (dotℚ cs) (values_shifted k (columns n)) ∙ start_entry cs n k (omega (arith, e)))
    ∙ +ℚ_idl (get_or (map whole cs) k zero_ℚ)

start_coeff : (n : ℕ) (row : List ℤ) (k : ℕ) → length row ≡ n → get_or (start_form n row).coeffs k zero_ℚ ≡ get_or (map whole row) k zero_ℚ
unfolding start_form
start_coeff n row k e = coeff-combined row (columns n) k ∙ start_entry row n k e

-- the start form of a row has the row's entries, and zeros at the free columns
pub start_entries : (w n : ℕ) (row : List ℤ) → length row ≡ n → first_entries w (start_form n row).coeffs ≡ first_entries w (map whole row)
start_entries w n row e =
    sym (entries-first w (start_form n row).coeffs)
    ∙ range_map (λ k. get_or (start_form n row).coeffs k zero_ℚ) (λ k. get_or (map whole row) k zero_ℚ) 0 w (λ k l. start_coeff n row k e)
    ∙ entries-first w (map whole row)
