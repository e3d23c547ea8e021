-- Which pairs are together decides over packs, which lie between intervals and octagons.
use Rattle.std.proofs.Common.{◌≡◌, ◌≤◌, ◌<◌, ◌+◌, ℕ, suc, zero, Bool, true, false, cond, ◌&&◌, eqb, List, [], ◌∷◌, ◌++◌, length, ap, ap₂, ℤ}
use Rattle.std.proofs.Common.{sym, ◌∙◌, refl, arith, ⊎_elim, inl, inr, append-nil, length-append}
use Rattle.std.specs.Prelude.{not, ◌⊎◌}
use Rattle.std.specs.List.{range_with_len, flat_map}
use Rattle.std.proofs.lemmas.Bool.{cases_order}
use Rattle.flow_templates.specs.Domains.{intervals_of, signed_sums}
use Rattle.flow_templates.proofs.counted.Rows.{signed_sums_none}
use Rattle.lang_groups.specs.Groups.{are_together}
use Rattle.flow_packs.specs.Packs.{sums_together, packs_of}
use Rattle.flow_packs.specs.Laws.{OneOfGroups, NoneAreIntervals, AllAreOctagons, NoMoreThanOctagons}

module _ {X : Type 0} where
  -- parts that are the same one by one are the same lists
  parts_same : (f g : ℕ → List X) (a n : ℕ) → ((k : ℕ) → a ≤ k → k < a + n → f k ≡ g k)
      → flat_map f (range_with_len a n) ≡ flat_map g (range_with_len a n)
  parts_same f g a zero h = refl
  parts_same f g a (suc n) h =
      ap₂ (λ x y. x ++ y) (h a (omega arith) (omega arith)) (parts_same f g (a + 1) n (λ k l m. h k (omega arith) (omega arith)))

  -- empty parts are nothing
  parts_none : (f : ℕ → List X) (a n : ℕ) → ((k : ℕ) → f k ≡ []) → flat_map f (range_with_len a n) ≡ []
  parts_none f a zero h = refl
  parts_none f a (suc n) h = ap₂ (λ x y. x ++ y) (h a) (parts_none f (a + 1) n h)

  -- parts that have no more one by one have no more
  parts_most : (f g : ℕ → List X) (a n : ℕ) → ((k : ℕ) → length (f k) ≤ length (g k))
      → length (flat_map f (range_with_len a n)) ≤ length (flat_map g (range_with_len a n))
  parts_most f g a zero h = omega arith
  parts_most f g a (suc n) h =
      let here = h a in
      let more = parts_most f g (a + 1) n h in
      omega (
        arith,
        here,
        more,
        length-append (f a) (flat_map f (range_with_len (a + 1) n)),
        length-append (g a) (flat_map g (range_with_len (a + 1) n)),
      )

  fewer : (b : Bool) (xs : List X) → length (cond b xs []) ≤ length xs
  fewer true xs = omega arith
  fewer false xs = omega arith

  none_anyway : (b : Bool) (xs : List X) → [] ≡ xs → cond b xs [] ≡ xs
  none_anyway true xs e = refl
  none_anyway false xs e = e

and_none : (b : Bool) → (b && false) ≡ false
and_none true = refl
and_none false = refl

-- the sums of a variable with the others
abbrev sums_of : ℕ → List (List ℕ) → ℕ → List (List ℤ)
sums_of n groups i = flat_map (sums_together n groups i) (range_with_len 0 n)

-- those that it has among octagons
abbrev all_sums_of : ℕ → ℕ → List (List ℤ)
all_sums_of n i = flat_map (signed_sums n i) (range_with_len 0 n)

-- where the same variables are together, packs are the same
pub packs_same : OneOfGroups
packs_same n groups others s =
    ap (λ rows. intervals_of n ++ rows)
    (parts_same (sums_of n groups) (sums_of n others) 0 n (λ i l m.
    parts_same (sums_together n groups i) (sums_together n others i) 0 n (λ j p q. ap (λ b. cond b (signed_sums n i j) []) (s.same i j))))

-- without groups no pair is together
pub packs_none : NoneAreIntervals
packs_none n =
    ap (λ rows. intervals_of n ++ rows)
    (parts_none (sums_of n []) 0 n (λ i.
    parts_none (sums_together n [] i) 0 n (λ j. ap (λ b. cond b (signed_sums n i j) []) (and_none (not (eqb i j))))))
    ∙ append-nil _

above_or_not : (i j : ℕ) → (i < j) ⊎ (j ≤ i)
above_or_not i j = ⊎_elim (λ e. inr (omega arith)) (λ o. ⊎_elim (λ k. inl k) (λ (k : j < i). inr (omega arith)) o) (cases_order i j)

-- where each pair is together, each has its sums
pub packs_all : AllAreOctagons
packs_all n groups h =
    ap (λ rows. intervals_of n ++ rows)
    (parts_same (sums_of n groups) (all_sums_of n) 0 n (λ i l m.
    parts_same (sums_together n groups i) (signed_sums n i) 0 n (λ j p q.
    ⊎_elim (λ (k : i < j). ap (λ b. cond b (signed_sums n i j) []) (h i j k (omega arith)))
    (λ (k : j ≤ i). none_anyway (are_together groups i j) (signed_sums n i j) (signed_sums_none n i j k)) (above_or_not i j))))

-- a pair has no more sums than among octagons
pub packs_most : NoMoreThanOctagons
packs_most n groups =
    let pairs = flat_map (sums_of n groups) (range_with_len 0 n) in
    let others = flat_map (all_sums_of n) (range_with_len 0 n) in
    let few = parts_most (sums_of n groups) (all_sums_of n) 0 n (λ i.
    parts_most (sums_together n groups i) (signed_sums n i) 0 n (λ j. fewer (are_together groups i j) (signed_sums n i j))) in
    omega (arith, few, length-append (intervals_of n) pairs, length-append (intervals_of n) others)
