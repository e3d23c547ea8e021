-- Keys of a set of numbers.
use Rattle.std.proofs.Common.{◌≡◌, ◌∙◌, ◌⊎◌, ◌↔◌, inl, inr, ⊎_elim, ℕ, ◌<◌, List, [], ◌∷◌, sym, subst, arith}
use Rattle.std.specs.declared.cmp.Ordering.TheVariants.{Less, Equal, Greater}
use Rattle.std.specs.Ordering.{nat_cmp, match_ordering}
use Rattle.std.specs.Cmp.{nat_cmp_is}
use Rattle.std.specs.BTreeSet.{insert_key}
use Rattle.std.specs.List.{All}
use Rattle.std.proofs.lemmas.Bool.{cases_lt}
use Rattle.std.proofs.lemmas.Bool.Decides.{eqb_tells}
use Rattle.std.proofs.lemmas.List.Elements.{All-contains}
use Rattle.base_facts.specs.Elements.{In}
use Rattle.base_facts.proofs.elements.Membership.{contains_from_in}

-- one number is less than another, the same, or greater
data Order (k y : ℕ) : Type 0 where
  less : k < y → nat_cmp k y ≡ Less → Order k y
  same : k ≡ y → nat_cmp k y ≡ Equal → Order k y
  greater : y < k → nat_cmp k y ≡ Greater → Order k y

order : (k y : ℕ) → Order k y
order k y = ⊎_elim
    (λ l. Order.less l (sym (nat_cmp_is k y Less l)))
    (λ l. ⊎_elim
    (λ t. Order.same t.1 (sym (nat_cmp_is k y Equal t.1)))
    (λ t. let g : y < k = (let apart = t.1 in omega (arith, l, apart)) in Order.greater g (sym (nat_cmp_is k y Greater g)))
    (eqb_tells k y))
    (cases_lt k y)

-- a number that compares as less is less
pub less_from : (k y : ℕ) → nat_cmp k y ≡ Less → k < y
less_from k y e = by (order k y)
  where
    by : Order k y → k < y
    by (Order.less l o) = l
    by (Order.same l o) = absurd (let n : Less ≡ Equal = sym e ∙ o in cc)
    by (Order.greater l o) = absurd (let n : Less ≡ Greater = sym e ∙ o in cc)

-- the keys of a set into which a number is put
pub in_insert : (ks : List ℕ) (k x : ℕ) → In (insert_key nat_cmp ks k) x ↔ (In ks x ⊎ (k ≡ x))
in_insert [] k x = (λ h. ⊎_elim (λ s. inr s) (λ s. absurd s) h, λ h. ⊎_elim (λ s. absurd s) (λ s. inl s) h)
in_insert (y ∷ ks) k x = by (order k y) (in_insert ks k x)
  where
    by : Order k y → In (insert_key nat_cmp ks k) x ↔ (In ks x ⊎ (k ≡ x)) → In (insert_key nat_cmp (y ∷ ks) k) x ↔ (In (y ∷ ks) x ⊎ (k ≡ x))
    by (Order.less l o) more = subst (λ r. In (match_ordering r (k ∷ y ∷ ks) (y ∷ ks) (y ∷ insert_key nat_cmp ks k)) x
        ↔ (In (y ∷ ks) x ⊎ (k ≡ x))) (sym o) (
          λ h. ⊎_elim (λ s. inr s) (λ s. inl s) h,
          λ h. ⊎_elim (λ s. inr s) (λ s. inl s) h,
        )
    by (Order.same l o) more = subst (λ r. In (match_ordering r (k ∷ y ∷ ks) (y ∷ ks) (y ∷ insert_key nat_cmp ks k)) x
        ↔ (In (y ∷ ks) x ⊎ (k ≡ x))) (sym o) (λ h. inl h, λ h. ⊎_elim (λ s. s) (λ s. inl (sym l ∙ s)) h)
    by (Order.greater l o) more = subst (λ r. In (match_ordering r (k ∷ y ∷ ks) (y ∷ ks) (y ∷ insert_key nat_cmp ks k)) x
        ↔ (In (y ∷ ks) x ⊎ (k ≡ x))) (sym o) (
          λ h. ⊎_elim (λ s. inl (inl s)) (λ s. ⊎_elim (λ t. inl (inr t)) (λ t. inr t) (more.0 s)) h,
          λ h. ⊎_elim (λ s. ⊎_elim (λ t. inl t) (λ t. inr (more.1 (inl t))) s) (λ s. inr (more.1 (inr s))) h,
        )

-- a number below all keys is below each
pub above_first : (k : ℕ) (ks : List ℕ) → All (λ y. nat_cmp k y ≡ Less) ks → (x : ℕ) → In ks x → k < x
above_first k ks h x m = less_from k x (All-contains (λ y. nat_cmp k y ≡ Less) ks x h (contains_from_in ks x m))
