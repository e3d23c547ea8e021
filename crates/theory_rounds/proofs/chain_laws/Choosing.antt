-- The two policies, and every function of the offer that answers what exceeds, always choose; and the laws of chains by them.
use Rattle.std.proofs.Common.{◌≡◌, ◌⊎◌, inl, inr, ⊎_elim, ℕ, zero, suc, ◌<◌, List, [], ◌∷◌, length, get_or, refl, sym, subst, arith}
use Rattle.base_numbers.specs.Extended.{Ext, neg_inf, fin, pos_inf, ◌≤ᴱ◌, ◌<ᴱ◌}
use Rattle.base_numbers.proofs.extended.ExtendedLaws.{≤ᴱ_refl, ≤ᴱ_trans, ext_le_or_lt, ext_le_of_lt, ext_not_le_of_lt, ext_lt_of_lt_of_le}
use Rattle.theory_chains.specs.Offers.{Offer, Exceeds, Best, First, By}
use Rattle.theory_chains.specs.Laws.{AnswersOne}
use Rattle.theory_chains.proofs.chains.OneChain.{by_is_one}
use Rattle.theory_rounds.specs.ChainLaws.{OffersAreThere, RoundsAreImprovements, EndsOrGoesOn, EveryPolicyEndsOrGoesOn}
use Rattle.theory_rounds.proofs.rounds.Meant.{exact_offer, offer_meant}
use Rattle.theory_rounds.proofs.rounds.Linked.{improvement_meant}
use Rattle.theory_rounds.proofs.rounds.Existing.{Chooses, decided}
use Rattle.theory_rounds.proofs.rounds.Retraced.{none_fits}

-- nothing is below -inf
nothing_below : (x : Ext) → x <ᴱ neg_inf → ⊥
nothing_below neg_inf h = h
nothing_below (fin c) h = h
nothing_below pos_inf h = h

least_first : (x : Ext) → neg_inf ≤ᴱ x
least_first x = tt

-- ---- the best
record Greatest (values : List Ext) : Type 0 where
  position : ℕ
  within : position < length values
  greatest : (i : ℕ) → get_or values i neg_inf ≤ᴱ get_or values position neg_inf
  first : (i : ℕ) → i < position → get_or values i neg_inf <ᴱ get_or values position neg_inf

greatest_of : (x : Ext) (xs : List Ext) → Greatest (x ∷ xs)
greatest_of x [] = record { position = 0; within = omega arith; greatest = all; first = λ i l. absurd (omega arith) }
  where
    all : (i : ℕ) → get_or (x ∷ []) i neg_inf ≤ᴱ x
    all zero = ≤ᴱ_refl x
    all (suc i) = least_first x
greatest_of x (y ∷ ys) = by (greatest_of y ys)
  where
    by : Greatest (y ∷ ys) → Greatest (x ∷ y ∷ ys)
    by g = ⊎_elim before after (ext_le_or_lt (get_or (y ∷ ys) g.position neg_inf) x)
      where
        before : get_or (y ∷ ys) g.position neg_inf ≤ᴱ x → Greatest (x ∷ y ∷ ys)
        before h = record { position = 0; within = omega arith; greatest = all; first = λ i l. absurd (omega arith) }
          where
            all : (i : ℕ) → get_or (x ∷ y ∷ ys) i neg_inf ≤ᴱ x
            all zero = ≤ᴱ_refl x
            all (suc i) = ≤ᴱ_trans (get_or (y ∷ ys) i neg_inf) (get_or (y ∷ ys) g.position neg_inf) x (g.greatest i) h

        after : x <ᴱ get_or (y ∷ ys) g.position neg_inf → Greatest (x ∷ y ∷ ys)
        after h = record { position = suc g.position; within = (let w = g.within in omega arith); greatest = all; first = firsts }
          where
            all : (i : ℕ) → get_or (x ∷ y ∷ ys) i neg_inf ≤ᴱ get_or (y ∷ ys) g.position neg_inf
            all zero = ext_le_of_lt x (get_or (y ∷ ys) g.position neg_inf) h
            all (suc i) = g.greatest i

            firsts : (i : ℕ) → i < suc g.position → get_or (x ∷ y ∷ ys) i neg_inf <ᴱ get_or (y ∷ ys) g.position neg_inf
            firsts zero l = h
            firsts (suc i) l = g.first i (omega arith)

-- the policy of the best edge always chooses
pub best_chooses : Chooses Best
best_chooses offer s = by offer.values refl
  where
    by : (values : List Ext) → offer.values ≡ values → (j : ℕ) × Best offer j × Exceeds offer j
    by [] e = absurd (nothing_below offer.bound (subst (λ vs. offer.bound <ᴱ get_or vs s.0 neg_inf) e s.1))
    by (x ∷ xs) e =
        let g = subst Greatest (sym e) (greatest_of x xs) in (
          g.position,
          record { within = g.within; greatest = g.greatest; first = g.first },
          ext_lt_of_lt_of_le offer.bound (get_or offer.values s.0 neg_inf) (get_or offer.values g.position neg_inf) s.1 (g.greatest s.0),
        )

-- ---- the first
record Earliest (bound : Ext) (values : List Ext) : Type 0 where
  position : ℕ
  exceeds : bound <ᴱ get_or values position neg_inf
  first : (i : ℕ) → i < position → get_or values i neg_inf ≤ᴱ bound

earliest_of : (bound : Ext) (values : List Ext) (j : ℕ) → bound <ᴱ get_or values j neg_inf → Earliest bound values
earliest_of bound [] j h = absurd (nothing_below bound h)
earliest_of bound (x ∷ xs) j h = by (ext_le_or_lt x bound) j h (λ i g. earliest_of bound xs i g)
  where
    by : (x ≤ᴱ bound) ⊎ (bound <ᴱ x) → (j : ℕ) → bound <ᴱ get_or (x ∷ xs) j neg_inf
        → ((i : ℕ) → bound <ᴱ get_or xs i neg_inf → Earliest bound xs) → Earliest bound (x ∷ xs)
    by (inr lt) j h rec = record { position = 0; exceeds = lt; first = λ i l. absurd (omega arith) }
    by (inl le) zero h rec = absurd (ext_not_le_of_lt bound x h le)
    by (inl le) (suc i) h rec = let e = rec i h in record { position = suc e.position; exceeds = e.exceeds; first = firsts e }
      where
        firsts : (e : Earliest bound xs) → (i : ℕ) → i < suc e.position → get_or (x ∷ xs) i neg_inf ≤ᴱ bound
        firsts e zero l = le
        firsts e (suc i) l = e.first i (omega arith)

-- the policy of the first edge always chooses
pub first_chooses : Chooses First
first_chooses offer s = let e = earliest_of offer.bound offer.values s.0 s.1 in
    (e.position, record { exceeds = e.exceeds; first = e.first }, e.exceeds)

-- ---- laws
-- each unknown at a row of the template has an offer
pub offers_law : OffersAreThere
offers_law system z p r l = (exact_offer system z p r, offer_meant system z p r l)

-- chains of exact rounds by choices that follow a policy are chains of improvements by it
pub improvements_law : (policy : Offer → ℕ → Type 0) → RoundsAreImprovements policy
improvements_law policy fitting system range choose among n goes follows =
    improvement_meant policy fitting system range choose among n goes follows

-- chains by a policy that always chooses and answers one position end within a limit or go on after it
pub decided_law : (policy : Offer → ℕ → Type 0) → Chooses policy → AnswersOne policy → EndsOrGoesOn policy
decided_law policy chooses one system range limit = decided policy chooses none_fits system range one limit

-- by every function that answers what exceeds, chains end within a limit or go on after it
pub every_decided : EveryPolicyEndsOrGoesOn
every_decided answer exceeds = decided_law (By answer) (λ offer s. (answer offer, refl, exceeds offer s)) (by_is_one answer)
