-- The chains of exact rounds are the chains of improvements that the definition means; what is so of all of these.
use Rattle.std.specs.Prelude.{◌≡◌, ◌⊎◌, ℕ, ◌<◌, ◌≤◌, Bool, IsTrue, List, ◌∷◌, length, slice_get, Some, None}
use Rattle.base_numbers.specs.Rational.{ℚ}
use Rattle.flow_systems.specs.Equations.{Equations, Vector, Least}
use Rattle.theory_chains.specs.Offers.{Offer, IsOffer, Exceeds, SomeExceeds, By}
use Rattle.theory_chains.specs.Chains.{Pick, IsChain, EndsAfter, GoesOnAfter}
use Rattle.theory_validity.specs.Certificates.{PointsInRange}
use Rattle.theory_transformers.specs.EdgeProblems.{transformer}
use Rattle.theory_strategy.specs.Policy.{offers}
use Rattle.theory_strategy.specs.PickCount.{pick_count}
use Rattle.theory_rounds.specs.Rounds.{Choice, TakesOne, Goes, exact_next, exact_state}

-- there is an offer of each unknown at a row of the template
abbrev pub OffersAreThere : Type 0
OffersAreThere = (system : Equations) (z : Vector) (p r : ℕ) → r < length system.template → (offer : Offer) × IsOffer system z p r offer

-- a choice follows a policy: of each unknown that the transformers of these edges exceed it takes an edge that the policy may choose
abbrev pub Follows : (Offer → ℕ → Type 0) → Equations → Vector → Choice → Type 0
Follows policy system z choose = (p r k : ℕ) (ks : List ℕ) → r < length system.template → offers system (transformer system) z p r ≡ k ∷ ks
    →
    (offer : Offer) × IsOffer system z p r offer × ((j : ℕ) × policy offer j × Exceeds offer j
    × (slice_get offer.edges j ≡ Some (choose p r k ks)))

-- a chain of exact rounds by choices that follow a policy is a chain of improvements by it, and ends where no choice goes
pub record IsImprovement (policy : Offer → ℕ → Type 0) (fitting : ℚ → Bool) (system : Equations) (choose : ℕ → Choice) (n : ℕ) :
    Type 0 where
  pub chain : IsChain system policy n (λ k. (exact_state fitting system choose k).vector) (λ k. (exact_state fitting system choose k).pick)
  pub ends : exact_next system (choose n) (exact_state fitting system choose n).vector (exact_state fitting system choose n).pick ≡ None →
      EndsAfter system policy n (exact_state fitting system choose n).vector
  pub goes_on : Goes system (choose n) (exact_state fitting system choose n) → GoesOnAfter system policy n

-- chains of exact rounds are chains of improvements by a policy
abbrev pub RoundsAreImprovements : (Offer → ℕ → Type 0) → Type 0
RoundsAreImprovements policy = (fitting : ℚ → Bool) (system : Equations) → PointsInRange system → (choose : ℕ → Choice)
    → ((k : ℕ) → TakesOne (choose k)) →
    (n : ℕ) →
    ((k : ℕ) → k < n → Goes system (choose k) (exact_state fitting system choose k)) →
    ((k : ℕ) → k < n → Follows policy system (exact_state fitting system choose k).vector (choose k))
    → IsImprovement policy fitting system choose n

-- ---- of any chain of improvements
-- a policy that answers the positions at which a test is true
abbrev pub Passing : (Offer → ℕ → Bool) → Offer → ℕ → Type 0
Passing test offer j = IsTrue (test offer j)

-- no pick comes twice, there are fewer improvements than picks, and a chain that ends ends at the least vector
pub record IsShort (policy : Offer → ℕ → Type 0) (system : Equations) (n : ℕ) (vectors : ℕ → Vector) (picks : ℕ → Pick) : Type 0 where
  pub once : (i j : ℕ) → i < j → j ≤ n → ((p r : ℕ) → r < length system.template → picks i p r ≡ picks j p r) → ⊥
  pub few : n < pick_count system

-- chains of improvements by a policy are short
abbrev pub ChainsAreShort : (Offer → ℕ → Type 0) → Type 0
ChainsAreShort policy =
    (system : Equations) → PointsInRange system → (n : ℕ) (vectors : ℕ → Vector) (picks : ℕ → Pick) → IsChain system policy n vectors picks
    →
    IsShort policy system n vectors picks

-- chains of improvements by a policy end at the least vector
abbrev pub EndsAreLeast : (Offer → ℕ → Type 0) → Type 0
EndsAreLeast policy = (system : Equations) → PointsInRange system → (n : ℕ) (v : Vector) → (e : EndsAfter system policy n v)
    → Least system (e.vectors n)

-- ---- of a policy that always chooses
-- so many improvements at most end it
pub record EndsWithin (policy : Offer → ℕ → Type 0) (system : Equations) (limit : ℕ) : Type 0 where
  pub improvements : ℕ
  pub within : improvements ≤ limit
  pub few : improvements < pick_count system
  pub vector : Vector
  pub ends : EndsAfter system policy improvements vector

-- exactly one of both: it ends within a limit, or it goes on after as many
pub record IsDecided (policy : Offer → ℕ → Type 0) (system : Equations) (limit : ℕ) : Type 0 where
  pub one : EndsWithin policy system limit ⊎ GoesOnAfter system policy limit
  pub not_both : EndsWithin policy system limit → GoesOnAfter system policy limit → ⊥

-- a policy ends within every limit or goes on after it
abbrev pub EndsOrGoesOn : (Offer → ℕ → Type 0) → Type 0
EndsOrGoesOn policy = (system : Equations) → PointsInRange system → (limit : ℕ) → IsDecided policy system limit

-- a function of the offer answers a position that exceeds, where there is one
abbrev pub AnswersExceeding : (Offer → ℕ) → Type 0
AnswersExceeding answer = (offer : Offer) → SomeExceeds offer → Exceeds offer (answer offer)

-- by every such function
abbrev pub EveryPolicyEndsOrGoesOn : Type 0
EveryPolicyEndsOrGoesOn = (answer : Offer → ℕ) → AnswersExceeding answer → EndsOrGoesOn (By answer)
