-- The laws of chains of improvements.
use Rattle.std.specs.Prelude.{◌≡◌, ℕ, ℤ, List, ◌<◌, ◌≤◌, length}
use Rattle.base_numbers.specs.Extended.{Ext}
use Rattle.flow_edges.specs.declared.edge.Edge.{Edge}
use Rattle.flow_systems.specs.Equations.{Equations, Vector}
use Rattle.theory_chains.specs.Transformers.{IsTransformer}
use Rattle.theory_chains.specs.Offers.{Offer, IsOffer, By}
use Rattle.theory_chains.specs.Chains.{Pick, IsChain, EndsAfter, GoesOnAfter}

-- there is one transformer of an edge and a row
abbrev pub TransformersAreOne : Type 0
TransformersAreOne = (system : Equations) (v : Vector) (edge : Edge) (row : List ℤ) (number other : Ext) →
    IsTransformer system v edge row number → IsTransformer system v edge row other → number ≡ other

-- and one offer of an unknown
abbrev pub OffersAreOne : Type 0
OffersAreOne = (system : Equations) (v : Vector) (p r : ℕ) (offer other : Offer) →
    IsOffer system v p r offer → IsOffer system v p r other → offer ≡ other

-- a policy answers one position of an offer
abbrev pub AnswersOne : (Offer → ℕ → Type 0) → Type 0
AnswersOne policy = (offer : Offer) (j k : ℕ) → policy offer j → policy offer k → j ≡ k

-- the same vectors and picks at the template's rows after k improvements
pub record IsSameAfter (system : Equations) (k : ℕ) (vectors others : ℕ → Vector) (picks more : ℕ → Pick) : Type 0 where
  pub vector : (p r : ℕ) → r < length system.template → vectors k p r ≡ others k p r
  pub pick : (p r : ℕ) → r < length system.template → picks k p r ≡ more k p r

-- by a policy there is one chain
abbrev pub HasOneChain : (Offer → ℕ → Type 0) → Type 0
HasOneChain policy =
    (system : Equations) (n m : ℕ) (vectors others : ℕ → Vector) (picks more : ℕ → Pick) →
    IsChain system policy n vectors picks → IsChain system policy m others more →
    (k : ℕ) → k ≤ n → k ≤ m → IsSameAfter system k vectors others picks more

-- and one number of improvements
abbrev pub HasOneNumber : (Offer → ℕ → Type 0) → Type 0
HasOneNumber policy = (system : Equations) (n m : ℕ) (v w : Vector) → EndsAfter system policy n v → EndsAfter system policy m w → n ≡ m

-- which is above each number of improvements after which it goes on
abbrev pub GoesOnBelow : (Offer → ℕ → Type 0) → Type 0
GoesOnBelow policy = (system : Equations) (limit n : ℕ) (v : Vector) → GoesOnAfter system policy limit → EndsAfter system policy n v
    → limit < n

-- all of these
pub record IsDetermined (policy : Offer → ℕ → Type 0) : Type 0 where
  pub chain : HasOneChain policy
  pub number : HasOneNumber policy
  pub above : GoesOnBelow policy

-- by a policy that answers by the offer alone
abbrev pub DeterminedByOffers : Type 0
DeterminedByOffers = (answer : Offer → ℕ) → IsDetermined (By answer)
