-- Improvements of the system and at the bounds that the code has.
use Rattle.std.specs.Prelude.{◌≡◌, ℕ, List, length, get_or, Option, Some, None, ◌<◌}
use Rattle.std.specs.Option.{option_map}
use Rattle.base_numbers.specs.Rational.{ℚ}
use Rattle.base_numbers.specs.Extended.{Ext as Extended}
use Rattle.base_fractions.specs.Extended.{extended}
use Rattle.base_fractions.specs.declared.ext.Ext.{Ext}
use Rattle.base_fractions.specs.declared.wide.Wide.{Wide}
use Rattle.flow_systems.specs.declared.spot.Part.{Part}
use Rattle.flow_systems.specs.declared.spot.PartFault.TheVariants.{Wide as WideIn}
use Rattle.flow_systems.specs.declared.system.System.{System}
use Rattle.flow_systems.specs.View.{equations_of}
pub use Rattle.flow_systems.specs.View.{vector_at, edge_at, row_at}
use Rattle.theory_strategy.specs.Picks.{Transformer, Supported, Tight}
use Rattle.theory_transformers.specs.EdgeProblems.{transformer}
use Rattle.solve_offers.specs.declared.offer.Offer.{Offer}
use Rattle.solve_offers.specs.Improvement.{pick_of, IsOffer, IsNext, NoneExceeds}
use Rattle.solve_transformer.specs.Values.{IsOperatorFault}

-- the exact transformers of a system
abbrev pub transformers : System → Transformer
transformers system = transformer (equations_of system)

-- what an unknown is offered
abbrev pub IsOfferAt : System → List Extended → ℕ → ℕ → Offer → Type 0
IsOfferAt system bounds p r offer = IsOffer (equations_of system) (transformers system) (vector_at system bounds) p r offer

-- the transformer of an edge and a row
abbrev pub IsTransformerAt : System → List Extended → ℕ → ℕ → Ext → Type 0
IsTransformerAt system bounds edge row value = extended value ≡ transformers system (vector_at system bounds) (edge_at system edge)
    (row_at system row)

-- the first wide operation of a part of the problem of an edge and a row
abbrev pub IsWidePart : System → List Extended → ℕ → ℕ → Part → Wide ℚ → Type 0
IsWidePart system bounds edge row part wide =
    IsOperatorFault (equations_of system) (vector_at system bounds) (edge_at system edge) (row_at system row) (WideIn part wide)

-- no transformer exceeds its bound anywhere
abbrev pub NothingExceeds : System → List Extended → Type 0
NothingExceeds system bounds = NoneExceeds (equations_of system) (transformers system) (vector_at system bounds)

-- the next pick of a policy, none where no transformer exceeds its bound
abbrev pub IsNextPick : System → List Extended → (Offer → ℕ → Type 0) → List (Option ℕ) → Option (List (Option ℕ)) → Type 0
IsNextPick system bounds policy old next =
    IsNext (equations_of system) (transformers system) (vector_at system bounds) policy (pick_of (length system.template) old)
    (option_map (pick_of (length system.template)) next)

-- a pick is tight, or supported
abbrev pub IsTightPick : System → List Extended → List (Option ℕ) → Type 0
IsTightPick system bounds pick = Tight (equations_of system) (transformers system) (vector_at system bounds)
    (pick_of (length system.template) pick)

abbrev pub IsSupportedPick : System → List Extended → List (Option ℕ) → Type 0
IsSupportedPick system bounds pick = Supported (equations_of system) (transformers system) (vector_at system bounds)
    (pick_of (length system.template) pick)

-- each picked edge is one of the system
abbrev pub EdgesAreThere : System → List (Option ℕ) → Type 0
EdgesAreThere system pick = (u edge : ℕ) → get_or pick u None ≡ Some edge → edge < length system.flow.edges
