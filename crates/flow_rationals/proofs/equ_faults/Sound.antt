-- Parts without a fault have no second number that is 0.
use Rattle.std.proofs.Common.{◌≡◌, ◌∙◌, ◌++◌, false, is_some, Option, List, [], ◌∷◌, sym, ap}
use Rattle.std.specs.List.{flat_map}
use Rattle.flow_rationals.specs.declared.fault.EquFault.{EquFault}
use Rattle.flow_rationals.specs.declared.reading.written.Part.{Part}
use Rattle.flow_rationals.specs.declared.reading.written.Written.{Written}
use Rattle.flow_rationals.specs.WrittenSums.{part_below}
use Rattle.flow_rationals.specs.EquFaults.{below_faults, names_faults, part_faults, FirstOf}
use Rattle.flow_rationals.specs.Totals.{NoZeros}
use Rattle.flow_rationals.proofs.equ_faults.First.{front_none, back_none, none_found}

-- parts without a fault have no second number that is 0
pub sound_parts : (es : List Written) (ps : List Part) → flat_map (part_faults es) ps ≡ [] → NoZeros ps
sound_parts es [] h = tt
sound_parts es (p ∷ ps) h = (
  front_none (below_faults (part_below p)) (names_faults es p) (front_none (part_faults es p) (flat_map (part_faults es) ps) h),
  sound_parts es ps (back_none (part_faults es p) (flat_map (part_faults es) ps) h),
)

-- a sum for whose parts no fault was found has no second number that is 0
pub sound_sum : (es : List Written) (first : Part) (more told : List Part) (o : Option EquFault) → is_some o ≡ false → told ≡ more
    → FirstOf o (part_faults es first ++ flat_map (part_faults es) told) → NoZeros (first ∷ more)
sound_sum es first more told o h e f =
    sound_parts es (first ∷ more) (ap (λ x. part_faults es first ++ flat_map (part_faults es) x) (sym e) ∙ none_found o _ h f)
