use Rattle.std.proofs.Common.{◌≡◌, ◌<◌, ◌≤ℤ◌, to_z, of_z, ap₂, sym, ◌∙◌, subst}
use mir.Syntax.{w64}
use Rattle.std.specs.Int.{int_div_euclid}
use Rattle.std.proofs.lemmas.Int.{to_z-of_z}
use Rattle.base_numbers.specs.Rational.{whole, floor, ◌≤ℚ◌}
use Rattle.base_numbers.proofs.rational.Reps.{den_pos}
use Rattle.base_numbers.proofs.rational.Laws.{floor-euclid, floor_le, floor_greatest}
use Rattle.base_fractions.proofs.frac.Exact+LongLimit.floor.Goals as goal

is_floor : (c : goal.After-div_euclid) → to_z w64 (of_z w64 c.div_euclid.result) ≡ floor c.args.self
is_floor c =
    to_z-of_z w64 c.div_euclid.result record { sfits = c.div_euclid.type_inv } ∙ c.div_euclid.ensures
    ∙ ap₂ int_div_euclid (to_z-of_z w64 c.num.result record { sfits = c.num.type_inv } ∙ c.num.ensures.value)
    (to_z-of_z w64 c.den.result record { sfits = c.den.type_inv } ∙ c.den.ensures.value)
    ∙ floor-euclid c.args.self

pub div_euclid-requires-clause-nonzero : goal.div_euclid-requires-clause-nonzero
div_euclid-requires-clause-nonzero c =
    subst (λ z. 0 < of_z w64 z) (sym (to_z-of_z w64 c.den.result record { sfits = c.den.type_inv } ∙ c.den.ensures.value))
    (den_pos c.args.self)

pub returns-clause-value : goal.returns-clause-value
returns-clause-value c = is_floor c

pub returns-clause-below : goal.returns-clause-below
returns-clause-below c = subst (λ z. whole z ≤ℚ c.args.self) (sym (is_floor c)) (floor_le c.args.self)

pub returns-clause-greatest : goal.returns-clause-greatest
returns-clause-greatest c = λ z h. subst (λ w. z ≤ℤ w) (sym (is_floor c)) (floor_greatest c.args.self z h)
