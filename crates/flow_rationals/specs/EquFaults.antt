-- The faults of written equations, in order: the first one decides.
use Rattle.std.specs.Prelude.{◌≡◌, ◌==◌, ℕ, if◌then◌else◌, List, [], ◌∷◌, ◌++◌, length, take, nat_le, slice_get, Option, Some, None}
use Rattle.std.specs.List.{list_any, flat_map, enumerate_from, sum_by}
use Rattle.flow_rationals.specs.declared.fault.EquFault.{EquFault}
use Rattle.flow_rationals.specs.declared.fault.EquFault.TheVariants.{NameTwice, Count, UnknownName, ZeroBelow, Terms, Big, Alternatives}
use Rattle.flow_rationals.specs.declared.limits.TheConstants.{MOST_EQUATIONS, MOST_ALTERNATIVES, MOST_SUMS}
use Rattle.flow_rationals.specs.declared.reading.written.Below.{Below}
use Rattle.flow_rationals.specs.declared.reading.written.Ratio.{Ratio}
use Rattle.flow_rationals.specs.declared.reading.written.Part.{Part}
use Rattle.flow_rationals.specs.declared.reading.written.Part.TheVariants.{Multiple, Constant}
use Rattle.flow_rationals.specs.declared.reading.written.Addends.{Addends}
use Rattle.flow_rationals.specs.declared.reading.written.Choice.{Choice}
use Rattle.flow_rationals.specs.declared.reading.written.Choice.TheVariants.{Alone, Least}
use Rattle.flow_rationals.specs.declared.reading.written.Written.{Written}
use Rattle.flow_rationals.specs.WrittenSums.{is_named, part_below, parts_of, is_small}

-- a second number that is 0
abbrev pub below_faults : Option Below → List EquFault
below_faults None = []
below_faults (Some b) = if b.den == 0 then ZeroBelow b.at ∷ [] else []

-- a name without an equation
abbrev pub name_faults : List Written → List ℕ → ℕ → List EquFault
name_faults es name at = if list_any (is_named name) es then [] else UnknownName at ∷ []

-- a name of a part without an equation
abbrev pub names_faults : List Written → Part → List EquFault
names_faults es (Multiple factor name at) = name_faults es name at
names_faults es (Constant minus ratio) = []

-- the faults of a part: its ratio stands before its name
abbrev pub part_faults : List Written → Part → List EquFault
part_faults es p = below_faults (part_below p) ++ names_faults es p

-- the place of a multiple's first token
abbrev pub multiple_at : Option Ratio → ℕ → ℕ
multiple_at None at = at
multiple_at (Some r) at = r.at

-- the place of a constant's first token
abbrev pub constant_at : Option ℕ → ℕ → ℕ
constant_at None at = at
constant_at (Some minus) at = minus

-- the place of a part's first token
abbrev pub part_at : Part → ℕ
part_at (Multiple factor name at) = multiple_at factor at
part_at (Constant minus ratio) = constant_at minus ratio.at

-- numbers of a sum that are too great; it comes after the faults of the sum's parts
abbrev pub big_faults : List Written → Addends → List EquFault
big_faults es s = if is_small es s then [] else Big (part_at s.first) ∷ []

-- the faults of a sum
abbrev pub sum_faults : List Written → Addends → List EquFault
sum_faults es s = flat_map (part_faults es) (parts_of s) ++ big_faults es s

-- the faults of the sum of this number, from 0, in its alternative
abbrev pub nth_sum_faults : List Written → ℕ × Addends → List EquFault
nth_sum_faults es (k, s) = (if k == MOST_SUMS then Terms (part_at s.first) ∷ [] else []) ++ sum_faults es s

-- the sums of an alternative
abbrev pub sums_of : Choice → List Addends
sums_of (Alone s) = s ∷ []
sums_of (Least first more) = first ∷ more

-- the faults of an alternative
abbrev pub choice_faults : List Written → Choice → List EquFault
choice_faults es c = flat_map (nth_sum_faults es) (enumerate_from 0 (sums_of c))

-- the faults of an equation
abbrev pub equation_faults : List Written → Written → List EquFault
equation_faults es e = below_faults e.start.below ++ flat_map (choice_faults es) e.choices

-- a name that an equation before has
abbrev pub twice_faults : List Written → ℕ × Written → List EquFault
twice_faults es (k, e) = if list_any (is_named e.name) (take k es) then NameTwice e.at ∷ [] else []

-- too many equations
abbrev pub count_faults : ℕ → List EquFault
count_faults count = if nat_le count MOST_EQUATIONS then [] else Count count ∷ []

-- too many alternatives of all equations
abbrev pub alternatives_faults : ℕ → List EquFault
alternatives_faults count = if nat_le count MOST_ALTERNATIVES then [] else Alternatives count ∷ []

-- how many alternatives there are in all
abbrev pub choice_count : List Written → ℕ
choice_count es = sum_by (λ e. length e.choices) es

-- all faults of written equations
abbrev pub faults_of : List Written → List EquFault
faults_of es =
    flat_map (twice_faults es) (enumerate_from 0 es)
    ++ (count_faults (length es) ++ (flat_map (equation_faults es) es ++ alternatives_faults (choice_count es)))

-- The fault is the first of these, and there is none where they are none.
abbrev pub FirstOf : Option EquFault → List EquFault → Type 0
FirstOf None faults = faults ≡ []
FirstOf (Some fault) faults = slice_get faults 0 ≡ Some fault
