-- The cut of a list of picked unknowns into parts by dependence, in order.
use Rattle.std.specs.Prelude.{◌≡◌, ℕ, zero, suc, ◌<◌, ◌&&◌, ◌||◌, not, eqb, Bool, true, false, List, [], ◌∷◌, ◌++◌, length, Option, Some}
use Rattle.std.specs.Prelude.{None, if◌then◌else◌}
use Rattle.std.proofs.Common.{◌⊎◌}
use Rattle.base_facts.specs.Elements.{In}
use Rattle.flow_systems.specs.Equations.{Equations}
use Rattle.theory_transformers.specs.JointProblems.{Listed, picked}

-- one unknown leans on another where that one stands at the source of its picked edge
unfoldable pub leans : Equations → Listed → Listed → Bool
leans system u v = eqb (picked system u).from v.point

-- whether two unknowns are equal
unfoldable pub same : Listed → Listed → Bool
same u v = eqb u.point v.point && (eqb u.row v.row && eqb u.edge v.edge)

-- a chain of unknowns, each leaning on the next, those behind the first in the list
pub data Chain (system : Equations) (list : List Listed) : Listed → Listed → Type 0 where
  stays : (u : Listed) → Chain system list u u
  goes : (u w v : Listed) → leans system u w ≡ true → In list w → Chain system list w v → Chain system list u v

-- whether one unknown is another or leans on it, directly or through those of a list
unfoldable pub reaches : Equations → List Listed → Listed → Listed → Bool
reaches system [] u v = same u v || leans system u v
reaches system (x ∷ xs) u v = reaches system xs u v || (reaches system xs u x && reaches system xs x v)

-- whether two unknowns are in one part
unfoldable pub together : Equations → List Listed → Listed → Listed → Bool
together system list u v = reaches system list u v && reaches system list v u

-- whether a test passes at each unknown of a list
unfoldable pub all_in : (Listed → Bool) → List Listed → Bool
all_in f [] = true
all_in f (u ∷ list) = f u && all_in f list

-- the unknowns of a list at which a test passes, in order
unfoldable pub keep : (Listed → Bool) → List Listed → List Listed
keep f [] = []
keep f (u ∷ list) = if f u then u ∷ keep f list else keep f list

-- the first unknown of a list at which a test passes
unfoldable pub first_of : (Listed → Bool) → List Listed → Option Listed
first_of f [] = None
first_of f (u ∷ list) = if f u then Some u else first_of f list

-- whether, among the unknowns not yet placed, all members of an unknown's part lean only on the part itself
unfoldable pub ready : Equations → List Listed → List Listed → Listed → Bool
ready system list rest u = all_in (λ v. not (together system list u v)
    || all_in (λ w. not (leans system v w) || together system list u w) rest) rest

-- the part of an unknown, and then those of the unknowns left
unfoldable pub part_before : Equations → List Listed → List Listed → (List Listed → List (List Listed)) → Option Listed → List (List Listed)
part_before system list rest more None = []
part_before system list rest more (Some u) = keep (together system list u) rest ∷ more (keep (λ v. not (together system list u v)) rest)

-- the parts of the unknowns not yet placed, at most so many: next comes the part of the first unknown whose part is ready
unfoldable pub parts_from : ℕ → Equations → List Listed → List Listed → List (List Listed)
parts_from zero system list rest = []
parts_from (suc n) system list rest = part_before system list rest (parts_from n system list) (first_of (ready system list rest) rest)

-- the parts of a rising list, in order
unfoldable pub parts : Equations → List Listed → List (List Listed)
parts system list = parts_from (length list) system list list

-- an unknown is in some part
abbrev pub InSome : List (List Listed) → Listed → Type 0
InSome [] u = ⊥
InSome (part ∷ more) u = In part u ⊎ InSome more u

-- a member leans on no listed unknown but those of its own part and of earlier ones
abbrev pub Admissible : Equations → List Listed → List Listed → List (List Listed) → Type 0
Admissible system list placed [] = Unit {0}
Admissible system list placed (part ∷ more) =
    ((u v : Listed) → In part u → In list v → leans system u v ≡ true → In part v ⊎ In placed v)
    × Admissible system list (placed ++ part) more

-- the members of one part reach each other, and no member of a later part
abbrev pub AreClasses : Equations → List Listed → List (List Listed) → Type 0
AreClasses system list [] = Unit {0}
AreClasses system list (part ∷ more) =
    ((u v : Listed) → In part u → In part v → together system list u v ≡ true)
    × ((u v : Listed) → In part u → InSome more v → together system list u v ≡ false) × AreClasses system list more

-- a list cut at its first element that has a property
pub record FirstHas (f : Listed → Bool) (list : List Listed) (u : Listed) : Type 0 where
  pub before : List Listed
  pub behind : List Listed
  pub cut : list ≡ before ++ (u ∷ behind)
  pub has : f u ≡ true
  pub none : (v : Listed) → In before v → f v ≡ false

-- each part is that of the first unknown not yet placed whose part may come next
abbrev pub InOrder : Equations → List Listed → List Listed → List (List Listed) → Type 0
InOrder system list rest [] = rest ≡ []
InOrder system list rest (part ∷ more) =
    (u : Listed) × FirstHas (ready system list rest) rest u × (part ≡ keep (together system list u) rest)
    × InOrder system list (keep (λ v. not (together system list u v)) rest) more

-- one unknown comes before another: by point and then by row
abbrev pub Lower : Listed → Listed → Type 0
Lower u v = (u.point < v.point) ⊎ ((u.point ≡ v.point) × (u.row < v.row))

-- an unknown comes before each of a list
abbrev pub LowerThanAll : Listed → List Listed → Type 0
LowerThanAll u [] = Unit {0}
LowerThanAll u (v ∷ list) = Lower u v × LowerThanAll u list

-- the list rises
abbrev pub IsRising : List Listed → Type 0
IsRising [] = Unit {0}
IsRising (u ∷ list) = LowerThanAll u list × IsRising list

-- each part rises
abbrev pub AllRise : List (List Listed) → Type 0
AllRise [] = Unit {0}
AllRise (part ∷ more) = IsRising part × AllRise more
