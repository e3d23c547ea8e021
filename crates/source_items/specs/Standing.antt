-- What the code's reading of a file stands for.
use Rattle.std.specs.Prelude.{◌≡◌, ◌∷◌, ◌++◌, ℕ, suc, Bool, true, false, List, [], map, reverse, length, Option, Some, None}
use Rattle.source_items.specs.declared.mark.Mark.{Mark}
use Rattle.source_items.specs.declared.mark.Mark.TheVariants.{Opens}
use Rattle.source_items.specs.declared.division.Reading.{Reading}
use Rattle.source_items.specs.Elements.{Element, Elements, spelled, all_spelled, Matches, AllMatch}
use Rattle.source_items.specs.Divisions.{placed}
use Rattle.source_items.specs.Machine.{Level, State, Parts, last_of, parts_of, width_of, IsBegun}

-- the tokens that have been read
abbrev pub written : Elements → List Level → List Mark
written base [] = all_spelled base
written base (l ∷ ls) = written base ls ++ Opens l.bracket ∷ all_spelled l.inside

-- each element inside of brackets matches
abbrev pub LevelsMatch : List Level → Type 0
LevelsMatch [] = Unit {0}
LevelsMatch (l ∷ ls) = AllMatch l.inside × LevelsMatch ls

-- and each outside of them
pub record IsWell (st : State) : Type 0 where
  pub base : AllMatch st.base
  pub levels : LevelsMatch st.brackets

-- what has been met outside of brackets, by the items that have ended
pub record MeetsAt (p : Parts) (r : Reading) : Type 0 where
  pub items : r.items.items ≡ placed 0 p.done
  pub first : r.first ≡ width_of p.done
  pub begun : IsBegun (width_of p.done) p.before r.begun

-- the same by the elements
abbrev pub Meets : Elements → Reading → Type 0
Meets base r = MeetsAt (parts_of base) r

-- the reading stands for what has been met
pub record IsMet (st : State) (r : Reading) : Type 0 where
  pub brackets : map (λ (l : Level). l.bracket) st.brackets ≡ reverse r.brackets.items
  pub well : IsWell st
  pub meets : Meets st.base r

-- the reading behind so many tokens
pub record Stands (st : State) (r : Reading) (index : ℕ) : Type 0 where
  pub count : length (written st.base st.brackets) ≡ index
  pub met : IsMet st r

-- an element may come next, and has this last token
pub record IsNext (st : State) (e : Element) (last : Mark) (index : ℕ) : Type 0 where
  pub ends : last_of e ≡ last
  pub matches : Matches e
  pub count : length (written st.base st.brackets ++ spelled e) ≡ suc index

-- whether a token fits, and what the reading is behind it
abbrev pub Takes : Bool → Option State → Reading → ℕ → Type 0
Takes true None r index = ⊥
Takes true (Some st) r index = Stands st r index
Takes false now r index = now ≡ None
