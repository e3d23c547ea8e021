-- What brackets hold together: a file is a list of elements, each a token that is no bracket, or what stands between two of a kind.
use Rattle.std.specs.Prelude.{◌≡◌, ◌++◌, List, [], ◌∷◌}
use Rattle.source_items.specs.declared.mark.Bracket.{Bracket}
use Rattle.source_items.specs.declared.mark.Mark.{Mark}
use Rattle.source_items.specs.declared.mark.Mark.TheVariants.{Opens, Closes, Semicolon, Storage, Returned, Name, Other}

mutual
  -- an element
  pub data Element : Type 0 where
    -- a token that is no bracket
    plain : Mark → Element
    -- what a pair of brackets holds, with the brackets
    group : Bracket → Elements → Element

  -- elements in order
  pub data Elements : Type 0 where
    nil : Elements
    cons : Element → Elements → Elements

abbrev mutual
  -- the tokens of an element
  pub spelled : Element → List Mark
  spelled (plain m) = m ∷ []
  spelled (group b es) = Opens b ∷ (all_spelled es ++ Closes b ∷ [])

  -- the tokens of elements in order
  pub all_spelled : Elements → List Mark
  all_spelled nil = []
  all_spelled (cons e es) = spelled e ++ all_spelled es

-- a token is no bracket
abbrev pub IsPlain : Mark → Type 0
IsPlain (Opens b) = ⊥
IsPlain (Closes b) = ⊥
IsPlain Semicolon = Unit {0}
IsPlain Storage = Unit {0}
IsPlain Returned = Unit {0}
IsPlain Name = Unit {0}
IsPlain Other = Unit {0}

abbrev mutual
  -- a token stands alone only where it is no bracket
  pub Matches : Element → Type 0
  Matches (plain m) = IsPlain m
  Matches (group b es) = AllMatch es

  pub AllMatch : Elements → Type 0
  AllMatch nil = Unit {0}
  AllMatch (cons e es) = Matches e × AllMatch es

-- the tokens are those of these elements
pub record Holds (marks : List Mark) (es : Elements) : Type 0 where
  pub spells : all_spelled es ≡ marks
  pub matches : AllMatch es

-- the tokens begin a list of elements
abbrev pub Begins : List Mark → Type 0
Begins front = (rest : List Mark) × (es : Elements) × Holds (front ++ rest) es
