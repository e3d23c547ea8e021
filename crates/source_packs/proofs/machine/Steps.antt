-- Single tokens.
use Rattle.std.proofs.Common.{◌≡◌, ◌∙◌, ◌++◌, ◌∷◌, ℕ, List, [], Option, Some, None, refl, ap}
use Rattle.source_grammar.specs.Tokens.{Op, or_op, and_op, compare_op, Kind, a_name, infix_sign, left_paren, step_sign}
use Rattle.source_grammar.specs.Tokens.{change_sign, Direction, Change, Name, Token, token}
use Rattle.source_grammar.specs.Expressions.{Subscripts, last_subscript, next_subscript, spell_subscripts}
use Rattle.source_packs.specs.Shapes.{variable_number, number_shape}
use Rattle.source_packs.specs.Targets.{at_most_one}
use Rattle.source_packs.specs.Parts.{number_part, op_part, part_of}
use Rattle.source_packs.specs.Machine.{Book, told, State, state, step, run, entry, inner_entry, left_on, after, before}
use Rattle.source_packs.specs.declared.part.Part.{Part}
use Rattle.source_packs.specs.declared.part.Part.TheVariants as part
use Rattle.source_packs.specs.declared.goal.Stop.{Stop}
use Rattle.source_packs.specs.declared.goal.Stop.TheVariants as stop
use Rattle.source_packs.specs.declared.goal.Goal.{Goal}
use Rattle.source_packs.specs.declared.goal.Goal.TheVariants as goal
use Rattle.source_packs.specs.declared.goal.Effect.TheVariants as effect
use Rattle.source_packs.specs.declared.goal.Entry.{Entry}
use Rattle.source_packs.specs.declared.goal.Entry.TheVariants as enters
use Rattle.source_packs.proofs.machine.Books.{behind_none, seen, variable_told, target_told, op_told}

-- the state behind a token that a goal makes this of
abbrev pub entered : Entry → Part → List Goal → Book → State
entered e p gs b = elim e [
  | enters.Takes e n q ↦ state (before n (after q gs)) (told e b)
  | enters.Leaves e ↦ step gs p (told e b)
]

-- a token that may stand in an expression outside of its brackets, or opens one
abbrev pub IsInner : Part → Type 0
IsInner (part.Variable i) = Unit {0}
IsInner part.Name = Unit {0}
IsInner part.Compare = Unit {0}
IsInner part.Separator = Unit {0}
IsInner part.Colon = Unit {0}
IsInner part.LeftParen = Unit {0}
IsInner part.LeftBrace = Unit {0}
IsInner part.LeftBracket = Unit {0}
IsInner part.Step = Unit {0}
IsInner part.Other = Unit {0}
IsInner _ = ⊥

-- The goal goes on over an expression.
abbrev pub Walks : Goal → Type 0
Walks g = (p : Part) → IsInner p → entry g p ≡ inner_entry g p

-- Goals that do: inside of brackets,
pub nested_walks : (p : Part) → IsInner p → entry goal.Nested p ≡ inner_entry goal.Nested p
nested_walks part.RightParen h = absurd h
nested_walks part.RightBrace h = absurd h
nested_walks part.RightBracket h = absurd h
nested_walks part.Comma h = absurd h
nested_walks _ h = refl

-- the rest of an expression,
pub rest_walks : (s : Stop) (p : Part) → IsInner p → entry (goal.Rest s) p ≡ inner_entry (goal.Rest s) p
rest_walks s part.Semicolon h = absurd h
rest_walks s part.RightParen h = absurd h
rest_walks stop.Semicolon _ h = refl
rest_walks stop.Paren _ h = refl

-- and the rest of a change.
pub right_walks : (s : Stop) (p : Part) → IsInner p → entry (goal.Right s) p ≡ inner_entry (goal.Right s) p
right_walks s part.Semicolon h = absurd h
right_walks s part.RightParen h = absurd h
right_walks s part.Comma h = absurd h
right_walks stop.Semicolon _ h = refl
right_walks stop.Paren _ h = refl

-- Before its sign a change has a name and brackets.
pub left_goes : (s : Stop) (p : Part) → IsInner p → entry (goal.Left s) p ≡ left_on s p
left_goes s part.Semicolon h = absurd h
left_goes s part.RightParen h = absurd h
left_goes stop.Semicolon _ h = refl
left_goes stop.Paren _ h = refl

-- its sign
pub left_changes : (s : Stop) → entry (goal.Left s) part.Change ≡ left_on s part.Change
left_changes stop.Semicolon = refl
left_changes stop.Paren = refl

-- ---- what may follow an expression
abbrev pub EndsName : Part → Type 0
EndsName (part.Variable i) = ⊥
EndsName part.Name = ⊥
EndsName part.LeftParen = ⊥
EndsName part.LeftBracket = ⊥
EndsName part.Change = ⊥
EndsName part.Step = ⊥
EndsName _ = Unit {0}

-- a sign between two sides does
pub op_ends : (o : Op) → EndsName (op_part o)
op_ends or_op = tt
op_ends and_op = tt
op_ends (compare_op r) = tt
op_ends _ = tt

-- a name
pub number_inner : (o : Option ℕ) → IsInner (number_part o)
number_inner None = tt
number_inner (Some i) = tt

named_step : (i : ℕ) (p : Part) → EndsName p → (gs : List Goal) (b : Book)
    → step (goal.Named i ∷ gs) p b ≡ step gs p (told (effect.Variable i) b)
named_step i (part.Variable j) h gs b = absurd h
named_step i part.Name h gs b = absurd h
named_step i part.LeftParen h gs b = absurd h
named_step i part.LeftBracket h gs b = absurd h
named_step i part.Change h gs b = absurd h
named_step i part.Step h gs b = absurd h
named_step i _ h gs b = refl

stepped_step : (p : Part) → EndsName p → (gs : List Goal) (b : Book) → step (goal.Stepped ∷ gs) p b ≡ step gs p b
stepped_step (part.Variable j) h gs b = absurd h
stepped_step _ h gs b = refl

stepped_name_step : (i : ℕ) (p : Part) → EndsName p → (gs : List Goal) (b : Book)
    → step (goal.SteppedName i ∷ gs) p b ≡ step gs p (told (effect.Target i) b)
stepped_name_step i part.LeftBracket h gs b = absurd h
stepped_name_step i _ h gs b = refl

module _ (names : List (List ℕ)) where
  -- An expression may end before these tokens.
  abbrev pub Follows : List Token → Type 0
  Follows [] = ⊥
  Follows (token k a ∷ ts) = EndsName (part_of names k)

  -- a variable stands before them
  pub named_run : (i : ℕ) (gs : List Goal) (b : Book) (w : List Token) → Follows w
      → run names (state (goal.Named i ∷ gs) b) w ≡ run names (state gs (seen (number_shape (Some i)) [] b)) w
  named_run i gs b [] h = absurd h
  named_run i gs b (token k a ∷ ts) h = ap (λ (st : State). run names st ts) (named_step i (part_of names k) h gs b)
      ∙ ap (λ (x : Book). run names (state gs x) (token k a ∷ ts)) (variable_told i b)

  -- `++` does
  pub stepped_run : (gs : List Goal) (b : Book) (w : List Token) → Follows w
      → run names (state (goal.Stepped ∷ gs) b) w ≡ run names (state gs b) w
  stepped_run gs b [] h = absurd h
  stepped_run gs b (token k a ∷ ts) h = ap (λ (st : State). run names st ts) (stepped_step (part_of names k) h gs b)

  -- a variable behind `++` does
  pub stepped_name_run : (i : ℕ) (gs : List Goal) (b : Book) (w : List Token) → Follows w
      → run names (state (goal.SteppedName i ∷ gs) b) w ≡ run names (state gs (seen (number_shape (Some i)) (i ∷ []) b)) w
  stepped_name_run i gs b [] h = absurd h
  stepped_name_run i gs b (token k a ∷ ts) h = ap (λ (st : State). run names st ts) (stepped_name_step i (part_of names k) h gs b)
      ∙ ap (λ (x : Book). run names (state gs x) (token k a ∷ ts)) (target_told i b)

  -- ---- a token that a goal goes on over
  -- by what it makes of it
  pub entered_run : (g : Goal) (e : Entry) (k : Kind) → entry g (part_of names k) ≡ e → (a : ℕ) (gs : List Goal) (b : Book)
      (ts : List Token) → run names (state (g ∷ gs) b) (token k a ∷ ts) ≡ run names (entered e (part_of names k) gs b) ts
  entered_run g e k h a gs b ts = ap (λ (x : Entry). run names (entered x (part_of names k) gs b) ts) h

  -- one of an expression
  pub walk : (g : Goal) → Walks g → (k : Kind) → IsInner (part_of names k) → (a : ℕ) (gs : List Goal) (b : Book) (ts : List Token)
      → run names (state (g ∷ gs) b) (token k a ∷ ts)
      ≡ run names (entered (inner_entry g (part_of names k)) (part_of names k) gs b) ts
  walk g walks k h a gs b ts = entered_run g (inner_entry g (part_of names k)) k (walks (part_of names k) h) a gs b ts

  -- a sign between two sides
  pub op_run : (g : Goal) → Walks g → (o : Op) (a : ℕ) (gs : List Goal) (b : Book) (ts : List Token)
      → run names (state (g ∷ gs) b) (token (infix_sign o) a ∷ ts) ≡ run names (state (g ∷ gs) (op_told o b)) ts
  op_run g walks or_op a gs b ts = walk g walks (infix_sign or_op) tt a gs b ts
  op_run g walks and_op a gs b ts = walk g walks (infix_sign and_op) tt a gs b ts
  op_run g walks (compare_op r) a gs b ts = walk g walks (infix_sign (compare_op r)) tt a gs b ts
  op_run g walks o a gs b ts = walk g walks (infix_sign o) tt a gs b ts

  -- ---- names
  -- what a name leaves to come
  abbrev pub name_goals : Option ℕ → List Goal → List Goal
  name_goals None gs = gs
  name_goals (Some i) gs = goal.Named i ∷ gs

  -- what a goal makes of it
  name_entered : (g : Goal) (o : Option ℕ) (gs : List Goal) (b : Book) (ts : List Token)
      → run names (entered (inner_entry g (number_part o)) (number_part o) gs b) ts ≡ run names (state (name_goals o (g ∷ gs)) b) ts
  name_entered g None gs b ts = refl
  name_entered g (Some i) gs b ts = refl

  -- one of an expression
  pub name_walk : (g : Goal) → Walks g → (x : Name) (a : ℕ) (gs : List Goal) (b : Book) (ts : List Token)
      → run names (state (g ∷ gs) b) (token (a_name x) a ∷ ts) ≡ run names (state (name_goals (variable_number names x) (g ∷ gs)) b) ts
  name_walk g walks x a gs b ts = walk g walks (a_name x) (number_inner (variable_number names x)) a gs b ts
      ∙ name_entered g (variable_number names x) gs b ts

  -- the same of a change before its sign
  left_entered : (s : Stop) (o : Option ℕ) (gs : List Goal) (b : Book) (ts : List Token)
      → run names (entered (left_on s (number_part o)) (number_part o) gs b) ts ≡ run names (state (name_goals o (goal.Left s ∷ gs)) b) ts
  left_entered s None gs b ts = refl
  left_entered s (Some i) gs b ts = refl

  -- one that a change begins with
  pub left_name : (s : Stop) (x : Name) (a : ℕ) (gs : List Goal) (b : Book) (ts : List Token)
      → run names (state (goal.Left s ∷ gs) b) (token (a_name x) a ∷ ts)
      ≡ run names (state (name_goals (variable_number names x) (goal.Left s ∷ gs)) b) ts
  left_name s x a gs b ts = entered_run (goal.Left s) (left_on s (part_of names (a_name x))) (a_name x)
      (left_goes s (number_part (variable_number names x)) (number_inner (variable_number names x))) a gs b ts
      ∙ left_entered s (variable_number names x) gs b ts

  -- A name is a variable's where an expression ends behind it,
  pub name_alone : (o : Option ℕ) (gs : List Goal) (b : Book) (w : List Token) → Follows w
      → run names (state (name_goals o gs) b) w ≡ run names (state gs (seen (number_shape o) [] b)) w
  name_alone None gs b w h = ap (λ (x : Book). run names (state gs x) w) (behind_none b)
  name_alone (Some i) gs b w h = named_run i gs b w h

  -- a target's before a step
  pub name_steps : (o : Option ℕ) (d : Direction) (a : ℕ) (gs : List Goal) (b : Book) (ts : List Token)
      → run names (state (name_goals o gs) b) (token (step_sign d) a ∷ ts)
      ≡ run names (state gs (seen (number_shape o) (at_most_one o) b)) (token (step_sign d) a ∷ ts)
  name_steps None d a gs b ts = ap (λ (x : Book). run names (state gs x) (token (step_sign d) a ∷ ts)) (behind_none b)
  name_steps (Some i) d a gs b ts = ap (λ (x : Book). run names (state gs x) (token (step_sign d) a ∷ ts)) (target_told i b)

  -- and before the sign of a change,
  pub name_changes : (o : Option ℕ) (g : Change) (a : ℕ) (gs : List Goal) (b : Book) (ts : List Token)
      → run names (state (name_goals o gs) b) (token (change_sign g) a ∷ ts)
      ≡ run names (state gs (seen (number_shape o) (at_most_one o) b)) (token (change_sign g) a ∷ ts)
  name_changes None g a gs b ts = ap (λ (x : Book). run names (state gs x) (token (change_sign g) a ∷ ts)) (behind_none b)
  name_changes (Some i) g a gs b ts = ap (λ (x : Book). run names (state gs x) (token (change_sign g) a ∷ ts)) (target_told i b)

  -- and none where it is called
  pub name_called : (o : Option ℕ) (a : ℕ) (gs : List Goal) (b : Book) (ts : List Token)
      → run names (state (name_goals o gs) b) (token left_paren a ∷ ts) ≡ run names (state gs b) (token left_paren a ∷ ts)
  name_called None a gs b ts = refl
  name_called (Some i) a gs b ts = refl

  -- or has an index.
  pub name_indexed : (o : Option ℕ) (is : Subscripts) (gs : List Goal) (b : Book) (w : List Token)
      → run names (state (name_goals o gs) b) (spell_subscripts is ++ w) ≡ run names (state gs b) (spell_subscripts is ++ w)
  name_indexed None is gs b w = refl
  name_indexed (Some i) (last_subscript a e c) gs b w = refl
  name_indexed (Some i) (next_subscript a e c is) gs b w = refl

  -- ---- behind `++`
  -- what a name leaves to come there
  abbrev pub stepped_goals : Option ℕ → List Goal → List Goal
  stepped_goals None gs = gs
  stepped_goals (Some i) gs = goal.SteppedName i ∷ gs

  stepped_entered : (g : Goal) → Walks g → (o : Option ℕ) (gs : List Goal) (b : Book) (ts : List Token)
      → run names (step (goal.Stepped ∷ g ∷ gs) (number_part o) b) ts ≡ run names (state (stepped_goals o (g ∷ gs)) b) ts
  stepped_entered g walks None gs b ts = ap (λ (x : Entry). run names (entered x part.Name gs b) ts) (walks part.Name tt)
  stepped_entered g walks (Some i) gs b ts = refl

  -- a name there
  pub stepped_name : (g : Goal) → Walks g → (x : Name) (a : ℕ) (gs : List Goal) (b : Book) (ts : List Token)
      → run names (state (goal.Stepped ∷ g ∷ gs) b) (token (a_name x) a ∷ ts)
      ≡ run names (state (stepped_goals (variable_number names x) (g ∷ gs)) b) ts
  stepped_name g walks x a gs b ts = stepped_entered g walks (variable_number names x) gs b ts

  -- It is a target where an expression ends behind it,
  pub stepped_alone : (o : Option ℕ) (gs : List Goal) (b : Book) (w : List Token) → Follows w
      → run names (state (stepped_goals o gs) b) w ≡ run names (state gs (seen (number_shape o) (at_most_one o) b)) w
  stepped_alone None gs b w h = ap (λ (x : Book). run names (state gs x) w) (behind_none b)
  stepped_alone (Some i) gs b w h = stepped_name_run i gs b w h

  -- and none where it has an index.
  pub stepped_indexed : (o : Option ℕ) (is : Subscripts) (gs : List Goal) (b : Book) (w : List Token)
      → run names (state (stepped_goals o gs) b) (spell_subscripts is ++ w) ≡ run names (state gs b) (spell_subscripts is ++ w)
  stepped_indexed None is gs b w = refl
  stepped_indexed (Some i) (last_subscript a e c) gs b w = refl
  stepped_indexed (Some i) (next_subscript a e c is) gs b w = refl
