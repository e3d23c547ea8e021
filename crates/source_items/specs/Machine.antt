-- The tokens of a file one by one, with what is open.
use Rattle.std.specs.Prelude.{◌≡◌, ◌+◌, ◌∷◌, ◌++◌, ℕ, Bool, true, false, List, [], length, Option, Some, None}
use Rattle.std.specs.Prelude.{if◌then◌else◌}
use Rattle.source_items.specs.declared.mark.Bracket.{Bracket}
use Rattle.source_items.specs.declared.mark.Bracket.TheVariants.{Round, Square, Curly}
use Rattle.source_items.specs.declared.mark.Mark.{Mark}
use Rattle.source_items.specs.declared.mark.Mark.TheVariants.{Opens, Closes, Semicolon, Storage, Returned, Name, Other}
use Rattle.source_items.specs.declared.item.Head.{Head}
use Rattle.source_items.specs.declared.item.Head.TheVariants as head
use Rattle.source_items.specs.declared.item.Begun.{Begun}
use Rattle.source_items.specs.Elements.{Element, Elements, plain, group, nil, cons, spelled, all_spelled}
use Rattle.source_items.specs.Items.{with_last, has_brace, ends_round, ends_item}
use Rattle.source_items.specs.Begun.{next_head}

-- a bracket that is open, and the elements behind it so far
pub record Level : Type 0 where
  pub bracket : Bracket
  pub inside : Elements

-- the elements outside of all brackets so far, and the brackets that are open, the innermost first
pub record State : Type 0 where
  pub base : Elements
  pub brackets : List Level

abbrev pub start : State
start = record { base = nil; brackets = [] }

-- an element more, in the innermost bracket that is open
abbrev pub put : Elements → List Level → Element → State
put base [] e = record { base = with_last base e; brackets = [] }
put base (l ∷ ls) e = record { base = base; brackets = record { bracket = l.bracket; inside = with_last l.inside e } ∷ ls }

-- two brackets are of a kind
abbrev pub same : Bracket → Bracket → Bool
same Round Round = true
same Square Square = true
same Curly Curly = true
same b c = false

-- the innermost bracket is closed
abbrev pub close : Bracket → Elements → List Level → Option State
close b base [] = None
close b base (l ∷ ls) = if same l.bracket b then Some (put base ls (group b l.inside)) else None

-- what is open behind a token, if it fits
abbrev pub step : State → Mark → Option State
step st (Opens b) = Some (record { base = st.base; brackets = record { bracket = b; inside = nil } ∷ st.brackets })
step st (Closes b) = close b st.base st.brackets
step st Semicolon = Some (put st.base st.brackets (plain Semicolon))
step st Storage = Some (put st.base st.brackets (plain Storage))
step st Returned = Some (put st.base st.brackets (plain Returned))
step st Name = Some (put st.base st.brackets (plain Name))
step st Other = Some (put st.base st.brackets (plain Other))

-- the same behind others, if these fit
abbrev pub step_from : Option State → Mark → Option State
step_from None m = None
step_from (Some st) m = step st m

-- what is open behind tokens, if each fits
abbrev pub run : Option State → List Mark → Option State
run o [] = o
run o (m ∷ ms) = run (step_from o m) ms

-- the items that have ended, and the elements behind them
pub record Parts : Type 0 where
  pub done : List Elements
  pub before : Elements

-- one element more, which ends the item or doesn't
abbrev pub turned : Bool → Parts → Element → Parts
turned true p e = record { done = p.done ++ with_last p.before e ∷ []; before = nil }
turned false p e = record { done = p.done; before = with_last p.before e }

abbrev pub parts_behind : Parts → Elements → Parts
parts_behind p nil = p
parts_behind p (cons e es) = parts_behind (turned (ends_item p.before e) p e) es

abbrev pub parts_of : Elements → Parts
parts_of es = parts_behind (record { done = []; before = nil }) es

-- the last token of an element
abbrev pub last_of : Element → Mark
last_of (plain m) = m
last_of (group b es) = Closes b

-- the tokens of items
abbrev pub width_of : List Elements → ℕ
width_of [] = 0
width_of (es ∷ rest) = length (all_spelled es) + width_of rest

-- how far elements, the first of which stands behind so many tokens, are like a function with a body, behind others that are so far
abbrev pub head_behind : Head → ℕ → Elements → Head
head_behind h at nil = h
head_behind h at (cons (plain m) es) = head_behind (next_head h m at) (at + 1) es
head_behind h at (cons (group b inside) es) =
    head_behind (next_head h (Closes b) at) (at + length (spelled (group b inside))) es

-- an item that has begun behind so many tokens, by its elements
pub record IsBegun (at : ℕ) (before : Elements) (b : Begun) : Type 0 where
  pub braced : b.braced ≡ has_brace before
  pub round : b.round ≡ ends_round before
  pub head : b.head ≡ head_behind head.Storage at before
