-- What bounds say of the states at a point, in conditions over whole numbers.
use Rattle.std.specs.Prelude.{◌≡◌, ◌==◌, ◌&&◌, ◌||◌, ◌++◌, ℕ, suc, ℤ, pos, ◌+ℤ◌, ◌*ℤ◌, ◌≤ℤ◌, Bool, true, false, List, [], ◌∷◌}
use Rattle.std.specs.Prelude.{if◌then◌else◌, nat_abs, nat_eq}
use Rattle.std.specs.List.{list_any}
use Rattle.base_numbers.specs.Extended.{Ext, neg_inf, fin, pos_inf}
use Rattle.base_numbers.specs.Rational.{ℚ}
use Rattle.lang_tree.specs.Meaning.{State, dot}

-- no state comes here; a row's value times a factor is at most a number; or it is a number
pub data Clause : Type 0 where
  never : Clause
  at_most : (factor : ℕ) (row : List ℤ) (bound : ℤ) → Clause
  equals : (factor : ℕ) (row : List ℤ) (bound : ℤ) → Clause

-- what it says of a state
abbrev pub IsTrueAt : Clause → State → Type 0
IsTrueAt never state = ⊥
IsTrueAt (at_most factor row bound) state = (pos factor *ℤ dot row state) ≤ℤ bound
IsTrueAt (equals factor row bound) state = (pos factor *ℤ dot row state) ≡ bound

-- a row with its bound at a point
abbrev pub Bounded : Type 0
Bounded = List ℤ × Ext

-- the rows of a template, the first having the number r, with the bounds of a point
abbrev pub bounded_from : ℕ → List (List ℤ) → (ℕ → Ext) → List Bounded
bounded_from r [] bounds = []
bounded_from r (row ∷ rows) bounds = (row, bounds r) ∷ bounded_from (suc r) rows bounds

-- each variable that has a coefficient is known, the first coefficient being that of the variable i
abbrev pub is_over : ℕ → List ℕ → List ℤ → Bool
is_over i known [] = true
is_over i known (c ∷ cs) = ((nat_abs c == 0) || list_any (λ j. nat_eq j i) known) && is_over (suc i) known cs

-- the coefficients of one row are those of the other with the opposite sign
abbrev pub is_opposite : List ℤ → List ℤ → Bool
is_opposite [] [] = true
is_opposite [] (d ∷ ds) = false
is_opposite (c ∷ cs) [] = false
is_opposite (c ∷ cs) (d ∷ ds) = (nat_abs (c +ℤ d) == 0) && is_opposite cs ds

-- a bound is the negative of a number
abbrev pub is_negative_of : ℚ → Ext → Bool
is_negative_of q neg_inf = false
is_negative_of q (fin p) = (nat_abs (q.num +ℤ p.num) == 0) && (q.den == p.den)
is_negative_of q pos_inf = false

-- the bounds of a row and of its opposite meet: the row's value is its bound
abbrev pub meets : List ℤ → ℚ → Bounded → Bool
meets row q (other, bound) = is_opposite row other && is_negative_of q bound

-- what a row's bound says where one of these opposite rows meets it
abbrev pub clause_at : List ℤ → ℚ → List Bounded → Clause
clause_at row q others = if list_any (meets row q) others then equals q.den row q.num else at_most q.den row q.num

-- a row with a finite bound whose variables are all known says something, unless it met one of the rows before it
abbrev pub clauses_of : (known : List ℕ) (before : List Bounded) → List ℤ → Ext → (behind : List Bounded) → List Clause
clauses_of known before row neg_inf behind = []
clauses_of known before row (fin q) behind =
    if is_over 0 known row then (if list_any (meets row q) before then [] else clause_at row q behind ∷ []) else []
clauses_of known before row pos_inf behind = []

-- what rows say, one after another, behind those before them
abbrev pub clauses_from : (known : List ℕ) (before rows : List Bounded) → List Clause
clauses_from known before [] = []
clauses_from known before ((row, bound) ∷ rows) = clauses_of known before row bound rows
    ++ clauses_from known (before ++ (row, bound) ∷ []) rows

-- a point whose first bound is -inf is unreachable
abbrev pub clauses_unless : (known : List ℕ) → List (List ℤ) → (ℕ → Ext) → Ext → List Clause
clauses_unless known template bounds neg_inf = never ∷ []
clauses_unless known template bounds (fin q) = clauses_from known [] (bounded_from 0 template bounds)
clauses_unless known template bounds pos_inf = clauses_from known [] (bounded_from 0 template bounds)

-- what the bounds of a point say where these variables are known
abbrev pub clauses : (known : List ℕ) → List (List ℤ) → (ℕ → Ext) → List Clause
clauses known template bounds = clauses_unless known template bounds (bounds 0)
