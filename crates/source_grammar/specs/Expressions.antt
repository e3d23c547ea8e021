-- Expressions and changes: trees, how each is spelled, and which trees the rules on grouping allow.
use Rattle.std.specs.Prelude.{◌≡◌, ◌≤◌, ◌++◌, ℕ, suc, List, [], ◌∷◌}
use Rattle.source_grammar.specs.Tokens.{Op, Prefix, Change, Direction, Name, a_name, a_number, infix_sign, question, colon, left_paren}
use Rattle.source_grammar.specs.Tokens.{right_paren, left_bracket, right_bracket, comma, change_sign, step_sign, nondet_word, Token, token}
use Rattle.source_grammar.specs.Tokens.{sign_of, level}

-- An expression. Here and below each ℕ that isn't a number's value is the place of a token, in the order of the text.
mutual
  -- an expression
  pub data Expr : Type 0 where
    number : ℕ → ℕ → Expr
    variable : Name → ℕ → Expr
    -- `x[e]`, `x[e][f]`
    element : Name → ℕ → Subscripts → Expr
    -- `f(..)`
    call : Name → ℕ → ℕ → Arguments → ℕ → Expr
    -- `x++`
    stepped_behind : Name → ℕ → Direction → ℕ → Expr
    -- `++x`
    stepped_before : Direction → ℕ → Name → ℕ → Expr
    -- `nondet()`
    free : ℕ → ℕ → ℕ → Expr
    grouped : ℕ → Expr → ℕ → Expr
    prefixed : Prefix → ℕ → Expr → Expr
    joined : Expr → Op → ℕ → Expr → Expr
    -- `c ? e : f`
    chosen : Expr → ℕ → Expr → ℕ → Expr → Expr

  -- what stands between the parentheses of a call
  pub data Arguments : Type 0 where
    no_arguments : Arguments
    arguments : Expr → MoreArguments → Arguments

  -- the arguments behind the first, each with the comma before it
  pub data MoreArguments : Type 0 where
    last_argument : MoreArguments
    next_argument : ℕ → Expr → MoreArguments → MoreArguments

  -- the brackets of an element with its indexes
  pub data Subscripts : Type 0 where
    last_subscript : ℕ → Expr → ℕ → Subscripts
    next_subscript : ℕ → Expr → ℕ → Subscripts → Subscripts

abbrev mutual
  -- how an expression is spelled
  pub spell_expr : Expr → List Token
  spell_expr (number n a) = token (a_number n) a ∷ []
  spell_expr (variable x a) = token (a_name x) a ∷ []
  spell_expr (element x a is) = token (a_name x) a ∷ spell_subscripts is
  spell_expr (call x a b es c) = token (a_name x) a ∷ token left_paren b ∷ (spell_arguments es ++ token right_paren c ∷ [])
  spell_expr (stepped_behind x a g b) = token (a_name x) a ∷ token (step_sign g) b ∷ []
  spell_expr (stepped_before g a x b) = token (step_sign g) a ∷ token (a_name x) b ∷ []
  spell_expr (free a b c) = token nondet_word a ∷ token left_paren b ∷ token right_paren c ∷ []
  spell_expr (grouped a e b) = token left_paren a ∷ (spell_expr e ++ token right_paren b ∷ [])
  spell_expr (prefixed p a e) = token (sign_of p) a ∷ spell_expr e
  spell_expr (joined e o a f) = spell_expr e ++ token (infix_sign o) a ∷ spell_expr f
  spell_expr (chosen c a e b f) = spell_expr c ++ token question a ∷ (spell_expr e ++ token colon b ∷ spell_expr f)

  -- how arguments are spelled
  pub spell_arguments : Arguments → List Token
  spell_arguments no_arguments = []
  spell_arguments (arguments e es) = spell_expr e ++ spell_more_arguments es

  -- how the arguments behind the first are spelled
  pub spell_more_arguments : MoreArguments → List Token
  spell_more_arguments last_argument = []
  spell_more_arguments (next_argument a e es) = token comma a ∷ (spell_expr e ++ spell_more_arguments es)

  -- how the brackets of an element are spelled
  pub spell_subscripts : Subscripts → List Token
  spell_subscripts (last_subscript a e b) = token left_bracket a ∷ (spell_expr e ++ token right_bracket b ∷ [])
  spell_subscripts (next_subscript a e b is) = token left_bracket a ∷ (spell_expr e ++ token right_bracket b ∷ spell_subscripts is)

-- The tree groups as the levels say: no sign above holds looser than l, repeated ones group to the left, and `? :` to the right.
abbrev mutual
  -- an expression groups as it must where no sign may hold looser than l
  pub Groups : ℕ → Expr → Type 0
  Groups l (number n a) = Unit {0}
  Groups l (variable x a) = Unit {0}
  Groups l (element x a is) = GoodSubscripts is
  Groups l (call x a b es c) = GoodArguments es
  Groups l (stepped_behind x a g b) = Unit {0}
  Groups l (stepped_before g a x b) = Unit {0}
  Groups l (free a b c) = Unit {0}
  Groups l (grouped a e b) = Groups 0 e
  Groups l (prefixed p a e) = Groups 7 e
  Groups l (joined e o a f) = (l ≤ level o) × Groups (level o) e × Groups (suc (level o)) f
  Groups l (chosen c a e b f) = (l ≡ 0) × Groups 1 c × Groups 0 e × Groups 0 f

  -- each argument groups as it must
  pub GoodArguments : Arguments → Type 0
  GoodArguments no_arguments = Unit {0}
  GoodArguments (arguments e es) = Groups 0 e × GoodMoreArguments es

  -- each argument behind the first groups as it must
  pub GoodMoreArguments : MoreArguments → Type 0
  GoodMoreArguments last_argument = Unit {0}
  GoodMoreArguments (next_argument a e es) = Groups 0 e × GoodMoreArguments es

  -- each index groups as it must
  pub GoodSubscripts : Subscripts → Type 0
  GoodSubscripts (last_subscript a e b) = Groups 0 e
  GoodSubscripts (next_subscript a e b is) = Groups 0 e × GoodSubscripts is

-- an expression, or none
pub data Optional : Type 0 where
  absent : Optional
  present : Expr → Optional

-- how an expression is spelled that may be absent
abbrev pub spell_optional : Optional → List Token
spell_optional absent = []
spell_optional (present e) = spell_expr e

-- it groups as it must
abbrev pub GoodOptional : Optional → Type 0
GoodOptional absent = Unit {0}
GoodOptional (present e) = Groups 0 e

-- the brackets of an element with its indexes, or none
pub data Index : Type 0 where
  no_index : Index
  index : Subscripts → Index

-- how they are spelled
abbrev pub spell_index : Index → List Token
spell_index no_index = []
spell_index (index is) = spell_subscripts is

-- they group as they must
abbrev pub GoodIndex : Index → Type 0
GoodIndex no_index = Unit {0}
GoodIndex (index is) = GoodSubscripts is

-- a variable or an element of an array, to be changed
pub data Place : Type 0 where
  place : Name → ℕ → Index → Place

-- how a place is spelled
abbrev pub spell_place : Place → List Token
spell_place (place x a i) = token (a_name x) a ∷ spell_index i

-- its index groups as it must
abbrev pub GoodPlace : Place → Type 0
GoodPlace (place x a i) = GoodIndex i

-- what is done to a place, by the signs behind it: an assignment or a step
pub data Effect : Type 0 where
  assigns : Change → ℕ → Expr → Effect
  steps : Direction → ℕ → Effect

-- how an effect is spelled
abbrev pub spell_effect : Effect → List Token
spell_effect (assigns g a e) = token (change_sign g) a ∷ spell_expr e
spell_effect (steps g a) = token (step_sign g) a ∷ []

-- the expression of an assignment groups as it must
abbrev pub GoodEffect : Effect → Type 0
GoodEffect (assigns g a e) = Groups 0 e
GoodEffect (steps g a) = Unit {0}

-- a change of a place, or a step with its sign before the place
pub data Update : Type 0 where
  update : Place → Effect → Update
  step_before : Direction → ℕ → Place → Update

-- how a change is spelled
abbrev pub spell_update : Update → List Token
spell_update (update p f) = spell_place p ++ spell_effect f
spell_update (step_before g a p) = token (step_sign g) a ∷ spell_place p

-- the expressions of a change group as they must
abbrev pub GoodUpdate : Update → Type 0
GoodUpdate (update p f) = GoodPlace p × GoodEffect f
GoodUpdate (step_before g a p) = GoodPlace p

-- the changes behind the first, each with the comma before it
pub data MoreUpdates : Type 0 where
  last_update : MoreUpdates
  next_update : ℕ → Update → MoreUpdates → MoreUpdates

-- how they are spelled
abbrev pub spell_more_updates : MoreUpdates → List Token
spell_more_updates last_update = []
spell_more_updates (next_update a u us) = token comma a ∷ (spell_update u ++ spell_more_updates us)

-- their expressions group as they must
abbrev pub GoodMoreUpdates : MoreUpdates → Type 0
GoodMoreUpdates last_update = Unit {0}
GoodMoreUpdates (next_update a u us) = GoodUpdate u × GoodMoreUpdates us

-- changes with a comma between them, or none
pub data Updates : Type 0 where
  no_updates : Updates
  some_updates : Update → MoreUpdates → Updates

-- how changes are spelled
abbrev pub spell_updates : Updates → List Token
spell_updates no_updates = []
spell_updates (some_updates u us) = spell_update u ++ spell_more_updates us

-- the expressions of changes group as they must
abbrev pub GoodUpdates : Updates → Type 0
GoodUpdates no_updates = Unit {0}
GoodUpdates (some_updates u us) = GoodUpdate u × GoodMoreUpdates us
