-- What goals ask of a text: that it is spelled by good trees.
use Rattle.std.proofs.Common.{◌≡◌, ◌++◌, ◌⊎◌, ℕ, List, [], ◌∷◌, Option, Some, None}
use Rattle.source_grammar.specs.Tokens.{a_name, left_paren, right_paren, right_brace, semicolon, colon, else_word, while_word, Token, token}
use Rattle.source_grammar.specs.Tokens.{Name, change_sign, left_brace, replaces}
use Rattle.source_grammar.specs.Grammar.{Groups, Expr, spell_expr, Arguments, spell_arguments, GoodArguments, MoreArguments}
use Rattle.source_grammar.specs.Grammar.{spell_more_arguments, GoodMoreArguments, Optional, spell_optional, GoodOptional, Index}
use Rattle.source_grammar.specs.Grammar.{spell_index, GoodIndex, Effect, spell_effect, GoodEffect, Update, spell_update, GoodUpdate}
use Rattle.source_grammar.specs.Grammar.{MoreUpdates, spell_more_updates, GoodMoreUpdates, Updates, spell_updates, GoodUpdates, Initialiser}
use Rattle.source_grammar.specs.Grammar.{spell_initialiser, GoodInitialiser, Declarator, spell_declarator, GoodDeclarator, MoreDeclarators}
use Rattle.source_grammar.specs.Grammar.{spell_more_declarators, GoodMoreDeclarators, ForFirst, spell_first, GoodFirst, Core, spell_core}
use Rattle.source_grammar.specs.Grammar.{ending_core, GoodCore, Sub, spell_sub, ending_sub, GoodSub, Items, spell_items, GoodItems, Ending}
use Rattle.source_grammar.specs.Grammar.{shut, waiting, Specifiers, spell_specifiers, FunctionName, spell_function_name, MoreParameters}
use Rattle.source_grammar.specs.Grammar.{spell_more_parameters, Parameters, spell_parameters, Bounds, GoodMoreValues, GoodValues, IntType}
use Rattle.source_grammar.specs.Grammar.{MoreValues, Parameter, Size, Sizes, Values, spell_bounds, spell_more_values, spell_parameter}
use Rattle.source_grammar.specs.Grammar.{spell_size, spell_sizes, spell_type, spell_values}
use Rattle.source_grammar.specs.Machine.{in_sub, in_block, Goal, operand, named, more, maybe_expr, maybe_arguments, more_arguments}
use Rattle.source_grammar.specs.Machine.{indexing, effect, changing, more_changes, maybe_changes, declaring, initialising, more_declarators}
use Rattle.source_grammar.specs.Machine.{statement, after_name, maybe_else, condition, do_end, header, header_first, header_rest}
use Rattle.source_grammar.specs.Machine.{specifiers, function_name, parameters, more_parameters, some_name, only, mark_kind, bounding}
use Rattle.source_grammar.specs.Machine.{filling, maybe_size, maybe_values, more_sizes, more_values, parameter_name, sizing, some_size}
use Rattle.source_grammar.specs.Machine.{some_type}
use Rattle.source_grammar.proofs.grammar.Follow.{NotElse}
use Rattle.source_grammar.proofs.grammar.Links.{Links, spell_links, GoodLinks}

-- what an `if` without `else` at the end forbids
abbrev pub Clear : Ending → List Token → Type 0
Clear shut v = Unit {0}
Clear waiting [] = Unit {0}
Clear waiting (token k a ∷ v) = NotElse k

-- how the brackets behind the first are spelled, if there are any
abbrev pub spell_later : Option Sizes → List Token
spell_later None = []
spell_later (Some ss) = spell_sizes ss

-- how the brackets of a parameter are spelled, if it has any
abbrev pub spell_bounding : Option Bounds → List Token
spell_bounding None = []
spell_bounding (Some bs) = spell_bounds bs

-- how a size is spelled that may be absent
abbrev pub spell_maybe_size : Option Size → List Token
spell_maybe_size None = []
spell_maybe_size (Some s) = spell_size s

-- the values of a declared array with the `=` before them, or none
pub data Fill : Type 0 where
  no_fill : Fill
  fill : ℕ → ℕ → Values → ℕ → Fill

-- how they are spelled
abbrev pub spell_fill : Fill → List Token
spell_fill no_fill = []
spell_fill (fill a b vs c) = token (change_sign replaces) a ∷ token left_brace b ∷ (spell_values vs ++ token right_brace c ∷ [])

-- their expressions group as they must
abbrev pub GoodFill : Fill → Type 0
GoodFill no_fill = Unit {0}
GoodFill (fill a b vs c) = GoodValues vs

-- The text is spelled as these goals ask.
abbrev pub Holds : List Goal → List Token → Type 0
Holds [] w = w ≡ []
Holds (operand d ∷ gs) w = (e : Expr) × (v : List Token) × (w ≡ spell_expr e ++ v) × Groups 7 e × Holds gs v
Holds (named d ∷ gs) w = (x : Name) (a : ℕ) → (e : Expr) × (v : List Token) × (token (a_name x) a ∷ w ≡ spell_expr e ++ v)
    × Groups 7 e × Holds gs v
Holds (more d ∷ gs) w = (ls : Links) × (v : List Token) × (w ≡ spell_links ls ++ v) × GoodLinks ls × Holds gs v
Holds (maybe_expr d ∷ gs) w = (t : Optional) × (v : List Token) × (w ≡ spell_optional t ++ v) × GoodOptional t × Holds gs v
Holds (maybe_arguments d ∷ gs) w = (es : Arguments) × (v : List Token) × (w ≡ spell_arguments es ++ v) × GoodArguments es × Holds gs v
Holds (more_arguments d ∷ gs) w = (es : MoreArguments) × (v : List Token) × (w ≡ spell_more_arguments es ++ v) × GoodMoreArguments es
    × Holds gs v
Holds (indexing d ∷ gs) w = (i : Index) × (v : List Token) × (w ≡ spell_index i ++ v) × GoodIndex i × Holds gs v
Holds (effect d ∷ gs) w = (f : Effect) × (v : List Token) × (w ≡ spell_effect f ++ v) × GoodEffect f × Holds gs v
Holds (changing d ∷ gs) w = (u : Update) × (v : List Token) × (w ≡ spell_update u ++ v) × GoodUpdate u × Holds gs v
Holds (more_changes d ∷ gs) w = (us : MoreUpdates) × (v : List Token) × (w ≡ spell_more_updates us ++ v) × GoodMoreUpdates us × Holds gs v
Holds (maybe_changes d ∷ gs) w = (us : Updates) × (v : List Token) × (w ≡ spell_updates us ++ v) × GoodUpdates us × Holds gs v
Holds (declaring d ∷ gs) w = (x : Declarator) × (v : List Token) × (w ≡ spell_declarator x ++ v) × GoodDeclarator x × Holds gs v
Holds (initialising d ∷ gs) w = (i : Initialiser) × (v : List Token) × (w ≡ spell_initialiser i ++ v) × GoodInitialiser i × Holds gs v
Holds (more_declarators d ∷ gs) w = (xs : MoreDeclarators) × (v : List Token) × (w ≡ spell_more_declarators xs ++ v)
    × GoodMoreDeclarators xs × Holds gs v
Holds (sizing d ∷ gs) w = (ss : Option Sizes) × (f : Fill) × (v : List Token) × (w ≡ spell_later ss ++ (spell_fill f ++ v)) × GoodFill f
    × Holds gs v
Holds (filling d ∷ gs) w = (a : ℕ) × (vs : Values) × (b : ℕ) × (v : List Token)
    × (w ≡ token left_brace a ∷ (spell_values vs ++ token right_brace b ∷ v)) × GoodValues vs × Holds gs v
Holds (maybe_values d ∷ gs) w = (vs : Values) × (v : List Token) × (w ≡ spell_values vs ++ v) × GoodValues vs × Holds gs v
Holds (more_values d ∷ gs) w = (vs : MoreValues) × (v : List Token) × (w ≡ spell_more_values vs ++ v) × GoodMoreValues vs × Holds gs v
Holds (statement in_sub d ∷ gs) w = (s : Sub) × (v : List Token) × (w ≡ spell_sub s ++ v) × GoodSub s × Clear (ending_sub s) v × Holds gs v
Holds (statement in_block d ∷ gs) w = (is : Items) × (a : ℕ) × (v : List Token) × (w ≡ spell_items is ++ token right_brace a ∷ v)
    × GoodItems is × Holds gs v
Holds (after_name in_sub d ∷ gs) w = (x : Name) (a : ℕ) → (s : Sub) × (v : List Token) × (token (a_name x) a ∷ w ≡ spell_sub s ++ v)
    × GoodSub s × Clear (ending_sub s) v × Holds gs v
Holds (after_name in_block d ∷ gs) w = ((b : ℕ) × (v : List Token) × (w ≡ token colon b ∷ v) × Holds gs v)
    ⊎ ((x : Name) (a : ℕ) → (c : Core) × (v : List Token) × (token (a_name x) a ∷ w ≡ spell_core c ++ v) × GoodCore c
    × Clear (ending_core c) v × Holds gs v)
Holds (maybe_else d ∷ gs) w = (Clear waiting w × Holds gs w) ⊎ ((a : ℕ) × (s : Sub) × (v : List Token)
    × (w ≡ token else_word a ∷ (spell_sub s ++ v)) × GoodSub s × Clear (ending_sub s) v × Holds gs v)
Holds (condition d ∷ gs) w = (b : ℕ) × (e : Expr) × (c : ℕ) × (v : List Token)
    × (w ≡ token left_paren b ∷ (spell_expr e ++ token right_paren c ∷ v)) × Groups 0 e × Holds gs v
Holds (do_end d ∷ gs) w = (b : ℕ) × (c : ℕ) × (e : Expr) × (i : ℕ) × (j : ℕ) × (v : List Token)
    × (w ≡ token while_word b ∷ token left_paren c ∷ (spell_expr e ++ token right_paren i ∷ token semicolon j ∷ v)) × Groups 0 e
    × Holds gs v
Holds (header d ∷ gs) w = (b : ℕ) × (f : ForFirst) × (c : ℕ) × (t : Optional) × (i : ℕ) × (us : Updates) × (j : ℕ) × (v : List Token)
    × (w ≡ token left_paren b ∷ (spell_first f ++ token semicolon c ∷ (spell_optional t ++ token semicolon i
    ∷ (spell_updates us ++ token right_paren j ∷ v)))) × GoodFirst f × GoodOptional t × GoodUpdates us × Holds gs v
Holds (header_first d ∷ gs) w = (f : ForFirst) × (v : List Token) × (w ≡ spell_first f ++ v) × GoodFirst f × Holds gs v
Holds (header_rest d ∷ gs) w = (c : ℕ) × (t : Optional) × (i : ℕ) × (us : Updates) × (j : ℕ) × (v : List Token)
    × (w ≡ token semicolon c ∷ (spell_optional t ++ token semicolon i ∷ (spell_updates us ++ token right_paren j ∷ v)))
    × GoodOptional t × GoodUpdates us × Holds gs v
Holds (specifiers ∷ gs) w = (ss : Specifiers) × (v : List Token) × (w ≡ spell_specifiers ss ++ v) × Holds gs v
Holds (function_name ∷ gs) w = (n : FunctionName) × (v : List Token) × (w ≡ spell_function_name n ++ v) × Holds gs v
Holds (parameters ∷ gs) w = (ps : Parameters) × (v : List Token) × (w ≡ spell_parameters ps ++ v) × Holds gs v
Holds (more_parameters ∷ gs) w = (ps : MoreParameters) × (v : List Token) × (w ≡ spell_more_parameters ps ++ v) × Holds gs v
Holds (some_type ∷ gs) w = (t : IntType) × (v : List Token) × (w ≡ spell_type t ++ v) × Holds gs v
Holds (parameter_name ∷ gs) w = (t : IntType) → (p : Parameter) × (v : List Token) × (spell_type t ++ w ≡ spell_parameter p ++ v)
    × Holds gs v
Holds (bounding ∷ gs) w = (bs : Option Bounds) × (v : List Token) × (w ≡ spell_bounding bs ++ v) × Holds gs v
Holds (more_sizes ∷ gs) w = (ss : Option Sizes) × (v : List Token) × (w ≡ spell_later ss ++ v) × Holds gs v
Holds (some_name ∷ gs) w = (x : Name) × (a : ℕ) × (v : List Token) × (w ≡ token (a_name x) a ∷ v) × Holds gs v
Holds (some_size ∷ gs) w = (s : Size) × (v : List Token) × (w ≡ spell_size s ++ v) × Holds gs v
Holds (maybe_size ∷ gs) w = (s : Option Size) × (v : List Token) × (w ≡ spell_maybe_size s ++ v) × Holds gs v
Holds (only m ∷ gs) w = (b : ℕ) × (v : List Token) × (w ≡ token (mark_kind m) b ∷ v) × Holds gs v
