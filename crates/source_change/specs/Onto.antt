-- How what is read is spelled before other tokens. (proofs/spelled/Changes.antt: it is the spelling of the grammar with them behind it.)
use Rattle.std.specs.Prelude.{ℕ, List, ◌∷◌, ◌++◌}
use Rattle.source_grammar.specs.Tokens.{replaces, a_name, a_number, left_bracket, right_bracket, left_brace, right_brace, comma}
use Rattle.source_grammar.specs.Tokens.{change_sign, step_sign, Token, token}
use Rattle.source_grammar.specs.Grammar.{spell_expr, spell_subscripts, spell_values, Size, number_size, name_size, Sizes, last_size, Values}
use Rattle.source_grammar.specs.Grammar.{next_size, Index, no_index, index, Place, place, Effect, assigns, steps, Update, update}
use Rattle.source_grammar.specs.Grammar.{step_before, MoreUpdates, last_update, next_update, Updates, no_updates, some_updates, Initialiser}
use Rattle.source_grammar.specs.Grammar.{bare, given, sized, filled, Declarator, declarator, MoreDeclarators, last_declarator}
use Rattle.source_grammar.specs.Grammar.{next_declarator, Declarators, declares}

-- the indexes of an element, or none
abbrev pub onto_index : Index → List Token → List Token
onto_index no_index w = w
onto_index (index is) w = spell_subscripts is ++ w

-- a place
abbrev pub onto_place : Place → List Token → List Token
onto_place (place x a i) w = token (a_name x) a ∷ onto_index i w

-- what is done to a place
abbrev pub onto_effect : Effect → List Token → List Token
onto_effect (assigns g a e) w = token (change_sign g) a ∷ (spell_expr e ++ w)
onto_effect (steps g a) w = token (step_sign g) a ∷ w

-- a change
abbrev pub onto_update : Update → List Token → List Token
onto_update (update p f) w = onto_place p (onto_effect f w)
onto_update (step_before g a p) w = token (step_sign g) a ∷ onto_place p w

-- the changes behind the first
abbrev pub onto_more_updates : MoreUpdates → List Token → List Token
onto_more_updates last_update w = w
onto_more_updates (next_update a u us) w = token comma a ∷ onto_update u (onto_more_updates us w)

-- changes
abbrev pub onto_updates : Updates → List Token → List Token
onto_updates no_updates w = w
onto_updates (some_updates u us) w = onto_update u (onto_more_updates us w)

-- a size of an array
abbrev pub onto_size : Size → List Token → List Token
onto_size (number_size n a) w = token (a_number n) a ∷ w
onto_size (name_size x a) w = token (a_name x) a ∷ w

-- the sizes of an array
abbrev pub onto_sizes : Sizes → List Token → List Token
onto_sizes (last_size a s b) w = token left_bracket a ∷ onto_size s (token right_bracket b ∷ w)
onto_sizes (next_size a s b ss) w = token left_bracket a ∷ onto_size s (token right_bracket b ∷ onto_sizes ss w)

-- the values of an array, behind its sizes
abbrev pub onto_values : (sign first : ℕ) → Values → (last : ℕ) → List Token → List Token
onto_values a b vs c w = token (change_sign replaces) a ∷ token left_brace b ∷ (spell_values vs ++ token right_brace c ∷ w)

-- what stands behind a name that is declared
abbrev pub onto_initialiser : Initialiser → List Token → List Token
onto_initialiser bare w = w
onto_initialiser (given a e) w = token (change_sign replaces) a ∷ (spell_expr e ++ w)
onto_initialiser (sized ss) w = onto_sizes ss w
onto_initialiser (filled ss a b vs c) w = onto_sizes ss (onto_values a b vs c w)

-- a name that is declared
abbrev pub onto_declarator : Declarator → List Token → List Token
onto_declarator (declarator x a i) w = token (a_name x) a ∷ onto_initialiser i w

-- the names behind the first
abbrev pub onto_more_declarators : MoreDeclarators → List Token → List Token
onto_more_declarators last_declarator w = w
onto_more_declarators (next_declarator a x xs) w = token comma a ∷ onto_declarator x (onto_more_declarators xs w)

-- names that are declared
abbrev pub onto_declarators : Declarators → List Token → List Token
onto_declarators (declares x xs) w = onto_declarator x (onto_more_declarators xs w)
