-- The spelling of the grammar, with other tokens behind it.
use Rattle.std.proofs.Common.{◌≡◌, ◌∙◌, ◌++◌, List, [], ◌∷◌, refl, ap, append_assoc}
use Rattle.source_grammar.specs.Tokens.{a_name, left_bracket, right_bracket, left_brace, right_brace, comma, step_sign, change_sign}
use Rattle.source_grammar.specs.Tokens.{replaces, Token, token}
use Rattle.source_grammar.specs.Grammar.{Size, number_size, name_size, spell_size, Sizes, last_size, next_size, spell_sizes, spell_values}
use Rattle.source_grammar.specs.Grammar.{Index, no_index, index, spell_index, Place, place, spell_place, Effect, assigns, steps}
use Rattle.source_grammar.specs.Grammar.{spell_effect, Update, update, step_before, spell_update, MoreUpdates, last_update, next_update}
use Rattle.source_grammar.specs.Grammar.{spell_more_updates, Updates, no_updates, some_updates, spell_updates, Initialiser, bare, given}
use Rattle.source_grammar.specs.Grammar.{sized, filled}
use Rattle.source_grammar.specs.Grammar.{spell_initialiser, Declarator, declarator, spell_declarator, MoreDeclarators, last_declarator}
use Rattle.source_grammar.specs.Grammar.{next_declarator, spell_more_declarators, Declarators, declares, spell_declarators}
use Rattle.source_grammar.specs.Grammar.{Subscripts, last_subscript, next_subscript, spell_subscripts}
use Rattle.source_reader.specs.Reading.{first_kind}
use Rattle.source_change.specs.Onto.{onto_index, onto_place, onto_effect, onto_update, onto_more_updates, onto_updates, onto_initialiser}
use Rattle.source_change.specs.Onto.{onto_size, onto_sizes, onto_declarator, onto_more_declarators, onto_declarators}

-- the indexes of an element begin with a bracket
pub subscripts_first : (is : Subscripts) (w : List Token) → first_kind (spell_subscripts is ++ w) ≡ left_bracket
subscripts_first (last_subscript a e b) w = refl
subscripts_first (next_subscript a e b is) w = refl

-- so do the sizes of an array
pub sizes_first : (ss : Sizes) (w : List Token) → first_kind (onto_sizes ss w) ≡ left_bracket
sizes_first (last_size a s b) w = refl
sizes_first (next_size a s b ss) w = refl

-- an index with a rest behind it
pub index_onto : (i : Index) (w : List Token) → spell_index i ++ w ≡ onto_index i w
index_onto no_index w = refl
index_onto (index is) w = refl

-- a place with a rest behind it
pub place_onto : (p : Place) (w : List Token) → spell_place p ++ w ≡ onto_place p w
place_onto (place x a i) w = ap (λ ts. token (a_name x) a ∷ ts) (index_onto i w)

-- an effect with a rest behind it
pub effect_onto : (f : Effect) (w : List Token) → spell_effect f ++ w ≡ onto_effect f w
effect_onto (assigns g a e) w = refl
effect_onto (steps g a) w = refl

-- a change with a rest behind it
pub update_onto : (u : Update) (w : List Token) → spell_update u ++ w ≡ onto_update u w
update_onto (update p f) w =
    append_assoc (spell_place p) (spell_effect f) w ∙ place_onto p (spell_effect f ++ w) ∙ ap (onto_place p) (effect_onto f w)
update_onto (step_before g a p) w = ap (λ ts. token (step_sign g) a ∷ ts) (place_onto p w)

-- changes behind the first with a rest behind it
pub more_updates_onto : (us : MoreUpdates) (w : List Token) → spell_more_updates us ++ w ≡ onto_more_updates us w
more_updates_onto last_update w = refl
more_updates_onto (next_update a u us) w = ap (λ ts. token comma a ∷ ts) (append_assoc (spell_update u) (spell_more_updates us) w
    ∙ update_onto u (spell_more_updates us ++ w) ∙ ap (onto_update u) (more_updates_onto us w))

-- changes with a rest behind it
pub updates_onto : (us : Updates) (w : List Token) → spell_updates us ++ w ≡ onto_updates us w
updates_onto no_updates w = refl
updates_onto (some_updates u us) w = append_assoc (spell_update u) (spell_more_updates us) w
    ∙ update_onto u (spell_more_updates us ++ w) ∙ ap (onto_update u) (more_updates_onto us w)

-- a size with a rest behind it
pub size_onto : (s : Size) (w : List Token) → spell_size s ++ w ≡ onto_size s w
size_onto (number_size n a) w = refl
size_onto (name_size x a) w = refl

-- sizes with a rest behind it
pub sizes_onto : (ss : Sizes) (w : List Token) → spell_sizes ss ++ w ≡ onto_sizes ss w
sizes_onto (last_size a s b) w = ap (λ ts. token left_bracket a ∷ ts)
    (append_assoc (spell_size s) (token right_bracket b ∷ []) w ∙ size_onto s (token right_bracket b ∷ w))
sizes_onto (next_size a s b ss) w = ap (λ ts. token left_bracket a ∷ ts)
    (append_assoc (spell_size s) (token right_bracket b ∷ spell_sizes ss) w ∙ size_onto s (token right_bracket b ∷ (spell_sizes ss ++ w))
    ∙ ap (λ ts. onto_size s (token right_bracket b ∷ ts)) (sizes_onto ss w))

-- what stands behind a declared name with a rest behind it
pub initialiser_onto : (i : Initialiser) (w : List Token) → spell_initialiser i ++ w ≡ onto_initialiser i w
initialiser_onto bare w = refl
initialiser_onto (given a e) w = refl
initialiser_onto (sized ss) w = sizes_onto ss w
initialiser_onto (filled ss a b vs c) w =
    append_assoc (spell_sizes ss) (token (change_sign replaces) a ∷ token left_brace b ∷ (spell_values vs ++ token right_brace c ∷ [])) w
    ∙ sizes_onto ss (token (change_sign replaces) a ∷ token left_brace b ∷ ((spell_values vs ++ token right_brace c ∷ []) ++ w))
    ∙ ap (λ ts. onto_sizes ss (token (change_sign replaces) a ∷ token left_brace b ∷ ts))
    (append_assoc (spell_values vs) (token right_brace c ∷ []) w)

-- a declarator with a rest behind it
pub declarator_onto : (x : Declarator) (w : List Token) → spell_declarator x ++ w ≡ onto_declarator x w
declarator_onto (declarator x a i) w = ap (λ ts. token (a_name x) a ∷ ts) (initialiser_onto i w)

-- declarators behind the first with a rest behind it
pub more_declarators_onto : (xs : MoreDeclarators) (w : List Token) → spell_more_declarators xs ++ w ≡ onto_more_declarators xs w
more_declarators_onto last_declarator w = refl
more_declarators_onto (next_declarator a x xs) w = ap (λ ts. token comma a ∷ ts)
    (append_assoc (spell_declarator x) (spell_more_declarators xs) w
    ∙ declarator_onto x (spell_more_declarators xs ++ w) ∙ ap (onto_declarator x) (more_declarators_onto xs w))

-- declarators with a rest behind it
pub declarators_onto : (xs : Declarators) (w : List Token) → spell_declarators xs ++ w ≡ onto_declarators xs w
declarators_onto (declares x xs) w = append_assoc (spell_declarator x) (spell_more_declarators xs) w
    ∙ declarator_onto x (spell_more_declarators xs ++ w) ∙ ap (onto_declarator x) (more_declarators_onto xs w)
