-- The whole function, of whose parts what they are is known.
use Rattle.std.proofs.Common.{◌≡◌, ◌∙◌, ◌∷◌, ◌++◌, ℕ, List, [], true, false, length, arith, true≢false, Result}
use Rattle.std.proofs.Common.{Ok, Err, reverse, refl, sym, ap}
use Rattle.std.specs.Bool.{◌==◌}
use Rattle.std.proofs.lemmas.Bool.{eqb-true}
use Rattle.source_grammar.specs.Tokens.{token, left_paren, right_paren, left_brace, right_brace}
use Rattle.source_grammar.specs.Grammar.{Specifiers, FunctionName, Parameters, Items, function, spell}
use Rattle.source_grammar.specs.Grammar.{spell_function_name, spell_parameters, spell_items}
use Rattle.source_tree.specs.Statements.{Statements}
use Rattle.source_meaning.specs.declared.fault.FunctionFault.{FunctionFault}
use Rattle.source_meaning.specs.declared.fault.FunctionFault.TheVariants.{NoVariables}
use Rattle.source_meaning.specs.Results.{◌>>=◌}
use Rattle.source_meaning.specs.Names.{State, start_state}
use Rattle.source_meaning.specs.Statements.{followed_by, read_items}
use Rattle.source_meaning.specs.Walk.{function_of, read_parameters, walk, width_of}
use Rattle.source_statement.specs.Onto.{onto_specifiers, onto_parameters, onto_items}
use Rattle.source_statement.proofs.spelled.Statements.{specifiers_onto, parameters_onto, items_onto}
use Rattle.base_integers.specs.declared.integers.Integers.{Integers}

-- its tokens
pub spelled_so : (ss : Specifiers) (f : FunctionName) (a : ℕ) (ps : Parameters) (b i : ℕ) (is : Items) (d : ℕ)
    → spell (function ss f a ps b i is d) ≡ onto_specifiers ss (spell_function_name f ++ token left_paren a
    ∷ onto_parameters ps (token right_paren b ∷ token left_brace i ∷ onto_items is (token right_brace d ∷ [])))
spelled_so ss f a ps b i is d =
    specifiers_onto ss (spell_function_name f ++ token left_paren a ∷ (spell_parameters ps
    ++ token right_paren b ∷ token left_brace i ∷ (spell_items is ++ token right_brace d ∷ [])))
    ∙ ap (λ ts. onto_specifiers ss (spell_function_name f ++ token left_paren a ∷ ts))
    (parameters_onto ps (token right_paren b ∷ token left_brace i ∷ (spell_items is ++ token right_brace d ∷ []))
    ∙ ap (λ ts. onto_parameters ps (token right_paren b ∷ token left_brace i ∷ ts)) (items_onto is (token right_brace d ∷ [])))

-- what it means, by its parts
pub walked : (integers : Integers) (line : ℕ → ℕ) (ss : Specifiers) (f : FunctionName) (a : ℕ) (ps : Parameters) (b i : ℕ) (is : Items)
    (d : ℕ)
    (p r : State × Statements) → read_parameters integers line start_state ps ≡ Ok p
    → read_items integers line (width_of (function ss f a ps b i is d)) false p.0 is ≡ Ok r
    → walk integers line (function ss f a ps b i is d) ≡ function_of integers line r.0 (followed_by p.1 r.1)
walked integers line ss f a ps b i is d p r e h =
    ap (λ v. v >>= λ p. read_items integers line (width_of (function ss f a ps b i is d)) false p.0 is
    >>= λ r. function_of integers line r.0 (followed_by p.1 r.1)) e
    ∙ ap (λ v. v >>= λ r. function_of integers line r.0 (followed_by p.1 r.1)) h

-- the function with these variables
abbrev made : Statements → List (List ℕ) → Result (List (List ℕ) × Statements) FunctionFault
made body [] = Err NoVariables
made body (x ∷ xs) = Ok (x ∷ xs, body)

made_so : (integers : Integers) (line : ℕ → ℕ) (st : State) (body : Statements)
    → function_of integers line st body ≡ made body (reverse st.variables)
made_so integers line st body = on (reverse st.variables) where
  on : (xs : List (List ℕ)) → (elim xs as (λ xs. Result (List (List ℕ) × Statements) FunctionFault)
      [ [] ↦ Err NoVariables | x ∷ xs ↦ Ok (x ∷ xs, body) ]) ≡ made body xs
  on [] = refl
  on (x ∷ xs) = refl

-- there are variables
pub some_variables : (integers : Integers) (line : ℕ → ℕ) (st : State) (body : Statements) (xs : List (List ℕ))
    → xs ≡ reverse st.variables
    → (xs ≡ [] → ⊥) → function_of integers line st body ≡ Ok (xs, body)
some_variables integers line st body xs e h = made_so integers line st body ∙ ap (made body) (sym e) ∙ on xs h where
  on : (xs : List (List ℕ)) → (xs ≡ [] → ⊥) → made body xs ≡ Ok (xs, body)
  on [] h = absurd (h refl)
  on (x ∷ xs) h = refl

-- there are none
pub no_variables : (integers : Integers) (line : ℕ → ℕ) (st : State) (body : Statements) (xs : List (List ℕ))
    → xs ≡ reverse st.variables
    → xs ≡ [] → function_of integers line st body ≡ Err NoVariables
no_variables integers line st body xs e h = made_so integers line st body ∙ ap (made body) (sym e ∙ h)

-- a list without elements, and one with some
nil_of : (xs : List (List ℕ)) → length xs ≡ 0 → xs ≡ []
nil_of [] h = refl
nil_of (x ∷ xs) h = absurd (omega (arith, h))

-- none where there are 0
pub none_here : (xs : List (List ℕ)) → true ≡ (length xs == 0) → xs ≡ []
none_here xs h = nil_of xs (eqb-true (length xs) 0 (sym h))

-- some where there are not
pub some_here : (xs : List (List ℕ)) → false ≡ (length xs == 0) → xs ≡ [] → ⊥
some_here xs h e = true≢false (sym (ap (λ (xs : List (List ℕ)). length xs == 0) e) ∙ sym h)
