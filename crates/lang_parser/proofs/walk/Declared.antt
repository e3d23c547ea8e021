-- Whether a variable is declared.
use Rattle.std.proofs.Common.{◌≡◌, ℕ, List, [], ◌∷◌, length, Result, Ok, Err, refl, arith}
use Rattle.lang_tree.specs.Tree.{Statements}
use Rattle.lang_meaning.specs.declared.fault.ParseFault.{ParseFault}
use Rattle.lang_meaning.specs.declared.fault.ParseFault.TheVariants.{NoVariables}
use Rattle.lang_meaning.specs.Walk.{State, program_of}

-- where no variable is named, there is no program but the fault that says so
pub program_of_none : (st : State) (ns : Statements) → length st.names ≡ 0 → program_of (st, ns) ≡ Err NoVariables
program_of_none st ns h = by_names st.names h where
  by_names : (names : List (List ℕ)) → length names ≡ 0 → elim names as (λ z. Result (List (List ℕ) × Statements) ParseFault)
      [ [] ↦ Err NoVariables | x ∷ xs ↦ Ok (x ∷ xs, ns) ] ≡ Err NoVariables
  by_names [] h = refl
  by_names (x ∷ xs) h = absurd (omega arith)

-- where a variable is named, the names and the statements are the program
pub program_of_some : (st : State) (ns : Statements) → (length st.names ≡ 0 → ⊥) → program_of (st, ns) ≡ Ok (st.names, ns)
program_of_some st ns h = by_names st.names h where
  by_names : (names : List (List ℕ)) → (length names ≡ 0 → ⊥) → elim names as (λ z. Result (List (List ℕ) × Statements) ParseFault)
      [ [] ↦ Err NoVariables | x ∷ xs ↦ Ok (x ∷ xs, ns) ] ≡ Ok (names, ns)
  by_names [] h = absurd (h refl)
  by_names (x ∷ xs) h = refl
