-- What is told of the tokens of a program is what the program means.
use Rattle.std.proofs.Common.{◌≡◌, ◌++◌, ℕ, List, [], ◌∷◌, length, sym, subst}
use Rattle.std.specs.Prelude.{Result, Ok, Err}
use Rattle.lang_tokens.specs.declared.lexicon.Lexicon.TheVariants.{C}
use Rattle.lang_tokens.specs.Reading.{Reads, end_at}
use Rattle.lang_tokens.proofs.reading.Once.{one_token_list}
use Rattle.lang_tokens.specs.declared.token.Token.{Token}
use Rattle.lang_tree.specs.Tree.{Statements}
use Rattle.lang_tree.specs.declared.program.Program.{Program as Core}
use Rattle.source_tree.specs.Statements as c
use Rattle.source_core.specs.Core.{core_in}
use Rattle.source_file.specs.Gives.{Gives}
use Rattle.source_file.specs.Meaning.{Answer, Means}
use Rattle.source_file.specs.declared.fault.SourceFault.{SourceFault}
use Rattle.source_file.specs.declared.fault.SourceFault.TheVariants.{NoMemory}
use Rattle.source_groups.specs.Grouping.{AreGroups}
use Rattle.top_texts.specs.Texts.{HasCore, HasGroups, Program, Reading}

-- this is told of the tokens of a program before its end
abbrev pub IsTold : Program → List Token → Result Core SourceFault → Type 0
IsTold program tokens result = (front : List Token) → front ++ end_at (length program.text) ∷ [] ≡ tokens
    → (wanted : Answer) × Means program.integers program.text program.function front wanted × Gives program.integers result wanted

-- the tokens of a program are those before its end, and its end
front_reads : (program : Program) (tokens : List Token) (is : Reads C program.text tokens)
    → Reads C program.text (is.front ++ end_at (length program.text) ∷ [])
front_reads program tokens is = subst (λ ts. Reads C program.text ts) (sym is.told) is

-- a core that is told is that of the program
pub told_core : (program : Program) (tokens : List Token) (core : Core) → Reads C program.text tokens → IsTold program tokens (Ok core)
    → HasCore program core.names core.body
told_core program tokens core is told =
    let t = told is.front is.told in
    let gives : (body : c.Statements) × (t.0 ≡ Ok (core.names, body))
    × (core.body ≡ core_in program.integers (length core.names) body) = t.2 in
    record {
      statements = gives.0;
      reading = (
        is.front,
        front_reads program tokens is,
        subst (λ (a : Answer). Means program.integers program.text program.function is.front a) gives.1 t.1,
      );
      core = gives.2;
    }

-- groups that are told of the tokens of a program are its groups
pub told_groups : (program : Program) (tokens : List Token) (names groups : List (List ℕ)) (body : Statements)
    → Reads C program.text tokens → HasCore program names body
    → ((front : List Token) → front ++ end_at (length program.text) ∷ [] ≡ tokens → (statements : c.Statements)
    → Means program.integers program.text program.function front (Ok (names, statements))
    → AreGroups program.integers program.text program.function front names groups) → HasGroups program names groups
told_groups program tokens names groups body is core told =
    let front = core.reading.0 in
    let same : front ++ end_at (length program.text) ∷ [] ≡ tokens =
    one_token_list C program.text (front ++ end_at (length program.text) ∷ []) tokens core.reading.1 is in
    (front, core.reading.1, told front same core.statements core.reading.2)

-- a fault that is told in their place is that of the program
pub told_instead : (program : Program) (tokens : List Token) (fault : SourceFault) → Reads C program.text tokens
    → ((front : List Token) → front ++ end_at (length program.text) ∷ [] ≡ tokens
    → Means program.integers program.text program.function front (Err fault)) → Reading program (Err fault)
told_instead program tokens fault is told = (is.front, front_reads program tokens is, told is.front is.told)

-- a fault that is told is that of the program, unless memory is lacking
pub told_fault : (program : Program) (tokens : List Token) (fault : SourceFault) → Reads C program.text tokens
    → IsTold program tokens (Err fault) → (answer : Answer) × Reading program answer × ((fault ≡ NoMemory → ⊥) → answer ≡ Err fault)
told_fault program tokens fault is told =
    let t = told is.front is.told in (t.0, (is.front, front_reads program tokens is, t.1), t.2)
