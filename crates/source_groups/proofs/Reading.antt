-- The function of a file that means one.
use Rattle.std.proofs.Common.{◌≡◌, ◌∙◌, ℕ, List, Option, Result, Ok, Err, inl, inr, sym, subst}
use Rattle.std.specs.Prelude.{IfErr, IsErrAnd}
use Rattle.base_integers.specs.declared.integers.Integers.{Integers}
use Rattle.lang_tokens.specs.declared.token.Token.{Token}
use Rattle.lang_groups.specs.Groups.{SameTogether}
use Rattle.source_grammar.specs.Tokens as g
use Rattle.source_grammar.specs.Grammar.{Function, Reads}
use Rattle.source_tree.specs.Statements.{Statements}
use Rattle.source_tokens.specs.View.{tokens_of}
use Rattle.source_constants.specs.Directives.{code_of}
use Rattle.source_file.specs.declared.file.Chosen.{Chosen}
use Rattle.source_file.specs.declared.fault.SourceFault.{SourceFault}
use Rattle.source_file.specs.declared.fault.SourceFault.TheVariants as fault
use Rattle.source_file.specs.Meaning.{Answer, FunctionMeans, IsChosen, item_of}
use Rattle.source_packs.specs.Packs.{groups_of}
use Rattle.source_groups.specs.Grouping.{AreGroups}

-- a fault is no answer
no_fault : {A : Type 0} (x : List (List ℕ) × Statements) (e : SourceFault) → (let a : Answer = Ok x in a) ≡ Err e → A
no_fault x e h = cc

-- tokens that mean a function read as one
pub function_read : (integers : Integers) (text : List ℕ) (ts : List g.Token) (x : List (List ℕ) × Statements)
    → FunctionMeans integers text ts (Ok x) → (f : Function) × Reads ts f
function_read integers text ts x (inl (a, h, e)) = no_fault x (fault.Unexpected a) e
function_read integers text ts x (inr (inl (a, h, e))) = no_fault x (fault.Nesting a) e
function_read integers text ts x (inr (inr (f, reads, fine, e))) = (f, reads)

-- Where this function is chosen and its tokens mean one, groups that are its are those of the file.
pub are_groups : (integers : Integers) (text : List ℕ) (asked : Option (List ℕ)) (front : List Token) (c : Chosen)
    (names groups : List (List ℕ)) (body : Statements) → c.code.items ≡ code_of front
    → IsChosen integers text asked front c.definitions.items c.function
    → FunctionMeans integers text (tokens_of c.definitions.items text (item_of c.code.items c.function)) (Ok (names, body))
    → ((f : Function) → Reads (tokens_of c.definitions.items text (item_of c.code.items c.function)) f
    → SameTogether groups (groups_of names f))
    → AreGroups integers text asked front names groups
are_groups integers text asked front c names groups body code chosen means same =
    let ts = tokens_of c.definitions.items text (item_of c.code.items c.function) in
    let read : (f : Function) × Reads ts f = function_read integers text ts (names, body) means in
    record {
      definitions = c.definitions.items;
      place = c.function;
      chosen = chosen;
      tree = read.0;
      reads = subst (λ (x : List Token). Reads (tokens_of c.definitions.items text (item_of x c.function)) read.0) code read.1;
      same = same read.0 read.1;
    }

-- A fault that is handed on is told.
pub handed_on : {A : Type 0} (r : Result A SourceFault) (e : SourceFault) (Told : SourceFault → Type 0) → IsErrAnd r (λ f. f ≡ e)
    → ((e ≡ fault.NoMemory → ⊥) → Told e) → IfErr r (λ f. (f ≡ fault.NoMemory → ⊥) → Told f)
handed_on (Ok x) e Told k h = tt
handed_on (Err f) e Told k h = λ n. subst Told (sym k) (h (λ m. n (k ∙ m)))
