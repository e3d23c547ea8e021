-- Names and statements that tokens mean are those of a function as it is walked.
use Rattle.std.proofs.Common.{◌≡◌, inl, inr, ℕ, List, Option, Some, None, Result, Err, sym, ap}
use Rattle.lang_tokens.specs.declared.token.Token.{Token}
use Rattle.lang_tokens.specs.Lines.{line_at}
use Rattle.source_grammar.specs.Tokens as g
use Rattle.source_grammar.specs.Grammar.{Function, Reads}
use Rattle.source_tree.specs.Statements.{Statements}
use Rattle.source_meaning.specs.Walk.{walk}
use Rattle.source_meaning.specs.declared.fault.FunctionFault.{FunctionFault}
use Rattle.source_tokens.specs.declared.definition.Definition.{Definition}
use Rattle.source_tokens.specs.View.{tokens_of}
use Rattle.source_constants.specs.Directives.{code_of}
use Rattle.source_constants.specs.Definitions.{definitions_of}
use Rattle.source_file.specs.declared.functions.Defined.{Defined}
use Rattle.source_file.specs.declared.fault.SourceFault.{SourceFault}
use Rattle.source_file.specs.declared.fault.SourceFault.TheVariants as fault
use Rattle.source_file.specs.Functions.{functions_of}
use Rattle.source_file.specs.Choice.{chosen}
use Rattle.source_file.specs.Meaning.{Answer, item_of, walked, FunctionMeans, first_outside, ItemMeans, ChosenMeans, FunctionsMean, twice}
use Rattle.source_file.specs.Meaning.{Means}
use Rattle.base_integers.specs.declared.integers.Integers.{Integers}

-- an answer, named so that equations between answers have their type
abbrev answered : Answer → Answer
answered a = a

-- what a function is, named for the same
abbrev read : Result (List (List ℕ) × Statements) FunctionFault → Result (List (List ℕ) × Statements) FunctionFault
read a = a

clash : (p : List (List ℕ) × Statements) (e : SourceFault) → answered (Result.Ok p) ≡ answered (Err e) → ⊥
clash p e h = cc

same : (p q : List (List ℕ) × Statements) → answered (Result.Ok p) ≡ answered (Result.Ok q) → p ≡ q
same p q e = cc

walked_as : (p : List (List ℕ) × Statements) (w : Result (List (List ℕ) × Statements) FunctionFault) → answered (Result.Ok p) ≡ walked w
    → read w ≡ read (Result.Ok p)
walked_as p (Result.Ok q) e = ap (λ x. read (Result.Ok x)) (sym (same p q e))
walked_as p (Result.Err f) e = absurd (clash p (fault.Function f) e)

module _ (integers : Integers) (text : List ℕ) (p : List (List ℕ) × Statements) where
  -- tokens are a function that is read as these names and statements
  abbrev pub AreWalked : List g.Token → Type 0
  AreWalked ts = (f : Function) × Reads ts f × (walk integers (line_at text) f ≡ Result.Ok p)

  function_walked : (ts : List g.Token) → FunctionMeans integers text ts (Result.Ok p) → AreWalked ts
  function_walked ts (inl (a, f, e)) = absurd (clash p (fault.Unexpected a) e)
  function_walked ts (inr (inl (a, f, e))) = absurd (clash p (fault.Nesting a) e)
  function_walked ts (inr (inr (f, reads, fine, e))) = (f, reads, walked_as p (walk integers (line_at text) f) e)

  module _ (definitions : List Definition) where
    item_walked : (ts : List Token) (o : Option SourceFault) → ItemMeans definitions text integers ts o (Result.Ok p)
        → AreWalked (tokens_of definitions text ts)
    item_walked ts (Some e) m = absurd (clash p e m)
    item_walked ts None m = function_walked (tokens_of definitions text ts) m

    chosen_walked : (code : List Token) (o : Option Defined) → ChosenMeans definitions text integers code o (Result.Ok p)
        → (d : Defined) × AreWalked (tokens_of definitions text (item_of code d))
    chosen_walked code None e = absurd (clash p fault.WhichFunction e)
    chosen_walked code (Some d) m = (d, item_walked (item_of code d) (first_outside definitions text (item_of code d)) m)

    functions_walked : (asked : Option (List ℕ)) (code : List Token) (ds : List Defined) (o : Option ℕ)
        → FunctionsMean definitions text integers asked code ds o (Result.Ok p)
        → (d : Defined) × AreWalked (tokens_of definitions text (item_of code d))
    functions_walked asked code ds (Some at) e = absurd (clash p (fault.NameTwice at) e)
    functions_walked asked code ds None m = chosen_walked code (chosen asked ds) m

  -- what tokens mean without a fault is what a function is as it is walked, whose tokens are some of these
  pub means_walked : (asked : Option (List ℕ)) (ts : List Token) → Means integers text asked ts (Result.Ok p)
      → (definitions : List Definition) × (d : Defined) × AreWalked (tokens_of definitions text (item_of (code_of ts) d))
  means_walked asked ts (inl (index, f, e)) = absurd (clash p _ e)
  means_walked asked ts (inr (items, f, m)) =
      let code = code_of ts in
      let definitions = definitions_of integers text ts items in
      let ds = functions_of text code items in
      let found = functions_walked definitions asked code ds (twice ds definitions) m in
      (definitions, found.0, found.1)

-- what tokens mean without a fault is what a function is as it is walked
pub read_by_walk : (integers : Integers) (text : List ℕ) (asked : Option (List ℕ)) (ts : List Token) (names : List (List ℕ))
    (statements : Statements)
    → Means integers text asked ts (Result.Ok (names, statements))
    → (line : ℕ → ℕ) × (f : Function) × (walk integers line f ≡ Result.Ok (names, statements))
read_by_walk integers text asked ts names statements m =
    let w = means_walked integers text (names, statements) asked ts m in
    (line_at text, w.2.0, w.2.2)
