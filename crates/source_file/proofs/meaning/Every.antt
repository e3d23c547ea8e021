-- Tokens mean something.
use Rattle.std.proofs.Common.{◌≡◌, inl, inr, ℕ, List, Option, Some, None, Result, Err, refl}
use Rattle.lang_tokens.specs.declared.token.Token.{Token}
use Rattle.lang_tokens.specs.Lines.{line_at}
use Rattle.source_items.specs.Divisions as file
use Rattle.source_grammar.specs.Tokens as g
use Rattle.source_grammar.specs.Faults as grammar
use Rattle.source_grammar.specs.Machine.{start}
use Rattle.source_grammar.specs.Verdicts.{scan}
use Rattle.source_grammar.proofs.faults.Scanned.{found_by}
use Rattle.source_meaning.specs.Walk.{walk}
use Rattle.source_tokens.specs.declared.definition.Definition.{Definition}
use Rattle.source_tokens.specs.View.{marks_of, tokens_of}
use Rattle.source_constants.specs.Directives.{code_of}
use Rattle.source_constants.specs.Definitions.{definitions_of}
use Rattle.source_file.specs.declared.functions.Defined.{Defined}
use Rattle.source_file.specs.declared.fault.SourceFault.{SourceFault}
use Rattle.source_file.specs.declared.fault.SourceFault.TheVariants as fault
use Rattle.source_file.specs.Functions.{functions_of}
use Rattle.source_file.specs.Choice.{chosen}
use Rattle.source_file.specs.Meaning.{Answer, place_of, item_of, walked, FunctionMeans, first_outside, ItemMeans, ChosenMeans}
use Rattle.source_file.specs.Meaning.{FunctionsMean}
use Rattle.source_file.specs.Meaning.{twice, Means, named_in, NamesAre}
use Rattle.source_file.proofs.wholes.Functions.{AllWhole, all_whole, chosen_whole, whole_never_short}
use Rattle.source_items.proofs.files.Every.{each_division}
use Rattle.base_integers.specs.declared.integers.Integers.{Integers}
use Rattle.base_integers.specs.declared.integers.Integers.TheVariants.{Mathematical}

by_scan : (integers : Integers) (text : List ℕ) (ts : List g.Token) (s : grammar.Scan) → grammar.Finds s ts
    → (grammar.Finds grammar.short ts → ⊥)
    → (r : Answer) × FunctionMeans integers text ts r
by_scan integers text ts grammar.whole ((f, reads), fine) n = (walked (walk integers (line_at text) f), inr (inr (f, reads, fine, refl)))
by_scan integers text ts grammar.short f n = absurd (n f)
by_scan integers text ts (grammar.unexpected a) f n = (Err (fault.Unexpected a), inl (a, f, refl))
by_scan integers text ts (grammar.nested a) f n = (Err (fault.Nesting a), inr (inl (a, f, refl)))

module _ (definitions : List Definition) (text : List ℕ) (integers : Integers) where
  each_item : (ts : List Token) → (grammar.Finds grammar.short (tokens_of definitions text ts) → ⊥) → (o : Option SourceFault)
      → (r : Answer) × ItemMeans definitions text integers ts o r
  each_item ts n (Some e) = (Err e, refl)
  each_item ts n None =
      let tokens = tokens_of definitions text ts in
      by_scan integers text tokens (scan start tokens) (found_by (scan start tokens) tokens refl) n

  each_chosen : (asked : Option (List ℕ)) (code : List Token) (ds : List Defined) → AllWhole code ds → (o : Option Defined)
      → chosen asked ds ≡ o → (r : Answer) × ChosenMeans definitions text integers code o r
  each_chosen asked code ds h None e = (Err fault.WhichFunction, refl)
  each_chosen asked code ds h (Some d) e =
      each_item (item_of code d) (λ f. whole_never_short definitions text code d (chosen_whole code asked ds d h e) f)
      (first_outside definitions text (item_of code d))

  each_functions : (asked : Option (List ℕ)) (code : List Token) (ds : List Defined) → AllWhole code ds → (o : Option ℕ)
      → (r : Answer) × FunctionsMean definitions text integers asked code ds o r
  each_functions asked code ds h (Some at) = (Err (fault.NameTwice at), refl)
  each_functions asked code ds h None = each_chosen asked code ds h (chosen asked ds) refl

by_outcome : (integers : Integers) (text : List ℕ) (asked : Option (List ℕ)) (ts : List Token) (o : file.Outcome)
    → file.Finds o (marks_of (code_of ts))
    → (r : Answer) × Means integers text asked ts r
by_outcome integers text asked ts (file.unexpected i) f = (Err (fault.Unexpected (place_of text (code_of ts) i)), inl (i, f, refl))
by_outcome integers text asked ts (file.divided items) f =
    let code = code_of ts in
    let ds = functions_of text code items in
    let definitions = definitions_of integers text ts items in
    let r = each_functions definitions text integers asked code ds (all_whole text code items f) (twice ds definitions) in
    (r.0, inr (items, f, r.1))

-- whatever is asked
pub each_means : (integers : Integers) (text : List ℕ) (asked : Option (List ℕ)) (ts : List Token)
    → (r : Answer) × Means integers text asked ts r
each_means integers text asked ts = let o = each_division (marks_of (code_of ts)) in by_outcome integers text asked ts o.0 o.1

names_by : (text : List ℕ) (ts : List Token) (o : file.Outcome) → file.Finds o (marks_of (code_of ts))
    → (r : Result (List (List ℕ)) SourceFault) × NamesAre text ts r
names_by text ts (file.unexpected i) f = (Err (fault.Unexpected (place_of text (code_of ts) i)), inl (i, f, refl))
names_by text ts (file.divided items) f =
    let ds = functions_of text (code_of ts) items in
    (named_in ds (twice ds (definitions_of Mathematical text ts items)), inr (items, f, refl))

-- and have functions, or a fault
pub each_names : (text : List ℕ) (ts : List Token) → (r : Result (List (List ℕ)) SourceFault) × NamesAre text ts r
each_names text ts = let o = each_division (marks_of (code_of ts)) in names_by text ts o.0 o.1
