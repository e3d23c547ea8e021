-- Tokens mean one thing at most.
use Rattle.std.proofs.Common.{◌≡◌, ◌∙◌, inl, inr, ℕ, List, Option, Some, None, Result, Err, refl, sym, ap, subst}
use Rattle.lang_tokens.specs.declared.token.Token.{Token}
use Rattle.lang_tokens.specs.Lines.{line_at}
use Rattle.source_items.specs.declared.item.Item.{Item}
use Rattle.source_items.specs.Divisions as file
use Rattle.source_items.proofs.files.Lemmas.{one_outcome}
use Rattle.source_grammar.specs.Tokens as g
use Rattle.source_grammar.specs.Grammar.{Function, Reads}
use Rattle.source_grammar.specs.Faults as grammar
use Rattle.source_grammar.specs.Machine.{start}
use Rattle.source_grammar.specs.Verdicts.{scan}
use Rattle.source_grammar.proofs.faults.Exact.{exact_by}
use Rattle.source_grammar.proofs.grammar.Once.{reads_once}
use Rattle.source_meaning.specs.Walk.{walk}
use Rattle.source_tokens.specs.declared.definition.Definition.{Definition}
use Rattle.source_tokens.specs.View.{marks_of, tokens_of}
use Rattle.source_constants.specs.Directives.{code_of}
use Rattle.source_constants.specs.Definitions.{definitions_of}
use Rattle.source_file.specs.declared.functions.Defined.{Defined}
use Rattle.source_file.specs.declared.fault.SourceFault.{SourceFault}
use Rattle.source_file.specs.declared.fault.SourceFault.TheVariants as fault
use Rattle.source_file.specs.Functions.{functions_of}
use Rattle.source_file.specs.Choice.{chosen}
use Rattle.source_file.specs.Meaning.{Answer, place_of, item_of, walked, FunctionMeans, first_outside, ItemMeans, ChosenMeans}
use Rattle.source_file.specs.Meaning.{FunctionsMean}
use Rattle.source_file.specs.Meaning.{twice, Means, named_in, NamesAre}
use Rattle.base_integers.specs.declared.integers.Integers.{Integers}
use Rattle.base_integers.specs.declared.integers.Integers.TheVariants.{Mathematical}

one_scan : (ts : List g.Token) (s t : grammar.Scan) → grammar.Finds s ts → grammar.Finds t ts → s ≡ t
one_scan ts s t a b = sym (exact_by (scan start ts) s ts refl a) ∙ exact_by (scan start ts) t ts refl b

-- what is answered where this is found
abbrev Answers : (integers : Integers) (text : List ℕ) → List g.Token → grammar.Scan → Answer → Type 0
Answers integers text ts grammar.whole r = (f : Function) × Reads ts f × (r ≡ walked (walk integers (line_at text) f))
Answers integers text ts grammar.short r = ⊥
Answers integers text ts (grammar.unexpected a) r = r ≡ Err (fault.Unexpected a)
Answers integers text ts (grammar.nested a) r = r ≡ Err (fault.Nesting a)

told : (integers : Integers) (text : List ℕ) (ts : List g.Token) (r : Answer) → FunctionMeans integers text ts r
    → (s : grammar.Scan) × grammar.Finds s ts × Answers integers text ts s r
told integers text ts r (inl (a, f, e)) = (grammar.unexpected a, f, e)
told integers text ts r (inr (inl (a, f, e))) = (grammar.nested a, f, e)
told integers text ts r (inr (inr (f, reads, fine, e))) = (grammar.whole, ((f, reads), fine), (f, reads, e))

one_answer : (integers : Integers) (text : List ℕ) (ts : List g.Token) (s : grammar.Scan) (r q : Answer) → Answers integers text ts s r
    → Answers integers text ts s q → r ≡ q
one_answer integers text ts grammar.whole r q (f, a, e) (h, b, i) =
    e ∙ ap (λ (x : Function). walked (walk integers (line_at text) x)) (reads_once ts f h a b) ∙ sym i
one_answer integers text ts grammar.short r q a b = absurd a
one_answer integers text ts (grammar.unexpected a) r q e i = e ∙ sym i
one_answer integers text ts (grammar.nested a) r q e i = e ∙ sym i

-- what a function means
pub function_once : (integers : Integers) (text : List ℕ) (ts : List g.Token) (r q : Answer) → FunctionMeans integers text ts r
    → FunctionMeans integers text ts q → r ≡ q
function_once integers text ts r q a b =
    let x = told integers text ts r a in
    let y = told integers text ts q b in
    let same : y.0 ≡ x.0 = one_scan ts y.0 x.0 y.1 x.1 in
    one_answer integers text ts x.0 r q x.2 (subst (λ (s : grammar.Scan). Answers integers text ts s q) same y.2)

module _ (definitions : List Definition) (text : List ℕ) (integers : Integers) where
  item_once : (ts : List Token) (o : Option SourceFault) (r q : Answer) → ItemMeans definitions text integers ts o r
      → ItemMeans definitions text integers ts o q → r ≡ q
  item_once ts (Some e) r q a b = a ∙ sym b
  item_once ts None r q a b = function_once integers text (tokens_of definitions text ts) r q a b

  chosen_once : (code : List Token) (o : Option Defined) (r q : Answer) → ChosenMeans definitions text integers code o r
      → ChosenMeans definitions text integers code o q → r ≡ q
  chosen_once code None r q a b = a ∙ sym b
  chosen_once code (Some d) r q a b = item_once (item_of code d) (first_outside definitions text (item_of code d)) r q a b

  functions_once : (asked : Option (List ℕ)) (code : List Token) (ds : List Defined) (o : Option ℕ) (r q : Answer)
      → FunctionsMean definitions text integers asked code ds o r → FunctionsMean definitions text integers asked code ds o q → r ≡ q
  functions_once asked code ds (Some at) r q a b = a ∙ sym b
  functions_once asked code ds None r q a b = chosen_once code (chosen asked ds) r q a b

items_same : (items others : List Item) → file.divided items ≡ file.divided others → items ≡ others
items_same items others e = cc

index_same : (i j : ℕ) → file.unexpected i ≡ file.unexpected j → i ≡ j
index_same i j e = cc

unlike : {A : Type 0} (i : ℕ) (items : List Item) → file.unexpected i ≡ file.divided items → A
unlike i items e = cc

-- what tokens mean
pub means_once : (integers : Integers) (text : List ℕ) (asked : Option (List ℕ)) (ts : List Token) (r q : Answer)
    → Means integers text asked ts r → Means integers text asked ts q
    → r ≡ q
means_once integers text asked ts r q (inl (i, f, e)) (inl (j, h, k)) =
    let same = index_same i j (one_outcome (marks_of (code_of ts)) (file.unexpected i) (file.unexpected j) f h) in
    e ∙ ap (λ (n : ℕ). let a : Answer = Err (fault.Unexpected (place_of text (code_of ts) n)) in a) same ∙ sym k
means_once integers text asked ts r q (inl (i, f, e)) (inr (items, h, b)) =
    unlike i items (one_outcome (marks_of (code_of ts)) (file.unexpected i) (file.divided items) f h)
means_once integers text asked ts r q (inr (items, h, b)) (inl (i, f, e)) =
    unlike i items (one_outcome (marks_of (code_of ts)) (file.unexpected i) (file.divided items) f h)
means_once integers text asked ts r q (inr (items, h, b)) (inr (others, k, c)) =
    let code = code_of ts in
    let same = items_same others items (one_outcome (marks_of code) (file.divided others) (file.divided items) k h) in
    functions_once (definitions_of integers text ts items) text integers asked code (functions_of text code items)
    (twice (functions_of text code items) (definitions_of integers text ts items)) r q b
    (subst (λ (xs : List Item). FunctionsMean (definitions_of integers text ts xs) text integers asked code (functions_of text code xs)
    (twice (functions_of text code xs) (definitions_of integers text ts xs)) q) same c)

-- what its functions are
pub names_once : (text : List ℕ) (ts : List Token) (r q : Result (List (List ℕ)) SourceFault) → NamesAre text ts r → NamesAre text ts q
    → r ≡ q
names_once text ts r q (inl (i, f, e)) (inl (j, h, k)) =
    let same = index_same i j (one_outcome (marks_of (code_of ts)) (file.unexpected i) (file.unexpected j) f h) in
    e ∙ ap (λ (n : ℕ). let a : Result (List (List ℕ)) SourceFault = Err (fault.Unexpected (place_of text (code_of ts) n)) in a) same ∙ sym k
names_once text ts r q (inl (i, f, e)) (inr (items, h, b)) =
    unlike i items (one_outcome (marks_of (code_of ts)) (file.unexpected i) (file.divided items) f h)
names_once text ts r q (inr (items, h, b)) (inl (i, f, e)) =
    unlike i items (one_outcome (marks_of (code_of ts)) (file.unexpected i) (file.divided items) f h)
names_once text ts r q (inr (items, h, b)) (inr (others, k, c)) =
    let code = code_of ts in
    let same = items_same items others (one_outcome (marks_of code) (file.divided items) (file.divided others) h k) in
    b
    ∙ ap (λ (xs : List Item). named_in (functions_of text code xs)
    (twice (functions_of text code xs) (definitions_of Mathematical text ts xs))) same
    ∙ sym c
