-- What is told of a file before one of its functions is chosen.
use Rattle.std.proofs.Common.{◌≡◌, ◌∙◌, inl, inr, ℕ, List, Option, Some, Result, Ok, Err, sym, ap, ap₂, subst}
use Rattle.std.specs.Prelude.{IfErr, IsErrAnd}
use Rattle.base_integers.specs.declared.integers.Integers.{Integers}
use Rattle.base_integers.specs.declared.integers.Integers.TheVariants.{Mathematical}
use Rattle.lang_tokens.specs.declared.token.Token.{Token}
use Rattle.source_items.specs.declared.item.Item.{Item}
use Rattle.source_items.specs.Divisions as file
use Rattle.source_tokens.specs.declared.definition.Definition.{Definition}
use Rattle.source_tokens.specs.View.{marks_of}
use Rattle.source_constants.specs.Directives.{code_of}
use Rattle.source_constants.specs.Definitions.{definitions_of}
use Rattle.source_file.specs.declared.functions.Defined.{Defined}
use Rattle.source_file.specs.declared.fault.SourceFault.{SourceFault}
use Rattle.source_file.specs.declared.fault.SourceFault.TheVariants.{NoMemory, Unexpected, NameTwice}
use Rattle.source_file.specs.Functions.{functions_of}
use Rattle.source_file.specs.Meaning.{Answer, Means, NamesAre, named_in, place_of, twice}

-- a fault that is handed on is told
pub handed_on : {A : Type 0} (r : Result A SourceFault) (e : SourceFault) (Told : SourceFault → Type 0) → IsErrAnd r (λ f. f ≡ e)
    → ((e ≡ NoMemory → ⊥) → Told e) → IfErr r (λ f. (f ≡ NoMemory → ⊥) → Told f)
handed_on (Ok x) e Told k h = tt
handed_on (Err f) e Told k h = λ n. subst Told (sym k) (h (λ m. n (k ∙ m)))

abbrev no_answer : SourceFault → Answer
no_answer e = Err e

abbrev no_names : SourceFault → Result (List (List ℕ)) SourceFault
no_names e = Err e

module _ (text : List ℕ) (ts : List Token) where
  -- this token of code is the first that fits no item
  abbrev IsUnexpected : List Token → SourceFault → Type 0
  IsUnexpected code e = (index : ℕ) × file.Finds (file.unexpected index) (marks_of code) × (e ≡ Unexpected (place_of text code index))

  -- it is told of the names
  pub unexpected_names : (code : List Token) (e : SourceFault) → code ≡ code_of ts → IsUnexpected code e → NamesAre text ts (Err e)
  unexpected_names code e is h =
      let (index, found, same) = subst (λ (x : List Token). IsUnexpected x e) is h in inl (index, found, ap no_names same)

  -- and of what the file means
  pub unexpected_means : (integers : Integers) (asked : Option (List ℕ)) (code : List Token) (e : SourceFault) → code ≡ code_of ts
      → IsUnexpected code e → Means integers text asked ts (Err e)
  unexpected_means integers asked code e is h =
      let (index, found, same) = subst (λ (x : List Token). IsUnexpected x e) is h in inl (index, found, ap no_answer same)

  -- a name that stands twice is told of the names
  pub twice_names : (integers : Integers) (code : List Token) (items : List Item) (ds : List Defined) (definitions : List Definition)
      (at : ℕ) → integers ≡ Mathematical → code ≡ code_of ts → file.Finds (file.divided items) (marks_of code)
      → ds ≡ functions_of text code items → definitions ≡ definitions_of integers text ts items → Some at ≡ twice ds definitions
      → NamesAre text ts (Err (NameTwice at))
  twice_names integers code items ds definitions at m is found are defined e =
      let functions : ds ≡ functions_of text (code_of ts) items = are ∙ ap (λ (x : List Token). functions_of text x items) is in
      let constants : definitions ≡ definitions_of Mathematical text ts items =
      defined ∙ ap (λ (x : Integers). definitions_of x text ts items) m in
      inr (
        items,
        subst (λ (x : List Token). file.Finds (file.divided items) (marks_of x)) is found,
        ap (named_in ds) e
            ∙ ap₂ (λ (x : List Defined) (y : List Definition). named_in x (twice x y)) functions constants,
      )
