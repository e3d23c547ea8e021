-- What the choice of a function says of a file.
use Rattle.std.proofs.Common.{◌≡◌, ◌∙◌, inl, inr, ◌≤◌, ℕ, List, Option, Some, None, Err, length, refl, sym, ap, subst}
use Rattle.base_integers.specs.declared.integers.Integers.{Integers}
use Rattle.lang_tokens.specs.declared.token.Token.{Token}
use Rattle.source_items.specs.declared.item.Item.{Item}
use Rattle.source_items.specs.Divisions as file
use Rattle.source_items.proofs.files.Lemmas.{one_outcome}
use Rattle.source_grammar.specs.Faults as grammar
use Rattle.source_tokens.specs.declared.definition.Definition.{Definition}
use Rattle.source_tokens.specs.View.{marks_of, tokens_of}
use Rattle.source_constants.specs.Directives.{code_of}
use Rattle.source_constants.specs.Definitions.{definitions_of}
use Rattle.source_file.specs.declared.functions.Defined.{Defined}
use Rattle.source_file.specs.declared.fault.SourceFault.{SourceFault}
use Rattle.source_file.specs.Functions.{functions_of}
use Rattle.source_file.specs.Choice.{chosen}
use Rattle.source_file.specs.Meaning.{Answer, FunctionMeans, ItemMeans, ChosenMeans, FunctionsMean, Means, first_outside, item_of, twice}
use Rattle.source_file.specs.Meaning.{AreFunctions, IsChosen}
use Rattle.source_file.proofs.wholes.Functions.{IsWhole, all_whole, chosen_whole, whole_never_short, whole_within}

-- one division is not the other
no_fault : (i : ℕ) (items : List Item) → file.unexpected i ≡ file.divided items → ⊥
no_fault i items e = cc

one_list : (items others : List Item) → file.divided items ≡ file.divided others → items ≡ others
one_list items others e = cc

module _ (integers : Integers) (text : List ℕ) (ts : List Token) (definitions : List Definition) (ds : List Defined)
    (h : AreFunctions integers text ts definitions ds) where
  abbrev code : List Token
  code = code_of ts

  module _ (asked : Option (List ℕ)) where
    -- what the functions and the definitions mean
    abbrev Mean : Answer → List Definition → List Defined → Type 0
    Mean r definitions ds = FunctionsMean definitions text integers asked code ds (twice ds definitions) r

    -- what the chosen function means is meant
    pub chosen_means : (o : Option Defined) (r : Answer) → o ≡ chosen asked ds → ChosenMeans definitions text integers code o r
        → Means integers text asked ts r
    chosen_means o r e m =
        let here : FunctionsMean definitions text integers asked code ds None r =
        subst (λ (x : Option Defined). ChosenMeans definitions text integers code x r) e m in
        let there : Mean r definitions ds =
        subst (λ (x : Option ℕ). FunctionsMean definitions text integers asked code ds x r) (sym h.apart) here in
        inr (
          h.items,
          h.found,
          subst (Mean r (definitions_of integers text ts h.items)) h.are
              (subst (λ (x : List Definition). Mean r x ds) h.defined there),
        )

    -- a token of it that may stand in no function is told
    pub outside_means : (d : Defined) (e : SourceFault) → Some d ≡ chosen asked ds
        → Some e ≡ first_outside definitions text (item_of code d) → Means integers text asked ts (Err e)
    outside_means d e picked found =
        let m : ItemMeans definitions text integers (item_of code d) (Some e) (Err e) = refl in
        chosen_means (Some d) (Err e) picked
        (subst (λ (x : Option SourceFault). ItemMeans definitions text integers (item_of code d) x (Err e)) found m)

    -- it is whole
    pub chosen_is_whole : (d : Defined) → Some d ≡ chosen asked ds → IsWhole code d
    chosen_is_whole d e =
        chosen_whole code asked (functions_of text code h.items) d (all_whole text code h.items h.found)
        (sym (e ∙ ap (λ (x : List Defined). chosen asked x) h.are))

    -- its first token stands before the one behind its last
    pub chosen_first : (d : Defined) → Some d ≡ chosen asked ds → d.first ≤ d.end
    chosen_first d e = (chosen_is_whole d e).order

    -- which is there
    pub chosen_end : (d : Defined) → Some d ≡ chosen asked ds → d.end ≤ length code
    chosen_end d e = whole_within code d (chosen_is_whole d e)

module _ (integers : Integers) (text : List ℕ) (asked : Option (List ℕ)) (ts : List Token) (definitions : List Definition) (d : Defined)
    (h : IsChosen integers text asked ts definitions d) where
  -- its tokens are in order
  pub first_is : d.first ≤ d.end
  first_is = chosen_first integers text ts definitions h.functions h.are asked d h.picked

  -- and are there
  pub end_is : d.end ≤ length (code_of ts)
  end_is = chosen_end integers text ts definitions h.functions h.are asked d h.picked

  -- they never end too early
  pub never_short : (others : List Definition) (words : List ℕ)
      → grammar.Finds grammar.short (tokens_of others words (item_of (code_of ts) d)) → ⊥
  never_short others words s =
      whole_never_short others words (code_of ts) d (chosen_is_whole integers text ts definitions h.functions h.are asked d h.picked) s

  -- what they mean the file does
  pub chosen_all : (r : Answer) → FunctionMeans integers text (tokens_of definitions text (item_of (code_of ts) d)) r
      → Means integers text asked ts r
  chosen_all r m =
      chosen_means integers text ts definitions h.functions h.are asked (Some d) r h.picked
      (subst (λ (x : Option SourceFault). ItemMeans definitions text integers (item_of (code_of ts) d) x r) (sym h.inside) m)

  -- what the file means they do
  pub chosen_only : (wanted : Answer) → Means integers text asked ts wanted
      → FunctionMeans integers text (tokens_of definitions text (item_of (code_of ts) d)) wanted
  chosen_only wanted (inl (i, f, e)) =
      absurd (no_fault i h.are.items (one_outcome (marks_of (code_of ts)) (file.unexpected i) (file.divided h.are.items) f h.are.found))
  chosen_only wanted (inr (items, f, m)) =
      let code = code_of ts in
      let same = one_list items h.are.items (one_outcome (marks_of code) (file.divided items) (file.divided h.are.items) f h.are.found) in
      let F : List Definition → List Defined → Type 0 = λ defs l.
      FunctionsMean defs text integers asked code l (twice l defs) wanted in
      let G : List Item → Type 0 = λ l. F (definitions_of integers text ts l) (functions_of text code l) in
      let there : F definitions h.functions =
      subst (λ (x : List Definition). F x h.functions) (sym h.are.defined)
      (subst (F (definitions_of integers text ts h.are.items)) (sym h.are.are) (subst G same m)) in
      let apart : FunctionsMean definitions text integers asked code h.functions None wanted =
      subst (λ (o : Option ℕ). FunctionsMean definitions text integers asked code h.functions o wanted) h.are.apart there in
      let item : ChosenMeans definitions text integers code (Some d) wanted =
      subst (λ (o : Option Defined). ChosenMeans definitions text integers code o wanted) (sym h.picked) apart in
      subst (λ (x : Option SourceFault). ItemMeans definitions text integers (item_of code d) x wanted) h.inside item
