-- The groups of a function are one grouping.
use Rattle.std.proofs.Common.{◌≡◌, ◌∙◌, ℕ, List, Option, Some, sym, ap, ap₂, subst}
use Rattle.base_integers.specs.declared.integers.Integers.{Integers}
use Rattle.lang_tokens.specs.declared.token.Token.{Token}
use Rattle.lang_groups.specs.Groups.{SameTogether}
use Rattle.lang_groups.proofs.together.Same.{same_sym, same_trans}
use Rattle.source_items.specs.declared.item.Item.{Item}
use Rattle.source_items.specs.Divisions as file
use Rattle.source_items.proofs.files.Lemmas.{one_outcome}
use Rattle.source_grammar.specs.Grammar.{Function, Reads}
use Rattle.source_grammar.proofs.grammar.Once.{reads_once}
use Rattle.source_tokens.specs.declared.definition.Definition.{Definition}
use Rattle.source_tokens.specs.View.{marks_of, tokens_of}
use Rattle.source_constants.specs.Definitions.{definitions_of}
use Rattle.source_constants.specs.Directives.{code_of}
use Rattle.source_file.specs.declared.functions.Defined.{Defined}
use Rattle.source_file.specs.Choice.{chosen}
use Rattle.source_file.specs.Functions.{functions_of}
use Rattle.source_file.specs.Meaning.{AreFunctions, IsChosen, item_of}
use Rattle.source_packs.specs.Packs.{groups_of}
use Rattle.source_groups.specs.Grouping.{AreGroups}

items_same : (items others : List Item) → file.divided items ≡ file.divided others → items ≡ others
items_same items others e = cc

place_same : (d e : Defined) → (let o : Option Defined = Some d in o) ≡ Some e → d ≡ e
place_same d e h = cc

module _ (integers : Integers) (text : List ℕ) (asked : Option (List ℕ)) (ts : List Token) where
  -- a file's items are one list
  items_once : {ds es : List Definition} {fs gs : List Defined} (a : AreFunctions integers text ts ds fs)
      (b : AreFunctions integers text ts es gs) → a.items ≡ b.items
  items_once a b = items_same a.items b.items
      (one_outcome (marks_of (code_of ts)) (file.divided a.items) (file.divided b.items) a.found b.found)

  -- what it defines is one list,
  pub definitions_once : (ds es : List Definition) (d e : Defined) → IsChosen integers text asked ts ds d
      → IsChosen integers text asked ts es e
      → ds ≡ es
  definitions_once ds es d e a b = a.are.defined
      ∙ ap (λ (items : List Item). definitions_of integers text ts items) (items_once a.are b.are) ∙ sym b.are.defined

  -- and its function that is asked about is one.
  pub place_once : (ds es : List Definition) (d e : Defined) → IsChosen integers text asked ts ds d → IsChosen integers text asked ts es e
      → d ≡ e
  place_once ds es d e a b = place_same d e (a.picked
      ∙ ap (λ (fs : List Defined). chosen asked fs)
      (a.are.are ∙ ap (λ (items : List Item). functions_of text (code_of ts) items) (items_once a.are b.are) ∙ sym b.are.are)
      ∙ sym b.picked)

  -- So are its groups.
  pub grouping_once : (names one other : List (List ℕ)) → AreGroups integers text asked ts names one
      → AreGroups integers text asked ts names other → SameTogether one other
  grouping_once names one other a b =
      let ds : a.definitions ≡ b.definitions = definitions_once a.definitions b.definitions a.place b.place a.chosen b.chosen in
      let place : a.place ≡ b.place = place_once a.definitions b.definitions a.place b.place a.chosen b.chosen in
      let tokens : tokens_of a.definitions text (item_of (code_of ts) a.place)
      ≡ tokens_of b.definitions text (item_of (code_of ts) b.place) =
      ap₂ (λ (d : List Definition) (p : Defined). tokens_of d text (item_of (code_of ts) p)) ds place in
      let tree : a.tree ≡ b.tree = reads_once (tokens_of b.definitions text (item_of (code_of ts) b.place)) a.tree b.tree
      (subst (λ w. Reads w a.tree) tokens a.reads) b.reads in
      same_trans a.same (subst (λ (f : Function). SameTogether (groups_of names f) other) (sym tree) (same_sym b.same))
