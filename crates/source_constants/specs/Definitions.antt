-- What a file defines outside its functions.
use Rattle.std.specs.Prelude.{◌&&◌, ◌||◌, not, ◌++◌, ℕ, Bool, List, [], ◌∷◌, nat_lt, Option, Some, None, if◌then◌else◌}
use Rattle.std.specs.List.{insert, list_any, position_or_len}
use Rattle.std.specs.Str.{bytes_eq}
use Rattle.base_integers.specs.declared.integers.Integers.{Integers}
use Rattle.lang_tokens.specs.declared.token.Token.{Token}
use Rattle.source_items.specs.declared.item.Item.{Item}
use Rattle.source_tokens.specs.declared.definition.Definition.{Definition}
use Rattle.source_constants.specs.Directives.{code_of, by_directives}
use Rattle.source_constants.specs.Items.{is_no_number, by_items}

-- how many definitions stand before the first that stands behind a place
abbrev pub place_in : (at : ℕ) → List Definition → ℕ
place_in at ds = position_or_len (λ (d : Definition). nat_lt at d.at) ds

-- definitions in the order of their places with one more in its own
abbrev pub with_placed : Definition → List Definition → List Definition
with_placed d es = insert es (place_in d.at es) d

-- the same with several more, one after another
abbrev pub with_all_placed : List Definition → List Definition → List Definition
with_all_placed [] es = es
with_all_placed (d ∷ ds) es = with_all_placed ds (with_placed d es)

-- what a file of these tokens and these items defines, in the order of the text
abbrev pub definitions_of : Integers → (text : List ℕ) → List Token → List Item → List Definition
definitions_of integers text ts items =
    with_all_placed (by_items (by_directives integers text ts) text (code_of ts) items) (by_directives integers text ts)

-- two definitions make constants of one name, not both by directives
abbrev pub is_clash : Definition → Definition → Bool
is_clash d e = not (is_no_number d) && (not (is_no_number e) && ((d.by_item || e.by_item) && bytes_eq d.name e.name))

-- the place of the first constant whose name is that of one before it, behind these definitions
abbrev pub repeated : (before : List Definition) → List Definition → Option ℕ
repeated before [] = None
repeated before (d ∷ ds) = if list_any (is_clash d) before then Some d.at else repeated (before ++ d ∷ []) ds
