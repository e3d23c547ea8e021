-- Definitions put into their places one after another.
use Rattle.std.proofs.Common.{◌≡◌, List, [], ◌∷◌, ◌++◌, refl}
use Rattle.source_tokens.specs.declared.definition.Definition.{Definition}
use Rattle.source_constants.specs.Definitions.{with_placed, with_all_placed}

-- a definition behind others is placed after them
pub one_more : (ds : List Definition) (d : Definition) (es : List Definition)
    → with_all_placed (ds ++ d ∷ []) es ≡ with_placed d (with_all_placed ds es)
one_more [] d es = refl
one_more (c ∷ ds) d es = one_more ds d (with_placed c es)
