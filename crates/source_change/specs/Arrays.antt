-- The sizes and the values of an array.
use Rattle.std.specs.Prelude.{◌≡◌, ◌++◌, List, [], map, Option, Some, None, Result, Ok}
use Rattle.source_grammar.specs.Tokens.{Token}
use Rattle.source_grammar.specs.Grammar.{Sizes, Initialiser, bare, given, sized, filled}
use Rattle.source_tree.specs.Expressions.{Extent}
use Rattle.source_tree.specs.Extents.{extent_of}
use Rattle.source_tree.specs.declared.extent.Extent as code_extent
use Rattle.source_meaning.specs.declared.fault.FunctionFault.{FunctionFault}
use Rattle.source_meaning.specs.Names.{State}
use Rattle.source_meaning.specs.Arrays.{read_sizes}
use Rattle.source_reader.specs.Reading.{Reading, at_tokens}
use Rattle.source_change.specs.Onto.{onto_sizes}

-- how sizes are spelled before other tokens, of which there may be none
abbrev pub onto_some_sizes : Option Sizes → List Token → List Token
onto_some_sizes None w = w
onto_some_sizes (Some ss) w = onto_sizes ss w

-- they as extents
abbrev pub read_some_sizes : State → Option Sizes → Result (List Extent) FunctionFault
read_some_sizes st None = Ok []
read_some_sizes st (Some ss) = read_sizes st ss

-- what stands behind the name of an array that is declared
abbrev pub IsArray : Initialiser → Type 0
IsArray bare = ⊥
IsArray (given a e) = ⊥
IsArray (sized ss) = Unit {0}
IsArray (filled ss a b vs c) = Unit {0}

-- extents of the code
abbrev pub extents_of : List code_extent.Extent → List Extent
extents_of es = map extent_of es

-- Sizes were read, up to these tokens: their extents stand behind those that were there.
pub record WereSized (rest : List Token) (old new : Reading) (before after : List code_extent.Extent) (es : List Extent) : Type 0 where
  pub extents : extents_of after ≡ extents_of before ++ es
  pub reader : new ≡ at_tokens old rest
