-- The groups of the function of a file that is asked about.
use Rattle.std.specs.Prelude.{ℕ, List, Option}
use Rattle.base_integers.specs.declared.integers.Integers.{Integers}
use Rattle.lang_tokens.specs.declared.token.Token.{Token}
use Rattle.lang_groups.specs.Groups.{SameTogether}
use Rattle.source_grammar.specs.Grammar.{Function, Reads}
use Rattle.source_tokens.specs.declared.definition.Definition.{Definition}
use Rattle.source_tokens.specs.View.{tokens_of}
use Rattle.source_constants.specs.Directives.{code_of}
use Rattle.source_file.specs.Meaning.{IsChosen, item_of}
use Rattle.source_file.specs.declared.functions.Defined.{Defined}
use Rattle.source_packs.specs.Packs.{groups_of}

-- By these groups the same variables stand together as by those of the function that is asked about: `names` are its variables in order,
-- and `ts` are the tokens of the text without its end.
pub record AreGroups (integers : Integers) (text : List ℕ) (asked : Option (List ℕ)) (ts : List Token) (names : List (List ℕ))
    (groups : List (List ℕ)) : Type 0 where
  pub definitions : List Definition
  pub place : Defined
  pub chosen : IsChosen integers text asked ts definitions place
  pub tree : Function
  pub reads : Reads (tokens_of definitions text (item_of (code_of ts) place)) tree
  pub same : SameTogether groups (groups_of names tree)
