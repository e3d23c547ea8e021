-- The plain trees that conditions and deeds of the code stand for.
use Rattle.std.specs.Prelude.{List, [], ◌∷◌}
use Rattle.lang_tree.specs.declared.cond.Cond.{Cond, fold-Cond}
use Rattle.lang_tree.specs.declared.cond.Cond.TheOpen.{Cond-F}
use Rattle.lang_tree.specs.Tree.{Condition, free, compare, negation, both, either, sets, havocs, wheres, checks}
use Rattle.lang_tree.specs.Tree as tree
use Rattle.lang_tree.specs.declared.deed.Deed.{Deed}
use Rattle.lang_tree.specs.declared.deed.Deed.TheVariants as deed

-- one level of a condition
abbrev pub condition_step : Cond-F Condition → Condition
condition_step Cond-F.Free = free
condition_step (Cond-F.Cmp rel form) = compare rel form
condition_step (Cond-F.Not c) = negation c.value
condition_step (Cond-F.Both c d) = both c.value d.value
condition_step (Cond-F.Either c d) = either c.value d.value

-- the tree of a condition
abbrev pub condition_of : Cond → Condition
condition_of = fold-Cond Condition condition_step

-- a deed of the code
abbrev pub deed_of : Deed → tree.Deed
deed_of (deed.Set var form line) = sets var form line
deed_of (deed.Havoc var line) = havocs var line
deed_of (deed.Where cond line) = wheres (condition_of cond) line
deed_of (deed.Check about cond line) = checks about (condition_of cond) line

-- deeds of the code
abbrev pub deeds_of : List Deed → List tree.Deed
deeds_of [] = []
deeds_of (d ∷ ds) = deed_of d ∷ deeds_of ds
