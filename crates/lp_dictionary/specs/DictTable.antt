-- The table that a dictionary in one list stands for.
use Rattle.base_numbers.specs.Rational.{ℚ}
use Rattle.lp_theory.specs.Table.{Table}
use Rattle.lp_dictionary.specs.declared.dict.Dict.{Dict}
use Rattle.lp_dictionary.specs.Cells.{cells_table}

-- the table of a dictionary, whose entries mean what m says
abbrev pub dict_table : {F : Type 0} → (F → ℚ) → Dict F → Table
dict_table m d = cells_table m d.basics.items d.others.items d.goals d.entries.items
