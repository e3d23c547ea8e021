-- The table that a dictionary of sparse rows stands for.
use Rattle.base_numbers.specs.Rational.{ℚ}
use Rattle.lp_theory.specs.Table.{Table}
use Rattle.lp_sparse.specs.declared.sparse.Sparse.{Sparse}
use Rattle.lp_sparse.specs.Rows.{numbers, NoZeros}
use Rattle.lp_sparse.specs.Named.{named_table}

-- the table of a dictionary, whose values mean what m says
abbrev pub sparse_table : {F : Type 0} → (F → ℚ) → Sparse F → Table
sparse_table m d = named_table d.basics.items d.others.items d.goals (numbers m d.rows.items)

-- the dictionary keeps no entry that is 0
abbrev pub KeepsNoZero : {F : Type 0} → (F → ℚ) → Sparse F → Type 0
KeepsNoZero m d = NoZeros m d.rows.items
