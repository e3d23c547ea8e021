-- That rows rise below a bound is known in one way only.
use Rattle.std.specs.Prelude.{ℕ, suc, ◌<◌, ◌≤◌, List, [], ◌∷◌}
use Rattle.std.specs.Coded.{Π_prop, Unit-prop, le_prop}
use Rattle.lp_dictionary.specs.declared.entry.Entry.{Entry}
use Rattle.lp_sparse.specs.declared.row.SparseRow.{SparseRow}
use Rattle.lp_dictionary.specs.Entries.{Rises}
use Rattle.lp_sparse.specs.Rows.{row_at, EachRises}

-- that a row rises below n has one proof at most
pub Rises-prop : {F : Type 0} (lo n : ℕ) (es : List (Entry F)) → IsProp (Rises lo n es)
Rises-prop lo n [] = Unit-prop
Rises-prop lo n (e ∷ es) = let h = Rises-prop (suc e.col) n es in let a : IsProp (lo ≤ e.col) = le_prop in
    let b : IsProp (e.col < n) = le_prop in hlevel (h, a, b)

-- that all rows rise below n has one proof at most
pub EachRises-prop : {F : Type 0} (n : ℕ) (rows : List (SparseRow F)) → IsProp (EachRises n rows)
EachRises-prop n rows = Π_prop (λ i. Rises-prop 0 n (row_at rows i))
