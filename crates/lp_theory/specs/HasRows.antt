-- Tables in which each basic name has a row.
use Rattle.std.specs.Prelude.{◌≡◌, ◌≢◌, ℕ, ◌<◌, true}
use Rattle.lp_theory.specs.Dictionary.{Dict}
use Rattle.lp_theory.specs.Table.{Table}

-- a row for each basic name but 0
pub record HasRows (n : ℕ) (T : Table) (D : Dict) : Type 0 where
  pub has : (q : ℕ) → q < n → q ≢ 0 → D.basic q ≡ true → (i : ℕ) × (i < T.rows) × (T.row_name i ≡ q)
