-- Reads of entries by row and column, and the entries of a dictionary's table.
use Rattle.std.proofs.Common.{◌≡◌, ℕ, suc, ◌+◌, ◌*◌, ◌<◌, ◌≤◌, List, length, get_or, ap, sym, ◌∙◌, subst}
use Rattle.base_numbers.specs.Rational.{ℚ}
use Rattle.lp_theory.proofs.FlatTables.{place_in}
use Rattle.lp_dictionary.specs.Cells.{row_from}
use Rattle.lp_dictionary.proofs.cells.Cells.{cell_read}

-- the entry at a row and a column, where a row has s entries
pub placed_read : {F : Type 0} (m : F → ℚ) (xs : List F) (bs ns : List ℕ) (goals row col s : ℕ) (x : F)
    → length xs ≡ (length bs + goals) * suc (length ns) → row < length bs + goals → col ≤ length ns → s ≡ suc (length ns) →
    x ≡ get_or xs (row * s + col) x → m x ≡ row_from m xs (row * suc (length ns)) col
placed_read m xs bs ns goals row col s x e l b f h =
    let p : row * suc (length ns) + col < length xs = subst (λ n. row * suc (length ns) + col < n) (sym e)
    (place_in (length ns) (length bs + goals) row col l b) in
    sym (cell_read m xs (row * suc (length ns) + col) x p (h ∙ ap (λ t. get_or xs (row * t + col) x) f))
