use Rattle.std.proofs.Common.{ℕ, ◌≤◌, length, drop}
use Rattle.lp_dictionary.specs.Entries.{value_at, Rises, HasNoZero}
use Rattle.lp_sparse.specs.Merge.{Merging}
use Rattle.lp_sparse.proofs.merge.merge.Given as goal

abbrev pub invariant-loop-j : goal.invariant-loop-j
invariant-loop-j g l =
    let m = g.F.OrderedField.meaning in
    record {
      place : l.i ≤ length l.entries;
      no_zero : HasNoZero m l.merged.items;
      merging : (n : ℕ) → Rises 0 n l.entries → Rises 0 n l.above → (r : ℕ)
          × Merging m g.F.OrderedField.LIMIT (value_at m l.entries) (value_at m l.above) (m l.factor) l.col n r (drop l.i l.entries)
          (drop l.j l.above) l.merged.items;
    }
