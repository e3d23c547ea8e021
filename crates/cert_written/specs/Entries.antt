-- Lists of fractions as texts have them.
use Rattle.std.specs.Prelude.{ℕ, List}
use Rattle.base_numbers.specs.Rational.{ℚ}
use Rattle.cert_written.specs.declared.pairs.Pair.{Pair}
use Rattle.cert_written.specs.declared.entries.Entries.{Entries}
use Rattle.cert_written.specs.declared.entries.Entries.TheVariants.{Dense, Sparse}
use Rattle.cert_written.specs.Pairs.{filled, length_for, nonzero}

-- the entries of a list that aren't 0
abbrev pub without_zeros : Entries → List Pair
without_zeros (Dense qs) = nonzero 0 qs
without_zeros (Sparse ps) = ps

-- the list for which entries stand where this length is asked for
abbrev pub entries_for : ℕ → Entries → List ℚ
entries_for n (Dense qs) = qs
entries_for n (Sparse ps) = filled (length_for n ps) ps
