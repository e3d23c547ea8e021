-- What is done to check evidence of an upper bound.
use Rattle.std.specs.Prelude.{◌≡◌, ℕ, Bool, true, false, ℤ, pos, List, [], ◌∷◌, ◌++◌, length, map, get_or, flat_map}
use Rattle.std.specs.List.{range_with_len}
use native.Mathlib.Decide.{dec_lt, ℕ_discrete}
use Rattle.base_numbers.specs.Rational.{ℚ, whole, zero_ℚ, ◌+ℚ◌, ◌*ℚ◌, neg_ℚ}
use Rattle.base_numbers.specs.Extended.{Ext, neg_inf, fin, pos_inf}
use Rattle.base_numbers.proofs.rational.Laws.{ℚ_discrete}
use Rattle.base_fractions.specs.declared.wide.Op.TheVariants.{Add, Mul}
use Rattle.base_fractions.specs.Operation.{Operation}
use Rattle.flow_edges.specs.declared.edge.Edge.{Edge}
use Rattle.flow_systems.specs.declared.spot.Site.{Site}
use Rattle.flow_systems.specs.Equations.{Equations, Vector}
use Rattle.theory_validity.specs.Words.{width, guard_forms, end_form}
use Rattle.theory_validity.specs.Certificates.{Evidence, Bound, Empty, Unreached, num, NotFinite, combination, side, Multipliers}
use Rattle.theory_validity.specs.Decide.{dec_and, dec_imp, dec_by, dec_lt_ℚ, dec_leᴱ, dec_finite, dec_not_finite, dec_below, dec_nonneg}
use Rattle.theory_validity.specs.Decide.{ext_same}
use Rattle.theory_validity.specs.Faults.{Fault}
use Rattle.cert_checker.specs.Events.{Event, Test, sums, decided}

-- ---- sums of products, from the left
-- the sum that products lead to
unfoldable pub total : ℚ → List ℚ → List ℚ → ℚ
total sum [] ys = sum
total sum (x ∷ xs) [] = sum
total sum (x ∷ xs) (y ∷ ys) = total (sum +ℚ (x *ℚ y)) xs ys

-- each product is formed and then added
unfoldable pub products : ℚ → List ℚ → List ℚ → List Operation
products sum [] ys = []
products sum (x ∷ xs) [] = []
products sum (x ∷ xs) (y ∷ ys) = record { op = Mul; left = x; right = y } ∷ record { op = Add; left = sum; right = x *ℚ y }
    ∷ products (sum +ℚ (x *ℚ y)) xs ys

-- the multipliers of rows with what they take, and then those of guards
abbrev pub both_products : List ℚ → List ℚ → List ℚ → List ℚ → List Operation
both_products rows xs guards ys = products zero_ℚ rows xs ++ products (total zero_ℚ rows xs) guards ys

-- what rows and guards have at a column: a row has nothing at a free value's
abbrev pub row_column : Equations → ℕ → List ℚ
row_column system k = map (λ row. whole (get_or row k (pos 0))) system.template

-- the coefficients of the composed guards
abbrev pub guard_column : Equations → Edge → ℕ → List ℚ
guard_column system edge k = map (λ g. get_or g.coeffs k zero_ℚ) (guard_forms system.variables edge.actions)

-- the finite bounds of the rows at the source: another one counts as 0, as its multiplier is
abbrev pub row_numbers : Equations → Vector → Edge → List ℚ
row_numbers system z edge = map (λ r. num (z edge.from r)) (range_with_len 0 (length system.template))

-- the negated constants of the composed guards
abbrev pub guard_numbers : Equations → Edge → List ℚ
guard_numbers system edge = map (λ g. neg_ℚ g.constant) (guard_forms system.variables edge.actions)

-- the sum of a column
abbrev pub column_operations : Equations → Edge → List ℚ → List ℚ → ℕ → List Operation
column_operations system edge rows guards k = both_products rows (row_column system k) guards (guard_column system edge k)

-- the sum of the side
abbrev pub side_operations : Equations → Vector → Edge → List ℚ → List ℚ → List Operation
side_operations system z edge rows guards = both_products rows (row_numbers system z edge) guards (guard_numbers system edge)

-- ---- tests
-- a bound is a fraction
abbrev pub is_fraction : Ext → Bool
is_fraction neg_inf = false
is_fraction (fin c) = true
is_fraction pos_inf = false

-- whether multipliers are as many as rows and guards, not negative, and 0 on each row whose bound isn't finite
pub dec_multipliers : (system : Equations) (z : Vector) (edge : Edge) (rows guards : List ℚ) → Dec (Multipliers system z edge rows guards)
dec_multipliers system z edge rows guards = dec_by
    (λ p. record { row_count = p.0; guard_count = p.1.0; rows_nonneg = p.1.1.0; guards_nonneg = p.1.1.1.0; zero_where = p.1.1.1.1 })
    (λ h. (h.row_count, (h.guard_count, (h.rows_nonneg, (h.guards_nonneg, h.zero_where)))))
    (dec_and (ℕ_discrete (length rows) (length system.template)) (dec_and
    (ℕ_discrete (length guards) (length (guard_forms system.variables edge.actions)))
    (dec_and (dec_nonneg rows) (dec_and (dec_nonneg guards)
    (dec_below {P = λ r. NotFinite (z edge.from r) → get_or rows r zero_ℚ ≡ zero_ℚ} (λ r. dec_imp (dec_not_finite (z edge.from r))
    (ℚ_discrete (get_or rows r zero_ℚ) zero_ℚ)) (length system.template))))))

-- each column in order, compared with what it has to be as soon as it is summed
abbrev pub columns_events : Site → Fault → Equations → Edge → List ℚ → List ℚ → List ℚ → List ℕ → List Event
columns_events site fault system edge rows guards goal ks =
    flat_map (λ k. sums site (column_operations system edge rows guards k) ++
    Test (decided (ℚ_discrete (get_or (combination system edge rows guards) k zero_ℚ) (get_or goal k zero_ℚ))) fault ∷ []) ks

-- the columns of an edge's words
abbrev pub columns_of : Equations → Edge → List ℕ
columns_of system edge = range_with_len 0 (width system.variables edge.actions)

-- a combination: its multipliers first, then its columns, then its side
abbrev pub combination_events : Site → Fault → Equations → Vector → Edge → List ℚ → List ℚ → List ℚ → List Event
combination_events site fault system z edge rows guards goal =
    Test (decided (dec_multipliers system z edge rows guards)) fault
    ∷ (columns_events site fault system edge rows guards goal (columns_of system edge)
    ++ sums site (side_operations system z edge rows guards))

-- multipliers first, for a bound that there is one, then the columns, then the side; a row that isn't reached is there and has the bound -∞
unfoldable pub evidence_events : Site → Fault → Equations → Vector → Edge → List ℤ → Ext → Evidence → List Event
evidence_events site fault system z edge row number (Bound rows guards) =
    Test (decided (dec_multipliers system z edge rows guards)) fault ∷ Test (decided (dec_finite number)) fault
    ∷ (columns_events site fault system edge rows guards (end_form system.variables edge.actions row).coeffs (columns_of system edge)
    ++ (sums site (side_operations system z edge rows guards ++
    record { op = Add; left = side system z edge rows guards; right = (end_form system.variables edge.actions row).constant } ∷ [])
    ++ Test (decided (dec_leᴱ (fin (side system z edge rows guards +ℚ (end_form system.variables edge.actions row).constant)) number)) fault
    ∷ []))
evidence_events site fault system z edge row number (Empty rows guards) =
    Test (decided (dec_multipliers system z edge rows guards)) fault
    ∷ (columns_events site fault system edge rows guards [] (columns_of system edge)
    ++ (sums site (side_operations system z edge rows guards) ++ Test (decided (dec_lt_ℚ (side system z edge rows guards) zero_ℚ)) fault
    ∷ []))
evidence_events site fault system z edge row number (Unreached r) = Test (decided (dec_lt r (length system.template))) fault ∷
    Test (decided (ext_same (z edge.from r) neg_inf)) fault ∷ []
