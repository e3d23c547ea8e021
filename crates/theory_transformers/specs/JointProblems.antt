-- The joint problem of a list of unknowns with picked edges at a base vector.
use Rattle.std.specs.Prelude.{◌≡◌, ℕ, zero, suc, ◌+◌, ◌&&◌, eqb, Bool, ℤ, List, [], ◌∷◌, ◌++◌, length, get_or, slice_get, Some}
use Rattle.std.specs.Prelude.{if◌then◌else◌}
use Rattle.base_numbers.specs.Rational.{ℚ, zero_ℚ, one_ℚ, ◌+ℚ◌, ◌-ℚ◌, neg_ℚ, ◌≤ℚ◌}
use Rattle.base_numbers.specs.Vector.{scale_vec, zeros}
use Rattle.base_numbers.specs.Extended.{Ext, neg_inf, fin, pos_inf, ◌≤ᴱ◌, ◌<ᴱ◌}
use Rattle.flow_edges.specs.declared.edge.Edge.{Edge}
use Rattle.flow_systems.specs.Equations.{Equations, Vector}
use Rattle.theory_validity.specs.Words.{Word, lin, width, guard_forms, start_form, end_form, Falls}
use Rattle.theory_validity.specs.Steps.{Runs, end_value}
use Rattle.theory_validity.specs.Certificates.{num}
use Rattle.lp_theory.specs.Problem.{Problem}
use Rattle.lp_theory.specs.Free.{unsplit}
use Rattle.theory_transformers.specs.Limits.{Limit, limits_problem, shift, tabulate}
use Rattle.theory_transformers.specs.EdgeProblems.{source_limits, guard_limits, transformer}

-- an unknown and the number of its picked edge
pub record Listed : Type 0 where
  pub point : ℕ
  pub row : ℕ
  pub edge : ℕ

-- the picked edge of an unknown
unfoldable pub picked : Equations → Listed → Edge
picked system u = get_or system.edges u.edge (record { from = 0; to = 0; actions = [] })

-- the template row of an unknown
unfoldable pub own_row : Equations → Listed → List ℤ
own_row system u = get_or system.template u.row []

-- whether an unknown is at this point and row
unfoldable pub is_at : Listed → ℕ → ℕ → Bool
is_at u p r = eqb u.point p && eqb u.row r

-- how many columns a word of the picked edge has, before they are split
unfoldable pub columns_of : Equations → Listed → ℕ
columns_of system u = width system.variables (picked system u).actions

-- n ones
unfoldable pub ones : ℕ → List ℚ
ones zero = []
ones (suc n) = one_ℚ ∷ ones n

-- each coefficient and then its negation
unfoldable pub split_list : List ℚ → List ℚ
split_list [] = []
split_list (a ∷ u) = a ∷ (neg_ℚ a ∷ split_list u)

-- a coefficient on the rise of an unknown, if that is listed, and 0 on the others
unfoldable pub on_rise : ℚ → List Listed → ℕ → ℕ → List ℚ
on_rise c [] p r = []
on_rise c (u ∷ list) p r = if is_at u p r then c ∷ zeros (length list) else zero_ℚ ∷ on_rise c list p r

-- the rise of an unknown, 0 if it isn't listed
unfoldable pub rise_at : List Listed → (ℕ → ℚ) → ℕ → ℕ → ℚ
rise_at [] x p r = zero_ℚ
rise_at (u ∷ list) x p r = if is_at u p r then x 0 else rise_at list (λ k. x (suc k)) p r

-- a bound raised by a number, if it is finite
unfoldable pub raise_by : Ext → ℚ → Ext
raise_by neg_inf q = neg_inf
raise_by (fin c) q = fin (c +ℚ q)
raise_by pos_inf q = pos_inf

-- base plus rise
unfoldable pub raised : List Listed → (ℕ → ℚ) → Vector → Vector
raised list x b p r = raise_by (b p r) (rise_at list x p r)

-- the own row: the rise minus the end value, at most the end value's constant minus the bound
unfoldable pub own_limit : Equations → Vector → List Listed → ℕ → Listed → Limit
own_limit system b all offset u = record {
  coeffs = on_rise one_ℚ all u.point u.row ++ (zeros offset
      ++ split_list (scale_vec (neg_ℚ one_ℚ) (end_form system.variables (picked system u).actions (own_row system u)).coeffs));
  side = (end_form system.variables (picked system u).actions (own_row system u)).constant -ℚ num (b u.point u.row);
}

-- the rows of one listed unknown, its columns beginning at an offset behind the rises
unfoldable pub block_limits : Equations → Vector → List Listed → ℕ → Listed → List Limit
block_limits system b all offset u =
    source_limits (λ r w. on_rise (neg_ℚ one_ℚ) all (picked system u).from r ++ (zeros offset ++ split_list w)) system.variables
    (b (picked system u).from) system.template
    ++ (guard_limits (λ w. zeros (length all) ++ (zeros offset ++ split_list w)) (guard_forms system.variables (picked system u).actions)
    ++ (own_limit system b all offset u ∷ []))

-- the rows of listed unknowns in order
unfoldable pub joint_limits : Equations → Vector → List Listed → ℕ → List Listed → List Limit
joint_limits system b all offset [] = []
joint_limits system b all offset (u ∷ rest) = block_limits system b all offset u
    ++ joint_limits system b all (offset + (columns_of system u + columns_of system u)) rest

-- how many columns the words take
unfoldable pub word_columns : Equations → List Listed → ℕ
word_columns system [] = 0
word_columns system (u ∷ rest) = (columns_of system u + columns_of system u) + word_columns system rest

-- the rises and then the split columns of each picked edge; the goal is the sum of the rises
unfoldable pub joint_problem : Equations → Vector → List Listed → Problem
joint_problem system b list = limits_problem (length list + word_columns system list) (joint_limits system b list 0 list)
    (ones (length list))

-- the words that stand in a point behind the rises
unfoldable pub words_of : Equations → List Listed → (ℕ → ℚ) → List Word
words_of system [] x = []
words_of system (u ∷ rest) x = tabulate (columns_of system u) (unsplit x)
    ∷ words_of system rest (shift (columns_of system u + columns_of system u) x)

-- the words of a joint problem's point
unfoldable pub joint_words : Equations → List Listed → (ℕ → ℚ) → List Word
joint_words system list x = words_of system list (shift (length list) x)

-- a word of the picked edge runs at the vector and reaches the vector's number
pub record Supports (system : Equations) (y : Vector) (u : Listed) (w : Word) : Type 0 where
  pub runs : Runs system y (picked system u) w
  pub reaches : y u.point u.row ≤ᴱ fin (end_value system (picked system u) (own_row system u) w)

-- each listed unknown has its word that supports it
abbrev pub AllSupport : Equations → Vector → List Listed → List Word → Type 0
AllSupport system y [] ws = Unit {0}
AllSupport system y (u ∷ rest) [] = ⊥
AllSupport system y (u ∷ rest) (w ∷ ws) = Supports system y u w × AllSupport system y rest ws

-- the list condition: the base is finite at each listed unknown, and the picked edge's transformer is above it
pub record Rising (system : Equations) (b : Vector) (u : Listed) : Type 0 where
  pub bound : ℚ
  pub finite : b u.point u.row ≡ fin bound
  pub above : fin bound <ᴱ transformer system b (picked system u) (own_row system u)

-- each listed unknown meets the list condition
abbrev pub AllRising : Equations → Vector → List Listed → Type 0
AllRising system b [] = Unit {0}
AllRising system b (u ∷ rest) = Rising system b u × AllRising system b rest

-- along a direction, with a rate for each listed unknown: a finite source row rises at most by its own rate, no guard rises, and the end
-- value rises at least by the unknown's rate
pub record Follows (system : Equations) (b : Vector) (all : List Listed) (rates : ℕ → ℚ) (u : Listed) (d : Word) : Type 0 where
  pub still : (r : ℕ) (row : List ℤ) (bound : ℚ) → slice_get system.template r ≡ Some row → b (picked system u).from r ≡ fin bound →
      lin (start_form system.variables row) d ≤ℚ rise_at all rates (picked system u).from r
  pub falls : Falls system.variables (picked system u).actions d
  pub gains : rise_at all rates u.point u.row ≤ℚ lin (end_form system.variables (picked system u).actions (own_row system u)) d

-- each listed unknown has its direction that keeps to the rates
abbrev pub AllFollow : Equations → Vector → List Listed → (ℕ → ℚ) → List Listed → List Word → Type 0
AllFollow system b all rates [] ds = Unit {0}
AllFollow system b all rates (u ∷ rest) [] = ⊥
AllFollow system b all rates (u ∷ rest) (d ∷ ds) = Follows system b all rates u d × AllFollow system b all rates rest ds
