-- The rows of a file, and its first fault.
use Rattle.std.specs.Prelude.{◌≡◌, ◌==◌, ◌||◌, ◌+◌, ◌++◌, ◌⊎◌, ℕ, ℤ, Bool, true, not, IsTrue, IsFalse, List, [], ◌∷◌, length, find, Option}
use Rattle.std.specs.Prelude.{Some, None}
use Rattle.std.specs.Prelude.{option_to_list, Result, Ok, Err}
use Rattle.std.specs.List.{list_all, slice_split}
use Rattle.flow_templates.specs.declared.fault.RowFault.{RowFault}
use Rattle.flow_templates.specs.declared.fault.RowFault.TheVariants.{ZeroRow, Count, Large, UnknownName, BadRow, Length, NoMemory}
use Rattle.flow_templates.specs.Rows.{is_row}
use Rattle.flow_templates.specs.RowFaults.{count_faults}
use Rattle.flow_templates.specs.Grammar.{Amount, ReadsTerms}
use Rattle.flow_templates.specs.Sums.{StaysWithin, is_among, row_of}

-- the lines of a text: the pieces between its line feeds
abbrev pub lines_of : List ℕ → List (List ℕ)
lines_of text = slice_split (λ b. b == 10) text

-- space, tab and carriage return
abbrev pub is_blank : ℕ → Bool
is_blank b = (b == 32) || (b == 9) || (b == 13)

-- no byte, or a `#`
abbrev pub is_none_or_hash : Option ℕ → Bool
is_none_or_hash None = true
is_none_or_hash (Some b) = b == 35

-- a line of blanks alone, or one whose first byte that isn't blank is `#`
abbrev pub is_skipped : List ℕ → Bool
is_skipped line = is_none_or_hash (find (λ b. not (is_blank b)) line)

-- A line reads as terms of which each coefficient stays within 2^63 - 1.
pub record ReadsWithin (line : List ℕ) (amounts : List Amount) : Type 0 where
  pub not_skipped : IsFalse (is_skipped line)
  pub reads : ReadsTerms line amounts
  pub within : StaysWithin amounts

-- each name is that of a variable
abbrev pub are_known : List (List ℕ) → List Amount → Bool
are_known names amounts = list_all (λ a. is_among names a.1) amounts

-- The line is this row.
pub record IsRowLine (names : List (List ℕ)) (line : List ℕ) (row : List ℤ) : Type 0 where
  pub amounts : List Amount
  pub reads : ReadsWithin line amounts
  pub known : IsTrue (are_known names amounts)
  pub row_is : row ≡ row_of names amounts
  pub nonzero : IsTrue (is_row row)

-- A line that isn't skipped is no row, or a coefficient leaves its range.
pub record IsBad (line : List ℕ) : Type 0 where
  pub not_skipped : IsFalse (is_skipped line)
  pub no_row : (amounts : List Amount) → ReadsWithin line amounts → ⊥

-- A row names no variable.
pub record IsUnknown (names : List (List ℕ)) (line : List ℕ) : Type 0 where
  pub amounts : List Amount
  pub reads : ReadsWithin line amounts
  pub unknown : IsFalse (are_known names amounts)

-- All coefficients of a row are 0.
pub record IsZero (names : List (List ℕ)) (line : List ℕ) : Type 0 where
  pub amounts : List Amount
  pub reads : ReadsWithin line amounts
  pub known : IsTrue (are_known names amounts)
  pub zero : IsFalse (is_row (row_of names amounts))

-- This is the fault of a line of this number.
abbrev pub FaultAt : List (List ℕ) → List ℕ → ℕ → RowFault → Type 0
FaultAt names line number (BadRow at) = (at ≡ number) × IsBad line
FaultAt names line number (UnknownName at) = (at ≡ number) × IsUnknown names line
FaultAt names line number (ZeroRow at) = (at ≡ number) × IsZero names line
FaultAt names line number (Count count) = ⊥
FaultAt names line number (Large count) = ⊥
FaultAt names line number (Length at) = ⊥
FaultAt names line number NoMemory = ⊥

-- The line is skipped, or it is this row.
abbrev pub LineReads : List (List ℕ) → List ℕ → Option (List ℤ) → Type 0
LineReads names line None = IsTrue (is_skipped line)
LineReads names line (Some row) = IsRowLine names line row

-- Lines without a fault are these rows, in order.
abbrev pub LinesRead : List (List ℕ) → List (List ℕ) → List (List ℤ) → Type 0
LinesRead names [] rows = rows ≡ []
LinesRead names (line ∷ lines) rows =
    (read : Option (List ℤ)) × (others : List (List ℤ))
    × LineReads names line read × (rows ≡ option_to_list read ++ others) × LinesRead names lines others

-- The first faulty line has this fault.
pub record HasFault (names : List (List ℕ)) (lines : List (List ℕ)) (fault : RowFault) : Type 0 where
  pub before : List (List ℕ)
  pub line : List ℕ
  pub after : List (List ℕ)
  pub split : before ++ line ∷ after ≡ lines
  pub rows : List (List ℤ)
  pub sound : LinesRead names before rows
  pub fault_is : FaultAt names line (length before + 1) fault

-- The lines have no fault, and these rows in a right number.
pub record HasRows (names : List (List ℕ)) (lines : List (List ℕ)) (rows : List (List ℤ)) : Type 0 where
  pub read : LinesRead names lines rows
  pub right : count_faults (length rows) ≡ []

-- The lines have no fault, but a wrong number of rows.
pub record HasCount (names : List (List ℕ)) (lines : List (List ℕ)) (count : ℕ) : Type 0 where
  pub rows : List (List ℤ)
  pub read : LinesRead names lines rows
  pub wrong : count_faults (length rows) ≡ Count count ∷ []

-- What a file is over these variables: a template of these rows, or this fault.
pub data Answers (names : List (List ℕ)) (text : List ℕ) (answer : Result (List (List ℤ)) RowFault) : Type 0 where
  a_template : (rows : List (List ℤ)) → answer ≡ Ok rows → HasRows names (lines_of text) rows → Answers names text answer
  a_count : (count : ℕ) → answer ≡ Err (Count count) → HasCount names (lines_of text) count → Answers names text answer
  a_fault : (fault : RowFault) → answer ≡ Err fault → HasFault names (lines_of text) fault → Answers names text answer

-- The result is this answer, unless memory is wanted.
abbrev pub Gives : Result (List (List ℤ)) RowFault → Result (List (List ℤ)) RowFault → Type 0
Gives (Ok template) answer = answer ≡ Ok template
Gives (Err fault) answer = (fault ≡ NoMemory) ⊎ (answer ≡ Err fault)
