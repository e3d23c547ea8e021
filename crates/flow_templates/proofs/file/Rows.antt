-- The lines of a short text are short, and the rows of a file are rows over its variables.
use Rattle.std.proofs.Common.{◌≡◌, ◌≤◌, ◌+◌, ℕ, ℤ, suc, zero, Bool, true, false, cond, ◌&&◌, eqb, nat_le, List, [], ◌∷◌, ◌++◌, length, Bor}
use Rattle.std.proofs.Common.{Option, None}
use Rattle.std.proofs.Common.{Some, option_to_list, refl, ap, sym, ◌∙◌, arith}
use Rattle.std.specs.List.{slice_split, onto_first, list_all}
use Rattle.std.proofs.lemmas.Bool.{and_from, and_parts, eq-eqb, leb-true, le-leb}
use Rattle.std.proofs.lemmas.List.{length-map}
use Rattle.std.proofs.lemmas.List.Sums.{count_by-le-length}
use Rattle.std.proofs.lemmas.List.Splits.{length-slice_split}
use Rattle.std.proofs.lemmas.List.FromFn.{length-map-range_with_len}
use Rattle.flow_templates.specs.declared.fault.RowFault.{RowFault}
use Rattle.flow_templates.specs.declared.fault.RowFault.TheVariants.{Count}
use Rattle.flow_templates.specs.RowFaults.{count_faults}
use Rattle.flow_templates.specs.Sums.{coefficient_by, total}
use Rattle.flow_templates.specs.RowFiles.{lines_of, LineReads, LinesRead}
use Rattle.flow_templates.proofs.file.Steps.{pieces}
use Rattle.flow_templates.proofs.counted.Sound.{is_row_over}
use Rattle.flow_templates.specs.declared.limits.TheConstants.{MOST_ROWS}

abbrev is_within : ℕ → List ℕ → Bool
is_within n line = nat_le (length line) n

looser : (n : ℕ) (lines : List (List ℕ)) → list_all (is_within n) lines ≡ true → list_all (is_within (suc n)) lines ≡ true
looser n [] h = refl
looser n (l ∷ ls) h =
    let both = and_parts _ _ h in
    let le : length l ≤ n = leb-true (length l) n both.0 in
    and_from _ _ (le-leb (length l) (suc n) (omega arith)) (looser n ls both.1)

one_longer : (x n : ℕ) (lines : List (List ℕ)) → list_all (is_within n) lines ≡ true
    → list_all (is_within (suc n)) (onto_first x lines) ≡ true
one_longer x n [] h = and_from _ _ (le-leb 1 (suc n) (omega arith)) refl
one_longer x n (l ∷ ls) h =
    let both = and_parts _ _ h in
    let le : length l ≤ n = leb-true (length l) n both.0 in
    and_from _ _ (le-leb (suc (length l)) (suc n) (omega arith)) (looser n ls both.1)

cut : (x n : ℕ) (b : Bool) (lines : List (List ℕ)) → list_all (is_within n) lines ≡ true
    → list_all (is_within (suc n)) (cond b ([] ∷ lines) (onto_first x lines)) ≡ true
cut x n true lines h = and_from _ _ (le-leb 0 (suc n) (omega arith)) (looser n lines h)
cut x n false lines h = one_longer x n lines h

lines_short : (n : ℕ) (text : List ℕ) → length text ≤ n → list_all (is_within n) (lines_of text) ≡ true
lines_short n [] h = and_from _ _ (le-leb 0 n (omega arith)) refl
lines_short zero (x ∷ xs) h = absurd (omega arith)
lines_short (suc n) (x ∷ xs) h = cut x n (eqb x 10) (lines_of xs) (lines_short n xs (omega arith))

all_pieces : (n : ℕ) (lines : List (Bor (List ℕ))) → list_all (λ (line : Bor (List ℕ)). nat_le (length line.now) n) lines
    ≡ list_all (is_within n) (pieces lines)
all_pieces n [] = refl
all_pieces n (l ∷ ls) = ap (λ b. nat_le (length l.now) n && b) (all_pieces n ls)

-- the lines of a text are no longer than the text
pub pieces_short : (n : ℕ) (text : List ℕ) (lines : List (Bor (List ℕ))) → length text ≤ n → pieces lines ≡ lines_of text
    → list_all (λ (line : Bor (List ℕ)). nat_le (length line.now) n) lines ≡ true
pieces_short n text lines h e = all_pieces n lines ∙ (ap (list_all (is_within n)) e ∙ lines_short n text h)

count_le : (p : ℕ → Bool) (xs : List ℕ) → length (slice_split p xs) ≤ length xs + 1
count_le p xs = omega (arith, length-slice_split p xs, count_by-le-length p xs)

-- a text has at most one line more than bytes
pub pieces_few : (text : List ℕ) (lines : List (Bor (List ℕ))) → pieces lines ≡ lines_of text → length lines ≤ length text + 1
pieces_few text lines e =
    let same : length lines ≡ length (lines_of text) = sym (length-map lines (λ line. line.now)) ∙ ap length e in
    omega (arith, count_le (λ b. eqb b 10) text)

count_among : (b : Bool) (n : ℕ) (fault : RowFault) → fault ∷ [] ≡ cond b [] (Count n ∷ []) → fault ≡ Count n
count_among true n fault h = cc
count_among false n fault h = cc

-- the row of a line is one over the variables
one_row : (names : List (List ℕ)) (line : List ℕ) (read : Option (List ℤ)) (others : List (List ℤ)) → LineReads names line read
    → list_all (is_row_over (length names)) others ≡ true → list_all (is_row_over (length names)) (option_to_list read ++ others) ≡ true
one_row names line None others r h = h
one_row names line (Some row) others r h =
    let width : length row ≡ length names = ap length r.row_is ∙ length-map-range_with_len
    (coefficient_by names (λ name. total name r.amounts)) 0 (length names) in
    and_from _ _ (and_from _ _ r.nonzero (eq-eqb (length row) (length names) width)) h

-- the rows that lines read as are rows over the variables
pub rows_over : (names : List (List ℕ)) (lines : List (List ℕ)) (rows : List (List ℤ)) → LinesRead names lines rows
    → list_all (is_row_over (length names)) rows ≡ true
rows_over names [] rows h = ap (list_all (is_row_over (length names))) h
rows_over names (line ∷ lines) rows h =
    ap (list_all (is_row_over (length names))) h.3 ∙ one_row names line h.0 h.1 h.2 (rows_over names lines h.1 h.4)

-- the fault of a number of rows
pub count_is : (n : ℕ) (fault : RowFault) → fault ∷ [] ≡ count_faults n → fault ≡ Count n
count_is n fault h = count_among (nat_le 1 n && nat_le n MOST_ROWS) n fault h
