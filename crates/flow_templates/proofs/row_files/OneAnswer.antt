-- A file is one thing at most.
use Rattle.std.proofs.Common.{◌≡◌, ◌+◌, ℕ, ℤ, List, [], ◌∷◌, ◌++◌, length, Option, None, Some, option_to_list, Result, Ok, Err, IfOk, IfErr}
use Rattle.std.proofs.Common.{refl, ap, sym}
use Rattle.std.proofs.Common.{subst, ◌∙◌, inl, inr}
use Rattle.std.proofs.lemmas.Bool.{false≢true}
use Rattle.flow_templates.specs.declared.fault.RowFault.{RowFault}
use Rattle.flow_templates.specs.declared.fault.RowFault.TheVariants.{ZeroRow, Count, Large, UnknownName, BadRow, Length, NoMemory}
use Rattle.flow_templates.specs.Rows.{is_row}
use Rattle.flow_templates.specs.RowFaults.{count_faults}
use Rattle.flow_templates.specs.Grammar.{Amount}
use Rattle.flow_templates.specs.Sums.{row_of}
use Rattle.flow_templates.specs.RowFiles.{lines_of, are_known, ReadsWithin, LineReads, LinesRead, FaultAt, HasFault, Answers, a_template}
use Rattle.flow_templates.specs.RowFiles.{a_count, a_fault, Gives}
use Rattle.flow_templates.proofs.line.Steps.{one_terms}

same_amounts : (line : List ℕ) (a b : List Amount) → ReadsWithin line a → ReadsWithin line b → a ≡ b
same_amounts line a b r s = one_terms line a b r.reads s.reads

line_once : (names : List (List ℕ)) (line : List ℕ) (x y : Option (List ℤ)) → LineReads names line x → LineReads names line y → x ≡ y
line_once names line None None h k = refl
line_once names line None (Some row) h k = absurd (false≢true (sym k.reads.not_skipped ∙ h))
line_once names line (Some row) None h k = absurd (false≢true (sym h.reads.not_skipped ∙ k))
line_once names line (Some row) (Some other) h k =
    ap Some (h.row_is ∙ (ap (row_of names) (same_amounts line h.amounts k.amounts h.reads k.reads) ∙ sym k.row_is))

lines_once : (names : List (List ℕ)) (lines : List (List ℕ)) (rows others : List (List ℤ)) → LinesRead names lines rows
    → LinesRead names lines others → rows ≡ others
lines_once names [] rows others h k = h ∙ sym k
lines_once names (line ∷ lines) rows others h k =
    h.3 ∙ (ap (λ x. option_to_list x ++ h.1) (line_once names line h.0 k.0 h.2 k.2)
    ∙ (ap (λ r. option_to_list k.0 ++ r) (lines_once names lines h.1 k.1 h.4 k.4) ∙ sym k.3))

-- a faulty line reads as nothing
no_fault : (names : List (List ℕ)) (line : List ℕ) (n : ℕ) (fault : RowFault) (read : Option (List ℤ)) → FaultAt names line n fault
    → LineReads names line read → ⊥
no_fault names line n (BadRow at) None f r = false≢true (sym f.1.not_skipped ∙ r)
no_fault names line n (BadRow at) (Some row) f r = f.1.no_row r.amounts r.reads
no_fault names line n (UnknownName at) None f r = false≢true (sym f.1.reads.not_skipped ∙ r)
no_fault names line n (UnknownName at) (Some row) f r =
    false≢true (sym f.1.unknown ∙ (ap (are_known names) (same_amounts line f.1.amounts r.amounts f.1.reads r.reads) ∙ r.known))
no_fault names line n (ZeroRow at) None f r = false≢true (sym f.1.reads.not_skipped ∙ r)
no_fault names line n (ZeroRow at) (Some row) f r =
    false≢true (sym f.1.zero ∙ (ap (λ a. is_row (row_of names a)) (same_amounts line f.1.amounts r.amounts f.1.reads r.reads)
    ∙ (ap is_row (sym r.row_is) ∙ r.nonzero)))
no_fault names line n (Count count) read f r = f
no_fault names line n (Large count) read f r = f
no_fault names line n (Length at) read f r = f
no_fault names line n NoMemory read f r = f

-- a line has one fault at most
fault_once : (names : List (List ℕ)) (line : List ℕ) (n : ℕ) (f g : RowFault) → FaultAt names line n f → FaultAt names line n g → f ≡ g
fault_once names line n (BadRow a) (BadRow b) h k = ap BadRow (h.0 ∙ sym k.0)
fault_once names line n (BadRow a) (UnknownName b) h k = absurd (h.1.no_row k.1.amounts k.1.reads)
fault_once names line n (BadRow a) (ZeroRow b) h k = absurd (h.1.no_row k.1.amounts k.1.reads)
fault_once names line n (UnknownName a) (BadRow b) h k = absurd (k.1.no_row h.1.amounts h.1.reads)
fault_once names line n (UnknownName a) (UnknownName b) h k = ap UnknownName (h.0 ∙ sym k.0)
fault_once names line n (UnknownName a) (ZeroRow b) h k =
    absurd (false≢true (sym h.1.unknown ∙ (ap (are_known names) (same_amounts line h.1.amounts k.1.amounts h.1.reads k.1.reads)
    ∙ k.1.known)))
fault_once names line n (ZeroRow a) (BadRow b) h k = absurd (k.1.no_row h.1.amounts h.1.reads)
fault_once names line n (ZeroRow a) (UnknownName b) h k =
    absurd (false≢true (sym k.1.unknown ∙ (ap (are_known names) (same_amounts line k.1.amounts h.1.amounts k.1.reads h.1.reads)
    ∙ h.1.known)))
fault_once names line n (ZeroRow a) (ZeroRow b) h k = ap ZeroRow (h.0 ∙ sym k.0)
fault_once names line n (Count a) g h k = absurd h
fault_once names line n (Large a) g h k = absurd h
fault_once names line n (Length a) g h k = absurd h
fault_once names line n NoMemory g h k = absurd h
fault_once names line n f (Count b) h k = absurd k
fault_once names line n f (Large b) h k = absurd k
fault_once names line n f (Length b) h k = absurd k
fault_once names line n f NoMemory h k = absurd k

-- lines with a faulty one among them don't read as rows
no_rows : (names : List (List ℕ)) (before : List (List ℕ)) (line : List ℕ) (after : List (List ℕ)) (n : ℕ) (fault : RowFault)
    (rows : List (List ℤ)) → FaultAt names line n fault → LinesRead names (before ++ line ∷ after) rows → ⊥
no_rows names [] line after n fault rows f h = no_fault names line n fault h.0 f h.2
no_rows names (b ∷ bs) line after n fault rows f h = no_rows names bs line after n fault h.1 f h.4

fault_no_rows : (names : List (List ℕ)) (lines : List (List ℕ)) (fault : RowFault) (rows : List (List ℤ)) → HasFault names lines fault
    → LinesRead names lines rows → ⊥
fault_no_rows names lines fault rows f h =
    no_rows names f.before f.line f.after (length f.before + 1) fault rows f.fault_is
    (subst (λ ls. LinesRead names ls rows) (sym f.split) h)

-- where the first faulty line stands
pub record SamePlace (before others : List (List ℕ)) (line other : List ℕ) : Type 0 where
  -- the lines before are the same
  pub before_is : before ≡ others
  -- the faulty lines are the same
  pub line_is : line ≡ other

place_once : (names : List (List ℕ)) (b c : List (List ℕ)) (l k : List ℕ) (a d : List (List ℕ)) (n m : ℕ) (f g : RowFault)
    (r s : List (List ℤ)) → b ++ l ∷ a ≡ c ++ k ∷ d → LinesRead names b r → LinesRead names c s → FaultAt names l n f → FaultAt names k m g
    → SamePlace b c l k
place_once names [] [] l k a d n m f g r s e x y p q = record { before_is = refl; line_is = cc }
place_once names [] (z ∷ c) l k a d n m f g r s e x y p q =
    let same : l ≡ z = cc in
    absurd (no_fault names l n f y.0 p (subst (λ line. LineReads names line y.0) (sym same) y.2))
place_once names (z ∷ b) [] l k a d n m f g r s e x y p q =
    let same : z ≡ k = cc in
    absurd (no_fault names k m g x.0 q (subst (λ line. LineReads names line x.0) same x.2))
place_once names (z ∷ b) (w ∷ c) l k a d n m f g r s e x y p q =
    let tail : b ++ l ∷ a ≡ c ++ k ∷ d = cc in
    let first : z ≡ w = cc in
    let place = place_once names b c l k a d n m f g x.1 y.1 tail x.4 y.4 p q in
    let others : b ≡ c = place.before_is in
    record { before_is = cc; line_is = place.line_is }

first_fault_once : (names : List (List ℕ)) (lines : List (List ℕ)) (f g : RowFault) → HasFault names lines f → HasFault names lines g
    → f ≡ g
first_fault_once names lines f g h k =
    let place = place_once names h.before k.before h.line k.line h.after k.after (length h.before + 1) (length k.before + 1) f g h.rows
    k.rows (h.split ∙ sym k.split) h.sound k.sound h.fault_is k.fault_is in
    fault_once names k.line (length k.before + 1) f g
    (subst (λ b. FaultAt names k.line (length b + 1) f) place.before_is
    (subst (λ l. FaultAt names l (length h.before + 1) f) place.line_is h.fault_is))
    k.fault_is

count_right : (a : ℕ) (faults : List RowFault) → faults ≡ [] → faults ≡ Count a ∷ [] → ⊥
count_right a faults h k = cc

count_once : (a b : ℕ) (faults : List RowFault) → faults ≡ Count a ∷ [] → faults ≡ Count b ∷ [] → a ≡ b
count_once a b faults h k = cc

-- a file has one answer at most
pub one_answer : (names : List (List ℕ)) (text : List ℕ) (x y : Result (List (List ℤ)) RowFault) → Answers names text x
    → Answers names text y → x ≡ y
one_answer names text x y (a_template rows e h) (a_template others d k) =
    e ∙ (ap Ok (lines_once names (lines_of text) rows others h.read k.read) ∙ sym d)
one_answer names text x y (a_template rows e h) (a_count count d k) =
    absurd (count_right count (count_faults (length rows)) h.right (ap (λ r. count_faults (length r))
    (lines_once names (lines_of text) rows k.rows h.read k.read) ∙ k.wrong))
one_answer names text x y (a_template rows e h) (a_fault fault d k) = absurd (fault_no_rows names (lines_of text) fault rows k h.read)
one_answer names text x y (a_count count e h) (a_template rows d k) =
    absurd (count_right count (count_faults (length rows)) k.right (ap (λ r. count_faults (length r))
    (lines_once names (lines_of text) rows h.rows k.read h.read) ∙ h.wrong))
one_answer names text x y (a_count count e h) (a_count other d k) =
    e ∙ (ap (λ n. Err (Count n)) (count_once count other (count_faults (length h.rows)) h.wrong
    (ap (λ r. count_faults (length r)) (lines_once names (lines_of text) h.rows k.rows h.read k.read) ∙ k.wrong)) ∙ sym d)
one_answer names text x y (a_count count e h) (a_fault fault d k) = absurd (fault_no_rows names (lines_of text) fault h.rows k h.read)
one_answer names text x y (a_fault fault e h) (a_template rows d k) = absurd (fault_no_rows names (lines_of text) fault rows h k.read)
one_answer names text x y (a_fault fault e h) (a_count count d k) = absurd (fault_no_rows names (lines_of text) fault k.rows h k.read)
one_answer names text x y (a_fault fault e h) (a_fault other d k) = e ∙ (ap Err (first_fault_once names (lines_of text) fault other h k)
    ∙ sym d)

-- what is answered, where each answer is right
pub gives_one : (names : List (List ℕ)) (text : List ℕ) (result : Result (List (List ℤ)) RowFault)
    → IfOk result (λ template. Answers names text (Ok template)) → IfErr result
    (λ fault. (fault ≡ NoMemory → ⊥) → Answers names text (Err fault)) → (answer : Result (List (List ℤ)) RowFault)
    → Answers names text answer → Gives result answer
gives_one names text (Ok template) h k answer a = one_answer names text answer (Ok template) a h
gives_one names text (Err (ZeroRow at)) h k answer a = inr (one_answer names text answer (Err (ZeroRow at)) a (k (λ e. cc)))
gives_one names text (Err (Count at)) h k answer a = inr (one_answer names text answer (Err (Count at)) a (k (λ e. cc)))
gives_one names text (Err (Large count)) h k answer a = inr (one_answer names text answer (Err (Large count)) a (k (λ e. cc)))
gives_one names text (Err (UnknownName at)) h k answer a = inr (one_answer names text answer (Err (UnknownName at)) a (k (λ e. cc)))
gives_one names text (Err (BadRow at)) h k answer a = inr (one_answer names text answer (Err (BadRow at)) a (k (λ e. cc)))
gives_one names text (Err (Length at)) h k answer a = inr (one_answer names text answer (Err (Length at)) a (k (λ e. cc)))
gives_one names text (Err NoMemory) h k answer a = inl refl
