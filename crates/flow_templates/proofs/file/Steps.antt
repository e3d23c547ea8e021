-- One more line of a file.
use Rattle.std.proofs.Common.{◌≡◌, ◌≤◌, ◌<◌, ◌+◌, ℕ, ℤ, List, [], ◌∷◌, ◌++◌, length, map, take, drop, get_or, Bor, Option, None, Some}
use Rattle.std.proofs.Common.{option_to_list, refl}
use Rattle.std.proofs.Common.{ap, sym, subst, ◌∙◌, append_assoc, arith}
use Rattle.std.proofs.lemmas.List.{length-map, length-append, length-take-le, map-append, take_more, append-nil, take-append-drop}
use Rattle.flow_templates.specs.declared.fault.RowFault.{RowFault}
use Rattle.flow_templates.specs.RowFiles.{LineReads, LinesRead, FaultAt, HasFault}

-- lines that read as rows, and one more
lines_more : (names : List (List ℕ)) (lines : List (List ℕ)) (rows : List (List ℤ)) (line : List ℕ) (read : Option (List ℤ))
    → LinesRead names lines rows → LineReads names line read → LinesRead names (lines ++ line ∷ []) (rows ++ option_to_list read)
lines_more names [] rows line read h r =
    (read, [], r, ap (λ l. l ++ option_to_list read) h ∙ sym (append-nil (option_to_list read)), refl)
lines_more names (l ∷ ls) rows line read h r = (
  h.0,
  h.1 ++ option_to_list read,
  h.2,
  ap (λ l. l ++ option_to_list read) h.3
      ∙ append_assoc (option_to_list h.0) h.1 (option_to_list read),
  lines_more names ls h.1 line read h.4 r,
)

-- the bytes of borrowed lines
abbrev pub pieces : List (Bor (List ℕ)) → List (List ℕ)
pieces lines = map (λ line. line.now) lines

pieces_more : (lines : List (Bor (List ℕ))) (i : ℕ) (d : Bor (List ℕ)) → i < length lines
    → pieces (take (i + 1) lines) ≡ pieces (take i lines) ++ (get_or lines i d).now ∷ []
pieces_more lines i d h = ap pieces (take_more lines i d h) ∙ map-append (λ line. line.now) (take i lines) (get_or lines i d ∷ [])

-- the lines so far and one more read as the rows so far and the row of that line, if it is one
pub line_read : (names : List (List ℕ)) (lines : List (Bor (List ℕ))) (i : ℕ) (d : Bor (List ℕ)) (rows new : List (List ℤ))
    (read : Option (List ℤ)) → i < length lines → LinesRead names (pieces (take i lines)) rows → LineReads names (get_or lines i d).now read
    → new ≡ rows ++ option_to_list read → LinesRead names (pieces (take (i + 1) lines)) new
line_read names lines i d rows new read h before r e =
    let more : LinesRead names (pieces (take i lines) ++ (get_or lines i d).now ∷ []) (rows ++ option_to_list read) =
    lines_more names (pieces (take i lines)) rows (get_or lines i d).now read before r in
    subst (λ new. LinesRead names (pieces (take (i + 1) lines)) new) (sym e)
    (subst (λ ls. LinesRead names ls (rows ++ option_to_list read)) (sym (pieces_more lines i d h)) more)

-- the rows are at most as many as the lines so far
pub read_few : (rows new : List (List ℤ)) (read : Option (List ℤ)) (i : ℕ) → new ≡ rows ++ option_to_list read → length rows ≤ i
    → length new ≤ i + 1
read_few rows new None i e h = omega (arith, ap length e, length-append rows [])
read_few rows new (Some row) i e h = omega (arith, ap length e, length-append rows (row ∷ []))

-- where the lines so far read as rows, the fault of the next line is that of the file
pub line_fault : (names : List (List ℕ)) (lines : List (Bor (List ℕ))) (i : ℕ) (d : Bor (List ℕ)) (rows : List (List ℤ)) (fault : RowFault)
    → i < length lines → LinesRead names (pieces (take i lines)) rows → FaultAt names (get_or lines i d).now (i + 1) fault
    → HasFault names (pieces lines) fault
line_fault names lines i d rows fault h before f =
    let at : length (pieces (take i lines)) ≡ i = length-map (take i lines) (λ line. line.now) ∙ length-take-le i lines (omega arith) in
    record {
      before = pieces (take i lines);
      line = (get_or lines i d).now;
      after = pieces (drop (i + 1) lines);
      split = sym (append_assoc (pieces (take i lines)) ((get_or lines i d).now ∷ []) (pieces (drop (i + 1) lines)))
          ∙ (ap (λ ls. ls ++ pieces (drop (i + 1) lines)) (sym (pieces_more lines i d h))
          ∙ (sym (map-append (λ line. line.now) (take (i + 1) lines) (drop (i + 1) lines)) ∙ ap pieces (take-append-drop (i + 1) lines)));
      rows = rows;
      sound = before;
      fault_is = subst (λ n. FaultAt names (get_or lines i d).now (n + 1) fault) (sym at) f;
    }
