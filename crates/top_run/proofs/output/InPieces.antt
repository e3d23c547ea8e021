-- A text that is put piece by piece.
use Rattle.std.proofs.Common.{◌≡◌, ◌≤◌, ◌<◌, ◌+◌, ℕ, List, [], ◌∷◌, ◌++◌, Option, Some, None, length, take, min, refl, sym, ap, ◌∙◌, subst}
use Rattle.std.proofs.Common.{arith, append_assoc, append-nil, length-append}
use Rattle.std.specs.Io.KnownBytes.{Appends}
use Rattle.std.proofs.KnownBytes.{Appends-nil, Appends-trans}
use Rattle.std.proofs.lemmas.List.{take-append-le, take_min}
use Rattle.std.proofs.Math.Seq.{take-append-add}
use Rattle.base_files.specs.Puts.{AddsPieces, as_pieces}
use Rattle.top_run.specs.Lines.{lines_of}

-- what stands before the rest of the text was appended, and the sink kept its promises over it
pub record HasPut (held now : Option (List ℕ)) (faults faults_now spare spare_now : ℕ) (text rest : List ℕ) : Type 0 where
  -- the part of the text that is put
  pub front : List ℕ
  -- the text is the part that is put, and then the rest
  pub whole : text ≡ front ++ rest
  -- the part that is put stands behind what was held
  pub appended : Appends held now front
  -- no fault comes from outside
  pub calm : faults_now ≡ faults
  -- the room left shrinks by no more than the part that is put
  pub spared : spare ≤ spare_now + length front

-- before the first piece nothing is put
pub nothing_put : (held : Option (List ℕ)) (faults spare : ℕ) (text : List ℕ) → HasPut held held faults faults spare spare text text
nothing_put held faults spare text = record { front = []; whole = refl; appended = Appends-nil held; calm = refl; spared = omega arith }

-- one more piece
pub one_more : (held now next : Option (List ℕ)) (f f' f'' s s' s'' : ℕ) (text rest line others : List ℕ)
    → HasPut held now f f' s s' text rest → rest ≡ line ++ others → Appends now next line → f'' ≡ f' → s' ≤ s'' + length line
    → HasPut held next f f'' s s'' text others
one_more held now next f f' f'' s s' s'' text rest line others h cut appended calm spared =
    record {
      front = h.front ++ line;
      whole = h.whole ∙ ap (λ r. h.front ++ r) cut ∙ sym (append_assoc h.front line others);
      appended = Appends-trans held now next h.front line h.appended appended;
      calm = calm ∙ h.calm;
      spared = let l = h.spared in omega (arith, length-append h.front line);
    }

-- all of the text
pub all_put : (held now : Option (List ℕ)) (f f' s s' : ℕ) (text rest : List ℕ) → HasPut held now f f' s s' text rest → rest ≡ []
    → Appends held now text
all_put held now f f' s s' text rest h none =
    subst (λ t. Appends held now t) (sym (h.whole ∙ ap (λ r. h.front ++ r) none ∙ append-nil h.front)) h.appended

take_front : (n : ℕ) (front line others : List ℕ) → take (length front + min n (length line)) (front ++ (line ++ others))
    ≡ front ++ take n line
take_front n front line others =
    take-append-add front (line ++ others) (min n (length line)) ∙ ap (λ t. front ++ t)
    (take-append-le (min n (length line)) line others (omega arith) ∙ take_min n line)

-- a part of a piece is a part of the text
pub part_put : (held now next : Option (List ℕ)) (f f' s s' : ℕ) (text rest line others : List ℕ) (n : ℕ)
    → HasPut held now f f' s s' text rest → rest ≡ line ++ others → Appends now next (take n line)
    → (m : ℕ) × Appends held next (take m text)
part_put held now next f f' s s' text rest line others n h cut part = (
  length h.front + min n (length line),
  subst (λ t. Appends held next t)
      (sym (ap (λ t. take (length h.front + min n (length line)) t) (h.whole ∙ ap (λ r. h.front ++ r) cut)
      ∙ take_front n h.front line others))
      (Appends-trans held now next h.front (take n line) h.appended part),
)

-- ---- the pieces that were taken

adds_nil : (taken : Option (List (List ℕ))) → AddsPieces taken taken []
adds_nil None = tt
adds_nil (Some old) = sym (append-nil old)

adds_trans : (taken now next : Option (List (List ℕ))) (p q : List (List ℕ)) → AddsPieces taken now p → AddsPieces now next q
    → AddsPieces taken next (p ++ q)
adds_trans None now next p q h k = tt
adds_trans (Some old) None next p q h k = absurd h
adds_trans (Some old) (Some mid) None p q h k = absurd k
adds_trans (Some old) (Some mid) (Some new) p q h k = k ∙ ap (λ x. x ++ q) h ∙ append_assoc old p q

whole_piece : (line : List ℕ) → 0 < length line → as_pieces line ≡ line ∷ []
whole_piece [] h = absurd (omega arith)
whole_piece (byte ∷ line) h = refl

-- the lines before the rest of the text were taken, each as a piece
pub record HasTaken (taken now : Option (List (List ℕ))) (text rest : List ℕ) : Type 0 where
  -- the lines that are taken
  pub lines : List (List ℕ)
  -- the lines of the text are those taken, and then those of the rest
  pub cut : lines_of text ≡ lines ++ lines_of rest
  -- the lines taken stand behind the pieces before
  pub added : AddsPieces taken now lines

-- before the first line nothing is taken
pub none_taken : (taken : Option (List (List ℕ))) (text : List ℕ) → HasTaken taken taken text text
none_taken taken text = record { lines = []; cut = refl; added = adds_nil taken }

-- a line that is put is taken as the next piece
pub next_taken : (taken now next : Option (List (List ℕ))) (text rest line others : List ℕ) → HasTaken taken now text rest
    → lines_of rest ≡ line ∷ lines_of others → 0 < length line
    → AddsPieces now next (as_pieces line) → HasTaken taken next text others
next_taken taken now next text rest line others h cut some takes = record {
  lines = h.lines ++ (line ∷ []);
  cut = h.cut ∙ ap (λ ls. h.lines ++ ls) cut ∙ sym (append_assoc h.lines (line ∷ []) (lines_of others));
  added = adds_trans taken now next h.lines (line ∷ []) h.added (subst (λ ps. AddsPieces now next ps) (whole_piece line some) takes);
}

-- where nothing is left, all lines of the text are taken
pub all_taken : (taken now : Option (List (List ℕ))) (text rest : List ℕ) → HasTaken taken now text rest → rest ≡ []
    → AddsPieces taken now (lines_of text)
all_taken taken now text rest h none =
    subst (λ ls. AddsPieces taken now ls) (sym (h.cut ∙ ap (λ r. h.lines ++ lines_of r) none ∙ append-nil h.lines)) h.added
