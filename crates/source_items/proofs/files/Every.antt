-- Tokens are those of items, or one of them is the first that doesn't fit.
use Rattle.std.proofs.Common.{◌≡◌, ◌∙◌, ◌++◌, ◌<◌, inr, ℕ, suc, List, [], ◌∷◌, Option, Some, None, length, take, refl, sym, ap, subst}
use Rattle.std.proofs.Common.{append_assoc, length-append, arith}
use Rattle.std.proofs.Math.Seq.{take-append_seam}
use Rattle.std.proofs.lemmas.List.{append-nil}
use Rattle.source_items.specs.declared.mark.Mark.{Mark}
use Rattle.source_items.specs.Elements.{Elements, nil, cons}
use Rattle.source_items.specs.Items.{items_of}
use Rattle.source_items.specs.Divisions.{Outcome, divided, unexpected, Finds, placed}
use Rattle.source_items.specs.Machine.{Level, State, start, step, run, parts_of}
use Rattle.source_items.proofs.division.Parts.{ended, items_are}
use Rattle.source_items.proofs.division.Runs.{fits_begins, holds_run, one_holds, run_holds}
use Rattle.source_items.proofs.division.Answered.{run_more, unmatched}

abbrev Found : List Mark → Type 0
Found marks = (o : Outcome) × Finds o marks

some_level : (l : Level) (ls : List Level) → (let all : List Level = l ∷ ls in all ≡ []) → ⊥
some_level l ls e = cc

same_state : (a b : State) → (let o : Option State = Some a in o ≡ Some b) → a ≡ b
same_state a b e = cc

no_level : (base es : Elements) (l : Level) (ls : List Level) (A : Type 0)
    → (let a : State = record { base = base; brackets = l ∷ ls } in let b : State = record { base = es; brackets = [] } in
    let o : Option State = Some a in o ≡ Some b) → A
no_level base es l ls A e =
    let same = same_state (record { base = base; brackets = l ∷ ls }) (record { base = es; brackets = [] }) e in
    absurd (some_level l ls (ap (λ (s : State). s.brackets) same))

-- no bracket is open
closed : (marks : List Mark) (base : Elements) → run (Some start) marks ≡ Some (record { base = base; brackets = [] })
    → (done : List Elements) (before : Elements) → parts_of base ≡ record { done = done; before = before } → Found marks
closed marks base h done nil e = (
  divided (placed 0 done),
  record {
    elements = base;
    holds = run_holds marks base h;
    parts = done;
    makes = items_are base ∙ ap ended e;
    are = refl;
  },
)
closed marks base h done (cons d before) e = (
  unexpected (length marks),
  inr (
    refl,
    (
      fits_begins marks (record { base = base; brackets = [] }) h,
      λ es held. ap items_of (one_holds marks es base held (run_holds marks base h)) ∙ items_are base ∙ ap ended e,
    ),
  ),
)

-- the end of the tokens
at_end : (marks : List Mark) (base : Elements) (ls : List Level) → run (Some start) marks ≡ Some (record { base = base; brackets = ls })
    → Found marks
at_end marks base [] h = closed marks base h (parts_of base).done (parts_of base).before refl
at_end marks base (l ∷ ls) h = (
  unexpected (length marks),
  inr (
    refl,
    (
      fits_begins marks (record { base = base; brackets = l ∷ ls }) h,
      λ es held. no_level base es l ls (items_of es ≡ None) (sym h ∙ holds_run marks es held),
    ),
  ),
)

next_take : (front : List Mark) (m : Mark) (rest : List Mark)
    → take (suc (length front)) (front ++ m ∷ rest) ≡ take (length front) (front ++ m ∷ rest) ++ m ∷ []
next_take front m rest =
    let one : suc (length front) ≡ length (front ++ m ∷ []) = omega (arith, length-append front (m ∷ [])) in
    ap (λ (n : ℕ). take n (front ++ m ∷ rest)) one
    ∙ ap (λ (x : List Mark). take (length (front ++ m ∷ [])) x) (sym (append_assoc front (m ∷ []) rest))
    ∙ take-append_seam (front ++ m ∷ []) rest ∙ ap (λ (x : List Mark). x ++ m ∷ []) (sym (take-append_seam front (m ∷ rest)))

-- from some tokens on, behind which the machine is in a state
from_here : (rest front : List Mark) (st : State) → run (Some start) front ≡ Some st → Found (front ++ rest)
from_here [] front st h = subst Found (sym (append-nil front)) (at_end front st.base st.brackets h)
from_here (m ∷ rest) front st h = on (step st m) refl (λ next e. from_here rest (front ++ m ∷ []) next e) where
  on : (o : Option State) → step st m ≡ o
      → ((next : State) → run (Some start) (front ++ m ∷ []) ≡ Some next → Found ((front ++ m ∷ []) ++ rest)) → Found (front ++ m ∷ rest)
  on None e f =
      let within : length front < length (front ++ m ∷ rest) = omega (arith, length-append front (m ∷ rest)) in (
        unexpected (length front),
        unmatched (front ++ m ∷ rest) (length front) m st within (next_take front m rest)
            (ap (run (Some start)) (take-append_seam front (m ∷ rest)) ∙ h) e,
      )
  on (Some next) e f = subst Found (append_assoc front (m ∷ []) rest) (f next (run_more front m st h ∙ e))

-- one thing becomes of tokens
pub each_division : (marks : List Mark) → (o : Outcome) × Finds o marks
each_division marks = from_here marks [] start refl
