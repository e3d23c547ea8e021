-- The machine takes the tokens of elements, and no others.
use Rattle.std.proofs.Common.{◌≡◌, ◌∙◌, ◌++◌, ◌∷◌, Bool, true, false, List, [], refl, sym, ap, subst, append_assoc, Option, Some, None}
use Rattle.std.proofs.Common.{if◌then◌else◌}
use Rattle.std.proofs.lemmas.List.{append-nil}
use Rattle.source_items.specs.declared.mark.Bracket.{Bracket}
use Rattle.source_items.specs.declared.mark.Mark.{Mark}
use Rattle.source_items.specs.declared.mark.Mark.TheVariants.{Opens, Closes, Semicolon, Storage, Returned, Name, Other}
use Rattle.source_items.specs.Elements.{Element, Elements, plain, group, nil, cons, spelled, all_spelled, Matches, AllMatch, Holds, Begins}
use Rattle.source_items.specs.Items.{with_last}
use Rattle.source_items.specs.Machine.{Level, State, start, put, same, step, step_from, run}
use Rattle.source_items.specs.Standing.{written, IsWell, LevelsMatch}
use Rattle.source_items.proofs.division.Written.{last_spelled, same_self, last_matches, IsStep, step_is}

-- ---- what was read is written

none_some : (now : State) → None ≡ Some now → ⊥
none_some now e = cc

-- behind a token that does not fit none does
pub run_none : (ms : List Mark) → run None ms ≡ None
run_none [] = refl
run_none (m ∷ ms) = run_none ms

run_by : (o : Option State) (ms : List Mark) (now : State) → run o ms ≡ Some now
    → (next : State) × (o ≡ Some next) × (run (Some next) ms ≡ Some now)
run_by None ms now e = let n : run None ms ≡ None = run_none ms in absurd (none_some now (sym n ∙ e))
run_by (Some next) ms now e = (next, refl, e)

-- a run's tokens are written behind what was
abbrev pub IsRead : State → List Mark → State → Type 0
IsRead st ms now = (written now.base now.brackets ≡ written st.base st.brackets ++ ms) × IsWell now

-- what a run leaves open is written behind what was
pub run_writes : (st now : State) (ms : List Mark) → run (Some st) ms ≡ Some now → IsWell st → IsRead st ms now
run_writes st now [] e w =
    let same : st ≡ now = cc in subst (λ x. IsRead st [] x) same (sym (append-nil (written st.base st.brackets)), w)
run_writes st now (m ∷ ms) e w =
    let r = run_by (step st m) ms now e in
    let s : IsStep st m r.0 = step_is st r.0 m r.1 in
    let rest : IsRead r.0 ms now = run_writes r.0 now ms r.2 (s.well w) in
    (rest.0 ∙ ap (λ xs. xs ++ ms) s.writes ∙ append_assoc (written st.base st.brackets) (m ∷ []) ms, rest.1)

-- a run over two lists is one over the first and then one over the second
pub run_append : (o : Option State) (xs ys : List Mark) → run o (xs ++ ys) ≡ run (run o xs) ys
run_append o [] ys = refl
run_append o (x ∷ xs) ys = run_append (step_from o x) xs ys

-- ---- the tokens of elements are taken

-- elements more, in the innermost bracket that is open
abbrev pub puts : State → Elements → State
puts st nil = st
puts st (cons e es) = puts (put st.base st.brackets e) es

-- elements and then others
abbrev pub joined : Elements → Elements → Elements
joined nil fs = fs
joined (cons e es) fs = cons e (joined es fs)

joined_last : (es : Elements) (e : Element) (fs : Elements) → joined (with_last es e) fs ≡ joined es (cons e fs)
joined_last nil e fs = refl
joined_last (cons d es) e fs = ap (cons d) (joined_last es e fs)

-- elements and no others
pub joined_nil : (es : Elements) → joined es nil ≡ es
joined_nil nil = refl
joined_nil (cons e es) = ap (cons e) (joined_nil es)

-- elements are put into the innermost bracket
pub puts_inside : (base : Elements) (b : Bracket) (before : Elements) (ls : List Level) (es : Elements)
    → puts (record { base = base; brackets = record { bracket = b; inside = before } ∷ ls }) es
    ≡ record { base = base; brackets = record { bracket = b; inside = joined before es } ∷ ls }
puts_inside base b before ls nil = ap (λ (x : Elements). let st : State = record {
  base = base;
  brackets = record { bracket = b; inside = x } ∷ ls;
} in st) (sym (joined_nil before))
puts_inside base b before ls (cons e es) = puts_inside base b (with_last before e) ls es
    ∙ ap (λ (x : Elements). let st : State = record { base = base; brackets = record { bracket = b; inside = x } ∷ ls } in st)
    (joined_last before e es)

-- and outside of all brackets where none is open
pub puts_base : (base es : Elements) → puts (record { base = base; brackets = [] }) es ≡ record { base = joined base es; brackets = [] }
puts_base base nil = ap (λ (x : Elements). let st : State = record { base = x; brackets = [] } in st) (sym (joined_nil base))
puts_base base (cons e es) = puts_base (with_last base e) es
    ∙ ap (λ (x : Elements). let st : State = record { base = x; brackets = [] } in st) (joined_last base e es)

close_self : (t : Bool) (b : Bracket) (base : Elements) (ls : List Level) (es : Elements) → same b b ≡ t → t ≡ true
    → (if t then Some (put base ls (group b es)) else None) ≡ Some (put base ls (group b es))
close_self true b base ls es h e = refl
close_self false b base ls es h e = cc

mutual
  -- the tokens of an element are taken
  pub takes_element : (st : State) (e : Element) (rest : List Mark) → Matches e
      → run (Some st) (spelled e ++ rest) ≡ run (Some (put st.base st.brackets e)) rest
  takes_element st (plain Semicolon) rest h = refl
  takes_element st (plain Storage) rest h = refl
  takes_element st (plain Returned) rest h = refl
  takes_element st (plain Name) rest h = refl
  takes_element st (plain Other) rest h = refl
  takes_element st (plain (Opens b)) rest h = absurd h
  takes_element st (plain (Closes b)) rest h = absurd h
  takes_element st (group b es) rest h =
      let opened : State = record { base = st.base; brackets = record { bracket = b; inside = nil } ∷ st.brackets } in
      ap (run (Some opened)) (append_assoc (all_spelled es) (Closes b ∷ []) rest)
      ∙ takes_elements opened es (Closes b ∷ rest) h
      ∙ ap (λ x. run (Some x) (Closes b ∷ rest)) (puts_inside st.base b nil st.brackets es)
      ∙ ap (λ o. run o rest) (close_self (same b b) b st.base st.brackets es refl (same_self b))

  -- and those of elements in order
  pub takes_elements : (st : State) (es : Elements) (rest : List Mark) → AllMatch es
      → run (Some st) (all_spelled es ++ rest) ≡ run (Some (puts st es)) rest
  takes_elements st nil rest h = refl
  takes_elements st (cons e es) rest h =
      ap (run (Some st)) (append_assoc (spelled e) (all_spelled es) rest)
      ∙ takes_element st e (all_spelled es ++ rest) h.0
      ∙ takes_elements (put st.base st.brackets e) es rest h.1

-- ---- what can still come

-- the elements that stand when an element is put and all brackets are closed
abbrev pub finished_with : Elements → List Level → Element → Elements
finished_with base [] e = with_last base e
finished_with base (l ∷ ls) e = finished_with base ls (group l.bracket (with_last l.inside e))

abbrev pub finished : Elements → List Level → Elements
finished base [] = base
finished base (l ∷ ls) = finished_with base ls (group l.bracket l.inside)

-- the brackets that close them
abbrev pub closers : List Level → List Mark
closers [] = []
closers (l ∷ ls) = Closes l.bracket ∷ closers ls

finished_with_writes : (base : Elements) (ls : List Level) (e : Element)
    → all_spelled (finished_with base ls e) ≡ written base ls ++ (spelled e ++ closers ls)
finished_with_writes base [] e = last_spelled base e ∙ ap (λ ms. all_spelled base ++ ms) (sym (append-nil (spelled e)))
finished_with_writes base (l ∷ ls) e =
    let inner = with_last l.inside e in
    finished_with_writes base ls (group l.bracket inner)
    ∙ ap (λ ms. written base ls ++ Opens l.bracket ∷ ms)
    (append_assoc (all_spelled inner) (Closes l.bracket ∷ []) (closers ls)
    ∙ ap (λ ms. ms ++ Closes l.bracket ∷ closers ls) (last_spelled l.inside e)
    ∙ append_assoc (all_spelled l.inside) (spelled e) (Closes l.bracket ∷ closers ls))
    ∙ sym (append_assoc (written base ls) (Opens l.bracket ∷ all_spelled l.inside) (spelled e ++ closers (l ∷ ls)))

finished_writes : (base : Elements) (ls : List Level) → all_spelled (finished base ls) ≡ written base ls ++ closers ls
finished_writes base [] = sym (append-nil (all_spelled base))
finished_writes base (l ∷ ls) =
    finished_with_writes base ls (group l.bracket l.inside)
    ∙ ap (λ ms. written base ls ++ Opens l.bracket ∷ ms) (append_assoc (all_spelled l.inside) (Closes l.bracket ∷ []) (closers ls))
    ∙ sym (append_assoc (written base ls) (Opens l.bracket ∷ all_spelled l.inside) (closers (l ∷ ls)))

finished_with_match : (base : Elements) (ls : List Level) (e : Element) → AllMatch base → LevelsMatch ls → Matches e
    → AllMatch (finished_with base ls e)
finished_with_match base [] e h i m = last_matches base e h m
finished_with_match base (l ∷ ls) e h i m = finished_with_match base ls (group l.bracket (with_last l.inside e)) h i.1
    (last_matches l.inside e i.0 m)

finished_match : (base : Elements) (ls : List Level) → AllMatch base → LevelsMatch ls → AllMatch (finished base ls)
finished_match base [] h i = h
finished_match base (l ∷ ls) h i = finished_with_match base ls (group l.bracket l.inside) h i.1 i.0

-- tokens that all fit begin elements
pub fits_begins : (front : List Mark) (now : State) → run (Some start) front ≡ Some now → Begins front
fits_begins front now e =
    let w : IsWell start = record { base = tt; levels = tt } in
    let read : IsRead start front now = run_writes start now front e w in (
      closers now.brackets,
      finished now.base now.brackets,
      record {
        spells = finished_writes now.base now.brackets ∙ ap (λ ms. ms ++ closers now.brackets) read.0;
        matches = finished_match now.base now.brackets read.1.base read.1.levels;
      },
    )

-- the tokens of elements end with nothing open
pub holds_run : (marks : List Mark) (es : Elements) → Holds marks es → run (Some start) marks ≡ Some (record { base = es; brackets = [] })
holds_run marks es h =
    ap (run (Some start)) (sym h.spells ∙ sym (append-nil (all_spelled es)))
    ∙ takes_elements start es [] h.matches
    ∙ ap Some (puts_base nil es)

-- tokens of which one doesn't fit begin none
pub refused_begins : (front : List Mark) → run (Some start) front ≡ None → Begins front → ⊥
refused_begins front h b =
    let now : State = record { base = b.1; brackets = [] } in
    none_some now (sym (run_none b.0) ∙ ap (λ o. run o b.0) (sym h) ∙ sym (run_append (Some start) front b.0)
    ∙ holds_run (front ++ b.0) b.1 b.2)

-- elements are all that is written where nothing is open
pub run_holds : (marks : List Mark) (es : Elements) → run (Some start) marks ≡ Some (record { base = es; brackets = [] }) → Holds marks es
run_holds marks es e =
    let w : IsWell start = record { base = tt; levels = tt } in
    let now : State = record { base = es; brackets = [] } in
    let read : IsRead start marks now = run_writes start now marks e w in
    record { spells = read.0; matches = read.1.base }

abbrev pub base_of : Option State → Elements
base_of None = nil
base_of (Some st) = st.base

-- tokens are those of one list of elements at most
pub one_holds : (marks : List Mark) (es fs : Elements) → Holds marks es → Holds marks fs → es ≡ fs
one_holds marks es fs h i = ap base_of (sym (holds_run marks es h) ∙ holds_run marks fs i)
