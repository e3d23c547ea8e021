-- What is found, from the run of the machine.
use Rattle.std.proofs.Common.{◌≡◌, ◌∙◌, inl, inr, ◌++◌, ◌∷◌, ◌<◌, ◌+◌, ℕ, suc, List, [], refl, sym, ap, subst, arith}
use Rattle.std.proofs.Common.{length, map, take, reverse, Option, Some, None, true}
use Rattle.std.proofs.Common.{Bool, false, true≢false}
use Rattle.std.proofs.lemmas.List.{reverse-reverse, take_all}
use Rattle.source_items.specs.declared.mark.Bracket.{Bracket}
use Rattle.source_items.specs.declared.mark.Mark.{Mark}
use Rattle.source_items.specs.declared.mark.Mark.TheVariants.{Opens, Closes}
use Rattle.source_items.specs.declared.item.Begun.{Begun}
use Rattle.source_items.specs.declared.division.Reading.{Reading}
use Rattle.source_items.specs.Elements.{Elements, plain, group, nil, cons, all_spelled}
use Rattle.source_items.specs.Items.{items_of}
use Rattle.source_items.specs.Divisions.{divided, unexpected, Finds}
use Rattle.source_items.specs.Machine.{IsBegun, Level, State, parts_of, run, start, step, step_from}
use Rattle.source_items.specs.Begun.{beginning}
use Rattle.source_items.specs.Standing.{Stands, Takes}
use Rattle.source_items.proofs.division.Found.{counted, count_is}
use Rattle.source_items.proofs.division.Parts.{ended, items_are}
use Rattle.source_items.proofs.division.Runs.{fits_begins, holds_run, one_holds, refused_begins, run_append, run_holds}

-- one token more
pub run_more : (front : List Mark) (m : Mark) (st : State) → run (Some start) front ≡ Some st
    → run (Some start) (front ++ m ∷ []) ≡ step st m
run_more front m st h = run_append (Some start) front (m ∷ []) ∙ ap (λ o. step_from o m) h

-- a token doesn't fit
pub unmatched : (marks : List Mark) (index : ℕ) (m : Mark) (st : State) → index < length marks
    → take (suc index) marks ≡ take index marks ++ m ∷ [] → run (Some start) (take index marks) ≡ Some st → step st m ≡ None
    → Finds (unexpected index) marks
unmatched marks index m st l more h none =
    inl (
      l,
      fits_begins (take index marks) st h,
      refused_begins (take (suc index) marks)
          (ap (run (Some start)) more ∙ run_more (take index marks) m st h ∙ none),
    )

no_level : (l : Level) (ls : List Level) → (let bs : List Bracket = map (λ (l : Level). l.bracket) (l ∷ ls) in bs ≡ []) → ⊥
no_level l ls h = cc

no_brackets : (ls : List Level) → (let bs : List Bracket = map (λ (l : Level). l.bracket) ls in bs ≡ []) → ls ≡ []
no_brackets [] h = refl
no_brackets (l ∷ ls) h = absurd (no_level l ls h)

some_token : (m : Mark) (ms : List Mark) → length (m ∷ ms) ≡ 0 → ⊥
some_token m ms h = absurd (omega (arith, h))

nothing_begun : (before : Elements) → length (all_spelled before) ≡ 0 → before ≡ nil
nothing_begun nil h = refl
nothing_begun (cons (plain m) es) h = absurd (some_token m (all_spelled es) h)
nothing_begun (cons (group b is) es) h = absurd (some_token (Opens b) ((all_spelled is ++ Closes b ∷ []) ++ all_spelled es) h)

something_begun : (before : Elements) → (length (all_spelled before) ≡ 0 → ⊥) → (done : List Elements)
    → ended (record { done = done; before = before }) ≡ None
something_begun nil h done = absurd (h refl)
something_begun (cons e es) h done = refl

some_state : (a b : State) → (let o : Option State = Some a in o ≡ Some b) → a ≡ b
some_state a b h = cc

-- what is open is closed where no bracket is
state_is : (st : State) (r : Reading) (index : ℕ) → Stands st r index → r.brackets.items ≡ []
    → st ≡ record { base = st.base; brackets = [] }
state_is st r index h none =
    ap (λ (ls : List Level). let now : State = record { base = st.base; brackets = ls } in now)
    (no_brackets st.brackets (h.met.brackets ∙ ap (λ (bs : List Bracket). reverse bs) none))

-- where no bracket is open behind the last token
module _ (marks : List Mark) (st : State) (r : Reading) (h : run (Some start) marks ≡ Some st) (stands : Stands st r (length marks))
    (none : r.brackets.items ≡ []) where
  runs : run (Some start) marks ≡ Some (record { base = st.base; brackets = [] })
  runs = h ∙ ap Some (state_is st r (length marks) stands none)

  tokens : counted (parts_of st.base) ≡ length marks
  tokens = count_is st.base ∙ ap (λ (ms : List Mark). length ms) (run_holds marks st.base runs).spells

  -- and no item has begun, the items are found
  pub all_divided : r.first ≡ length marks → Finds (divided r.items.items) marks
  all_divided end =
      let empty : (parts_of st.base).before ≡ nil =
      nothing_begun (parts_of st.base).before (omega (arith, tokens, end, stands.met.meets.first)) in
      record {
        elements = st.base;
        holds = run_holds marks st.base runs;
        parts = (parts_of st.base).done;
        makes = items_are st.base
            ∙ ap (λ (b : Elements). ended (record { done = (parts_of st.base).done; before = b })) empty;
        are = stands.met.meets.items;
      }

  -- and one has begun, the file ends too early
  pub not_divided : (r.first ≡ length marks → ⊥) → Finds (unexpected (length marks)) marks
  not_divided early = inr (
    refl,
    (
      fits_begins marks st h,
      λ es held.
          let same : es ≡ st.base = one_holds marks es st.base held (run_holds marks st.base runs) in
          ap items_of same ∙ items_are st.base
          ∙ something_begun (parts_of st.base).before (λ z. early (omega (arith, tokens, z, stands.met.meets.first)))
          (parts_of st.base).done,
    ),
  )

open_state : (st : State) (r : Reading) (index : ℕ) → Stands st r index → st.brackets ≡ [] → r.brackets.items ≡ []
open_state st r index h none =
    sym (reverse-reverse r.brackets.items) ∙ ap (λ (bs : List Bracket). reverse bs) (sym h.met.brackets)
    ∙ ap (λ (ls : List Level). reverse (map (λ (l : Level). l.bracket) ls)) none

-- where a bracket is open behind the last token, the file ends too early
pub left_open : (marks : List Mark) (st : State) (r : Reading) → run (Some start) marks ≡ Some st → Stands st r (length marks)
    → (r.brackets.items ≡ [] → ⊥) → Finds (unexpected (length marks)) marks
left_open marks st r h stands some = inr (
  refl,
  (
    fits_begins marks st h,
    λ es held.
        let same : st ≡ record { base = es; brackets = [] } = some_state st (record { base = es; brackets = [] })
        (sym h ∙ holds_run marks es held) in
        absurd (some (open_state st r (length marks) stands (ap (λ (s : State). s.brackets) same))),
  ),
)

-- the reading at the beginning
pub stands_start : (r : Reading) → r.brackets.items ≡ [] → r.items.items ≡ [] → r.first ≡ 0 → r.begun ≡ beginning → Stands start r 0
stands_start r none empty zero begun = record {
  count = refl;
  met = record {
    brackets = ap (λ (bs : List Bracket). reverse bs) (sym none);
    well = record { base = tt; levels = tt };
    meets = record {
      items = empty;
      first = zero;
      begun = subst (λ (b : Begun). IsBegun 0 nil b) (sym begun) record { braced = refl; round = refl; head = refl };
    };
  };
}

-- a token that fits leads to another state
pub taken_some : (o : Option State) (r : Reading) (index : ℕ) → Takes true o r index → (st : State) × (o ≡ Some st) × Stands st r index
taken_some None r index h = absurd h
taken_some (Some st) r index h = (st, refl, h)

-- a token that doesn't fit
pub refused_at : (marks : List Mark) (index : ℕ) (m : Mark) (st : State) (r now : Reading) (fits : Bool) → index < length marks
    → take (index + 1) marks ≡ take index marks ++ m ∷ [] → run (Some start) (take index marks) ≡ Some st → Stands st r index
    → fits ≡ false → ((st : State) → Stands st r index → Takes fits (step st m) now (suc index)) → Finds (unexpected index) marks
refused_at marks index m st r now true l more h stands e taken = absurd (true≢false e)
refused_at marks index m st r now false l more h stands e taken =
    let next : suc index ≡ index + 1 = omega arith in
    unmatched marks index m st l (ap (λ n. take n marks) next ∙ more) h (taken st stands)

-- one that fits
pub goes_on : (marks : List Mark) (index : ℕ) (m : Mark) (st : State) (r now : Reading) (fits : Bool)
    → take (index + 1) marks ≡ take index marks ++ m ∷ [] → run (Some start) (take index marks) ≡ Some st → Stands st r index
    → fits ≡ true → ((st : State) → Stands st r index → Takes fits (step st m) now (suc index))
    → (next : State) × (run (Some start) (take (index + 1) marks) ≡ Some next) × Stands next now (index + 1)
goes_on marks index m st r now false more h stands e taken = absurd (true≢false (sym e))
goes_on marks index m st r now true more h stands e taken =
    let t = taken_some (step st m) now (suc index) (taken st stands) in (
      t.0,
      ap (run (Some start)) more ∙ run_more (take index marks) m st h ∙ t.1,
      subst (λ n. Stands t.0 now n) (omega arith) t.2,
    )

-- the end of the tokens, where no bracket is open or some are, and where an item has begun or not
pub at_end : (marks : List Mark) (index : ℕ) (r : Reading) → index ≡ length marks
    → ((st : State) × (run (Some start) (take index marks) ≡ Some st) × Stands st r index)
    → (st : State) × (run (Some start) marks ≡ Some st) × Stands st r (length marks)
at_end marks index r e inv = (
  inv.0,
  ap (run (Some start)) (sym (take_all index marks (omega (arith, e)))) ∙ inv.1,
  subst (λ n. Stands inv.0 r n) e inv.2,
)
