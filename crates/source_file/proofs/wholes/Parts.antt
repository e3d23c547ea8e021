-- The tokens of an item.
use Rattle.std.proofs.Common.{◌≡◌, ◌∙◌, ◌++◌, ◌+◌, ◌-◌, ◌≤◌, ℕ, suc, Bool, true, false, List, [], ◌∷◌, Option, Some, None, length, map}
use Rattle.std.proofs.Common.{take}
use Rattle.std.proofs.Common.{refl, sym, ap, ap₂, subst, append_assoc, length-append, arith, if◌then◌else◌}
use Rattle.std.specs.Prelude.{slice_range}
use Rattle.std.specs.List.{All}
use Rattle.std.proofs.lemmas.List.Elements.{All-nil, All-cons}
use Rattle.std.proofs.Math.Seq.{drop-append_seam, take-append_seam}
use Rattle.source_items.specs.declared.mark.Bracket.{Bracket}
use Rattle.source_items.specs.declared.mark.Bracket.TheVariants.{Round, Curly}
use Rattle.source_items.specs.declared.mark.Mark.{Mark}
use Rattle.source_items.specs.declared.mark.Mark.TheVariants.{Opens, Closes, Semicolon, Storage, Returned, Name, Other}
use Rattle.source_items.specs.declared.item.Item.{Item}
use Rattle.source_items.specs.Elements.{Element, Elements, plain, group, nil, cons, spelled, all_spelled, Matches, AllMatch}
use Rattle.source_items.specs.Items.{with_last, ends_item, items_behind, name_behind}
use Rattle.source_items.specs.Divisions.{placed, IsDivided}
use Rattle.source_items.proofs.files.Lemmas.{last_spelled, last_matches}
use Rattle.source_file.proofs.wholes.Turns.{Turn, mark_turn, after, again, twice}

-- ---- brackets of elements

abbrev turned : List Mark → List Turn
turned ms = map mark_turn ms

mutual
  element_after : (e : Element) → Matches e → (d : ℕ) (ms : List Mark)
      → after (suc d) (turned (spelled e ++ ms)) ≡ after (suc d) (turned ms)
  element_after (plain Semicolon) h d ms = refl
  element_after (plain Storage) h d ms = refl
  element_after (plain Returned) h d ms = refl
  element_after (plain Name) h d ms = refl
  element_after (plain Other) h d ms = refl
  element_after (plain (Opens b)) h d ms = absurd h
  element_after (plain (Closes b)) h d ms = absurd h
  element_after (group b es) h d ms =
      ap (λ (x : List Mark). after (suc (suc d)) (turned x)) (append_assoc (all_spelled es) (Closes b ∷ []) ms)
      ∙ elements_after es h (suc d) (Closes b ∷ ms)

  elements_after : (es : Elements) → AllMatch es → (d : ℕ) (ms : List Mark)
      → after (suc d) (turned (all_spelled es ++ ms)) ≡ after (suc d) (turned ms)
  elements_after nil h d ms = refl
  elements_after (cons e es) h d ms =
      ap (λ (x : List Mark). after (suc d) (turned x)) (append_assoc (spelled e) (all_spelled es) ms)
      ∙ element_after e h.0 d (all_spelled es ++ ms) ∙ elements_after es h.1 d ms

-- a group with what follows
group_after : (b : Bracket) (es : Elements) → AllMatch es → (ms : List Mark)
    → after 0 (turned (spelled (group b es) ++ ms)) ≡ Some (turned ms)
group_after b es h ms =
    ap (λ (x : List Mark). after 1 (turned x)) (append_assoc (all_spelled es) (Closes b ∷ []) ms)
    ∙ elements_after es h 0 (Closes b ∷ ms)

no_name : {A : Type 0} (n : ℕ) → (let o : Option ℕ = None in o ≡ Some n) → A
no_name n e = cc

-- the brackets of a function with a body end with it
pub body_twice : (at : ℕ) (es : Elements) (n : ℕ) → AllMatch es → name_behind at es ≡ Some n → twice (turned (all_spelled es)) ≡ Some []
body_twice at (cons (plain Storage) es) n h e = body_twice (suc at) es n h.1 e
body_twice at (cons (plain Returned) (cons (plain Name) (cons (group Round ps) (cons (group Curly body) nil)))) n h e =
    ap again (group_after Round ps h.1.1.0 (spelled (group Curly body) ++ []))
    ∙ group_after Curly body h.1.1.1.0 []
body_twice at es n h e = no_name n e

-- ---- the items are all elements

-- the tokens of items
abbrev pub flat : List Elements → List Mark
flat [] = []
flat (es ∷ rest) = all_spelled es ++ flat rest

abbrev pub AllParts : List Elements → Type 0
AllParts [] = Unit {0}
AllParts (es ∷ rest) = AllMatch es × AllParts rest

-- the items of elements behind others
record IsJoined (before es : Elements) (parts : List Elements) : Type 0 where
  spells : all_spelled before ++ all_spelled es ≡ flat parts
  match : AllParts parts

some_parts : (a b : List Elements) → (let o : Option (List Elements) = Some a in o ≡ Some b) → a ≡ b
some_parts a b e = cc

no_parts : {A : Type 0} (b : List Elements) → (let o : Option (List Elements) = None in o ≡ Some b) → A
no_parts b e = cc

ended : (before : Elements) (e : Element) (es : Elements) (parts : List Elements) (o : Option (List Elements)) → items_behind nil es ≡ o
    → ((items : List Elements) → items_behind nil es ≡ Some items → IsJoined nil es items)
    → elim o as (λ x. Option (List Elements)) [ None ↦ None | Some items ↦ Some (with_last before e ∷ items) ] ≡ Some parts
    → AllMatch before → Matches e
    → IsJoined before (cons e es) parts
ended before e es parts None i f h b m = no_parts parts h
ended before e es parts (Some items) i f h b m =
    let rest = f items i in
    subst (IsJoined before (cons e es)) (some_parts (with_last before e ∷ items) parts h) record {
      spells = sym (append_assoc (all_spelled before) (spelled e) (all_spelled es))
          ∙ ap₂ (λ (x y : List Mark). x ++ y) (sym (last_spelled before e)) rest.spells;
      match = (last_matches before e b m, rest.match);
    }

turn_joined : (t : Bool) (before : Elements) (e : Element) (es : Elements) (parts : List Elements)
    → ((b : Elements) (items : List Elements) → items_behind b es ≡ Some items → AllMatch b → AllMatch es → IsJoined b es items)
    → (if t
    then elim (items_behind nil es) as (λ x. Option (List Elements)) [ None ↦ None | Some items ↦ Some (with_last before e ∷ items) ]
    else items_behind (with_last before e) es) ≡ Some parts
    → AllMatch before → Matches e → AllMatch es → IsJoined before (cons e es) parts
turn_joined true before e es parts f h b m a =
    ended before e es parts (items_behind nil es) refl (λ items i. f nil items i tt a) h b m
turn_joined false before e es parts f h b m a =
    let rest = f (with_last before e) parts h (last_matches before e b m) a in record {
      spells = sym (append_assoc (all_spelled before) (spelled e) (all_spelled es))
          ∙ ap (λ (x : List Mark). x ++ all_spelled es) (sym (last_spelled before e)) ∙ rest.spells;
      match = rest.match;
    }

joined : (es before : Elements) (parts : List Elements) → items_behind before es ≡ Some parts → AllMatch before → AllMatch es
    → IsJoined before es parts
joined nil nil parts h b a = subst (IsJoined nil nil) (some_parts [] parts h) record { spells = refl; match = tt }
joined nil (cons d before) parts h b a = no_parts parts h
joined (cons e es) nil parts h b a =
    turn_joined (ends_item nil e) nil e es parts (λ c items i. joined es c items i) h b a.0 a.1
joined (cons e es) (cons d before) parts h b a =
    turn_joined (ends_item (cons d before) e) (cons d before) e es parts (λ c items i. joined es c items i) h b a.0 a.1

-- ---- where an item stands

-- Tokens from one place to another are those of a function with a body.
pub record IsBody (marks : List Mark) (first end : ℕ) : Type 0 where
  -- the first stands before the end
  pub order : first ≤ end
  -- they are there
  pub within : end ≤ length marks
  -- their brackets end with them
  pub closed : twice (map mark_turn (slice_range marks first end)) ≡ Some []

-- each item that is a function with a body has such tokens
abbrev pub AllBodies : List Mark → List Item → Type 0
AllBodies marks [] = Unit {0}
AllBodies marks (item ∷ items) = ((n : ℕ) → item.name ≡ Some n → IsBody marks item.first item.end) × AllBodies marks items

cut : (before here behind : List Mark)
    → slice_range (before ++ (here ++ behind)) (length before) (length before + length here) ≡ here
cut before here behind =
    let count : (length before + length here) - length before ≡ length here = omega arith in
    ap₂ (λ (n : ℕ) (x : List Mark). take n x) count (drop-append_seam before (here ++ behind)) ∙ take-append_seam here behind

placed_bodies : (marks : List Mark) (parts : List Elements) (at : ℕ) (before : List Mark) → at ≡ length before
    → marks ≡ before ++ flat parts → AllParts parts → AllBodies marks (placed at parts)
placed_bodies marks [] at before e f h = tt
placed_bodies marks (es ∷ rest) at before e f h =
    let here = all_spelled es in
    let end = at + length here in
    let spells : slice_range marks at end ≡ here =
    ap₂ (λ (x : List Mark) (n : ℕ). slice_range x n (n + length here)) f e ∙ cut before here (flat rest) in
    let all : length marks ≡ length before + (length here + length (flat rest)) =
    ap (λ (x : List Mark). length x) f ∙ length-append before (here ++ flat rest)
    ∙ ap (λ (n : ℕ). length before + n) (length-append here (flat rest)) in (
      λ n name. record {
        order = omega arith;
        within = omega (arith, all, e);
        closed = ap (λ (x : List Mark). twice (map mark_turn x)) spells ∙ body_twice at es n h.0 name;
      },
      placed_bodies marks rest end (before ++ here) (ap (λ (n : ℕ). n + length here) e ∙ sym (length-append before here))
          (f ∙ sym (append_assoc before here (flat rest))) h.1,
    )

-- the items of a file stand one behind the other
pub divided_bodies : (marks : List Mark) (items : List Item) → IsDivided marks items → AllBodies marks items
divided_bodies marks items d =
    let all = joined d.elements nil d.parts d.makes tt d.holds.matches in
    subst (AllBodies marks) (sym d.are) (placed_bodies marks d.parts 0 [] refl (sym d.holds.spells ∙ all.spells) all.match)

-- what is true of each item among so many tokens is true of items one behind the other
placed_among : (n : ℕ) (P : Item → Type 0) → ((item : Item) → item.first ≤ item.end → item.end ≤ n → P item) → (parts : List Elements)
    (at : ℕ) → at + length (flat parts) ≤ n → All P (placed at parts)
placed_among n P p [] at h = All-nil P
placed_among n P p (es ∷ rest) at h =
    let here = all_spelled es in
    let all : length (flat (es ∷ rest)) ≡ length here + length (flat rest) = length-append here (flat rest) in
    All-cons P (record { first = at; end = at + length here; name = name_behind at es }) (placed (at + length here) rest)
    (p (record { first = at; end = at + length here; name = name_behind at es }) (omega arith) (omega (arith, all, h)))
    (placed_among n P p rest (at + length here) (omega (arith, all, h)))

-- the items of a file are among its tokens
pub divided_among : (marks : List Mark) (items : List Item) (P : Item → Type 0)
    → ((item : Item) → item.first ≤ item.end → item.end ≤ length marks → P item) → IsDivided marks items → All P items
divided_among marks items P p d =
    let all = joined d.elements nil d.parts d.makes tt d.holds.matches in
    let size : length marks ≡ length (flat d.parts) = ap (λ (x : List Mark). length x) (sym d.holds.spells ∙ all.spells) in
    subst (All P) (sym d.are) (placed_among (length marks) P p d.parts 0 (omega (arith, size)))
