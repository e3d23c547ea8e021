-- The items that have ended, element by element.
use Rattle.std.proofs.Common.{◌≡◌, ◌∙◌, ◌++◌, ◌∷◌, ◌+◌, ℕ, suc, Bool, true, false, List, [], refl, sym, ap, ap₂, append_assoc, arith}
use Rattle.std.proofs.Common.{Option, Some, None, length, if◌then◌else◌}
use Rattle.std.specs.Prelude.{◌||◌, ◌&&◌, not}
use Rattle.std.proofs.lemmas.List.{append-nil}
use Rattle.source_items.specs.declared.mark.Bracket.{Bracket}
use Rattle.source_items.specs.declared.mark.Bracket.TheVariants.{Round, Square, Curly}
use Rattle.source_items.specs.declared.mark.Mark.{Mark}
use Rattle.source_items.specs.declared.mark.Mark.TheVariants.{Opens, Closes, Semicolon, Storage, Returned, Name, Other}
use Rattle.source_items.specs.declared.item.Item.{Item}
use Rattle.source_items.specs.declared.item.Begun.{Begun}
use Rattle.source_items.specs.declared.item.Head.{Head}
use Rattle.source_items.specs.declared.item.Head.TheVariants as head
use Rattle.source_items.specs.Elements.{Element, Elements, plain, group, nil, cons, spelled, all_spelled, Matches, AllMatch}
use Rattle.source_items.specs.Items.{with_last, has_brace, ends_round, ends_item, items_behind, items_of, name_behind}
use Rattle.source_items.specs.Divisions.{placed}
use Rattle.source_items.specs.Begun.{closes, is_brace, is_round, named, next_head}
use Rattle.source_items.specs.Machine.{Parts, turned, parts_behind, parts_of, last_of, width_of, head_behind}

-- ---- the items of elements are those that have ended, where nothing is left

-- the items, if none has begun
abbrev pub ended : Parts → Option (List Elements)
ended p = elim p.before [ nil ↦ Some p.done | cons e es ↦ None ]

-- items behind others
abbrev pub behind : List Elements → Option (List Elements) → Option (List Elements)
behind done None = None
behind done (Some items) = Some (done ++ items)

behind_behind : (done : List Elements) (es : Elements) (o : Option (List Elements))
    → behind done (elim o [ None ↦ None | Some items ↦ Some (es ∷ items) ]) ≡ behind (done ++ es ∷ []) o
behind_behind done es None = refl
behind_behind done es (Some items) = ap Some (sym (append_assoc done (es ∷ []) items))

ended_by : (t : Bool) (done : List Elements) (before : Elements) (e : Element) (es : Elements)
    → ((done : List Elements) (before : Elements)
    → behind done (items_behind before es) ≡ ended (parts_behind (record { done = done; before = before }) es))
    → behind done (if t
    then elim (items_behind nil es) [ None ↦ None | Some items ↦ Some (with_last before e ∷ items) ]
    else items_behind (with_last before e) es)
    ≡ ended (parts_behind (turned t (record { done = done; before = before }) e) es)
ended_by true done before e es h =
    behind_behind done (with_last before e) (items_behind nil es) ∙ h (done ++ with_last before e ∷ []) nil
ended_by false done before e es h = h done (with_last before e)

-- the items behind others are those that have ended, where none has begun
pub ended_behind : (es : Elements) (done : List Elements) (before : Elements)
    → behind done (items_behind before es) ≡ ended (parts_behind (record { done = done; before = before }) es)
ended_behind nil done nil = ap Some (append-nil done)
ended_behind nil done (cons d before) = refl
ended_behind (cons e es) done nil = ended_by (ends_item nil e) done nil e es (ended_behind es)
ended_behind (cons e es) done (cons d before) =
    ended_by (ends_item (cons d before) e) done (cons d before) e es (ended_behind es)

behind_none : (o : Option (List Elements)) → behind [] o ≡ o
behind_none None = refl
behind_none (Some items) = refl

-- the items of elements are those that have ended, where none has begun
pub items_are : (es : Elements) → items_of es ≡ ended (parts_of es)
items_are es = sym (behind_none (items_behind nil es)) ∙ ended_behind es [] nil

-- one element more
pub parts_last : (p : Parts) (es : Elements) (e : Element)
    → parts_behind p (with_last es e) ≡ turned (ends_item (parts_behind p es).before e) (parts_behind p es) e
parts_last p nil e = refl
parts_last p (cons d es) e = parts_last (turned (ends_item p.before d) p d) es e

-- ---- places

-- the tokens of one item more
pub width_last : (items : List Elements) (es : Elements) → width_of (items ++ es ∷ []) ≡ width_of items + length (all_spelled es)
width_last [] es = omega arith
width_last (i ∷ items) es =
    let rest : width_of (items ++ es ∷ []) ≡ width_of items + length (all_spelled es) = width_last items es in omega (arith, rest)

-- the place of one item more
pub placed_last : (at : ℕ) (items : List Elements) (es : Elements)
    → placed at (items ++ es ∷ []) ≡ placed at items ++ placed (at + width_of items) (es ∷ [])
placed_last at [] es = ap (λ k. placed k (es ∷ [])) (omega arith)
placed_last at (i ∷ items) es =
    let next = at + length (all_spelled i) in
    let here : Item = record { first = at; end = next; name = name_behind at i } in
    ap (λ (xs : List Item). here ∷ xs)
    (placed_last next items es ∙ ap (λ k. placed next items ++ placed k (es ∷ [])) (omega arith))

-- ---- what is known of an item that has begun

-- whether there is a brace among the elements and one more
pub brace_last : (es : Elements) (e : Element) → Matches e → has_brace (with_last es e) ≡ (has_brace es || is_brace (last_of e))
brace_last nil (plain Semicolon) h = refl
brace_last nil (plain Storage) h = refl
brace_last nil (plain Returned) h = refl
brace_last nil (plain Name) h = refl
brace_last nil (plain Other) h = refl
brace_last nil (plain (Opens b)) h = absurd h
brace_last nil (plain (Closes b)) h = absurd h
brace_last nil (group Round es) h = refl
brace_last nil (group Square es) h = refl
brace_last nil (group Curly es) h = refl
brace_last (cons (plain m) es) e h = brace_last es e h
brace_last (cons (group Round inside) es) e h = brace_last es e h
brace_last (cons (group Square inside) es) e h = brace_last es e h
brace_last (cons (group Curly inside) es) e h = refl

braced_or : (p q : Bool) → (if p then false else q) ≡ (not p && q)
braced_or true q = refl
braced_or false q = refl

round_one : (e : Element) → Matches e → ends_round (cons e nil) ≡ is_round (last_of e)
round_one (plain Semicolon) h = refl
round_one (plain Storage) h = refl
round_one (plain Returned) h = refl
round_one (plain Name) h = refl
round_one (plain Other) h = refl
round_one (plain (Opens b)) h = absurd h
round_one (plain (Closes b)) h = absurd h
round_one (group Round es) h = refl
round_one (group Square es) h = refl
round_one (group Curly es) h = refl

-- whether the last one is a pair of parentheses
pub round_last : (es : Elements) (e : Element) → Matches e → ends_round (with_last es e) ≡ is_round (last_of e)
round_last nil e h = round_one e h
round_last (cons d nil) e h = round_last nil e h
round_last (cons d (cons c es)) e h = round_last (cons c es) e h

-- what is kept of an item tells whether an element ends it
pub closes_is : (before : Elements) (e : Element) (b : Begun) → Matches e → b.braced ≡ has_brace before → b.round ≡ ends_round before
    → ends_item before e ≡ closes b (last_of e)
closes_is before (plain Semicolon) b h x y = refl
closes_is before (plain Storage) b h x y = refl
closes_is before (plain Returned) b h x y = refl
closes_is before (plain Name) b h x y = refl
closes_is before (plain Other) b h x y = refl
closes_is before (plain (Opens c)) b h x y = absurd h
closes_is before (plain (Closes c)) b h x y = absurd h
closes_is before (group Round es) b h x y = refl
closes_is before (group Square es) b h x y = refl
closes_is before (group Curly es) b h x y =
    braced_or (has_brace before) (ends_round before) ∙ ap₂ (λ p q. not p && q) (sym x) (sym y)

-- the place of a token that ends a bracket makes no difference
next_place : (h : Head) (b : Bracket) (i j : ℕ) → next_head h (Closes b) i ≡ next_head h (Closes b) j
next_place head.Storage b i j = refl
next_place head.Typed b i j = refl
next_place (head.Named n) Round i j = refl
next_place (head.Named n) Square i j = refl
next_place (head.Named n) Curly i j = refl
next_place (head.Taking n) Round i j = refl
next_place (head.Taking n) Square i j = refl
next_place (head.Taking n) Curly i j = refl
next_place (head.Bodied n) b i j = refl
next_place head.Unlike b i j = refl

head_one : (h : Head) (at : ℕ) (e : Element) (last : ℕ) → at + length (spelled e) ≡ suc last
    → head_behind h at (cons e nil) ≡ next_head h (last_of e) last
head_one h at (plain m) last e = ap (next_head h m) (omega (arith, e))
head_one h at (group b es) last e = next_place h b at last

one_length : (e : Element) → length (all_spelled (cons e nil)) ≡ length (spelled e)
one_length e = ap (λ (ms : List Mark). length ms) (append-nil (spelled e))

-- the length of two lists
pub both_length : (xs ys : List Mark) → length (xs ++ ys) ≡ length xs + length ys
both_length [] ys = omega arith
both_length (x ∷ xs) ys = let rest : length (xs ++ ys) ≡ length xs + length ys = both_length xs ys in omega (arith, rest)

-- the head of an item with one element more, whose last token is this one
pub head_last : (h : Head) (at : ℕ) (es : Elements) (e : Element) (last : ℕ)
    → at + length (all_spelled (with_last es e)) ≡ suc last
    → head_behind h at (with_last es e) ≡ next_head (head_behind h at es) (last_of e) last
head_last h at nil e last s = head_one h at e last (omega (arith, s, one_length e))
head_last h at (cons (plain m) es) e last s =
    head_last (next_head h m at) (at + 1) es e last (omega (arith, s))
head_last h at (cons (group b inside) es) e last s =
    head_last (next_head h (Closes b) at) (at + length (spelled (group b inside))) es e last
    (omega (arith, s, both_length (spelled (group b inside)) (all_spelled (with_last es e))))

-- ---- the name of a function with a body

named_unlike : (at : ℕ) (es : Elements) → named (head_behind head.Unlike at es) ≡ None
named_unlike at nil = refl
named_unlike at (cons (plain m) es) = named_unlike (at + 1) es
named_unlike at (cons (group b inside) es) = named_unlike (at + length (spelled (group b inside))) es

named_bodied : (n at : ℕ) (e : Element) (es : Elements) → named (head_behind (head.Bodied n) at (cons e es)) ≡ None
named_bodied n at (plain m) es = named_unlike (at + 1) es
named_bodied n at (group b inside) es = named_unlike (at + length (spelled (group b inside))) es

-- the name of a function, once its parentheses have been met
named_taking : (at k : ℕ) (ps es : Elements) → AllMatch es
    → named (head_behind (head.Taking (suc at)) k es)
    ≡ name_behind at (cons (plain Returned) (cons (plain Name) (cons (group Round ps) es)))
named_taking at k ps nil h = refl
named_taking at k ps (cons (plain Semicolon) es) h = named_unlike (k + 1) es
named_taking at k ps (cons (plain Storage) es) h = named_unlike (k + 1) es
named_taking at k ps (cons (plain Returned) es) h = named_unlike (k + 1) es
named_taking at k ps (cons (plain Name) es) h = named_unlike (k + 1) es
named_taking at k ps (cons (plain Other) es) h = named_unlike (k + 1) es
named_taking at k ps (cons (plain (Opens b)) es) h = absurd h.0
named_taking at k ps (cons (plain (Closes b)) es) h = absurd h.0
named_taking at k ps (cons (group Round is) es) h = named_unlike (k + length (spelled (group Round is))) es
named_taking at k ps (cons (group Square is) es) h = named_unlike (k + length (spelled (group Square is))) es
named_taking at k ps (cons (group Curly is) nil) h = refl
named_taking at k ps (cons (group Curly is) (cons e es)) h = named_bodied (suc at) (k + length (spelled (group Curly is))) e es

-- once its name has been met
named_named : (at k : ℕ) (es : Elements) → AllMatch es
    → named (head_behind (head.Named (suc at)) k es) ≡ name_behind at (cons (plain Returned) (cons (plain Name) es))
named_named at k nil h = refl
named_named at k (cons (plain Semicolon) es) h = named_unlike (k + 1) es
named_named at k (cons (plain Storage) es) h = named_unlike (k + 1) es
named_named at k (cons (plain Returned) es) h = named_unlike (k + 1) es
named_named at k (cons (plain Name) es) h = named_unlike (k + 1) es
named_named at k (cons (plain Other) es) h = named_unlike (k + 1) es
named_named at k (cons (plain (Opens b)) es) h = absurd h.0
named_named at k (cons (plain (Closes b)) es) h = absurd h.0
named_named at k (cons (group Round ps) es) h = named_taking at (k + length (spelled (group Round ps))) ps es h.1
named_named at k (cons (group Square is) es) h = named_unlike (k + length (spelled (group Square is))) es
named_named at k (cons (group Curly is) es) h = named_unlike (k + length (spelled (group Curly is))) es

-- once its type has been met
named_typed : (at : ℕ) (es : Elements) → AllMatch es
    → named (head_behind head.Typed (suc at) es) ≡ name_behind at (cons (plain Returned) es)
named_typed at nil h = refl
named_typed at (cons (plain Semicolon) es) h = named_unlike (suc at + 1) es
named_typed at (cons (plain Storage) es) h = named_unlike (suc at + 1) es
named_typed at (cons (plain Returned) es) h = named_unlike (suc at + 1) es
named_typed at (cons (plain Name) es) h = named_named at (suc at + 1) es h.1
named_typed at (cons (plain Other) es) h = named_unlike (suc at + 1) es
named_typed at (cons (plain (Opens b)) es) h = absurd h.0
named_typed at (cons (plain (Closes b)) es) h = absurd h.0
named_typed at (cons (group b is) es) h = named_unlike (suc at + length (spelled (group b is))) es

-- the name of an item is that of its head
pub name_is : (at : ℕ) (es : Elements) → AllMatch es → named (head_behind head.Storage at es) ≡ name_behind at es
name_is at nil h = refl
name_is at (cons (plain Semicolon) es) h = named_unlike (at + 1) es
name_is at (cons (plain Storage) es) h = ap (λ k. named (head_behind head.Storage k es)) (omega arith) ∙ name_is (suc at) es h.1
name_is at (cons (plain Returned) es) h = ap (λ k. named (head_behind head.Typed k es)) (omega arith) ∙ named_typed at es h.1
name_is at (cons (plain Name) es) h = named_unlike (at + 1) es
name_is at (cons (plain Other) es) h = named_unlike (at + 1) es
name_is at (cons (plain (Opens b)) es) h = absurd h.0
name_is at (cons (plain (Closes b)) es) h = absurd h.0
name_is at (cons (group b is) es) h = named_unlike (at + length (spelled (group b is))) es
