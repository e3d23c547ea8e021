-- What the code's reading is behind one element more.
use Rattle.std.proofs.Common.{◌≡◌, ◌∙◌, ◌++◌, ◌∷◌, ◌+◌, ℕ, suc, Bool, true, false, List, [], refl, sym, ap, ap₂, subst, arith}
use Rattle.std.proofs.Common.{length, Option}
use Rattle.std.specs.Prelude.{◌||◌}
use Rattle.source_items.specs.declared.mark.Mark.{Mark}
use Rattle.source_items.specs.declared.item.Item.{Item}
use Rattle.source_items.specs.declared.item.Begun.{Begun}
use Rattle.source_items.specs.declared.item.Head.TheVariants as head
use Rattle.source_items.specs.declared.division.Reading.{Reading}
use Rattle.source_items.specs.Elements.{Element, Elements, nil, cons, spelled, all_spelled, Matches, AllMatch}
use Rattle.source_items.specs.Items.{with_last, ends_item, name_behind}
use Rattle.source_items.specs.Divisions.{placed}
use Rattle.source_items.specs.Begun.{beginning, closes, is_brace, is_braced, is_round, named, next_head}
use Rattle.source_items.specs.Machine.{Parts, turned, parts_behind, parts_of, last_of, width_of, head_behind, IsBegun}
use Rattle.source_items.specs.Standing.{Meets, MeetsAt}
use Rattle.source_items.proofs.division.Written.{last_spelled, last_matches}
use Rattle.source_items.proofs.division.Parts.{both_length, brace_last, closes_is, head_last, name_is, parts_last, placed_last, round_last}
use Rattle.source_items.proofs.division.Parts.{width_last}

-- how many tokens stand in items that have ended and in one that has begun
abbrev pub counted : Parts → ℕ
counted p = width_of p.done + length (all_spelled p.before)

count_turned : (t : Bool) (p : Parts) (e : Element) → counted (turned t p e) ≡ counted p + length (spelled e)
count_turned true p e = omega (
  arith,
  width_last p.done (with_last p.before e),
  ap (λ (ms : List Mark). length ms) (last_spelled p.before e),
  both_length (all_spelled p.before) (spelled e),
)
count_turned false p e =
    omega (arith, ap (λ (ms : List Mark). length ms) (last_spelled p.before e), both_length (all_spelled p.before) (spelled e))

count_behind : (p : Parts) (es : Elements) → counted (parts_behind p es) ≡ counted p + length (all_spelled es)
count_behind p nil = omega arith
count_behind p (cons e es) =
    let rest = count_behind (turned (ends_item p.before e) p e) es in
    omega (arith, rest, count_turned (ends_item p.before e) p e, both_length (spelled e) (all_spelled es))

-- no token is lost
pub count_is : (es : Elements) → counted (parts_of es) ≡ length (all_spelled es)
count_is es =
    let all : counted (parts_of es) ≡ 0 + length (all_spelled es) = count_behind (record { done = []; before = nil }) es in
    omega (arith, all)

turned_match : (t : Bool) (p : Parts) (e : Element) → AllMatch p.before → Matches e → AllMatch (turned t p e).before
turned_match true p e h m = tt
turned_match false p e h m = last_matches p.before e h m

behind_match : (p : Parts) (es : Elements) → AllMatch p.before → AllMatch es → AllMatch (parts_behind p es).before
behind_match p nil h m = h
behind_match p (cons e es) h m =
    behind_match (turned (ends_item p.before e) p e) es (turned_match (ends_item p.before e) p e h m.0) m.1

-- the elements of an item that has begun match
pub before_match : (es : Elements) → AllMatch es → AllMatch (parts_of es).before
before_match es m = behind_match (record { done = []; before = nil }) es tt m

-- what the code makes of one element more, which ends the item or doesn't
pub record IsTaken (t : Bool) (last : Mark) (index : ℕ) (r now : Reading) : Type 0 where
  -- an item more, or none
  pub items : now.items.items ≡ elim t [
    | true ↦ r.items.items ++ record { first = r.first; end = suc index; name = named (next_head r.begun.head last index) } ∷ []
    | false ↦ r.items.items
  ]
  -- the next item begins behind it
  pub first : now.first ≡ elim t [ true ↦ suc index | false ↦ r.first ]
  -- without elements, or with one more
  pub begun : now.begun ≡ elim t [
    | true ↦ beginning
    | false ↦ record {
      braced = is_braced r.begun last;
      round = is_round last;
      head = next_head r.begun.head last index;
    }
  ]

module _ (base : Elements) (e : Element) (last : Mark) (index : ℕ) (r now : Reading) (is_last : last_of e ≡ last) (match : AllMatch base)
    (matches : Matches e) (count : length (all_spelled (with_last base e)) ≡ suc index) (meets : Meets base r) where
  abbrev before : Elements
  before = (parts_of base).before

  at_end : width_of (parts_of base).done + length (all_spelled (with_last before e)) ≡ suc index
  at_end = omega (
    arith,
    count,
    count_is base,
    ap (λ (ms : List Mark). length ms) (last_spelled base e),
    ap (λ (ms : List Mark). length ms) (last_spelled before e),
    both_length (all_spelled base) (spelled e),
    both_length (all_spelled before) (spelled e),
  )

  begun_head : head_behind head.Storage (width_of (parts_of base).done) (with_last before e) ≡ next_head r.begun.head last index
  begun_head =
      head_last head.Storage (width_of (parts_of base).done) before e index at_end
      ∙ ap₂ (λ h m. next_head h m index) (sym meets.begun.head) is_last

  placed_item : placed 0 ((parts_of base).done ++ with_last before e ∷ [])
      ≡ r.items.items ++ record { first = r.first; end = suc index; name = named (next_head r.begun.head last index) } ∷ []
  placed_item =
      let first : 0 + width_of (parts_of base).done ≡ r.first = omega (arith, meets.first) in
      let end : 0 + width_of (parts_of base).done + length (all_spelled (with_last before e)) ≡ suc index = omega (arith, at_end) in
      let name : name_behind (0 + width_of (parts_of base).done) (with_last before e) ≡ named (next_head r.begun.head last index) =
      ap (λ k. name_behind k (with_last before e)) (omega arith)
      ∙ sym (name_is (width_of (parts_of base).done) (with_last before e) (last_matches before e (before_match base match) matches))
      ∙ ap named begun_head in
      let item : (let here : Item = record {
        first = 0 + width_of (parts_of base).done;
        end = 0 + width_of (parts_of base).done + length (all_spelled (with_last before e));
        name = name_behind (0 + width_of (parts_of base).done) (with_last before e);
      } in here) ≡ record { first = r.first; end = suc index; name = named (next_head r.begun.head last index) } =
      ap (λ (k : ℕ). let here : Item = record {
        first = k;
        end = 0 + width_of (parts_of base).done + length (all_spelled (with_last before e));
        name = name_behind (0 + width_of (parts_of base).done) (with_last before e);
      } in here) first
      ∙ ap₂ (λ (k : ℕ) (x : Option ℕ). let here : Item = record { first = r.first; end = k; name = x } in here) end name in
      placed_last 0 (parts_of base).done (with_last before e)
      ∙ ap₂ (λ (xs : List Item) (x : Item). xs ++ x ∷ []) (sym meets.items) item

  meets_by : (t : Bool) → ends_item before e ≡ t → IsTaken t last index r now → Meets (with_last base e) now
  meets_by true ends h =
      let after : parts_of (with_last base e) ≡ turned true (parts_of base) e =
      parts_last (record { done = []; before = nil }) base e ∙ ap (λ t. turned t (parts_of base) e) ends in
      subst (λ (p : Parts). MeetsAt p now) (sym after) record {
        items = h.items ∙ sym placed_item;
        first = h.first ∙ sym at_end ∙ sym (width_last (parts_of base).done (with_last before e));
        begun = subst (λ (b : Begun). IsBegun (width_of ((parts_of base).done ++ with_last before e ∷ [])) nil b) (sym h.begun)
            record { braced = refl; round = refl; head = refl };
      }
  meets_by false ends h =
      let after : parts_of (with_last base e) ≡ turned false (parts_of base) e =
      parts_last (record { done = []; before = nil }) base e ∙ ap (λ t. turned t (parts_of base) e) ends in
      subst (λ (p : Parts). MeetsAt p now) (sym after) record {
        items = h.items ∙ meets.items;
        first = h.first ∙ meets.first;
        begun = subst (λ (b : Begun). IsBegun (width_of (parts_of base).done) (with_last before e) b) (sym h.begun) record {
          braced = ap₂ (λ x m. x || is_brace m) meets.begun.braced (sym is_last) ∙ sym (brace_last before e matches);
          round = ap is_round (sym is_last) ∙ sym (round_last before e matches);
          head = sym begun_head;
        };
      }

  -- the reading stands behind the element
  pub meets_next : (t : Bool) → closes r.begun last ≡ t → IsTaken t last index r now → Meets (with_last base e) now
  meets_next t h taken =
      let ends : ends_item before e ≡ t =
      closes_is before e r.begun matches meets.begun.braced meets.begun.round ∙ ap (closes r.begun) is_last ∙ h in
      meets_by t ends taken
