-- One thing becomes of the tokens of a file.
use Rattle.std.proofs.Common.{◌≡◌, ◌∙◌, ◌⊎◌, inl, inr, ◌++◌, ◌≤◌, ℕ, suc, List, [], sym, ap, subst, arith, append_assoc}
use Rattle.std.proofs.Common.{length, take, drop, Option, Some, None}
use Rattle.std.proofs.lemmas.Bool.{cases_order}
use Rattle.std.proofs.lemmas.List.{append-nil, take-append-drop, take-take}
use Rattle.source_items.specs.declared.mark.Mark.{Mark}
use Rattle.source_items.specs.declared.item.Item.{Item}
use Rattle.source_items.specs.Elements.{Elements, Holds, Begins}
use Rattle.source_items.specs.Items.{items_of}
use Rattle.source_items.specs.Divisions.{placed, IsDivided, IsUnmatched, IsShort, Outcome, divided, unexpected, Finds}
use Rattle.source_items.proofs.division.Runs.{one_holds}

-- what begins a list of elements begins one up to any place
begins_part : (front rest : List Mark) → Begins (front ++ rest) → Begins front
begins_part front rest b =
    (rest ++ b.0, b.1, subst (λ ms. Holds ms b.1) (append_assoc front rest b.0) b.2)

begins_take : (n : ℕ) (marks : List Mark) → Begins marks → Begins (take n marks)
begins_take n marks b = begins_part (take n marks) (drop n marks) (subst (λ ms. Begins ms) (sym (take-append-drop n marks)) b)

begins_less : (m n : ℕ) (marks : List Mark) → m ≤ n → Begins (take n marks) → Begins (take m marks)
begins_less m n marks l b = subst (λ ms. Begins ms) (take-take m n marks l) (begins_take m (take n marks) b)

held_begins : (marks : List Mark) (es : Elements) → Holds marks es → Begins marks
held_begins marks es h = ([], es, subst (λ ms. Holds ms es) (sym (append-nil marks)) h)

none_some : (parts : List Elements) → (let o : Option (List Elements) = None in o ≡ Some parts) → ⊥
none_some parts e = cc

some_none : (parts : List Elements) (o : Option (List Elements)) → o ≡ Some parts → o ≡ None → ⊥
some_none parts o s n = none_some parts (sym n ∙ s)

parts_once : (a b : List Elements) (o p : Option (List Elements)) → o ≡ Some a → p ≡ Some b → o ≡ p → a ≡ b
parts_once a b o p x y e = cc

one_divided : (marks : List Mark) (items others : List Item) → IsDivided marks items → IsDivided marks others → items ≡ others
one_divided marks items others a b =
    let same = one_holds marks a.elements b.elements a.holds b.holds in
    a.are ∙ ap (placed 0) (parts_once a.parts b.parts (items_of a.elements) (items_of b.elements) a.makes b.makes (ap items_of same))
    ∙ sym b.are

clash : (marks : List Mark) (items : List Item) (index : ℕ) → IsDivided marks items
    → IsUnmatched marks index ⊎ ((index ≡ length marks) × IsShort marks) → ⊥
clash marks items index a (inl u) = u.2 (begins_take (suc index) marks (held_begins marks a.elements a.holds))
clash marks items index a (inr s) = some_none a.parts (items_of a.elements) a.makes (s.1.1 a.elements a.holds)

one_index : (marks : List Mark) (i j : ℕ) → IsUnmatched marks i ⊎ ((i ≡ length marks) × IsShort marks)
    → IsUnmatched marks j ⊎ ((j ≡ length marks) × IsShort marks) → i ≡ j
one_index marks i j (inl u) (inl v) = elim (cases_order i j) [
  | inl e ↦ e
  | inr r ↦ elim r [
    | inl l ↦ absurd (u.2 (begins_less (suc i) j marks (omega (arith, l)) v.1))
    | inr g ↦ absurd (v.2 (begins_less (suc j) i marks (omega (arith, g)) u.1))
  ]
]
one_index marks i j (inl u) (inr s) = absurd (u.2 (begins_take (suc i) marks s.1.0))
one_index marks i j (inr s) (inl v) = absurd (v.2 (begins_take (suc j) marks s.1.0))
one_index marks i j (inr s) (inr t) = s.0 ∙ sym t.0

-- one thing becomes of the tokens
pub one_outcome : (marks : List Mark) (one other : Outcome) → Finds one marks → Finds other marks → one ≡ other
one_outcome marks (divided items) (divided others) a b = ap divided (one_divided marks items others a b)
one_outcome marks (divided items) (unexpected j) a b = absurd (clash marks items j a b)
one_outcome marks (unexpected i) (divided items) a b = absurd (clash marks items i b a)
one_outcome marks (unexpected i) (unexpected j) a b = ap unexpected (one_index marks i j a b)
