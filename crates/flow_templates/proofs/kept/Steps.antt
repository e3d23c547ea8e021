-- One more kept term.
use Rattle.std.proofs.Common.{◌≡◌, ◌<◌, ◌+◌, ◌+ℤ◌, ℕ, ℤ, Bool, true, false, List, length, take, map, get_or, Bor, ap, sym, ◌∙◌, arith}
use Rattle.std.specs.BTreeMap.{BTreeMap}
use Rattle.std.proofs.lemmas.List.{length-map, get_or-map}
use Rattle.lang_tree.specs.Numbers.{is_number}
use Rattle.flow_templates.specs.declared.term.Term.{Term}
use Rattle.flow_templates.specs.Sums.{share, total, StaysWithin}
use Rattle.flow_templates.specs.Kept.{kept_amount, sum_at, AddUp}
use Rattle.flow_templates.proofs.sums.Steps.{WithinUpTo, total_more, within_more, leaves_range}

below : (terms : List Term) (i : ℕ) → i < length terms → i < length (map kept_amount terms)
below terms i h = omega (arith, length-map terms kept_amount)

at : (terms : List Term) (i : ℕ) (d : Term) → i < length terms → get_or (map kept_amount terms) i (kept_amount (get_or terms i d))
    ≡ kept_amount (get_or terms i d)
at terms i d h = get_or-map kept_amount terms i d _ h

-- where one more term is added, the kept coefficients are those of the terms up to it
pub sums_more : (terms : List Term) (i : ℕ) (d : Term) (m n : BTreeMap (Bor (List ℕ)) ℤ) → i < length terms
    → AddUp m (take i (map kept_amount terms)) → ((name : List ℕ) → sum_at n name
    ≡ sum_at m name +ℤ share name (kept_amount (get_or terms i d))) → AddUp n (take (i + 1) (map kept_amount terms))
sums_more terms i d m n h add new = λ name.
    new name ∙ (ap (λ z. z +ℤ share name (kept_amount (get_or terms i d))) (add name)
    ∙ sym (total_more (map kept_amount terms) i (kept_amount (get_or terms i d)) name (below terms i h) (at terms i d h)))

-- the sum that is tested is that of the terms
tested : (terms : List Term) (i : ℕ) (d : Term) (m : BTreeMap (Bor (List ℕ)) ℤ) (b : Bool) → AddUp m (take i (map kept_amount terms))
    → b ≡ is_number (sum_at m (get_or terms i d).name.now +ℤ (get_or terms i d).coefficient)
    → is_number (total (get_or terms i d).name.now (take i (map kept_amount terms)) +ℤ (get_or terms i d).coefficient) ≡ b
tested terms i d m b add e = ap (λ z. is_number (z +ℤ (get_or terms i d).coefficient)) (sym (add (get_or terms i d).name.now)) ∙ sym e

-- where the sum of one more term is within its range, the coefficients stay within it up to that term
pub kept_within_more : (terms : List Term) (i : ℕ) (d : Term) (m : BTreeMap (Bor (List ℕ)) ℤ) (b : Bool) → i < length terms
    → AddUp m (take i (map kept_amount terms)) → WithinUpTo (map kept_amount terms) i
    → b ≡ is_number (sum_at m (get_or terms i d).name.now +ℤ (get_or terms i d).coefficient) → b ≡ true
    → WithinUpTo (map kept_amount terms) (i + 1)
kept_within_more terms i d m b h add w e passes =
    within_more (map kept_amount terms) i (kept_amount (get_or terms i d)) (below terms i h) (at terms i d h) w
    (tested terms i d m b add e ∙ passes)

-- where the sum of one more term leaves its range, the coefficients of the line don't stay within it
pub kept_leaves : (terms : List Term) (i : ℕ) (d : Term) (m : BTreeMap (Bor (List ℕ)) ℤ) (b : Bool) → i < length terms
    → AddUp m (take i (map kept_amount terms)) → b ≡ is_number (sum_at m (get_or terms i d).name.now +ℤ (get_or terms i d).coefficient)
    → b ≡ false → StaysWithin (map kept_amount terms) → ⊥
kept_leaves terms i d m b h add e fails =
    leaves_range (map kept_amount terms) i (kept_amount (get_or terms i d)) (below terms i h) (at terms i d h)
    (tested terms i d m b add e ∙ fails)
