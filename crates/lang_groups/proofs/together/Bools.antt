-- What holds of tests joined by `&&` and `||`.
use Rattle.std.proofs.Common.{◌≡◌, Bool, true, false, ◌&&◌, ◌||◌, ◌∙◌, refl, sym, ap₂}

-- `||` of three tests
pub or_assoc : (a b c : Bool) → ((a || b) || c) ≡ (a || (b || c))
or_assoc true b c = refl
or_assoc false b c = refl

-- `||` the other way round
pub or_comm : (a b : Bool) → (a || b) ≡ (b || a)
or_comm true true = refl
or_comm true false = refl
or_comm false true = refl
or_comm false false = refl

-- `||` of one test twice
pub or_again : (a : Bool) → (a || a) ≡ a
or_again true = refl
or_again false = refl

-- `||` with what is false
pub or_false : (a : Bool) → (a || false) ≡ a
or_false true = refl
or_false false = refl

-- `||` with what is true
pub or_true : (a : Bool) → (a || true) ≡ true
or_true true = refl
or_true false = refl

-- `&&` the other way round
pub and_comm : (a b : Bool) → (a && b) ≡ (b && a)
and_comm true true = refl
and_comm true false = refl
and_comm false true = refl
and_comm false false = refl

-- `&&` over `||`
pub and_or : (a b c : Bool) → (a && (b || c)) ≡ ((a && b) || (a && c))
and_or true b c = refl
and_or false b c = refl

-- `&&` with what is false
pub and_false : (a : Bool) → (a && false) ≡ false
and_false true = refl
and_false false = refl

-- What the first pair has is had by both pairs joined.
pub both_in_more : (a b c d : Bool) → (((a || c) && (b || d)) || (a && b)) ≡ ((a || c) && (b || d))
both_in_more true true c d = refl
both_in_more true false c d = or_false _
both_in_more false b c d = or_false _

-- What the second pair has is had by both pairs joined.
pub both_in_rest : (a b c d : Bool) → (((a || c) && (b || d)) || (c && d)) ≡ ((a || c) && (b || d))
both_in_rest true true true true = refl
both_in_rest true true true false = refl
both_in_rest true true false d = refl
both_in_rest true false true true = refl
both_in_rest true false true false = refl
both_in_rest true false false d = or_false _
both_in_rest false true true true = refl
both_in_rest false true true false = refl
both_in_rest false true false d = refl
both_in_rest false false true true = refl
both_in_rest false false true false = refl
both_in_rest false false false d = refl

-- two tests that a third one covers add nothing to it
pub covered : (o a b p q : Bool) → (o || p) ≡ o → (o || q) ≡ o → ((a || b) || o) ≡ (o || ((a || p) || (b || q)))
covered true a b p q e f = or_true (a || b)
covered false a b p q e f = or_false (a || b) ∙ sym (ap₂ (λ u v. (a || u) || (b || v)) e f ∙ ap₂ ◌||◌ (or_false a) (or_false b))
