-- The count of the tokens bounds the turns of a list, and a greater bound changes nothing.
use Rattle.std.proofs.Common.{◌≡◌, ℕ, zero, suc, ◌≤◌, List, [], ◌∷◌, length, Option, Some, None, option_and_then, refl}
use Rattle.std.proofs.Common.{sym, ap, arith}
use Rattle.json.specs.Token.{Token}
use Rattle.json.specs.Json.{Json, Parse, after_end_array, item, items, items_step, parse_map, value}
use Rattle.json.proofs.Grammar.{Takes, left, skip_value-shorter, value_is}

module _ (p : Parse Json) (takes : Takes p) (none : p [] ≡ None) where
  after_value : (n m : ℕ) (v : Option (Json × List Token)) → ((r : List Token) → left v ≡ Some r → items p n r ≡ items p m r)
      → option_and_then (λ q. parse_map (item q.0) (items p n q.1)) v ≡ option_and_then (λ q. parse_map (item q.0) (items p m q.1)) v
  after_value n m None h = refl
  after_value n m (Some q) h = ap (parse_map (item q.0)) (h q.1 refl)

  step_same : (n m : ℕ) (ts : List Token) (o : Option (List Token)) → ((r : List Token) → left (p ts) ≡ Some r → items p n r ≡ items p m r)
      → items_step p (items p n) ts o ≡ items_step p (items p m) ts o
  step_same n m ts (Some r) h = refl
  step_same n m ts None h = after_value n m (p ts) h

  nothing_left : (n : ℕ) → items p n [] ≡ None
  unfolding items
  nothing_left zero = refl
  nothing_left (suc n) = ap (option_and_then (λ q. parse_map (item q.0) (items p n q.1))) none

  -- two bounds that are enough give the same
  pub items_enough : (n m : ℕ) (ts : List Token) → length ts ≤ n → length ts ≤ m → items p n ts ≡ items p m ts
  unfolding items
  items_enough zero m [] a b = sym (nothing_left m)
  items_enough zero m (t ∷ ts) a b = let never : ⊥ = omega arith in absurd never
  items_enough (suc n) zero [] a b = nothing_left (suc n)
  items_enough (suc n) zero (t ∷ ts) a b = let never : ⊥ = omega arith in absurd never
  items_enough (suc n) (suc m) ts a b = step_same n m ts (after_end_array ts)
      (λ r e. items_enough n m r (omega (arith, takes ts r e)) (omega (arith, takes ts r e)))

-- the same where the elements are values
pub values_enough : (depth n m : ℕ) (ts : List Token) → length ts ≤ n → length ts ≤ m → items (value depth) n ts ≡ items (value depth) m ts
values_enough depth = items_enough (value depth) (skip_value-shorter depth) (value_is depth [])
