-- Which name the variable of each number has.
use Rattle.std.proofs.Common.{◌≡◌, ◌∙◌, ◌<◌, ℕ, suc, List, [], ◌∷◌, length, Bool, true, false, cond, Option, Some, None}
use Rattle.std.proofs.Common.{refl, ap, arith, nat_eq, eq-eqb, eqb-true, ne_eqb}

-- the name of the variable of this number, the last one standing first
abbrev pub name_of : (variables : List (List ℕ)) → ℕ → Option (List ℕ)
name_of [] i = None
name_of (v ∷ vs) i = cond (nat_eq i (length vs)) (Some v) (name_of vs i)

-- a variable that has a name is one of them
pub name_below : (vs : List (List ℕ)) (i : ℕ) (x : List ℕ) → name_of vs i ≡ Some x → i < length vs
name_below [] i x e = cc
name_below (v ∷ vs) i x e = by (nat_eq i (length vs)) (eqb-true i (length vs)) (name_below vs i x) e where
  by : (b : Bool) → (b ≡ true → i ≡ length vs) → (name_of vs i ≡ Some x → i < length vs) → cond b (Some v) (name_of vs i) ≡ Some x
      → i < suc (length vs)
  by true f g e = omega (arith, f refl)
  by false f g e = omega (arith, g e)

-- it keeps its name behind one variable more
pub name_more : (v : List ℕ) (vs : List (List ℕ)) (i : ℕ) (x : List ℕ) → name_of vs i ≡ Some x → name_of (v ∷ vs) i ≡ Some x
name_more v vs i x e =
    let l = name_below vs i x e in
    ap (λ b. cond b (Some v) (name_of vs i)) (ne_eqb i (length vs) (λ k. omega (arith, l, k))) ∙ e

-- the last one has the last name
pub name_last : (v : List ℕ) (vs : List (List ℕ)) → name_of (v ∷ vs) (length vs) ≡ Some v
name_last v vs = ap (λ b. cond b (Some v) (name_of vs (length vs))) (eq-eqb (length vs) (length vs) refl)

-- a variable has one name
pub name_same : (vs : List (List ℕ)) (i : ℕ) (x y : List ℕ) → name_of vs i ≡ Some x → name_of vs i ≡ Some y → x ≡ y
name_same vs i x y e f = cc
