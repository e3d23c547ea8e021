-- The place of a name among others, from a place on.
use Rattle.std.proofs.Common.{◌≡◌, ◌∙◌, ◌+◌, ◌<◌, ℕ, suc, Bool, true, false, List, [], Option, Some, None, length, get_or, drop}
use Rattle.std.proofs.Common.{cond, refl, sym, ap, arith}
use Rattle.std.proofs.Math.Seq.{drop-cons}
use Rattle.std.specs.Str.{bytes_eq}
use Rattle.source_packs.specs.Shapes.{position}

-- a place behind n others
abbrev pub shifted : ℕ → Option ℕ → Option ℕ
shifted n None = None
shifted n (Some i) = Some (n + i)

-- behind one other
abbrev later : Option ℕ → Option ℕ
later None = None
later (Some i) = Some (suc i)

-- one more
pub shifted_later : (n : ℕ) (o : Option ℕ) → shifted n (later o) ≡ shifted (n + 1) o
shifted_later n None = refl
shifted_later n (Some i) = ap (λ (k : ℕ). Some k) (let e : n + suc i ≡ n + 1 + i = omega arith in e)

-- the one there has the name
pub found_at : (x : List ℕ) (ys : List (List ℕ)) (i : ℕ) (d : List ℕ) → i < length ys → bytes_eq x (get_or ys i d) ≡ true
    → position x (drop i ys) ≡ Some 0
found_at x ys i d h e = ap (λ (l : List (List ℕ)). position x l) (drop-cons ys i d h)
    ∙ ap (λ (b : Bool). cond b (Some 0) (later (position x (drop (suc i) ys)))) e

-- or it hasn't
pub passed_at : (x : List ℕ) (ys : List (List ℕ)) (i : ℕ) (d : List ℕ) → i < length ys → bytes_eq x (get_or ys i d) ≡ false
    → position x (drop i ys) ≡ later (position x (drop (suc i) ys))
passed_at x ys i d h e = ap (λ (l : List (List ℕ)). position x l) (drop-cons ys i d h)
    ∙ ap (λ (b : Bool). cond b (Some 0) (later (position x (drop (suc i) ys)))) e

-- The first one there,
pub position_here : (x : List ℕ) (ys : List (List ℕ)) (i n : ℕ) (d : List ℕ) → i < length ys → bytes_eq x (get_or ys i d) ≡ true
    → position x ys ≡ shifted n (position x (drop i ys)) → Some n ≡ position x ys
position_here x ys i n d h e f =
    ap (λ (k : ℕ). Some k) (let z : n ≡ n + 0 = omega arith in z)
    ∙ sym (f ∙ ap (λ (o : Option ℕ). shifted n o) (found_at x ys i d h e))

-- or behind it,
pub position_behind : (x : List ℕ) (ys : List (List ℕ)) (i n : ℕ) (d : List ℕ) → i < length ys → bytes_eq x (get_or ys i d) ≡ false
    → position x ys ≡ shifted n (position x (drop i ys)) → position x ys ≡ shifted (n + 1) (position x (drop (i + 1) ys))
position_behind x ys i n d h e f =
    let next : suc i ≡ i + 1 = omega arith in
    f ∙ ap (λ (o : Option ℕ). shifted n o) (passed_at x ys i d h e) ∙ shifted_later n (position x (drop (suc i) ys))
    ∙ ap (λ (k : ℕ). shifted (n + 1) (position x (drop k ys))) next

-- or none.
pub position_none : (x : List ℕ) (ys : List (List ℕ)) (i n : ℕ) → drop i ys ≡ []
    → position x ys ≡ shifted n (position x (drop i ys)) → None ≡ position x ys
position_none x ys i n e f = sym (f ∙ ap (λ (l : List (List ℕ)). shifted n (position x l)) e)
