-- Names of which all are known, one by one.
use Rattle.std.proofs.Common.{◌≡◌, ◌∙◌, ◌+◌, ◌++◌, ◌<◌, ℕ, zero, suc, List, [], ◌∷◌, length, take, get_or, sym, ap, ap₂, arith}
use Rattle.std.proofs.Math.Seq.{take-length}
use Rattle.std.proofs.lemmas.List.{take_more}
use Rattle.lang_meaning.specs.Walk.{State}
use Rattle.lang_meaning.specs.Expressions.{numbers_from, knowing}

numbers_more : (i n : ℕ) → numbers_from i (suc n) ≡ numbers_from i n ++ (i + n) ∷ []
numbers_more i zero = let e : i ≡ i + 0 = omega arith in ap (λ k. k ∷ []) e
numbers_more i (suc n) = let e : suc i + n ≡ i + suc n = omega arith in
    ap (λ ks. i ∷ ks) (numbers_more (suc i) n ∙ ap (λ k. numbers_from (suc i) n ++ k ∷ []) e)

-- the first n of these names are known
abbrev pub knowing_first : ℕ → List (List ℕ) → State
knowing_first n all = record { names = take n all; known = numbers_from 0 n; labels = []; count = 0 }

-- where the first n names are known, with their numbers, the next name and the number n make it the first n + 1
pub known_more : (old : State) (all : List (List ℕ)) (n : ℕ) (x : List ℕ) (names : List (List ℕ)) (known : List ℕ) → n < length all
    → old ≡ knowing_first n all
    → x ≡ get_or all n x → names ≡ old.names ++ x ∷ [] → known ≡ old.known ++ n ∷ []
    → ◌≡◌ {A = State} (record { names = names; known = known; labels = old.labels; count = old.count }) (knowing_first (n + 1) all)
known_more old all n x names known w e i f g =
    let one : n + 1 ≡ suc n = omega arith in
    let here : 0 + n ≡ n = omega arith in
    let p : names ≡ take (n + 1) all = f ∙ ap (λ (s : State). s.names ++ x ∷ []) e ∙ ap (λ y. take n all ++ y ∷ []) i
    ∙ sym (take_more all n x w) in
    let q : known ≡ numbers_from 0 (n + 1) = g ∙ ap (λ (s : State). s.known ++ n ∷ []) e ∙ ap (λ k. numbers_from 0 n ++ k ∷ []) (sym here)
    ∙ sym (numbers_more 0 n)
    ∙ ap (numbers_from 0) (sym one) in
    ap₂ (λ x y. record { names = x; known = y; labels = old.labels; count = old.count }) p q
    ∙ ap₂ (λ x y. record { names = take (n + 1) all; known = numbers_from 0 (n + 1); labels = x; count = y })
    (ap (λ (s : State). s.labels) e) (ap (λ (s : State). s.count) e)

-- where n is the number of all names, to know the first n is to know all
pub known_all : (all : List (List ℕ)) (n : ℕ) → n ≡ length all → knowing_first n all ≡ knowing all
known_all all n e = ap (λ k. knowing_first k all) e ∙ ap (λ x. record {
  names = x;
  known = numbers_from 0 (length all);
  labels = [];
  count =
      0;
}) (take-length all)
