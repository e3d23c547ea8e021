-- Lists without their zeros, entry by entry.
use Rattle.std.proofs.Common.{◌≡◌, ◌+◌, ◌<◌, ◌≤◌, ◌++◌, ◌&&◌, ℕ, zero, suc, Bool, true, false, List, [], ◌∷◌, length, take, drop, get_or}
use Rattle.std.proofs.Common.{refl, sym, ap, ap₂, ◌∙◌, arith, cond, not, nat_lt, nat_le}
use Rattle.std.proofs.lemmas.Bool.{le-leb}
use Rattle.std.proofs.lemmas.List.{take_more}
use Rattle.base_numbers.specs.Rational.{ℚ}
use Rattle.cert_written.specs.declared.pairs.Pair.{Pair}
use Rattle.cert_written.specs.Pairs.{ascends, before, is_nil, is_sparse, nonzero}

-- ---- whether places ascend

-- what is left to test from pair i on
abbrev pub left : ℕ → List Pair → ℕ → Bool
left least ps i = ascends least (drop i ps)

next : (ps : List Pair) (i : ℕ) (p : Pair) (least : ℕ) → i < length ps → p ≡ get_or ps i p
    → left least ps i ≡ (nat_le least p.place && not (is_nil p.value) && left (suc p.place) ps (suc i))
next [] i p least lt is = absurd (omega arith)
next (x ∷ ps) zero p least lt is = ap (λ (y : Pair). nat_le least y.place && not (is_nil y.value) && ascends (suc y.place) ps) (sym is)
next (x ∷ ps) (suc i) p least lt is = next ps i p least (omega arith) is

low : (a b : ℕ) → nat_lt a b ≡ true → nat_le b a ≡ false
low a b h = grind (arith, h)

high : (a b : ℕ) → nat_lt a b ≡ false → nat_le b a ≡ true
high a b h = grind (arith, h)

-- a pair whose place is too low, or whose value is 0
pub failed : (ps : List Pair) (i : ℕ) (p : Pair) (least : ℕ) (all : Bool) → i < length ps → p ≡ get_or ps i p
    → cond (nat_lt p.place least) true (is_nil p.value) ≡ true → all ≡ left least ps i → false ≡ all
failed ps i p least all lt is bad e = sym (e ∙ next ps i p least lt is ∙ by (nat_lt p.place least) (is_nil p.value) refl refl bad)
  where
    by : (a b : Bool) → nat_lt p.place least ≡ a → is_nil p.value ≡ b → cond a true b ≡ true
        → (nat_le least p.place && not (is_nil p.value) && left (suc p.place) ps (suc i)) ≡ false
    by true b ea eb h = ap (λ x. x && not (is_nil p.value) && left (suc p.place) ps (suc i)) (low p.place least ea)
    by false true ea eb h = ap₂ (λ x y. x && not y && left (suc p.place) ps (suc i)) (high p.place least ea) eb
    by false false ea eb h = absurd cc

-- a pair that passes
pub passed : (ps : List Pair) (i : ℕ) (p : Pair) (least : ℕ) (all : Bool) → i < length ps → p ≡ get_or ps i p
    → cond (nat_lt p.place least) true (is_nil p.value) ≡ false → all ≡ left least ps i → all ≡ left (p.place + 1) ps (i + 1)
passed ps i p least all lt is good e =
    e ∙ next ps i p least lt is ∙ by (nat_lt p.place least) (is_nil p.value) refl refl good
    ∙ ap₂ (λ k n. left k ps n) (let f : suc p.place ≡ p.place + 1 = omega arith in f) (let f : suc i ≡ i + 1 = omega arith in f)
  where
    by : (a b : Bool) → nat_lt p.place least ≡ a → is_nil p.value ≡ b → cond a true b ≡ false
        → (nat_le least p.place && not (is_nil p.value) && left (suc p.place) ps (suc i)) ≡ left (suc p.place) ps (suc i)
    by true b ea eb h = absurd cc
    by false true ea eb h = absurd cc
    by false false ea eb h = ap₂ (λ x y. x && not y && left (suc p.place) ps (suc i)) (high p.place least ea) eb

-- past the end
pub ended : (ps : List Pair) (i least : ℕ) (all : Bool) → length ps ≤ i → all ≡ left least ps i → true ≡ all
ended ps i least all le e = sym (e ∙ none ps i le)
  where
    none : (ps : List Pair) (i : ℕ) → length ps ≤ i → left least ps i ≡ true
    none [] zero le = refl
    none [] (suc i) le = refl
    none (x ∷ ps) zero le = absurd (omega arith)
    none (x ∷ ps) (suc i) le = none ps i (omega arith)

-- ---- the entries of a list that aren't 0

-- their places ascend
ascend : (least place : ℕ) (qs : List ℚ) → least ≤ place → ascends least (nonzero place qs) ≡ true
ascend least place [] le = refl
ascend least place (q ∷ qs) le = by (is_nil q) refl (ascend least (suc place) qs (omega (arith, le)))
    (ascend (suc place) (suc place) qs (omega arith))
  where
    by : (b : Bool) → is_nil q ≡ b → ascends least (nonzero (suc place) qs) ≡ true → ascends (suc place) (nonzero (suc place) qs) ≡ true
        → ascends least (cond b (nonzero (suc place) qs) (record { place = place; value = q } ∷ nonzero (suc place) qs)) ≡ true
    by true e f g = f
    by false e f g = ap₂ (λ x y. x && not y && ascends (suc place) (nonzero (suc place) qs)) (le-leb least place le) e ∙ g

-- so they are without zeros
pub nonzero_sparse : (qs : List ℚ) → is_sparse (nonzero 0 qs) ≡ true
nonzero_sparse qs = ascend 0 0 qs (omega arith)

append_before : (place : ℕ) (q : ℚ) (ps rs : List Pair) → before place q ps ++ rs ≡ before place q (ps ++ rs)
append_before place q ps rs = by (is_nil q)
  where
    by : (b : Bool) → cond b ps (record { place = place; value = q } ∷ ps) ++ rs
        ≡ cond b (ps ++ rs) (record { place = place; value = q } ∷ (ps ++ rs))
    by true = refl
    by false = refl

nonzero_push : (place : ℕ) (qs : List ℚ) (q : ℚ) → nonzero place (qs ++ q ∷ []) ≡ nonzero place qs ++ before (place + length qs) q []
nonzero_push place [] q = ap (λ k. before k q []) (let e : place ≡ place + 0 = omega arith in e)
nonzero_push place (r ∷ qs) q =
    ap (before place r) (nonzero_push (suc place) qs q ∙ ap (λ k. nonzero (suc place) qs ++ before k q [])
    (let e : suc place + length qs ≡ place + suc (length qs) = omega arith in e))
    ∙ sym (append_before place r (nonzero (suc place) qs) (before (place + suc (length qs)) q []))

taken : {A : Type 0} (xs : List A) (i : ℕ) → i < length xs → length (take i xs) ≡ i
taken [] i lt = absurd (omega arith)
taken (x ∷ xs) zero lt = refl
taken (x ∷ xs) (suc i) lt = ap suc (taken xs i (omega arith))

one_more : (qs : List ℚ) (i : ℕ) (q : ℚ) → i < length qs → q ≡ get_or qs i q
    → nonzero 0 (take (i + 1) qs) ≡ nonzero 0 (take i qs) ++ before i q []
one_more qs i q lt is =
    ap (nonzero 0) (take_more qs i q lt ∙ ap (λ x. take i qs ++ x ∷ []) (sym is)) ∙ nonzero_push 0 (take i qs) q
    ∙ ap (λ k. nonzero 0 (take i qs) ++ before k q []) (let e : 0 + length (take i qs) ≡ i = omega (arith, taken qs i lt) in e)

-- an entry that is 0
pub skipped : (qs : List ℚ) (i : ℕ) (q : ℚ) (ps : List Pair) → i < length qs → q ≡ get_or qs i q → is_nil q ≡ true
    → ps ≡ nonzero 0 (take i qs) → ps ≡ nonzero 0 (take (i + 1) qs)
skipped qs i q ps lt is nil e =
    e ∙ sym (nothing (nonzero 0 (take i qs))) ∙ ap (λ b. nonzero 0 (take i qs) ++ cond b [] (record { place = i; value = q } ∷ []))
    (sym nil)
    ∙ sym (one_more qs i q lt is)
  where
    nothing : (xs : List Pair) → xs ++ [] ≡ xs
    nothing [] = refl
    nothing (x ∷ xs) = ap (λ ys. x ∷ ys) (nothing xs)

-- an entry that isn't
pub pushed : (qs : List ℚ) (i : ℕ) (q : ℚ) (ps now : List Pair) → i < length qs → q ≡ get_or qs i q → is_nil q ≡ false
    → now ≡ ps ++ record { place = i; value = q } ∷ [] → ps ≡ nonzero 0 (take i qs) → now ≡ nonzero 0 (take (i + 1) qs)
pushed qs i q ps now lt is nil more e =
    more ∙ ap (λ xs. xs ++ record { place = i; value = q } ∷ []) e
    ∙ ap (λ b. nonzero 0 (take i qs) ++ cond b [] (record { place = i; value = q } ∷ [])) (sym nil)
    ∙ sym (one_more qs i q lt is)
