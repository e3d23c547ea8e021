-- What expressions leave of states. Where the variables of an expression are among the integers, so is each value that it may have, and so
-- are the variables in each state that it leaves.
use Rattle.std.proofs.Common.{◌≡◌, ◌≢◌, ◌⊎◌, inl, inr, ⊎_elim, ◌<◌, ◌≤◌, ℕ, Bool, true, false, not, length, get_or, refl, sym, ap, subst}
use Rattle.std.proofs.Common.{◌∙◌, arith}
use Rattle.std.specs.Prelude.{ℤ, pos, ◌-ℤ◌, ◌&&◌, IsTrue}
use Rattle.std.proofs.lemmas.Int.{ints}
use Rattle.std.proofs.lemmas.Bool.{ltb-true}
use Rattle.std.proofs.lemmas.Bool.Decides.{eqb_tells}
use Rattle.lang_tree.specs.Meaning.{State, put}
use Rattle.lang_tree.proofs.Put.{put_size, get_or-put_same, get_or-put_other}
use Rattle.base_integers.specs.declared.integers.Integers.{Integers}
use Rattle.base_integers.specs.declared.integers.Integers.TheVariants.{Mathematical, Machine}
use Rattle.base_integers.specs.Integers.{Has}
use Rattle.source_tree.specs.Expressions.{Expression, Expressions, number, variable, unknown, call, element, grouped, negative, positive}
use Rattle.source_tree.specs.Expressions.{stepped, inverse, joined, compared, both, either, chosen, none, more, before, behind}
use Rattle.source_tree.specs.Expressions.{Subscripts, no_subscript, subscript}
use Rattle.source_tree.specs.Values.{truth_number, May, AllMay, AreIndexes}
use Rattle.source_core.specs.Laws.{is_over, are_over, are_indexes_over, AreIn}
use Rattle.source_core.proofs.forms.Tests.{both_of}
use Rattle.source_core.proofs.forms.Quotients.{wide}
use Rattle.source_core.proofs.preludes.Held.{has-zero}
use Rattle.source_core.proofs.expressions.Operated.{held-result}

-- ---- states that are left
same : (T : State → Type 0) (x y : State) → y ≡ x → T x → T y
same T x y e t = subst T (sym e) t

-- what is kept where one of the first variables takes one of the integers
module _ (integers : Integers) (n : ℕ) (T : State → Type 0)
    (takes : (x : State) (i : ℕ) (z : ℤ) → i < n → Has integers z → T x → T (put (pos 0) x i z)) where
  mutual
    -- holds of each state that an expression leaves where it held before
    pub left-keeps : (e : Expression) (x : State) (z : ℤ) (y : State) → IsTrue (is_over n e) → May integers e x z y → T x → T y
    left-keeps (number v at) x z y o m t = same T x y m.2 t
    left-keeps (variable i at) x z y o m t = same T x y m.1 t
    left-keeps (unknown at) x z y o m t = same T x y m.1 t
    left-keeps (call es at) x z y o m t = all_left-keep es x y o m.0 t
    left-keeps (element is at) x z y o m t = indexes_left-keep is x y o m.0 t
    left-keeps (stepped direction moment i sign at) x z y o m t =
        same T (put (pos 0) x i m.0) y m.4 (takes x i m.0 (ltb-true i n o) m.2 t)
    left-keeps (grouped at e) x z y o m t = left-keeps e x z y o m t
    left-keeps (negative at e) x z y o m t = left-keeps e x m.0 y o m.1 t
    left-keeps (positive at e) x z y o m t = left-keeps e x z y o m t
    left-keeps (inverse at e) x z y o m t = left-keeps e x m.0 y o m.2 t
    left-keeps (joined k sign e f) x z y o m t =
        let p = both_of (is_over n e) (is_over n f) o in
        left-keeps f m.0 m.2 y p.1 m.4 (left-keeps e x m.1 m.0 p.0 m.3 t)
    left-keeps (compared rel sign e f) x z y o m t =
        let p = both_of (is_over n e) (is_over n f) o in
        left-keeps f m.0 m.2 y p.1 m.5 (left-keeps e x m.1 m.0 p.0 m.4 t)
    left-keeps (both c d) x z y o m t =
        let p = both_of (is_over n c) (is_over n d) o in
        ⊎_elim (λ k. left-keeps c x (pos 0) y p.0 k.0 t)
        (λ k. left-keeps d k.0 k.2 y p.1 k.6 (left-keeps c x k.1 k.0 p.0 k.4 t)) m
    left-keeps (either c d) x z y o m t =
        let p = both_of (is_over n c) (is_over n d) o in
        ⊎_elim (λ k. left-keeps c x k.0 y p.0 k.1 t)
        (λ k. left-keeps d k.0 k.1 y p.1 k.4 (left-keeps c x (pos 0) k.0 p.0 k.3 t)) m
    left-keeps (chosen sign c e f) x z y o m t =
        let p = both_of (is_over n c) (is_over n e && is_over n f) o in
        let q = both_of (is_over n e) (is_over n f) p.1 in
        ⊎_elim (λ k. left-keeps e k.0 z y q.0 k.4 (left-keeps c x k.1 k.0 p.0 k.2 t))
        (λ k. left-keeps f k.0 z y q.1 k.2 (left-keeps c x (pos 0) k.0 p.0 k.1 t)) m

    -- so of that which expressions leave
    pub all_left-keep : (es : Expressions) (x y : State) → IsTrue (are_over n es) → AllMay integers es x y → T x → T y
    all_left-keep none x y o m t = same T x y m t
    all_left-keep (more e es) x y o m t =
        let p = both_of (is_over n e) (are_over n es) o in
        all_left-keep es m.0 y p.1 m.3 (left-keeps e x m.1 m.0 p.0 m.2 t)

    -- and indexes
    pub indexes_left-keep : (is : Subscripts) (x y : State) → IsTrue (are_indexes_over n is) → AreIndexes integers is x y → T x → T y
    indexes_left-keep no_subscript x y o m t = same T x y m t
    indexes_left-keep (subscript extent bracket e is) x y o m t =
        let p = both_of (is_over n e) (are_indexes_over n is) o in
        indexes_left-keep is m.0 y p.1 m.4 (left-keeps e x m.1 m.0 p.0 m.2 t)

-- a state of n variables stays one
pub sized : (integers : Integers) (n : ℕ) (x : State) (i : ℕ) (z : ℤ) → i < n → Has integers z → length x ≡ n
    → length (put (pos 0) x i z) ≡ n
sized integers n x i z l h s = put_size (pos 0) x i z (omega (arith, l, s)) ∙ s

-- variables among the integers stay among them where one takes one of the integers
pub put-in : (integers : Integers) (n : ℕ) (x : State) (var : ℕ) (z : ℤ) → Has integers z → AreIn integers n x
    → AreIn integers n (put (pos 0) x var z)
put-in integers n x var z h a i l = by (⊎_elim (λ h. inl h.1) (λ h. inr h.1) (eqb_tells i var))
  where
    by : (i ≡ var) ⊎ (i ≢ var) → Has integers (get_or (put (pos 0) x var z) i (pos 0))
    by (inl e) = subst (λ k. Has integers k) (sym (ap (λ k. get_or (put (pos 0) x var z) k (pos 0)) e
        ∙ get_or-put_same (pos 0) x var z (pos 0))) h
    by (inr d) = subst (λ k. Has integers k) (sym (get_or-put_other (pos 0) x var i z d)) (a i l)

-- so in each state that an expression leaves
pub left-in : (integers : Integers) (e : Expression) (n : ℕ) (x : State) (z : ℤ) (y : State) → IsTrue (is_over n e) → AreIn integers n x
    → May integers e x z y → AreIn integers n y
left-in integers e n x z y o a m =
    left-keeps integers n (λ w. AreIn integers n w) (λ w i v l h t. put-in integers n w i v h t) e x z y o m a

-- what stands behind the first n variables stays
pub left-behind : (integers : Integers) (e : Expression) (n : ℕ) (x : State) (z : ℤ) (y : State) (j : ℕ) → IsTrue (is_over n e) → n ≤ j
    → May integers e x z y → get_or y j (pos 0) ≡ get_or x j (pos 0)
left-behind integers e n x z y j o s m =
    left-keeps integers n (λ w. get_or w j (pos 0) ≡ get_or x j (pos 0))
    (λ w i v l h t. get_or-put_other (pos 0) w i j v (λ q. omega (arith, s, l, q)) ∙ t) e x z y o m refl

-- ---- values
-- 1 is one of the integers
pub has-one : (integers : Integers) → Has integers (pos 1)
has-one Mathematical = tt
has-one (Machine width) = let w = wide width in (omega (arith, ints), omega (arith, ints, w))

-- so is the number that a truth is
pub has-truth : (integers : Integers) (t : Bool) → Has integers (truth_number t)
has-truth integers true = has-one integers
has-truth integers false = has-zero integers

-- a number that is the same is one of them, too
pub has-same : (integers : Integers) (a z : ℤ) → z ≡ a → Has integers a → Has integers z
has-same integers a z e h = subst (λ k. Has integers k) (sym e) h

less_one : (t : Bool) → pos 1 -ℤ truth_number t ≡ truth_number (not t)
less_one true = refl
less_one false = refl

-- each value of an expression
pub may-in : (integers : Integers) (e : Expression) (n : ℕ) (x : State) (z : ℤ) (y : State) → IsTrue (is_over n e) → AreIn integers n x
    → May integers e x z y → Has integers z
may-in integers (number v at) n x z y o h m = m.1
may-in integers (variable i at) n x z y o h m = has-same integers _ z m.0 (h i (ltb-true i n o))
may-in integers (unknown at) n x z y o h m = m.0
may-in integers (call es at) n x z y o h m = m.1
may-in integers (element is at) n x z y o h m = m.1
may-in integers (stepped direction before i sign at) n x z y o h m = has-same integers _ z m.3 m.2
may-in integers (stepped direction behind i sign at) n x z y o h m = has-same integers _ z m.3 (h i (ltb-true i n o))
may-in integers (grouped at e) n x z y o h m = may-in integers e n x z y o h m
may-in integers (negative at e) n x z y o h m = m.3
may-in integers (positive at e) n x z y o h m = may-in integers e n x z y o h m
may-in integers (inverse at e) n x z y o h m = has-same integers _ z (m.4 ∙ less_one m.1) (has-truth integers (not m.1))
may-in integers (joined k sign e f) n x z y o h m = held-result integers k m.1 m.2 z m.6
may-in integers (compared rel sign e f) n x z y o h m = has-same integers _ z m.7 (has-truth integers m.3)
may-in integers (both c d) n x z y o h m =
    ⊎_elim (λ k. has-same integers _ z k.1 (has-zero integers)) (λ k. has-same integers _ z k.8 (has-truth integers k.3)) m
may-in integers (either c d) n x z y o h m =
    ⊎_elim (λ k. has-same integers _ z k.3 (has-one integers)) (λ k. has-same integers _ z k.6 (has-truth integers k.2)) m
may-in integers (chosen sign c e f) n x z y o h m =
    let p = both_of (is_over n c) (is_over n e && is_over n f) o in
    let q = both_of (is_over n e) (is_over n f) p.1 in
    ⊎_elim (λ k. may-in integers e n k.0 z y q.0 (left-in integers c n x k.1 k.0 p.0 h k.2) k.4)
    (λ k. may-in integers f n k.0 z y q.1 (left-in integers c n x (pos 0) k.0 p.0 h k.1) k.2) m
