-- What has been met gives each variable the number of its name.
use Rattle.std.proofs.Common.{◌≡◌, ◌∙◌, ◌<◌, ◌++◌, ◌∷◌, ℕ, zero, suc, Bool, true, false, cond, List, [], length, reverse, Option, Some}
use Rattle.std.proofs.Common.{None}
use Rattle.std.proofs.Common.{refl, sym, ap, subst, arith}
use Rattle.std.proofs.lemmas.List.{length-append, length-reverse, reverse-append}
use Rattle.std.proofs.lemmas.Slice.Eq.{bytes_eq-Decides}
use Rattle.std.specs.Str.{bytes_eq}
use Rattle.source_meaning.specs.Names.{Named, Thing, State, variable, array, constant, declared, with_name, forgotten, closed, start_state}
use Rattle.acsl_anchors.specs.Anchors.{number_among}
use Rattle.acsl_anchors.specs.Laws.{IsNumberedAs, IsNumberedBy, IsNumbered}

-- ---- the number of a name where one more stands behind
-- another one doesn't change that of a name that is there,
number_of_old : (x y : List ℕ) (ys : List (List ℕ)) → number_among x ys < length ys → number_among x (ys ++ y ∷ []) ≡ number_among x ys
number_of_old x y [] h = absurd (omega (arith, h))
number_of_old x y (z ∷ zs) h = by_name (bytes_eq x z) (λ i. number_of_old x y zs i) h where
  by_name : (b : Bool) → (number_among x zs < length zs → number_among x (zs ++ y ∷ []) ≡ number_among x zs)
      → cond b 0 (suc (number_among x zs)) < suc (length zs)
      → cond b 0 (suc (number_among x (zs ++ y ∷ []))) ≡ cond b 0 (suc (number_among x zs))
  by_name true more i = refl
  by_name false more i = ap suc (more (omega (arith, i)))

-- a new one gets the next,
number_of_new : (x y : List ℕ) (ys : List (List ℕ)) → number_among x ys ≡ length ys → bytes_eq x y ≡ true
    → number_among x (ys ++ y ∷ []) ≡ length ys
number_of_new x y [] h e = ap (λ (b : Bool). cond b 0 1) e
number_of_new x y (z ∷ zs) h e = by_name (bytes_eq x z) (λ i. number_of_new x y zs i e) h where
  by_name : (b : Bool) → (number_among x zs ≡ length zs → number_among x (zs ++ y ∷ []) ≡ length zs)
      → cond b 0 (suc (number_among x zs)) ≡ suc (length zs) → cond b 0 (suc (number_among x (zs ++ y ∷ []))) ≡ suc (length zs)
  by_name true more i = absurd (omega (arith, i))
  by_name false more i = ap suc (more (omega (arith, i)))

-- and a name that is none of them has the one behind that.
number_of_none : (x y : List ℕ) (ys : List (List ℕ)) → number_among x ys ≡ length ys → bytes_eq x y ≡ false
    → number_among x (ys ++ y ∷ []) ≡ suc (length ys)
number_of_none x y [] h e = ap (λ (b : Bool). cond b 0 1) e
number_of_none x y (z ∷ zs) h e = by_name (bytes_eq x z) (λ i. number_of_none x y zs i e) h where
  by_name : (b : Bool) → (number_among x zs ≡ length zs → number_among x (zs ++ y ∷ []) ≡ suc (length zs))
      → cond b 0 (suc (number_among x zs)) ≡ suc (length zs)
      → cond b 0 (suc (number_among x (zs ++ y ∷ []))) ≡ suc (suc (length zs))
  by_name true more i = absurd (omega (arith, i))
  by_name false more i = ap suc (more (omega (arith, i)))

-- one more has one more place
one_longer : (ys : List (List ℕ)) (y : List ℕ) → length (ys ++ y ∷ []) ≡ suc (length ys)
one_longer ys y = omega (arith, length-append ys (y ∷ []))

-- ---- states
-- where nothing was met
pub numbered_start : IsNumbered start_state
numbered_start x = refl

-- where the same was met
pub numbered_same : (st now : State) → now.names ≡ st.names → now.variables ≡ st.variables → IsNumbered st → IsNumbered now
numbered_same st now e f h x =
    let P : List Named → Type 0 = λ ns. IsNumberedBy x (reverse now.variables) (declared x ns) in
    let Q : List (List ℕ) → Type 0 = λ vs. IsNumberedBy x (reverse vs) (declared x st.names) in
    subst P (sym e) (subst Q (sym f) (h x))

-- where a name is declared that has this thing
named_numbered : (x y : List ℕ) (t : Thing) (vs : List (List ℕ)) (ns : List Named)
    → (bytes_eq x y ≡ true → IsNumberedAs x vs t) → (bytes_eq x y ≡ false → IsNumberedBy x vs (declared x ns))
    → IsNumberedBy x vs (declared x (record { name = y; thing = t; is_known = true } ∷ ns))
named_numbered x y t vs ns same other = by_name (bytes_eq x y) refl where
  by_name : (b : Bool) → bytes_eq x y ≡ b
      → IsNumberedBy x vs (cond b (Some (record { name = y; thing = t; is_known = true })) (declared x ns))
  by_name true e = same e
  by_name false e = other e

-- what is asked where an array is declared
pub numbered_array : (y : List ℕ) (st : State) (t : Thing) → ((x : List ℕ) → IsNumberedAs x (reverse st.variables) t) → IsNumbered st
    → IsNumbered (with_name y t st)
numbered_array y st t here h x = named_numbered x y t (reverse st.variables) st.names (λ e. here x) (λ e. h x)

-- the same name
same_name : (x y : List ℕ) → bytes_eq x y ≡ true → x ≡ y
same_name x y e = (bytes_eq-Decides x y).0 e

-- where a variable is declared again
pub numbered_again : (y : List ℕ) (i : ℕ) (st : State) → IsNumberedAs y (reverse st.variables) (variable i) → IsNumbered st
    → IsNumbered (with_name y (variable i) st)
numbered_again y i st here h x = named_numbered x y (variable i) (reverse st.variables) st.names
    (λ e. let P : List ℕ → Type 0 = λ z. IsNumberedAs z (reverse st.variables) (variable i) in subst P (sym (same_name x y e)) here)
    (λ e. h x)

-- what is said of a name is said behind one more variable of another name
still_numbered : (x y : List ℕ) (vs : List (List ℕ)) (o : Option Named) → bytes_eq x y ≡ false → IsNumberedBy x vs o
    → IsNumberedBy x (vs ++ y ∷ []) o
still_numbered x y vs None e h = number_of_none x y vs h e ∙ sym (one_longer vs y)
still_numbered x y vs (Some n) e h = by_thing n.thing h where
  by_thing : (t : Thing) → IsNumberedAs x vs t → IsNumberedAs x (vs ++ y ∷ []) t
  by_thing (variable i) k =
      (number_of_old x y vs (omega (arith, k.0, k.1)) ∙ k.0, (let l = one_longer vs y in omega (arith, l, k.1)))
  by_thing (array es) k = tt
  by_thing (constant v) k = tt

-- where a variable is new
pub numbered_more : (y : List ℕ) (st : State) → declared y st.names ≡ None → IsNumbered st
    → IsNumbered (with_name y (variable (length st.variables)) (record st { variables = y ∷ st.variables }))
numbered_more y st missing h x =
    let vs = reverse st.variables in
    let R : List (List ℕ) → Type 0 = λ l. IsNumberedBy x l
    (declared x (record { name = y; thing = variable (length st.variables); is_known = true } ∷ st.names)) in
    let P : Option Named → Type 0 = λ o. IsNumberedBy y vs o in
    let new : number_among y vs ≡ length vs = subst P missing (h y) in
    let long : length vs ≡ length st.variables = length-reverse st.variables in
    let more = one_longer vs y in
    subst R (sym (reverse-append (y ∷ []) st.variables)) (named_numbered x y (variable (length st.variables)) (vs ++ y ∷ []) st.names
    (λ e. (
      number_of_new x y vs (let Q : List ℕ → Type 0 = λ z. number_among z vs ≡ length vs in subst Q (sym (same_name x y e)) new) e ∙ long,
      omega (arith, more, long),
    ))
    (λ e. still_numbered x y vs (declared x st.names) e (h x)))

-- where names are forgotten
forgotten_numbered : (x : List ℕ) (vs : List (List ℕ)) (k : ℕ) (ns : List Named) → IsNumberedBy x vs (declared x ns)
    → IsNumberedBy x vs (declared x (forgotten k ns))
forgotten_numbered x vs zero ns h = h
forgotten_numbered x vs (suc k) [] h = h
forgotten_numbered x vs (suc k) (n ∷ ns) h = by_name (bytes_eq x n.name) (λ i. forgotten_numbered x vs k ns i) h where
  by_name : (b : Bool) → (IsNumberedBy x vs (declared x ns) → IsNumberedBy x vs (declared x (forgotten k ns)))
      → IsNumberedBy x vs (cond b (Some n) (declared x ns))
      → IsNumberedBy x vs (cond b (Some (record n { is_known = false })) (declared x (forgotten k ns)))
  by_name true more i = i
  by_name false more i = more i

-- behind a block
pub numbered_closed : (before : ℕ) (st : State) → IsNumbered st → IsNumbered (closed before st)
numbered_closed before st h x = forgotten_numbered x (reverse st.variables) _ st.names (h x)
