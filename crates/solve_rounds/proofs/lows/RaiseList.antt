-- The steps of a growth as raises, and the unknowns that they raised to fractions.
use Rattle.std.proofs.Common.{◌≡◌, ◌∙◌, ◌⊎◌, inl, inr, ⊎_elim, ℕ, zero, suc, ◌+◌, ◌*◌, ◌/◌, ◌%◌, ◌<◌, ◌≤◌, ◌||◌, Bool, true, false}
use Rattle.std.proofs.Common.{true≢false, cond, List, [], ◌∷◌, ◌++◌, length, get_or, map, refl, sym, ap, ap₂, arith, mul-le-mul_right}
use Rattle.std.specs.Prelude.{Option}
use Rattle.std.specs.List.{range_with_len, filter, list_any}
use Rattle.std.proofs.lemmas.Bool.{cases_lt}
use Rattle.std.proofs.lemmas.Nat.{div-add-mod'}
use Rattle.base_facts.specs.Elements.{In}
use Rattle.flow_systems.specs.declared.system.System.{System}
use Rattle.theory_validity.specs.Steps.{Item}
use Rattle.cert_types.specs.declared.step.Step.{Step as CodeStep}
use Rattle.cert_types.specs.declared.step.Step.TheVariants.{Plain, Jump, Ray}
use Rattle.cert_types.specs.Certificates.{step_of}
use Rattle.theory_strategy.specs.Growth.{items_of}
use Rattle.theory_transformers.specs.Parts.{LowerThanAll, IsRising}
use Rattle.solve_joint.specs.Numbers.{Rises, listed_of, all_listed}
use Rattle.solve_rounds.specs.Lows.{IsFilled, item_in}

-- ---- lists
pub any_true : {A : Type 0} (f : A → Bool) (xs : List A) → list_any f xs ≡ true → (x : A) × In xs x × (f x ≡ true)
any_true {A} f [] e = absurd (true≢false (sym e))
any_true {A} f (x ∷ xs) e = by (f x) refl e (λ h. any_true f xs h)
  where
    by : (b : Bool) → f x ≡ b → b || list_any f xs ≡ true → (list_any f xs ≡ true → (y : A) × In xs y × (f y ≡ true))
        → (y : A) × In (x ∷ xs) y × (f y ≡ true)
    by true h i rec = (x, inl refl, h)
    by false h i rec = let r = rec i in (r.0, inr r.1, r.2)

-- a list with an element that passes a test has some that does
pub true_any : {A : Type 0} (f : A → Bool) (xs : List A) (x : A) → In xs x → f x ≡ true → list_any f xs ≡ true
true_any f [] x m e = absurd m
true_any f (y ∷ xs) x m e = by (f y) refl m (λ k. true_any f xs x k e)
  where
    by : (b : Bool) → f y ≡ b → (y ≡ x) ⊎ In xs x → (In xs x → list_any f xs ≡ true) → b || list_any f xs ≡ true
    by true h i rec = refl
    by false h (inl i) rec = absurd (true≢false (sym e ∙ ap f (sym i) ∙ h))
    by false h (inr k) rec = rec k

-- an element of a filtered list passes the test
pub passes_test : (test : ℕ → Bool) (list : List ℕ) (u : ℕ) → In (filter test list) u → test u ≡ true
passes_test test [] u m = absurd m
passes_test test (v ∷ list) u m = by (test v) refl m (λ k. passes_test test list u k)
  where
    by : (b : Bool) → test v ≡ b → In (cond b (v ∷ filter test list) (filter test list)) u → (In (filter test list) u → test u ≡ true)
        → test u ≡ true
    by true h i rec = ⊎_elim (λ e. ap test (sym e) ∙ h) (λ k. rec k) i
    by false h i rec = rec i

-- an element that passes the test is in the filtered list
pub to_filter : (test : ℕ → Bool) (list : List ℕ) (u : ℕ) → In list u → test u ≡ true → In (filter test list) u
to_filter test [] u m e = absurd m
to_filter test (v ∷ list) u m e = by (test v) refl m (λ k. to_filter test list u k e)
  where
    by : (b : Bool) → test v ≡ b → (v ≡ u) ⊎ In list u → (In list u → In (filter test list) u)
        → In (cond b (v ∷ filter test list) (filter test list)) u
    by true h (inl i) rec = inl i
    by true h (inr k) rec = inr (rec k)
    by false h (inl i) rec = absurd (true≢false (sym e ∙ ap test (sym i) ∙ h))
    by false h (inr k) rec = rec k

-- an element of a range is below the range's end
pub of_range : (a n u : ℕ) → In (range_with_len a n) u → u < a + n
of_range a zero u m = absurd m
of_range a (suc n) u m = ⊎_elim (λ e. omega arith) (λ j. let h = of_range (a + 1) n u j in omega arith) m

-- a range rises
pub range_rises : (a n : ℕ) → Rises a (range_with_len a n)
range_rises a zero = tt
range_rises a (suc n) = (omega arith, range_rises (a + 1) n)

-- numbers in order are unknowns in order
lower_numbers : (rows u v : ℕ) → 0 < rows → u < v → (v % rows < rows) →
    (u / rows < v / rows) ⊎ ((u / rows ≡ v / rows) × (u % rows < v % rows))
lower_numbers rows u v some l m = by (cases_lt (u / rows) (v / rows)) (cases_lt (v / rows) (u / rows))
  where
    by : (u / rows < v / rows) ⊎ (v / rows ≤ u / rows) → (v / rows < u / rows) ⊎ (u / rows ≤ v / rows)
        → (u / rows < v / rows) ⊎ ((u / rows ≡ v / rows) × (u % rows < v % rows))
    by (inl h) o = inl h
    by (inr h) (inl k) =
        let a = div-add-mod' u rows in
        let b = div-add-mod' v rows in
        let c : (v / rows + 1) * rows ≤ u / rows * rows = mul-le-mul_right rows (omega arith) in
        let d : (v / rows + 1) * rows ≡ v / rows * rows + rows = omega arith in
        absurd (omega arith)
    by (inr h) (inr k) =
        let e : u / rows ≡ v / rows = omega arith in
        let a = div-add-mod' u rows in
        let b = div-add-mod' v rows in
        let f = ap (λ n. n * rows) e in
        inr (e, omega arith)

lower_all : (system : System) (pick : List (Option ℕ)) (u n : ℕ) (list : List ℕ) → 0 < length system.template → u < n → Rises n list
    → ((k : ℕ) → k < length list → get_or list k 0 % length system.template < length system.template) →
    LowerThanAll (listed_of (length system.template) pick u) (all_listed system pick list)
lower_all system pick u n [] some l h within = tt
lower_all system pick u n (v ∷ list) some l h within = (
  lower_numbers (length system.template) u v some (let a = h.0 in omega arith) (within 0 (omega arith)),
  lower_all system pick u (v + 1) list some (let a = h.0 in omega arith) h.1 (λ k m. within (suc k) (omega arith)),
)

-- the unknowns of a rising list of numbers rise
pub rises_listed : (system : System) (pick : List (Option ℕ)) (n : ℕ) (list : List ℕ) → Rises n list
    → ((k : ℕ) → k < length list → get_or list k 0 % length system.template < length system.template)
    → IsRising (all_listed system pick list)
rises_listed system pick n [] h within = tt
rises_listed system pick n (u ∷ list) h within = (
  lower_all system pick u (u + 1) list (let a = within 0 (omega arith) in omega arith) (omega arith) h.1
      (λ k m. within (suc k) (omega arith)),
  rises_listed system pick (u + 1) list h.1 (λ k m. within (suc k) (omega arith)),
)

-- ---- steps of one item
pub one_item : (rows : ℕ) (s : CodeStep) (item : Item) → (step_of rows s).items ≡ item ∷ []
    → IsFilled s × ((step_of rows s).items ≡ item_in rows s ∷ [])
one_item rows (Plain []) item e = cc
one_item rows (Plain (i ∷ [])) item e = (omega arith, refl)
one_item rows (Plain (i ∷ (j ∷ is))) item e = let l = ap length e in absurd (omega arith)
one_item rows (Jump []) item e = cc
one_item rows (Jump (i ∷ [])) item e = (omega arith, refl)
one_item rows (Jump (i ∷ (j ∷ is))) item e = let l = ap length e in absurd (omega arith)
one_item rows (Ray []) item e = cc
one_item rows (Ray (i ∷ [])) item e = (omega arith, refl)
one_item rows (Ray (i ∷ (j ∷ is))) item e = let l = ap length e in absurd (omega arith)

-- the items of steps with one item each are those items in order
pub items_map : (rows : ℕ) (ss : List CodeStep) → ((s : CodeStep) → In ss s → (step_of rows s).items ≡ item_in rows s ∷ [])
    → items_of (map (step_of rows) ss) ≡ map (item_in rows) ss
unfolding items_of
items_map rows [] h = refl
items_map rows (s ∷ ss) h = ap₂ (λ x y. x ++ y) (h s (inl refl)) (items_map rows ss (λ t m. h t (inr m)))
