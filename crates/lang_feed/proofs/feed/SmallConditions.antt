-- Conditions that are kept small mean the same: where one has more than 64 leaves, its statement is refused.
use Rattle.std.proofs.Common.{◌≡◌, ◌∙◌, ◌⊎◌, inl, inr, ◌+◌, ◌<◌, ℕ, pos, negsuc, Option, Some, subst, Bool, true, false, cond, nat_lt}
use Rattle.std.proofs.Common.{Result, Ok, Err, refl}
use Rattle.std.proofs.Common.{sym, ap, ap₂, arith}
use Rattle.std.proofs.lemmas.Bool.{lt-ltb, ltb-true}
use Rattle.lang_grammar.specs.Grammar.{Op, or_op, and_op, compare_op, plus_op, minus_op, times_op, Prefix, negative, positive, negation}
use Rattle.lang_grammar.specs.Grammar.{Change, replaces, adds}
use Rattle.lang_grammar.specs.Grammar.{subtracts, Expr, number, variable, free, grouped, prefixed, joined}
use Rattle.lang_tree.specs.Tree as tree
use Rattle.lang_tree.specs.Tree.{Condition, leaf_count}
use Rattle.lang_meaning.specs.declared.fault.ParseFault.{ParseFault}
use Rattle.lang_meaning.specs.declared.fault.ParseFault.TheVariants as fault
use Rattle.lang_meaning.specs.declared.fault.Limit.TheVariants.{Leaves}
use Rattle.lang_meaning.specs.Results.{◌>>=◌}
use Rattle.lang_meaning.specs.Forms.{constant_form, variable_form, plus, minus, scaled}
use Rattle.lang_tree.specs.declared.form.Form.{Form}
use Rattle.lang_meaning.specs.Walk.{Value, a_form, a_truth, a_nondet, State, known_number, number_of, as_condition, ranged, first_of}
use Rattle.lang_meaning.specs.Walk.{two_numbers, two_conditions}
use Rattle.lang_meaning.specs.Walk.{compared, product, combined, prefix_value, regarded, few_leaves, tested, right_side, assigned}
use Rattle.lang_meaning.specs.Walk.{walk_expr}
use Rattle.lang_meaning.specs.Feed.{grown, combined_small}

module _ (line : ℕ → ℕ) (width : ℕ) where
  -- the walk of an expression, its conditions kept small
  abbrev pub walk_small : State → Expr → Result Value ParseFault
  walk_small st (number n a) = ranged a (constant_form width (pos n)) >>= λ f. Ok (a_form f a)
  walk_small st (variable x a) = known_number x a st >>= λ i. Ok (a_form (variable_form width i (pos 0)) a)
  walk_small st (free a b c) = Ok (a_nondet a)
  walk_small st (grouped a e b) = walk_small st e >>= λ v. Ok (regarded a v)
  walk_small st (prefixed p a e) = walk_small st e >>= λ v. prefix_value p a v
  walk_small st (joined e o a f) = walk_small st e >>= λ v. walk_small st f >>= λ w. combined_small o a v w

-- ---- conditions and values that are the same, or both too large
abbrev SameCondition : Condition → Condition → Type 0
SameCondition c d = (c ≡ d) ⊎ ((64 < leaf_count c) × (64 < leaf_count d))

abbrev pub Same : Value → Value → Type 0
Same (a_form f a) w = a_form f a ≡ w
Same (a_nondet a) w = a_nondet a ≡ w
Same (a_truth c) (a_truth d) = SameCondition c d
Same (a_truth c) (a_form f a) = ⊥
Same (a_truth c) (a_nondet a) = ⊥

same_self : (v : Value) → Same v v
same_self (a_form f a) = refl
same_self (a_truth c) = inl refl
same_self (a_nondet a) = refl

same_path : (v w : Value) → v ≡ w → Same v w
same_path v w e = subst (λ (x : Value). Same v x) e (same_self v)

-- the same values, or the same fault
abbrev Alike : {A : Type 0} → (A → A → Type 0) → Result A ParseFault → Result A ParseFault → Type 0
Alike P (Ok x) (Ok y) = P x y
Alike P (Err e) (Err f) = e ≡ f
Alike P (Ok x) (Err f) = ⊥
Alike P (Err e) (Ok y) = ⊥

alike_bind : {A B : Type 0} (P : A → A → Type 0) (Q : B → B → Type 0) (r s : Result A ParseFault) (f g : A → Result B ParseFault)
    → Alike P r s
    → ((x y : A) → P x y → Alike Q (f x) (g y)) → Alike Q (r >>= f) (s >>= g)
alike_bind P Q (Ok x) (Ok y) f g h i = i x y h
alike_bind P Q (Err e) (Err k) f g h i = h
alike_bind P Q (Ok x) (Err k) f g h i = absurd h
alike_bind P Q (Err e) (Ok y) f g h i = absurd h

alike_self : {A : Type 0} (P : A → A → Type 0) → ((x : A) → P x x) → (r : Result A ParseFault) → Alike P r r
alike_self P h (Ok x) = h x
alike_self P h (Err e) = refl

condition_alike : (v w : Value) → Same v w → Alike SameCondition (as_condition v) (as_condition w)
condition_alike (a_form f a) w e = subst (λ (x : Value). Alike SameCondition (as_condition (a_form f a)) (as_condition x)) e
    (alike_self SameCondition (λ c. inl refl) (as_condition (a_form f a)))
condition_alike (a_nondet a) w e = subst (λ (x : Value). Alike SameCondition (as_condition (a_nondet a)) (as_condition x)) e (inl refl)
condition_alike (a_truth c) (a_truth d) e = e
condition_alike (a_truth c) (a_form f a) e = absurd e
condition_alike (a_truth c) (a_nondet a) e = absurd e

number_same : (s : ℕ) (v w : Value) → Same v w → number_of s v ≡ number_of s w
number_same s (a_form f a) w e = ap (number_of s) e
number_same s (a_nondet a) w e = ap (number_of s) e
number_same s (a_truth c) (a_truth d) e = refl
number_same s (a_truth c) (a_form f a) e = absurd e
number_same s (a_truth c) (a_nondet a) e = absurd e

abbrev Pair : Condition × Condition → Condition × Condition → Type 0
Pair p q = SameCondition p.0 q.0 × SameCondition p.1 q.1

conditions_alike : (v v2 w w2 : Value) → Same v v2 → Same w w2 → Alike Pair (two_conditions v w) (two_conditions v2 w2)
conditions_alike v v2 w w2 h i = alike_bind SameCondition Pair (as_condition v) (as_condition v2) _ _ (condition_alike v v2 h)
    (λ c d k. alike_bind SameCondition Pair (as_condition w) (as_condition w2) _ _ (condition_alike w w2 i) (λ x y l. (k, l)))

-- joined by `join`, which has the leaves of both
module _ (join : Condition → Condition → Condition) (leaves : (c d : Condition) → leaf_count (join c d) ≡ leaf_count c + leaf_count d) where
  grown_as : (b : Bool) (c d : Condition) → nat_lt 64 (leaf_count c) ≡ b → grown join c d ≡ cond b c (join c d)
  grown_as b c d e = ap (λ (x : Bool). cond x c (join c d)) e

  joined_big : (c d c2 d2 : Condition) → 64 < leaf_count c → 64 < leaf_count c2 → SameCondition (join c d) (grown join c2 d2)
  joined_big c d c2 d2 h i = inr (
    omega (arith, leaves c d),
    subst (λ (x : Condition). 64 < leaf_count x)
        (sym (grown_as true c2 d2 (lt-ltb 64 (leaf_count c2) i))) i,
  )

  joined_small : (c d d2 : Condition) → SameCondition d d2 → (b : Bool) → nat_lt 64 (leaf_count c) ≡ b
      → SameCondition (join c d) (grown join c d2)
  joined_small c d d2 k true e = joined_big c d c d2 (ltb-true 64 (leaf_count c) e) (ltb-true 64 (leaf_count c) e)
  joined_small c d d2 (inl k) false e = inl (ap (join c) k ∙ sym (grown_as false c d2 e))
  joined_small c d d2 (inr k) false e = inr (
    omega (arith, leaves c d, k.0),
    subst (λ (x : Condition). 64 < leaf_count x) (sym (grown_as false c d2 e)) (omega (arith, leaves c d2, k.1)),
  )

  joined_same : (c d c2 d2 : Condition) → SameCondition c c2 → SameCondition d d2 → SameCondition (join c d) (grown join c2 d2)
  joined_same c d c2 d2 (inl h) k = subst (λ (x : Condition). SameCondition (join c d) (grown join x d2)) h
      (joined_small c d d2 k (nat_lt 64 (leaf_count c)) refl)
  joined_same c d c2 d2 (inr h) k = joined_big c d c2 d2 h.0 h.1

same_results : (r s : Result Value ParseFault) → r ≡ s → Alike Same r s
same_results r s e = subst (λ (x : Result Value ParseFault). Alike Same r x) e (alike_self Same same_self r)

-- what asks for numbers sees no difference
numbers_same : (a : ℕ) (v v2 w w2 : Value) → Same v v2 → Same w w2 → two_numbers a v w ≡ two_numbers a v2 w2
numbers_same a v v2 w w2 h i = ap₂ (λ (r s : Result Form ParseFault). r >>= λ f. s >>= λ g. Ok (f, g)) (number_same a v v2 h)
    (number_same a w w2 i)

first_same : (a : ℕ) (v v2 : Value) → Same v v2 → first_of a v ≡ first_of a v2
first_same a (a_form f b) w e = ap (first_of a) e
first_same a (a_nondet b) w e = ap (first_of a) e
first_same a (a_truth c) (a_truth d) e = refl
first_same a (a_truth c) (a_form f b) e = absurd e
first_same a (a_truth c) (a_nondet b) e = absurd e

combined_alike : (o : Op) (a : ℕ) (v v2 w w2 : Value) → Same v v2 → Same w w2 → Alike Same (combined o a v w) (combined_small o a v2 w2)
combined_alike or_op a v v2 w w2 h i = alike_bind Pair Same (two_conditions v w) (two_conditions v2 w2) _ _ (conditions_alike v v2 w w2 h i)
    (λ p q k. joined_same tree.either (λ c d. refl) p.0 p.1 q.0 q.1 k.0 k.1)
combined_alike and_op a v v2 w w2 h i = alike_bind Pair Same (two_conditions v w) (two_conditions v2 w2) _ _
    (conditions_alike v v2 w w2 h i)
    (λ p q k. joined_same tree.both (λ c d. refl) p.0 p.1 q.0 q.1 k.0 k.1)
combined_alike (compare_op r) a v v2 w w2 h i = same_results _ _ (ap (λ (x : Result (Form × Form) ParseFault). x
    >>= λ p. compared r a p.0 p.1) (numbers_same a v v2 w w2 h i))
combined_alike plus_op a v v2 w w2 h i =
    same_results _ _ (ap₂ (λ (x : Result (Form × Form) ParseFault) (n : ℕ). x >>= λ p. ranged a (plus p.0 p.1) >>= λ f. Ok (a_form f n))
    (numbers_same a v v2 w w2 h i) (first_same a v v2 h))
combined_alike minus_op a v v2 w w2 h i =
    same_results _ _ (ap₂ (λ (x : Result (Form × Form) ParseFault) (n : ℕ). x >>= λ p. ranged a (minus p.0 p.1) >>= λ f. Ok (a_form f n))
    (numbers_same a v v2 w w2 h i) (first_same a v v2 h))
combined_alike times_op a v v2 w w2 h i =
    same_results _ _ (ap₂ (λ (x : Result (Form × Form) ParseFault) (n : ℕ). x >>= λ p. product a p.0 p.1 >>= λ f. Ok (a_form f n))
    (numbers_same a v v2 w w2 h i) (first_same a v v2 h))

opposite_same : (c d : Condition) → SameCondition c d → SameCondition (tree.negation c) (tree.negation d)
opposite_same c d (inl e) = inl (ap tree.negation e)
opposite_same c d (inr h) = inr h

prefix_alike : (p : Prefix) (a : ℕ) (v w : Value) → Same v w → Alike Same (prefix_value p a v) (prefix_value p a w)
prefix_alike negative a v w h = same_results _ _ (ap (λ (x : Result Form ParseFault). x >>= λ f. ranged a (scaled (negsuc 0) f)
    >>= λ g. Ok (a_form g a)) (number_same a v w h))
prefix_alike positive a v w h = same_results _ _ (ap (λ (x : Result Form ParseFault). x >>= λ f. Ok (a_form f a)) (number_same a v w h))
prefix_alike negation a v w h = alike_bind SameCondition Same (as_condition v) (as_condition w) _ _ (condition_alike v w h)
    (λ c d k. opposite_same c d k)

regarded_same : (a : ℕ) (v w : Value) → Same v w → Same (regarded a v) (regarded a w)
regarded_same a (a_form f b) w e = same_path (a_form f a) (regarded a w) (ap (regarded a) e)
regarded_same a (a_nondet b) w e = same_path (a_nondet b) (regarded a w) (ap (regarded a) e)
regarded_same a (a_truth c) (a_truth d) e = e
regarded_same a (a_truth c) (a_form f b) e = absurd e
regarded_same a (a_truth c) (a_nondet b) e = absurd e

module _ (line : ℕ → ℕ) (width : ℕ) where
  small_alike : (st : State) (e : Expr) → Alike Same (walk_expr line width st e) (walk_small line width st e)
  small_alike st (number n a) = alike_self Same same_self (ranged a (constant_form width (pos n)) >>= λ f. Ok (a_form f a))
  small_alike st (variable x a) = alike_self Same same_self (known_number x a st >>= λ i. Ok (a_form (variable_form width i (pos 0)) a))
  small_alike st (free a b c) = refl
  small_alike st (grouped a e b) = alike_bind Same Same (walk_expr line width st e) (walk_small line width st e) _ _ (small_alike st e)
      (λ v w h. regarded_same a v w h)
  small_alike st (prefixed p a e) = alike_bind Same Same (walk_expr line width st e) (walk_small line width st e) _ _ (small_alike st e)
      (λ v w h. prefix_alike p a v w h)
  small_alike st (joined e o a f) = alike_bind Same Same (walk_expr line width st e) (walk_small line width st e) _ _ (small_alike st e)
      (λ v v2 h. alike_bind Same Same (walk_expr line width st f) (walk_small line width st f) _ _ (small_alike st f)
      (λ w w2 i. combined_alike o a v v2 w w2 h i))

  -- what sees no difference
  abbrev pub Respects : {B : Type 0} → (Value → Result B ParseFault) → Type 0
  Respects f = (v w : Value) → Same v w → f v ≡ f w

  bind_alike : {B : Type 0} (r s : Result Value ParseFault) (f : Value → Result B ParseFault) → Alike Same r s → Respects f
      → r >>= f ≡ s >>= f
  bind_alike (Ok v) (Ok w) f h i = i v w h
  bind_alike (Err e) (Err k) f h i = ap Err h
  bind_alike (Ok v) (Err k) f h i = absurd h
  bind_alike (Err e) (Ok w) f h i = absurd h

  -- The walk goes on the same after a small one.
  pub small_then : {B C : Type 0} (st : State) (e : Expr) (f : Value → Result B ParseFault) (g : B → Result C ParseFault) → Respects f
      → (walk_small line width st e >>= f) >>= g ≡ (walk_expr line width st e >>= f) >>= g
  small_then st e f g h = ap (λ (r : Result _ ParseFault). r >>= g) (sym
      (bind_alike (walk_expr line width st e) (walk_small line width st e) f (small_alike st e) h))

  -- two conditions that are the same, or both have more than 64 leaves, are as conditions of a statement the same, or the same fault
  pub few_same : (a : ℕ) (c d : Condition) → SameCondition c d → few_leaves a c ≡ few_leaves a d
  few_same a c d (inl e) = ap (few_leaves a) e
  few_same a c d (inr h) = too_many a c h.0 ∙ sym (too_many a d h.1) where
    too_many : (a : ℕ) (c : Condition) → 64 < leaf_count c → few_leaves a c ≡ Err (fault.Limit a Leaves)
    too_many a c h = ap (λ (b : Bool). cond b (Err (fault.Limit a Leaves)) (Ok c)) (lt-ltb 64 (leaf_count c) h)

  -- two values that are the same, or conditions that both have too many leaves, make the same condition of a statement, or the same fault
  pub tested_same : (a : ℕ) (v w : Value) → Same v w → tested a v ≡ tested a w
  tested_same a v w h = by_alike (as_condition v) (as_condition w) (condition_alike v w h) where
    by_alike : (r s : Result Condition ParseFault) → Alike SameCondition r s → r >>= (λ c. few_leaves a c) ≡ s >>= (λ c. few_leaves a c)
    by_alike (Ok c) (Ok d) k = few_same a c d k
    by_alike (Err e) (Err k) l = ap Err l
    by_alike (Ok c) (Err k) l = absurd l
    by_alike (Err e) (Ok d) l = absurd l

  side_same : (s : ℕ) (v w : Value) → Same v w → right_side s v ≡ right_side s w
  side_same s (a_form f a) w e = ap (right_side s) e
  side_same s (a_nondet a) w e = ap (right_side s) e
  side_same s (a_truth c) (a_truth d) e = refl
  side_same s (a_truth c) (a_form f a) e = absurd e
  side_same s (a_truth c) (a_nondet a) e = absurd e

  assigned_same : (g : Change) (i s : ℕ) (v w : Value) → Same v w → assigned width g i s v ≡ assigned width g i s w
  assigned_same replaces i s v w h = side_same s v w h
  assigned_same adds i s v w h = ap (λ (r : Result Form ParseFault). r >>= λ f. ranged s (plus (variable_form width i (pos 0)) f)
      >>= λ k. Ok (Some k)) (number_same s v w h)
  assigned_same subtracts i s v w h = ap (λ (r : Result Form ParseFault). r >>= λ f. ranged s (minus (variable_form width i (pos 0)) f)
      >>= λ k. Ok (Some k)) (number_same s v w h)

  -- what a statement makes of an expression sees no difference
  pub test_respects : {B : Type 0} (a : ℕ) (g : Condition → Result B ParseFault) → Respects (λ v. tested a v >>= λ x. g x)
  test_respects a g v w h = ap (λ (r : Result Condition ParseFault). r >>= λ x. g x) (tested_same a v w h)

  -- nor does what is made of it as the right side of `=`
  pub side_respects : {B : Type 0} (s : ℕ) (g : Option Form → Result B ParseFault) → Respects (λ v. right_side s v >>= λ o. g o)
  side_respects s g v w h = ap (λ (r : Result (Option Form) ParseFault). r >>= λ o. g o) (side_same s v w h)

  -- nor does what is made of an assignment of it
  pub assigned_respects : {B : Type 0} (c : Change) (i s : ℕ) (g : Option Form → Result B ParseFault)
      → Respects (λ v. assigned width c i s v >>= λ o. g o)
  assigned_respects c i s g v w h = ap (λ (r : Result (Option Form) ParseFault). r >>= λ o. g o) (assigned_same c i s v w h)
