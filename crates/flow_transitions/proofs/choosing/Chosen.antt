-- The actions of one choice, act by act, as many as are kept.
use Rattle.std.proofs.Common.{◌≡◌, ◌∙◌, ℕ, zero, suc, ◌*◌, ◌<◌, ◌≤◌, ◌/◌, ◌%◌, List, [], ◌∷◌, ◌++◌, length, get_or, refl, sym, ap, subst}
use Rattle.std.proofs.Common.{⊎_elim, arith, length-append}
use Rattle.std.proofs.Common.{append_assoc}
use Rattle.std.proofs.lemmas.List.{append-nil, length-take, take_all, take-append-le}
use Rattle.std.proofs.lemmas.Bool.{cases_lt}
use Rattle.std.proofs.Math.Nat.{mul-div_cancel, mul_comm, zero-mul}
use Rattle.lang_tree.specs.Tree.{Statement, Statements, nil, cons}
use Rattle.flow_edges.specs.declared.edge.Action.{Action}
use Rattle.flow_edges.specs.Trails.{kept}
use Rattle.flow_edges.specs.declared.limits.TheConstants.{KEPT}
use Rattle.flow_transitions.specs.Choices.{choices_of, choices_in}
use Rattle.flow_transitions.proofs.choosing.Crossing.{length-crossing, get_or-crossing, quotient_below}

-- ---- numbers
-- a factor of a product above 0
factor_some : (a b : ℕ) → 0 < a * b → 0 < a
factor_some zero b h = omega (arith, zero-mul b)
factor_some (suc a) b h = omega arith

-- ---- kept actions
pub kept_short : (xs : List Action) → length (kept xs) ≤ KEPT
kept_short xs = omega (arith, length-take KEPT xs)

-- of actions that are few enough all are kept
pub kept_all : (xs : List Action) → length xs ≤ KEPT → kept xs ≡ xs
kept_all xs h = take_all KEPT xs h

-- what isn't kept already changes nothing
pub kept-append : (xs ys : List Action) → kept (kept xs ++ ys) ≡ kept (xs ++ ys)
kept-append xs ys =
    ⊎_elim
    (λ (h : KEPT < length xs).
    let l : KEPT ≤ length (kept xs) = omega (arith, length-take KEPT xs) in
    let m : KEPT ≤ length xs = omega arith in
    take-append-le KEPT (kept xs) ys l ∙ take_all KEPT (kept xs) (kept_short xs) ∙ sym (take-append-le KEPT xs ys m))
    (λ (h : length xs ≤ KEPT). ap (λ z. kept (z ++ ys)) (kept_all xs h))
    (cases_lt KEPT (length xs))

-- one more action, where there is room for it, and where there is none
pub added : (xs : List Action) (a : Action) (items : List Action) → length xs < KEPT → items ≡ xs ++ a ∷ [] → items ≡ kept (xs ++ a ∷ [])
added xs a items h e =
    let one : List Action = a ∷ [] in
    e ∙ sym (kept_all (xs ++ one) (omega (arith, length-append xs one)))

-- behind as many actions as are kept one more is not
pub left_out : (xs : List Action) (a : Action) → KEPT ≤ length xs → length xs ≤ KEPT → xs ≡ kept (xs ++ a ∷ [])
left_out xs a h k = sym (take-append-le KEPT xs (a ∷ []) h ∙ kept_all xs k)

-- ---- a choice as far as its acts have been done: what is left of it has a number below the number of choices that are left
pub record IsChosen (all : Statements) (whole : ℕ) (rest : Statements) (actions : List Action) (left number : ℕ) : Type 0 where
  -- the choices that are left are those of the acts that are left
  pub count : left ≡ length (choices_in rest)
  -- the number is that of one of them
  pub within : number < left
  -- no more actions have been done than are kept
  pub short : length actions ≤ KEPT
  -- with the actions of what is left they are, as far as they are kept, those of the whole choice
  pub same : kept (actions ++ get_or (choices_in rest) number []) ≡ kept (get_or (choices_in all) whole [])

-- before the first act the whole choice is left
pub chosen_none : (all : Statements) (whole count : ℕ) → count ≡ length (choices_in all) → whole < count
    → IsChosen all whole all [] count whole
chosen_none all whole count e l = record { count = e; within = l; short = omega arith; same = refl }

-- what one act leaves of the choices
pub record Parts (s : Statement) (rest : Statements) (left number n : ℕ) : Type 0 where
  -- the act itself has a choice
  pub some : 0 < n
  -- the quotient is the number of choices of the later acts
  pub later : left / n ≡ length (choices_in rest)
  -- these have a choice
  pub later_some : 0 < left / n
  -- the number of the act's own choice is within its choices
  pub first : number / (left / n) < n

-- the number of choices that are left is the act's own number times that of the later acts, and none of the two is 0
pub parts : (all : Statements) (whole : ℕ) (s : Statement) (rest : Statements) (actions : List Action) (left number n : ℕ)
    → n ≡ length (choices_of s) →
    IsChosen all whole (cons s rest) actions left number → Parts s rest left number n
parts all whole s rest actions left number n e c =
    let m = length (choices_in rest) in
    let total : left ≡ n * m = c.count ∙ length-crossing (choices_of s) (choices_in rest) ∙ ap (λ k. k * m) (sym e) in
    let some_left : 0 < n * m = omega (arith, c.within, total) in
    let n_some : 0 < n = factor_some n m some_left in
    let m_some : 0 < m = factor_some m n (subst (λ k. 0 < k) (mul_comm n m) some_left) in
    let later : left / n ≡ m = ap (λ k. k / n) (total ∙ mul_comm n m) ∙ mul-div_cancel m {n = n} n_some in
    record {
      some = n_some;
      later = later;
      later_some = subst (λ k. 0 < k) (sym later) m_some;
      first = subst (λ k. number / k < n) (sym later) (quotient_below number n m m_some (omega (arith, c.within, total)));
    }

-- one act more
pub chosen_more : (all : Statements) (whole : ℕ) (s : Statement) (rest : Statements) (actions after : List Action) (left number n : ℕ)
    → n ≡ length (choices_of s) →
    IsChosen all whole (cons s rest) actions left number → after ≡ kept (actions ++ get_or (choices_of s) (number / (left / n)) []) →
    IsChosen all whole rest after (left / n) (number % (left / n))
chosen_more all whole s rest actions after left number n e c f =
    let p = parts all whole s rest actions left number n e c in
    let m = length (choices_in rest) in
    let m_some : 0 < m = subst (λ k. 0 < k) p.later p.later_some in
    let i = number / m in
    let j = number % m in
    let first = get_or (choices_of s) i [] in
    let later = get_or (choices_in rest) j [] in
    let within : i < length (choices_of s) = subst (λ k. i < k) e (subst (λ k. number / k < n) p.later p.first) in
    let both : get_or (choices_in (cons s rest)) number [] ≡ first ++ later =
    get_or-crossing (choices_of s) (choices_in rest) number m_some within in
    let after_is : after ≡ kept (actions ++ first) = f ∙ ap (λ k. kept (actions ++ get_or (choices_of s) (number / k) [])) p.later in
    record {
      count = p.later;
      within = let h = p.later_some in omega arith;
      short = subst (λ z. length z ≤ KEPT) (sym after_is) (kept_short (actions ++ first));
      same =
          ap (λ k. kept (after ++ get_or (choices_in rest) (number % k) [])) p.later
          ∙ ap (λ z. kept (z ++ later)) after_is ∙ kept-append (actions ++ first) later
          ∙ ap kept (append_assoc actions first later ∙ ap (λ z. actions ++ z) (sym both)) ∙ c.same;
    }

-- all acts
pub chosen_all : (all : Statements) (whole : ℕ) (actions : List Action) (left number : ℕ) → IsChosen all whole nil actions left number →
    actions ≡ kept (get_or (choices_in all) whole [])
chosen_all all whole actions left number c =
    let zero_is : number ≡ 0 = omega (arith, c.within, c.count) in
    sym (kept_all actions c.short) ∙ sym (ap kept (append-nil actions))
    ∙ sym (ap (λ k. kept (actions ++ get_or (choices_in nil) k [])) zero_is) ∙ c.same
