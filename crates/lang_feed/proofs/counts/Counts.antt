-- What the spelling of a program counts.
use Rattle.std.proofs.Common.{◌≡◌, ◌∙◌, ◌++◌, ◌+◌, ℕ, zero, suc, List, [], ◌∷◌, refl, ap, arith}
use Rattle.lang_grammar.specs.Grammar.{replaces, minus_op, Prefix, negative, positive, negation, Kind, a_name, a_number, infix_sign}
use Rattle.lang_grammar.specs.Grammar.{left_paren, right_paren}
use Rattle.lang_grammar.specs.Grammar.{left_brace, right_brace, comma, semicolon, colon, change_sign, step_sign, int_word, main_word}
use Rattle.lang_grammar.specs.Grammar.{void_word, if_word}
use Rattle.lang_grammar.specs.Grammar.{else_word, while_word, return_word, demand_word, nondet_word, the_end, sign_of, Token, token, Expr}
use Rattle.lang_grammar.specs.Grammar.{number, variable, free}
use Rattle.lang_grammar.specs.Grammar.{grouped, prefixed, joined, spell_expr, Declarator, bare, given, Declarators, declares, declares_more}
use Rattle.lang_grammar.specs.Grammar.{spell_declarator}
use Rattle.lang_grammar.specs.Grammar.{spell_declarators, do_word, for_word, jump_word, Update, set, step_after, step_before, spell_update}
use Rattle.lang_grammar.specs.Grammar.{ForFirst, no_first}
use Rattle.lang_grammar.specs.Grammar.{declared_first, updated_first, spell_first, ForTest, no_test, given_test, spell_test, ForLast}
use Rattle.lang_grammar.specs.Grammar.{no_last, updated_last}
use Rattle.lang_grammar.specs.Grammar.{spell_last, Core, empty, block, if_alone, if_else, repeat, repeat_after, repeat_for, jumps, demands}
use Rattle.lang_grammar.specs.Grammar.{updates, Sub, labelled}
use Rattle.lang_grammar.specs.Grammar.{plain, Items, no_items, label, declaration, item, spell_core, spell_sub, spell_items, Parameters}
use Rattle.lang_grammar.specs.Grammar.{nothing, void_at}
use Rattle.lang_grammar.specs.Grammar.{spell_parameters, Return, no_return, returns, returns_minus, spell_return}
use Rattle.lang_meaning.specs.Walk.{declared_in, declared_before, declared_core, declared_sub, declared_items}
use Rattle.lang_feed.specs.Width.{total}

-- two lists of tokens in a row count what the first one counts and what the second one counts
pub total_append : (f : Kind → ℕ) (xs ys : List Token) → total f (xs ++ ys) ≡ total f xs + total f ys
total_append f [] ys = omega arith
total_append f (token k a ∷ xs) ys = omega (arith, total_append f xs ys)

-- so many times w
abbrev pub times : ℕ → ℕ → ℕ
times zero w = 0
times (suc n) w = w + times n w

times_add : (m n w : ℕ) → times (m + n) w ≡ times m w + times n w
times_add zero n w = let e : zero + n ≡ n = omega arith in ap (λ k. times k w) e ∙ (let f : times n w ≡ 0 + times n w = omega arith in f)
times_add (suc m) n w = let e : suc m + n ≡ suc (m + n) = omega arith in
    ap (λ k. times k w) e ∙ (let f : w + times (m + n) w ≡ (w + times m w) + times n w = omega (arith, times_add m n w) in f)

-- a kind of token that stands at no other place than in a declaration or at the end
abbrev pub IsPlain : Kind → Type 0
IsPlain comma = ⊥
IsPlain int_word = ⊥
IsPlain the_end = ⊥
IsPlain _ = Unit {0}

module _ (f : Kind → ℕ) (w : ℕ) (none : (k : Kind) → IsPlain k → f k ≡ 0) (a_comma : f comma ≡ w) (an_int : f int_word ≡ w) where
  sign_none : (p : Prefix) → f (sign_of p) ≡ 0
  sign_none negative = none _ tt
  sign_none positive = none _ tt
  sign_none negation = none _ tt

  -- an expression counts nothing
  pub expr_total : (e : Expr) → total f (spell_expr e) ≡ 0
  expr_total (number n a) = omega (arith, none (a_number n) tt)
  expr_total (variable x a) = omega (arith, none (a_name x) tt)
  expr_total (free a b c) = omega (arith, none nondet_word tt, none left_paren tt, none right_paren tt)
  expr_total (grouped a e b) = omega (
    arith,
    none left_paren tt,
    none right_paren tt,
    expr_total e,
    total_append f (spell_expr e) (token right_paren b ∷ []),
  )
  expr_total (prefixed p a e) = omega (arith, sign_none p, expr_total e)
  expr_total (joined e o a g) = omega (
    arith,
    expr_total e,
    none (infix_sign o) tt,
    expr_total g,
    total_append f (spell_expr e) (token (infix_sign o) a ∷ spell_expr g),
  )

  declarator_total : (x : Declarator) → total f (spell_declarator x) ≡ 0
  declarator_total (bare x a) = omega (arith, none (a_name x) tt)
  declarator_total (given x a b e) = omega (arith, none (a_name x) tt, none (change_sign replaces) tt, expr_total e)

  declarators_total : (xs : Declarators) → w + total f (spell_declarators xs) ≡ times (declared_in xs) w
  declarators_total (declares x a) = omega (
    arith,
    declarator_total x,
    none semicolon tt,
    total_append f (spell_declarator x) (token semicolon a ∷ []),
  )
  declarators_total (declares_more x a xs) = omega (
    arith,
    declarator_total x,
    a_comma,
    declarators_total xs,
    total_append f (spell_declarator x) (token comma a ∷ spell_declarators xs),
  )

  test_total : (k : Kind) (a b : ℕ) (e : Expr) (c : ℕ) (y : List Token) → f k ≡ 0
      → total f (token k a ∷ token left_paren b ∷ (spell_expr e ++ token right_paren c ∷ y)) ≡ total f y
  test_total k a b e c y h = omega (
    arith,
    h,
    none left_paren tt,
    none right_paren tt,
    expr_total e,
    total_append f (spell_expr e) (token right_paren c ∷ y),
  )

  update_total : (u : Update) → total f (spell_update u) ≡ 0
  update_total (set x a g b e) = omega (arith, none (a_name x) tt, none (change_sign g) tt, expr_total e)
  update_total (step_after x a g b) = omega (arith, none (a_name x) tt, none (step_sign g) tt)
  update_total (step_before g a x b) = omega (arith, none (a_name x) tt, none (step_sign g) tt)

  first_total : (y : ForFirst) → total f (spell_first y) ≡ times (declared_before y) w
  first_total (no_first a) = omega (arith, none semicolon tt)
  first_total (declared_first a xs) = omega (arith, an_int, declarators_total xs)
  first_total (updated_first u a) = omega (
    arith,
    update_total u,
    none semicolon tt,
    total_append f (spell_update u) (token semicolon a ∷ []),
  )

  tested_total : (t : ForTest) → total f (spell_test t) ≡ 0
  tested_total (no_test a) = omega (arith, none semicolon tt)
  tested_total (given_test e a) = omega (arith, expr_total e, none semicolon tt, total_append f (spell_expr e) (token semicolon a ∷ []))

  last_total : (l : ForLast) → total f (spell_last l) ≡ 0
  last_total (no_last a) = omega (arith, none right_paren tt)
  last_total (updated_last u a) = omega (
    arith,
    update_total u,
    none right_paren tt,
    total_append f (spell_update u) (token right_paren a ∷ []),
  )

  mutual
    core_total : (c : Core) → total f (spell_core c) ≡ times (declared_core c) w
    core_total (empty a) = omega (arith, none semicolon tt)
    core_total (block a is b) = omega (
      arith,
      none left_brace tt,
      none right_brace tt,
      items_total is,
      total_append f (spell_items is) (token right_brace b ∷ []),
    )
    core_total (if_alone a b e c s) = test_total if_word a b e c (spell_sub s) (none if_word tt) ∙ sub_total s
    core_total (if_else a b e c s d t) = test_total if_word a b e c (spell_sub s ++ token else_word d ∷ spell_sub t) (none if_word tt)
        ∙ omega (
          arith,
          none else_word tt,
          sub_total s,
          sub_total t,
          times_add (declared_sub s) (declared_sub t) w,
          total_append f (spell_sub s)
              (token else_word d ∷ spell_sub t),
        )
    core_total (repeat a b e c s) = test_total while_word a b e c (spell_sub s) (none while_word tt) ∙ sub_total s
    core_total (repeat_after a s b c e d i) =
        omega (
          arith,
          none do_word tt,
          none semicolon tt,
          sub_total s,
          test_total while_word b c e d (token semicolon i ∷ []) (none while_word tt),
          total_append f (spell_sub s) (token while_word b ∷ token left_paren c
              ∷ (spell_expr e ++ token right_paren d ∷ token semicolon i ∷ [])),
        )
    core_total (repeat_for a b y t l s) =
        omega (
          arith,
          none for_word tt,
          none left_paren tt,
          first_total y,
          tested_total t,
          last_total l,
          sub_total s,
          times_add (declared_before y) (declared_sub s) w,
          total_append f (spell_first y) (spell_test t ++ (spell_last l ++ spell_sub s)),
          total_append f (spell_test t) (spell_last l ++ spell_sub s),
          total_append f (spell_last l) (spell_sub s),
        )
    core_total (jumps j a b) = omega (arith, none (jump_word j) tt, none semicolon tt)
    core_total (demands k a b e c d) = test_total (demand_word k) a b e c (token semicolon d ∷ []) (none (demand_word k) tt)
        ∙ omega (arith, none semicolon tt)
    core_total (updates u c) = omega (arith, update_total u, none semicolon tt, total_append f (spell_update u) (token semicolon c ∷ []))

    sub_total : (s : Sub) → total f (spell_sub s) ≡ times (declared_sub s) w
    sub_total (labelled x a b s) = omega (arith, none (a_name x) tt, none colon tt, sub_total s)
    sub_total (plain c) = core_total c

    items_total : (is : Items) → total f (spell_items is) ≡ times (declared_items is) w
    items_total no_items = refl
    items_total (label x a b is) = omega (arith, none (a_name x) tt, none colon tt, items_total is)
    items_total (declaration a xs is) =
        omega (
          arith,
          an_int,
          declarators_total xs,
          items_total is,
          times_add (declared_in xs) (declared_items is) w,
          total_append f
              (spell_declarators xs) (spell_items is),
        )
    items_total (item c is) = omega (
      arith,
      core_total c,
      items_total is,
      times_add (declared_core c) (declared_items is) w,
      total_append f (spell_core c) (spell_items is),
    )

  parameters_total : (ps : Parameters) → total f (spell_parameters ps) ≡ 0
  parameters_total nothing = refl
  parameters_total (void_at a) = omega (arith, none void_word tt)

  return_total : (r : Return) → total f (spell_return r) ≡ 0
  return_total no_return = refl
  return_total (returns a n b c) = omega (arith, none return_word tt, none (a_number n) tt, none semicolon tt)
  return_total (returns_minus a b n c d) = omega (
    arith,
    none return_word tt,
    none (a_number n) tt,
    none semicolon tt,
    none (infix_sign minus_op) tt,
  )

  -- all of a program but its end
  abbrev pub front : ℕ → ℕ → ℕ → Parameters → ℕ → ℕ → Items → Return → ℕ → List Token
  front a b c ps d e is r g = token int_word a ∷ token main_word b ∷ token left_paren c ∷
      (spell_parameters ps ++ token right_paren d ∷ token left_brace e ∷ (spell_items is ++ (spell_return r ++ token right_brace g ∷ [])))

  -- all of a program but its end counts w, and w more for each variable that it declares
  pub front_total : (a b c : ℕ) (ps : Parameters) (d e : ℕ) (is : Items) (r : Return) (g : ℕ)
      → total f (front a b c ps d e is r g) ≡ w + times (declared_items is) w
  front_total a b c ps d e is r g =
      omega (
        arith,
        an_int,
        none main_word tt,
        none left_paren tt,
        none right_paren tt,
        none left_brace tt,
        none right_brace tt,
        parameters_total ps,
        items_total is,
        return_total r,
        total_append f (spell_parameters ps)
            (token right_paren d ∷ token left_brace e ∷ (spell_items is ++ (spell_return r ++ token right_brace g ∷ []))),
        total_append f (spell_items is)
            (spell_return r ++ token right_brace g ∷ []),
        total_append f (spell_return r) (token right_brace g ∷ []),
      )
