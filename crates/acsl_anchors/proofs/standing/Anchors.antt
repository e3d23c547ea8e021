-- Where tokens stand in order, so do the anchors of what they spell.
use Rattle.std.proofs.Common.{◌≤◌, ◌+◌, ◌++◌, ◌∷◌, ℕ, true, false, cond, List, [], refl, sym, arith, append_assoc}
use Rattle.source_grammar.specs.Tokens.{else_word, if_word, while_word, left_paren, right_paren, right_brace, left_brace, semicolon, Token}
use Rattle.source_grammar.specs.Tokens.{token}
use Rattle.source_grammar.specs.Expressions.{spell_optional, spell_updates}
use Rattle.source_grammar.specs.Grammar.{spell_expr, spell_declarators, spell_first, spell_specifiers}
use Rattle.source_grammar.specs.Grammar.{spell_function_name, spell_parameters, Function, function, spell}
use Rattle.source_grammar.specs.Grammar.{Core, empty, block, if_alone, if_else, repeat, repeat_after, repeat_for, jumps, returns, demands}
use Rattle.source_grammar.specs.Grammar.{calls, updates, spell_core, Sub, labelled, plain, Items, no_items, label, declaration, item}
use Rattle.source_grammar.specs.Grammar.{spell_sub, spell_items, spell_type}
use Rattle.acsl_anchors.specs.Anchors.{has_step}
use Rattle.acsl_anchors.specs.Anchors.{Anchor, Scope, no_scope, end_behind, end_at, scope_declarators, scope_first, scope_core, scope_sub}
use Rattle.acsl_anchors.specs.Anchors.{scope_items, scope_parameters, anchors_core, anchors_sub, anchors_items, anchors_of}
use Rattle.acsl_anchors.proofs.standing.Ranges.{Standing, Placed, in_order, split, wider, one_after_another, headed}

module _ (P : ℕ → Type 0) where
  mutual
    -- the anchors of a statement
    core_placed : (c : Core) (s : Scope) (from to : ℕ) → Standing P from (spell_core c) to → Placed P from (anchors_core c s) to
    core_placed (empty a) s from to h = in_order P (spell_core (empty a)) from to h
    core_placed (block a is b) s from to h =
        let p = split P (spell_items is) (token right_brace b ∷ []) (a + 1) to h.2 in
        wider P (anchors_items is s) from (a + 1) p.between to (omega (arith, h.0))
        (in_order P (token right_brace b ∷ []) p.between to p.right) (items_placed is s (a + 1) p.between p.left)
    core_placed (if_alone a b e c body) s from to h =
        let t = headed P if_word a b e c (spell_sub body) from to h in
        wider P (anchors_sub body s) from (c + 1) to to (omega (arith, t.after, t.before)) (omega arith)
        (sub_placed body s (c + 1) to t.rest)
    core_placed (if_else a b e c first d second) s from to h =
        let t = headed P if_word a b e c (spell_sub first ++ token else_word d ∷ spell_sub second) from to h in
        let p = split P (spell_sub first) (token else_word d ∷ spell_sub second) (c + 1) to t.rest in
        one_after_another P (anchors_sub first s) (anchors_sub second (scope_sub first s)) from p.between to
        (wider P (anchors_sub first s) from (c + 1) p.between p.between (omega (arith, t.after, t.before)) (omega arith)
        (sub_placed first s (c + 1) p.between p.left))
        (wider P (anchors_sub second (scope_sub first s)) p.between (d + 1) to to (omega (arith, p.right.0)) (omega arith)
        (sub_placed second (scope_sub first s) (d + 1) to p.right.2))
    core_placed (repeat a b e c body) s from to h =
        let t = headed P while_word a b e c (spell_sub body) from to h in (
          t.after,
          t.held.begin refl,
          wider P (anchors_sub body s) a (c + 1) to to (omega (arith, t.before)) (omega arith)
              (sub_placed body s (c + 1) to t.rest),
        )
    core_placed (repeat_after a body b c e d i) s from to h =
        let p = split P (spell_sub body) (token while_word b ∷ token left_paren c
        ∷ (spell_expr e ++ token right_paren d ∷ token semicolon i ∷ [])) (a + 1) to h.2 in (
          h.0,
          h.1.begin refl,
          wider P (anchors_sub body s) a (a + 1) p.between to (omega arith)
              (in_order P (token while_word b ∷ token left_paren c ∷ (spell_expr e ++ token right_paren d ∷ token semicolon i ∷ []))
              p.between
              to p.right) (sub_placed body s (a + 1) p.between p.left),
        )
    core_placed (repeat_for a b f c t d us i body) s from to h =
        let p = split P (spell_first f) (token semicolon c ∷ (spell_optional t ++ token semicolon d ∷ (spell_updates us
        ++ token right_paren i ∷ spell_sub body))) (b + 1) to h.2.2 in
        let q = split P (spell_optional t) (token semicolon d ∷ (spell_updates us ++ token right_paren i ∷ spell_sub body)) (c + 1) to
        p.right.2 in
        let r = split P (spell_updates us) (token right_paren i ∷ spell_sub body) (d + 1) to q.right.2 in
        let low : a ≤ i + 1 = omega (
          arith,
          h.2.0,
          in_order P (spell_first f) (b + 1) p.between p.left,
          p.right.0,
          in_order P (spell_optional t) (c + 1) q.between q.left,
          q.right.0,
          in_order P (spell_updates us) (d + 1) r.between r.left,
          r.right.0,
        ) in (
          h.0,
          h.1.begin refl,
          wider P (anchors_sub body (scope_first f s)) a (i + 1) to to low (omega arith)
              (sub_placed body (scope_first f s) (i + 1) to r.right.2),
        )
    core_placed (jumps j a b) s from to h = in_order P (spell_core (jumps j a b)) from to h
    core_placed (returns a t b) s from to h = in_order P (spell_core (returns a t b)) from to h
    core_placed (demands k a b e c d) s from to h = in_order P (spell_core (demands k a b e c d)) from to h
    core_placed (calls x a b es c d) s from to h = in_order P (spell_core (calls x a b es c d)) from to h
    core_placed (updates u c) s from to h = in_order P (spell_core (updates u c)) from to h

    -- under a loop, an `if` or a label
    sub_placed : (b : Sub) (s : Scope) (from to : ℕ) → Standing P from (spell_sub b) to → Placed P from (anchors_sub b s) to
    sub_placed (labelled x a b body) s from to h = (omega (arith, h.0, h.2.0), h.2.1.behind refl, sub_placed body s (b + 1) to h.2.2)
    sub_placed (plain c) s from to h = core_placed c s from to h

    -- of statements in a row
    items_placed : (is : Items) (s : Scope) (from to : ℕ) → Standing P from (spell_items is) to → Placed P from (anchors_items is s) to
    items_placed no_items s from to h = h
    items_placed (label x a b is) s from to h = (omega (arith, h.0, h.2.0), h.2.1.behind refl, items_placed is s (b + 1) to h.2.2)
    items_placed (declaration t xs b is) s from to h =
        let q = split P (spell_type t) (spell_declarators xs ++ token semicolon b ∷ spell_items is) from to h in
        let p = split P (spell_declarators xs) (token semicolon b ∷ spell_items is) q.between to q.right in
        wider P (anchors_items is (scope_declarators xs s)) from (b + 1) to to
        (omega (
          arith,
          in_order P (spell_type t) from q.between q.left,
          in_order P (spell_declarators xs) q.between p.between p.left,
          p.right.0,
        )) (omega arith)
        (items_placed is (scope_declarators xs s) (b + 1) to p.right.2)
    items_placed (item c is) s from to h =
        let p = split P (spell_core c) (spell_items is) from to h in
        one_after_another P (anchors_core c s) (anchors_items is (scope_core c s)) from p.between to (core_placed c s from p.between p.left)
        (items_placed is (scope_core c s) p.between to p.right)

  -- the anchors of a statement of the body, and then those behind it
  item_placed : (c : Core) (is : Items) (d e : ℕ) (s : Scope) (from to : ℕ)
      → Standing P from ((spell_core c ++ spell_items is) ++ token right_brace d ∷ []) (to + 1)
      → ((between : ℕ) → Standing P between (spell_items is ++ token right_brace d ∷ []) (to + 1)
      → Placed P between (anchors_items is (scope_core c s) ++ end_at e (scope_items is (scope_core c s)) ∷ []) to)
      → Placed P from ((anchors_core c s ++ anchors_items is (scope_core c s)) ++ end_at e (scope_items is (scope_core c s)) ∷ []) to
  item_placed c is d e s from to h k =
      let last : List Anchor = end_at e (scope_items is (scope_core c s)) ∷ [] in
      let p = split P (spell_core c) (spell_items is ++ token right_brace d ∷ []) from (to + 1)
      (rw (sym (append_assoc (spell_core c) (spell_items is) (token right_brace d ∷ []))) h) in
      rw (append_assoc (anchors_core c s) (anchors_items is (scope_core c s)) last)
      (one_after_another P (anchors_core c s) (anchors_items is (scope_core c s) ++ last) from p.between to
      (core_placed c s from p.between p.left) (k p.between p.right))

  -- the anchors of a body, with its end
  body_placed : (is : Items) (d : ℕ) (s : Scope) (from to : ℕ) → Standing P from (spell_items is ++ token right_brace d ∷ []) (to + 1)
      → Placed P from (anchors_items is s ++ end_at (end_behind d is d) (scope_items is s) ∷ []) to
  body_placed no_items d s from to h = (h.0, h.1.begin refl, omega (arith, h.2))
  body_placed (label x a b is) d s from to h = (omega (arith, h.0, h.2.0), h.2.1.behind refl, body_placed is d s (b + 1) to h.2.2)
  body_placed (declaration t xs b is) d s from to h =
      let last : List Token = token right_brace d ∷ [] in
      let q = split P (spell_type t) ((spell_declarators xs ++ token semicolon b ∷ spell_items is) ++ last) from (to + 1)
      (rw (sym (append_assoc (spell_type t) (spell_declarators xs ++ token semicolon b ∷ spell_items is) last)) h) in
      let p = split P (spell_declarators xs) (token semicolon b ∷ (spell_items is ++ last)) q.between (to + 1)
      (rw (sym (append_assoc (spell_declarators xs) (token semicolon b ∷ spell_items is) last)) q.right) in
      let after = scope_declarators xs s in
      wider P (anchors_items is after ++ end_at (end_behind d is d) (scope_items is after) ∷ []) from (b + 1) to to
      (omega (
        arith,
        in_order P (spell_type t) from q.between q.left,
        in_order P (spell_declarators xs) q.between p.between p.left,
        p.right.0,
      )) (omega arith)
      (body_placed is d after (b + 1) to p.right.2)
  body_placed (item (returns a t b) no_items) d s from to h =
      elim (has_step t) as (λ v. Placed P from (end_at (cond v d a) s ∷ []) to) [
        | true ↦ item_placed (returns a t b) no_items d d s from to h (λ between i. (i.0, i.1.begin refl, omega (arith, i.2)))
        | false ↦ (h.0, h.1.begin refl, omega (arith, in_order P _ (a + 1) (to + 1) h.2))
      ]
  body_placed (item c no_items) d s from to h =
      item_placed c no_items d d s from to h (λ between i. (i.0, i.1.begin refl, omega (arith, i.2)))
  body_placed (item c (label x a b is)) d s from to h =
      item_placed c (label x a b is) d (end_behind d is d) s from to h
      (λ between i. body_placed (label x a b is) d (scope_core c s) between to i)
  body_placed (item c (declaration a xs b is)) d s from to h =
      item_placed c (declaration a xs b is) d (end_behind d is d) s from to h
      (λ between i. body_placed (declaration a xs b is) d (scope_core c s) between to i)
  body_placed (item c (item b is)) d s from to h =
      item_placed c (item b is) d (end_behind d (item b is) d) s from to h
      (λ between i. body_placed (item b is) d (scope_core c s) between to i)

  -- The last place of the tokens is that of the end.
  pub function_placed : (f : Function) (to : ℕ) → Standing P 0 (spell f) (to + 1) → Placed P 0 (anchors_of f) to
  function_placed (function ss n a ps b c is d) to h =
      let s = scope_parameters ps no_scope in
      let p = split P (spell_specifiers ss) (spell_function_name n ++ token left_paren a ∷ (spell_parameters ps
      ++ token right_paren b ∷ token left_brace c ∷ (spell_items is ++ token right_brace d ∷ []))) 0 (to + 1) h in
      let q = split P (spell_function_name n) (token left_paren a ∷ (spell_parameters ps
      ++ token right_paren b ∷ token left_brace c ∷ (spell_items is ++ token right_brace d ∷ []))) p.between (to + 1) p.right in
      let t = split P (spell_parameters ps) (token right_paren b ∷ token left_brace c ∷ (spell_items is ++ token right_brace d ∷ []))
      (a + 1) (to + 1) q.right.2 in
      wider P (anchors_items is s ++ end_at (end_behind d is d) (scope_items is s) ∷ []) 0 (c + 1) to to (omega arith) (omega arith)
      (body_placed is d s (c + 1) to t.right.2.2)
