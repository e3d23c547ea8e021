-- The tokens of statements read one by one, where only declarations add to what is read.
use Rattle.std.proofs.Common.{◌≡◌, ◌∙◌, ◌++◌, ℕ, List, [], ◌∷◌, refl, sym, ap, append_assoc}
use Rattle.source_grammar.specs.Tokens.{Kind, a_name, colon, left_paren, right_paren, left_brace, right_brace}
use Rattle.source_grammar.specs.Tokens.{comma, semicolon, change_sign, step_sign, int_word, const_word, if_word, else_word, while_word}
use Rattle.source_grammar.specs.Tokens.{do_word}
use Rattle.source_grammar.specs.Tokens.{for_word, jump_word, return_word, demand_word, Token, token}
use Rattle.source_grammar.specs.Grammar.{Expr, spell_expr, spell_arguments, Optional, absent, present, spell_optional}
use Rattle.source_grammar.specs.Grammar.{Index, no_index, index, spell_index, Place, place, spell_place, Effect, assigns, steps}
use Rattle.source_grammar.specs.Grammar.{spell_effect}
use Rattle.source_grammar.specs.Grammar.{Update, update, step_before, spell_update, MoreUpdates, last_update, next_update}
use Rattle.source_grammar.specs.Grammar.{spell_more_updates, Updates, no_updates, some_updates, spell_updates, Declarators}
use Rattle.source_grammar.specs.Grammar.{spell_declarators}
use Rattle.source_grammar.specs.Grammar.{IntType, plain_int, const_int, spell_type}
use Rattle.source_grammar.specs.Grammar.{ForFirst, declared_first, updated_first, spell_first, Core, Sub, Items, empty, block, if_alone}
use Rattle.source_grammar.specs.Grammar.{if_else, repeat, repeat_after, repeat_for, jumps, returns, demands, calls, updates, labelled}
use Rattle.source_grammar.specs.Grammar.{plain}
use Rattle.source_grammar.specs.Grammar.{no_items, label, declaration, item, spell_core, spell_sub, spell_items}
use Rattle.source_meaning.specs.Walk.{declared_in, declared_before, declared_core, declared_sub, declared_items}
use Rattle.source_file.proofs.trees.Expressions.{IsPlain, IsReader, expr_read, arguments_read, subscripts_read}

-- On the level of statements `,` and `;` change nothing; a declaration adds its variables.
pub record IsWalker {S R : Type 0} (run : S → List Token → R) (inside : S → S) (Calm Level : S → Type 0)
    (add : List (List ℕ) → R → R) : Type 0 where
  -- expressions change nothing
  pub reads : IsReader run inside Calm
  -- where a statement may stand an expression may
  pub calm : (s : S) → Level s → Calm s
  -- a statement may stand in braces
  pub level_inside : (s : S) → Level s → Level (inside s)
  -- a comma changes nothing
  pub at_comma : (s : S) → Level s → (a : ℕ) (ts : List Token) → run s (token comma a ∷ ts) ≡ run s ts
  -- nor does a semicolon
  pub at_semicolon : (s : S) → Level s → (a : ℕ) (ts : List Token) → run s (token semicolon a ∷ ts) ≡ run s ts
  -- a declaration adds its variables
  pub declares : (s : S) → Level s → (a : ℕ) (xs : Declarators) (b : ℕ) (ts : List Token)
      → run s (token int_word a ∷ (spell_declarators xs ++ token semicolon b ∷ ts)) ≡ add (declared_in xs) (run s ts)
  -- nothing is added
  pub none : (r : R) → add [] r ≡ r
  -- what is added together is added one behind the other
  pub more : (xs ys : List (List ℕ)) (r : R) → add (xs ++ ys) r ≡ add xs (add ys r)

module _ {S R : Type 0} (run : S → List Token → R) (inside : S → S) (Calm Level : S → Type 0) (add : List (List ℕ) → R → R)
    (w : IsWalker run inside Calm Level add) where
  abbrev expr : (e : Expr) (s : S) → Level s → (ts : List Token) → run s (spell_expr e ++ ts) ≡ run s ts
  expr e s h ts = expr_read run inside Calm w.reads e s (w.calm s h) ts

  plain_read : (s : S) → Level s → (k : Kind) → IsPlain k → (a : ℕ) (ts : List Token) → run s (token k a ∷ ts) ≡ run s ts
  plain_read s h k p a ts = w.reads.plain s (w.calm s h) k p a ts

  -- an expression in parentheses behind a token
  test_read : (s : S) → Level s → (k : Kind) → IsPlain k → (a b : ℕ) (e : Expr) (c : ℕ) (xs ts : List Token)
      → run s (token k a ∷ token left_paren b ∷ ((spell_expr e ++ token right_paren c ∷ xs) ++ ts)) ≡ run s (xs ++ ts)
  test_read s h k p a b e c xs ts =
      plain_read s h k p a _ ∙ w.reads.opens s (w.calm s h) left_paren tt b _
      ∙ ap (run (inside s)) (append_assoc (spell_expr e) (token right_paren c ∷ xs) ts)
      ∙ expr e (inside s) (w.level_inside s h) (token right_paren c ∷ (xs ++ ts))
      ∙ w.reads.closes s (w.calm s h) right_paren tt c (xs ++ ts)

  optional_read : (o : Optional) (s : S) → Level s → (ts : List Token) → run s (spell_optional o ++ ts) ≡ run s ts
  optional_read absent s h ts = refl
  optional_read (present e) s h ts = expr e s h ts

  index_read : (i : Index) (s : S) → Level s → (ts : List Token) → run s (spell_index i ++ ts) ≡ run s ts
  index_read no_index s h ts = refl
  index_read (index is) s h ts = subscripts_read run inside Calm w.reads is s (w.calm s h) ts

  place_read : (p : Place) (s : S) → Level s → (ts : List Token) → run s (spell_place p ++ ts) ≡ run s ts
  place_read (place x a i) s h ts = plain_read s h (a_name x) tt a _ ∙ index_read i s h ts

  effect_read : (f : Effect) (s : S) → Level s → (ts : List Token) → run s (spell_effect f ++ ts) ≡ run s ts
  effect_read (assigns g a e) s h ts = plain_read s h (change_sign g) tt a _ ∙ expr e s h ts
  effect_read (steps g a) s h ts = plain_read s h (step_sign g) tt a ts

  update_read : (u : Update) (s : S) → Level s → (ts : List Token) → run s (spell_update u ++ ts) ≡ run s ts
  update_read (update p f) s h ts =
      ap (run s) (append_assoc (spell_place p) (spell_effect f) ts) ∙ place_read p s h (spell_effect f ++ ts) ∙ effect_read f s h ts
  update_read (step_before g a p) s h ts = plain_read s h (step_sign g) tt a _ ∙ place_read p s h ts

  more_updates_read : (us : MoreUpdates) (s : S) → Level s → (ts : List Token) → run s (spell_more_updates us ++ ts) ≡ run s ts
  more_updates_read last_update s h ts = refl
  more_updates_read (next_update a u us) s h ts =
      w.at_comma s h a _ ∙ ap (run s) (append_assoc (spell_update u) (spell_more_updates us) ts)
      ∙ update_read u s h (spell_more_updates us ++ ts) ∙ more_updates_read us s h ts

  updates_read : (us : Updates) (s : S) → Level s → (ts : List Token) → run s (spell_updates us ++ ts) ≡ run s ts
  updates_read no_updates s h ts = refl
  updates_read (some_updates u us) s h ts =
      ap (run s) (append_assoc (spell_update u) (spell_more_updates us) ts)
      ∙ update_read u s h (spell_more_updates us ++ ts) ∙ more_updates_read us s h ts

  -- what stands before the names of a declaration
  declaration_read : (t : IntType) (xs : Declarators) (b : ℕ) (s : S) → Level s → (ts : List Token)
      → run s (spell_type t ++ (spell_declarators xs ++ token semicolon b ∷ ts)) ≡ add (declared_in xs) (run s ts)
  declaration_read (plain_int a) xs b s h ts = w.declares s h a xs b ts
  declaration_read (const_int a c) xs b s h ts = plain_read s h const_word tt a _ ∙ w.declares s h c xs b ts

  first_read : (f : ForFirst) (s : S) → Level s → (c : ℕ) (ts : List Token)
      → run s (spell_first f ++ token semicolon c ∷ ts) ≡ add (declared_before f) (run s ts)
  first_read (declared_first t xs) s h c ts =
      ap (run s) (append_assoc (spell_type t) (spell_declarators xs) (token semicolon c ∷ ts)) ∙ declaration_read t xs c s h ts
  first_read (updated_first us) s h c ts =
      updates_read us s h (token semicolon c ∷ ts) ∙ w.at_semicolon s h c ts ∙ sym (w.none (run s ts))

  -- what stands behind the first part of a `for`
  for_read : (t : Optional) (d : ℕ) (us : Updates) (i : ℕ) (s : S) → Level s → (xs ts : List Token)
      → run (inside s) ((spell_optional t ++ token semicolon d ∷ (spell_updates us ++ token right_paren i ∷ xs)) ++ ts) ≡ run s (xs ++ ts)
  for_read t d us i s h xs ts =
      ap (run (inside s)) (append_assoc (spell_optional t) (token semicolon d ∷ (spell_updates us ++ token right_paren i ∷ xs)) ts)
      ∙ optional_read t (inside s) (w.level_inside s h) (token semicolon d ∷ ((spell_updates us ++ token right_paren i ∷ xs) ++ ts))
      ∙ w.at_semicolon (inside s) (w.level_inside s h) d _
      ∙ ap (run (inside s)) (append_assoc (spell_updates us) (token right_paren i ∷ xs) ts)
      ∙ updates_read us (inside s) (w.level_inside s h) (token right_paren i ∷ (xs ++ ts))
      ∙ w.reads.closes s (w.calm s h) right_paren tt i (xs ++ ts)

  abbrev same : (s : S) (ts : List Token) → run s ts ≡ add [] (run s ts)
  same s ts = sym (w.none (run s ts))

  mutual
    -- a statement adds its variables
    pub core_read : (c : Core) (s : S) → Level s → (ts : List Token) → run s (spell_core c ++ ts) ≡ add (declared_core c) (run s ts)
    core_read (empty a) s h ts = w.at_semicolon s h a ts ∙ same s ts
    core_read (block a is b) s h ts =
        w.reads.opens s (w.calm s h) left_brace tt a _ ∙ ap (run (inside s)) (append_assoc (spell_items is) (token right_brace b ∷ []) ts)
        ∙ items_read is (inside s) (w.level_inside s h) (token right_brace b ∷ ts)
        ∙ ap (add (declared_items is)) (w.reads.closes s (w.calm s h) right_brace tt b ts)
    core_read (if_alone a b e c x) s h ts = test_read s h if_word tt a b e c (spell_sub x) ts ∙ sub_read x s h ts
    core_read (if_else a b e c x d y) s h ts =
        test_read s h if_word tt a b e c (spell_sub x ++ token else_word d ∷ spell_sub y) ts
        ∙ ap (run s) (append_assoc (spell_sub x) (token else_word d ∷ spell_sub y) ts)
        ∙ sub_read x s h (token else_word d ∷ (spell_sub y ++ ts))
        ∙ ap (add (declared_sub x)) (plain_read s h else_word tt d _ ∙ sub_read y s h ts)
        ∙ sym (w.more (declared_sub x) (declared_sub y) (run s ts))
    core_read (repeat a b e c x) s h ts = test_read s h while_word tt a b e c (spell_sub x) ts ∙ sub_read x s h ts
    core_read (repeat_after a x b c e d i) s h ts =
        plain_read s h do_word tt a _
        ∙ ap (run s) (append_assoc (spell_sub x) (token while_word b ∷ token left_paren c
        ∷ (spell_expr e ++ token right_paren d ∷ token semicolon i ∷ [])) ts)
        ∙ sub_read x s h _
        ∙ ap (add (declared_sub x)) (test_read s h while_word tt b c e d (token semicolon i ∷ []) ts ∙ w.at_semicolon s h i ts)
    core_read (repeat_for a b f c t d us i x) s h ts =
        plain_read s h for_word tt a _ ∙ w.reads.opens s (w.calm s h) left_paren tt b _
        ∙ ap (run (inside s)) (append_assoc (spell_first f) (token semicolon c
        ∷ (spell_optional t ++ token semicolon d ∷ (spell_updates us ++ token right_paren i ∷ spell_sub x))) ts)
        ∙ first_read f (inside s) (w.level_inside s h) c _
        ∙ ap (add (declared_before f)) (for_read t d us i s h (spell_sub x) ts ∙ sub_read x s h ts)
        ∙ sym (w.more (declared_before f) (declared_sub x) (run s ts))
    core_read (jumps j a b) s h ts = plain_read s h (jump_word j) tt a _ ∙ w.at_semicolon s h b ts ∙ same s ts
    core_read (returns a t b) s h ts =
        plain_read s h return_word tt a _ ∙ ap (run s) (append_assoc (spell_optional t) (token semicolon b ∷ []) ts)
        ∙ optional_read t s h (token semicolon b ∷ ts) ∙ w.at_semicolon s h b ts ∙ same s ts
    core_read (demands k a b e c d) s h ts =
        test_read s h (demand_word k) tt a b e c (token semicolon d ∷ []) ts ∙ w.at_semicolon s h d ts ∙ same s ts
    core_read (calls x a b es c d) s h ts =
        plain_read s h (a_name x) tt a _ ∙ w.reads.opens s (w.calm s h) left_paren tt b _
        ∙ ap (run (inside s)) (append_assoc (spell_arguments es) (token right_paren c ∷ token semicolon d ∷ []) ts)
        ∙ arguments_read run inside Calm w.reads es s (w.calm s h) (token right_paren c ∷ token semicolon d ∷ ts)
        ∙ w.reads.closes s (w.calm s h) right_paren tt c _ ∙ w.at_semicolon s h d ts ∙ same s ts
    core_read (updates u c) s h ts =
        ap (run s) (append_assoc (spell_update u) (token semicolon c ∷ []) ts) ∙ update_read u s h (token semicolon c ∷ ts)
        ∙ w.at_semicolon s h c ts ∙ same s ts

    -- with its labels, too
    pub sub_read : (x : Sub) (s : S) → Level s → (ts : List Token) → run s (spell_sub x ++ ts) ≡ add (declared_sub x) (run s ts)
    sub_read (labelled x a b y) s h ts = plain_read s h (a_name x) tt a _ ∙ plain_read s h colon tt b _ ∙ sub_read y s h ts
    sub_read (plain c) s h ts = core_read c s h ts

    -- the statements of a block add their variables
    pub items_read : (is : Items) (s : S) → Level s → (ts : List Token)
        → run s (spell_items is ++ ts) ≡ add (declared_items is) (run s ts)
    items_read no_items s h ts = same s ts
    items_read (label x a b is) s h ts = plain_read s h (a_name x) tt a _ ∙ plain_read s h colon tt b _ ∙ items_read is s h ts
    items_read (declaration t xs b is) s h ts =
        ap (run s) (append_assoc (spell_type t) (spell_declarators xs ++ token semicolon b ∷ spell_items is) ts)
        ∙ ap (λ (y : List Token). run s (spell_type t ++ y)) (append_assoc (spell_declarators xs) (token semicolon b ∷ spell_items is) ts)
        ∙ declaration_read t xs b s h (spell_items is ++ ts) ∙ ap (add (declared_in xs)) (items_read is s h ts)
        ∙ sym (w.more (declared_in xs) (declared_items is) (run s ts))
    items_read (item c is) s h ts =
        ap (run s) (append_assoc (spell_core c) (spell_items is) ts) ∙ core_read c s h (spell_items is ++ ts)
        ∙ ap (add (declared_core c)) (items_read is s h ts) ∙ sym (w.more (declared_core c) (declared_items is) (run s ts))
