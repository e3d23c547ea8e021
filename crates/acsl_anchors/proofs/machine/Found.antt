-- The machine finds the anchors of statements.
use Rattle.std.proofs.Common.{◌≡◌, ◌∙◌, ◌++◌, ◌∷◌, ℕ, List, [], length, refl, sym, ap, append_assoc}
use Rattle.std.proofs.lemmas.List.{append-nil, map-append}
use Rattle.source_grammar.specs.Tokens.{Kind, else_word, while_word, left_paren, right_paren, right_brace, right_bracket, semicolon, Token}
use Rattle.source_grammar.specs.Tokens.{token}
use Rattle.source_grammar.specs.Expressions.{Expr, Optional, spell_optional, spell_index, spell_effect}
use Rattle.source_grammar.specs.Grammar.{spell_expr, spell_arguments}
use Rattle.source_grammar.specs.Expressions.{spell_updates, no_index, index, assigns, steps, update}
use Rattle.source_grammar.specs.Grammar.{spell_declarators, spell_first}
use Rattle.source_grammar.specs.Expressions as g
use Rattle.source_grammar.specs.Expressions.{step_before}
use Rattle.source_grammar.specs.Grammar.{Core, empty, block, if_alone, if_else, repeat, repeat_after, repeat_for, jumps}
use Rattle.source_grammar.specs.Expressions.{last_subscript, next_subscript}
use Rattle.source_grammar.specs.Grammar.{returns, spell_subscripts, plain_int, const_int}
use Rattle.source_grammar.specs.Grammar.{demands, calls, updates, spell_core}
use Rattle.source_grammar.specs.Grammar.{Sub, labelled, plain, Items, no_items, label, declaration, item, spell_sub, spell_items}
use Rattle.source_grammar.specs.Grammar.{Ending, shut, waiting, ending_core, ending_sub, GoodCore, GoodSub, GoodItems}
use Rattle.acsl_anchors.specs.Anchors as spec
use Rattle.acsl_anchors.specs.Anchors.{Scope, scope_declarators, scope_first, scope_core, scope_sub, scope_items, anchors_core, anchors_sub}
use Rattle.acsl_anchors.specs.Anchors.{anchors_items}
use Rattle.acsl_anchors.specs.View.{plain_anchor, plain_anchors}
use Rattle.acsl_anchors.specs.Parts.{part_of}
use Rattle.acsl_anchors.specs.Machine.{state, run, after, else_entry, kept}
use Rattle.acsl_anchors.specs.declared.anchor.Anchor.{Anchor}
use Rattle.acsl_anchors.specs.declared.goal.Goal.{Goal}
use Rattle.acsl_anchors.specs.declared.goal.Goal.TheVariants as goal
use Rattle.acsl_anchors.specs.declared.goal.Place.{Place}
use Rattle.acsl_anchors.specs.declared.goal.Place.TheVariants as place
use Rattle.acsl_anchors.specs.declared.goal.Entry.TheVariants as enters
use Rattle.acsl_anchors.proofs.machine.Skipped.{AreInner, inner_append, inner_expr, inner_arguments, inner_optional, inner_index}
use Rattle.acsl_anchors.proofs.machine.Skipped.{inner_effect, rest_stays, passes, condition_run, declarators_run, first_run, test_run}
use Rattle.acsl_anchors.proofs.machine.Skipped.{last_run, with_loop, inner_subscripts}
use Rattle.acsl_anchors.proofs.machine.Scopes.{block_closed, for_closed}

-- a token at which what waits for an `else` gives way
abbrev pub IsNoElse : Kind → Type 0
IsNoElse k = else_entry (part_of k) ≡ enters.Drops

-- The text goes on, and with no `else` where one would be taken.
abbrev pub GoesOn : Ending → List Token → Type 0
GoesOn e [] = ⊥
GoesOn shut (t ∷ ts) = Unit {0}
GoesOn waiting (token k a ∷ ts) = IsNoElse k

-- A text that goes on with no `else` goes on in any case.
pub goes_on : (e : Ending) (w : List Token) → GoesOn waiting w → GoesOn e w
goes_on e [] h = absurd h
goes_on shut (token k a ∷ ts) h = tt
goes_on waiting (token k a ∷ ts) h = h

-- What waits for an `else` gives way to another token.
no_else : (gs : List Goal) (s : Scope) (found : List Anchor) (w : List Token) → GoesOn waiting w
    → run (state (goal.MaybeElse ∷ gs) s found) w ≡ run (state gs s found) w
no_else gs s found [] h = absurd h
no_else gs s found (token else_word a ∷ ts) h = cc
no_else gs s found (token k a ∷ ts) h = refl

-- A statement begins with no `else`,
pub core_head : (c : Core) (w : List Token) → GoesOn waiting (spell_core c ++ w)
core_head (updates (update (g.place x a i) f) c) w = refl
core_head (updates (step_before g a p) c) w = refl
core_head _ w = refl

-- nor do statements and what follows them.
pub items_head : (is : Items) (w : List Token) → GoesOn waiting w → GoesOn waiting (spell_items is ++ w)
items_head no_items w h = h
items_head (label x b c is) w h = refl
items_head (declaration (plain_int a) xs b is) w h = refl
items_head (declaration (const_int a c) xs b is) w h = refl
items_head (item c is) w h = rw append_assoc (core_head c _)

-- Where fewer variables are known, the text goes on with these.
known_run : (n : ℕ) (gs : List Goal) (s t : Scope) (found : List Anchor) (w : List Token) → GoesOn shut w → kept n s ≡ t
    → run (state (goal.Known n ∷ gs) s found) w ≡ run (state gs t found) w
known_run n gs s t found [] h e = absurd h
known_run n gs s t found (token k a ∷ ts) h e = ap (λ (x : Scope). run (state gs x found) (token k a ∷ ts)) e

-- A text that goes on has a token.
some_token : (e : Ending) (w : List Token) → GoesOn e w → GoesOn shut w
some_token e [] h = absurd h
some_token e (t ∷ ts) h = tt

-- ---- anchors that are found one after another
-- two lists of them
pub found_more : (gs : List Goal) (s : Scope) (found : List Anchor) (xs ys : List spec.Anchor) (w : List Token)
    → run (state gs s ((found ++ plain_anchors xs) ++ plain_anchors ys)) w ≡ run (state gs s (found ++ plain_anchors (xs ++ ys))) w
found_more gs s found xs ys w = ap (λ (l : List Anchor). run (state gs s l) w)
    (append_assoc found (plain_anchors xs) (plain_anchors ys) ∙ ap (λ l. found ++ l) (sym (map-append plain_anchor xs ys)))

-- one and a list
pub found_one : (gs : List Goal) (s : Scope) (found : List Anchor) (x : spec.Anchor) (ys : List spec.Anchor) (w : List Token)
    → run (state gs s ((found ++ plain_anchor x ∷ []) ++ plain_anchors ys)) w ≡ run (state gs s (found ++ plain_anchors (x ∷ ys))) w
found_one gs s found x ys w = found_more gs s found (x ∷ []) ys w

-- none
pub found_none : (gs : List Goal) (s : Scope) (found : List Anchor) (w : List Token)
    → run (state gs s found) w ≡ run (state gs s (found ++ [])) w
found_none gs s found w = ap (λ (l : List Anchor). run (state gs s l) w) (sym (append-nil found))

-- The rest of a statement with an expression in parentheses.
rest_run : (e : Expr) (c d : ℕ) (gs : List Goal) (s : Scope) (found : List Anchor) (w : List Token)
    → run (state (goal.Rest ∷ gs) s found) (spell_expr e ++ token right_paren c ∷ token semicolon d ∷ w) ≡ run (state gs s found) w
rest_run e c d gs s found w = passes goal.Rest rest_stays (spell_expr e) (inner_expr e) gs s found
    (token right_paren c ∷ token semicolon d ∷ w)

-- Inner tokens up to the end of a statement.
pub end_run : (ts : List Token) → AreInner ts → (d : ℕ) (gs : List Goal) (s : Scope) (found : List Anchor) (w : List Token)
    → run (state (goal.Rest ∷ gs) s found) (ts ++ token semicolon d ∷ w) ≡ run (state gs s found) w
end_run ts h d gs s found w = passes goal.Rest rest_stays ts h gs s found (token semicolon d ∷ w)

-- The rest of a `return`.
pub return_run : (t : Optional) (b : ℕ) (gs : List Goal) (s : Scope) (found : List Anchor) (w : List Token)
    → run (state (goal.Rest ∷ gs) s found) ((spell_optional t ++ token semicolon b ∷ []) ++ w) ≡ run (state gs s found) w
return_run t b gs s found w = rw append_assoc (end_run (spell_optional t) (inner_optional t) b gs s found w)

-- a statement that isn't a `return` of the body
abbrev pub NotLast : Place → Core → Type 0
NotLast place.Sub c = Unit {0}
NotLast (place.Block n) c = Unit {0}
NotLast place.Body (returns a t b) = ⊥
NotLast place.Body _ = Unit {0}

mutual
  -- The machine takes a statement, and finds its anchors and the scope behind it.
  pub core_run : (c : Core) (p : Place) → NotLast p c → (gs : List Goal) (s : Scope) (found : List Anchor) (w : List Token) → GoodCore c
      → GoesOn (ending_core c) w → run (state (goal.Statement p ∷ gs) s found) (spell_core c ++ w)
      ≡ run (state (after p gs) (scope_core c s) (found ++ plain_anchors (anchors_core c s))) w
  core_run (empty a) p n gs s found w g h = found_none (after p gs) s found w
  core_run (block a is b) p n gs s found w g h =
      rw (append_assoc (spell_items is) (token right_brace b ∷ []) w) (items_run is (length s.known) (after p gs) s found
      (token right_brace b ∷ w) g refl
      ∙ known_run (length s.known) (after p gs) (scope_items is s) _ _ w h (block_closed is s))
  core_run (if_alone a b e c body) p n gs s found w g h =
      rw (append_assoc (spell_expr e) (token right_paren c ∷ spell_sub body) w)
      (condition_run b e c (goal.Statement place.Sub ∷ goal.MaybeElse ∷ after p gs) s found (spell_sub body ++ w)
      ∙ sub_run body (goal.MaybeElse ∷ after p gs) s found w g.1 (goes_on _ w h)
      ∙ no_else (after p gs) (scope_sub body s) _ w h)
  core_run (if_else a b e c first d second) p n gs s found w g h =
      rw (
        append_assoc (spell_expr e) (token right_paren c ∷ (spell_sub first ++ token else_word d ∷ spell_sub second)) w,
        append_assoc (spell_sub first) (token else_word d ∷ spell_sub second) w,
      )
      (condition_run b e c (goal.Statement place.Sub ∷ goal.MaybeElse ∷ after p gs) s found _
      ∙ sub_run first (goal.MaybeElse ∷ after p gs) s found (token else_word d ∷ (spell_sub second ++ w)) g.1 (rw g.2 tt)
      ∙ sub_run second (after p gs) (scope_sub first s) (found ++ plain_anchors (anchors_sub first s)) w g.3 h
      ∙ found_more (after p gs) _ found (anchors_sub first s) (anchors_sub second (scope_sub first s)) w)
  core_run (repeat a b e c body) p n gs s found w g h =
      rw (append_assoc (spell_expr e) (token right_paren c ∷ spell_sub body) w)
      (condition_run b e c (goal.Statement place.Sub ∷ after p gs) s (with_loop a s found) (spell_sub body ++ w)
      ∙ sub_run body (after p gs) s (with_loop a s found) w g.1 h
      ∙ found_one (after p gs) _ found (spec.loop_at a s) (anchors_sub body s) w)
  core_run (repeat_after a body b c e d i) p n gs s found w g h =
      rw (
        append_assoc (spell_sub body) (token while_word b ∷ token left_paren c
            ∷ (spell_expr e ++ token right_paren d ∷ token semicolon i ∷ [])) w,
        append_assoc (spell_expr e) (token right_paren d ∷ token semicolon i ∷ []) w,
      )
      (sub_run body (goal.Rest ∷ after p gs) s (with_loop a s found)
      (token while_word b ∷ token left_paren c ∷ (spell_expr e ++ token right_paren d ∷ token semicolon i ∷ w)) g.0
      (goes_on _ (token while_word b ∷ token left_paren c ∷ (spell_expr e ++ token right_paren d ∷ token semicolon i ∷ w)) refl)
      ∙ rest_run e d i (after p gs) _ _ w
      ∙ found_one (after p gs) _ found (spec.loop_at a s) (anchors_sub body s) w)
  core_run (repeat_for a b f c t d us i body) p n gs s found w g h =
      rw (
        append_assoc (spell_first f) (token semicolon c ∷ (spell_optional t ++ token semicolon d ∷ (spell_updates us
            ++ token right_paren i ∷ spell_sub body))) w,
        append_assoc (spell_optional t) (token semicolon d ∷ (spell_updates us ++ token right_paren i ∷ spell_sub body)) w,
        append_assoc (spell_updates us) (token right_paren i ∷ spell_sub body) w,
      )
      (first_run f a c (goal.Statement place.Sub ∷ goal.Known (length s.known) ∷ after p gs) s found _
      ∙ test_run t a d (goal.Statement place.Sub ∷ goal.Known (length s.known) ∷ after p gs) (scope_first f s) found _
      ∙ last_run us i (goal.Statement place.Sub ∷ goal.Known (length s.known) ∷ after p gs) (scope_first f s)
      (with_loop a (scope_first f s) found) _
      ∙ sub_run body (goal.Known (length s.known) ∷ after p gs) (scope_first f s) (with_loop a (scope_first f s) found) w g.3 h
      ∙ known_run (length s.known) (after p gs) (scope_sub body (scope_first f s)) _ _ w (some_token _ w h) (for_closed f body s)
      ∙ found_one (after p gs) _ found (spec.loop_at a (scope_first f s)) (anchors_sub body (scope_first f s)) w)
  core_run (jumps j a b) p n gs s found w g h = found_none (after p gs) s found w
  core_run (returns a t b) place.Sub n gs s found w g h = return_run t b gs s found w ∙ found_none gs s found w
  core_run (returns a t b) (place.Block m) n gs s found w g h =
      return_run t b (goal.Statement (place.Block m) ∷ gs) s found w ∙ found_none (goal.Statement (place.Block m) ∷ gs) s found w
  core_run (returns a t b) place.Body n gs s found w g h = absurd n
  core_run (demands k a b e c d) p n gs s found w g h = rw (append_assoc (spell_expr e) (token right_paren c ∷ token semicolon d ∷ []) w)
      (rest_run e c d (after p gs) s found w ∙ found_none (after p gs) s found w)
  core_run (calls x a b es c d) p n gs s found w g h =
      rw (append_assoc (spell_arguments es) (token right_paren c ∷ token semicolon d ∷ []) w)
      (passes goal.Rest rest_stays (spell_arguments es) (inner_arguments es) (after p gs) s found
      (token right_paren c ∷ token semicolon d ∷ w) ∙ found_none (after p gs) s found w)
  core_run (updates (update (g.place x a no_index) (assigns g b e)) c) p n gs s found w i h =
      rw (append_assoc (spell_expr e) (token semicolon c ∷ []) w)
      (end_run (spell_expr e) (inner_expr e) c (after p gs) s found w ∙ found_none (after p gs) s found w)
  core_run (updates (update (g.place x a no_index) (steps g b)) c) p n gs s found w i h = found_none (after p gs) s found w
  core_run (updates (update (g.place x a (index (last_subscript b e d))) f) c) p n gs s found w i h =
      rw (append_assoc ((spell_expr e ++ token right_bracket d ∷ []) ++ spell_effect f) (token semicolon c ∷ []) w)
      (end_run ((spell_expr e ++ token right_bracket d ∷ []) ++ spell_effect f)
      (inner_append (spell_expr e ++ token right_bracket d ∷ []) (spell_effect f)
      (inner_append (spell_expr e) (token right_bracket d ∷ []) (inner_expr e) (tt, tt)) (inner_effect f)) c (after p gs) s found w
      ∙ found_none (after p gs) s found w)
  core_run (updates (update (g.place x a (index (next_subscript b e d is))) f) c) p n gs s found w i h =
      let ts = spell_expr e ++ token right_bracket d ∷ spell_subscripts is in
      rw (append_assoc (ts ++ spell_effect f) (token semicolon c ∷ []) w)
      (end_run (ts ++ spell_effect f) (inner_append ts (spell_effect f)
      (inner_append (spell_expr e) (token right_bracket d ∷ spell_subscripts is) (inner_expr e) (tt, inner_subscripts is))
      (inner_effect f)) c (after p gs) s found w ∙ found_none (after p gs) s found w)
  core_run (updates (step_before d a (g.place x b i)) c) p n gs s found w j h =
      rw (append_assoc (spell_index i) (token semicolon c ∷ []) w)
      (end_run (spell_index i) (inner_index i) c (after p gs) s found w ∙ found_none (after p gs) s found w)

  -- the same under a loop, an `if` or a label
  sub_run : (b : Sub) (gs : List Goal) (s : Scope) (found : List Anchor) (w : List Token) → GoodSub b → GoesOn (ending_sub b) w
      → run (state (goal.Statement place.Sub ∷ gs) s found) (spell_sub b ++ w)
      ≡ run (state gs (scope_sub b s) (found ++ plain_anchors (anchors_sub b s))) w
  sub_run (labelled x a b body) gs s found w g h = sub_run body gs s (found ++ plain_anchor (spec.label_at x a b s) ∷ []) w g h
      ∙ found_one gs _ found (spec.label_at x a b s) (anchors_sub body s) w
  sub_run (plain c) gs s found w g h = core_run c place.Sub tt gs s found w g h

  -- the same of the statements of a block
  items_run : (is : Items) (n : ℕ) (gs : List Goal) (s : Scope) (found : List Anchor) (w : List Token) → GoodItems is
      → GoesOn waiting w → run (state (goal.Statement (place.Block n) ∷ gs) s found) (spell_items is ++ w)
      ≡ run (state (goal.Statement (place.Block n) ∷ gs) (scope_items is s) (found ++ plain_anchors (anchors_items is s))) w
  items_run no_items n gs s found w g h = found_none (goal.Statement (place.Block n) ∷ gs) s found w
  items_run (label x a b is) n gs s found w g h = items_run is n gs s
      (found ++ plain_anchor (spec.label_at x a b s) ∷ []) w g h ∙ found_one (goal.Statement (place.Block n) ∷ gs) _ found
      (spec.label_at x a b s) (anchors_items is s) w
  items_run (declaration (plain_int a) xs b is) n gs s found w g h =
      rw (append_assoc (spell_declarators xs) (token semicolon b ∷ spell_items is) w)
      (declarators_run xs b (goal.Statement (place.Block n) ∷ gs) s found _
      ∙ items_run is n gs (scope_declarators xs s) found w g.1 h)
  items_run (declaration (const_int a c) xs b is) n gs s found w g h =
      rw (append_assoc (spell_declarators xs) (token semicolon b ∷ spell_items is) w)
      (declarators_run xs b (goal.Statement (place.Block n) ∷ gs) s found _
      ∙ items_run is n gs (scope_declarators xs s) found w g.1 h)
  items_run (item c is) n gs s found w g h = rw (append_assoc (spell_core c) (spell_items is) w)
      (core_run c (place.Block n) tt gs s found _ g.0 (goes_on _ _ (items_head is w h))
      ∙ items_run is n gs (scope_core c s) _ w g.1 h ∙ found_more (goal.Statement (place.Block n) ∷ gs) _ found
      (anchors_core c s) (anchors_items is (scope_core c s)) w)
