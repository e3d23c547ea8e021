-- The machine over statements.
use Rattle.std.proofs.Common.{◌≡◌, ◌∙◌, ◌++◌, ◌∷◌, ℕ, List, [], Option, Some, None, refl, ap, append_assoc}
use Rattle.source_grammar.specs.Tokens.{Kind, else_word, while_word}
use Rattle.source_grammar.specs.Tokens.{left_paren, right_paren, left_bracket, right_bracket, right_brace, semicolon, colon, step_sign}
use Rattle.source_grammar.specs.Tokens.{change_sign}
use Rattle.source_grammar.specs.Tokens.{Token, token}
use Rattle.source_grammar.specs.Expressions.{Expr, Optional, absent, present, spell_expr, spell_arguments, spell_optional, spell_subscripts}
use Rattle.source_grammar.specs.Expressions.{no_index, index, place, last_subscript, next_subscript, assigns, steps, Update, update}
use Rattle.source_grammar.specs.Expressions.{step_before, spell_update, spell_updates, spell_effect}
use Rattle.source_grammar.specs.Grammar.{Core, empty, block, if_alone, if_else, repeat, repeat_after, repeat_for, jumps, returns, demands}
use Rattle.source_grammar.specs.Grammar.{calls, updates, Sub, labelled, plain, Items, no_items, label, declaration, item, spell_core}
use Rattle.source_grammar.specs.Grammar.{spell_sub, spell_items, spell_first, spell_declarators, plain_int, const_int}
use Rattle.source_grammar.specs.Grammar.{Ending, shut, waiting, ending_core, ending_sub, GoodCore, GoodSub, GoodItems}
use Rattle.lang_groups.specs.Shapes.{enclosed}
use Rattle.lang_groups.specs.declared.mark.Mark.TheVariants as mark
use Rattle.source_packs.specs.Shapes.{variable_number, shape, arguments_shape, optional_shape}
use Rattle.source_packs.specs.Targets.{stepped, arguments_stepped, optional_stepped}
use Rattle.source_packs.specs.Parts.{number_part, part_of}
use Rattle.source_packs.specs.Machine.{Book, told, State, state, step, run, after, else_entry}
use Rattle.source_packs.specs.declared.goal.Place.{Place}
use Rattle.source_packs.specs.declared.goal.Place.TheVariants as place
use Rattle.source_packs.specs.declared.goal.Stop.TheVariants as stop
use Rattle.source_packs.specs.declared.goal.Goal.{Goal}
use Rattle.source_packs.specs.declared.goal.Goal.TheVariants as goal
use Rattle.source_packs.specs.declared.goal.Effect.TheVariants as effect
use Rattle.source_packs.specs.declared.goal.Entry.{Entry}
use Rattle.source_packs.specs.declared.goal.Entry.TheVariants as enters
use Rattle.source_packs.specs.declared.part.Part.{Part}
use Rattle.source_packs.specs.declared.part.Part.TheVariants as part
use Rattle.source_packs.proofs.machine.Books.{seen, behind_none, enclosed_seen}
use Rattle.source_packs.proofs.machine.Steps.{entered, nested_walks, rest_walks, name_called, left_name}
use Rattle.source_packs.proofs.machine.Expressions.{expr_run, arguments_run}
use Rattle.source_packs.proofs.machine.Changes.{update_book, update_run, updates_book, updates_run, declarators_book, declarators_run}
use Rattle.source_packs.proofs.machine.Changes.{first_book, first_run}

-- a token at which what waits for an `else` gives way
abbrev pub IsNoElse : (names : List (List ℕ)) → Kind → Type 0
IsNoElse names k = else_entry (part_of names k) ≡ enters.Leaves effect.Nothing

module _ (names : List (List ℕ)) where
  -- The text goes on, and with no `else` where one would be taken.
  abbrev pub GoesOn : Ending → List Token → Type 0
  GoesOn e [] = ⊥
  GoesOn shut (t ∷ ts) = Unit {0}
  GoesOn waiting (token k a ∷ ts) = IsNoElse names k

  -- A text that goes on with no `else` goes on in any case.
  goes_on : (e : Ending) (w : List Token) → GoesOn waiting w → GoesOn e w
  goes_on e [] h = absurd h
  goes_on shut (token k a ∷ ts) h = tt
  goes_on waiting (token k a ∷ ts) h = h

  -- A text that goes on has a token.
  some_token : (e : Ending) (w : List Token) → GoesOn e w → GoesOn shut w
  some_token e [] h = absurd h
  some_token e (t ∷ ts) h = tt

  -- So has one before a token.
  token_behind : (xs : List Token) (y : Token) (ys : List Token) → GoesOn shut (xs ++ y ∷ ys)
  token_behind [] y ys = tt
  token_behind (x ∷ xs) y ys = tt

  -- A name is no `else`.
  name_no_else : (o : Option ℕ) → else_entry (number_part o) ≡ enters.Leaves effect.Nothing
  name_no_else None = refl
  name_no_else (Some i) = refl

  -- A statement begins with no `else`,
  core_head : (c : Core) (w : List Token) → GoesOn waiting (spell_core c ++ w)
  core_head (calls x a b es c d) w = name_no_else (variable_number names x)
  core_head (updates (update (place x a i) f) c) w = name_no_else (variable_number names x)
  core_head (updates (step_before g a p) c) w = refl
  core_head _ w = refl

  -- nor do statements and what follows them.
  pub items_head : (is : Items) (w : List Token) → GoesOn waiting w → GoesOn waiting (spell_items is ++ w)
  items_head no_items w h = h
  items_head (label x b c is) w h = name_no_else (variable_number names x)
  items_head (declaration (plain_int a) xs b is) w h = refl
  items_head (declaration (const_int a c) xs b is) w h = refl
  items_head (item c is) w h = rw append_assoc (core_head c _)

  -- What waits for an `else` gives way to another token.
  no_else : (gs : List Goal) (b : Book) (w : List Token) → GoesOn waiting w
      → run names (state (goal.MaybeElse ∷ gs) b) w ≡ run names (state gs b) w
  no_else gs b [] h = absurd h
  no_else gs b (token k a ∷ ts) h = ap (λ (e : Entry). run names (entered e (part_of names k) gs b) ts) h

  -- Where loops begin and end the text goes on.
  begins_run : (gs : List Goal) (b : Book) (w : List Token) → GoesOn shut w
      → run names (state (goal.LoopBegins ∷ gs) b) w ≡ run names (state gs (told effect.Tests b)) w
  begins_run gs b [] h = absurd h
  begins_run gs b (token k a ∷ ts) h = refl

  ends_run : (gs : List Goal) (b : Book) (w : List Token) → GoesOn shut w
      → run names (state (goal.LoopEnds ∷ gs) b) w ≡ run names (state gs (told effect.LoopEnds b)) w
  ends_run gs b [] h = absurd h
  ends_run gs b (token k a ∷ ts) h = refl

  -- ---- expressions up to their end
  -- a condition in parentheses
  condition_run : (e : Expr) (a c : ℕ) (gs : List Goal) (b : Book) (w : List Token)
      → run names (state (goal.Open ∷ goal.Rest stop.Paren ∷ gs) b) (token left_paren a ∷ (spell_expr e ++ token right_paren c ∷ w))
      ≡ run names (state gs (told effect.Ends (seen (shape names e) (stepped names e) b))) w
  condition_run e a c gs b w = expr_run names e (goal.Rest stop.Paren) (rest_walks stop.Paren) gs b (token right_paren c ∷ w) tt

  -- one that may be absent, up to a semicolon
  optional_run : (t : Optional) (c : ℕ) (gs : List Goal) (b : Book) (w : List Token)
      → run names (state (goal.Rest stop.Semicolon ∷ gs) b) (spell_optional t ++ token semicolon c ∷ w)
      ≡ run names (state gs (told effect.Ends (seen (optional_shape names t) (optional_stepped names t) b))) w
  optional_run absent c gs b w = ap (λ (x : Book). run names (state gs (told effect.Ends x)) w) (behind_none b)
  optional_run (present e) c gs b w =
      expr_run names e (goal.Rest stop.Semicolon) (rest_walks stop.Semicolon) gs b (token semicolon c ∷ w) tt

  -- one in parentheses, up to a semicolon
  rest_run : (e : Expr) (a c d : ℕ) (gs : List Goal) (b : Book) (w : List Token)
      → run names (state (goal.Rest stop.Semicolon ∷ gs) b)
      (token left_paren a ∷ (spell_expr e ++ token right_paren c ∷ token semicolon d ∷ w))
      ≡ run names (state gs (told effect.Ends (seen (enclosed (shape names e)) (stepped names e) b))) w
  rest_run e a c d gs b w =
      expr_run names e goal.Nested nested_walks (goal.Rest stop.Semicolon ∷ gs)
      (told (effect.Takes mark.Opens) b) (token right_paren c ∷ token semicolon d ∷ w) tt
      ∙ ap (λ (x : Book). run names (state gs (told effect.Ends x)) w) (enclosed_seen (shape names e) (stepped names e) b)

  -- ---- what begins with a name
  -- a token behind the name that a change or a call begins with
  abbrev IsSign : Part → Type 0
  IsSign part.Change = Unit {0}
  IsSign part.Step = Unit {0}
  IsSign part.LeftBracket = Unit {0}
  IsSign part.LeftParen = Unit {0}
  IsSign _ = ⊥

  sign_begun : (p : Place) (q : Part) → IsSign q → (gs : List Goal) (b : Book)
      → step (goal.Begun p ∷ gs) q b ≡ step (goal.Left stop.Semicolon ∷ gs) q b
  sign_begun p part.Change h gs b = refl
  sign_begun p part.Step h gs b = refl
  sign_begun p part.LeftBracket h gs b = refl
  sign_begun p part.LeftParen h gs b = refl
  sign_begun p _ h gs b = absurd h

  sign_fresh : (i : ℕ) (p : Place) (q : Part) → IsSign q → (gs : List Goal) (b : Book)
      → step (goal.Fresh i ∷ goal.Begun p ∷ gs) q b ≡ step (goal.Named i ∷ goal.Left stop.Semicolon ∷ gs) q b
  sign_fresh i p part.Change h gs b = refl
  sign_fresh i p part.Step h gs b = refl
  sign_fresh i p part.LeftBracket h gs b = refl
  sign_fresh i p part.LeftParen h gs b = refl
  sign_fresh i p _ h gs b = absurd h

  -- It begins a change, which may be a call.
  name_begins : (p : Place) (o : Option ℕ) (k : Kind) → IsSign (part_of names k) → (a : ℕ) (gs : List Goal) (b : Book) (ts : List Token)
      → run names (step (goal.Statement p ∷ gs) (number_part o) b) (token k a ∷ ts)
      ≡ run names (step (goal.Left stop.Semicolon ∷ after p gs) (number_part o) b) (token k a ∷ ts)
  name_begins p None k h a gs b ts = ap (λ (st : State). run names st ts) (sign_begun p (part_of names k) h (after p gs) b)
  name_begins p (Some i) k h a gs b ts = ap (λ (st : State). run names st ts) (sign_fresh i p (part_of names k) h (after p gs) b)

  -- A statement that is a change begins as one.
  update_begins : (u : Update) (p : Place) (gs : List Goal) (b : Book) (w : List Token)
      → run names (state (goal.Statement p ∷ gs) b) (spell_update u ++ w)
      ≡ run names (state (goal.Left stop.Semicolon ∷ after p gs) b) (spell_update u ++ w)
  update_begins (update (place x a no_index) (assigns g c e)) p gs b w =
      name_begins p (variable_number names x) (change_sign g) tt c gs b (spell_expr e ++ w)
  update_begins (update (place x a no_index) (steps g c)) p gs b w =
      name_begins p (variable_number names x) (step_sign g) tt c gs b w
  update_begins (update (place x a (index (last_subscript c e d))) f) p gs b w =
      name_begins p (variable_number names x) left_bracket tt c gs b (((spell_expr e ++ token right_bracket d ∷ []) ++ spell_effect f) ++ w)
  update_begins (update (place x a (index (next_subscript c e d is))) f) p gs b w =
      name_begins p (variable_number names x) left_bracket tt c gs b
      (((spell_expr e ++ token right_bracket d ∷ spell_subscripts is) ++ spell_effect f) ++ w)
  update_begins (step_before g a q) p gs b w = refl

  -- A label is passed over.
  label_run : (p : Place) (o : Option ℕ) (a : ℕ) (gs : List Goal) (b : Book) (w : List Token)
      → run names (step (goal.Statement p ∷ gs) (number_part o) b) (token colon a ∷ w)
      ≡ run names (state (goal.Statement p ∷ gs) b) w
  label_run place.Sub None a gs b w = refl
  label_run place.Sub (Some i) a gs b w = refl
  label_run place.Block None a gs b w = refl
  label_run place.Block (Some i) a gs b w = refl

  -- ---- statements
  abbrev mutual
    -- the book behind a statement,
    pub core_book : Core → Book → Book
    core_book (empty a) b = b
    core_book (block a is d) b = items_book is b
    core_book (if_alone a c e d s) b = sub_book s (told effect.Ends (seen (shape names e) (stepped names e) b))
    core_book (if_else a c e d s i t) b = sub_book t (sub_book s (told effect.Ends (seen (shape names e) (stepped names e) b)))
    core_book (repeat a c e d s) b =
        told effect.LoopEnds (sub_book s (told effect.Ends (seen (shape names e) (stepped names e) (told effect.Tests b))))
    core_book (repeat_after a s c d e i j) b = told effect.LoopEnds (told effect.Ends
        (seen (enclosed (shape names e)) (stepped names e) (told effect.TestsBehind (sub_book s (told effect.Repeats b)))))
    core_book (repeat_for a c f d t i us j s) b = told effect.LoopEnds (sub_book s (updates_book names us
        (told effect.Ends (seen (optional_shape names t) (optional_stepped names t) (told effect.Tests (first_book names f b))))))
    core_book (jumps j a c) b = told effect.Ends b
    core_book (returns a t c) b = told effect.Ends (seen (optional_shape names t) (optional_stepped names t) b)
    core_book (demands k a c e d i) b = told effect.Ends (seen (enclosed (shape names e)) (stepped names e) b)
    core_book (calls x a c es d i) b =
        told effect.Ends (seen (enclosed (arguments_shape names es)) (arguments_stepped names es) b)
    core_book (updates u c) b = told effect.EndsTogether (update_book names u b)

    -- with its labels,
    pub sub_book : Sub → Book → Book
    sub_book (labelled x a c s) b = sub_book s b
    sub_book (plain c) b = core_book c b

    -- and behind those of a block
    pub items_book : Items → Book → Book
    items_book no_items b = b
    items_book (label x a c is) b = items_book is b
    items_book (declaration t xs c is) b = items_book is (declarators_book names xs b)
    items_book (item c is) b = items_book is (core_book c b)

  mutual
    -- The machine takes a statement.
    core_run : (c : Core) (p : Place) (gs : List Goal) (b : Book) (w : List Token) → GoodCore c → GoesOn (ending_core c) w
        → run names (state (goal.Statement p ∷ gs) b) (spell_core c ++ w) ≡ run names (state (after p gs) (core_book c b)) w
    core_run (empty a) p gs b w g h = refl
    core_run (block a is d) p gs b w g h = rw (append_assoc (spell_items is) (token right_brace d ∷ []) w)
        (items_run is (after p gs) b (token right_brace d ∷ w) g refl)
    core_run (if_alone a c e d s) p gs b w g h = rw (append_assoc (spell_expr e) (token right_paren d ∷ spell_sub s) w)
        (condition_run e c d (goal.Statement place.Sub ∷ goal.MaybeElse ∷ after p gs) b (spell_sub s ++ w)
        ∙ sub_run s (goal.MaybeElse ∷ after p gs) (told effect.Ends (seen (shape names e) (stepped names e) b)) w g.1 (goes_on _ w h)
        ∙ no_else (after p gs) _ w h)
    core_run (if_else a c e d s i t) p gs b w g h =
        rw (
          append_assoc (spell_expr e) (token right_paren d ∷ (spell_sub s ++ token else_word i ∷ spell_sub t)) w,
          append_assoc (spell_sub s) (token else_word i ∷ spell_sub t) w,
        )
        (condition_run e c d (goal.Statement place.Sub ∷ goal.MaybeElse ∷ after p gs) b
        (spell_sub s ++ token else_word i ∷ (spell_sub t ++ w))
        ∙ sub_run s (goal.MaybeElse ∷ after p gs) (told effect.Ends (seen (shape names e) (stepped names e) b))
        (token else_word i ∷ (spell_sub t ++ w)) g.1 (rw g.2 tt)
        ∙ sub_run t (after p gs) (sub_book s (told effect.Ends (seen (shape names e) (stepped names e) b))) w g.3 h)
    core_run (repeat a c e d s) p gs b w g h = rw (append_assoc (spell_expr e) (token right_paren d ∷ spell_sub s) w)
        (condition_run e c d (goal.Statement place.Sub ∷ goal.LoopEnds ∷ after p gs) (told effect.Tests b) (spell_sub s ++ w)
        ∙ sub_run s (goal.LoopEnds ∷ after p gs) (told effect.Ends (seen (shape names e) (stepped names e) (told effect.Tests b))) w g.1 h
        ∙ ends_run (after p gs) _ w (some_token _ w h))
    core_run (repeat_after a s c d e i j) p gs b w g h =
        rw (
          append_assoc (spell_sub s) (token while_word c ∷ token left_paren d
              ∷ (spell_expr e ++ token right_paren i ∷ token semicolon j ∷ [])) w,
          append_assoc (spell_expr e) (token right_paren i ∷ token semicolon j ∷ []) w,
        )
        (sub_run s (goal.Tail ∷ after p gs) (told effect.Repeats b)
        (token while_word c ∷ token left_paren d ∷ (spell_expr e ++ token right_paren i ∷ token semicolon j ∷ w)) g.0
        (goes_on _ (token while_word c ∷ token left_paren d ∷ (spell_expr e ++ token right_paren i ∷ token semicolon j ∷ w)) refl)
        ∙ rest_run e d i j (goal.LoopEnds ∷ after p gs) (told effect.TestsBehind (sub_book s (told effect.Repeats b))) w
        ∙ ends_run (after p gs) _ w h)
    core_run (repeat_for a c f d t i us j s) p gs b w g h =
        let tests : Book = told effect.Tests (first_book names f b) in
        let tested : Book = told effect.Ends (seen (optional_shape names t) (optional_stepped names t) tests) in
        rw (
          append_assoc (spell_first f) (token semicolon d ∷ (spell_optional t ++ token semicolon i ∷ (spell_updates us
              ++ token right_paren j ∷ spell_sub s))) w,
          append_assoc (spell_optional t) (token semicolon i ∷ (spell_updates us ++ token right_paren j ∷ spell_sub s)) w,
          append_assoc (spell_updates us) (token right_paren j ∷ spell_sub s) w,
        )
        (first_run names f d (goal.LoopBegins ∷ goal.Rest stop.Semicolon ∷ goal.Left stop.Paren ∷ goal.Statement place.Sub
        ∷ goal.LoopEnds ∷ after p gs) b
        (spell_optional t ++ token semicolon i ∷ (spell_updates us ++ token right_paren j ∷ (spell_sub s ++ w)))
        ∙ begins_run (goal.Rest stop.Semicolon ∷ goal.Left stop.Paren ∷ goal.Statement place.Sub ∷ goal.LoopEnds ∷ after p gs)
        (first_book names f b) _ (token_behind (spell_optional t) (token semicolon i) _)
        ∙ optional_run t i (goal.Left stop.Paren ∷ goal.Statement place.Sub ∷ goal.LoopEnds ∷ after p gs) tests
        (spell_updates us ++ token right_paren j ∷ (spell_sub s ++ w))
        ∙ updates_run names us stop.Paren j (goal.Statement place.Sub ∷ goal.LoopEnds ∷ after p gs) tested (spell_sub s ++ w)
        ∙ sub_run s (goal.LoopEnds ∷ after p gs) (updates_book names us tested) w g.3 h
        ∙ ends_run (after p gs) _ w (some_token _ w h))
    core_run (jumps j a c) p gs b w g h = refl
    core_run (returns a t c) p gs b w g h = rw (append_assoc (spell_optional t) (token semicolon c ∷ []) w)
        (optional_run t c (after p gs) b w)
    core_run (demands k a c e d i) p gs b w g h = rw (append_assoc (spell_expr e) (token right_paren d ∷ token semicolon i ∷ []) w)
        (rest_run e c d i (after p gs) b w)
    core_run (calls x a c es d i) p gs b w g h =
        let ts = spell_arguments es ++ token right_paren d ∷ token semicolon i ∷ w in
        rw (append_assoc (spell_arguments es) (token right_paren d ∷ token semicolon i ∷ []) w)
        (name_begins p (variable_number names x) left_paren tt c gs b ts
        ∙ left_name names stop.Semicolon x a (after p gs) b (token left_paren c ∷ ts)
        ∙ name_called names (variable_number names x) c (goal.Left stop.Semicolon ∷ after p gs) b ts
        ∙ arguments_run names es (goal.Left stop.Semicolon ∷ after p gs) (told (effect.Takes mark.Opens) b)
        (token right_paren d ∷ token semicolon i ∷ w) tt
        ∙ ap (λ (y : Book). run names (state (after p gs) (told effect.Ends y)) w)
        (enclosed_seen (arguments_shape names es) (arguments_stepped names es) b))
    core_run (updates u c) p gs b w g h = rw (append_assoc (spell_update u) (token semicolon c ∷ []) w)
        (update_begins u p gs b (token semicolon c ∷ w)
        ∙ update_run names u stop.Semicolon (after p gs) b (token semicolon c ∷ w) tt)

    -- the same under a loop, an `if` or a label
    sub_run : (s : Sub) (gs : List Goal) (b : Book) (w : List Token) → GoodSub s → GoesOn (ending_sub s) w
        → run names (state (goal.Statement place.Sub ∷ gs) b) (spell_sub s ++ w) ≡ run names (state gs (sub_book s b)) w
    sub_run (labelled x a c s) gs b w g h = label_run place.Sub (variable_number names x) c gs b (spell_sub s ++ w) ∙ sub_run s gs b w g h
    sub_run (plain c) gs b w g h = core_run c place.Sub gs b w g h

    -- the same of the statements of a block
    pub items_run : (is : Items) (gs : List Goal) (b : Book) (w : List Token) → GoodItems is → GoesOn waiting w
        → run names (state (goal.Statement place.Block ∷ gs) b) (spell_items is ++ w)
        ≡ run names (state (goal.Statement place.Block ∷ gs) (items_book is b)) w
    items_run no_items gs b w g h = refl
    items_run (label x a c is) gs b w g h =
        label_run place.Block (variable_number names x) c gs b (spell_items is ++ w) ∙ items_run is gs b w g h
    items_run (declaration (plain_int a) xs c is) gs b w g h =
        rw (append_assoc (spell_declarators xs) (token semicolon c ∷ spell_items is) w)
        (declarators_run names xs c (goal.Statement place.Block ∷ gs) b (spell_items is ++ w)
        ∙ items_run is gs (declarators_book names xs b) w g.1 h)
    items_run (declaration (const_int a d) xs c is) gs b w g h =
        rw (append_assoc (spell_declarators xs) (token semicolon c ∷ spell_items is) w)
        (declarators_run names xs c (goal.Statement place.Block ∷ gs) b (spell_items is ++ w)
        ∙ items_run is gs (declarators_book names xs b) w g.1 h)
    items_run (item c is) gs b w g h = rw (append_assoc (spell_core c) (spell_items is) w)
        (core_run c place.Block gs b (spell_items is ++ w) g.0 (goes_on _ _ (items_head is w h))
        ∙ items_run is gs (core_book c b) w g.1 h)
