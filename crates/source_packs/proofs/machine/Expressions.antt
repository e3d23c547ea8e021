-- The machine over expressions.
use Rattle.std.proofs.Common.{◌≡◌, ◌∙◌, ◌++◌, ◌∷◌, ℕ, List, [], sym, ap, append_assoc}
use Rattle.std.proofs.lemmas.List.{append-nil}
use Rattle.source_grammar.specs.Tokens.{plus_op, minus_op, negative, positive, negation, infix_sign, bang, question, colon, left_paren}
use Rattle.source_grammar.specs.Tokens.{right_paren, right_brace, left_bracket, right_bracket, step_sign, nondet_word}
use Rattle.source_grammar.specs.Tokens.{a_name, a_number, Token, token}
use Rattle.source_grammar.specs.Expressions.{Expr, number, variable, element, call, stepped_behind, stepped_before, free, grouped}
use Rattle.source_grammar.specs.Expressions.{prefixed, joined, chosen, Arguments, no_arguments, arguments, MoreArguments, last_argument}
use Rattle.source_grammar.specs.Expressions.{next_argument, Subscripts, last_subscript, next_subscript, spell_expr, spell_arguments}
use Rattle.source_grammar.specs.Expressions.{spell_more_arguments, spell_subscripts}
use Rattle.source_grammar.specs.Grammar.{Size, number_size, name_size, Sizes, last_size, next_size, spell_sizes, spell_size, Value}
use Rattle.source_grammar.specs.Grammar.{one_value, braced, Values, no_values, values, MoreValues, last_value, last_comma, next_value}
use Rattle.source_grammar.specs.Grammar.{spell_value, spell_values, spell_more_values}
use Rattle.lang_groups.specs.Shapes.{Shape, nothing, enclosed, apart}
use Rattle.lang_groups.specs.declared.mark.Mark.TheVariants as mark
use Rattle.source_packs.specs.Shapes.{variable_number, name_shape, shape, arguments_shape, more_shape, subscripts_shape, size_shape}
use Rattle.source_packs.specs.Shapes.{sizes_shape}
use Rattle.source_packs.specs.Shapes.{value_shape, values_shape, more_values_shape}
use Rattle.source_packs.specs.Targets.{name_target, stepped, arguments_stepped, more_stepped, subscripts_stepped, value_stepped}
use Rattle.source_packs.specs.Targets.{values_stepped}
use Rattle.source_packs.specs.Targets.{more_values_stepped}
use Rattle.source_packs.specs.Machine.{Book, told, state, run, entry, inner_entry}
use Rattle.source_packs.specs.declared.part.Part.TheVariants as part
use Rattle.source_packs.specs.declared.goal.Goal.{Goal}
use Rattle.source_packs.specs.declared.goal.Goal.TheVariants as goal
use Rattle.source_packs.specs.declared.goal.Effect.TheVariants as effect
use Rattle.source_packs.proofs.machine.Books.{behind_none, seen, tied_seen, apart_seen, enclosed_seen, empty_seen, op_told, sides_seen}
use Rattle.source_packs.proofs.machine.Steps.{Walks, nested_walks, op_ends, Follows, walk, op_run, name_walk, name_alone, name_steps}
use Rattle.source_packs.proofs.machine.Steps.{name_called, name_indexed, stepped_run, stepped_name, stepped_alone}
use Rattle.source_packs.proofs.machine.Steps.{entered_run}

-- The goal takes a bracket as an expression does.
abbrev pub Brackets : Goal → Type 0
Brackets g = entry g part.LeftBracket ≡ inner_entry g part.LeftBracket

module _ (names : List (List ℕ)) where
  -- what follows an argument
  more_follows : (es : MoreArguments) (w : List Token) → Follows names w → Follows names (spell_more_arguments es ++ w)
  more_follows last_argument w h = h
  more_follows (next_argument a e es) w h = tt

  mutual
    -- The machine takes an expression.
    pub expr_run : (e : Expr) (g : Goal) → Walks g → (gs : List Goal) (b : Book) (w : List Token) → Follows names w
        → run names (state (g ∷ gs) b) (spell_expr e ++ w)
        ≡ run names (state (g ∷ gs) (seen (shape names e) (stepped names e) b)) w
    expr_run (number n a) g walks gs b w h = walk names g walks (a_number n) tt a gs b w
        ∙ ap (λ (x : Book). run names (state (g ∷ gs) x) w) (behind_none b)
    expr_run (variable x a) g walks gs b w h =
        name_walk names g walks x a gs b w ∙ name_alone names (variable_number names x) (g ∷ gs) b w h
    expr_run (element x a is) g walks gs b w h =
        name_walk names g walks x a gs b (spell_subscripts is ++ w)
        ∙ name_indexed names (variable_number names x) is (g ∷ gs) b w
        ∙ subscripts_run is g (walks part.LeftBracket tt) gs b w
    expr_run (call x a c es d) g walks gs b w h = rw (append_assoc (spell_arguments es) (token right_paren d ∷ []) w)
        (name_walk names g walks x a gs b (token left_paren c ∷ (spell_arguments es ++ token right_paren d ∷ w))
        ∙ name_called names (variable_number names x) c (g ∷ gs) b (spell_arguments es ++ token right_paren d ∷ w)
        ∙ walk names g walks left_paren tt c gs b (spell_arguments es ++ token right_paren d ∷ w)
        ∙ arguments_run es (g ∷ gs) (told (effect.Takes mark.Opens) b) (token right_paren d ∷ w) tt
        ∙ ap (λ (y : Book). run names (state (g ∷ gs) y) w) (enclosed_seen (arguments_shape names es) (arguments_stepped names es) b))
    expr_run (stepped_behind x a d c) g walks gs b w h =
        name_walk names g walks x a gs b (token (step_sign d) c ∷ w)
        ∙ name_steps names (variable_number names x) d c (g ∷ gs) b w
        ∙ walk names g walks (step_sign d) tt c gs (seen (name_shape names x) (name_target names x) b) w
        ∙ stepped_run names (g ∷ gs) (seen (name_shape names x) (name_target names x) b) w h
    expr_run (stepped_before d a x c) g walks gs b w h =
        walk names g walks (step_sign d) tt a gs b (token (a_name x) c ∷ w)
        ∙ stepped_name names g walks x c gs b w
        ∙ stepped_alone names (variable_number names x) (g ∷ gs) b w h
    expr_run (free a c d) g walks gs b w h =
        walk names g walks nondet_word tt a gs b (token left_paren c ∷ token right_paren d ∷ w)
        ∙ walk names g walks left_paren tt c gs b (token right_paren d ∷ w)
        ∙ ap (λ (x : Book). run names (state (g ∷ gs) x) w) (empty_seen b)
    expr_run (grouped a e d) g walks gs b w h = rw (append_assoc (spell_expr e) (token right_paren d ∷ []) w)
        (walk names g walks left_paren tt a gs b (spell_expr e ++ token right_paren d ∷ w)
        ∙ expr_run e goal.Nested nested_walks (g ∷ gs) (told (effect.Takes mark.Opens) b) (token right_paren d ∷ w) tt
        ∙ ap (λ (x : Book). run names (state (g ∷ gs) x) w) (enclosed_seen (shape names e) (stepped names e) b))
    expr_run (prefixed negative a e) g walks gs b w h =
        walk names g walks (infix_sign minus_op) tt a gs b (spell_expr e ++ w) ∙ expr_run e g walks gs b w h
    expr_run (prefixed positive a e) g walks gs b w h =
        walk names g walks (infix_sign plus_op) tt a gs b (spell_expr e ++ w) ∙ expr_run e g walks gs b w h
    expr_run (prefixed negation a e) g walks gs b w h =
        walk names g walks bang tt a gs b (spell_expr e ++ w) ∙ expr_run e g walks gs b w h
    expr_run (joined e o a f) g walks gs b w h = rw (append_assoc (spell_expr e) (token (infix_sign o) a ∷ spell_expr f) w)
        (expr_run e g walks gs b (token (infix_sign o) a ∷ (spell_expr f ++ w)) (op_ends o)
        ∙ op_run names g walks o a gs (seen (shape names e) (stepped names e) b) (spell_expr f ++ w)
        ∙ expr_run f g walks gs (op_told o (seen (shape names e) (stepped names e) b)) w h
        ∙ ap (λ (x : Book). run names (state (g ∷ gs) x) w)
        (sides_seen o (shape names e) (shape names f) (stepped names e) (stepped names f) b))
    expr_run (chosen c a e d f) g walks gs b w h =
        let first : Book = seen (shape names c) (stepped names c) b in
        let second : Book = seen (shape names e) (stepped names e) (told (effect.Takes mark.Parts) first) in
        rw (
          append_assoc (spell_expr c) (token question a ∷ (spell_expr e ++ token colon d ∷ spell_expr f)) w,
          append_assoc (spell_expr e) (token colon d ∷ spell_expr f) w,
        )
        (expr_run c g walks gs b (token question a ∷ (spell_expr e ++ token colon d ∷ (spell_expr f ++ w))) tt
        ∙ walk names g walks question tt a gs first (spell_expr e ++ token colon d ∷ (spell_expr f ++ w))
        ∙ expr_run e g walks gs (told (effect.Takes mark.Parts) first) (token colon d ∷ (spell_expr f ++ w)) tt
        ∙ walk names g walks colon tt d gs second (spell_expr f ++ w)
        ∙ expr_run f g walks gs (told (effect.Takes mark.Parts) second) w h
        ∙ ap (λ (x : Book). run names (state (g ∷ gs) x) w)
        (apart_seen (shape names e) (shape names f) (stepped names e) (stepped names f) (told (effect.Takes mark.Parts) first)
        ∙ apart_seen (shape names c) (apart (shape names e) (shape names f)) (stepped names c) (stepped names e ++ stepped names f) b))

    -- It takes arguments,
    pub arguments_run : (es : Arguments) (gs : List Goal) (b : Book) (w : List Token) → Follows names w
        → run names (state (goal.Nested ∷ gs) b) (spell_arguments es ++ w)
        ≡ run names (state (goal.Nested ∷ gs) (seen (arguments_shape names es) (arguments_stepped names es) b)) w
    arguments_run no_arguments gs b w h = ap (λ (x : Book). run names (state (goal.Nested ∷ gs) x) w) (behind_none b)
    arguments_run (arguments e es) gs b w h = rw (append_assoc (spell_expr e) (spell_more_arguments es) w)
        (expr_run e goal.Nested nested_walks gs b (spell_more_arguments es ++ w) (more_follows es w h)
        ∙ more_run es (shape names e) (stepped names e) gs b w h)

    -- those behind one of this shape,
    more_run : (es : MoreArguments) (s : Shape) (ys : List ℕ) (gs : List Goal) (b : Book) (w : List Token) → Follows names w
        → run names (state (goal.Nested ∷ gs) (seen s ys b)) (spell_more_arguments es ++ w)
        ≡ run names (state (goal.Nested ∷ gs) (seen (more_shape names s es) (ys ++ more_stepped names es) b)) w
    more_run last_argument s ys gs b w h =
        ap (λ (l : List ℕ). run names (state (goal.Nested ∷ gs) (seen s l b)) w) (sym (append-nil ys))
    more_run (next_argument a e es) s ys gs b w h =
        let next : Book = told (effect.Takes mark.Parts) (seen s ys b) in
        rw (append_assoc (spell_expr e) (spell_more_arguments es) w)
        (expr_run e goal.Nested nested_walks gs next (spell_more_arguments es ++ w) (more_follows es w h)
        ∙ more_run es (shape names e) (stepped names e) gs next w h
        ∙ ap (λ (x : Book). run names (state (goal.Nested ∷ gs) x) w)
        (apart_seen s (more_shape names (shape names e) es) ys (stepped names e ++ more_stepped names es) b))

    -- and the brackets of an element.
    pub subscripts_run : (is : Subscripts) (g : Goal) → Brackets g → (gs : List Goal) (b : Book) (w : List Token)
        → run names (state (g ∷ gs) b) (spell_subscripts is ++ w)
        ≡ run names (state (g ∷ gs) (seen (subscripts_shape names is) (subscripts_stepped names is) b)) w
    subscripts_run (last_subscript a e c) g brackets gs b w = rw (append_assoc (spell_expr e) (token right_bracket c ∷ []) w)
        (entered_run names g (inner_entry g part.LeftBracket) left_bracket brackets a gs b (spell_expr e ++ token right_bracket c ∷ w)
        ∙ expr_run e goal.Nested nested_walks (g ∷ gs) (told (effect.Takes mark.Opens) b) (token right_bracket c ∷ w) tt
        ∙ ap (λ (x : Book). run names (state (g ∷ gs) x) w) (enclosed_seen (shape names e) (stepped names e) b))
    subscripts_run (next_subscript a e c is) g brackets gs b w =
        rw (append_assoc (spell_expr e) (token right_bracket c ∷ spell_subscripts is) w)
        (entered_run names g (inner_entry g part.LeftBracket) left_bracket brackets a gs b
        (spell_expr e ++ token right_bracket c ∷ (spell_subscripts is ++ w))
        ∙ expr_run e goal.Nested nested_walks (g ∷ gs) (told (effect.Takes mark.Opens) b)
        (token right_bracket c ∷ (spell_subscripts is ++ w)) tt
        ∙ ap (λ (x : Book). run names (state (g ∷ gs) x) (spell_subscripts is ++ w)) (enclosed_seen (shape names e) (stepped names e) b)
        ∙ subscripts_run is g brackets gs (seen (enclosed (shape names e)) (stepped names e) b) w
        ∙ ap (λ (x : Book). run names (state (g ∷ gs) x) w)
        (tied_seen (enclosed (shape names e)) (subscripts_shape names is) (stepped names e) (subscripts_stepped names is) b))

  -- ---- arrays
  -- a size in its brackets
  size_run : (s : Size) (gs : List Goal) (b : Book) (c : ℕ) (w : List Token)
      → run names (state (goal.Nested ∷ gs) (told (effect.Takes mark.Opens) b)) (spell_size s ++ token right_bracket c ∷ w)
      ≡ run names (state gs (seen (enclosed (size_shape names s)) [] b)) w
  size_run (number_size n a) gs b c w =
      expr_run (number n a) goal.Nested nested_walks gs (told (effect.Takes mark.Opens) b) (token right_bracket c ∷ w) tt
      ∙ ap (λ (x : Book). run names (state gs x) w) (enclosed_seen nothing [] b)
  size_run (name_size x a) gs b c w =
      expr_run (variable x a) goal.Nested nested_walks gs (told (effect.Takes mark.Opens) b) (token right_bracket c ∷ w) tt
      ∙ ap (λ (y : Book). run names (state gs y) w) (enclosed_seen (size_shape names (name_size x a)) [] b)

  -- The machine takes the sizes of an array,
  pub sizes_run : (ss : Sizes) (g : Goal) → Brackets g → (gs : List Goal) (b : Book) (w : List Token)
      → run names (state (g ∷ gs) b) (spell_sizes ss ++ w) ≡ run names (state (g ∷ gs) (seen (sizes_shape names ss) [] b)) w
  sizes_run (last_size a s c) g brackets gs b w = rw (append_assoc (spell_size s) (token right_bracket c ∷ []) w)
      (entered_run names g (inner_entry g part.LeftBracket) left_bracket brackets a gs b (spell_size s ++ token right_bracket c ∷ w)
      ∙ size_run s (g ∷ gs) b c w)
  sizes_run (next_size a s c ss) g brackets gs b w = rw (append_assoc (spell_size s) (token right_bracket c ∷ spell_sizes ss) w)
      (entered_run names g (inner_entry g part.LeftBracket) left_bracket brackets a gs b
      (spell_size s ++ token right_bracket c ∷ (spell_sizes ss ++ w))
      ∙ size_run s (g ∷ gs) b c (spell_sizes ss ++ w)
      ∙ sizes_run ss g brackets gs (seen (enclosed (size_shape names s)) [] b) w
      ∙ ap (λ (x : Book). run names (state (g ∷ gs) x) w) (tied_seen (enclosed (size_shape names s)) (sizes_shape names ss) [] [] b))

  -- what follows a value
  values_follow : (vs : MoreValues) (w : List Token) → Follows names w → Follows names (spell_more_values vs ++ w)
  values_follow last_value w h = h
  values_follow (last_comma a) w h = tt
  values_follow (next_value a v vs) w h = tt

  mutual
    -- a value of it,
    pub value_run : (v : Value) (gs : List Goal) (b : Book) (w : List Token) → Follows names w
        → run names (state (goal.Nested ∷ gs) b) (spell_value v ++ w)
        ≡ run names (state (goal.Nested ∷ gs) (seen (value_shape names v) (value_stepped names v) b)) w
    value_run (one_value e) gs b w h = expr_run e goal.Nested nested_walks gs b w h
    value_run (braced a vs c) gs b w h = rw (append_assoc (spell_values vs) (token right_brace c ∷ []) w)
        (values_run vs (goal.Nested ∷ gs) (told (effect.Takes mark.Opens) b) (token right_brace c ∷ w) tt
        ∙ ap (λ (x : Book). run names (state (goal.Nested ∷ gs) x) w) (enclosed_seen (values_shape names vs) (values_stepped names vs) b))

    -- its values,
    pub values_run : (vs : Values) (gs : List Goal) (b : Book) (w : List Token) → Follows names w
        → run names (state (goal.Nested ∷ gs) b) (spell_values vs ++ w)
        ≡ run names (state (goal.Nested ∷ gs) (seen (values_shape names vs) (values_stepped names vs) b)) w
    values_run no_values gs b w h = ap (λ (x : Book). run names (state (goal.Nested ∷ gs) x) w) (behind_none b)
    values_run (values v vs) gs b w h = rw (append_assoc (spell_value v) (spell_more_values vs) w)
        (value_run v gs b (spell_more_values vs ++ w) (values_follow vs w h)
        ∙ more_values_run vs (value_shape names v) (value_stepped names v) gs b w h)

    -- and those behind one of this shape.
    more_values_run : (vs : MoreValues) (s : Shape) (ys : List ℕ) (gs : List Goal) (b : Book) (w : List Token) → Follows names w
        → run names (state (goal.Nested ∷ gs) (seen s ys b)) (spell_more_values vs ++ w)
        ≡ run names (state (goal.Nested ∷ gs) (seen (more_values_shape names s vs) (ys ++ more_values_stepped names vs) b)) w
    more_values_run last_value s ys gs b w h =
        ap (λ (l : List ℕ). run names (state (goal.Nested ∷ gs) (seen s l b)) w) (sym (append-nil ys))
    more_values_run (last_comma a) s ys gs b w h =
        ap (λ (x : Book). run names (state (goal.Nested ∷ gs) x) w)
        (behind_none (told (effect.Takes mark.Parts) (seen s ys b)) ∙ apart_seen s nothing ys [] b)
    more_values_run (next_value a v vs) s ys gs b w h =
        let next : Book = told (effect.Takes mark.Parts) (seen s ys b) in
        rw (append_assoc (spell_value v) (spell_more_values vs) w)
        (value_run v gs next (spell_more_values vs ++ w) (values_follow vs w h)
        ∙ more_values_run vs (value_shape names v) (value_stepped names v) gs next w h
        ∙ ap (λ (x : Book). run names (state (goal.Nested ∷ gs) x) w)
        (apart_seen s (more_values_shape names (value_shape names v) vs) ys (value_stepped names v ++ more_values_stepped names vs) b))
