-- The machine over a function.
use Rattle.std.proofs.Common.{◌≡◌, ◌∙◌, ◌++◌, ◌∷◌, ℕ, List, [], Option, Some, None, refl, sym, ap, append_assoc}
use Rattle.source_grammar.specs.Tokens.{left_paren, right_paren, left_brace, right_brace, right_bracket, Name, Token, token}
use Rattle.source_grammar.specs.Grammar.{spell_items, Specifiers, gives_int, gives_void, storage, spell_specifiers, FunctionName}
use Rattle.source_grammar.specs.Grammar.{called, called_main, spell_function_name, MoreParameters, last_parameter, next_parameter}
use Rattle.source_grammar.specs.Grammar.{spell_more_parameters, Parameters, no_parameters, void_parameters, some_parameters}
use Rattle.source_grammar.specs.Grammar.{number_size, name_size, Sizes, last_size, next_size, spell_sizes, plain_int, const_int, Bounds}
use Rattle.source_grammar.specs.Grammar.{sized_bounds, open_bound, open_bounds, spell_bounds, Parameter, number_parameter, spell_parameter}
use Rattle.source_grammar.specs.Grammar.{pointer_parameter, array_parameter, spell_parameters, Function, function, spell, Good, Reads}
use Rattle.source_packs.specs.Shapes.{variable_number}
use Rattle.source_packs.specs.Parts.{number_part}
use Rattle.source_packs.specs.Machine.{Book, State, state, step, run, start, no_book}
use Rattle.source_packs.specs.declared.goal.Goal.TheVariants as goal
use Rattle.source_packs.proofs.machine.Statements.{items_book, items_run}

module _ (names : List (List ℕ)) where
  -- A name is passed over before the parameters
  front_name : (o : Option ℕ) (b : Book) (w : List Token)
      → run names (step (goal.Front ∷ []) (number_part o) b) w ≡ run names (state (goal.Front ∷ []) b) w
  front_name None b w = refl
  front_name (Some i) b w = refl

  -- and among them.
  parameter_name : (x : Name) (b : Book) (w : List Token)
      → run names (step (goal.Parameters ∷ []) (number_part (variable_number names x)) b) w
      ≡ run names (state (goal.Parameters ∷ []) b) w
  parameter_name x b w = by (variable_number names x) where
    by : (o : Option ℕ) → run names (step (goal.Parameters ∷ []) (number_part o) b) w ≡ run names (state (goal.Parameters ∷ []) b) w
    by None = refl
    by (Some i) = refl

  -- What stands before a function's name,
  specifiers_run : (ss : Specifiers) (b : Book) (w : List Token)
      → run names (state (goal.Front ∷ []) b) (spell_specifiers ss ++ w) ≡ run names (state (goal.Front ∷ []) b) w
  specifiers_run (gives_int a) b w = refl
  specifiers_run (gives_void a) b w = refl
  specifiers_run (storage a ss) b w = specifiers_run ss b w

  -- its name,
  name_run : (x : FunctionName) (b : Book) (w : List Token)
      → run names (state (goal.Front ∷ []) b) (spell_function_name x ++ w) ≡ run names (state (goal.Front ∷ []) b) w
  name_run (called x a) b w = front_name (variable_number names x) b w
  name_run (called_main a) b w = refl

  -- the sizes of a parameter,
  sizes_run : (ss : Sizes) (b : Book) (w : List Token)
      → run names (state (goal.Parameters ∷ []) b) (spell_sizes ss ++ w) ≡ run names (state (goal.Parameters ∷ []) b) w
  sizes_run (last_size a (number_size m c) d) b w = refl
  sizes_run (last_size a (name_size x c) d) b w = parameter_name x b (token right_bracket d ∷ w)
  sizes_run (next_size a (number_size m c) d ss) b w = sizes_run ss b w
  sizes_run (next_size a (name_size x c) d ss) b w = parameter_name x b (token right_bracket d ∷ (spell_sizes ss ++ w)) ∙ sizes_run ss b w

  -- its brackets,
  bounds_run : (bs : Bounds) (b : Book) (w : List Token)
      → run names (state (goal.Parameters ∷ []) b) (spell_bounds bs ++ w) ≡ run names (state (goal.Parameters ∷ []) b) w
  bounds_run (sized_bounds ss) b w = sizes_run ss b w
  bounds_run (open_bound a c) b w = refl
  bounds_run (open_bounds a c ss) b w = sizes_run ss b w

  -- a parameter,
  parameter_run : (p : Parameter) (b : Book) (w : List Token)
      → run names (state (goal.Parameters ∷ []) b) (spell_parameter p ++ w) ≡ run names (state (goal.Parameters ∷ []) b) w
  parameter_run (number_parameter (plain_int a) x c) b w = parameter_name x b w
  parameter_run (number_parameter (const_int a d) x c) b w = parameter_name x b w
  parameter_run (pointer_parameter (plain_int a) c x d) b w = parameter_name x b w
  parameter_run (pointer_parameter (const_int a e) c x d) b w = parameter_name x b w
  parameter_run (array_parameter (plain_int a) x c bs) b w = parameter_name x b (spell_bounds bs ++ w) ∙ bounds_run bs b w
  parameter_run (array_parameter (const_int a d) x c bs) b w = parameter_name x b (spell_bounds bs ++ w) ∙ bounds_run bs b w

  -- those behind the first,
  more_parameters_run : (ps : MoreParameters) (b : Book) (w : List Token)
      → run names (state (goal.Parameters ∷ []) b) (spell_more_parameters ps ++ w) ≡ run names (state (goal.Parameters ∷ []) b) w
  more_parameters_run last_parameter b w = refl
  more_parameters_run (next_parameter a p ps) b w = rw (append_assoc (spell_parameter p) (spell_more_parameters ps) w)
      (parameter_run p b (spell_more_parameters ps ++ w) ∙ more_parameters_run ps b w)

  -- and all parameters are passed over.
  parameters_run : (ps : Parameters) (b : Book) (w : List Token)
      → run names (state (goal.Parameters ∷ []) b) (spell_parameters ps ++ w) ≡ run names (state (goal.Parameters ∷ []) b) w
  parameters_run no_parameters b w = refl
  parameters_run (void_parameters a) b w = refl
  parameters_run (some_parameters p ps) b w = rw (append_assoc (spell_parameter p) (spell_more_parameters ps) w)
      (parameter_run p b (spell_more_parameters ps ++ w) ∙ more_parameters_run ps b w)

  -- the book behind a function
  abbrev pub function_book : Function → Book
  function_book (function ss n a ps b c is d) = items_book names is no_book

  -- The machine takes a function.
  function_run : (f : Function) → Good f → (run names start (spell f)).written ≡ function_book f
  function_run (function ss n a ps b c is d) g = ap (λ (st : State). st.written)
      (specifiers_run ss no_book (spell_function_name n ++ token left_paren a ∷ (spell_parameters ps
      ++ token right_paren b ∷ token left_brace c ∷ (spell_items is ++ token right_brace d ∷ [])))
      ∙ name_run n no_book (token left_paren a ∷ (spell_parameters ps
      ++ token right_paren b ∷ token left_brace c ∷ (spell_items is ++ token right_brace d ∷ [])))
      ∙ parameters_run ps no_book (token right_paren b ∷ token left_brace c ∷ (spell_items is ++ token right_brace d ∷ []))
      ∙ items_run names is [] no_book (token right_brace d ∷ []) g refl)

  -- It takes tokens that read as one.
  pub read_run : (ts : List Token) (f : Function) → Reads ts f → (run names start ts).written ≡ function_book f
  read_run ts f reads = ap (λ (w : List Token). (run names start w).written) (sym reads.spelled) ∙ function_run f reads.good
