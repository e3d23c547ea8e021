-- The machine over changes and declarations.
use Rattle.std.proofs.Common.{◌≡◌, ◌∙◌, ◌++◌, ◌∷◌, ℕ, Bool, true, false, Option, Some, None, List, [], refl, ap, append_assoc}
use Rattle.source_grammar.specs.Tokens.{replaces, Kind, right_paren, left_brace, right_brace, comma, semicolon, change_sign, step_sign}
use Rattle.source_grammar.specs.Tokens.{Name, Token, token}
use Rattle.source_grammar.specs.Expressions.{no_index, index, Place, place, Effect, assigns, steps, Update, update, step_before}
use Rattle.source_grammar.specs.Expressions.{MoreUpdates, last_update, next_update, Updates, no_updates, some_updates, spell_expr}
use Rattle.source_grammar.specs.Expressions.{spell_subscripts, spell_place, spell_effect, spell_update, spell_more_updates, spell_updates}
use Rattle.source_grammar.specs.Grammar.{bare, given, sized, filled, Sizes, last_size, next_size, spell_sizes, spell_values, Initialiser}
use Rattle.source_grammar.specs.Grammar.{Declarator, declarator, MoreDeclarators, last_declarator, next_declarator, Declarators, declares}
use Rattle.source_grammar.specs.Grammar.{spell_declarator, spell_more_declarators, spell_declarators, ForFirst, declared_first}
use Rattle.source_grammar.specs.Grammar.{updated_first, plain_int, const_int, spell_first}
use Rattle.lang_groups.specs.Shapes.{enclosed}
use Rattle.lang_groups.specs.declared.mark.Mark.TheVariants as mark
use Rattle.source_packs.specs.Shapes.{variable_number, name_shape, shape, place_shape, update_shape, sizes_shape, values_shape}
use Rattle.source_packs.specs.Shapes.{declared_shape}
use Rattle.source_packs.specs.Targets.{name_target, stepped, place_targets, update_targets, values_stepped, declared_targets}
use Rattle.source_packs.specs.Machine.{Book, told, state, run, left_on}
use Rattle.source_packs.specs.declared.part.Part.TheVariants as part
use Rattle.source_packs.specs.declared.goal.Stop.{Stop}
use Rattle.source_packs.specs.declared.goal.Stop.TheVariants as stop
use Rattle.source_packs.specs.declared.goal.Goal.{Goal}
use Rattle.source_packs.specs.declared.goal.Goal.TheVariants as goal
use Rattle.source_packs.specs.declared.goal.Effect.TheVariants as effect
use Rattle.source_packs.proofs.machine.Books.{seen, apart_seen, enclosed_seen}
use Rattle.source_packs.proofs.machine.Steps.{right_walks, left_goes, left_changes, Follows, entered_run, left_name, name_alone}
use Rattle.source_packs.proofs.machine.Steps.{name_steps, name_changes, name_indexed, stepped_run, stepped_name, stepped_alone}
use Rattle.source_packs.proofs.machine.Steps.{stepped_indexed, name_goals}
use Rattle.source_packs.proofs.machine.Expressions.{Brackets, expr_run, subscripts_run, sizes_run, values_run}

-- the token of an end
abbrev pub stop_sign : Stop → Kind
stop_sign stop.Semicolon = semicolon
stop_sign stop.Paren = right_paren

-- brackets before and behind the sign of a change
left_brackets : (s : Stop) → Brackets (goal.Left s)
left_brackets s = left_goes s part.LeftBracket tt

right_brackets : (s : Stop) → Brackets (goal.Right s)
right_brackets s = right_walks s part.LeftBracket tt

module _ (names : List (List ℕ)) where
  -- the sign of a change, or of a step, and what stands behind it
  abbrev effect_book : Effect → Book → Book
  effect_book (assigns g a e) b = seen (shape names e) (stepped names e) (told (effect.Takes mark.Parts) b)
  effect_book (steps d a) b = b

  effect_run : (f : Effect) (s : Stop) (gs : List Goal) (b : Book) (w : List Token) → Follows names w
      → run names (state (goal.Left s ∷ gs) b) (spell_effect f ++ w) ≡ run names (state (goal.Right s ∷ gs) (effect_book f b)) w
  effect_run (assigns g a e) s gs b w h =
      entered_run names (goal.Left s) (left_on s part.Change) (change_sign g) (left_changes s) a gs b (spell_expr e ++ w)
      ∙ expr_run names e (goal.Right s) (right_walks s) gs (told (effect.Takes mark.Parts) b) w h
  effect_run (steps d a) s gs b w h =
      entered_run names (goal.Left s) (left_on s part.Step) (step_sign d) (left_goes s part.Step tt) a gs b w
      ∙ stepped_run names (goal.Right s ∷ gs) b w h

  -- the place before it
  place_run : (p : Place) (f : Effect) (s : Stop) (gs : List Goal) (b : Book) (w : List Token)
      → run names (state (goal.Left s ∷ gs) b) (spell_place p ++ (spell_effect f ++ w))
      ≡ run names (state (goal.Left s ∷ gs) (seen (place_shape names p) (place_targets names p) b)) (spell_effect f ++ w)
  place_run (place x a no_index) (assigns g c e) s gs b w =
      left_name names s x a gs b (token (change_sign g) c ∷ (spell_expr e ++ w))
      ∙ name_changes names (variable_number names x) g c (goal.Left s ∷ gs) b (spell_expr e ++ w)
  place_run (place x a no_index) (steps d c) s gs b w =
      left_name names s x a gs b (token (step_sign d) c ∷ w)
      ∙ name_steps names (variable_number names x) d c (goal.Left s ∷ gs) b w
  place_run (place x a (index is)) f s gs b w =
      left_name names s x a gs b (spell_subscripts is ++ (spell_effect f ++ w))
      ∙ name_indexed names (variable_number names x) is (goal.Left s ∷ gs) b (spell_effect f ++ w)
      ∙ subscripts_run names is (goal.Left s) (left_brackets s) gs b (spell_effect f ++ w)

  -- both
  effect_seen : (p : Place) (f : Effect) (b : Book)
      → effect_book f (seen (place_shape names p) (place_targets names p) b)
      ≡ seen (update_shape names (update p f)) (update_targets names (update p f)) b
  effect_seen p (assigns g a e) b = apart_seen (place_shape names p) (shape names e) (place_targets names p) (stepped names e) b
  effect_seen p (steps d a) b = refl

  -- the place behind a step
  stepped_place_run : (p : Place) (s : Stop) (gs : List Goal) (b : Book) (w : List Token) → Follows names w
      → run names (state (goal.Stepped ∷ goal.Right s ∷ gs) b) (spell_place p ++ w)
      ≡ run names (state (goal.Right s ∷ gs) (seen (place_shape names p) (place_targets names p) b)) w
  stepped_place_run (place x a no_index) s gs b w h =
      stepped_name names (goal.Right s) (right_walks s) x a gs b w
      ∙ stepped_alone names (variable_number names x) (goal.Right s ∷ gs) b w h
  stepped_place_run (place x a (index is)) s gs b w h =
      stepped_name names (goal.Right s) (right_walks s) x a gs b (spell_subscripts is ++ w)
      ∙ stepped_indexed names (variable_number names x) is (goal.Right s ∷ gs) b w
      ∙ subscripts_run names is (goal.Right s) (right_brackets s) gs b w

  -- the book behind a change
  abbrev pub update_book : Update → Book → Book
  update_book u b = seen (update_shape names u) (update_targets names u) b

  -- The machine takes a change,
  pub update_run : (u : Update) (s : Stop) (gs : List Goal) (b : Book) (w : List Token) → Follows names w
      → run names (state (goal.Left s ∷ gs) b) (spell_update u ++ w) ≡ run names (state (goal.Right s ∷ gs) (update_book u b)) w
  update_run (update p f) s gs b w h = rw (append_assoc (spell_place p) (spell_effect f) w)
      (place_run p f s gs b w
      ∙ effect_run f s gs (seen (place_shape names p) (place_targets names p) b) w h
      ∙ ap (λ (x : Book). run names (state (goal.Right s ∷ gs) x) w) (effect_seen p f b))
  update_run (step_before d a p) s gs b w h =
      entered_run names (goal.Left s) (left_on s part.Step) (step_sign d) (left_goes s part.Step tt) a gs b (spell_place p ++ w)
      ∙ stepped_place_run p s gs b w h

  -- ---- changes with a comma between them
  -- the book behind those behind the first, and their end
  abbrev pub more_updates_book : MoreUpdates → Book → Book
  more_updates_book last_update b = told effect.EndsTogether b
  more_updates_book (next_update a u us) b = more_updates_book us (update_book u (told effect.EndsTogether b))

  -- behind all
  abbrev pub updates_book : Updates → Book → Book
  updates_book no_updates b = told effect.Ends b
  updates_book (some_updates u us) b = more_updates_book us (update_book u b)

  -- what follows a change
  updates_follow : (us : MoreUpdates) (s : Stop) (c : ℕ) (w : List Token)
      → Follows names (spell_more_updates us ++ token (stop_sign s) c ∷ w)
  updates_follow last_update stop.Semicolon c w = tt
  updates_follow last_update stop.Paren c w = tt
  updates_follow (next_update a u us) s c w = tt

  -- a comma ends one
  comma_run : (s : Stop) (a : ℕ) (gs : List Goal) (b : Book) (w : List Token)
      → run names (state (goal.Right s ∷ gs) b) (token comma a ∷ w)
      ≡ run names (state (goal.Left s ∷ gs) (told effect.EndsTogether b)) w
  comma_run stop.Semicolon a gs b w = refl
  comma_run stop.Paren a gs b w = refl

  -- those behind the first,
  more_updates_run : (us : MoreUpdates) (s : Stop) (c : ℕ) (gs : List Goal) (b : Book) (w : List Token)
      → run names (state (goal.Right s ∷ gs) b) (spell_more_updates us ++ token (stop_sign s) c ∷ w)
      ≡ run names (state gs (more_updates_book us b)) w
  more_updates_run last_update stop.Semicolon c gs b w = refl
  more_updates_run last_update stop.Paren c gs b w = refl
  more_updates_run (next_update a u us) s c gs b w =
      rw (append_assoc (spell_update u) (spell_more_updates us) (token (stop_sign s) c ∷ w))
      (comma_run s a gs b (spell_update u ++ (spell_more_updates us ++ token (stop_sign s) c ∷ w))
      ∙ update_run u s gs (told effect.EndsTogether b) (spell_more_updates us ++ token (stop_sign s) c ∷ w) (updates_follow us s c w)
      ∙ more_updates_run us s c gs (update_book u (told effect.EndsTogether b)) w)

  -- and changes up to their end.
  pub updates_run : (us : Updates) (s : Stop) (c : ℕ) (gs : List Goal) (b : Book) (w : List Token)
      → run names (state (goal.Left s ∷ gs) b) (spell_updates us ++ token (stop_sign s) c ∷ w)
      ≡ run names (state gs (updates_book us b)) w
  updates_run no_updates stop.Semicolon c gs b w = refl
  updates_run no_updates stop.Paren c gs b w = refl
  updates_run (some_updates u us) s c gs b w =
      rw (append_assoc (spell_update u) (spell_more_updates us) (token (stop_sign s) c ∷ w))
      (update_run u s gs b (spell_more_updates us ++ token (stop_sign s) c ∷ w) (updates_follow us s c w)
      ∙ more_updates_run us s c gs (update_book u b) w)

  -- ---- declarations
  -- what ends a declarator: a comma, or the semicolon
  abbrev end_sign : (more : Bool) → Kind
  end_sign true = comma
  end_sign false = semicolon

  -- and what has to come then
  abbrev end_goals : (more : Bool) → List Goal → List Goal
  end_goals true gs = goal.Left stop.Semicolon ∷ gs
  end_goals false gs = gs

  ends_follow : (more : Bool) (c : ℕ) (w : List Token) → Follows names (token (end_sign more) c ∷ w)
  ends_follow true c w = tt
  ends_follow false c w = tt

  left_ends : (more : Bool) (c : ℕ) (gs : List Goal) (b : Book) (w : List Token)
      → run names (state (goal.Left stop.Semicolon ∷ gs) b) (token (end_sign more) c ∷ w)
      ≡ run names (state (end_goals more gs) (told effect.Ends b)) w
  left_ends true c gs b w = refl
  left_ends false c gs b w = refl

  right_ends : (more : Bool) (c : ℕ) (gs : List Goal) (b : Book) (w : List Token)
      → run names (state (goal.Right stop.Semicolon ∷ gs) b) (token (end_sign more) c ∷ w)
      ≡ run names (state (end_goals more gs) (told effect.EndsTogether b)) w
  right_ends true c gs b w = refl
  right_ends false c gs b w = refl

  -- the name of an array is none of a variable
  name_sized : (ss : Sizes) (x : Name) (a : ℕ) (gs : List Goal) (b : Book) (w : List Token)
      → run names (state (name_goals names (variable_number names x) gs) b) (spell_sizes ss ++ w)
      ≡ run names (state gs b) (spell_sizes ss ++ w)
  name_sized ss x a gs b w = by (variable_number names x) ss where
    by : (o : Option ℕ) (ss : Sizes)
        → run names (state (name_goals names o gs) b) (spell_sizes ss ++ w) ≡ run names (state gs b) (spell_sizes ss ++ w)
    by None ss = refl
    by (Some i) (last_size c s d) = refl
    by (Some i) (next_size c s d ts) = refl

  -- the book behind a declarator and its end
  abbrev pub declared_book : Name → Initialiser → Book → Book
  declared_book x bare b = told effect.Ends (seen (declared_shape names x bare) [] b)
  declared_book x (given a e) b =
      told effect.EndsTogether (seen (declared_shape names x (given a e)) (declared_targets names x (given a e)) b)
  declared_book x (sized ss) b = told effect.Ends (seen (declared_shape names x (sized ss)) [] b)
  declared_book x (filled ss a c vs d) b =
      told effect.EndsTogether (seen (declared_shape names x (filled ss a c vs d)) (declared_targets names x (filled ss a c vs d)) b)

  abbrev pub declarator_book : Declarator → Book → Book
  declarator_book (declarator x a i) b = declared_book x i b

  -- a declarator with its end
  declarator_run : (d : Declarator) (more : Bool) (c : ℕ) (gs : List Goal) (b : Book) (w : List Token)
      → run names (state (goal.Left stop.Semicolon ∷ gs) b) (spell_declarator d ++ token (end_sign more) c ∷ w)
      ≡ run names (state (end_goals more gs) (declarator_book d b)) w
  declarator_run (declarator x a bare) more c gs b w =
      left_name names stop.Semicolon x a gs b (token (end_sign more) c ∷ w)
      ∙ name_alone names (variable_number names x) (goal.Left stop.Semicolon ∷ gs) b (token (end_sign more) c ∷ w) (ends_follow more c w)
      ∙ left_ends more c gs (seen (name_shape names x) [] b) w
  declarator_run (declarator x a (given d e)) more c gs b w =
      left_name names stop.Semicolon x a gs b (token (change_sign replaces) d ∷ (spell_expr e ++ token (end_sign more) c ∷ w))
      ∙ name_changes names (variable_number names x) replaces d (goal.Left stop.Semicolon ∷ gs) b
      (spell_expr e ++ token (end_sign more) c ∷ w)
      ∙ effect_run (assigns replaces d e) stop.Semicolon gs (seen (name_shape names x) (name_target names x) b)
      (token (end_sign more) c ∷ w) (ends_follow more c w)
      ∙ right_ends more c gs _ w
      ∙ ap (λ (y : Book). run names (state (end_goals more gs) (told effect.EndsTogether y)) w)
      (apart_seen (name_shape names x) (shape names e) (name_target names x) (stepped names e) b)
  declarator_run (declarator x a (sized ss)) more c gs b w =
      left_name names stop.Semicolon x a gs b (spell_sizes ss ++ token (end_sign more) c ∷ w)
      ∙ name_sized ss x a (goal.Left stop.Semicolon ∷ gs) b (token (end_sign more) c ∷ w)
      ∙ sizes_run names ss (goal.Left stop.Semicolon) (left_brackets stop.Semicolon) gs b (token (end_sign more) c ∷ w)
      ∙ left_ends more c gs (seen (sizes_shape names ss) [] b) w
  declarator_run (declarator x a (filled ss d i vs j)) more c gs b w =
      let sizes : Book = seen (sizes_shape names ss) [] b in
      let equal : Book = told (effect.Takes mark.Parts) sizes in
      rw (
        append_assoc (spell_sizes ss) (token (change_sign replaces) d ∷ token left_brace i ∷ (spell_values vs ++ token right_brace j ∷ []))
            (token (end_sign more) c ∷ w),
        append_assoc (spell_values vs) (token right_brace j ∷ []) (token (end_sign more) c ∷ w),
      )
      (left_name names stop.Semicolon x a gs b (spell_sizes ss ++ token (change_sign replaces) d ∷ token left_brace i
      ∷ (spell_values vs ++ token right_brace j ∷ token (end_sign more) c ∷ w))
      ∙ name_sized ss x a (goal.Left stop.Semicolon ∷ gs) b (token (change_sign replaces) d ∷ token left_brace i
      ∷ (spell_values vs ++ token right_brace j ∷ token (end_sign more) c ∷ w))
      ∙ sizes_run names ss (goal.Left stop.Semicolon) (left_brackets stop.Semicolon) gs b (token (change_sign replaces) d
      ∷ token left_brace i ∷ (spell_values vs ++ token right_brace j ∷ token (end_sign more) c ∷ w))
      ∙ values_run names vs (goal.Right stop.Semicolon ∷ gs) (told (effect.Takes mark.Opens) equal)
      (token right_brace j ∷ token (end_sign more) c ∷ w) tt
      ∙ ap (λ (y : Book). run names (state (goal.Right stop.Semicolon ∷ gs) y) (token (end_sign more) c ∷ w))
      (enclosed_seen (values_shape names vs) (values_stepped names vs) equal
      ∙ apart_seen (sizes_shape names ss) (enclosed (values_shape names vs)) [] (values_stepped names vs) b)
      ∙ right_ends more c gs _ w)

  -- the book behind those behind the first
  abbrev pub more_declarators_book : MoreDeclarators → Book → Book
  more_declarators_book last_declarator b = b
  more_declarators_book (next_declarator a d ds) b = more_declarators_book ds (declarator_book d b)

  -- behind all
  abbrev pub declarators_book : Declarators → Book → Book
  declarators_book (declares d ds) b = more_declarators_book ds (declarator_book d b)

  -- one and those behind it
  more_declarators_run : (d : Declarator) (ds : MoreDeclarators) (c : ℕ) (gs : List Goal) (b : Book) (w : List Token)
      → run names (state (goal.Left stop.Semicolon ∷ gs) b) (spell_declarator d ++ (spell_more_declarators ds ++ token semicolon c ∷ w))
      ≡ run names (state gs (more_declarators_book ds (declarator_book d b))) w
  more_declarators_run d last_declarator c gs b w = declarator_run d false c gs b w
  more_declarators_run d (next_declarator a e es) c gs b w =
      rw (append_assoc (spell_declarator e) (spell_more_declarators es) (token semicolon c ∷ w))
      (declarator_run d true a gs b (spell_declarator e ++ (spell_more_declarators es ++ token semicolon c ∷ w))
      ∙ more_declarators_run e es c gs (declarator_book d b) w)

  -- The machine takes declarators up to their end,
  pub declarators_run : (ds : Declarators) (c : ℕ) (gs : List Goal) (b : Book) (w : List Token)
      → run names (state (goal.Left stop.Semicolon ∷ gs) b) (spell_declarators ds ++ token semicolon c ∷ w)
      ≡ run names (state gs (declarators_book ds b)) w
  declarators_run (declares d ds) c gs b w = rw (append_assoc (spell_declarator d) (spell_more_declarators ds) (token semicolon c ∷ w))
      (more_declarators_run d ds c gs b w)

  -- the book behind the first part of a `for`'s head
  abbrev pub first_book : ForFirst → Book → Book
  first_book (declared_first t ds) b = declarators_book ds b
  first_book (updated_first us) b = updates_book us b

  -- and that part.
  pub first_run : (f : ForFirst) (c : ℕ) (gs : List Goal) (b : Book) (w : List Token)
      → run names (state (goal.Left stop.Semicolon ∷ gs) b) (spell_first f ++ token semicolon c ∷ w)
      ≡ run names (state gs (first_book f b)) w
  first_run (declared_first (plain_int a) ds) c gs b w = declarators_run ds c gs b w
  first_run (declared_first (const_int a d) ds) c gs b w = declarators_run ds c gs b w
  first_run (updated_first us) c gs b w = updates_run us stop.Semicolon c gs b w
