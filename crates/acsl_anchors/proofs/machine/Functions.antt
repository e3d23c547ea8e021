-- The machine finds the anchors of a function.
use Rattle.std.proofs.Common.{◌≡◌, ◌∙◌, ◌++◌, ◌∷◌, ℕ, Bool, true, false, cond, List, [], Option, Some, None, refl, sym, ap, append_assoc}
use Rattle.std.specs.List.{list_any}
use Rattle.std.proofs.lemmas.List.{map-append}
use Rattle.source_grammar.specs.Tokens.{comma, left_paren, right_paren, left_brace, right_brace, semicolon, step_sign, Token, token}
use Rattle.source_grammar.specs.Expressions.{update, step_before}
use Rattle.source_grammar.specs.Grammar.{Optional, spell_optional}
use Rattle.source_grammar.specs.Grammar.{Core, returns, updates, Items, no_items, label, declaration, item, GoodItems}
use Rattle.source_grammar.specs.Grammar.{ending_core}
use Rattle.source_grammar.specs.Grammar.{spell_core, spell_items, spell_declarators, Declarators, Specifiers, gives_int, gives_void}
use Rattle.source_grammar.specs.Grammar.{storage, spell_specifiers, FunctionName, called, called_main, spell_function_name, MoreParameters}
use Rattle.source_grammar.specs.Grammar.{last_parameter, next_parameter, spell_more_parameters, Parameters, no_parameters, void_parameters}
use Rattle.source_grammar.specs.Grammar.{number_size, name_size, Sizes, last_size, next_size, spell_sizes, plain_int, const_int, Bounds}
use Rattle.source_grammar.specs.Grammar.{sized_bounds, open_bound, open_bounds, spell_bounds, Parameter, number_parameter}
use Rattle.source_grammar.specs.Grammar.{pointer_parameter}
use Rattle.source_grammar.specs.Grammar.{array_parameter, spell_parameter}
use Rattle.source_grammar.specs.Grammar.{some_parameters, spell_parameters, Function, function, spell, Good, Reads}
use Rattle.source_grammar.specs.Expressions as g
use Rattle.acsl_anchors.specs.Anchors as spec
use Rattle.acsl_anchors.specs.Anchors.{Scope, no_scope, scope_parameter, end_behind, end_at, anchors_of, anchors_items}
use Rattle.acsl_anchors.specs.Anchors.{is_step, has_step}
use Rattle.acsl_anchors.specs.Anchors.{anchors_core, scope_core, scope_items, scope_declarators, scope_more_parameters, scope_parameters}
use Rattle.acsl_anchors.specs.View.{plain_anchor, plain_anchors}
use Rattle.acsl_anchors.specs.Machine.{State, state, run, start}
use Rattle.acsl_anchors.specs.declared.anchor.Anchor.{Anchor}
use Rattle.acsl_anchors.specs.declared.goal.Goal.{Goal}
use Rattle.acsl_anchors.specs.declared.goal.Goal.TheVariants as goal
use Rattle.acsl_anchors.specs.declared.goal.Place.TheVariants as place
use Rattle.acsl_anchors.proofs.machine.Skipped.{AreInner, inner_optional, declarators_run}
use Rattle.acsl_anchors.proofs.machine.Found.{core_run, items_head, goes_on, end_run}

-- ---- the front
-- What stands before the name,
specifiers_run : (ss : Specifiers) (s : Scope) (w : List Token)
    → run (state (goal.Front ∷ []) s []) (spell_specifiers ss ++ w) ≡ run (state (goal.Front ∷ []) s []) w
specifiers_run (gives_int a) s w = refl
specifiers_run (gives_void a) s w = refl
specifiers_run (storage a ss) s w = specifiers_run ss s w

-- and the name is passed over.
name_run : (x : FunctionName) (s : Scope) (w : List Token)
    → run (state (goal.Front ∷ []) s []) (spell_function_name x ++ w) ≡ run (state (goal.Front ∷ []) s []) w
name_run (called x a) s w = refl
name_run (called_main a) s w = refl

-- The sizes of a parameter behind the first are passed over,
sizes_run : (ss : Sizes) (s : Scope) (w : List Token)
    → run (state (goal.Parameters ∷ []) s []) (spell_sizes ss ++ w) ≡ run (state (goal.Parameters ∷ []) s []) w
sizes_run (last_size a (number_size m b) c) s w = refl
sizes_run (last_size a (name_size x b) c) s w = refl
sizes_run (next_size a (number_size m b) c ss) s w = sizes_run ss s w
sizes_run (next_size a (name_size x b) c ss) s w = sizes_run ss s w

-- and the first of its brackets tells that it is no variable.
bounds_run : (y : List ℕ) (bs : Bounds) (s : Scope) (w : List Token)
    → run (state (goal.NamedParameter y ∷ []) s []) (spell_bounds bs ++ w) ≡ run (state (goal.Parameters ∷ []) s []) w
bounds_run y (sized_bounds (last_size a (number_size m b) c)) s w = refl
bounds_run y (sized_bounds (last_size a (name_size x b) c)) s w = refl
bounds_run y (sized_bounds (next_size a (number_size m b) c ss)) s w = sizes_run ss s w
bounds_run y (sized_bounds (next_size a (name_size x b) c ss)) s w = sizes_run ss s w
bounds_run y (open_bound a b) s w = refl
bounds_run y (open_bounds a b ss) s w = sizes_run ss s w

-- what stands behind a parameter
abbrev FollowsParameter : List Token → Type 0
FollowsParameter [] = ⊥
FollowsParameter (token comma a ∷ ts) = Unit {0}
FollowsParameter (token right_paren a ∷ ts) = Unit {0}
FollowsParameter (token k a ∷ ts) = ⊥

-- behind the name of a number
number_run : (x : List ℕ) (s : Scope) (w : List Token) → FollowsParameter w
    → run (state (goal.NamedParameter x ∷ []) s []) w ≡ run (state (goal.Parameters ∷ []) (spec.declared x s) []) w
number_run x s [] h = absurd h
number_run x s (token comma a ∷ ts) h = refl
number_run x s (token right_paren a ∷ ts) h = refl
number_run x s (token _ a ∷ ts) h = absurd h

-- A parameter is declared.
parameter_run : (p : Parameter) (s : Scope) (w : List Token) → FollowsParameter w
    → run (state (goal.Parameters ∷ []) s []) (spell_parameter p ++ w) ≡ run (state (goal.Parameters ∷ []) (scope_parameter p s) []) w
parameter_run (number_parameter (plain_int a) x b) s w h = number_run x.text s w h
parameter_run (number_parameter (const_int a c) x b) s w h = number_run x.text s w h
parameter_run (pointer_parameter (plain_int a) b x c) s w h = refl
parameter_run (pointer_parameter (const_int a d) b x c) s w h = refl
parameter_run (array_parameter (plain_int a) x b bs) s w h = bounds_run x.text bs s w
parameter_run (array_parameter (const_int a c) x b bs) s w h = bounds_run x.text bs s w

-- what stands behind one among parameters
follows : (ps : MoreParameters) (b : ℕ) (w : List Token) → FollowsParameter (spell_more_parameters ps ++ token right_paren b ∷ w)
follows last_parameter b w = tt
follows (next_parameter a p ps) b w = tt

-- Those behind the first are declared.
more_parameters_run : (ps : MoreParameters) (b : ℕ) (s : Scope) (w : List Token)
    → run (state (goal.Parameters ∷ []) s []) (spell_more_parameters ps ++ token right_paren b ∷ w)
    ≡ run (state (goal.Parameters ∷ []) (scope_more_parameters ps s) []) w
more_parameters_run last_parameter b s w = refl
more_parameters_run (next_parameter a p ps) b s w =
    rw append_assoc (parameter_run p s _ (follows ps b w) ∙ more_parameters_run ps b (scope_parameter p s) w)

-- So are all parameters.
parameters_run : (ps : Parameters) (b : ℕ) (s : Scope) (w : List Token)
    → run (state (goal.Parameters ∷ []) s []) (spell_parameters ps ++ token right_paren b ∷ w)
    ≡ run (state (goal.Parameters ∷ []) (scope_parameters ps s) []) w
parameters_run no_parameters b s w = refl
parameters_run (void_parameters a) b s w = refl
parameters_run (some_parameters p ps) b s w =
    rw append_assoc (parameter_run p s _ (follows ps b w) ∙ more_parameters_run ps b (scope_parameter p s) w)

-- ---- the body
-- what waits for the brace behind a `return`
abbrev pending : Option ℕ → List Goal
pending None = goal.Statement place.Body ∷ []
pending (Some a) = goal.Ending a ∷ goal.Statement place.Body ∷ []

-- what is returned: behind a step the end doesn't stand before it
returned_over : (ts : List Token) → AreInner ts → (a b : ℕ) (s : Scope) (found : List Anchor) (w : List Token)
    → run (state (goal.Returned a ∷ goal.Statement place.Body ∷ []) s found) (ts ++ token semicolon b ∷ w)
    ≡ run (state (pending (cond (list_any is_step ts) None (Some a))) s found) w
returned_over [] h a b s found w = refl
returned_over (token (step_sign g) c ∷ ts) h a b s found w = end_run ts h.1 b (goal.Statement place.Body ∷ []) s found w
returned_over (token semicolon c ∷ ts) h a b s found w = absurd h.0
returned_over (token _ c ∷ ts) h a b s found w = returned_over ts h.1 a b s found w

returned_run : (t : Optional) (a b : ℕ) (s : Scope) (found : List Anchor) (w : List Token)
    → run (state (goal.Returned a ∷ goal.Statement place.Body ∷ []) s found) ((spell_optional t ++ token semicolon b ∷ []) ++ w)
    ≡ run (state (pending (cond (has_step t) None (Some a))) s found) w
returned_run t a b s found w = rw append_assoc (returned_over (spell_optional t) (inner_optional t) a b s found w)

-- where the end stands then
abbrev end_now : Option ℕ → (brace : ℕ) → ℕ
end_now None brace = brace
end_now (Some a) brace = a

-- behind a `return`, whether it has a step
end_by : (v : Bool) (a d : ℕ) → end_now (cond v None (Some a)) d ≡ cond v d a
end_by true a d = refl
end_by false a d = refl

-- A statement is no brace: a `return` before it isn't the last item.
no_ending : (o : Option ℕ) (c : Core) (s : Scope) (found : List Anchor) (w : List Token)
    → run (state (pending o) s found) (spell_core c ++ w) ≡ run (state (pending None) s found) (spell_core c ++ w)
no_ending None c s found w = refl
no_ending (Some a) (updates (update (g.place x b i) f) c) s found w = refl
no_ending (Some a) (updates (step_before d b p) c) s found w = refl
no_ending (Some a) _ s found w = refl

-- what is found behind a statement, and then in those behind it
found_then : (o : Option ℕ) (c : Core) (is : Items) (d e : ℕ) (s : Scope) (found : List Anchor) (w : List Token)
    → (run (state (pending o) (scope_core c s) (found ++ plain_anchors (anchors_core c s))) w).found
    ≡ (found ++ plain_anchors (anchors_core c s)) ++ plain_anchors (anchors_items is (scope_core c s)
    ++ end_at e (scope_items is (scope_core c s)) ∷ [])
    → (run (state (pending o) (scope_core c s) (found ++ plain_anchors (anchors_core c s))) w).found
    ≡ found ++ plain_anchors ((anchors_core c s ++ anchors_items is (scope_core c s)) ++ end_at e (scope_items is (scope_core c s)) ∷ [])
found_then o c is d e s found w h =
    let last : List spec.Anchor = end_at e (scope_items is (scope_core c s)) ∷ [] in
    h ∙ append_assoc found (plain_anchors (anchors_core c s)) (plain_anchors (anchors_items is (scope_core c s) ++ last))
    ∙ ap (λ (l : List Anchor). found ++ l) (sym (map-append plain_anchor (anchors_core c s) (anchors_items is (scope_core c s) ++ last))
    ∙ ap (λ (l : List spec.Anchor). plain_anchors l) (sym (append_assoc (anchors_core c s) (anchors_items is (scope_core c s)) last)))

-- what is found behind a declaration of the body
declared_run : (xs : Declarators) (b : ℕ) (is : Items) (d : ℕ) (s : Scope) (found : List Anchor) {last : List Anchor}
    → (run (state (pending None) (scope_declarators xs s) found) (spell_items is ++ token right_brace d ∷ [])).found ≡ last
    → (run (state (goal.Declaring ∷ goal.Statement place.Body ∷ []) s found)
    ((spell_declarators xs ++ token semicolon b ∷ spell_items is) ++ token right_brace d ∷ [])).found ≡ last
declared_run xs b is d s found h =
    rw (append_assoc (spell_declarators xs) (token semicolon b ∷ spell_items is) (token right_brace d ∷ []))
    (ap (λ (st : State). st.found) (declarators_run xs b (goal.Statement place.Body ∷ []) s found _) ∙ h)

-- The anchors of the body, and the end before its last `return` or its brace.
body_run : (is : Items) (o : Option ℕ) (d : ℕ) (s : Scope) (found : List Anchor) → GoodItems is
    → (run (state (pending o) s found) (spell_items is ++ token right_brace d ∷ [])).found
    ≡ found ++ plain_anchors (anchors_items is s ++ end_at (end_behind (end_now o d) is d) (scope_items is s) ∷ [])
body_run no_items None d s found g = refl
body_run no_items (Some a) d s found g = refl
body_run (label x a b is) None d s found g =
    body_run is None d s (found ++ plain_anchor (spec.label_at x a b s) ∷ []) g
    ∙ append_assoc found (plain_anchor (spec.label_at x a b s) ∷ []) _
body_run (label x a b is) (Some e) d s found g =
    body_run is None d s (found ++ plain_anchor (spec.label_at x a b s) ∷ []) g
    ∙ append_assoc found (plain_anchor (spec.label_at x a b s) ∷ []) _
body_run (declaration (plain_int a) xs b is) None d s found g = declared_run xs b is d s found (body_run is None d _ found g.1)
body_run (declaration (const_int a c) xs b is) None d s found g = declared_run xs b is d s found (body_run is None d _ found g.1)
body_run (declaration (plain_int a) xs b is) (Some e) d s found g = declared_run xs b is d s found (body_run is None d _ found g.1)
body_run (declaration (const_int a c) xs b is) (Some e) d s found g = declared_run xs b is d s found (body_run is None d _ found g.1)
body_run (item (returns a t b) is) o d s found g =
    ap (λ (ts : List Token). (run (state (pending o) s found) ts).found)
    (append_assoc (spell_core (returns a t b)) (spell_items is) (token right_brace d ∷ []))
    ∙ ap (λ (st : State). st.found) (no_ending o (returns a t b) s found (spell_items is ++ token right_brace d ∷ [])
    ∙ returned_run t a b s found (spell_items is ++ token right_brace d ∷ []))
    ∙ body_run is (cond (has_step t) None (Some a)) d s found g.1
    ∙ ap (λ e. found ++ plain_anchors (anchors_items is s ++ end_at (end_behind e is d) (scope_items is s) ∷ []))
    (end_by (has_step t) a d)
body_run (item c is) o d s found g =
    ap (λ (ts : List Token). (run (state (pending o) s found) ts).found)
    (append_assoc (spell_core c) (spell_items is) (token right_brace d ∷ []))
    ∙ ap (λ (st : State). st.found) (no_ending o c s found (spell_items is ++ token right_brace d ∷ [])
    ∙ core_run c place.Body tt [] s found (spell_items is ++ token right_brace d ∷ []) g.0
    (goes_on (ending_core c) (spell_items is ++ token right_brace d ∷ []) (items_head is (token right_brace d ∷ []) refl)))
    ∙ found_then None c is d (end_behind d is d) s found (spell_items is ++ token right_brace d ∷ [])
    (body_run is None d (scope_core c s) (found ++ plain_anchors (anchors_core c s)) g.1)

-- What the machine finds in the spelling of a function are its anchors.
pub function_found : (f : Function) → Good f → (run start (spell f)).found ≡ plain_anchors (anchors_of f)
function_found (function ss n a ps b c is d) h =
    ap (λ (st : State). st.found)
    (specifiers_run ss no_scope (spell_function_name n ++ token left_paren a ∷ (spell_parameters ps
    ++ token right_paren b ∷ token left_brace c ∷ (spell_items is ++ token right_brace d ∷ [])))
    ∙ (name_run n no_scope (token left_paren a ∷ (spell_parameters ps
    ++ token right_paren b ∷ token left_brace c ∷ (spell_items is ++ token right_brace d ∷ [])))
    ∙ parameters_run ps b no_scope (token left_brace c ∷ (spell_items is ++ token right_brace d ∷ []))))
    ∙ body_run is None d (scope_parameters ps no_scope) [] h

-- What the machine finds at the tokens of a function are its anchors.
pub read_found : (ts : List Token) (f : Function) → Reads ts f → (run start ts).found ≡ plain_anchors (anchors_of f)
read_found ts f reads = ap (λ (w : List Token). (run start w).found) (sym reads.spelled) ∙ function_found f reads.good
