-- The machine takes the spelling of each good tree, and counts what is open as the tree does.
use Rattle.std.proofs.Common.{◌≡◌, ◌++◌, ℕ, suc, List, [], ◌∷◌, Option, Some, None, refl, sym, subst}
use Rattle.source_grammar.specs.Tokens.{Kind, Token, token, else_word, right_paren, while_word, semicolon, Name, a_name, const_word}
use Rattle.source_grammar.specs.Tokens.{infix_sign, int_word, times_op}
use Rattle.source_grammar.specs.Grammar.{Index, no_index, index, spell_index, place, Effect, assigns, steps, spell_effect, update}
use Rattle.source_grammar.specs.Grammar.{step_before, Core, empty, block, if_alone, if_else, repeat, repeat_after, repeat_for, jumps}
use Rattle.source_grammar.specs.Grammar.{returns, demands, calls, updates, Sub, labelled, plain, Items, no_items, label, declaration}
use Rattle.source_grammar.specs.Grammar.{Ending, item, spell_core, spell_sub, spell_items, ending_core, ending_sub, GoodCore, GoodSub}
use Rattle.source_grammar.specs.Grammar.{GoodItems, Specifiers, gives_int, gives_void, storage, spell_specifiers, FunctionName, called}
use Rattle.source_grammar.specs.Grammar.{called_main, spell_function_name, MoreParameters, last_parameter, next_parameter}
use Rattle.source_grammar.specs.Grammar.{spell_more_parameters, Parameters, no_parameters, void_parameters, spell_parameters, Function}
use Rattle.source_grammar.specs.Grammar.{function, spell, Good, Bounds, Parameter, Size, Sizes, array_parameter, const_int, last_size}
use Rattle.source_grammar.specs.Grammar.{last_subscript, name_size, next_size, next_subscript, number_parameter, number_size, open_bound}
use Rattle.source_grammar.specs.Grammar.{open_bounds, plain_int, pointer_parameter, sized_bounds, some_parameters, spell_bounds}
use Rattle.source_grammar.specs.Grammar.{spell_parameter, spell_size, spell_sizes}
use Rattle.source_grammar.specs.Machine.{Goal, maybe_changes, statement, maybe_else, Site, in_sub, in_block, next, do_end, header_rest}
use Rattle.source_grammar.specs.Machine.{specifiers, function_name, parameters, more_parameters, only, closing, bracket_closing}
use Rattle.source_grammar.specs.Machine.{statement_end, run, start, bounding, maybe_size, more_sizes, parameter_name, some_type}
use Rattle.source_grammar.specs.Depth.{opens_core, opens_sub, opens_items, opens_specifiers, opens_function_name, opens_more_parameters}
use Rattle.source_grammar.specs.Depth.{opens_parameters, opens, opens_bounds, opens_parameter, opens_sizes}
use Rattle.source_grammar.specs.Verdicts.{trace}
use Rattle.source_grammar.proofs.machine.Goes.{Alike, Leads, leads_none, leads_end, leads_one, leads_then, leads_as, leads_from, alike_same}
use Rattle.source_grammar.proofs.machine.Goes.{skip_alike, Meets, First, Reaches, reaches_end, reaches_one, reaches_then}
use Rattle.source_grammar.proofs.grammar.Follow.{AfterList, AfterPart, NotElse, AfterCore, InUpdate, else_alike, after_name_starts}
use Rattle.source_grammar.proofs.grammar.Follow.{any_after, items_meet, NoBracket, bounding_alike, list_part, more_sizes_alike}
use Rattle.source_grammar.proofs.grammar.Follow.{StartsParameter, part_no_bracket, parameter_first}
use Rattle.source_grammar.proofs.grammar.TakenPieces.{Any, arguments_leads, declarators_leads, expr_leads, first_leads, index_leads}
use Rattle.source_grammar.proofs.grammar.TakenPieces.{optional_leads, place_leads, size_leads, starts, updates_leads}

-- ---- statements
-- the `else` of an `if` without one may come no more
no_else : {gs hs : List Goal} {ts : List Token} {os : List (Option ℕ)} (x : Ending) (d : ℕ)
    → Leads (AfterCore x) gs ts os (maybe_else d ∷ hs) → Leads NotElse gs ts os hs
no_else {hs} x d h = leads_as h (any_after x) (λ k l. else_alike d hs k l)

-- behind the name with which a change begins
in_update : (i : Index) (f : Effect) (w : List Token) → First InUpdate ((spell_index i ++ spell_effect f) ++ w)
in_update no_index (assigns g a e) w = tt
in_update no_index (steps g a) w = tt
in_update (index (last_subscript a e b)) f w = tt
in_update (index (next_subscript a e b is)) f w = tt

mutual
  -- the machine takes a statement without labels
  pub core_leads : (c : Core) (p : Site) (d : ℕ) (gs : List Goal) → GoodCore c
      → Leads (AfterCore (ending_core c)) (statement p d ∷ gs) (spell_core c) (opens_core d c) (next p d ++ gs)
  core_leads (empty a) p d gs g = leads_one refl refl (leads_end (next p d ++ gs))
  core_leads (block a is b) p d gs g = leads_one refl refl
      (leads_then (items_leads is (suc d) (next p d ++ gs) g) refl (leads_one refl refl (leads_end (next p d ++ gs))))
  core_leads (if_alone a b e c s) p d gs g = leads_one refl refl (leads_one refl refl
      (leads_then (expr_leads e (suc d) (only closing ∷ statement in_sub (suc d) ∷ maybe_else (suc d) ∷ (next p d ++ gs)) g.0) tt
      (leads_one refl refl (no_else (ending_sub s) (suc d) (sub_leads s (suc d) (maybe_else (suc d) ∷ (next p d ++ gs)) g.1)))))
  core_leads (if_else a b e c s i t) p d gs g = leads_one refl refl (leads_one refl refl
      (leads_then (expr_leads e (suc d) (only closing ∷ statement in_sub (suc d) ∷ maybe_else (suc d) ∷ (next p d ++ gs)) g.0) tt
      (leads_one refl refl (leads_then (sub_leads s (suc d) (maybe_else (suc d) ∷ (next p d ++ gs)) g.1)
      (subst (λ x. AfterCore x else_word) (sym g.2) tt) (leads_one refl refl (sub_leads t (suc d) (next p d ++ gs) g.3))))))
  core_leads (repeat a b e c s) p d gs g = leads_one refl refl (leads_one refl refl
      (leads_then (expr_leads e (suc d) (only closing ∷ statement in_sub (suc d) ∷ (next p d ++ gs)) g.0) tt
      (leads_one refl refl (sub_leads s (suc d) (next p d ++ gs) g.1))))
  core_leads (repeat_after a s b c e i j) p d gs g = leads_one refl refl
      (leads_then (sub_leads s (suc d) (do_end (suc d) ∷ (next p d ++ gs)) g.0) (any_after (ending_sub s) while_word refl)
      (leads_one refl refl (leads_one refl refl
      (leads_then (expr_leads e (suc d) (only closing ∷ only statement_end ∷ (next p d ++ gs)) g.1) tt
      (leads_one refl refl (leads_one refl refl (leads_end (next p d ++ gs))))))))
  core_leads (repeat_for a b f c t i us j s) p d gs g = leads_one refl refl (leads_one refl refl
      (leads_then (first_leads f (suc d) (header_rest (suc d) ∷ statement in_sub (suc d) ∷ (next p d ++ gs)) g.0) tt
      (leads_one refl refl
      (leads_then (optional_leads t (suc d)
      (only statement_end ∷ maybe_changes (suc d) ∷ only closing ∷ statement in_sub (suc d) ∷ (next p d ++ gs)) g.1) tt
      (leads_one refl refl
      (leads_then (updates_leads us (suc d) (only closing ∷ statement in_sub (suc d) ∷ (next p d ++ gs)) g.2) tt
      (leads_one refl refl (sub_leads s (suc d) (next p d ++ gs) g.3))))))))
  core_leads (jumps j a b) p d gs g = leads_one refl refl (leads_one refl refl (leads_end (next p d ++ gs)))
  core_leads (returns a t b) p d gs g = leads_one refl refl
      (leads_then (optional_leads t d (only statement_end ∷ (next p d ++ gs)) g) tt (leads_one refl refl (leads_end (next p d ++ gs))))
  core_leads (demands k a b e c i) p d gs g = leads_one refl refl (leads_one refl refl
      (leads_then (expr_leads e d (only closing ∷ only statement_end ∷ (next p d ++ gs)) g) tt
      (leads_one refl refl (leads_one refl refl (leads_end (next p d ++ gs))))))
  core_leads (calls x a b es c i) p d gs g = leads_one refl refl (leads_one refl refl
      (leads_then (arguments_leads es (suc d) (only closing ∷ only statement_end ∷ (next p d ++ gs)) g) tt
      (leads_one refl refl (leads_one refl refl (leads_end (next p d ++ gs))))))
  core_leads (updates (update (place x a i) f) c) p d gs g = leads_one refl refl
      (leads_from (starts InUpdate _ (after_name_starts p d (next p d ++ gs)) (in_update i f _))
      (leads_then (place_leads i f d (only statement_end ∷ (next p d ++ gs)) g.0 g.1) tt
      (leads_one refl refl (leads_end (next p d ++ gs)))))
  core_leads (updates (step_before h a (place x b i)) c) p d gs g = leads_one refl refl (leads_one refl refl
      (leads_then (index_leads i d (only statement_end ∷ (next p d ++ gs)) g) tt (leads_one refl refl (leads_end (next p d ++ gs)))))

  -- the machine takes a statement with its labels
  pub sub_leads : (s : Sub) (d : ℕ) (gs : List Goal) → GoodSub s
      → Leads (AfterCore (ending_sub s)) (statement in_sub d ∷ gs) (spell_sub s) (opens_sub d s) gs
  sub_leads (labelled x a b s) d gs g = leads_one refl refl (leads_one refl refl (sub_leads s d gs g))
  sub_leads (plain c) d gs g = core_leads c in_sub d gs g

  -- the machine takes the statements of a block
  pub items_leads : (is : Items) (d : ℕ) (gs : List Goal) → GoodItems is
      → Leads NotElse (statement in_block d ∷ gs) (spell_items is) (opens_items d is) (statement in_block d ∷ gs)
  items_leads no_items d gs g = leads_end (statement in_block d ∷ gs)
  items_leads (label x a b is) d gs g = leads_one refl refl (leads_one refl refl (items_leads is d gs g))
  items_leads (declaration (plain_int a) xs b is) d gs g = leads_one refl refl
      (leads_then (declarators_leads xs d (only statement_end ∷ statement in_block d ∷ gs) g.0) tt
      (leads_one refl refl (items_leads is d gs g.1)))
  items_leads (declaration (const_int a i) xs b is) d gs g = leads_one refl refl (leads_one refl refl
      (leads_then (declarators_leads xs d (only statement_end ∷ statement in_block d ∷ gs) g.0) tt
      (leads_one refl refl (items_leads is d gs g.1))))
  items_leads (item c is) d gs g =
      leads_then (core_leads c in_block d gs g.0) (items_meet (ending_core c) is) (items_leads is d gs g.1)

-- ---- functions
specifiers_lead : (ss : Specifiers) (gs : List Goal) → Leads Any (specifiers ∷ gs) (spell_specifiers ss) (opens_specifiers ss) gs
specifiers_lead (gives_int a) gs = leads_one refl refl (leads_end gs)
specifiers_lead (gives_void a) gs = leads_one refl refl (leads_end gs)
specifiers_lead (storage a ss) gs = leads_one refl refl (specifiers_lead ss gs)

name_leads : (n : FunctionName) (gs : List Goal)
    → Leads Any (function_name ∷ gs) (spell_function_name n) (opens_function_name n) gs
name_leads (called x a) gs = leads_one refl refl (leads_end gs)
name_leads (called_main a) gs = leads_one refl refl (leads_end gs)

-- the brackets of a parameter behind the first
more_sizes_lead : (ss : Sizes) (gs : List Goal) → Leads NoBracket (more_sizes ∷ gs) (spell_sizes ss) (opens_sizes ss) gs
more_sizes_lead (last_size a s b) gs = leads_one refl refl (leads_then (size_leads s (only bracket_closing ∷ more_sizes ∷ gs)) tt
    (leads_one refl refl (leads_none (more_sizes ∷ gs) gs (λ k l. more_sizes_alike gs k l))))
more_sizes_lead (next_size a s b ss) gs = leads_one refl refl (leads_then (size_leads s (only bracket_closing ∷ more_sizes ∷ gs)) tt
    (leads_one refl refl (more_sizes_lead ss gs)))

maybe_size_leads : (s : Size) (gs : List Goal) → Leads Any (maybe_size ∷ gs) (spell_size s) (None ∷ []) gs
maybe_size_leads (number_size n a) gs = leads_one refl refl (leads_end gs)
maybe_size_leads (name_size x a) gs = leads_one refl refl (leads_end gs)

bounds_lead : (bs : Bounds) (gs : List Goal) → Leads NoBracket (bounding ∷ gs) (spell_bounds bs) (opens_bounds bs) gs
bounds_lead (sized_bounds (last_size a s b)) gs = leads_one refl refl
    (leads_then (maybe_size_leads s (only bracket_closing ∷ more_sizes ∷ gs)) tt
    (leads_one refl refl (leads_none (more_sizes ∷ gs) gs (λ k l. more_sizes_alike gs k l))))
bounds_lead (sized_bounds (next_size a s b ss)) gs = leads_one refl refl
    (leads_then (maybe_size_leads s (only bracket_closing ∷ more_sizes ∷ gs)) tt (leads_one refl refl (more_sizes_lead ss gs)))
bounds_lead (open_bound a b) gs = leads_one refl refl
    (leads_one refl refl (leads_none (more_sizes ∷ gs) gs (λ k l. more_sizes_alike gs k l)))
bounds_lead (open_bounds a b ss) gs = leads_one refl refl (leads_one refl refl (more_sizes_lead ss gs))

named_leads : (x : Name) (a : ℕ) (gs : List Goal) → Leads AfterPart (parameter_name ∷ gs) (token (a_name x) a ∷ []) (None ∷ []) gs
named_leads x a gs = leads_one refl refl (leads_none (bounding ∷ gs) gs (λ k l. bounding_alike gs k (part_no_bracket k l)))

pointer_leads : (a : ℕ) (x : Name) (b : ℕ) (gs : List Goal)
    → Leads AfterPart (parameter_name ∷ gs) (token (infix_sign times_op) a ∷ token (a_name x) b ∷ []) (None ∷ None ∷ []) gs
pointer_leads a x b gs = leads_one refl refl (leads_one refl refl (leads_end gs))

array_leads : (x : Name) (a : ℕ) (bs : Bounds) (gs : List Goal)
    → Leads AfterPart (parameter_name ∷ gs) (token (a_name x) a ∷ spell_bounds bs) (None ∷ opens_bounds bs) gs
array_leads x a bs gs = leads_one refl refl (leads_as (bounds_lead bs gs) part_no_bracket (λ k l. alike_same k gs))

parameter_leads : (p : Parameter) (gs : List Goal)
    → Leads AfterPart (some_type ∷ parameter_name ∷ gs) (spell_parameter p) (opens_parameter p) gs
parameter_leads (number_parameter (plain_int i) x a) gs = leads_one refl refl (named_leads x a gs)
parameter_leads (number_parameter (const_int i j) x a) gs = leads_one refl refl (leads_one refl refl (named_leads x a gs))
parameter_leads (pointer_parameter (plain_int i) a x b) gs = leads_one refl refl (pointer_leads a x b gs)
parameter_leads (pointer_parameter (const_int i j) a x b) gs = leads_one refl refl (leads_one refl refl (pointer_leads a x b gs))
parameter_leads (array_parameter (plain_int i) x a bs) gs = leads_one refl refl (array_leads x a bs gs)
parameter_leads (array_parameter (const_int i j) x a bs) gs = leads_one refl refl (leads_one refl refl (array_leads x a bs gs))

parameters_meet : (ps : MoreParameters) → Meets AfterPart AfterList (spell_more_parameters ps)
parameters_meet last_parameter = list_part
parameters_meet (next_parameter a p ps) = tt

more_parameters_alike : (gs : List Goal) (k : Kind) → AfterList k → Alike k (more_parameters ∷ gs) gs
more_parameters_alike gs right_paren h = skip_alike more_parameters gs right_paren refl
more_parameters_alike gs semicolon h = skip_alike more_parameters gs semicolon refl
more_parameters_alike gs _ h = absurd h

more_parameters_lead : (ps : MoreParameters) (gs : List Goal)
    → Leads AfterList (more_parameters ∷ gs) (spell_more_parameters ps) (opens_more_parameters ps) gs
more_parameters_lead last_parameter gs = leads_none (more_parameters ∷ gs) gs (λ k l. more_parameters_alike gs k l)
more_parameters_lead (next_parameter a p ps) gs = leads_one refl refl
    (leads_then (parameter_leads p (more_parameters ∷ gs)) (parameters_meet ps) (more_parameters_lead ps gs))

parameters_alike : (gs : List Goal) (k : Kind) → AfterList k → Alike k (parameters ∷ gs) gs
parameters_alike gs right_paren h = skip_alike parameters gs right_paren refl
parameters_alike gs semicolon h = skip_alike parameters gs semicolon refl
parameters_alike gs _ h = absurd h

parameters_start : (gs : List Goal) (k : Kind) → StartsParameter k
    → Alike k (parameters ∷ gs) (some_type ∷ parameter_name ∷ more_parameters ∷ gs)
parameters_start gs int_word h = record { steps = refl; opens = refl }
parameters_start gs const_word h = record { steps = refl; opens = refl }
parameters_start gs _ h = absurd h

parameters_lead : (ps : Parameters) (gs : List Goal)
    → Leads AfterList (parameters ∷ gs) (spell_parameters ps) (opens_parameters ps) gs
parameters_lead no_parameters gs = leads_none (parameters ∷ gs) gs (λ k l. parameters_alike gs k l)
parameters_lead (void_parameters a) gs = leads_one refl refl (leads_end gs)
parameters_lead (some_parameters p ps) gs = leads_from (starts StartsParameter _ (parameters_start gs) (parameter_first p _))
    (leads_then (parameter_leads p (more_parameters ∷ gs)) (parameters_meet ps) (more_parameters_lead ps gs))

name_meets : (n : FunctionName) (w : List Token) → First Any (spell_function_name n ++ w)
name_meets (called x a) w = tt
name_meets (called_main a) w = tt

-- The machine takes a whole function, and ends with nothing that has to come.
function_reaches : (f : Function) → Good f → Reaches start (spell f) (opens f) []
function_reaches (function ss n a ps b c is d) g = reaches_then (specifiers_lead ss _) (name_meets n _) (reaches_then (name_leads n _) tt
    (reaches_one refl refl (reaches_then (parameters_lead ps _) tt (reaches_one refl refl (reaches_one refl refl
    (reaches_then (items_leads is 0 [] g) refl (reaches_one refl refl (reaches_end []))))))))

-- Each function's spelling is accepted.
pub accepted : (f : Function) → Good f → run start (spell f) ≡ Some []
accepted f g = (function_reaches f g).runs

-- Each function's tokens open what the machine says.
pub traced : (f : Function) → Good f → trace start (spell f) ≡ opens f
traced f g = (function_reaches f g).traced
