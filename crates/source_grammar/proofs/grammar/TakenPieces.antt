-- The machine takes the spelling of each good expression, change and declaration, and counts what is open as the tree does.
use Rattle.std.proofs.Common.{◌++◌, ◌≤◌, ◌<◌, ℕ, suc, List, [], ◌∷◌, Option, None, refl, arith}
use Rattle.source_grammar.specs.Tokens.{Kind, Token, token, level, Op, compare_op, equal, negative, positive, negation}
use Rattle.source_grammar.specs.Grammar.{Groups, Expr, number, variable, element, call, free, grouped, prefixed, joined, chosen, spell_expr}
use Rattle.source_grammar.specs.Grammar.{Arguments, no_arguments, arguments, spell_arguments, GoodArguments, MoreArguments, last_argument}
use Rattle.source_grammar.specs.Grammar.{next_argument, spell_more_arguments, GoodMoreArguments, Optional, absent, present, spell_optional}
use Rattle.source_grammar.specs.Grammar.{GoodOptional, Index, no_index, index, spell_index, GoodIndex, place, Effect, assigns, steps}
use Rattle.source_grammar.specs.Grammar.{spell_effect, GoodEffect, Update, update, step_before, spell_update, GoodUpdate, MoreUpdates}
use Rattle.source_grammar.specs.Grammar.{last_update, next_update, spell_more_updates, GoodMoreUpdates, Updates, no_updates, some_updates}
use Rattle.source_grammar.specs.Grammar.{spell_updates, GoodUpdates, Initialiser, bare, given, sized, spell_initialiser, GoodInitialiser}
use Rattle.source_grammar.specs.Grammar.{Declarator, declarator, spell_declarator, GoodDeclarator, MoreDeclarators, last_declarator}
use Rattle.source_grammar.specs.Grammar.{next_declarator, spell_more_declarators, GoodMoreDeclarators, Declarators, declares}
use Rattle.source_grammar.specs.Grammar.{spell_declarators, GoodDeclarators, ForFirst, declared_first, updated_first, spell_first}
use Rattle.source_grammar.specs.Grammar.{GoodFirst, GoodMoreValues, GoodSubscripts, GoodValue, GoodValues, MoreValues, Size, Sizes}
use Rattle.source_grammar.specs.Grammar.{Subscripts, Value, Values, braced, const_int, filled, last_comma, last_size, last_subscript}
use Rattle.source_grammar.specs.Grammar.{last_value, name_size, next_size, next_subscript, next_value, no_values, number_size, one_value}
use Rattle.source_grammar.specs.Grammar.{plain_int, spell_more_values, spell_size, spell_sizes, spell_subscripts, spell_value, spell_values}
use Rattle.source_grammar.specs.Grammar.{stepped_before, stepped_behind, values}
use Rattle.source_grammar.specs.Machine.{Goal, operand, named, more, maybe_expr, maybe_arguments, more_arguments, indexing, effect}
use Rattle.source_grammar.specs.Machine.{changing, more_changes, maybe_changes, declaring, initialising, more_declarators, header_first}
use Rattle.source_grammar.specs.Machine.{only, closing, bracket_closing, colon_mark, brace_closing, maybe_values, more_values, sizing}
use Rattle.source_grammar.specs.Machine.{some_size}
use Rattle.source_grammar.specs.Depth.{opens_expr, opens_arguments, opens_more_arguments, opens_optional, opens_index, opens_effect}
use Rattle.source_grammar.specs.Depth.{opens_update, opens_more_updates, opens_updates, opens_initialiser, opens_declarator}
use Rattle.source_grammar.specs.Depth.{opens_more_declarators, opens_declarators, opens_first, opens_more_values, opens_sizes}
use Rattle.source_grammar.specs.Depth.{opens_subscripts, opens_value, opens_values}
use Rattle.source_grammar.proofs.machine.Goes.{Alike, Leads, leads_none, leads_end, leads_one, leads_then, leads_as, leads_from}
use Rattle.source_grammar.proofs.machine.Goes.{StartsAlike, alike_same, Meets, First}
use Rattle.source_grammar.proofs.grammar.Follow.{AfterExpr, AfterOperand, AfterList, AfterPart, AfterPlace, StartsExpr, StartsUpdate}
use Rattle.source_grammar.proofs.grammar.Follow.{expr_operand, list_expr, part_expr, part_place, named_alike, more_alike, maybe_expr_alike}
use Rattle.source_grammar.proofs.grammar.Follow.{maybe_arguments_alike, more_arguments_alike, indexing_alike, more_changes_alike}
use Rattle.source_grammar.proofs.grammar.Follow.{maybe_changes_alike, header_first_alike, initialising_alike, more_declarators_alike}
use Rattle.source_grammar.proofs.grammar.Follow.{maybe_expr_starts, maybe_arguments_starts, maybe_changes_starts, header_first_starts}
use Rattle.source_grammar.proofs.grammar.Follow.{expr_first, arguments_meet, updates_meet, declarators_meet, AfterValues, IsBracket}
use Rattle.source_grammar.proofs.grammar.Follow.{NoBracket, initialising_starts, maybe_values_alike, maybe_values_starts, more_values_alike}
use Rattle.source_grammar.proofs.grammar.Follow.{named_starts, operand_no_bracket, place_no_bracket, sizes_first, sizing_alike}
use Rattle.source_grammar.proofs.grammar.Follow.{subscripts_first, values_meet}

-- any kind of token
abbrev pub Any : Kind → Type 0
Any k = Unit {0}

-- every sign holds looser than an operand
pub below_seven : (o : Op) → level o < 7
below_seven (compare_op equal) = omega arith
below_seven _ = omega arith

-- every sign holds tighter than `? :`
pub above_zero : (o : Op) → 1 ≤ level o
above_zero (compare_op equal) = omega arith
above_zero _ = omega arith

-- an expression behind which nothing more of it comes
pub closed : {gs hs : List Goal} {ts : List Token} {os : List (Option ℕ)} (d : ℕ) → Leads AfterOperand gs ts os (more d ∷ hs)
    → Leads AfterExpr gs ts os hs
closed {hs} d h = leads_as h expr_operand (λ k l. more_alike d hs k l)

-- tokens of these kinds are the same to two stacks
pub starts : {gs hs : List Goal} (kinds : Kind → Type 0) (ts : List Token) → ((k : Kind) → kinds k → Alike k gs hs) → First kinds ts
    → StartsAlike gs hs ts
starts kinds [] h f = absurd f
starts kinds (token k a ∷ ts) h f = h k f

-- the machine takes an expression: as an operand, as one with tight signs alone, and as a whole
pub record Takes (e : Expr) : Type 0 where
  -- as an operand
  pub operand_leads : (d : ℕ) (gs : List Goal) → Groups 7 e → Leads AfterOperand (operand d ∷ gs) (spell_expr e) (opens_expr d e) gs
  -- with tight signs alone
  pub flat_leads : (l d : ℕ) (gs : List Goal) → 1 ≤ l → Groups l e
      → Leads AfterOperand (operand d ∷ more d ∷ gs) (spell_expr e) (opens_expr d e) (more d ∷ gs)
  -- as a whole
  pub whole_leads : (d : ℕ) (gs : List Goal) → Groups 0 e → Leads AfterExpr (operand d ∷ more d ∷ gs) (spell_expr e) (opens_expr d e) gs

first_alone : (kinds : Kind → Type 0) (ts : List Token) → First kinds (ts ++ []) → First kinds ts
first_alone kinds [] h = h
first_alone kinds (token k a ∷ ts) h = h

-- an operand groups at each level alike
as_operand : (e : Expr) → ((l : ℕ) → Groups l e → Groups 7 e)
    → ((d : ℕ) (gs : List Goal) → Groups 7 e → Leads AfterOperand (operand d ∷ gs) (spell_expr e) (opens_expr d e) gs) → Takes e
as_operand e same h = record {
  operand_leads = h;
  flat_leads = λ l d gs i g. h d (more d ∷ gs) (same l g);
  whole_leads = λ d gs g. closed d (h d (more d ∷ gs) (same 0 g));
}

-- sides with a sign between them
as_joined : (e : Expr) (o : Op) (a : ℕ) (f : Expr) → Takes e → Takes f → Takes (joined e o a f)
as_joined e o a f h i = record {
  operand_leads = λ d gs g. absurd (omega (arith, g.0, below_seven o));
  flat_leads = λ l d gs j g. flat l d gs g;
  whole_leads = λ d gs g. closed d (flat 0 d gs g);
} where
  flat : (l d : ℕ) (gs : List Goal) → Groups l (joined e o a f)
      → Leads AfterOperand (operand d ∷ more d ∷ gs) (spell_expr (joined e o a f)) (opens_expr d (joined e o a f)) (more d ∷ gs)
  flat l d gs g = leads_then (h.flat_leads (level o) d gs (above_zero o) g.1) tt
      (leads_one refl refl (i.flat_leads (suc (level o)) d gs (omega arith) g.2))

-- `c ? e : f`
as_chosen : (c : Expr) (a : ℕ) (e : Expr) (b : ℕ) (f : Expr) → Takes c → Takes e → Takes f → Takes (chosen c a e b f)
as_chosen c a e b f h i j = record {
  operand_leads = λ d gs g. absurd (omega (arith, g.0));
  flat_leads = λ l d gs m g. absurd (omega (arith, m, g.0));
  whole_leads = λ d gs g. leads_then (h.flat_leads 1 d gs (omega arith) g.1) tt (leads_one refl refl
      (leads_then (i.whole_leads (suc d) (only colon_mark ∷ operand (suc d) ∷ more (suc d) ∷ gs) g.2) tt
      (leads_one refl refl (j.whole_leads (suc d) gs g.3))));
}

mutual
  takes_expr : (e : Expr) → Takes e
  takes_expr (number n a) = as_operand (number n a) (λ l g. g) (λ d gs g. leads_one refl refl (leads_end gs))
  takes_expr (variable x a) = as_operand (variable x a) (λ l g. g)
      (λ d gs g. leads_one refl refl (leads_none (named d ∷ gs) gs (λ k l. named_alike d gs k l)))
  takes_expr (element x a is) = as_operand (element x a is) (λ l g. g) (λ d gs g. leads_one refl refl
      (leads_as (leads_from (starts IsBracket (spell_subscripts is) (named_starts d gs)
      (first_alone IsBracket (spell_subscripts is) (subscripts_first is []))) (subscripts_leads is d gs g))
      operand_no_bracket (λ k l. alike_same k gs)))
  takes_expr (call x a b es c) = as_operand (call x a b es c) (λ l g. g) (λ d gs g. leads_one refl refl (leads_one refl refl
      (leads_then (arguments_leads es (suc d) (only closing ∷ gs) g) tt (leads_one refl refl (leads_end gs)))))
  takes_expr (stepped_behind x a h b) = as_operand (stepped_behind x a h b) (λ l g. g)
      (λ d gs g. leads_one refl refl (leads_one refl refl (leads_end gs)))
  takes_expr (stepped_before h a x b) = as_operand (stepped_before h a x b) (λ l g. g)
      (λ d gs g. leads_one refl refl (leads_one refl refl (leads_end gs)))
  takes_expr (free a b c) = as_operand (free a b c) (λ l g. g)
      (λ d gs g. leads_one refl refl (leads_one refl refl (leads_one refl refl (leads_end gs))))
  takes_expr (grouped a e b) = as_operand (grouped a e b) (λ l g. g) (λ d gs g. leads_one refl refl
      (leads_then ((takes_expr e).whole_leads (suc d) (only closing ∷ gs) g) tt (leads_one refl refl (leads_end gs))))
  takes_expr (prefixed negative a e) = as_operand (prefixed negative a e) (λ l g. g)
      (λ d gs g. leads_one refl refl ((takes_expr e).operand_leads (suc d) gs g))
  takes_expr (prefixed positive a e) = as_operand (prefixed positive a e) (λ l g. g)
      (λ d gs g. leads_one refl refl ((takes_expr e).operand_leads (suc d) gs g))
  takes_expr (prefixed negation a e) = as_operand (prefixed negation a e) (λ l g. g)
      (λ d gs g. leads_one refl refl ((takes_expr e).operand_leads (suc d) gs g))
  takes_expr (joined e o a f) = as_joined e o a f (takes_expr e) (takes_expr f)
  takes_expr (chosen c a e b f) = as_chosen c a e b f (takes_expr c) (takes_expr e) (takes_expr f)

  -- the machine takes arguments
  pub arguments_leads : (es : Arguments) (d : ℕ) (gs : List Goal) → GoodArguments es
      → Leads AfterList (maybe_arguments d ∷ gs) (spell_arguments es) (opens_arguments d es) gs
  arguments_leads no_arguments d gs g = leads_none (maybe_arguments d ∷ gs) gs (λ k l. maybe_arguments_alike d gs k l)
  arguments_leads (arguments e es) d gs g = leads_from
      (starts StartsExpr _ (maybe_arguments_starts d gs) (expr_first e (spell_more_arguments es)))
      (leads_then ((takes_expr e).whole_leads d (more_arguments d ∷ gs) g.0) (arguments_meet es) (more_arguments_leads es d gs g.1))

  more_arguments_leads : (es : MoreArguments) (d : ℕ) (gs : List Goal) → GoodMoreArguments es
      → Leads AfterList (more_arguments d ∷ gs) (spell_more_arguments es) (opens_more_arguments d es) gs
  more_arguments_leads last_argument d gs g = leads_none (more_arguments d ∷ gs) gs (λ k l. more_arguments_alike d gs k l)
  more_arguments_leads (next_argument a e es) d gs g = leads_one refl refl
      (leads_then ((takes_expr e).whole_leads d (more_arguments d ∷ gs) g.0) (arguments_meet es) (more_arguments_leads es d gs g.1))

  subscripts_leads : (is : Subscripts) (d : ℕ) (gs : List Goal) → GoodSubscripts is
      → Leads NoBracket (indexing d ∷ gs) (spell_subscripts is) (opens_subscripts d is) gs
  subscripts_leads (last_subscript a e b) d gs g = leads_one refl refl
      (leads_then ((takes_expr e).whole_leads (suc d) (only bracket_closing ∷ indexing d ∷ gs) g) tt
      (leads_one refl refl (leads_none (indexing d ∷ gs) gs (λ k l. indexing_alike d gs k l))))
  subscripts_leads (next_subscript a e b is) d gs g = leads_one refl refl
      (leads_then ((takes_expr e).whole_leads (suc d) (only bracket_closing ∷ indexing d ∷ gs) g.0) tt
      (leads_one refl refl (subscripts_leads is d gs g.1)))

-- the machine takes an expression
pub expr_leads : (e : Expr) (d : ℕ) (gs : List Goal) → Groups 0 e
    → Leads AfterExpr (operand d ∷ more d ∷ gs) (spell_expr e) (opens_expr d e) gs
expr_leads e d gs g = (takes_expr e).whole_leads d gs g

-- ---- changes
-- the machine takes an expression that may be absent
pub optional_leads : (t : Optional) (d : ℕ) (gs : List Goal) → GoodOptional t
    → Leads AfterList (maybe_expr d ∷ gs) (spell_optional t) (opens_optional d t) gs
optional_leads absent d gs g = leads_none (maybe_expr d ∷ gs) gs (λ k l. maybe_expr_alike d gs k l)
optional_leads (present e) d gs g = leads_as (leads_from
    (starts StartsExpr (spell_expr e) (maybe_expr_starts d gs) (first_alone StartsExpr (spell_expr e) (expr_first e [])))
    (expr_leads e d gs g)) list_expr (λ k l. alike_same k gs)

-- the machine takes the brackets of a place
pub index_leads : (i : Index) (d : ℕ) (gs : List Goal) → GoodIndex i
    → Leads AfterPlace (indexing d ∷ gs) (spell_index i) (opens_index d i) gs
index_leads no_index d gs g = leads_none (indexing d ∷ gs) gs (λ k l. indexing_alike d gs k (place_no_bracket k l))
index_leads (index is) d gs g = leads_as (subscripts_leads is d gs g) place_no_bracket (λ k l. alike_same k gs)

effect_leads : (f : Effect) (d : ℕ) (gs : List Goal) → GoodEffect f
    → Leads AfterPart (effect d ∷ gs) (spell_effect f) (opens_effect d f) gs
effect_leads (assigns h a e) d gs g = leads_one refl refl (leads_as (expr_leads e d gs g) part_expr (λ k l. alike_same k gs))
effect_leads (steps h a) d gs g = leads_one refl refl (leads_end gs)

effect_meets : (f : Effect) → Meets AfterPlace AfterPart (spell_effect f)
effect_meets (assigns h a e) = tt
effect_meets (steps h a) = tt

-- a place and what is done to it, behind the name
pub place_leads : (i : Index) (f : Effect) (d : ℕ) (gs : List Goal) → GoodIndex i → GoodEffect f
    → Leads AfterPart (indexing d ∷ effect d ∷ gs) (spell_index i ++ spell_effect f) (opens_index d i ++ opens_effect d f) gs
place_leads i f d gs g h = leads_then (index_leads i d (effect d ∷ gs) g) (effect_meets f) (effect_leads f d gs h)

update_leads : (u : Update) (d : ℕ) (gs : List Goal) → GoodUpdate u
    → Leads AfterPart (changing d ∷ gs) (spell_update u) (opens_update d u) gs
update_leads (update (place x a i) f) d gs g = leads_one refl refl (place_leads i f d gs g.0 g.1)
update_leads (step_before h a (place x b i)) d gs g = leads_one refl refl (leads_one refl refl
    (leads_as (index_leads i d gs g) part_place (λ k l. alike_same k gs)))

more_updates_leads : (us : MoreUpdates) (d : ℕ) (gs : List Goal) → GoodMoreUpdates us
    → Leads AfterList (more_changes d ∷ gs) (spell_more_updates us) (opens_more_updates d us) gs
more_updates_leads last_update d gs g = leads_none (more_changes d ∷ gs) gs (λ k l. more_changes_alike d gs k l)
more_updates_leads (next_update a u us) d gs g = leads_one refl refl
    (leads_then (update_leads u d (more_changes d ∷ gs) g.0) (updates_meet us) (more_updates_leads us d gs g.1))

some_updates_leads : (u : Update) (us : MoreUpdates) (d : ℕ) (gs : List Goal) → GoodUpdate u → GoodMoreUpdates us
    → Leads AfterList (changing d ∷ more_changes d ∷ gs) (spell_update u ++ spell_more_updates us)
    (opens_update d u ++ opens_more_updates d us) gs
some_updates_leads u us d gs g h = leads_then (update_leads u d (more_changes d ∷ gs) g) (updates_meet us) (more_updates_leads us d gs h)

update_first : (u : Update) (w : List Token) → First StartsUpdate (spell_update u ++ w)
update_first (update (place x a i) f) w = tt
update_first (step_before h a p) w = tt

-- the machine takes changes, if there are any
pub updates_leads : (us : Updates) (d : ℕ) (gs : List Goal) → GoodUpdates us
    → Leads AfterList (maybe_changes d ∷ gs) (spell_updates us) (opens_updates d us) gs
updates_leads no_updates d gs g = leads_none (maybe_changes d ∷ gs) gs (λ k l. maybe_changes_alike d gs k l)
updates_leads (some_updates u us) d gs g = leads_from (starts StartsUpdate _ (maybe_changes_starts d gs) (update_first u _))
    (some_updates_leads u us d gs g.0 g.1)

-- ---- declarations
-- the machine takes the size of an array
pub size_leads : (s : Size) (gs : List Goal) → Leads Any (some_size ∷ gs) (spell_size s) (None ∷ []) gs
size_leads (number_size n a) gs = leads_one refl refl (leads_end gs)
size_leads (name_size x a) gs = leads_one refl refl (leads_end gs)

-- the brackets of a declared array; behind them more may come
sizing_leads : (ss : Sizes) (d : ℕ) (gs : List Goal) → Leads Any (sizing d ∷ gs) (spell_sizes ss) (opens_sizes ss) (sizing d ∷ gs)
sizing_leads (last_size a s b) d gs = leads_one refl refl
    (leads_then (size_leads s (only bracket_closing ∷ sizing d ∷ gs)) tt (leads_one refl refl (leads_end (sizing d ∷ gs))))
sizing_leads (next_size a s b ss) d gs = leads_one refl refl
    (leads_then (size_leads s (only bracket_closing ∷ sizing d ∷ gs)) tt (leads_one refl refl (sizing_leads ss d gs)))

mutual
  value_leads : (v : Value) (d : ℕ) (gs : List Goal) → GoodValue v
      → Leads AfterExpr (maybe_values d ∷ gs) (spell_value v) (opens_value d v) (more_values d ∷ gs)
  value_leads (one_value e) d gs g = leads_from
      (starts StartsExpr (spell_expr e) (maybe_values_starts d gs) (first_alone StartsExpr (spell_expr e) (expr_first e [])))
      (expr_leads e d (more_values d ∷ gs) g)
  value_leads (braced a vs b) d gs g = leads_one refl refl
      (leads_then (values_leads vs (suc d) (only brace_closing ∷ more_values d ∷ gs) g) tt
      (leads_one refl refl (leads_end (more_values d ∷ gs))))

  values_leads : (vs : Values) (d : ℕ) (gs : List Goal) → GoodValues vs
      → Leads AfterValues (maybe_values d ∷ gs) (spell_values vs) (opens_values d vs) gs
  values_leads no_values d gs g = leads_none (maybe_values d ∷ gs) gs (λ k l. maybe_values_alike d gs k l)
  values_leads (values v vs) d gs g = leads_then (value_leads v d gs g.0) (values_meet vs) (more_values_leads vs d gs g.1)

  more_values_leads : (vs : MoreValues) (d : ℕ) (gs : List Goal) → GoodMoreValues vs
      → Leads AfterValues (more_values d ∷ gs) (spell_more_values vs) (opens_more_values d vs) gs
  more_values_leads last_value d gs g = leads_none (more_values d ∷ gs) gs (λ k l. more_values_alike d gs k l)
  more_values_leads (last_comma a) d gs g = leads_one refl refl
      (leads_none (maybe_values d ∷ gs) gs (λ k l. maybe_values_alike d gs k l))
  more_values_leads (next_value a v vs) d gs g = leads_one refl refl
      (leads_then (value_leads v d gs g.0) (values_meet vs) (more_values_leads vs d gs g.1))

initialiser_leads : (i : Initialiser) (d : ℕ) (gs : List Goal) → GoodInitialiser i
    → Leads AfterPart (initialising d ∷ gs) (spell_initialiser i) (opens_initialiser d i) gs
initialiser_leads bare d gs g = leads_none (initialising d ∷ gs) gs (λ k l. initialising_alike d gs k l)
initialiser_leads (given a e) d gs g = leads_one refl refl (leads_as (expr_leads e d gs g) part_expr (λ k l. alike_same k gs))
initialiser_leads (sized ss) d gs g = leads_from
    (starts IsBracket (spell_sizes ss) (initialising_starts d gs) (first_alone IsBracket (spell_sizes ss) (sizes_first ss [])))
    (leads_as (sizing_leads ss d gs) (λ k l. tt) (λ k l. sizing_alike d gs k l))
initialiser_leads (filled ss a b vs c) d gs g = leads_from
    (starts IsBracket _ (initialising_starts d gs) (sizes_first ss _))
    (leads_then (sizing_leads ss d gs) tt (leads_one refl refl (leads_one refl refl
    (leads_then (values_leads vs (suc d) (only brace_closing ∷ gs) g) tt (leads_one refl refl (leads_end gs))))))

declarator_leads : (x : Declarator) (d : ℕ) (gs : List Goal) → GoodDeclarator x
    → Leads AfterPart (declaring d ∷ gs) (spell_declarator x) (opens_declarator d x) gs
declarator_leads (declarator x a i) d gs g = leads_one refl refl (initialiser_leads i d gs g)

more_declarators_leads : (xs : MoreDeclarators) (d : ℕ) (gs : List Goal) → GoodMoreDeclarators xs
    → Leads AfterList (more_declarators d ∷ gs) (spell_more_declarators xs) (opens_more_declarators d xs) gs
more_declarators_leads last_declarator d gs g = leads_none (more_declarators d ∷ gs) gs (λ k l. more_declarators_alike d gs k l)
more_declarators_leads (next_declarator a x xs) d gs g = leads_one refl refl
    (leads_then (declarator_leads x d (more_declarators d ∷ gs) g.0) (declarators_meet xs) (more_declarators_leads xs d gs g.1))

-- the machine takes declarators
pub declarators_leads : (xs : Declarators) (d : ℕ) (gs : List Goal) → GoodDeclarators xs
    → Leads AfterList (declaring d ∷ more_declarators d ∷ gs) (spell_declarators xs) (opens_declarators d xs) gs
declarators_leads (declares x xs) d gs g =
    leads_then (declarator_leads x d (more_declarators d ∷ gs) g.0) (declarators_meet xs) (more_declarators_leads xs d gs g.1)

-- the machine takes the first part of a `for`'s head
pub first_leads : (f : ForFirst) (d : ℕ) (gs : List Goal) → GoodFirst f
    → Leads AfterList (header_first d ∷ gs) (spell_first f) (opens_first d f) gs
first_leads (declared_first (plain_int a) xs) d gs g = leads_one refl refl (declarators_leads xs d gs g)
first_leads (declared_first (const_int a b) xs) d gs g = leads_one refl refl (leads_one refl refl (declarators_leads xs d gs g))
first_leads (updated_first no_updates) d gs g = leads_none (header_first d ∷ gs) gs (λ k l. header_first_alike d gs k l)
first_leads (updated_first (some_updates u us)) d gs g = leads_from (starts StartsUpdate _ (header_first_starts d gs) (update_first u _))
    (some_updates_leads u us d gs g.0 g.1)
