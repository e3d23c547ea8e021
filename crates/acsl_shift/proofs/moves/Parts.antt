-- Names, conditions and parts of statements at one place are what they are without their lines and places.
use Rattle.std.proofs.Common.{◌≡◌, ◌∙◌, ◌∷◌, Bool, true, false, cond, ℕ, ℤ, pos, negsuc, List, [], length, map, nat_le, nat_lt, ◌&&◌}
use Rattle.std.proofs.Common.{Option, Some, None}
use Rattle.std.proofs.Common.{Result, Ok, Err, refl, sym, ap}
use Rattle.std.specs.List.{list_any, list_all}
use Rattle.std.specs.Str.{bytes_eq}
use Rattle.lang_tree.specs.Tree as core
use Rattle.lang_tree.specs.declared.limits.TheConstants.{MOST_VARIABLES}
use Rattle.source_grammar.specs.Tokens as g
use Rattle.source_grammar.specs.Tokens.{Name, Jump, Demand}
use Rattle.source_grammar.specs.Expressions.{Expr}
use Rattle.source_grammar.specs.Grammar.{spell_expr}
use Rattle.source_grammar.specs.Grammar.{Size, number_size, name_size, Sizes, last_size, next_size, Bounds, sized_bounds}
use Rattle.source_grammar.specs.Grammar.{open_bound, open_bounds}
use Rattle.source_tree.specs.Expressions.{Expression}
use Rattle.source_tree.specs.Statements.{Change, Statements}
use Rattle.source_tree.specs.Statements.{changes, never, jump, nil, cons}
use Rattle.source_core.specs.Elaborated.{Tested}
use Rattle.source_core.specs.Core.{condition_of}
use Rattle.source_meaning.specs.declared.fault.FunctionFault.{FunctionFault}
use Rattle.source_meaning.specs.declared.fault.FunctionFault.TheVariants as fault
use Rattle.source_meaning.specs.declared.fault.Limit.TheVariants as limit
use Rattle.source_meaning.specs.Results.{provided}
use Rattle.source_meaning.specs.Names.{Thing, Named, State, declared, thing_of, fresh, with_name, as_variable_again, with_variable}
use Rattle.source_meaning.specs.Names.{as_array_again}
use Rattle.source_meaning.specs.Names.{fresh_array, among}
use Rattle.source_meaning.specs.Names as names
use Rattle.source_meaning.specs.Arrays.{sized_by, sized_by_name, read_size, read_sizes, read_bounds}
use Rattle.source_meaning.specs.Limits.{is_small_deed, counted}
use Rattle.source_meaning.specs.Expressions.{read, as_condition, first_of}
use Rattle.source_meaning.specs.Statements.{followed_by, one, as_statements, is_end, is_error, new_label, jumped, jump_of, demand_of}
use Rattle.source_meaning.specs.Statements.{call_of, read_condition, prelude_of}
use Rattle.acsl_shift.specs.Sources.{expression_without, change_without, statement_without, without_places}
use Rattle.acsl_shift.proofs.moves.Trees.{move_expr, move_size, move_sizes, move_bounds}
use Rattle.acsl_shift.proofs.moves.Twice.{nowhere}
use Rattle.acsl_shift.proofs.moves.Spelled.{spelled_expr}
use Rattle.acsl_shift.proofs.moves.Deeds.{bare_length, bare_small}
use Rattle.acsl_shift.proofs.moves.Seen.{Seen, Same, seen_then, seen_provided, seen_limited, seen_counted}
use Rattle.acsl_shift.proofs.moves.Read.{first_nowhere, seen_condition, seen_read_among}
use Rattle.acsl_shift.proofs.moves.Cores.{condition_same}
use Rattle.acsl_shift.proofs.moves.Changed.{beside}
use Rattle.base_integers.specs.declared.integers.Integers.{Integers}

-- ---- statements without their places
-- one list and then another
pub followed_without : (ss rest : Statements) → without_places (followed_by ss rest) ≡ followed_by (without_places ss) (without_places rest)
followed_without nil rest = refl
followed_without (cons s ss) rest = ap (λ (x : Statements). cons (statement_without s) x) (followed_without ss rest)

-- changes as statements
pub as_statements_without : (gs : List Change) → without_places (as_statements gs) ≡ as_statements (map change_without gs)
as_statements_without [] = refl
as_statements_without (g ∷ gs) = ap (λ (x : Statements). cons (changes (change_without g)) x) (as_statements_without gs)

-- an assumption or an assertion
pub demand_without : (k : Demand) (e : Expression) (at line : ℕ)
    → statement_without (demand_of k e at line) ≡ demand_of k (expression_without e) 0 0
demand_without g.assumes e at line = refl
demand_without g.asserts e at line = refl

-- a jump
pub jump_without : (j : Jump) (line : ℕ) → statement_without (jump_of j line) ≡ jump_of j 0
jump_without g.breaks line = refl
jump_without g.continues line = refl

-- what a call does
pub call_without : (x : Name) (at line : ℕ) → without_places (call_of x at line) ≡ call_of x 0 0
call_without x at line = by_name (is_error x.text) (is_end x.text) where
  by_name : (e f : Bool) → without_places (cond e (cons (never at line) (one (jump core.returns line)))
      (cond f (one (jump core.returns line)) nil))
      ≡ cond e (cons (never 0 0) (one (jump core.returns 0))) (cond f (one (jump core.returns 0)) nil)
  by_name true f = refl
  by_name false true = refl
  by_name false false = refl

-- what has been met, and statements without their places
abbrev pub lines : State × Statements → State × Statements
lines r = beside without_places r

-- what has been met, and changes without their places
abbrev pub all_changes : State × List Change → State × List Change
all_changes r = beside (λ gs. map change_without gs) r

-- ---- names
-- what a name was before
seen_fresh : (x : Name) (at : ℕ) (st : State) → Same (fresh x at st) (fresh x 0 st)
seen_fresh x at st = by_value x.value where
  by_known : (n : Named) (t : Bool) → Same (cond t (Err (fault.NameTwice at)) (Ok (Some n.thing)))
      (cond t (Err (fault.NameTwice 0)) (Ok (Some n.thing)))
  by_known n true = record { same = refl }
  by_known n false = record { same = refl }

  by_name : (o : Option Named) → Same
      (elim o as (λ z. Result (Option Thing) FunctionFault) [
        | None ↦ Ok None
        | Some n ↦ cond n.is_known (Err (fault.NameTwice at)) (Ok (Some n.thing))
      ])
      (elim o as (λ z. Result (Option Thing) FunctionFault) [
        | None ↦ Ok None
        | Some n ↦ cond n.is_known (Err (fault.NameTwice 0)) (Ok (Some n.thing))
      ])
  by_name None = record { same = refl }
  by_name (Some n) = by_known n n.is_known

  by_value : (o : Option ℤ) → Same
      (elim o as (λ z. Result (Option Thing) FunctionFault) [
        | Some v ↦ Err (fault.NameTwice at)
        | None ↦ elim (declared x.text st.names) as (λ z. Result (Option Thing) FunctionFault) [
          | None ↦ Ok None
          | Some n ↦ cond n.is_known (Err (fault.NameTwice at)) (Ok (Some n.thing))
        ]
      ])
      (elim o as (λ z. Result (Option Thing) FunctionFault) [
        | Some v ↦ Err (fault.NameTwice 0)
        | None ↦ elim (declared x.text st.names) as (λ z. Result (Option Thing) FunctionFault) [
          | None ↦ Ok None
          | Some n ↦ cond n.is_known (Err (fault.NameTwice 0)) (Ok (Some n.thing))
        ]
      ])
  by_value None = by_name (declared x.text st.names)
  by_value (Some v) = record { same = refl }

-- a variable, new or as before
seen_again : (x : List ℕ) (at : ℕ) (st : State) (t : Option Thing) → Same (as_variable_again x at st t) (as_variable_again x 0 st t)
seen_again x at st None = seen_provided (λ x. x) (nat_lt (length st.variables) MOST_VARIABLES)
    (nat_lt (length st.variables) MOST_VARIABLES) (fault.Limit at limit.Variables) _ refl
seen_again x at st (Some (names.variable i)) = record { same = refl }
seen_again x at st (Some (names.array extents)) = record { same = refl }
seen_again x at st (Some (names.constant v)) = record { same = refl }

-- a variable that is declared
pub seen_with_variable : (x : Name) (at : ℕ) (st : State) → Same (with_variable x at st) (with_variable x 0 st)
seen_with_variable x at st =
    seen_then (λ x. x) (λ x. x) (fresh x at st) (fresh x 0 st) _ _ (seen_fresh x at st) (λ before. seen_again x.text at st before)

-- an array, new or as before
seen_array_again : (at : ℕ) (t : Option Thing) (st : State) → Same (as_array_again at t st) (as_array_again 0 t st)
seen_array_again at None st = record { same = refl }
seen_array_again at (Some (names.variable i)) st = record { same = refl }
seen_array_again at (Some (names.array extents)) st = record { same = refl }
seen_array_again at (Some (names.constant v)) st = record { same = refl }

-- the name of an array
pub seen_fresh_array : (x : Name) (at : ℕ) (st : State) → Same (fresh_array x at st) (fresh_array x 0 st)
seen_fresh_array x at st =
    seen_then (λ x. x) (λ x. x) (fresh x at st) (fresh x 0 st) _ _ (seen_fresh x at st) (λ before. seen_array_again at before st)

-- ---- sizes of arrays
-- a number of elements
seen_sized : (at : ℕ) (v : ℤ) → Same (sized_by at v) (sized_by 0 v)
seen_sized at (pos n) = let b = nat_le 1 n && nat_le n 2147483647 in seen_provided (λ x. x) b b (fault.Array at) _ refl
seen_sized at (negsuc n) = record { same = refl }

-- as a name says
seen_sized_by_name : (at : ℕ) (t : Option Thing) → Same (sized_by_name at t) (sized_by_name 0 t)
seen_sized_by_name at None = record { same = refl }
seen_sized_by_name at (Some (names.variable i)) = record { same = refl }
seen_sized_by_name at (Some (names.array extents)) = record { same = refl }
seen_sized_by_name at (Some (names.constant v)) = seen_sized at v

-- a size
seen_size : (st : State) (s : Size) → Same (read_size st s) (read_size st (move_size nowhere s))
seen_size st (number_size n at) = seen_sized at (pos n)
seen_size st (name_size x at) = seen_sized_by_name at (thing_of x st)

-- the sizes of an array
pub seen_sizes : (st : State) (ss : Sizes) → Same (read_sizes st ss) (read_sizes st (move_sizes nowhere ss))
seen_sizes st (last_size a s b) =
    seen_then (λ x. x) (λ x. x) (read_size st s) (read_size st (move_size nowhere s)) _ _ (seen_size st s) (λ e. record { same = refl })
seen_sizes st (next_size a s b ss) =
    seen_then (λ x. x) (λ x. x) (read_size st s) (read_size st (move_size nowhere s)) _ _ (seen_size st s) (λ e.
    seen_then (λ x. x) (λ x. x) (read_sizes st ss) (read_sizes st (move_sizes nowhere ss)) _ _ (seen_sizes st ss)
    (λ es. record { same = refl }))

-- those of a parameter
pub seen_bounds : (st : State) (bs : Bounds) → Same (read_bounds st bs) (read_bounds st (move_bounds nowhere bs))
seen_bounds st (sized_bounds ss) = seen_sizes st ss
seen_bounds st (open_bound a b) = record { same = refl }
seen_bounds st (open_bounds a b ss) =
    seen_then (λ x. x) (λ x. x) (read_sizes st ss) (read_sizes st (move_sizes nowhere ss)) _ _ (seen_sizes st ss)
    (λ es. record { same = refl })

-- a label
pub seen_label : (x : Name) (at : ℕ) (st : State) → Same (new_label x at st) (new_label x 0 st)
seen_label x at st = by_name (list_any (λ y. bytes_eq x.text y) st.labels) where
  by_name : (t : Bool) → Same (cond t (Err (fault.NameTwice at)) (counted at 1 (record st { labels = x.text ∷ st.labels })))
      (cond t (Err (fault.NameTwice 0)) (counted 0 1 (record st { labels = x.text ∷ st.labels })))
  by_name true = record { same = refl }
  by_name false = seen_counted at 1 1 (record st { labels = x.text ∷ st.labels }) refl

-- a `break` or a `continue`
pub seen_jumped : (inside : Bool) (at : ℕ) (st : State) → Same (jumped inside at st) (jumped inside 0 st)
seen_jumped inside at st =
    seen_then (λ x. x) (λ x. x) (provided inside (fault.OutsideLoop at) st) (provided inside (fault.OutsideLoop 0) st)
    _ _ (seen_provided (λ x. x) inside inside (fault.OutsideLoop at) st refl) (λ now. seen_counted at 1 1 now refl)

module _ (integers : Integers) (line : ℕ → ℕ) (n : ℕ) where
  -- ---- conditions
  -- the condition of a statement
  pub seen_tested : (st : State) (at : ℕ) (e : Expr)
      → Seen expression_without (read_condition integers line n st at e) (read_condition integers nowhere n st 0 (move_expr nowhere e))
  seen_tested st at e =
      let now = spell_expr (move_expr nowhere e) in
      seen_then expression_without expression_without (read integers (line at) (among (spell_expr e) st) e n)
      (read integers 0 (among now st) (move_expr nowhere e) n) _ _
      (seen_read_among integers (line at) st (spell_expr e) now e n (spelled_expr nowhere e).same) (λ x.
      seen_then expression_without expression_without (as_condition integers (line at) (first_of e) n x)
      (as_condition integers 0 (first_of (move_expr nowhere e)) n (expression_without x)) _ _
      (seen_condition integers (line at) (first_of e) (first_of (move_expr nowhere e)) n x (first_nowhere e)) (λ x.
      let t : Tested = condition_of integers n (line at) x in
      let u : Tested = condition_of integers n 0 (expression_without x) in
      let same = condition_same integers n (line at) x in
      seen_limited expression_without n at t.next u.next t.prelude u.prelude (t.condition ∷ []) (u.condition ∷ []) x
      (ap (λ (z : Tested). z.next) same)
      (sym (bare_small t.prelude) ∙ ap (λ (z : Tested). list_all is_small_deed z.prelude) same)
      (ap (λ (z : Tested). z.condition ∷ []) same)))

  -- how many statements its prelude is
  pub prelude_same : (at : ℕ) (x : Expression) → prelude_of integers line n at x ≡ prelude_of integers nowhere n 0 (expression_without x)
  prelude_same at x = sym (bare_length (condition_of integers n (line at) x).prelude)
      ∙ ap (λ (z : Tested). length z.prelude) (condition_same integers n (line at) x)
