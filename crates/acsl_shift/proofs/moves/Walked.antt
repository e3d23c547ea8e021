-- What is read of statements at one place is what is read of them, without their lines and places.
use Rattle.std.proofs.Common.{◌∙◌, ◌+◌, Bool, true, ℕ, length}
use Rattle.std.proofs.Common.{Result, Ok, refl, ap}
use Rattle.lang_tree.specs.Tree as core
use Rattle.lang_tree.specs.Tree.{nodes_in}
use Rattle.source_grammar.specs.Expressions.{Expr, Arguments, Optional, absent, present, MoreUpdates, last_update, next_update, Updates}
use Rattle.source_grammar.specs.Expressions.{no_updates, some_updates}
use Rattle.source_grammar.specs.Grammar.{bare, given, sized, filled, Declarator, declarator, MoreDeclarators}
use Rattle.source_grammar.specs.Grammar.{last_declarator, next_declarator, Declarators, ForFirst, declared_first, updated_first}
use Rattle.source_grammar.specs.Grammar.{Core, Sub, Items, empty, block, if_alone, if_else, repeat, repeat_after, repeat_for, jumps}
use Rattle.source_grammar.specs.Grammar.{demands, calls, updates, labelled, plain, no_items, item}
use Rattle.source_grammar.specs.Grammar.{spell_expr, spell_declarator}
use Rattle.source_grammar.specs.Grammar as tree
use Rattle.source_tree.specs.Expressions.{Expression, none, more}
use Rattle.source_tree.specs.Statements.{Change, sets, evaluates, for_loop, Statement, Statements}
use Rattle.source_tree.specs.Statements.{loop, jump}
use Rattle.source_core.specs.Core.{taken_any, change_deeds, core_in, core_of}
use Rattle.source_meaning.specs.declared.fault.FunctionFault.{FunctionFault}
use Rattle.source_meaning.specs.Results.{◌>>=◌}
use Rattle.source_meaning.specs.Names.{State, with_variable, declared_number, fresh_array, closed, thing_of, as_called, among}
use Rattle.source_meaning.specs.Arrays.{read_sizes}
use Rattle.source_meaning.specs.Limits.{counted}
use Rattle.source_meaning.specs.Expressions.{read, read_arguments, read_values}
use Rattle.source_meaning.specs.Changes.{few, read_update}
use Rattle.source_meaning.specs.Statements.{followed_by, one, new_label, jumped, demand_of}
use Rattle.source_meaning.specs.Statements.{call_of, read_condition, prelude_of, read_declarator, read_more_declarators, read_declarators}
use Rattle.source_meaning.specs.Statements.{read_more_updates, read_updates, read_first, read_test, read_evaluated, read_returned}
use Rattle.source_meaning.specs.Statements.{read_core, read_sub, read_items}
use Rattle.acsl_shift.specs.Sources.{expression_without, expressions_without, change_without, without_places}
use Rattle.acsl_shift.proofs.moves.Trees.{move_expr, move_arguments, move_optional, move_update, move_more_updates, move_updates}
use Rattle.acsl_shift.proofs.moves.Trees.{move_declarator, move_more_declarators, move_declarators, move_first, move_core, move_sub}
use Rattle.acsl_shift.proofs.moves.Trees.{move_items, move_sizes, move_values}
use Rattle.acsl_shift.proofs.moves.Twice.{nowhere}
use Rattle.acsl_shift.proofs.moves.Seen.{Seen, seen_ok, seen_then, seen_counted}
use Rattle.acsl_shift.proofs.moves.Spelled.{spelled_expr, spelled_declarator}
use Rattle.acsl_shift.proofs.moves.Around.{from_around}
use Rattle.acsl_shift.proofs.moves.Read.{seen_called, seen_read_among, seen_arguments, seen_values}
use Rattle.acsl_shift.proofs.moves.Cores.{any_length, deeds_length, node_same, nodes_in_same}
use Rattle.acsl_shift.proofs.moves.Changed.{beside, seen_few, seen_update}
use Rattle.acsl_shift.proofs.moves.Parts.{followed_without, as_statements_without, demand_without, jump_without, call_without, lines}
use Rattle.acsl_shift.proofs.moves.Parts.{all_changes, seen_with_variable, seen_fresh_array, seen_sizes, seen_label, seen_jumped}
use Rattle.acsl_shift.proofs.moves.Parts.{seen_tested}
use Rattle.acsl_shift.proofs.moves.Parts.{prelude_same}
use Rattle.base_integers.specs.declared.integers.Integers.{Integers}

module _ (integers : Integers) (line : ℕ → ℕ) (n : ℕ) where
  -- what is evaluated
  seen_value : (st : State) (at : ℕ) (g : Change)
      → Seen lines (read_evaluated integers line n st at g) (read_evaluated integers nowhere n st 0 (change_without g))
  seen_value st at g =
      seen_then (λ z. z) lines (few integers n (line at) at g st) (few integers n 0 0 (change_without g) st) _ _
      (seen_few integers n (line at) (λ z. z) at g st)
      (λ now.
      seen_then (λ z. z) lines (counted at (length (change_deeds integers n g)) now)
      (counted 0 (length (change_deeds integers n (change_without g))) now) _ _
      (seen_counted at _ _ now (deeds_length integers n g)) (λ now. record { same = refl }))

  -- ---- declarations
  -- a name that is declared
  seen_declarator : (st : State) (x : Declarator)
      → Seen lines (read_declarator integers line n st x) (read_declarator integers nowhere n st (move_declarator nowhere x))
  seen_declarator st (declarator x at bare) =
      seen_then (λ z. z) lines (with_variable x at st) (with_variable x 0 st) _ _ (seen_with_variable x at st) (λ now.
      let i = declared_number now in
      seen_then (λ z. z) lines (counted at (length (taken_any integers i (line at))) now)
      (counted 0 (length (taken_any integers i 0)) now) _ _
      (seen_counted at _ _ now (any_length integers i (line at))) (λ now. record { same = refl }))
  seen_declarator st (declarator x at (given b e)) =
      let ts = spell_declarator (declarator x at (given b e)) in
      let now = spell_declarator (move_declarator nowhere (declarator x at (given b e))) in
      seen_then expression_without lines (read integers (line at) (among ts st) e n)
      (read integers 0 (among now st) (move_expr nowhere e) n) _ _
      (seen_read_among integers (line at) st ts now e n (spelled_declarator nowhere (declarator x at (given b e))).same) (λ e.
      seen_then (λ z. z) lines (with_variable x at st) (with_variable x 0 st) _ _ (seen_with_variable x at st) (λ now.
      let g : Change = sets (declared_number now) e (line at) in
      seen_then (λ z. z) lines (few integers n (line at) at g now) (few integers n 0 0 (change_without g) now) _ _
      (seen_few integers n (line at) (λ z. z) at g now) (λ now.
      seen_then (λ z. z) lines (counted at (length (change_deeds integers n g)) now)
      (counted 0 (length (change_deeds integers n (change_without g))) now) _ _
      (seen_counted at _ _ now (deeds_length integers n g)) (λ now. record { same = refl }))))
  seen_declarator st (declarator x at (sized ss)) =
      seen_then (λ z. z) lines (fresh_array x at st) (fresh_array x 0 st) _ _ (seen_fresh_array x at st) (λ now.
      seen_then (λ z. z) lines (read_sizes now ss) (read_sizes now (move_sizes nowhere ss)) _ _ (seen_sizes now ss)
      (λ extents. record { same = refl }))
  seen_declarator st (declarator x at (filled ss a b vs c)) =
      let ts = spell_declarator (declarator x at (filled ss a b vs c)) in
      let after = spell_declarator (move_declarator nowhere (declarator x at (filled ss a b vs c))) in
      seen_then (λ z. z) lines (fresh_array x at st) (fresh_array x 0 st) _ _ (seen_fresh_array x at st) (λ now.
      seen_then (λ z. z) lines (read_sizes now ss) (read_sizes now (move_sizes nowhere ss)) _ _ (seen_sizes now ss) (λ extents.
      seen_then expressions_without lines (read_values integers (line at) (among ts now) vs n)
      (read_values integers 0 (among after now) (move_values nowhere vs) n) _ _
      (from_around expressions_without (read_values integers (line at) (among ts now) vs n)
      (λ z. read_values integers 0 z (move_values nowhere vs) n) ts after now
      (spelled_declarator nowhere (declarator x at (filled ss a b vs c))).same (seen_values integers (line at) (among ts now) vs n)) (λ es.
      seen_then lines lines (read_evaluated integers line n now at (evaluates es (line at)))
      (read_evaluated integers nowhere n now 0 (evaluates (expressions_without es) 0)) _ _ (seen_value now at (evaluates es (line at)))
      (λ r. record { same = refl }))))

  -- statements and then others
  seen_both : (r s : Result (State × Statements) FunctionFault) (f g : State → Result (State × Statements) FunctionFault)
      → Seen lines r s → ((st : State) → Seen lines (f st) (g st))
      → Seen lines (r >>= λ x. f x.0 >>= λ y. Ok (y.0, followed_by x.1 y.1)) (s >>= λ x. g x.0 >>= λ y. Ok (y.0, followed_by x.1 y.1))
  seen_both r s f g h k =
      seen_then lines lines r s _ _ h (λ x. seen_then lines lines (f x.0) (g x.0) _ _ (k x.0)
      (λ y. seen_ok lines _ _ (ap (λ (z : Statements). let w : State × Statements = (y.0, z) in w) (followed_without x.1 y.1))))

  -- names behind the first
  seen_more_declarators : (st : State) (xs : MoreDeclarators)
      → Seen lines (read_more_declarators integers line n st xs)
      (read_more_declarators integers nowhere n st (move_more_declarators nowhere xs))
  seen_more_declarators st last_declarator = record { same = refl }
  seen_more_declarators st (next_declarator a x xs) =
      seen_both (read_declarator integers line n st x) (read_declarator integers nowhere n st (move_declarator nowhere x))
      (λ now. read_more_declarators integers line n now xs)
      (λ now. read_more_declarators integers nowhere n now (move_more_declarators nowhere xs))
      (seen_declarator st x) (λ now. seen_more_declarators now xs)

  -- names that are declared
  pub seen_declarators : (st : State) (xs : Declarators)
      → Seen lines (read_declarators integers line n st xs) (read_declarators integers nowhere n st (move_declarators nowhere xs))
  seen_declarators st (tree.declares x xs) =
      seen_both (read_declarator integers line n st x) (read_declarator integers nowhere n st (move_declarator nowhere x))
      (λ now. read_more_declarators integers line n now xs)
      (λ now. read_more_declarators integers nowhere n now (move_more_declarators nowhere xs))
      (seen_declarator st x) (λ now. seen_more_declarators now xs)

  -- ---- changes
  -- changes behind the first
  seen_more_updates : (st : State) (us : MoreUpdates)
      → Seen all_changes (read_more_updates integers line n st us) (read_more_updates integers nowhere n st (move_more_updates nowhere us))
  seen_more_updates st last_update = record { same = refl }
  seen_more_updates st (next_update a u us) =
      seen_then (beside change_without) all_changes (read_update integers line n st u)
      (read_update integers nowhere n st (move_update nowhere u)) _ _
      (seen_update integers line n st u) (λ r.
      seen_then all_changes all_changes (read_more_updates integers line n r.0 us)
      (read_more_updates integers nowhere n r.0 (move_more_updates nowhere us)) _ _
      (seen_more_updates r.0 us) (λ q. record { same = refl }))

  -- changes in order
  seen_updates : (st : State) (us : Updates)
      → Seen all_changes (read_updates integers line n st us) (read_updates integers nowhere n st (move_updates nowhere us))
  seen_updates st no_updates = record { same = refl }
  seen_updates st (some_updates u us) =
      seen_then (beside change_without) all_changes (read_update integers line n st u)
      (read_update integers nowhere n st (move_update nowhere u)) _ _
      (seen_update integers line n st u) (λ r.
      seen_then all_changes all_changes (read_more_updates integers line n r.0 us)
      (read_more_updates integers nowhere n r.0 (move_more_updates nowhere us)) _ _
      (seen_more_updates r.0 us) (λ q. record { same = refl }))

  -- the first part of a `for`'s head
  seen_first : (st : State) (f : ForFirst)
      → Seen lines (read_first integers line n st f) (read_first integers nowhere n st (move_first nowhere f))
  seen_first st (declared_first t xs) = seen_declarators st xs
  seen_first st (updated_first us) =
      seen_then all_changes lines (read_updates integers line n st us) (read_updates integers nowhere n st (move_updates nowhere us)) _ _
      (seen_updates st us)
      (λ r. seen_ok lines _ _ (ap (λ (z : Statements). let w : State × Statements = (r.0, z) in w) (as_statements_without r.1)))

  -- the condition of a `for`
  seen_test : (st : State) (at : ℕ) (t : Optional)
      → Seen expression_without (read_test integers line n st at t) (read_test integers nowhere n st 0 (move_optional nowhere t))
  seen_test st at absent = record { same = refl }
  seen_test st at (present e) = seen_tested integers line n st at e

  -- what is returned
  seen_returned : (st : State) (at : ℕ) (t : Optional)
      → Seen lines (read_returned integers line n st at t) (read_returned integers nowhere n st 0 (move_optional nowhere t))
  seen_returned st at absent = record { same = refl }
  seen_returned st at (present e) =
      let now = spell_expr (move_expr nowhere e) in
      seen_then expression_without lines (read integers (line at) (among (spell_expr e) st) e n)
      (read integers 0 (among now st) (move_expr nowhere e) n) _ _
      (seen_read_among integers (line at) st (spell_expr e) now e n (spelled_expr nowhere e).same)
      (λ x. seen_value st at (evaluates (more x none) (line at)))

  -- ---- statements
  -- a condition that is read before its statement is counted
  condition_then : {A : Type 0} (last : A → A) (st : State) (at : ℕ) (e : Expr) (f g : Expression → State → Result A FunctionFault)
      → ((x : Expression) (now : State) → Seen last (f x now) (g (expression_without x) now))
      → Seen last (read_condition integers line n st at e >>= λ x. counted at (prelude_of integers line n at x + 1) st >>= λ now. f x now)
      (read_condition integers nowhere n st 0 (move_expr nowhere e) >>= λ x. counted 0 (prelude_of integers nowhere n 0 x + 1) st
      >>= λ now. g x now)
  condition_then last st at e f g k =
      seen_then expression_without last (read_condition integers line n st at e)
      (read_condition integers nowhere n st 0 (move_expr nowhere e)) _ _
      (seen_tested integers line n st at e) (λ x.
      seen_then (λ z. z) last (counted at (prelude_of integers line n at x + 1) st)
      (counted 0 (prelude_of integers nowhere n 0 (expression_without x) + 1) st) _ _
      (seen_counted at _ _ st (ap (λ (z : ℕ). z + 1) (prelude_same integers line n at x))) (λ now. k x now))

  mutual
    -- a statement without labels
    seen_core : (inside : Bool) (st : State) (c : Core)
        → Seen lines (read_core integers line n inside st c) (read_core integers nowhere n inside st (move_core nowhere c))
    seen_core inside st (empty a) = record { same = refl }
    seen_core inside st (block a is b) =
        seen_then lines lines (read_items integers line n inside st is)
        (read_items integers nowhere n inside st (move_items nowhere is)) _ _
        (seen_items inside st is) (λ r. record { same = refl })
    seen_core inside st (if_alone at b e c s) =
        condition_then lines st at e _ _ (λ x now.
        seen_then lines lines (read_sub integers line n inside now s) (read_sub integers nowhere n inside now (move_sub nowhere s)) _ _
        (seen_sub inside now s)
        (λ r. record { same = refl }))
    seen_core inside st (if_else at b e c s d t) =
        condition_then lines st at e _ _ (λ x now.
        seen_then lines lines (read_sub integers line n inside now s) (read_sub integers nowhere n inside now (move_sub nowhere s)) _ _
        (seen_sub inside now s)
        (λ r. seen_then lines lines (read_sub integers line n inside r.0 t)
        (read_sub integers nowhere n inside r.0 (move_sub nowhere t)) _ _
        (seen_sub inside r.0 t) (λ q. record { same = refl })))
    seen_core inside st (repeat at b e c s) =
        condition_then lines st at e _ _ (λ x now.
        seen_then lines lines (read_sub integers line n true now s) (read_sub integers nowhere n true now (move_sub nowhere s)) _ _
        (seen_sub true now s)
        (λ r. record { same = refl }))
    seen_core inside st (repeat_after at s b c e d i) =
        seen_then (λ z. z) lines (counted at 1 st) (counted 0 1 st) _ _ (seen_counted at 1 1 st refl) (λ now.
        seen_then lines lines (read_sub integers line n true now s) (read_sub integers nowhere n true now (move_sub nowhere s)) _ _
        (seen_sub true now s)
        (λ r.
        seen_then expression_without lines (read_condition integers line n r.0 at e)
        (read_condition integers nowhere n r.0 0 (move_expr nowhere e)) _ _
        (seen_tested integers line n r.0 at e) (λ x.
        seen_then (λ z. z) lines (counted at (prelude_of integers line n at x) r.0)
        (counted 0 (prelude_of integers nowhere n 0 (expression_without x)) r.0) _ _
        (seen_counted at _ _ r.0 (prelude_same integers line n at x)) (λ now. record { same = refl }))))
    seen_core inside st (repeat_for at b f c t d us i s) =
        seen_then lines lines (read_first integers line n st f) (read_first integers nowhere n st (move_first nowhere f)) _ _
        (seen_first st f) (λ r.
        seen_then expression_without lines (read_test integers line n r.0 at t)
        (read_test integers nowhere n r.0 0 (move_optional nowhere t)) _ _
        (seen_test r.0 at t) (λ x.
        seen_then (λ z. z) lines (counted at (prelude_of integers line n at x + 1) r.0)
        (counted 0 (prelude_of integers nowhere n 0 (expression_without x) + 1) r.0) _ _
        (seen_counted at _ _ r.0 (ap (λ (z : ℕ). z + 1) (prelude_same integers line n at x))) (λ now.
        seen_then all_changes lines (read_updates integers line n now us)
        (read_updates integers nowhere n now (move_updates nowhere us)) _ _
        (seen_updates now us) (λ u.
        seen_then lines lines (read_sub integers line n true u.0 s) (read_sub integers nowhere n true u.0 (move_sub nowhere s)) _ _
        (seen_sub true u.0 s)
        (λ q.
        seen_ok lines _ _ (ap (λ (z : Statements). let w : State × Statements = (closed (length st.names) q.0, z) in w)
        (followed_without r.1 (one (loop (for_loop u.1) x q.1 (line at))))))))))
    seen_core inside st (jumps j at b) =
        seen_then (λ z. z) lines (jumped inside at st) (jumped inside 0 st) _ _ (seen_jumped inside at st)
        (λ now. seen_ok lines _ _ (ap (λ (z : Statement). let w : State × Statements = (now, one z) in w) (jump_without j (line at))))
    seen_core inside st (tree.returns at t b) =
        seen_then lines lines (read_returned integers line n st at t) (read_returned integers nowhere n st 0 (move_optional nowhere t)) _ _
        (seen_returned st at t) (λ r.
        seen_then (λ z. z) lines (counted at 1 r.0) (counted 0 1 r.0) _ _ (seen_counted at 1 1 r.0 refl) (λ now.
        seen_ok lines _ _ (ap (λ (z : Statements). let w : State × Statements = (now, z) in w)
        (followed_without r.1 (one (jump core.returns (line at)))))))
    seen_core inside st (demands k at b e c d) =
        seen_then expression_without lines (read_condition integers line n st at e)
        (read_condition integers nowhere n st 0 (move_expr nowhere e)) _ _
        (seen_tested integers line n st at e) (λ x.
        let s : Statement = demand_of k x at (line at) in
        let t : Statement = demand_of k (expression_without x) 0 0 in
        let same = demand_without k x at (line at) in
        seen_then (λ z. z) lines (counted at (nodes_in (core_of integers n s)) st) (counted 0 (nodes_in (core_of integers n t)) st) _ _
        (seen_counted at _ _ st (node_same integers n s ∙ ap (λ (z : Statement). nodes_in (core_of integers n z)) same)) (λ now.
        seen_ok lines _ _ (ap (λ (z : Statement). let w : State × Statements = (now, one z) in w) same)))
    seen_core inside st (calls x at b es c d) =
        seen_then (λ (z : Arguments). move_arguments nowhere z) lines (as_called at (thing_of x st) es)
        (as_called 0 (thing_of x st) (move_arguments nowhere es)) _ _
        (seen_called (λ (z : Arguments). move_arguments nowhere z) at (thing_of x st) es) (λ es.
        let ts = spell_expr (tree.call x at b es c) in
        let now = spell_expr (move_expr nowhere (tree.call x at b es c)) in
        seen_then expressions_without lines (read_arguments integers (line at) (among ts st) es n)
        (read_arguments integers 0 (among now st) (move_arguments nowhere es) n) _ _
        (from_around expressions_without (read_arguments integers (line at) (among ts st) es n)
        (λ z. read_arguments integers 0 z (move_arguments nowhere es) n) ts now st (spelled_expr nowhere (tree.call x at b es c)).same
        (seen_arguments integers (line at) (among ts st) es n)) (λ es.
        seen_then lines lines (read_evaluated integers line n st at (evaluates es (line at)))
        (read_evaluated integers nowhere n st 0 (evaluates (expressions_without es) 0)) _ _ (seen_value st at (evaluates es (line at)))
        (λ r.
        let after : Statements = call_of x at (line at) in
        let same = call_without x at (line at) in
        seen_then (λ z. z) lines (counted at (nodes_in (core_in integers n after)) r.0)
        (counted 0 (nodes_in (core_in integers n (call_of x 0 0))) r.0) _ _
        (seen_counted at _ _ r.0 (nodes_in_same integers n after ∙ ap (λ (z : Statements). nodes_in (core_in integers n z)) same)) (λ now.
        seen_ok lines _ _ (ap (λ (z : Statements). let w : State × Statements = (now, z) in w)
        (followed_without r.1 after ∙ ap (λ (z : Statements). followed_by (without_places r.1) z) same))))))
    seen_core inside st (updates u c) =
        seen_then (beside change_without) lines (read_update integers line n st u)
        (read_update integers nowhere n st (move_update nowhere u)) _ _
        (seen_update integers line n st u) (λ r. record { same = refl })

    -- a statement with its labels
    seen_sub : (inside : Bool) (st : State) (s : Sub)
        → Seen lines (read_sub integers line n inside st s) (read_sub integers nowhere n inside st (move_sub nowhere s))
    seen_sub inside st (labelled x at b s) =
        seen_then (λ z. z) lines (new_label x at st) (new_label x 0 st) _ _ (seen_label x at st) (λ now.
        seen_then lines lines (read_sub integers line n inside now s) (read_sub integers nowhere n inside now (move_sub nowhere s)) _ _
        (seen_sub inside now s)
        (λ r. record { same = refl }))
    seen_sub inside st (plain c) = seen_core inside st c

    -- the statements of a block
    pub seen_items : (inside : Bool) (st : State) (is : Items)
        → Seen lines (read_items integers line n inside st is) (read_items integers nowhere n inside st (move_items nowhere is))
    seen_items inside st no_items = record { same = refl }
    seen_items inside st (tree.label x at b is) =
        seen_then (λ z. z) lines (new_label x at st) (new_label x 0 st) _ _ (seen_label x at st) (λ now.
        seen_then lines lines (read_items integers line n inside now is)
        (read_items integers nowhere n inside now (move_items nowhere is)) _ _
        (seen_items inside now is) (λ r. record { same = refl }))
    seen_items inside st (tree.declaration t xs b is) =
        seen_both (read_declarators integers line n st xs) (read_declarators integers nowhere n st (move_declarators nowhere xs))
        (λ now. read_items integers line n inside now is) (λ now. read_items integers nowhere n inside now (move_items nowhere is))
        (seen_declarators st xs) (λ now. seen_items inside now is)
    seen_items inside st (item c is) =
        seen_both (read_core integers line n inside st c) (read_core integers nowhere n inside st (move_core nowhere c))
        (λ now. read_items integers line n inside now is) (λ now. read_items integers nowhere n inside now (move_items nowhere is))
        (seen_core inside st c) (λ now. seen_items inside now is)
