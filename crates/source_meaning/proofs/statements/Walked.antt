-- What comes of each kind of statement that is read.
use Rattle.std.proofs.Common.{◌∙◌, ◌+◌, ◌++◌, ℕ, Bool, true, IsTrue, List, [], length, Result, Ok}
use Rattle.std.proofs.Common.{refl, sym, ap, arith}
use Rattle.std.proofs.lemmas.List.{append-nil}
use Rattle.lang_tree.specs.Tree.{breaks, continues, returns, nodes_in}
use Rattle.source_grammar.specs.Tokens as g
use Rattle.source_grammar.specs.Tokens.{Name, Jump, Demand}
use Rattle.source_grammar.specs.Grammar.{Expr, Arguments, Optional, absent, present, Update, update, step_before, Place, Effect, steps}
use Rattle.source_grammar.specs.Grammar.{MoreUpdates, last_update, next_update, Updates, no_updates, some_updates, Initialiser, bare, given}
use Rattle.source_grammar.specs.Grammar.{sized, Declarator, declarator, MoreDeclarators, last_declarator, next_declarator, Declarators}
use Rattle.source_grammar.specs.Grammar.{ForFirst}
use Rattle.source_grammar.specs.Grammar.{declared_first, updated_first, Core, Sub, Items, empty, block, if_alone, if_else, repeat}
use Rattle.source_grammar.specs.Grammar.{repeat_after}
use Rattle.source_grammar.specs.Grammar.{repeat_for, jumps, demands, calls, updates, labelled, plain, no_items, item}
use Rattle.source_grammar.specs.Grammar as tree
use Rattle.source_tree.specs.Expressions.{Expression}
use Rattle.source_tree.specs.Statements.{Change, while_loop, for_loop, do_loop, Statements}
use Rattle.source_tree.specs.Statements.{branch, loop, jump, label, nil, cons}
use Rattle.source_core.specs.Core.{changes_deeds, core_of}
use Rattle.source_meaning.specs.declared.fault.FunctionFault.{FunctionFault}
use Rattle.source_meaning.specs.Results.{◌>>=◌}
use Rattle.source_meaning.specs.Names.{State, closed}
use Rattle.source_meaning.specs.Limits.{counted}
use Rattle.source_meaning.specs.Changes.{read_update}
use Rattle.source_meaning.specs.Statements.{followed_by, one, new_label, jumped, jump_of, demand_of}
use Rattle.source_meaning.specs.Statements.{read_condition, prelude_of, read_declarators}
use Rattle.source_meaning.specs.Statements.{read_updates, read_first, read_test, read_returned}
use Rattle.source_meaning.specs.Statements.{read_core}
use Rattle.source_meaning.specs.Statements.{read_sub, read_items}
use Rattle.source_meaning.specs.Walk.{declared_in, declared_before, declared_core, declared_sub}
use Rattle.source_meaning.specs.Walk.{declared_items}
use Rattle.source_meaning.proofs.results.Values.{OnValue, on_bind}
use Rattle.source_meaning.proofs.names.Sound.{Sound, Counts, closed_sound, counted_sound}
use Rattle.source_meaning.proofs.names.Sound.{label_sound}
use Rattle.source_meaning.proofs.names.Sound.{jumped_sound}
use Rattle.source_meaning.proofs.names.Added.{added, added_then}
use Rattle.source_meaning.proofs.statements.Good.{nodes, nodes_cons, nodes_branch}
use Rattle.source_meaning.proofs.statements.Good.{GoodCondition, GoodStatement}
use Rattle.source_meaning.proofs.statements.Good.{good_cons}
use Rattle.source_meaning.proofs.statements.Good.{good_branch, good_while, good_do, good_for, good_assumes}
use Rattle.source_meaning.proofs.statements.Good.{good_asserts, good_returns, good_breaks, good_continues, good_label}
use Rattle.source_meaning.proofs.statements.Turns.{Turns, AllTurn, Tests, condition_good, test_good, update_turns, updates_turn}
use Rattle.source_meaning.proofs.statements.Grows.{Grows}
use Rattle.source_meaning.proofs.statements.Grows.{grows_change, grows_none, grows_one, grows_then, same_declared, declarators_grow}
use Rattle.source_meaning.proofs.statements.Grows.{first_grows}
use Rattle.source_meaning.proofs.statements.Grows.{returned_grows, called_grows}
use Rattle.base_integers.specs.declared.integers.Integers.{Integers}

module _ (integers : Integers) (line : ℕ → ℕ) (n : ℕ) where
  -- ---- statements
  -- what a walk of statements leaves, from each state
  abbrev Walked : (inside : Bool) → (State → Result (State × Statements) FunctionFault) → List (List ℕ) → Type 0
  Walked inside walk d = (st : State) → Sound st → OnValue (Grows integers n inside st d) (walk st)

  -- names are forgotten behind statements
  closes : (inside : Bool) (before : ℕ) (st : State) (d : List (List ℕ)) (r : State × Statements) → Grows integers n inside st d r
      → Grows integers n inside st d (closed before r.0, r.1)
  closes inside before st d r h = record {
    sound = closed_sound before r.0 h.sound;
    variables = h.variables;
    more = h.more;
    count = h.count;
    good = h.good;
  }

  label_grows : (inside : Bool) (x : Name) (at : ℕ) (st now : State) (d : List (List ℕ)) (r : State × Statements) → Counts 1 st now
      → Grows integers n inside now d r → Grows integers n inside st d (r.0, cons (label x.text (line at)) r.1)
  label_grows inside x at st now d r c h = let e = nodes_cons integers n (label x.text (line at)) r.1 in record {
    sound = h.sound;
    variables = h.variables ∙ ap (λ vs. added vs d) c.variables;
    more = omega (arith, h.more, c.width);
    count = omega (arith, h.count, c.count, e);
    good = λ l. good_cons integers n inside (label x.text (line at)) r.1 (good_label integers n inside x.text (line at)) (h.good l);
  }

  labelled_grows : (inside : Bool) (x : Name) (at : ℕ) (d : List (List ℕ)) (walk : State → Result (State × Statements) FunctionFault)
      → Walked inside walk d
      → Walked inside (λ st. new_label x at st >>= λ now. walk now >>= λ r. Ok (r.0, cons (label x.text (line at)) r.1)) d
  labelled_grows inside x at d walk w st s =
      on_bind (Counts 1 st) (Grows integers n inside st d) (new_label x at st) _ (label_sound x at st s)
      (λ now c. on_bind (Grows integers n inside now d) (Grows integers n inside st d) (walk now) _ (w now c.sound)
      (λ r h. label_grows inside x at st now d r c h))

  branch_grows : (inside : Bool) (st now : State) (d e : List (List ℕ)) (at : ℕ) (x : Expression) (r q : State × Statements)
      → Tests integers line n st at x
      → Counts (prelude_of integers line n at x + 1) st now → Grows integers n inside now d r → Grows integers n inside r.0 e q
      → Grows integers n inside st (d ++ e) (q.0, one (branch x r.1 q.1 (line at)))
  branch_grows inside st now d e at x r q t c h i = let k = nodes_branch integers n x r.1 q.1 (line at) in
      grows_one integers line n inside st q.0 (d ++ e) (prelude_of integers line n at x + 1 + nodes integers n r.1 + nodes integers n q.1)
      (branch x r.1 q.1 (line at)) i.sound
      (i.variables ∙ ap (λ vs. added vs e) (h.variables ∙ ap (λ vs. added vs d) c.variables) ∙ sym (added_then st.variables d e))
      (omega (arith, c.width, h.more, i.more)) (omega (arith, c.count, h.count, i.count)) k
      (λ l. good_branch integers n inside (line at) x r.1 q.1 (t (omega (arith, l, c.width, h.more, i.more)))
      (h.good (omega (arith, l, i.more))) (i.good l))

  while_grows : (inside : Bool) (st now : State) (d : List (List ℕ)) (at : ℕ) (x : Expression) (r : State × Statements)
      → Tests integers line n st at x
      → Counts (prelude_of integers line n at x + 1) st now → Grows integers n true now d r
      → Grows integers n inside st d (r.0, one (loop while_loop x r.1 (line at)))
  while_grows inside st now d at x r t c h =
      grows_one integers line n inside st r.0 d (1 + prelude_of integers line n at x + nodes integers n r.1)
      (loop while_loop x r.1 (line at)) h.sound
      (h.variables ∙ ap (λ vs. added vs d) c.variables) (omega (arith, c.width, h.more)) (omega (arith, c.count, h.count)) (omega arith)
      (λ l. good_while integers n inside (line at) x r.1 (t (omega (arith, l, c.width, h.more))) (h.good l))

  do_grows : (inside : Bool) (st now after : State) (d : List (List ℕ)) (at : ℕ) (x : Expression) (r : State × Statements) → Counts 1 st now
      → Grows integers n true now d r → Tests integers line n r.0 at x → Counts (prelude_of integers line n at x) r.0 after
      → Grows integers n inside st d (after, one (loop do_loop x r.1 (line at)))
  do_grows inside st now after d at x r c h t k =
      grows_one integers line n inside st after d (1 + prelude_of integers line n at x + nodes integers n r.1)
      (loop do_loop x r.1 (line at)) k.sound
      (k.variables ∙ h.variables ∙ ap (λ vs. added vs d) c.variables) (omega (arith, c.width, h.more, k.width))
      (omega (arith, c.count, h.count, k.count)) (omega arith)
      (λ l. good_do integers n inside (line at) x r.1 (t (omega (arith, l, k.width))) (h.good (omega (arith, l, k.width))))

  for_grows : (inside : Bool) (st now : State) (d : List (List ℕ)) (at : ℕ) (x : Expression) (u : State × List Change)
      (r : State × Statements)
      → Tests integers line n st at x
      → Counts (prelude_of integers line n at x + 1) st now → AllTurn integers n now u → Grows integers n true u.0 d r
      → Grows integers n inside st d (r.0, one (loop (for_loop u.1) x r.1 (line at)))
  for_grows inside st now d at x u r t c v h =
      grows_one integers line n inside st r.0 d
      (1 + (prelude_of integers line n at x + length (changes_deeds integers n u.1)) + nodes integers n r.1)
      (loop (for_loop u.1) x r.1 (line at))
      h.sound (h.variables ∙ ap (λ vs. added vs d) (v.variables ∙ c.variables)) (omega (arith, c.width, v.width, h.more))
      (omega (arith, c.count, v.count, h.count)) (omega arith)
      (λ l. good_for integers n inside (line at) u.1 x r.1 (v.good (omega (arith, l, v.width, h.more)))
      (t (omega (arith, l, c.width, v.width, h.more))) (h.good l))

  jump_grows : (inside : Bool) (j : Jump) (at : ℕ) (st now : State) → Counts 1 st now → IsTrue inside
      → Grows integers n inside st [] (now, one (jump_of j (line at)))
  jump_grows inside g.breaks at st now c i = grows_one integers line n inside st now [] 1 (jump breaks (line at)) c.sound
      c.variables (omega (arith, c.width)) c.count refl (λ l. good_breaks integers n inside (line at) i)
  jump_grows inside g.continues at st now c i = grows_one integers line n inside st now [] 1 (jump continues (line at)) c.sound
      c.variables (omega (arith, c.width)) c.count refl (λ l. good_continues integers n inside (line at) i)

  return_grows : (inside : Bool) (at : ℕ) (st now : State) (r : State × Statements) → Grows integers n inside st [] r → Counts 1 r.0 now
      → Grows integers n inside st [] (now, followed_by r.1 (one (jump returns (line at))))
  return_grows inside at st now r h c = grows_then integers line n inside st [] [] r (now, one (jump returns (line at))) h
      (grows_one integers line n inside r.0 now [] 1 (jump returns (line at)) c.sound c.variables (omega (arith, c.width)) c.count refl
      (λ l. good_returns integers n inside (line at)))

  demand_good : (inside : Bool) (k : Demand) (x : Expression) (at : ℕ) → GoodCondition integers n (line at) x
      → GoodStatement integers n inside (demand_of k x at (line at))
  demand_good inside g.assumes x at c = good_assumes integers n inside (line at) x c
  demand_good inside g.asserts x at c = good_asserts integers n inside (line at) at x c

  mutual
    core_grows : (inside : Bool) (c : Core) → Walked inside (λ st. read_core integers line n inside st c) (declared_core c)
    core_grows inside (empty a) st s = grows_none integers line n inside st s
    core_grows inside (block a is b) st s =
        on_bind (Grows integers n inside st (declared_items is)) (Grows integers n inside st (declared_items is))
        (read_items integers line n inside st is) _
        (items_grow inside is st s) (λ r h. closes inside (length st.names) st (declared_items is) r h)
    core_grows inside (if_alone at b e c t) st s =
        on_bind (Tests integers line n st at) (Grows integers n inside st (declared_sub t)) (read_condition integers line n st at e) _
        (condition_good integers line n st s at e)
        (λ x k. on_bind (Counts (prelude_of integers line n at x + 1) st) (Grows integers n inside st (declared_sub t))
        (counted at (prelude_of integers line n at x + 1) st) _
        (counted_sound at (prelude_of integers line n at x + 1) st s)
        (λ now c. on_bind (Grows integers n inside now (declared_sub t)) (Grows integers n inside st (declared_sub t))
        (read_sub integers line n inside now t) _
        (sub_grows inside t now c.sound)
        (λ r h. same_declared integers line n inside st (declared_sub t ++ []) (declared_sub t) _ (append-nil (declared_sub t))
        (branch_grows inside st now (declared_sub t) [] at x r (r.0, nil) k c h (grows_none integers line n inside r.0 h.sound)))))
    core_grows inside (if_else at b e c t d u) st s =
        on_bind (Tests integers line n st at) (Grows integers n inside st (declared_sub t ++ declared_sub u))
        (read_condition integers line n st at e) _
        (condition_good integers line n st s at e)
        (λ x k. on_bind (Counts (prelude_of integers line n at x + 1) st) (Grows integers n inside st (declared_sub t ++ declared_sub u))
        (counted at (prelude_of integers line n at x + 1) st) _ (counted_sound at (prelude_of integers line n at x + 1) st s)
        (λ now c. on_bind (Grows integers n inside now (declared_sub t)) (Grows integers n inside st (declared_sub t ++ declared_sub u))
        (read_sub integers line n inside now t) _ (sub_grows inside t now c.sound)
        (λ r h. on_bind (Grows integers n inside r.0 (declared_sub u)) (Grows integers n inside st (declared_sub t ++ declared_sub u))
        (read_sub integers line n inside r.0 u) _ (sub_grows inside u r.0 h.sound)
        (λ q i. branch_grows inside st now (declared_sub t) (declared_sub u) at x r q k c h i))))
    core_grows inside (repeat at b e c t) st s =
        on_bind (Tests integers line n st at) (Grows integers n inside st (declared_sub t)) (read_condition integers line n st at e) _
        (condition_good integers line n st s at e)
        (λ x k. on_bind (Counts (prelude_of integers line n at x + 1) st) (Grows integers n inside st (declared_sub t))
        (counted at (prelude_of integers line n at x + 1) st) _
        (counted_sound at (prelude_of integers line n at x + 1) st s)
        (λ now c. on_bind (Grows integers n true now (declared_sub t)) (Grows integers n inside st (declared_sub t))
        (read_sub integers line n true now t) _
        (sub_grows true t now c.sound) (λ r h. while_grows inside st now (declared_sub t) at x r k c h)))
    core_grows inside (repeat_after at t b c e d i) st s =
        on_bind (Counts 1 st) (Grows integers n inside st (declared_sub t)) (counted at 1 st) _ (counted_sound at 1 st s)
        (λ now c. on_bind (Grows integers n true now (declared_sub t)) (Grows integers n inside st (declared_sub t))
        (read_sub integers line n true now t) _
        (sub_grows true t now c.sound)
        (λ r h. on_bind (Tests integers line n r.0 at) (Grows integers n inside st (declared_sub t))
        (read_condition integers line n r.0 at e) _
        (condition_good integers line n r.0 h.sound at e)
        (λ x k. on_bind (Counts (prelude_of integers line n at x) r.0) (Grows integers n inside st (declared_sub t))
        (counted at (prelude_of integers line n at x) r.0) _
        (counted_sound at (prelude_of integers line n at x) r.0 h.sound)
        (λ after m. do_grows inside st now after (declared_sub t) at x r c h k m))))
    core_grows inside (repeat_for at b f c t d us i u) st s =
        on_bind (Grows integers n inside st (declared_before f)) (Grows integers n inside st (declared_before f ++ declared_sub u))
        (read_first integers line n st f) _
        (first_grows integers line n inside st s f)
        (λ r h. on_bind (Tests integers line n r.0 at) (Grows integers n inside st (declared_before f ++ declared_sub u))
        (read_test integers line n r.0 at t) _
        (test_good integers line n r.0 h.sound at t)
        (λ x k. on_bind (Counts (prelude_of integers line n at x + 1) r.0)
        (Grows integers n inside st (declared_before f ++ declared_sub u))
        (counted at (prelude_of integers line n at x + 1) r.0) _ (counted_sound at (prelude_of integers line n at x + 1) r.0 h.sound)
        (λ now c. on_bind (AllTurn integers n now) (Grows integers n inside st (declared_before f ++ declared_sub u))
        (read_updates integers line n now us) _
        (updates_turn integers line n now c.sound us)
        (λ v w. on_bind (Grows integers n true v.0 (declared_sub u)) (Grows integers n inside st (declared_before f ++ declared_sub u))
        (read_sub integers line n true v.0 u) _ (sub_grows true u v.0 w.sound)
        (λ q j. closes inside (length st.names) st (declared_before f ++ declared_sub u) _
        (grows_then integers line n inside st (declared_before f) (declared_sub u) r (q.0, one (loop (for_loop v.1) x q.1 (line at))) h
        (for_grows inside r.0 now (declared_sub u) at x v q k c w j)))))))
    core_grows inside (jumps j at b) st s =
        on_bind (λ now. Counts 1 st now × IsTrue inside) (Grows integers n inside st []) (jumped inside at st) _
        (jumped_sound inside at st s)
        (λ now c. jump_grows inside j at st now c.0 c.1)
    core_grows inside (tree.returns at t b) st s =
        on_bind (Grows integers n inside st []) (Grows integers n inside st []) (read_returned integers line n st at t) _
        (returned_grows integers line n inside st s at t)
        (λ r h. on_bind (Counts 1 r.0) (Grows integers n inside st []) (counted at 1 r.0) _ (counted_sound at 1 r.0 h.sound)
        (λ now c. return_grows inside at st now r h c))
    core_grows inside (demands k at b e c d) st s =
        on_bind (Tests integers line n st at) (Grows integers n inside st []) (read_condition integers line n st at e) _
        (condition_good integers line n st s at e)
        (λ x t. let m = nodes_in (core_of integers n (demand_of k x at (line at))) in
        on_bind (Counts m st) (Grows integers n inside st []) (counted at m st) _ (counted_sound at m st s)
        (λ now c. grows_one integers line n inside st now [] m (demand_of k x at (line at)) c.sound c.variables
        (omega (arith, c.width)) c.count refl
        (λ l. demand_good inside k x at (t (omega (arith, l, c.width))))))
    core_grows inside (calls x at b es c d) st s = called_grows integers line n inside x at b c es st s
    core_grows inside (updates u c) st s =
        on_bind (Turns integers n st) (Grows integers n inside st []) (read_update integers line n st u) _
        (update_turns integers line n st s u)
        (λ r t. grows_change integers line n inside st r t)

    sub_grows : (inside : Bool) (t : Sub) → Walked inside (λ st. read_sub integers line n inside st t) (declared_sub t)
    sub_grows inside (labelled x at b t) st s =
        labelled_grows inside x at (declared_sub t) (λ now. read_sub integers line n inside now t) (λ now m. sub_grows inside t now m) st s
    sub_grows inside (plain c) st s = core_grows inside c st s

    -- the statements that are read
    pub items_grow : (inside : Bool) (is : Items) → Walked inside (λ st. read_items integers line n inside st is) (declared_items is)
    items_grow inside no_items st s = grows_none integers line n inside st s
    items_grow inside (tree.label x at b is) st s =
        labelled_grows inside x at (declared_items is) (λ now. read_items integers line n inside now is)
        (λ now m. items_grow inside is now m) st s
    items_grow inside (tree.declaration a xs b is) st s =
        on_bind (Grows integers n inside st (declared_in xs)) (Grows integers n inside st (declared_in xs ++ declared_items is))
        (read_declarators integers line n st xs) _
        (declarators_grow integers line n inside st s xs)
        (λ r h. on_bind (Grows integers n inside r.0 (declared_items is)) (Grows integers n inside st (declared_in xs ++ declared_items is))
        (read_items integers line n inside r.0 is) _ (items_grow inside is r.0 h.sound)
        (λ q i. grows_then integers line n inside st (declared_in xs) (declared_items is) r q h i))
    items_grow inside (item c is) st s =
        on_bind (Grows integers n inside st (declared_core c)) (Grows integers n inside st (declared_core c ++ declared_items is))
        (read_core integers line n inside st c) _
        (core_grows inside c st s)
        (λ r h. on_bind (Grows integers n inside r.0 (declared_items is))
        (Grows integers n inside st (declared_core c ++ declared_items is))
        (read_items integers line n inside r.0 is) _ (items_grow inside is r.0 h.sound)
        (λ q i. grows_then integers line n inside st (declared_core c) (declared_items is) r q h i))
