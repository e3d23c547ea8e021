-- What a walk gives is a program within the limits.
use Rattle.std.proofs.Common.{◌≡◌, ◌∙◌, ◌++◌, ◌+◌, ◌≤◌, ◌<◌, inl, inr, ℕ, suc, ℤ, pos, negsuc, List, [], ◌∷◌, length, Bool, true, false}
use Rattle.std.proofs.Common.{◌&&◌, cond, IsTrue}
use Rattle.std.proofs.Common.{Result, Ok, Err, Option, Some, None, refl, sym, ap, arith, replicate, nat_le, nat_lt, min, subst}
use Rattle.std.proofs.lemmas.Bool.{lt-ltb, le-leb, ltb-true}
use Rattle.std.proofs.lemmas.List.{length-append, length-replicate}
use Rattle.lang_grammar.specs.Grammar.{Jump, breaks, continues, Update, set as set_update, ForFirst, no_first, declared_first}
use Rattle.lang_grammar.specs.Grammar.{updated_first, ForTest, no_test}
use Rattle.lang_grammar.specs.Grammar.{given_test, ForLast}
use Rattle.lang_grammar.specs.Grammar.{no_last, updated_last, repeat_after, repeat_for, jumps, updates, Direction, up, down, Expr, number}
use Rattle.lang_grammar.specs.Grammar.{variable, free, grouped, prefixed, joined, Declarator, bare}
use Rattle.lang_grammar.specs.Grammar.{given, Declarators, declares, declares_more, Core, empty, block, if_alone, if_else, repeat, demands}
use Rattle.lang_grammar.specs.Grammar.{step_after, step_before, Sub, labelled, plain, Items, no_items, label, declaration, item, Token}
use Rattle.lang_grammar.specs.Grammar.{Program, program, Demand, assumes, asserts}
use Rattle.lang_tree.specs.declared.form.Form.{Form}
use Rattle.lang_tree.specs.Numbers.{is_number}
use Rattle.lang_tree.specs.Limits.{is_form, is_condition, is_tested, is_change, is_kind, is_jump, is_statement, are_statements, is_program}
use Rattle.lang_tree.specs.declared.change.Change.{Change}
use Rattle.lang_tree.specs.declared.change.Change.TheVariants as change
use Rattle.lang_tree.proofs.Grown.{statements_grow}
use Rattle.lang_tree.specs.Tree as tree
use Rattle.lang_tree.specs.Tree.{Condition, Statement, Statements, nil, cons, change_count, kind_count, nodes_in}
use Rattle.lang_meaning.specs.declared.fault.ParseFault.{ParseFault}
use Rattle.lang_meaning.specs.declared.fault.ParseFault.TheVariants as fault
use Rattle.lang_meaning.specs.declared.fault.Limit.TheVariants as limit
use Rattle.base_limits.specs.declared.limits.TheConstants.{MOST_STATEMENTS}
use Rattle.lang_meaning.specs.Results.{◌>>=◌}
use Rattle.lang_meaning.specs.Names.{place_of}
use Rattle.lang_meaning.specs.Forms.{constant_form, variable_form}
use Rattle.lang_meaning.specs.Walk.{State, start_state, followed_by, one, counted, labelled_by, known_number}
use Rattle.lang_meaning.specs.Walk.{ranged}
use Rattle.lang_meaning.specs.Walk.{tested, right_side, assignment, changed, change_nodes, assigned, always, jump_kind}
use Rattle.lang_meaning.specs.Walk.{step_change, declared_by, closed, walk_expr, walk_update, walk_first, walk_test, walk_last}
use Rattle.lang_meaning.specs.Walk.{declared_before}
use Rattle.lang_meaning.specs.Walk.{walk_declarator, walk_declarators, walk_core, walk_sub, walk_items, declared_in, declared_core}
use Rattle.lang_meaning.specs.Walk.{declared_sub, declared_items}
use Rattle.lang_meaning.specs.Walk.{program_of, counted_for, demanded}
use Rattle.lang_meaning.proofs.forms.Ranges.{both_true, zeros_fit}
use Rattle.lang_tree.specs.declared.limits.TheConstants.{MOST_VARIABLES, MOST_HIDDEN}
use Rattle.lang_meaning.specs.Walk.{walk}
use Rattle.lang_meaning.specs.Meaning.{Answer, Means}
use Rattle.lang_tokens.specs.Lines.{line_at}
use Rattle.lang_meaning.proofs.limits.Values.{OnValue, on_bind, FormFits, form_fits, ranged_fits, constant_length, variable_fits, ValueFits}
use Rattle.lang_meaning.proofs.limits.Values.{compared_fits, combined_fits, prefix_fits, regarded_fits, TestFits, tested_fits, SideFits}
use Rattle.lang_meaning.proofs.limits.Values.{side_fits, assigned_fits, whole_fits}
use Rattle.lang_meaning.proofs.limits.ProgramPieces.{Below, known_below, Fits, Grows, Counted, Turns, counted_fits, follow_good}
use Rattle.lang_meaning.proofs.limits.ProgramPieces.{follow_count, one_good, assignment_good, assignment_count, changed_good, changed_count}
use Rattle.lang_meaning.proofs.limits.ProgramPieces.{change_nodes_good, change_nodes_count, label_fits, CountedFor, counted_for_fits}

module _ (line : ℕ → ℕ) (N : ℕ) where
  -- what the walk of an expression gives, unless it is a fault, is a value over N variables with its numbers in their range
  pub expr_fits : (st : State) (e : Expr) → OnValue (ValueFits N) (walk_expr line N st e)
  expr_fits st (number n a) = on_bind (FormFits N) (ValueFits N) (ranged a (constant_form N (pos n))) _
      (ranged_fits N a (constant_form N (pos n)) (constant_length N (pos n))) (λ f h. h)
  expr_fits st (variable x a) = on_bind (Below st.names) (ValueFits N) (known_number x a st) _ (known_below x a st)
      (λ i h. variable_fits N i (pos 0) refl)
  expr_fits st (free a b c) = tt
  expr_fits st (grouped a e b) = on_bind (ValueFits N) (ValueFits N) (walk_expr line N st e) _ (expr_fits st e)
      (λ v h. regarded_fits N a v h)
  expr_fits st (prefixed p a e) = on_bind (ValueFits N) (ValueFits N) (walk_expr line N st e) _ (expr_fits st e)
      (λ v h. prefix_fits N p a v h)
  expr_fits st (joined e o a f) = on_bind (ValueFits N) (ValueFits N) (walk_expr line N st e) _ (expr_fits st e)
      (λ v h. on_bind (ValueFits N) (ValueFits N) (walk_expr line N st f) _ (expr_fits st f) (λ w i. combined_fits N o a v w h i))

  -- one node for a variable, with one more name
  abbrev Declares : State → State × Statement → Type 0
  Declares st r = Fits r.0 × (length r.0.names ≡ suc (length st.names)) × (r.0.count ≡ suc st.count)
      × ((inside : Bool) → length r.0.names ≤ N → IsTrue (is_statement N inside r.1)) × (nodes_in (one r.1) ≡ 1)

  declared_fits : (x : List ℕ) (a : ℕ) (o : Option Form) (st : State) → SideFits N o → OnValue (Declares st) (declared_by line x a o st)
  declared_fits x a o st s = by_place (place_of x st.names) where
    by_test : (b : Bool) → nat_lt (length st.names) MOST_VARIABLES ≡ b
        → OnValue (Declares st) (cond b (counted a (record st { names = st.names ++ x ∷ []; known = st.known ++ length st.names ∷ [] })
        >>= λ now. Ok (now, assignment (length st.names) o (line a))) (Err (fault.Limit a limit.Variables)))
    by_test true e = on_bind _ (Declares st) (counted a (record st {
      names = st.names ++ x ∷ [];
      known =
          st.known ++ length st.names ∷ [];
    })) _
        (counted_fits a (record st { names = st.names ++ x ∷ []; known = st.known ++ length st.names ∷ [] })
        (omega (arith, length-append st.names (x ∷ []), ltb-true (length st.names) MOST_VARIABLES e)))
        (λ now h. (
          h.0,
          ap length h.1 ∙ more,
          h.2,
          (λ inside k. assignment_good N inside (length st.names) o (line a) (omega (arith, ap length h.1, more, k)) s),
          assignment_count (length st.names) o (line a),
        )) where
          more : length (st.names ++ x ∷ []) ≡ suc (length st.names)
          more = omega (arith, length-append st.names (x ∷ []))
    by_test false e = tt

    by_place : (p : Option ℕ) → OnValue (Declares st)
        (elim p as (λ z. Result (State × Statement) ParseFault) [
          | Some i ↦ Err (fault.NameTwice a)
          | None ↦ cond (nat_lt (length st.names) MOST_VARIABLES)
              (counted a (record st { names = st.names ++ x ∷ []; known = st.known ++ length st.names ∷ [] })
              >>= λ now. Ok (now, assignment (length st.names) o (line a))) (Err (fault.Limit a limit.Variables))
        ])
    by_place (Some i) = tt
    by_place None = by_test (nat_lt (length st.names) MOST_VARIABLES) refl

  declarator_fits : (x : Declarator) (st : State) → OnValue (Declares st) (walk_declarator line N x st)
  declarator_fits (bare x a) st = declared_fits x a None st tt
  declarator_fits (given x a b e) st =
      on_bind (ValueFits N) (Declares st) (walk_expr line N st e) _ (expr_fits st e)
      (λ v h. on_bind (SideFits N) (Declares st) (right_side b v) _ (side_fits N b v h) (λ o i. declared_fits x a o st i))

  grows_one : (inside : Bool) (st : State) (r : State × Statement) → Declares st r → Grows N inside st 1 (r.0, one r.1)
  grows_one inside st r (f, n, c, g, k) = record {
    fits = f;
    names = omega (arith, n);
    nodes = omega (arith, c, k);
    good =
        λ h. one_good N inside r.1 (g inside h);
  }

  grows_more : (inside : Bool) (st : State) (d : ℕ) (r : State × Statement) (q : State × Statements) → Declares st r
      → Grows N inside r.0 d q → Grows N inside st (suc d) (q.0, cons r.1 q.1)
  grows_more inside st d r q (f, n, c, g, k) h = record {
    fits = h.fits;
    names = omega (arith, n, h.names);
    nodes = omega (arith, c, k, h.nodes);
    good =
        λ i. both_true (is_statement N inside r.1) (are_statements N inside q.1) (g inside (omega (arith, h.names, i))) (h.good i);
  }

  declarators_fit : (inside : Bool) (xs : Declarators) (st : State) → OnValue (Grows N inside st (declared_in xs))
      (walk_declarators line N xs st)
  declarators_fit inside (declares x c) st =
      on_bind (Declares st) (Grows N inside st 1) (walk_declarator line N x st) _ (declarator_fits x st) (λ r h. grows_one inside st r h)
  declarators_fit inside (declares_more x c xs) st =
      on_bind (Declares st) (Grows N inside st (suc (declared_in xs))) (walk_declarator line N x st) _ (declarator_fits x st)
      (λ r h. on_bind (Grows N inside r.0 (declared_in xs)) (Grows N inside st (suc (declared_in xs))) (walk_declarators line N xs r.0) _
      (declarators_fit inside xs r.0) (λ q i. grows_more inside st (declared_in xs) r q h i))

  -- ---- lists in a row
  grows_then : (inside : Bool) (st : State) (d e : ℕ) (r q : State × Statements) → Grows N inside st d r → Grows N inside r.0 e q
      → Grows N inside st (d + e) (q.0, followed_by r.1 q.1)
  grows_then inside st d e r q h i = record {
    fits = i.fits;
    names = omega (arith, h.names, i.names);
    nodes =
        omega (arith, h.nodes, i.nodes, follow_count r.1 q.1);
    good = λ k. follow_good N inside r.1 q.1 (h.good (omega (arith, i.names, k))) (i.good k);
  }

  grows_label : (inside : Bool) (st now : State) (d : ℕ) (x : List ℕ) (a : ℕ) (q : State × Statements)
      → Counted st now → Grows N inside now d q → Grows N inside st d (q.0, cons (tree.label x (line a)) q.1)
  grows_label inside st now d x a q (f, n, c) h = record {
    fits = h.fits;
    names = h.names ∙ ap (λ z. length z + d) n;
    nodes =
        omega (arith, h.nodes, c);
    good = λ k. both_true true (are_statements N inside q.1) refl (h.good k);
  }

  abbrev Walked : Bool → (State → Result (State × Statements) ParseFault) → ℕ → Type 0
  Walked inside walked d = (st : State) → Fits st → OnValue (Grows N inside st d) (walked st)

  labelled_then : (inside : Bool) (x : List ℕ) (a d : ℕ) (walked : State → Result (State × Statements) ParseFault) → Walked inside walked d
      → Walked inside (λ st. labelled_by x a st >>= λ now. walked now >>= λ r. Ok (r.0, cons (tree.label x (line a)) r.1)) d
  labelled_then inside x a d walked w st f =
      on_bind (Counted st) (Grows N inside st d) (labelled_by x a st) _ (label_fits x a st f)
      (λ now h. on_bind (Grows N inside now d) (Grows N inside st d) (walked now) _ (w now h.0)
      (λ r i. grows_label inside st now d x a r h i))

  -- a node over branches
  grows_branch : (inside : Bool) (st now : State) (d : ℕ) (c : Condition) (a : ℕ) (r : State × Statements) → TestFits N c
      → Counted st now → Grows N inside now d r → Grows N inside st d (r.0, one (tree.branch c r.1 nil (line a)))
  grows_branch inside st now d c a r t (f, n, k) h = record {
    fits = h.fits;
    names = h.names ∙ ap (λ z. length z + d) n;
    nodes =
        omega (arith, h.nodes, k);
    good =
        λ i. one_good N inside (tree.branch c r.1 nil (line a)) (both_true (is_tested N c)
        (are_statements N inside r.1 && are_statements N inside nil) t
        (both_true (are_statements N inside r.1) true (h.good i) refl));
  }

  grows_both : (inside : Bool) (st now : State) (d e : ℕ) (c : Condition) (a : ℕ) (r q : State × Statements) → TestFits N c
      → Counted st now → Grows N inside now d r → Grows N inside r.0 e q
      → Grows N inside st (d + e) (q.0, one (tree.branch c r.1 q.1 (line a)))
  grows_both inside st now d e c a r q t (f, n, k) h i = record {
    fits = i.fits;
    names = omega (arith, i.names, h.names, ap length n);
    nodes =
        omega (arith, i.nodes, h.nodes, k);
    good =
        λ j. one_good N inside (tree.branch c r.1 q.1 (line a)) (both_true (is_tested N c)
        (are_statements N inside r.1 && are_statements N inside q.1) t
        (both_true (are_statements N inside r.1) (are_statements N inside q.1) (h.good (omega (arith, i.names, j))) (i.good j)));
  }

  -- ---- loops
  loop_good : (inside : Bool) (m : tree.LoopKind) (c : Condition) (body : Statements) (l : ℕ) → IsTrue (is_kind N m) → TestFits N c
      → IsTrue (are_statements N true body) → IsTrue (are_statements N inside (one (tree.loop m c body l)))
  loop_good inside m c body l k t b =
      one_good N inside (tree.loop m c body l) (both_true (is_tested N c) (is_kind N m && are_statements N true body) t
      (both_true (is_kind N m) (are_statements N true body) k b))

  grows_loop : (inside : Bool) (st now : State) (d : ℕ) (m : tree.LoopKind) (c : Condition) (a : ℕ) (r : State × Statements)
      → IsTrue (is_kind N m)
      → kind_count m ≡ 0 → TestFits N c → Counted st now → Grows N true now d r
      → Grows N inside st d (r.0, one (tree.loop m c r.1 (line a)))
  grows_loop inside st now d m c a r e z t (f, n, k) h = record {
    fits = h.fits;
    names = h.names ∙ ap (λ z. length z + d) n;
    nodes =
        omega (arith, h.nodes, k, z);
    good = λ i. loop_good inside m c r.1 (line a) e t (h.good i);
  }

  change_kind : (n : ℕ) (g : Change) → IsTrue (is_change n g) → IsTrue (is_kind n (tree.for_loop [] (tree.change_deeds g)))
  change_kind n change.Unchanged h = refl
  change_kind n (change.Set var form l) h = both_true (nat_lt var n && is_form n form) true h refl
  change_kind n (change.Havoc var l) h = both_true (nat_lt var n) true h refl

  change_kind_count : (g : Change) → kind_count (tree.for_loop [] (tree.change_deeds g)) ≡ change_count g
  change_kind_count change.Unchanged = refl
  change_kind_count (change.Set var form l) = refl
  change_kind_count (change.Havoc var l) = refl

  grows_for : (inside : Bool) (st now : State) (k d e : ℕ) (c : Condition) (a : ℕ) (r : State × Statements) (u : State × Change)
      (q : State × Statements)
      → Grows N inside st d r → TestFits N c → Counted r.0 now → Turns N now u → Grows N true u.0 e q
      → Grows N inside st (d + e) (
        closed k q.0,
        followed_by r.1
            (one (tree.loop (tree.for_loop [] (tree.change_deeds u.1)) c q.1 (line a))),
      )
  grows_for inside st now k d e c a r u q h t (f, n, l) (v, w, x, y) i = record {
    fits = record { few_names = i.fits.few_names; few_nodes = i.fits.few_nodes };
    names = omega (arith, i.names, w, ap length n, h.names);
    nodes =
        omega (
          arith,
          h.nodes,
          l,
          x,
          i.nodes,
          change_kind_count u.1,
          follow_count r.1 (one (tree.loop (tree.for_loop [] (tree.change_deeds u.1)) c q.1 (line a))),
        );
    good = λ j. follow_good N inside r.1 (one (tree.loop (tree.for_loop [] (tree.change_deeds u.1)) c q.1 (line a)))
        (h.good (omega (arith, i.names, w, ap length n, j)))
        (loop_good inside (tree.for_loop [] (tree.change_deeds u.1)) c q.1 (line a) (change_kind N u.1 (y (omega (arith, i.names, j)))) t
        (i.good j));
  }

  grows_none : (inside : Bool) (st : State) → Fits st → Grows N inside st 0 (st, nil)
  grows_none inside st f = record { fits = f; names = omega arith; nodes = omega arith; good = λ h. refl }

  grows_node : (inside : Bool) (st now : State) (s : Statement) → Counted st now → nodes_in (one s) ≡ 1
      → (length st.names ≤ N → IsTrue (is_statement N inside s)) → Grows N inside st 0 (now, one s)
  grows_node inside st now s (f, n, c) k g = record {
    fits = f;
    names = ap length n ∙ (omega arith);
    nodes = omega (arith, c, k);
    good = λ h. one_good N inside s (g (omega (arith, ap length n, h)));
  }

  grows_change : (inside : Bool) (st : State) (r : State × Change) → Turns N st r → Grows N inside st 0 (r.0, change_nodes r.1)
  grows_change inside st r (f, n, c, g) = record {
    fits = f;
    names = omega (arith, n);
    nodes = omega (arith, c, change_nodes_count r.1);
    good = λ h. change_nodes_good N inside r.1 (g h);
  }

  -- ---- assignments and steps
  turned : (st now : State) (g : Change) → Counted st now → change_count g ≡ 1 → (length st.names ≤ N → IsTrue (is_change N g))
      → Turns N st (now, g)
  turned st now g (f, n, c) e h = (f, ap length n, omega (arith, c, e), (λ k. h (omega (arith, ap length n, k))))

  set_good : (i : ℕ) (z : ℤ) (l : ℕ) → i < N → IsTrue (is_number z) → IsTrue (is_change N (change.Set i (variable_form N i z) l))
  set_good i z l h k = both_true (nat_lt i N) (is_form N (variable_form N i z)) (lt-ltb i N h)
      (whole_fits N (variable_form N i z) (variable_fits N i z k))

  step_good : (g : Direction) (i a : ℕ) → i < N → IsTrue (is_change N (step_change line N g i a))
  step_good up i a h = set_good i (pos 1) (line a) h refl
  step_good down i a h = set_good i (negsuc 0) (line a) h refl

  update_fits : (u : Update) (st : State) → Fits st → OnValue (Turns N st) (walk_update line N u st)
  update_fits (set_update x a g b e) st f = on_bind (Below st.names) (Turns N st) (known_number x a st) _ (known_below x a st)
      (λ i l. on_bind (Counted st) (Turns N st) (counted a st) _ (counted_fits a st f.few_names)
      (λ now k. on_bind (ValueFits N) (Turns N st) (walk_expr line N now e) _ (expr_fits now e)
      (λ v h. on_bind (SideFits N) (Turns N st) (assigned N g i b v) _ (assigned_fits N g i b v h)
      (λ o s. turned st now (changed i o (line a)) k (changed_count i o (line a))
      (λ j. changed_good N i o (line a) (omega (arith, l, j)) s)))))
  update_fits (step_after x a g b) st f = on_bind (Below st.names) (Turns N st) (known_number x a st) _ (known_below x a st)
      (λ i l. on_bind (Counted st) (Turns N st) (counted a st) _ (counted_fits a st f.few_names)
      (λ now k. turned st now (step_change line N g i a) k refl (λ j. step_good g i a (omega (arith, l, j)))))
  update_fits (step_before g a x b) st f = on_bind (Counted st) (Turns N st) (counted a st) _ (counted_fits a st f.few_names)
      (λ now k. on_bind (Below now.names) (Turns N st) (known_number x b now) _ (known_below x b now)
      (λ i l. turned st now (step_change line N g i a) k refl (λ j. step_good g i a (omega (arith, l, ap length k.1, j)))))

  -- ---- the head of a `for`
  first_fits : (inside : Bool) (f : ForFirst) (st : State) → Fits st →
      OnValue (Grows N inside st (declared_before f)) (walk_first line N f st)
  first_fits inside (no_first a) st f = grows_none inside st f
  first_fits inside (declared_first a xs) st f = declarators_fit inside xs st
  first_fits inside (updated_first u a) st f =
      on_bind (Turns N st) (Grows N inside st 0) (walk_update line N u st) _ (update_fits u st f) (λ r h. grows_change inside st r h)

  zero_fits : FormFits N (constant_form N (pos 0))
  zero_fits = form_fits N (replicate N (pos 0)) (pos 0) (length-replicate N (pos 0)) (zeros_fit N) refl

  always_fits : TestFits N (always N)
  always_fits = both_true (nat_le 1 64) (is_condition N (always N)) refl (compared_fits N (constant_form N (pos 0)) zero_fits refl)

  test_fits : (a : ℕ) (t : ForTest) (st : State) → OnValue (TestFits N) (walk_test line N a t st)
  test_fits a (no_test b) st = always_fits
  test_fits a (given_test e b) st = on_bind (ValueFits N) (TestFits N) (walk_expr line N st e) _ (expr_fits st e)
      (λ v h. tested_fits N a v h)

  last_turns : (l : ForLast) (st : State) → Fits st → OnValue (Turns N st) (walk_last line N l st)
  last_turns (no_last a) st f = (f, refl, omega arith, (λ h. refl))
  last_turns (updated_last u a) st f = update_fits u st f

  -- ---- statements
  case_test : (inside : Bool) (e : Expr) (a d : ℕ) (made : Condition → State → Result (State × Statements) ParseFault) (st : State)
      → Fits st
      → ((c : Condition) (now : State) → TestFits N c → Counted st now → OnValue (Grows N inside st d) (made c now))
      → OnValue (Grows N inside st d) (walk_expr line N st e >>= λ v. tested a v >>= λ x. counted a st >>= λ now. made x now)
  case_test inside e a d made st f g = on_bind (ValueFits N) (Grows N inside st d) (walk_expr line N st e) _ (expr_fits st e)
      (λ v h. on_bind (TestFits N) (Grows N inside st d) (tested a v) _ (tested_fits N a v h)
      (λ c i. on_bind (Counted st) (Grows N inside st d) (counted a st) _ (counted_fits a st f.few_names) (λ now k. g c now i k)))

  grows_demand : (inside : Bool) (st now : State) (k : Demand) (a : ℕ) (x : Condition) → CountedFor k st now → TestFits N x
      → Grows N inside st 0 (now, demanded line k a x)
  grows_demand inside st now assumes a x h t = grows_node inside st now (tree.assume x (line a)) h refl (λ j. t)
  grows_demand inside st now asserts a x (f, n, c) t = record {
    fits = f;
    names = ap length n ∙ (omega arith);
    nodes = omega (arith, c);
    good =
        λ h. both_true (is_tested N x) (are_statements N inside (one (tree.only_where x (line a)))) t
        (one_good N inside (tree.only_where x (line a)) t);
  }

  case_demands : (inside : Bool) (k : Demand) (a b : ℕ) (e : Expr) (c d : ℕ)
      → Walked inside (walk_core line N inside (demands k a b e c d)) 0
  case_demands inside k a b e c d st f =
      on_bind (CountedFor k st) (Grows N inside st 0) (counted_for k a st) _ (counted_for_fits k a st f.few_names)
      (λ now h. on_bind (ValueFits N) (Grows N inside st 0) (walk_expr line N now e) _ (expr_fits now e)
      (λ v i. on_bind (TestFits N) (Grows N inside st 0) (tested a v) _ (tested_fits N a v i)
      (λ x t. grows_demand inside st now k a x h t)))

  jump_inside : (j : Jump) → IsTrue (is_jump true (jump_kind j))
  jump_inside breaks = refl
  jump_inside continues = refl

  case_jumps : (inside : Bool) (j : Jump) (a b : ℕ) → Walked inside (walk_core line N inside (jumps j a b)) 0
  case_jumps true j a b st f = on_bind (Counted st) (Grows N true st 0) (counted a st) _ (counted_fits a st f.few_names)
      (λ now k. grows_node true st now (tree.jump (jump_kind j) (line a)) k refl (λ h. jump_inside j))
  case_jumps false j a b st f = tt

  grows_closed : (inside : Bool) (st : State) (n d : ℕ) (r : State × Statements) → Grows N inside st d r
      → Grows N inside st d (closed n r.0, r.1)
  grows_closed inside st n d r h = record {
    fits = record { few_names = h.fits.few_names; few_nodes = h.fits.few_nodes };
    names =
        h.names;
    nodes = h.nodes;
    good = h.good;
  }

  mutual
    core_fits : (inside : Bool) (c : Core) → Walked inside (walk_core line N inside c) (declared_core c)
    core_fits inside (empty a) st f = grows_none inside st f
    core_fits inside (block a is b) st f = on_bind (Grows N inside st (declared_items is)) (Grows N inside st (declared_items is))
        (walk_items line N inside is st) _ (items_fit inside is st f) (λ r h. grows_closed inside st (length st.known) (declared_items is) r
        h)
    core_fits inside (if_alone a b e c s) st f =
        case_test inside e a (declared_sub s) (λ x now. walk_sub line N inside s now
        >>= λ r. Ok (r.0, one (tree.branch x r.1 nil (line a)))) st f
        (λ x now t k. on_bind (Grows N inside now (declared_sub s)) (Grows N inside st (declared_sub s)) (walk_sub line N inside s now) _
        (sub_fits inside s now k.0) (λ r h. grows_branch inside st now (declared_sub s) x a r t k h))
    core_fits inside (if_else a b e c s d u) st f =
        case_test inside e a (declared_sub s + declared_sub u) (λ x now. walk_sub line N inside s now >>= λ r. walk_sub line N inside u r.0
        >>= λ q. Ok (q.0, one (tree.branch x r.1 q.1 (line a)))) st f
        (λ x now t k. on_bind (Grows N inside now (declared_sub s)) (Grows N inside st (declared_sub s + declared_sub u))
        (walk_sub line N inside s now) _
        (sub_fits inside s now k.0) (λ r h. on_bind (Grows N inside r.0 (declared_sub u))
        (Grows N inside st (declared_sub s + declared_sub u))
        (walk_sub line N inside u r.0) _ (sub_fits inside u r.0 h.fits)
        (λ q i. grows_both inside st now (declared_sub s) (declared_sub u) x a r q t k h i)))
    core_fits inside (repeat a b e c s) st f =
        case_test inside e a (declared_sub s) (λ x now. walk_sub line N true s now
        >>= λ r. Ok (r.0, one (tree.loop (tree.while_loop []) x r.1 (line a)))) st f
        (λ x now t k. on_bind (Grows N true now (declared_sub s)) (Grows N inside st (declared_sub s)) (walk_sub line N true s now) _
        (sub_fits true s now k.0) (λ r h. grows_loop inside st now (declared_sub s) (tree.while_loop []) x a r refl refl t k h))
    core_fits inside (repeat_after a s b c e d i) st f =
        on_bind (Counted st) (Grows N inside st (declared_sub s)) (counted a st) _ (counted_fits a st f.few_names)
        (λ now k. on_bind (Grows N true now (declared_sub s)) (Grows N inside st (declared_sub s)) (walk_sub line N true s now) _
        (sub_fits true s now k.0)
        (λ r h. on_bind (ValueFits N) (Grows N inside st (declared_sub s)) (walk_expr line N r.0 e) _ (expr_fits r.0 e)
        (λ v j. on_bind (TestFits N) (Grows N inside st (declared_sub s)) (tested a v) _ (tested_fits N a v j)
        (λ x t. grows_loop inside st now (declared_sub s) (tree.do_loop []) x a r refl refl t k h))))
    core_fits inside (repeat_for a b y t l s) st f =
        on_bind (Grows N inside st (declared_before y)) (Grows N inside st (declared_before y + declared_sub s)) (walk_first line N y st) _
        (first_fits inside y st f) (λ r h. on_bind (TestFits N) (Grows N inside st (declared_before y + declared_sub s))
        (walk_test line N a t r.0) _
        (test_fits a t r.0) (λ x i. on_bind (Counted r.0) (Grows N inside st (declared_before y + declared_sub s)) (counted a r.0) _
        (counted_fits a r.0 h.fits.few_names) (λ now k. on_bind (Turns N now) (Grows N inside st (declared_before y + declared_sub s))
        (walk_last line N l now) _ (last_turns l now k.0) (λ u m. on_bind (Grows N true u.0 (declared_sub s))
        (Grows N inside st (declared_before y + declared_sub s)) (walk_sub line N true s u.0) _ (sub_fits true s u.0 m.0)
        (λ q n. grows_for inside st now (length st.known) (declared_before y) (declared_sub s) x a r u q h i k m n)))))
    core_fits inside (jumps j a b) st f = case_jumps inside j a b st f
    core_fits inside (demands k a b e c d) st f = case_demands inside k a b e c d st f
    core_fits inside (updates u c) st f =
        on_bind (Turns N st) (Grows N inside st 0) (walk_update line N u st) _ (update_fits u st f) (λ r h. grows_change inside st r h)

    sub_fits : (inside : Bool) (s : Sub) → Walked inside (walk_sub line N inside s) (declared_sub s)
    sub_fits inside (labelled x a b s) st f = labelled_then inside x a (declared_sub s) (walk_sub line N inside s)
        (λ now k. sub_fits inside s now k) st f
    sub_fits inside (plain c) st f = core_fits inside c st f

    items_fit : (inside : Bool) (is : Items) → Walked inside (walk_items line N inside is) (declared_items is)
    items_fit inside no_items st f = grows_none inside st f
    items_fit inside (label x a b is) st f = labelled_then inside x a (declared_items is) (walk_items line N inside is)
        (λ now k. items_fit inside is now k) st f
    items_fit inside (declaration a xs is) st f =
        on_bind (Grows N inside st (declared_in xs)) (Grows N inside st (declared_in xs + declared_items is))
        (walk_declarators line N xs st) _
        (declarators_fit inside xs st) (λ r h. on_bind (Grows N inside r.0 (declared_items is))
        (Grows N inside st (declared_in xs + declared_items is))
        (walk_items line N inside is r.0) _ (items_fit inside is r.0 h.fits)
        (λ q i. grows_then inside st (declared_in xs) (declared_items is) r q h i))
    items_fit inside (item c is) st f = on_bind (Grows N inside st (declared_core c))
        (Grows N inside st (declared_core c + declared_items is))
        (walk_core line N inside c st) _ (core_fits inside c st f)
        (λ r h. on_bind (Grows N inside r.0 (declared_items is)) (Grows N inside st (declared_core c + declared_items is))
        (walk_items line N inside is r.0) _ (items_fit inside is r.0 h.fits)
        (λ q i. grows_then inside st (declared_core c) (declared_items is) r q h i))

-- a walk that gives a program gives one within the limits
abbrev pub IsProgram : List (List ℕ) × Statements → Type 0
IsProgram r = IsTrue (is_program (length r.0) r.1)

start_fits : Fits start_state
start_fits = record { few_names = omega arith; few_nodes = omega arith }

last_fits : (N d : ℕ) (names : List (List ℕ)) (q : State × Statements) → N ≡ min MOST_VARIABLES d → Grows N false start_state d q
    → q.0.names ≡ names
    → OnValue IsProgram (elim names as (λ z. Result (List (List ℕ) × Statements) ParseFault)
    [ [] ↦ Err fault.NoVariables | x ∷ xs ↦ Ok (x ∷ xs, q.1) ])
last_fits N d [] q k h e = tt
last_fits N d (x ∷ xs) q k h e =
    let l : length (x ∷ xs) ≡ length q.0.names = ap length (sym e) in
    let n : N ≡ length (x ∷ xs) = omega (arith, k, l, h.names, h.fits.few_names) in
    let c : nodes_in q.1 ≤ MOST_STATEMENTS = omega (arith, h.nodes, h.fits.few_nodes) in
    let k : IsTrue (are_statements (length (x ∷ xs)) false q.1) = subst (λ (m : ℕ). IsTrue (are_statements m false q.1)) n
    (h.good (omega (arith, n, l))) in
    let m = length (x ∷ xs) + MOST_HIDDEN in
    let g : IsTrue (are_statements m false q.1) = statements_grow (length (x ∷ xs)) m false q.1 (omega arith) k in
    both_true (nat_le 1 (length (x ∷ xs))) (nat_le (length (x ∷ xs)) MOST_VARIABLES
    && (nat_le (nodes_in q.1) 4096 && are_statements m false q.1))
    (le-leb 1 (length (x ∷ xs)) (omega arith))
    (both_true (nat_le (length (x ∷ xs)) MOST_VARIABLES) (nat_le (nodes_in q.1) 4096 && are_statements m false q.1)
    (le-leb (length (x ∷ xs)) MOST_VARIABLES (omega (arith, l, h.fits.few_names)))
    (both_true (nat_le (nodes_in q.1) 4096) (are_statements m false q.1) (le-leb (nodes_in q.1) 4096 (omega (arith, c))) g))

-- what the walk of a program's items gives, at the width of their declarations, is a program within the limits, or a fault
pub program_fits : (line : ℕ → ℕ) (is : Items) → OnValue IsProgram (walk_items line (min MOST_VARIABLES (declared_items is)) false is
    start_state >>= λ q. program_of q)
program_fits line is = on_bind (Grows (min MOST_VARIABLES (declared_items is)) false start_state (declared_items is)) IsProgram
    (walk_items line (min MOST_VARIABLES (declared_items is)) false is start_state) _
    (items_fit line (min MOST_VARIABLES (declared_items is)) false is start_state start_fits)
    (λ q h. last_fits (min MOST_VARIABLES (declared_items is)) (declared_items is) q.0.names q refl h refl)

-- what the walk of a program gives is a program within the limits, or a fault
pub walk_fits : (line : ℕ → ℕ) (p : Program) → OnValue IsProgram (walk line p)
walk_fits line (program a b c ps d e is r g h) = program_fits line is

-- an answer that is within the limits or a fault, and is no fault, is within the limits
pub ok_fits : (r : Answer) (x : List (List ℕ) × Statements) → OnValue IsProgram r → r ≡ Ok x → IsProgram x
ok_fits (Ok y) x h e = let k : y ≡ x = cc in subst IsProgram k h
ok_fits (Err f) x h e = cc

-- what a text means is a program within the limits, or a fault
pub meant_fits : (text : List ℕ) (ts : List Token) (r : Answer) → Means text ts r → OnValue IsProgram r
meant_fits text ts r (inl (a, f, e)) = subst (OnValue IsProgram) (sym e) tt
meant_fits text ts r (inr (inl (a, f, e))) = subst (OnValue IsProgram) (sym e) tt
meant_fits text ts r (inr (inr (p, k, f, e))) = subst (OnValue IsProgram) (sym e) (walk_fits (line_at text) p)
