-- What comes of the statements that are read: how many variables and statements more, and what is true of them.
use Rattle.std.proofs.Common.{◌≡◌, ◌∙◌, ◌≤◌, ◌+◌, ◌++◌, ℕ, Bool, true, false, IsTrue, List, [], ◌∷◌, length, Result, Ok}
use Rattle.std.proofs.Common.{refl, sym, ap, subst, arith, cond}
use Rattle.std.specs.Prelude.{nat_lt}
use Rattle.std.proofs.lemmas.Bool.{lt-ltb, and_from}
use Rattle.lang_tree.specs.Tree.{returns, nodes_in}
use Rattle.source_grammar.specs.Tokens.{Name, Token, token, a_name, replaces, change_sign, left_paren, right_paren, left_brace}
use Rattle.source_grammar.specs.Tokens.{right_brace}
use Rattle.source_grammar.specs.Grammar.{spell_expr, spell_place, spell_effect, spell_update, spell_values, spell_arguments, spell_sizes}
use Rattle.source_grammar.specs.Grammar.{spell_declarator, Sizes}
use Rattle.source_grammar.specs.Grammar.{Expr, Arguments, Optional, absent, present, Update, update, step_before, Place, Effect, steps}
use Rattle.source_grammar.specs.Grammar.{MoreUpdates, last_update, next_update, Updates, no_updates, some_updates, Initialiser, bare, given}
use Rattle.source_grammar.specs.Grammar.{sized, filled, Values, Declarator, declarator, MoreDeclarators, last_declarator, next_declarator}
use Rattle.source_grammar.specs.Grammar.{Declarators}
use Rattle.source_grammar.specs.Grammar.{ForFirst}
use Rattle.source_grammar.specs.Grammar.{declared_first, updated_first, Core, Sub, Items, empty, block, if_alone, if_else, repeat}
use Rattle.source_grammar.specs.Grammar.{repeat_after}
use Rattle.source_grammar.specs.Grammar.{repeat_for, jumps, demands, calls, updates, labelled, plain, no_items, item}
use Rattle.source_grammar.specs.Grammar as tree
use Rattle.source_tree.specs.Expressions.{Expression, Expressions, Extent, none, more}
use Rattle.source_tree.specs.Statements.{Change, sets, evaluates, Statement, Statements, declares}
use Rattle.source_tree.specs.Statements.{changes, never, jump, nil, cons}
use Rattle.source_core.specs.Elaborated.{elaborated, evaluated}
use Rattle.source_core.specs.Fits.{deeds_fit, fits}
use Rattle.source_core.specs.Laws.{is_over, are_over}
use Rattle.source_core.specs.RunLaws.{is_change_over, is_change_apart}
use Rattle.source_core.proofs.expressions.Apart.{occurs_in}
use Rattle.source_core.specs.Core.{taken_any, change_deeds, core_of, core_in}
use Rattle.source_meaning.specs.declared.fault.FunctionFault.{FunctionFault}
use Rattle.source_meaning.specs.Results.{◌>>=◌}
use Rattle.source_meaning.specs.Names.{State, among, thing_of, as_called, with_variable, declared_number, fresh_array, with_array}
use Rattle.source_meaning.specs.Arrays.{read_sizes}
use Rattle.source_meaning.specs.Limits.{counted}
use Rattle.source_meaning.specs.Expressions.{read, read_arguments, read_values}
use Rattle.source_meaning.specs.Changes.{few}
use Rattle.source_meaning.specs.Statements.{followed_by, one, as_statements, is_end, is_error}
use Rattle.source_meaning.specs.Statements.{call_of, read_declarator, read_more_declarators, read_declarators}
use Rattle.source_meaning.specs.Statements.{read_updates, read_first, read_evaluated, read_returned}
use Rattle.source_meaning.specs.Walk.{declared_one, declared_more, declared_in, declared_before}
use Rattle.source_meaning.proofs.results.Values.{OnValue, on_bind, on_both, on_given, on_weaker}
use Rattle.source_meaning.proofs.names.Sound.{Sound, Declares, Counts, variable_sound, fresh_array_same, array_sound}
use Rattle.source_meaning.proofs.names.Sound.{counted_sound, among_sound}
use Rattle.source_meaning.proofs.names.Counted.{Counted, standing, standing_more, standing_then, counted_declared}
use Rattle.source_meaning.proofs.names.Added.{added, added_then}
use Rattle.source_meaning.proofs.expressions.Fits.{read_fits, arguments_fit, values_fit}
use Rattle.source_meaning.proofs.changes.Fits.{taken_fits, one_evaluated}
use Rattle.source_meaning.proofs.expressions.Over.{anything, read_over, arguments_over, values_over}
use Rattle.source_meaning.proofs.expressions.Apart.{Apart, ApartIn, stands_more, stands_first, read_apart, arguments_apart, values_apart}
use Rattle.source_meaning.proofs.expressions.Whole.{stands_within, one_apart, apart_together, apart_beside, apart_set}
use Rattle.source_meaning.proofs.statements.Good.{nodes, nodes_then, nodes_one, nodes_change, nodes_declares, nodes_changes}
use Rattle.source_meaning.proofs.statements.Good.{is_change_kept, GoodChange}
use Rattle.source_meaning.proofs.statements.Good.{GoodStatement, Good, good_nil}
use Rattle.source_meaning.proofs.statements.Good.{good_cons, good_one, good_then, good_declares, good_change}
use Rattle.source_meaning.proofs.statements.Good.{good_changes}
use Rattle.source_meaning.proofs.statements.Good.{good_never, good_returns}
use Rattle.source_meaning.proofs.statements.Turns.{Turns, AllTurn, few_has, change_good, updates_turn}
use Rattle.base_integers.specs.declared.integers.Integers.{Integers}

-- what comes of statements
pub record Grows (integers : Integers) (n : ℕ) (inside : Bool) (before : State) (declared : List (List ℕ)) (r : State × Statements)
    : Type 0 where
  -- its names stand for variables
  pub sound : Sound r.0
  -- it has those of these names as variables that are new
  pub variables : r.0.variables ≡ added before.variables declared
  -- it has no fewer of them
  pub more : length before.variables ≤ length r.0.variables
  -- it has as many statements more as these are in the core
  pub count : r.0.count ≡ before.count + nodes integers n r.1
  -- they are good where there are no more variables than n
  pub good : length r.0.variables ≤ n → Good integers n inside r.1

-- the tokens of a declarator have room for those of its values
filled_room : (x : Name) (at : ℕ) (ss : Sizes) (a b : ℕ) (vs : Values) (c : ℕ) (y : List ℕ)
    → standing y (spell_values vs) ≤ standing y (spell_declarator (declarator x at (filled ss a b vs c)))
filled_room x at ss a b vs c y =
    let last : List Token = token right_brace c ∷ [] in
    let inner : List Token = spell_values vs ++ last in
    let k = standing_then y (spell_values vs) last in
    let l = standing_more y (token left_brace b) inner in
    let m = standing_more y (token (change_sign replaces) a) (token left_brace b ∷ inner) in
    let i = standing_then y (spell_sizes ss) (token (change_sign replaces) a ∷ token left_brace b ∷ inner) in
    let j = standing_more y (token (a_name x) at) (spell_sizes ss ++ token (change_sign replaces) a ∷ token left_brace b ∷ inner) in
    omega (arith, k, l, m, i, j)

module _ (integers : Integers) (line : ℕ → ℕ) (n : ℕ) where
  -- ---- lists of statements
  -- no statement
  pub grows_none : (inside : Bool) (st : State) → Sound st → Grows integers n inside st [] (st, nil)
  grows_none inside st s = record {
    sound = s;
    variables = refl;
    more = omega arith;
    count = omega arith;
    good = λ l. good_nil integers n inside;
  }

  -- statements and others behind them
  pub grows_then : (inside : Bool) (st : State) (d e : List (List ℕ)) (r q : State × Statements) → Grows integers n inside st d r
      → Grows integers n inside r.0 e q
      → Grows integers n inside st (d ++ e) (q.0, followed_by r.1 q.1)
  grows_then inside st d e r q h i = let k = nodes_then integers n r.1 q.1 in record {
    sound = i.sound;
    variables = i.variables ∙ ap (λ vs. added vs e) h.variables ∙ sym (added_then st.variables d e);
    more = omega (arith, h.more, i.more);
    count = omega (arith, h.count, i.count, k);
    good = λ l. good_then integers n inside r.1 q.1 (h.good (omega (arith, l, i.more))) (i.good l);
  }

  -- one statement, which is so many in the core
  pub grows_one : (inside : Bool) (st now : State) (d : List (List ℕ)) (k : ℕ) (s : Statement) → Sound now
      → now.variables ≡ added st.variables d → length st.variables ≤ length now.variables
      → now.count ≡ st.count + k → nodes_in (core_of integers n s) ≡ k → (length now.variables ≤ n → GoodStatement integers n inside s)
      → Grows integers n inside st d (now, one s)
  grows_one inside st now d k s sound v m c e g = let f = nodes_one integers n s in record {
    sound = sound;
    variables = v;
    more = m;
    count = omega (arith, c, e, f);
    good = λ l. good_one integers n inside s (g l);
  }

  -- names are said in another way
  pub same_declared : (inside : Bool) (st : State) (d e : List (List ℕ)) (r : State × Statements) → d ≡ e → Grows integers n inside st d r
      → Grows integers n inside st e r
  same_declared inside st d e r k h = record {
    sound = h.sound;
    variables = h.variables ∙ ap (added st.variables) k;
    more = h.more;
    count = h.count;
    good = h.good;
  }

  -- a change as a statement
  pub grows_change : (inside : Bool) (st : State) (r : State × Change) → Turns integers n st r
      → Grows integers n inside st [] (r.0, one (changes r.1))
  grows_change inside st r t =
      grows_one inside st r.0 [] (length (change_deeds integers n r.1)) (changes r.1) t.sound t.variables (omega (arith, t.width))
      t.count (nodes_change integers n r.1) (λ l. good_change integers n inside r.1 (t.good (omega (arith, l, t.width))))

  grows_changes : (inside : Bool) (st : State) (r : State × List Change) → AllTurn integers n st r
      → Grows integers n inside st [] (r.0, as_statements r.1)
  grows_changes inside st r t = let e = nodes_changes integers n r.1 in record {
    sound = t.sound;
    variables = t.variables;
    more = omega (arith, t.width);
    count = omega (arith, t.count, e);
    good = λ l. good_changes integers n inside r.1 (t.good (omega (arith, l, t.width)));
  }

  -- a value that is read from these tokens among others: over the variables, with steps apart, and in range
  abbrev Value : (now : State) (ts : List Token) (at : ℕ) → Expression → Type 0
  Value now ts at x =
      ((length now.variables ≤ n → IsTrue (is_over n x)) × Apart now ts x) × IsTrue (fits (elaborated integers (line at) x n))

  value_good : (now : State) → Sound now → (at : ℕ) (e : Expr) → OnValue (Value now (spell_expr e) at) (read integers (line at) now e n)
  value_good now s at e =
      let Over : Expression → Type 0 = λ x. length now.variables ≤ n → IsTrue (is_over n x) in
      on_both (λ x. Over x × Apart now (spell_expr e) x) (λ x. IsTrue (fits (elaborated integers (line at) x n)))
      (read integers (line at) now e n)
      (on_both Over (Apart now (spell_expr e)) (read integers (line at) now e n)
      (on_given (length now.variables ≤ n) (λ x. IsTrue (is_over n x)) (read integers (line at) now e n)
      (λ l. read_over integers n (line at) now s l e n)) (read_apart integers (line at) now s e n))
      (read_fits integers (line at) now e n)

  -- what is evaluated together among these tokens: its variables are those of the function, and its steps stand apart
  abbrev AllKept : (st : State) (at : ℕ) → Expressions → Type 0
  AllKept st at xs = (length st.variables ≤ n → IsTrue (is_change_kept n (evaluates xs (line at))))
      × IsTrue (deeds_fit (evaluated integers (line at) xs n).prelude)

  all_good : (st : State) (ts : List Token) (at : ℕ) (r : Result Expressions FunctionFault)
      → (length st.variables ≤ n → OnValue (λ xs. IsTrue (are_over n xs)) r) → OnValue (ApartIn (among ts st) ts) r
      → OnValue (λ xs. IsTrue (deeds_fit (evaluated integers (line at) xs n).prelude)) r → OnValue (AllKept st at) r
  all_good st ts at r o p f =
      let Kept : Expressions → Type 0 = λ xs. IsTrue (is_change_kept n (evaluates xs (line at))) in
      on_both (λ xs. length st.variables ≤ n → Kept xs) (λ xs. IsTrue (deeds_fit (evaluated integers (line at) xs n).prelude)) r
      (on_given (length st.variables ≤ n) Kept r
      (λ l. on_weaker (λ xs. IsTrue (are_over n xs) × ApartIn (among ts st) ts xs) Kept r
      (on_both (λ xs. IsTrue (are_over n xs)) (ApartIn (among ts st) ts) r (o l) p)
      (λ xs q. and_from (are_over n xs) (is_change_apart (evaluates xs (line at))) q.0
      (apart_together st ts xs (line at) q.1)))) f

  -- ---- what is evaluated
  evaluated_grows : (inside : Bool) (st : State) → Sound st → (at : ℕ) (g : Change)
      → (length st.variables ≤ n → IsTrue (is_change_kept n g))
      → IsTrue (deeds_fit (change_deeds integers n g)) → OnValue (Grows integers n inside st []) (read_evaluated integers line n st at g)
  evaluated_grows inside st s at g h k =
      let P : State → Type 0 = λ now. (now ≡ st) × (length st.variables ≤ n → GoodChange integers n g) in
      on_bind P (Grows integers n inside st []) (few integers n (line at) at g st) _
      (few_has integers line n P at g st (λ a b. (refl, λ l. change_good integers line n at g k a b (h l))))
      (λ now p. let e : length now.variables ≡ length st.variables = ap (λ (t : State). length t.variables) p.0 in
      let c : now.count ≡ st.count = ap (λ (t : State). t.count) p.0 in
      on_bind (Counts (length (change_deeds integers n g)) now) (Grows integers n inside st [])
      (counted at (length (change_deeds integers n g)) now) _
      (counted_sound at (length (change_deeds integers n g)) now (subst Sound (sym p.0) s))
      (λ more m. grows_one inside st more [] (length (change_deeds integers n g)) (changes g) m.sound
      (m.variables ∙ ap (λ (t : State). t.variables) p.0) (omega (arith, m.width, e))
      (omega (arith, m.count, c)) (nodes_change integers n g)
      (λ l. good_change integers n inside g (p.1 (omega (arith, l, m.width, e))))))

  -- ---- declarations
  -- the name of an array that is declared, behind what was read
  pub with_array_grows : (inside : Bool) (x : Name) (extents : List Extent) (st : State) (r : State × Statements)
      → Grows integers n inside st [] r → Grows integers n inside st [] (with_array x extents r.0, r.1)
  with_array_grows inside x extents st r h = record {
    sound = array_sound x extents r.0 h.sound;
    variables = h.variables;
    more = h.more;
    count = h.count;
    good = h.good;
  }

  filled_grows : (inside : Bool) (x : Name) (at : ℕ) (extents : List Extent) (ts : List Token) (vs : Values) (st : State) → Sound st
      → ((y : List ℕ) → standing y (spell_values vs) ≤ standing y ts)
      → OnValue (Grows integers n inside st []) (read_values integers (line at) (among ts st) vs n
      >>= λ es. read_evaluated integers line n st at (evaluates es (line at)) >>= λ r. Ok (with_array x extents r.0, r.1))
  filled_grows inside x at extents ts vs st s room =
      let now : State = among ts st in
      let sound : Sound now = among_sound ts st s in
      on_bind (AllKept st at) (Grows integers n inside st []) (read_values integers (line at) now vs n) _
      (all_good st ts at (read_values integers (line at) now vs n) (λ l. values_over integers n (line at) now sound l vs n)
      (on_weaker (ApartIn now (spell_values vs)) (ApartIn now ts) (read_values integers (line at) now vs n)
      (values_apart integers (line at) now sound vs n) (λ xs p. stands_within ts p room))
      (values_fit integers (line at) now vs n))
      (λ xs o. on_bind (Grows integers n inside st []) (Grows integers n inside st [])
      (read_evaluated integers line n st at (evaluates xs (line at))) _
      (evaluated_grows inside st s at (evaluates xs (line at)) o.0 o.1)
      (λ r h. with_array_grows inside x extents st r h))

  -- an array that may be declared, with what is read behind its name
  pub fresh_grows : (inside : Bool) (x : Name) (at : ℕ) (st : State) → Sound st → (walk : State → Result (State × Statements) FunctionFault)
      → OnValue (Grows integers n inside st []) (walk st) → OnValue (Grows integers n inside st []) (fresh_array x at st >>= walk)
  fresh_grows inside x at st s walk h = on_bind (λ now. now ≡ st) (Grows integers n inside st []) (fresh_array x at st) walk
      (fresh_array_same x at st)
      (λ now e. subst (λ t. OnValue (Grows integers n inside st []) (walk t)) (sym e) h)

  -- a variable that is declared with a value
  given_grows : (inside : Bool) (st : State) → Sound st → (x : Name) (at b : ℕ) (e : Expr)
      → OnValue (Grows integers n inside st (x.text ∷ [])) (read_declarator integers line n st (declarator x at (given b e)))
  given_grows inside st s x at b e =
      let ts : List Token = spell_declarator (declarator x at (given b e)) in
      let G : State × Statements → Type 0 = Grows integers n inside st (x.text ∷ []) in
      let Target : State → Type 0 = λ now. Counted st.variables (token (a_name x) at ∷ []) (λ i. occurs_in i (declared_number now)) in
      on_bind (Value (among ts st) (spell_expr e) at) G (read integers (line at) (among ts st) e n) _
      (value_good (among ts st) (among_sound ts st s) at e)
      (λ y o. on_bind (λ now. Declares x.text st now × Target now) G (with_variable x at st) _
      (on_both (Declares x.text st) Target (with_variable x at st) (variable_sound x at st s) (counted_declared x at st s))
      (λ now d. let i = declared_number now in
      let g : Change = sets i y (line at) in
      let P : State → Type 0 = λ more. Declares x.text st more × (length more.variables ≤ n → GoodChange integers n g) in
      let apart : IsTrue (is_change_apart g) = apart_set st ts i y (line at)
      (apart_beside (among ts st) (token (a_name x) at) (token (change_sign replaces) b) (spell_expr e) i y d.1 o.0.1) in
      on_bind P G (few integers n (line at) at g now) _
      (few_has integers line n P at g now
      (λ a b. (
        d.0,
        λ l. change_good integers line n at g (taken_fits integers i (line at) (elaborated integers (line at) y n) o.1) a b
            (and_from (is_change_over n g) (is_change_apart g)
            (and_from (nat_lt i n) (is_over n y) (lt-ltb i n (omega (arith, l, d.0.below))) (o.0.0 (omega (arith, l, d.0.more)))) apart),
      )))
      (λ now d. on_bind (Counts (length (change_deeds integers n g)) now) G (counted at (length (change_deeds integers n g)) now) _
      (counted_sound at (length (change_deeds integers n g)) now d.0.sound)
      (λ more c. grows_one inside st more (x.text ∷ []) (length (change_deeds integers n g)) (changes g) c.sound
      (c.variables ∙ d.0.variables) (omega (arith, c.width, d.0.more)) (omega (arith, c.count, d.0.same)) (nodes_change integers n g)
      (λ l. good_change integers n inside g (d.1 (omega (arith, l, c.width))))))))

  declarator_grows : (inside : Bool) (st : State) → Sound st → (x : Declarator)
      → OnValue (Grows integers n inside st (declared_one x)) (read_declarator integers line n st x)
  declarator_grows inside st s (declarator x at bare) =
      let G : State × Statements → Type 0 = Grows integers n inside st (x.text ∷ []) in
      on_bind (Declares x.text st) G (with_variable x at st) _ (variable_sound x at st s)
      (λ now d. let i = declared_number now in
      let k = length (taken_any integers i (line at)) in
      on_bind (Counts k now) G (counted at k now) _ (counted_sound at k now d.sound)
      (λ more c. grows_one inside st more (x.text ∷ []) k (declares i (line at)) c.sound (c.variables ∙ d.variables)
      (omega (arith, c.width, d.more)) (omega (arith, c.count, d.same)) (nodes_declares integers n i (line at))
      (λ l. good_declares integers n inside i (line at) (lt-ltb i n (omega (arith, l, c.width, d.below))))))
  declarator_grows inside st s (declarator x at (given b e)) = given_grows inside st s x at b e
  declarator_grows inside st s (declarator x at (sized ss)) = fresh_grows inside x at st s _
      (on_bind (λ extents. Unit {0}) (Grows integers n inside st []) (read_sizes st ss) _ (anything (read_sizes st ss))
      (λ extents u. with_array_grows inside x extents st (st, nil) (grows_none inside st s)))
  declarator_grows inside st s (declarator x at (filled ss a b vs c)) = fresh_grows inside x at st s _
      (on_bind (λ extents. Unit {0}) (Grows integers n inside st []) (read_sizes st ss) _ (anything (read_sizes st ss))
      (λ extents u. filled_grows inside x at extents (spell_declarator (declarator x at (filled ss a b vs c))) vs st s
      (filled_room x at ss a b vs c)))

  more_declarators_grow : (inside : Bool) (st : State) → Sound st → (xs : MoreDeclarators)
      → OnValue (Grows integers n inside st (declared_more xs)) (read_more_declarators integers line n st xs)
  more_declarators_grow inside st s last_declarator = grows_none inside st s
  more_declarators_grow inside st s (next_declarator a x xs) =
      on_bind (Grows integers n inside st (declared_one x)) (Grows integers n inside st (declared_one x ++ declared_more xs))
      (read_declarator integers line n st x) _
      (declarator_grows inside st s x)
      (λ r h. on_bind (Grows integers n inside r.0 (declared_more xs)) (Grows integers n inside st (declared_one x ++ declared_more xs))
      (read_more_declarators integers line n r.0 xs) _ (more_declarators_grow inside r.0 h.sound xs)
      (λ q i. grows_then inside st (declared_one x) (declared_more xs) r q h i))

  -- a declaration
  pub declarators_grow : (inside : Bool) (st : State) → Sound st → (xs : Declarators)
      → OnValue (Grows integers n inside st (declared_in xs)) (read_declarators integers line n st xs)
  declarators_grow inside st s (tree.declares x xs) =
      on_bind (Grows integers n inside st (declared_one x)) (Grows integers n inside st (declared_one x ++ declared_more xs))
      (read_declarator integers line n st x) _
      (declarator_grows inside st s x)
      (λ r h. on_bind (Grows integers n inside r.0 (declared_more xs)) (Grows integers n inside st (declared_one x ++ declared_more xs))
      (read_more_declarators integers line n r.0 xs) _ (more_declarators_grow inside r.0 h.sound xs)
      (λ q i. grows_then inside st (declared_one x) (declared_more xs) r q h i))

  -- the first part of a `for`'s head
  pub first_grows : (inside : Bool) (st : State) → Sound st → (f : ForFirst)
      → OnValue (Grows integers n inside st (declared_before f)) (read_first integers line n st f)
  first_grows inside st s (declared_first t xs) = declarators_grow inside st s xs
  first_grows inside st s (updated_first us) =
      on_bind (AllTurn integers n st) (Grows integers n inside st []) (read_updates integers line n st us) _
      (updates_turn integers line n st s us) (λ r t. grows_changes inside st r t)

  -- what is returned
  pub returned_grows : (inside : Bool) (st : State) → Sound st → (at : ℕ) (t : Optional)
      → OnValue (Grows integers n inside st []) (read_returned integers line n st at t)
  returned_grows inside st s at absent = grows_none inside st s
  returned_grows inside st s at (present e) =
      let ts : List Token = spell_expr e in
      on_bind (Value (among ts st) ts at) (Grows integers n inside st []) (read integers (line at) (among ts st) e n) _
      (value_good (among ts st) (among_sound ts st s) at e)
      (λ x o. evaluated_grows inside st s at (evaluates (more x none) (line at)) (λ l.
      and_from (are_over n (more x none)) (is_change_apart (evaluates (more x none) (line at)))
      (and_from (is_over n x) true (o.0.0 l) refl) (apart_together st ts (more x none) (line at) (one_apart (among ts st) ts x o.0.1)))
      (one_evaluated integers n (line at) x o.1))

  -- what is behind a call
  call_good : (inside : Bool) (x : Name) (at : ℕ) → Good integers n inside (call_of x at (line at))
  call_good inside x at = by (is_error x.text) (is_end x.text) where
    by : (b c : Bool)
        → Good integers n inside
        (cond b (cons (never at (line at)) (one (jump returns (line at)))) (cond c (one (jump returns (line at))) nil))
    by true c = good_cons integers n inside (never at (line at)) (one (jump returns (line at))) (good_never integers n inside at (line at))
        (good_one integers n inside (jump returns (line at)) (good_returns integers n inside (line at)))
    by false true = good_one integers n inside (jump returns (line at)) (good_returns integers n inside (line at))
    by false false = good_nil integers n inside

  -- a call as a statement
  pub called_grows : (inside : Bool) (x : Name) (at b c : ℕ) (es : Arguments) (st : State) → Sound st
      → OnValue (Grows integers n inside st []) (as_called at (thing_of x st) es
      >>= λ es. read_arguments integers (line at) (among (spell_expr (tree.call x at b es c)) st) es n
      >>= λ es. read_evaluated integers line n st at (evaluates es (line at))
      >>= λ r. (let after : Statements = call_of x at (line at) in counted at (nodes_in (core_in integers n after)) r.0
      >>= λ now. Ok (now, followed_by r.1 after)))
  called_grows inside x at b c es st s =
      on_bind (λ es. Unit {0}) (Grows integers n inside st []) (as_called at (thing_of x st) es) _
      (anything (as_called at (thing_of x st) es))
      (λ es u. let ts : List Token = spell_expr (tree.call x at b es c) in
      let here : State = among ts st in
      let sound : Sound here = among_sound ts st s in
      on_bind (AllKept st at) (Grows integers n inside st []) (read_arguments integers (line at) here es n) _
      (all_good st ts at (read_arguments integers (line at) here es n) (λ l. arguments_over integers n (line at) here sound l es n)
      (on_weaker (ApartIn here (spell_arguments es)) (ApartIn here ts) (read_arguments integers (line at) here es n)
      (arguments_apart integers (line at) here sound es n)
      (λ xs p. stands_more (token (a_name x) at) (stands_more (token left_paren b) (stands_first (token right_paren c ∷ []) p))))
      (arguments_fit integers (line at) here es n))
      (λ xs o. on_bind (Grows integers n inside st []) (Grows integers n inside st [])
      (read_evaluated integers line n st at (evaluates xs (line at))) _
      (evaluated_grows inside st s at (evaluates xs (line at)) o.0 o.1)
      (λ r h. let after : Statements = call_of x at (line at) in
      on_bind (Counts (nodes integers n after) r.0) (Grows integers n inside st []) (counted at (nodes integers n after) r.0) _
      (counted_sound at (nodes integers n after) r.0 h.sound)
      (λ now c. grows_then inside st [] [] r (now, after) h (record {
        sound = c.sound;
        variables = c.variables;
        more = omega (arith, c.width);
        count = c.count;
        good = λ l. call_good inside x at;
      })))))
