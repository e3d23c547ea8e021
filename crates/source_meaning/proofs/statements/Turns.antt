-- What comes of the conditions and changes that are read: how many statements more, and what is true of them.
use Rattle.std.proofs.Common.{◌≡◌, ◌∙◌, ◌≤◌, ◌+◌, ◌++◌, ℕ, IsTrue, List, [], ◌∷◌, length, Ok}
use Rattle.std.proofs.Common.{refl, arith}
use Rattle.std.specs.List.{list_all}
use Rattle.std.proofs.lemmas.Bool.{and_from, and_parts}
use Rattle.std.proofs.lemmas.List.{length-append}
use Rattle.lang_tree.specs.declared.limits.TheConstants.{MOST_HIDDEN}
use Rattle.source_grammar.specs.Tokens.{Token, token, step_sign}
use Rattle.source_grammar.specs.Grammar.{spell_expr, spell_place, spell_effect, spell_update}
use Rattle.source_grammar.specs.Grammar.{Expr, Optional, absent, present, Update, update, step_before, Place, Effect, steps}
use Rattle.source_grammar.specs.Grammar.{MoreUpdates, last_update, next_update, Updates, no_updates, some_updates}
use Rattle.source_tree.specs.Expressions.{Expression}
use Rattle.source_tree.specs.Statements.{Change}
use Rattle.source_core.specs.Fits.{deeds_fit, tested_fits}
use Rattle.source_core.specs.Laws.{is_over, steps_apart}
use Rattle.source_core.specs.RunLaws.{is_change_over, is_change_apart}
use Rattle.source_core.specs.Core.{change_deeds, changes_deeds, condition_of}
use Rattle.source_meaning.specs.Results.{◌>>=◌}
use Rattle.source_meaning.specs.Names.{State, among}
use Rattle.source_meaning.specs.Limits.{is_small_deed, counted}
use Rattle.source_meaning.specs.Expressions.{read, as_condition, first_of}
use Rattle.source_meaning.specs.Changes.{behind_change, few, changed, first_place, read_update}
use Rattle.source_meaning.specs.Statements.{read_condition}
use Rattle.source_meaning.specs.Statements.{read_more_updates, read_updates, read_test}
use Rattle.source_meaning.proofs.results.Values.{OnValue, on_bind, on_both, on_given, on_weaker}
use Rattle.source_meaning.proofs.names.Sound.{Sound, Counts}
use Rattle.source_meaning.proofs.names.Sound.{counted_sound, among_sound}
use Rattle.source_meaning.proofs.names.Counted.{standing, standing_more, standing_then}
use Rattle.source_meaning.proofs.limits.Limited.{limited_has}
use Rattle.source_meaning.proofs.limits.Deeds.{condition_limited, change_limited}
use Rattle.source_meaning.proofs.expressions.Fits.{condition_in_range}
use Rattle.source_meaning.proofs.changes.Fits.{changed_fits}
use Rattle.source_meaning.proofs.expressions.Over.{condition_has, read_over}
use Rattle.source_meaning.proofs.expressions.Apart.{Apart, read_apart}
use Rattle.source_meaning.proofs.expressions.Whole.{apart_alone}
use Rattle.source_meaning.proofs.changes.Over.{changed_over}
use Rattle.source_meaning.proofs.changes.Apart.{changed_apart}
use Rattle.source_meaning.proofs.statements.Good.{is_kept, is_change_kept, GoodCondition, GoodChange, GoodChanges}
use Rattle.source_meaning.proofs.statements.Good.{no_changes, more_changes}
use Rattle.source_meaning.proofs.statements.Good.{good_always}
use Rattle.base_integers.specs.declared.integers.Integers.{Integers}

-- what comes of a change
pub record Turns (integers : Integers) (n : ℕ) (before : State) (r : State × Change) : Type 0 where
  -- its names stand for variables
  pub sound : Sound r.0
  -- it has the same variables
  pub variables : r.0.variables ≡ before.variables
  -- so it has as many
  pub width : length r.0.variables ≡ length before.variables
  -- it has as many statements more as these are in the core
  pub count : r.0.count ≡ before.count + length (change_deeds integers n r.1)
  -- they are good where there are no more variables than n
  pub good : length before.variables ≤ n → GoodChange integers n r.1

-- what comes of changes
pub record AllTurn (integers : Integers) (n : ℕ) (before : State) (r : State × List Change) : Type 0 where
  -- its names stand for variables
  pub sound : Sound r.0
  -- it has the same variables
  pub variables : r.0.variables ≡ before.variables
  -- so it has as many
  pub width : length r.0.variables ≡ length before.variables
  -- it has as many statements more as these are in the core
  pub count : r.0.count ≡ before.count + length (changes_deeds integers n r.1)
  -- they are good where there are no more variables than n
  pub good : length before.variables ≤ n → GoodChanges integers n r.1

module _ (integers : Integers) (line : ℕ → ℕ) (n : ℕ) where
  -- ---- changes
  -- a condition that is read is good
  abbrev pub Tests : State → (at : ℕ) → Expression → Type 0
  Tests st at x = length st.variables ≤ n → GoodCondition integers n (line at) x

  -- an expression that is read among its own tokens has the variables, and its steps stand apart
  expression_kept : (st : State) → Sound st → (at : ℕ) → length st.variables ≤ n → (e : Expr)
      → OnValue (λ x. IsTrue (is_kept n x)) (read integers (line at) (among (spell_expr e) st) e n)
  expression_kept st s at l e =
      let now : State = among (spell_expr e) st in
      let among : Sound now = among_sound (spell_expr e) st s in
      on_weaker (λ x. IsTrue (is_over n x) × Apart now (spell_expr e) x) (λ x. IsTrue (is_kept n x)) (read integers (line at) now e n)
      (on_both (λ x. IsTrue (is_over n x)) (Apart now (spell_expr e)) (read integers (line at) now e n)
      (read_over integers n (line at) now among l e n) (read_apart integers (line at) now among e n))
      (λ x p. and_from (is_over n x) (steps_apart x) p.0 (apart_alone st (spell_expr e) x p.1))

  -- the condition that is read
  pub condition_good : (st : State) → Sound st → (at : ℕ) (e : Expr) → OnValue (Tests st at) (read_condition integers line n st at e)
  condition_good st s at e =
      let Over : Expression → Type 0 = λ x. IsTrue (is_kept n x) in
      let Fit : Expression → Type 0 = λ x. IsTrue (tested_fits (condition_of integers n (line at) x)) in
      on_given (length st.variables ≤ n) (GoodCondition integers n (line at)) (read_condition integers line n st at e) (λ l.
      on_bind Over (GoodCondition integers n (line at)) (read integers (line at) (among (spell_expr e) st) e n) _
      (expression_kept st s at l e)
      (λ x o. on_bind (λ x. Over x × Fit x) (GoodCondition integers n (line at)) (as_condition integers (line at) (first_of e) n x) _
      (on_both Over Fit (as_condition integers (line at) (first_of e) n x) (condition_has integers (line at) Over (first_of e) n x o)
      (condition_in_range integers (line at) (first_of e) n x))
      (λ x p. limited_has (GoodCondition integers n (line at)) n at (condition_of integers n (line at) x).next
      (condition_of integers n (line at) x).prelude
      ((condition_of integers n (line at) x).condition ∷ []) x
      (λ a b c. let q = condition_limited integers n (n + MOST_HIDDEN) (line at) x
      (and_parts (is_over n x) (steps_apart x) p.0).0 p.1 a b c in (p.0, q.0, q.1)))))

  -- the test of a `for`
  pub test_good : (st : State) → Sound st → (at : ℕ) (t : Optional) → OnValue (Tests st at) (read_test integers line n st at t)
  test_good st s at absent = λ few. good_always integers n (line at) at
  test_good st s at (present e) = condition_good st s at e

  -- what has the limits of a change
  pub few_has : {A : Type 0} (P : A → Type 0) (at : ℕ) (g : Change) (x : A)
      → (behind_change integers n (line at) g ≤ n + MOST_HIDDEN → IsTrue (list_all is_small_deed (change_deeds integers n g)) → P x)
      → OnValue P (few integers n (line at) at g x)
  few_has P at g x f = limited_has P n at (behind_change integers n (line at) g) (change_deeds integers n g) [] x (λ a b c. f a b)

  -- a change over the variables, with its numbers in range, is good within the limits
  pub change_good : (at : ℕ) (g : Change) → IsTrue (deeds_fit (change_deeds integers n g))
      → behind_change integers n (line at) g ≤ n + MOST_HIDDEN
      → IsTrue (list_all is_small_deed (change_deeds integers n g)) → IsTrue (is_change_kept n g) → GoodChange integers n g
  change_good at g h a b o = (
    o,
    change_limited integers n (n + MOST_HIDDEN) (line at) g (omega arith) (and_parts (is_change_over n g) (is_change_apart g) o).0 h a b,
  )

  -- a change that is counted
  counts_change : (at : ℕ) (st : State) → Sound st → (g : Change) → (length st.variables ≤ n → IsTrue (is_change_kept n g))
      → IsTrue (deeds_fit (change_deeds integers n g))
      → OnValue (Turns integers n st)
      (few integers n (line at) at g g >>= λ g. counted at (length (change_deeds integers n g)) st >>= λ st. Ok (st, g))
  counts_change at st s g h k =
      on_bind (λ g. length st.variables ≤ n → GoodChange integers n g) (Turns integers n st) (few integers n (line at) at g g) _
      (few_has (λ g. length st.variables ≤ n → GoodChange integers n g) at g g (λ a b l. change_good at g k a b (h l)))
      (λ g h. on_bind (Counts (length (change_deeds integers n g)) st) (Turns integers n st)
      (counted at (length (change_deeds integers n g)) st) _
      (counted_sound at (length (change_deeds integers n g)) st s)
      (λ now c. record { sound = c.sound; variables = c.variables; width = c.width; count = c.count; good = h }))

  -- a change of a place, among tokens with room for its own
  place_turns : (at : ℕ) (st : State) → Sound st → (ts : List Token) (p : Place) (f : Effect)
      → ((x : List ℕ) → standing x (spell_place p ++ spell_effect f) ≤ standing x ts)
      → OnValue (Turns integers n st) (changed integers n (line at) (among ts st) p f >>= λ g. few integers n (line at) at g g
      >>= λ g. counted at (length (change_deeds integers n g)) st >>= λ st. Ok (st, g))
  place_turns at st s ts p f room =
      let now : State = among ts st in
      let Over : Change → Type 0 = λ g. length st.variables ≤ n → IsTrue (is_change_kept n g) in
      let Fit : Change → Type 0 = λ g. IsTrue (deeds_fit (change_deeds integers n g)) in
      on_bind (λ g. Over g × Fit g) (Turns integers n st) (changed integers n (line at) now p f) _
      (on_both Over Fit (changed integers n (line at) now p f)
      (on_given (length st.variables ≤ n) (λ g. IsTrue (is_change_kept n g)) (changed integers n (line at) now p f)
      (λ l. on_weaker (λ g. IsTrue (is_change_over n g) × IsTrue (is_change_apart g)) (λ g. IsTrue (is_change_kept n g))
      (changed integers n (line at) now p f)
      (on_both (λ g. IsTrue (is_change_over n g)) (λ g. IsTrue (is_change_apart g)) (changed integers n (line at) now p f)
      (changed_over integers n (line at) now (among_sound ts st s) l p f) (changed_apart integers n (line at) st s ts p f room))
      (λ g q. and_from (is_change_over n g) (is_change_apart g) q.0 q.1)))
      (changed_fits integers n (line at) now p f))
      (λ g h. counts_change at st s g h.0 h.1)

  -- a change that is read
  pub update_turns : (st : State) → Sound st → (u : Update) → OnValue (Turns integers n st) (read_update integers line n st u)
  update_turns st s (update p f) = place_turns (first_place p) st s (spell_update (update p f)) p f (λ x. omega arith)
  update_turns st s (step_before d at p) =
      place_turns at st s (spell_update (step_before d at p)) p (steps d at)
      (λ x. let k = standing_then x (spell_place p) (token (step_sign d) at ∷ []) in
      let l = standing_more x (token (step_sign d) at) (spell_place p) in
      let m = standing_more x (token (step_sign d) at) [] in omega (arith, k, l, m))

  all_none : (st : State) → Sound st → AllTurn integers n st (st, [])
  all_none st s = record { sound = s; variables = refl; width = refl; count = omega arith; good = λ l. no_changes integers n }

  all_more : (st : State) (r : State × Change) (q : State × List Change) → Turns integers n st r → AllTurn integers n r.0 q
      → AllTurn integers n st (q.0, r.1 ∷ q.1)
  all_more st r q t u = let e = length-append (change_deeds integers n r.1) (changes_deeds integers n q.1) in record {
    sound = u.sound;
    variables = u.variables ∙ t.variables;
    width = omega (arith, t.width, u.width);
    count = omega (arith, t.count, u.count, e);
    good = λ l. more_changes integers n r.1 q.1 (t.good l) (u.good (omega (arith, l, t.width)));
  }

  more_updates_turn : (st : State) → Sound st → (us : MoreUpdates)
      → OnValue (AllTurn integers n st) (read_more_updates integers line n st us)
  more_updates_turn st s last_update = all_none st s
  more_updates_turn st s (next_update a u us) =
      on_bind (Turns integers n st) (AllTurn integers n st) (read_update integers line n st u) _ (update_turns st s u)
      (λ r t. on_bind (AllTurn integers n r.0) (AllTurn integers n st) (read_more_updates integers line n r.0 us) _
      (more_updates_turn r.0 t.sound us)
      (λ q v. all_more st r q t v))

  -- changes that are read
  pub updates_turn : (st : State) → Sound st → (us : Updates) → OnValue (AllTurn integers n st) (read_updates integers line n st us)
  updates_turn st s no_updates = all_none st s
  updates_turn st s (some_updates u us) =
      on_bind (Turns integers n st) (AllTurn integers n st) (read_update integers line n st u) _ (update_turns st s u)
      (λ r t. on_bind (AllTurn integers n r.0) (AllTurn integers n st) (read_more_updates integers line n r.0 us) _
      (more_updates_turn r.0 t.sound us)
      (λ q v. all_more st r q t v))
