-- What the pieces of a walk leave within the limits.
use Rattle.std.proofs.Common.{◌≡◌, ◌++◌, ◌+◌, ◌≤◌, ◌<◌, ℕ, suc, List, [], ◌∷◌, length, Bool, true, false, cond, IsTrue}
use Rattle.std.proofs.Common.{Result, Ok, Err, Option, Some, None, refl, ap, ◌∙◌, arith, nat_lt, nat_eq, subst}
use Rattle.std.proofs.lemmas.Bool.{lt-ltb, ltb-true}
use Rattle.std.specs.List.{list_any, position_or_len}
use Rattle.std.specs.Str.{bytes_eq}
use Rattle.lang_grammar.specs.Grammar.{Demand, assumes, asserts}
use Rattle.lang_tree.specs.declared.form.Form.{Form}
use Rattle.lang_tree.specs.Limits.{is_form, is_change, is_statement, are_statements}
use Rattle.lang_tree.specs.declared.change.Change.{Change}
use Rattle.lang_tree.specs.declared.change.Change.TheVariants as change
use Rattle.lang_tree.specs.Tree as tree
use Rattle.lang_tree.specs.Tree.{Statement, Statements, nil, cons, change_count, nodes_in}
use Rattle.lang_meaning.specs.declared.fault.ParseFault.{ParseFault}
use Rattle.lang_meaning.specs.declared.fault.ParseFault.TheVariants as fault
use Rattle.lang_meaning.specs.declared.fault.Limit.TheVariants as limit
use Rattle.base_limits.specs.declared.limits.TheConstants.{MOST_STATEMENTS}
use Rattle.lang_meaning.specs.Names.{place_of}
use Rattle.lang_meaning.specs.Walk.{State, followed_by, one, counted, counted_for, labelled_by, number_if_known, known_number}
use Rattle.lang_meaning.specs.Walk.{assignment, changed, change_nodes}
use Rattle.lang_meaning.proofs.forms.Ranges.{both_true, and_split}
use Rattle.lang_tree.specs.declared.limits.TheConstants.{MOST_VARIABLES}
use Rattle.lang_meaning.proofs.limits.Values.{OnValue, on_bind, on_cond, whole_fits}
use Rattle.lang_meaning.proofs.limits.Values.{SideFits}

-- a number of a variable that is named
abbrev pub Below : List (List ℕ) → ℕ → Type 0
Below names i = i < length names

place_below : (x : List ℕ) (names : List (List ℕ)) (i : ℕ) → place_of x names ≡ Some i → i < length names
place_below x names i e = by_test (nat_lt (position_or_len (bytes_eq x) names) (length names)) refl e where
  by_test : (b : Bool) → nat_lt (position_or_len (bytes_eq x) names) (length names) ≡ b
      → cond b (Some (position_or_len (bytes_eq x) names)) None ≡ Some i → i < length names
  by_test true h k = let q : position_or_len (bytes_eq x) names ≡ i = cc in
      subst (λ (z : ℕ). z < length names) q (ltb-true (position_or_len (bytes_eq x) names) (length names) h)
  by_test false h k = cc

-- the number of a known variable is one of those named
pub known_below : (x : List ℕ) (a : ℕ) (st : State) → OnValue (Below st.names) (known_number x a st)
known_below x a st = by_place (place_of x st.names) refl where
  by_place : (o : Option ℕ) → place_of x st.names ≡ o → OnValue (Below st.names) (number_if_known a st.known o)
  by_place None e = tt
  by_place (Some i) e = on_cond (Below st.names) (list_any (λ j. nat_eq j i) st.known) _ _ (λ t. place_below x st.names i e) tt

-- a state within the limits
pub record Fits (st : State) : Type 0 where
  -- there are no more names than there may be variables
  pub few_names : length st.names ≤ MOST_VARIABLES
  -- there are no more nodes than there may be statements
  pub few_nodes : st.count ≤ MOST_STATEMENTS

-- what comes of nodes: so many more names and nodes, and each node is one over at least as many variables as are named then
pub record Grows (N : ℕ) (inside : Bool) (before : State) (declared : ℕ) (r : State × Statements) : Type 0 where
  -- the state after them is within the limits
  pub fits : Fits r.0
  -- it has so many names more
  pub names : length r.0.names ≡ length before.names + declared
  -- it counts as many nodes more as there are
  pub nodes : r.0.count ≡ before.count + nodes_in r.1
  -- where it has at most N names, the nodes are statements over N variables within the limits
  pub good : length r.0.names ≤ N → IsTrue (are_statements N inside r.1)

-- one node more is counted
abbrev pub Counted : State → State → Type 0
Counted st now = Fits now × (now.names ≡ st.names) × (now.count ≡ suc st.count)

-- what comes of a change
abbrev pub Turns : ℕ → State → State × Change → Type 0
Turns N st r = Fits r.0 × (length r.0.names ≡ length st.names) × (r.0.count ≡ st.count + change_count r.1)
    × (length r.0.names ≤ N → IsTrue (is_change N r.1))

-- one node more fits where it is counted
pub counted_fits : (a : ℕ) (st : State) → length st.names ≤ MOST_VARIABLES → OnValue (Counted st) (counted a st)
counted_fits a st h = on_test (nat_lt st.count MOST_STATEMENTS) refl where
  on_test : (b : Bool) → nat_lt st.count MOST_STATEMENTS ≡ b → OnValue (Counted st)
      (cond b (Ok (record st { count = suc st.count })) (Err (fault.Limit a limit.Statements)))
  on_test true e = (record { few_names = h; few_nodes = ltb-true st.count MOST_STATEMENTS e }, refl, refl)
  on_test false e = tt

-- one more for an `assume`, two more for an `assert`
abbrev pub more_for : Demand → ℕ → ℕ
more_for assumes n = suc n
more_for asserts n = suc (suc n)

-- the nodes of an `assume` or `assert` are counted
abbrev pub CountedFor : Demand → State → State → Type 0
CountedFor k st now = Fits now × (now.names ≡ st.names) × (now.count ≡ more_for k st.count)

-- what holds of a value gives what follows from it
on_weaker : {A : Type 0} (P Q : A → Type 0) (r : Result A ParseFault) → OnValue P r → ((x : A) → P x → Q x) → OnValue Q r
on_weaker P Q (Ok x) h g = g x h
on_weaker P Q (Err e) h g = tt

-- they fit where they are counted
pub counted_for_fits : (k : Demand) (a : ℕ) (st : State) → length st.names ≤ MOST_VARIABLES → OnValue (CountedFor k st) (counted_for k a st)
counted_for_fits assumes a st h = counted_fits a st h
counted_for_fits asserts a st h = on_bind (Counted st) (CountedFor asserts st) (counted a st) (λ now. counted a now) (counted_fits a st h)
    (λ now i. on_weaker (Counted now) (CountedFor asserts st) (counted a now) (counted_fits a now i.0.few_names)
    (λ more j. (j.0, j.1 ∙ i.1, j.2 ∙ ap suc i.2)))

-- statements followed by others keep to the limits
pub follow_good : (N : ℕ) (inside : Bool) (ns ms : Statements) → IsTrue (are_statements N inside ns) → IsTrue (are_statements N inside ms)
    → IsTrue (are_statements N inside (followed_by ns ms))
follow_good N inside nil ms h i = i
follow_good N inside (cons n ns) ms h i =
    let p = and_split (is_statement N inside n) (are_statements N inside ns) h in
    both_true (is_statement N inside n) (are_statements N inside (followed_by ns ms)) p.0 (follow_good N inside ns ms p.1 i)

-- nodes add up
pub follow_count : (ns ms : Statements) → nodes_in (followed_by ns ms) ≡ nodes_in ns + nodes_in ms
follow_count nil ms = omega arith
follow_count (cons n ns) ms = omega (arith, follow_count ns ms)

-- one statement alone keeps to the limits
pub one_good : (N : ℕ) (inside : Bool) (s : Statement) → IsTrue (is_statement N inside s) → IsTrue (are_statements N inside (one s))
one_good N inside s h = both_true (is_statement N inside s) true h refl

-- an assignment is over variables that are named
pub assignment_good : (N : ℕ) (inside : Bool) (i : ℕ) (o : Option Form) (line : ℕ) → i < N → SideFits N o
    → IsTrue (is_statement N inside (assignment i o line))
assignment_good N inside i (Some f) line h k = both_true (nat_lt i N) (is_form N f) (lt-ltb i N h) (whole_fits N f k)
assignment_good N inside i None line h k = lt-ltb i N h

-- an assignment is one node
pub assignment_count : (i : ℕ) (o : Option Form) (line : ℕ) → nodes_in (one (assignment i o line)) ≡ 1
assignment_count i (Some f) line = refl
assignment_count i None line = refl

-- a change is over variables that are named
pub changed_good : (N i : ℕ) (o : Option Form) (line : ℕ) → i < N → SideFits N o → IsTrue (is_change N (changed i o line))
changed_good N i (Some f) line h k = both_true (nat_lt i N) (is_form N f) (lt-ltb i N h) (whole_fits N f k)
changed_good N i None line h k = lt-ltb i N h

-- a change is one node
pub changed_count : (i : ℕ) (o : Option Form) (line : ℕ) → change_count (changed i o line) ≡ 1
changed_count i (Some f) line = refl
changed_count i None line = refl

-- the statements of a change keep to the limits
pub change_nodes_good : (N : ℕ) (inside : Bool) (g : Change) → IsTrue (is_change N g) → IsTrue (are_statements N inside (change_nodes g))
change_nodes_good N inside change.Unchanged h = refl
change_nodes_good N inside (change.Set i f line) h = one_good N inside (tree.set i f line) h
change_nodes_good N inside (change.Havoc i line) h = one_good N inside (tree.havoc i line) h

-- the statements of a change have as many nodes
pub change_nodes_count : (g : Change) → nodes_in (change_nodes g) ≡ change_count g
change_nodes_count change.Unchanged = refl
change_nodes_count (change.Set i f line) = refl
change_nodes_count (change.Havoc i line) = refl

-- a label is one node more
pub label_fits : (x : List ℕ) (a : ℕ) (st : State) → Fits st → OnValue (Counted st) (labelled_by x a st)
label_fits x a st h = by_place (place_of x st.labels) where
  by_place : (o : Option ℕ) → OnValue (Counted st)
      (elim o as (λ z. Result State ParseFault) [
        | Some i ↦ Err (fault.NameTwice a)
        | None ↦ counted a
            (record st { labels = st.labels ++ x ∷ [] })
      ])
  by_place (Some i) = tt
  by_place None = counted_fits a (record st { labels = st.labels ++ x ∷ [] }) h.few_names
