-- What labels, declarations, changes, calls and jumps do to what is known, and that they have no anchors.
use Rattle.std.proofs.Common.{◌≡◌, ◌∙◌, ◌+◌, ◌++◌, ◌∷◌, ℕ, ℤ, Bool, true, false, cond, List, [], length, reverse, nat_lt, Option, Some}
use Rattle.std.proofs.Common.{None, Result, Ok, Err}
use Rattle.std.proofs.Common.{nat_le, refl, sym, ap, subst}
use Rattle.std.specs.List.{list_any}
use Rattle.std.specs.Str.{bytes_eq}
use Rattle.std.proofs.lemmas.List.{append-nil, length-reverse, reverse-append}
use Rattle.lang_tree.specs.Tree.{Condition, Deed, nodes_in, returns}
use Rattle.lang_tree.specs.declared.limits.TheConstants.{MOST_HIDDEN, MOST_VARIABLES}
use Rattle.source_grammar.specs.Expressions.{Arguments, Optional, absent, present, steps, Update, update, step_before}
use Rattle.source_grammar.specs.Expressions.{MoreUpdates, last_update, next_update, Updates, no_updates, some_updates}
use Rattle.source_grammar.specs.Grammar.{bare, given}
use Rattle.source_grammar.specs.Tokens.{Name, Token}
use Rattle.source_grammar.specs.Grammar.{sized, filled, Declarator, declarator, MoreDeclarators, last_declarator, next_declarator}
use Rattle.source_grammar.specs.Grammar.{Declarators, spell_expr, spell_update, spell_declarator}
use Rattle.source_grammar.specs.Grammar.{ForFirst, declared_first, updated_first}
use Rattle.source_grammar.specs.Grammar as tree
use Rattle.source_tree.specs.Expressions.{Extent, none, more}
use Rattle.source_tree.specs.Statements.{Change, sets, evaluates, Statements, declares, changes, never, jump, nil, cons}
use Rattle.source_core.specs.Core.{taken_any, change_deeds, core_in, behind}
use Rattle.lang_tree.specs.Tree as core
use Rattle.source_meaning.specs.declared.fault.FunctionFault.{FunctionFault}
use Rattle.source_meaning.specs.declared.fault.FunctionFault.TheVariants as fault
use Rattle.source_meaning.specs.declared.fault.Limit.TheVariants as limit
use Rattle.source_meaning.specs.Results.{◌>>=◌, provided}
use Rattle.source_meaning.specs.Names.{among}
use Rattle.source_meaning.specs.Names.{Named, Thing, State, variable, array, constant, declared, fresh, with_name, as_variable_again}
use Rattle.source_meaning.specs.Names.{with_variable, declared_number, as_array_again, fresh_array, with_array, thing_of, as_called}
use Rattle.source_meaning.specs.Arrays.{read_sizes}
use Rattle.source_meaning.specs.Limits.{limited, counted}
use Rattle.source_meaning.specs.Expressions.{read, read_arguments, read_values}
use Rattle.source_meaning.specs.Changes.{few, behind_change, changed, first_place, read_update}
use Rattle.source_meaning.specs.Statements.{followed_by, one, as_statements, is_end, is_error, new_label, jumped, call_of, read_declarator}
use Rattle.source_meaning.specs.Statements.{read_more_declarators, read_declarators, read_more_updates, read_updates, read_first}
use Rattle.source_meaning.specs.Statements.{read_evaluated, read_returned}
use Rattle.acsl_anchors.specs.Anchors as spec
use Rattle.acsl_anchors.specs.Anchors.{Scope, number_among, scope_declarator, scope_more_declarators, scope_declarators, scope_first}
use Rattle.acsl_anchors.specs.Laws.{known_in, scope_of, IsNumberedAs, IsNumberedBy, IsNumbered}
use Rattle.acsl_anchors.proofs.Variables.{declared_more, declared_again}
use Rattle.acsl_anchors.proofs.walked.Binds.{met, IsOk, ok_is, provided_is}
use Rattle.acsl_anchors.proofs.walked.Names.{Grows, grows_none, grows_then}
use Rattle.acsl_anchors.proofs.walked.Numbered.{numbered_same, numbered_array, numbered_again, numbered_more}
use Rattle.acsl_anchors.proofs.walked.Points.{anchored_in, behind_deeds, anchored_one, anchored_followed}
use Rattle.base_integers.specs.declared.integers.Integers.{Integers}

-- ---- states
-- the same names and variables
pub record Still (st now : State) : Type 0 where
  -- the names are the same
  pub names : now.names ≡ st.names
  -- the variables are the same
  pub variables : now.variables ≡ st.variables

-- the same scope
pub still_scope : (st now : State) → Still st now → scope_of st ≡ scope_of now
still_scope st now h =
    ap (λ (l : List Named). let s : Scope = record { variables = reverse st.variables; known = known_in l } in s) (sym h.names)
    ∙ ap (λ (vs : List (List ℕ)). let s : Scope = record { variables = reverse vs; known = known_in now.names } in s) (sym h.variables)

-- the same numbers
pub still_numbered : (st now : State) → Still st now → IsNumbered st → IsNumbered now
still_numbered st now h i = numbered_same st now h.names h.variables i

-- and no more names
pub still_grows : (st now : State) → Still st now → Grows st now
still_grows st now h = grows_none st now h.names

-- a state is still itself
pub still_here : (st : State) → Still st st
still_here st = record { names = refl; variables = refl }

-- one after another
pub still_then : (st now last : State) → Still st now → Still now last → Still st last
still_then st now last h i = record { names = i.names ∙ h.names; variables = i.variables ∙ h.variables }

-- Statements more,
pub counted_still : (at k : ℕ) (st now : State) → IsOk (counted at k st) now → Still st now
counted_still at k st now h =
    let P : State → Type 0 = λ z. Still st z in subst P (provided_is _ _ _ now h) (record { names = refl; variables = refl })

-- a label,
pub label_still : (x : Name) (at : ℕ) (st now : State) → IsOk (new_label x at st) now → Still st now
label_still x at st now h = by_name (list_any (λ y. bytes_eq x.text y) st.labels) h where
  by_name : (t : Bool) → IsOk (cond t (Err (fault.NameTwice at)) (counted at 1 (record st { labels = x.text ∷ st.labels }))) now
      → Still st now
  by_name true g = cc
  by_name false g = let i = counted_still at 1 (record st { labels = x.text ∷ st.labels }) now g in
      record { names = i.names; variables = i.variables }

-- and a jump declare nothing.
pub jumped_still : (inside : Bool) (at : ℕ) (st now : State) → IsOk (jumped inside at st) now → Still st now
jumped_still inside at st now h =
    let first = met (provided inside (fault.OutsideLoop at) st) _ now h in
    let P : State → Type 0 = λ z. Still z now in
    subst P (sym (provided_is _ _ _ first.value first.was)) (counted_still at 1 first.value now first.gave)

-- What is given within limits is what was there.
pub limited_is : {A : Type 0} (n at next : ℕ) (ds : List Deed) (cs : List Condition) (x y : A) → IsOk (limited n at next ds cs x) y → x ≡ y
limited_is n at next ds cs x y h =
    let first = met (provided (nat_le next (n + MOST_HIDDEN)) (fault.Limit at limit.Hidden) x) _ y h in
    provided_is _ _ x first.value first.was ∙ provided_is _ _ first.value y first.gave

-- the same behind the limits of a change
few_still : (integers : Integers) (n line at : ℕ) (g : Change) (st now : State) → IsOk (few integers n line at g st) now → Still st now
few_still integers n line at g st now h = let P : State → Type 0 = λ z. Still st z in
    subst P (limited_is n at (behind_change integers n line g) (change_deeds integers n g) [] st now h) (still_here st)

-- ---- names that are declared
-- a name wasn't declared before, or as this thing
abbrev WasBefore : Option Thing → Option Named → Type 0
WasBefore None o = o ≡ None
WasBefore (Some t) o = (n : Named) × (o ≡ Some n) × (n.thing ≡ t)

-- what a name was before is what it was declared as
fresh_was : (x : Name) (at : ℕ) (st : State) (before : Option Thing) → IsOk (fresh x at st) before
    → WasBefore before (declared x.text st.names)
fresh_was x at st before = by_value x.value where
  by_known : (n : Named) (t : Bool) → IsOk (cond t (Err (fault.NameTwice at)) (Ok (Some n.thing))) before → WasBefore before (Some n)
  by_known n true g = cc
  by_known n false g =
      let P : Option Thing → Type 0 = λ z. WasBefore z (Some n) in subst P (ok_is (Some n.thing) before g) (n, refl, refl)

  by_name : (o : Option Named) → IsOk
      (elim o as (λ z. Result (Option Thing) FunctionFault) [
        | None ↦ Ok None
        | Some n ↦ cond n.is_known (Err (fault.NameTwice at)) (Ok (Some n.thing))
      ]) before → WasBefore before o
  by_name None g = let P : Option Thing → Type 0 = λ z. WasBefore z None in subst P (ok_is None before g) refl
  by_name (Some n) g = by_known n n.is_known g

  by_value : (o : Option ℤ) → IsOk
      (elim o as (λ z. Result (Option Thing) FunctionFault) [
        | Some v ↦ Err (fault.NameTwice at)
        | None ↦ elim (declared x.text st.names) as (λ z. Result (Option Thing) FunctionFault) [
          | None ↦ Ok None
          | Some n ↦ cond n.is_known (Err (fault.NameTwice at)) (Ok (Some n.thing))
        ]
      ]) before → WasBefore before (declared x.text st.names)
  by_value None g = by_name (declared x.text st.names) g
  by_value (Some v) g = cc

-- a way from scope to scope where a name is declared
pub record Declares (scope : Scope → Scope) (st now : State) : Type 0 where
  -- the way leads from the scope of the first state to that of the second
  pub scope_is : IsNumbered st → scope (scope_of st) ≡ scope_of now
  -- the numbers are still those of the names
  pub numbered : IsNumbered st → IsNumbered now
  -- the names grow
  pub grows : Grows st now

-- a new variable
new_variable : (x : List ℕ) (st : State) → declared x st.names ≡ None
    → Declares (spec.declared x) st (with_name x (variable (length st.variables)) (record st { variables = x ∷ st.variables }))
new_variable x st missing = record {
  scope_is = λ i.
      let P : Option Named → Type 0 = λ o. IsNumberedBy x (reverse st.variables) o in
      let new : number_among x (reverse st.variables) ≡ length (reverse st.variables) = subst P missing (i x) in
      let long = length-reverse st.variables in
      sym (declared_more x (reverse st.variables) (reverse (x ∷ st.variables)) (known_in st.names)
      (known_in st.names ++ length st.variables ∷ []) (length st.variables) (sym long ∙ sym new) (sym long)
      (reverse-append (x ∷ []) st.variables) refl);
  numbered = numbered_more x st missing;
  grows = (record { name = x; thing = variable (length st.variables); is_known = true } ∷ [], refl);
}

-- one that was declared before
old_variable : (x : List ℕ) (i : ℕ) (st : State) → WasBefore (Some (variable i)) (declared x st.names)
    → Declares (spec.declared x) st (with_name x (variable i) st)
old_variable x i st (n, was, thing) =
    let here : IsNumbered st → IsNumberedAs x (reverse st.variables) (variable i) = λ h.
    let P : Option Named → Type 0 = λ o. IsNumberedBy x (reverse st.variables) o in
    let Q : Thing → Type 0 = λ t. IsNumberedAs x (reverse st.variables) t in
    subst Q thing (subst P was (h x)) in record {
      scope_is = λ h. sym (declared_again x (reverse st.variables) (known_in st.names) (known_in st.names ++ i ∷ []) i (sym (here h).0)
          (here h).1 refl);
      numbered = λ h. numbered_again x i st (here h) h;
      grows = (record { name = x; thing = variable i; is_known = true } ∷ [], refl);
    }

-- A variable is in the scope behind its declaration.
pub variable_adds : (x : Name) (at : ℕ) (st now : State) → IsOk (with_variable x at st) now → Declares (spec.declared x.text) st now
variable_adds x at st now h =
    let first = met (fresh x at st) _ now h in
    by_thing first.value (fresh_was x at st first.value first.was) first.gave where
      Q : State → Type 0
      Q z = Declares (spec.declared x.text) st z

      by_thing : (o : Option Thing) → WasBefore o (declared x.text st.names) → IsOk (as_variable_again x.text at st o) now → Q now
      by_thing None was g =
          subst Q (provided_is (nat_lt (length st.variables) MOST_VARIABLES) _ _ now g) (new_variable x.text st was)
      by_thing (Some (variable i)) was g = subst Q (ok_is _ now g) (old_variable x.text i st was)
      by_thing (Some (array es)) was g = cc
      by_thing (Some (constant v)) was g = cc

-- The name of an array is new, or that of one.
pub array_still : (x : Name) (at : ℕ) (st now : State) → IsOk (fresh_array x at st) now → Still st now
array_still x at st now h = let first = met (fresh x at st) _ now h in by_thing first.value first.gave where
  P : State → Type 0
  P z = Still st z

  by_thing : (o : Option Thing) → IsOk (as_array_again at o st) now → Still st now
  by_thing None g = subst P (ok_is st now g) (still_here st)
  by_thing (Some (variable i)) g = cc
  by_thing (Some (array es)) g = subst P (ok_is st now g) (still_here st)
  by_thing (Some (constant v)) g = cc

-- An array isn't in the scope.
pub array_adds : (x : Name) (extents : List Extent) (st : State) → Declares (λ s. s) st (with_array x extents st)
array_adds x extents st = record {
  scope_is = λ i. ap (λ (l : List ℕ). let s : Scope = record { variables = reverse st.variables; known = l } in s)
      (sym (append-nil (known_in st.names)));
  numbered = numbered_array x.text st (array extents) (λ y. tt);
  grows = (record { name = x.text; thing = array extents; is_known = true } ∷ [], refl);
}

-- what was declared is still so
pub declares_still : (scope : Scope → Scope) (st now last : State) → Declares scope st now → Still now last → Declares scope st last
declares_still scope st now last d s = record {
  scope_is = λ i. d.scope_is i ∙ still_scope now last s;
  numbered = λ i. still_numbered now last s (d.numbered i);
  grows = grows_then st now last d.grows (still_grows now last s);
}

-- and is so where it was the same before
pub still_declares : (scope : Scope → Scope) (st now last : State) → Still st now → Declares scope now last → Declares scope st last
still_declares scope st now last s d = record {
  scope_is = λ i. ap scope (still_scope st now s) ∙ d.scope_is (still_numbered st now s i);
  numbered = λ i. d.numbered (still_numbered st now s i);
  grows = grows_then st now last (still_grows st now s) d.grows;
}

-- the way leads to the scope behind them, the names grow, and they have no anchors
pub record Passes (integers : Integers) (n : ℕ) (scope : Scope → Scope) (st now : State) (nodes : Statements) : Type 0 where
  -- the way leads from the scope of the first state to that of the second
  pub behind : IsNumbered st → scope (scope_of st) ≡ scope_of now
  -- the numbers are still those of the names
  pub numbered : IsNumbered st → IsNumbered now
  -- the names grow
  pub grows : Grows st now
  -- the statements have no anchors
  pub none : (m : ℕ) → anchored_in (core_in integers n nodes) m ≡ []

-- what has been met and statements
abbrev pub passes_by : (integers : Integers) (n : ℕ) (scope : Scope → Scope) (st : State) → State × Statements → Type 0
passes_by integers n scope st r = Passes integers n scope st r.0 r.1

-- a name that is declared, by statements without anchors
pub declares_passes : (integers : Integers) (n : ℕ) (scope : Scope → Scope) (st now : State) (nodes : Statements) → Declares scope st now
    → ((m : ℕ) → anchored_in (core_in integers n nodes) m ≡ []) → Passes integers n scope st now nodes
declares_passes integers n scope st now nodes d silent =
    record { behind = d.scope_is; numbered = d.numbered; grows = d.grows; none = silent }

-- where nothing is declared
pub still_passes : (integers : Integers) (n : ℕ) (st now : State) (nodes : Statements) → Still st now
    → ((m : ℕ) → anchored_in (core_in integers n nodes) m ≡ []) → Passes integers n (λ s. s) st now nodes
still_passes integers n st now nodes s silent = record {
  behind = λ i. still_scope st now s;
  numbered = still_numbered st now s;
  grows = still_grows st now s;
  none = silent;
}

-- deeds have none
deeds_none : (ds : List Deed) (m : ℕ) → anchored_in (behind ds core.nil) m ≡ []
deeds_none ds m = (behind_deeds ds core.nil m).1

-- nor has a declaration without a value
pub declares_none : (integers : Integers) (n var line m : ℕ) → anchored_in (core_in integers n (one (declares var line))) m ≡ []
declares_none integers n var line m = anchored_one integers n (declares var line) m ∙ deeds_none (taken_any integers var line) m

-- nor has a change as a statement
change_none : (integers : Integers) (n : ℕ) (g : Change) (m : ℕ) → anchored_in (core_in integers n (one (changes g))) m ≡ []
change_none integers n g m = anchored_one integers n (changes g) m ∙ deeds_none (change_deeds integers n g) m

-- nor have changes in order
changes_none : (integers : Integers) (n : ℕ) (gs : List Change) (m : ℕ) → anchored_in (core_in integers n (as_statements gs)) m ≡ []
changes_none integers n [] m = refl
changes_none integers n (g ∷ gs) m =
    let (k, e) = anchored_followed integers n (one (changes g)) (as_statements gs) m in
    e ∙ ap (λ l. l ++ anchored_in (core_in integers n (as_statements gs)) k) (change_none integers n g m) ∙ changes_none integers n gs k

-- statements and others behind them
pub passes_then : (integers : Integers) (n : ℕ) (first second : Scope → Scope) (st now end : State) (ss rest : Statements)
    → Passes integers n first st now ss → Passes integers n second now end rest
    → Passes integers n (λ s. second (first s)) st end (followed_by ss rest)
passes_then integers n first second st now end ss rest p q = record {
  behind = λ i. ap second (p.behind i) ∙ q.behind (p.numbered i);
  numbered = λ i. q.numbered (p.numbered i);
  grows = grows_then st now end p.grows q.grows;
  none = λ m.
      let (k, e) = anchored_followed integers n ss rest m in
      e ∙ ap (λ l. l ++ anchored_in (core_in integers n rest) k) (p.none m) ∙ q.none k;
}

module _ (integers : Integers) (line : ℕ → ℕ) (n : ℕ) where
  -- ---- what is evaluated
  -- a value that isn't used
  evaluated_still : (at : ℕ) (g : Change) (st : State) (r : State × Statements) → IsOk (read_evaluated integers line n st at g) r
      → Still st r.0 × (r.1 ≡ one (changes g))
  evaluated_still at g st r h =
      let within = met (few integers n (line at) at g st) _ r h in
      let more = met (counted at (length (change_deeds integers n g)) within.value) _ r within.gave in
      let still = still_then st within.value more.value (few_still integers n (line at) at g st within.value within.was)
      (counted_still at _ within.value more.value more.was) in
      let P : State × Statements → Type 0 = λ z. Still st z.0 × (z.1 ≡ one (changes g)) in
      subst P (ok_is _ r more.gave) (still, refl)

  -- it has no anchors
  pub evaluated_passes : (at : ℕ) (g : Change) (st : State) (r : State × Statements) → IsOk (read_evaluated integers line n st at g) r
      → passes_by integers n (λ s. s) st r
  evaluated_passes at g st r h =
      let (still, same) = evaluated_still at g st r h in
      still_passes integers n st r.0 r.1 still
      (λ m. ap (λ (ss : Statements). anchored_in (core_in integers n ss) m) same ∙ change_none integers n g m)

  -- ---- declarations
  -- A declarator declares its name.
  declarator_passes : (x : Declarator) (st : State) (r : State × Statements) → IsOk (read_declarator integers line n st x) r
      → passes_by integers n (scope_declarator x) st r
  declarator_passes (declarator x at bare) st r h =
      let now = met (with_variable x at st) _ r h in
      let i = declared_number now.value in
      let more = met (counted at (length (taken_any integers i (line at))) now.value) _ r now.gave in
      let d = declares_still (spec.declared x.text) st now.value more.value (variable_adds x at st now.value now.was)
      (counted_still at (length (taken_any integers i (line at))) now.value more.value more.was) in
      let P : State × Statements → Type 0 = λ z. passes_by integers n (spec.declared x.text) st z in
      subst P (ok_is _ r more.gave) (declares_passes integers n (spec.declared x.text) st more.value _ d (declares_none integers n i
      (line at)))
  declarator_passes (declarator x at (given b e)) st r h =
      let v = met (read integers (line at) (among (spell_declarator (declarator x at (given b e))) st) e n) _ r h in
      let now = met (with_variable x at st) _ r v.gave in
      let g : Change = sets (declared_number now.value) v.value (line at) in
      let within = met (few integers n (line at) at g now.value) _ r now.gave in
      let more = met (counted at (length (change_deeds integers n g)) within.value) _ r within.gave in
      let d = declares_still (spec.declared x.text) st now.value more.value (variable_adds x at st now.value now.was)
      (still_then now.value within.value more.value (few_still integers n (line at) at g now.value within.value within.was)
      (counted_still at (length (change_deeds integers n g)) within.value more.value more.was)) in
      let P : State × Statements → Type 0 = λ z. passes_by integers n (spec.declared x.text) st z in
      subst P (ok_is _ r more.gave) (declares_passes integers n (spec.declared x.text) st more.value _ d (change_none integers n g))
  declarator_passes (declarator x at (sized ss)) st r h =
      let now = met (fresh_array x at st) _ r h in
      let extents = met (read_sizes now.value ss) _ r now.gave in
      let d = still_declares (λ s. s) st now.value _ (array_still x at st now.value now.was) (array_adds x extents.value now.value) in
      let P : State × Statements → Type 0 = λ z. passes_by integers n (λ s. s) st z in
      subst P (ok_is _ r extents.gave) (declares_passes integers n (λ s. s) st _ nil d (λ m. refl))
  declarator_passes (declarator x at (filled ss a b vs c)) st r h =
      let now = met (fresh_array x at st) _ r h in
      let extents = met (read_sizes now.value ss) _ r now.gave in
      let es = met (read_values integers (line at) (among (spell_declarator (declarator x at (filled ss a b vs c))) now.value) vs n) _ r
      extents.gave in
      let g : Change = evaluates es.value (line at) in
      let q = met (read_evaluated integers line n now.value at g) _ r es.gave in
      let (still, same) = evaluated_still at g now.value q.value q.was in
      let d = still_declares (λ s. s) st q.value.0 _ (still_then st now.value q.value.0 (array_still x at st now.value now.was) still)
      (array_adds x extents.value q.value.0) in
      let P : State × Statements → Type 0 = λ z. passes_by integers n (λ s. s) st z in
      let last : State × Statements = (with_array x extents.value q.value.0, q.value.1) in
      subst P (ok_is last r q.gave) (declares_passes integers n (λ s. s) st last.0 last.1 d
      (λ m. ap (λ (ss : Statements). anchored_in (core_in integers n ss) m) same ∙ change_none integers n g m))

  -- So do those behind the first.
  more_pass : (xs : MoreDeclarators) (st : State) (r : State × Statements) → IsOk (read_more_declarators integers line n st xs) r
      → passes_by integers n (scope_more_declarators xs) st r
  more_pass last_declarator st r h =
      let P : State × Statements → Type 0 = λ z. passes_by integers n (λ s. s) st z in
      subst P (ok_is _ r h) (still_passes integers n st st nil (still_here st) (λ m. refl))
  more_pass (next_declarator a x xs) st r h =
      let o = met (read_declarator integers line n st x) _ r h in
      let q = met (read_more_declarators integers line n o.value.0 xs) _ r o.gave in
      let P : State × Statements → Type 0 = λ z. passes_by integers n (λ s. scope_more_declarators xs (scope_declarator x s)) st z in
      subst P (ok_is _ r q.gave)
      (passes_then integers n (scope_declarator x) (scope_more_declarators xs) st o.value.0 q.value.0 o.value.1 q.value.1
      (declarator_passes x st o.value o.was) (more_pass xs o.value.0 q.value q.was))

  -- Declarators declare their names and have no anchors.
  pub declarators_pass : (xs : Declarators) (st : State) (r : State × Statements) → IsOk (read_declarators integers line n st xs) r
      → passes_by integers n (scope_declarators xs) st r
  declarators_pass (tree.declares x xs) st r h =
      let o = met (read_declarator integers line n st x) _ r h in
      let q = met (read_more_declarators integers line n o.value.0 xs) _ r o.gave in
      let P : State × Statements → Type 0 = λ z. passes_by integers n (λ s. scope_more_declarators xs (scope_declarator x s)) st z in
      subst P (ok_is _ r q.gave)
      (passes_then integers n (scope_declarator x) (scope_more_declarators xs) st o.value.0 q.value.0 o.value.1 q.value.1
      (declarator_passes x st o.value o.was) (more_pass xs o.value.0 q.value q.was))

  -- ---- changes
  -- a change that is counted declares nothing
  counted_change : (st : State) (at : ℕ) (g : Change) (r : State × Change)
      → IsOk (few integers n (line at) at g g >>= λ g. counted at (length (change_deeds integers n g)) st >>= λ st. Ok (st, g)) r
      → Still st r.0
  counted_change st at g r h =
      let within = met (few integers n (line at) at g g) _ r h in
      let more = met (counted at (length (change_deeds integers n within.value)) st) _ r within.gave in
      let P : State × Change → Type 0 = λ z. Still st z.0 in
      subst P (ok_is _ r more.gave) (counted_still at _ st more.value more.was)

  -- a change declares nothing
  pub update_still : (u : Update) (st : State) (r : State × Change) → IsOk (read_update integers line n st u) r → Still st r.0
  update_still (update p f) st r h =
      let g = met (changed integers n (line (first_place p)) (among (spell_update (update p f)) st) p f) _ r h in
      counted_change st (first_place p) g.value r g.gave
  update_still (step_before d at p) st r h =
      let g = met (changed integers n (line at) (among (spell_update (step_before d at p)) st) p (steps d at)) _ r h in
      counted_change st at g.value r g.gave

  -- nor do those behind the first
  more_updates_still : (us : MoreUpdates) (st : State) (r : State × List Change) → IsOk (read_more_updates integers line n st us) r
      → Still st r.0
  more_updates_still last_update st r h =
      let P : State × List Change → Type 0 = λ z. Still st z.0 in subst P (ok_is _ r h) (still_here st)
  more_updates_still (next_update a u us) st r h =
      let o = met (read_update integers line n st u) _ r h in
      let q = met (read_more_updates integers line n o.value.0 us) _ r o.gave in
      let P : State × List Change → Type 0 = λ z. Still st z.0 in
      subst P (ok_is _ r q.gave) (still_then st o.value.0 q.value.0 (update_still u st o.value o.was)
      (more_updates_still us o.value.0 q.value q.was))

  -- nor do changes in order
  pub updates_still : (us : Updates) (st : State) (r : State × List Change) → IsOk (read_updates integers line n st us) r → Still st r.0
  updates_still no_updates st r h =
      let P : State × List Change → Type 0 = λ z. Still st z.0 in subst P (ok_is _ r h) (still_here st)
  updates_still (some_updates u us) st r h =
      let o = met (read_update integers line n st u) _ r h in
      let q = met (read_more_updates integers line n o.value.0 us) _ r o.gave in
      let P : State × List Change → Type 0 = λ z. Still st z.0 in
      subst P (ok_is _ r q.gave) (still_then st o.value.0 q.value.0 (update_still u st o.value o.was)
      (more_updates_still us o.value.0 q.value q.was))

  -- a change as a statement
  pub update_passes : (u : Update) (st : State) (r : State × Statements)
      → IsOk (read_update integers line n st u >>= λ q. Ok (q.0, one (changes q.1))) r → passes_by integers n (λ s. s) st r
  update_passes u st r h =
      let q = met (read_update integers line n st u) _ r h in
      let P : State × Statements → Type 0 = λ z. passes_by integers n (λ s. s) st z in
      subst P (ok_is _ r q.gave)
      (still_passes integers n st q.value.0 _ (update_still u st q.value q.was) (change_none integers n q.value.1))

  -- The first part of a `for` declares its names and has no anchors.
  pub first_passes : (f : ForFirst) (st : State) (r : State × Statements) → IsOk (read_first integers line n st f) r
      → passes_by integers n (scope_first f) st r
  first_passes (declared_first t xs) st r h = declarators_pass xs st r h
  first_passes (updated_first us) st r h =
      let q = met (read_updates integers line n st us) _ r h in
      let P : State × Statements → Type 0 = λ z. passes_by integers n (λ s. s) st z in
      subst P (ok_is _ r q.gave)
      (still_passes integers n st q.value.0 _ (updates_still us st q.value q.was) (changes_none integers n q.value.1))

  -- what is returned
  pub returned_passes : (at : ℕ) (t : Optional) (st : State) (r : State × Statements) → IsOk (read_returned integers line n st at t) r
      → passes_by integers n (λ s. s) st r
  returned_passes at absent st r h =
      let P : State × Statements → Type 0 = λ z. passes_by integers n (λ s. s) st z in
      subst P (ok_is _ r h) (still_passes integers n st st nil (still_here st) (λ m. refl))
  returned_passes at (present e) st r h =
      let x = met (read integers (line at) (among (spell_expr e) st) e n) _ r h in
      evaluated_passes at (evaluates (more x.value none) (line at)) st r x.gave

  -- what a call does behind its arguments
  call_none : (x : Name) (at k m : ℕ) → anchored_in (core_in integers n (call_of x at k)) m ≡ []
  call_none x at k m = by_name (is_error x.text) (is_end x.text) where
    by_name : (e f : Bool)
        → anchored_in (core_in integers n (cond e (cons (never at k) (one (jump returns k))) (cond f (one (jump returns k)) nil))) m ≡ []
    by_name true f = refl
    by_name false true = refl
    by_name false false = refl

  -- a call as a statement
  pub call_passes : (x : Name) (at : ℕ) (es : Arguments) (ts : Arguments → List Token) (st : State) (r : State × Statements)
      → IsOk (as_called at (thing_of x st) es >>= λ es. read_arguments integers (line at) (among (ts es) st) es n
      >>= λ es. read_evaluated integers line n st at (evaluates es (line at))
      >>= λ r. (let after : Statements = call_of x at (line at) in counted at (nodes_in (core_in integers n after)) r.0
      >>= λ now. Ok (now, followed_by r.1 after))) r → passes_by integers n (λ s. s) st r
  call_passes x at es ts st r h =
      let named = met (as_called at (thing_of x st) es) _ r h in
      let xs = met (read_arguments integers (line at) (among (ts named.value) st) named.value n) _ r named.gave in
      let q = met (read_evaluated integers line n st at (evaluates xs.value (line at))) _ r xs.gave in
      let after : Statements = call_of x at (line at) in
      let now = met (counted at (nodes_in (core_in integers n after)) q.value.0) _ r q.gave in
      let p = evaluated_passes at (evaluates xs.value (line at)) st q.value q.was in
      let still = counted_still at (nodes_in (core_in integers n after)) q.value.0 now.value now.was in
      let P : State × Statements → Type 0 = λ z. passes_by integers n (λ s. s) st z in
      subst P (ok_is _ r now.gave)
      (passes_then integers n (λ s. s) (λ s. s) st q.value.0 now.value q.value.1 after p
      (still_passes integers n q.value.0 now.value after still (call_none x at (line at))))
