-- Each variable of a function that is meant is a name of the language.
use Rattle.std.proofs.Common.{◌++◌, ◌+◌, ℕ, ℤ, Bool, true, false, cond, List, [], ◌∷◌, length, Option, Some, None, Result, Ok, Err}
use Rattle.std.proofs.Common.{sym, subst, reverse, nat_le, nat_lt}
use Rattle.std.specs.Prelude.{◌&&◌}
use Rattle.std.specs.List.{All, list_any, list_all}
use Rattle.std.specs.Str.{bytes_eq}
use Rattle.std.proofs.lemmas.Grind.{reverse_onto}
use Rattle.std.proofs.lemmas.List.Elements.{All-nil, All-push}
use Rattle.lang_tree.specs.declared.limits.TheConstants.{MOST_VARIABLES, MOST_HIDDEN}
use Rattle.lang_tokens.specs.declared.word.Word.{Word}
use Rattle.lang_tokens.specs.declared.word.Word.TheVariants.{Auto}
use Rattle.lang_tokens.specs.declared.sign.Sign.{Sign}
use Rattle.lang_tokens.specs.declared.sign.Sign.TheVariants.{LeftParen}
use Rattle.lang_tokens.specs.declared.token.Kind as lex_kind
use Rattle.lang_tokens.specs.declared.token.Kind.TheVariants as kind
use Rattle.lang_tokens.specs.declared.token.Token as lex_token
use Rattle.lang_tokens.specs.Lexemes.{IsName, IsToken}
use Rattle.source_grammar.specs.Tokens.{Name, Kind, a_name, Token, token, semicolon, left_paren, right_paren, left_brace, right_brace}
use Rattle.source_grammar.specs.Tokens.{else_word}
use Rattle.source_grammar.specs.Grammar.{spell_expr, spell_update, Optional, absent, present, Update, update, step_before, steps}
use Rattle.source_grammar.specs.Grammar.{MoreUpdates}
use Rattle.source_grammar.specs.Grammar.{last_update, next_update, Updates, no_updates, some_updates, bare, given, sized, filled}
use Rattle.source_grammar.specs.Grammar.{Declarator, declarator, MoreDeclarators, last_declarator, next_declarator, Declarators}
use Rattle.source_grammar.specs.Grammar.{spell_type, spell_declarator, spell_more_declarators, spell_declarators, ForFirst}
use Rattle.source_grammar.specs.Grammar.{declared_first, updated_first, spell_first, spell_optional, spell_updates, Core, Sub, Items}
use Rattle.source_grammar.specs.Grammar.{empty, block, if_alone, if_else, repeat, repeat_after, repeat_for, jumps, demands, calls}
use Rattle.source_grammar.specs.Grammar.{updates, labelled, plain, no_items, item, spell_core, spell_sub, spell_items, Parameter}
use Rattle.source_grammar.specs.Grammar.{number_parameter, pointer_parameter, array_parameter, spell_parameter, MoreParameters}
use Rattle.source_grammar.specs.Grammar.{last_parameter, next_parameter, Parameters, no_parameters, void_parameters, some_parameters}
use Rattle.source_grammar.specs.Grammar.{spell_more_parameters, spell_parameters, spell_specifiers, spell_function_name, Function}
use Rattle.source_grammar.specs.Grammar.{function, spell}
use Rattle.source_grammar.specs.Grammar as tree
use Rattle.source_tree.specs.Expressions.{Expression}
use Rattle.source_tree.specs.Expressions as operand
use Rattle.source_tree.specs.Statements.{Change, sets, evaluates, Statements}
use Rattle.lang_tree.specs.Tree.{nodes_in}
use Rattle.source_core.specs.Core.{change_deeds, core_in, core_of, taken_any}
use Rattle.source_tokens.specs.declared.definition.Definition.{Definition}
use Rattle.source_tokens.specs.Constants.{constant_at}
use Rattle.source_tokens.specs.Texts.{AreTokensIn}
use Rattle.source_tokens.specs.View.{bytes_of, kind_of, tokens_of, word_kind, sign_kind}
use Rattle.source_meaning.specs.declared.fault.FunctionFault.{FunctionFault}
use Rattle.source_meaning.specs.declared.fault.FunctionFault.TheVariants.{NameTwice, NoVariables}
use Rattle.source_meaning.specs.declared.fault.FunctionFault.TheVariants as fault
use Rattle.source_meaning.specs.declared.fault.Limit.TheVariants as limit
use Rattle.source_meaning.specs.Results.{◌>>=◌, provided}
use Rattle.source_meaning.specs.Names.{among}
use Rattle.source_meaning.specs.Names.{variable, array, constant, Thing, State, start_state, fresh, as_variable_again, with_variable}
use Rattle.source_meaning.specs.Names.{declared_number, as_array_again, fresh_array, as_called, thing_of}
use Rattle.source_meaning.specs.Arrays.{read_sizes, read_bounds}
use Rattle.source_meaning.specs.Limits.{counted, is_small, is_small_deed}
use Rattle.source_meaning.specs.Expressions.{read, read_arguments, read_values}
use Rattle.source_meaning.specs.Changes.{behind_change, changed, few, first_place, read_update}
use Rattle.source_meaning.specs.Statements.{new_label, jumped, prelude_of, demand_of, call_of, read_condition, read_declarator}
use Rattle.source_meaning.specs.Statements.{read_more_declarators, read_declarators}
use Rattle.source_meaning.specs.Statements.{read_more_updates, read_updates, read_first, read_test, read_evaluated, read_returned}
use Rattle.source_meaning.specs.Statements.{read_core, read_sub, read_items}
use Rattle.source_meaning.specs.Walk.{read_parameter, read_more_parameters, read_parameters, function_of, walk, width_of}
use Rattle.source_meaning.proofs.results.Values.{OnValue, on_bind, on_provided}
use Rattle.base_integers.specs.declared.integers.Integers.{Integers}

-- ---- names among tokens
-- a token that is a name is one of the language
abbrev KindNamed : Kind → Type 0
KindNamed (a_name x) = IsName x.text
KindNamed _ = Unit {0}

-- each of these tokens
abbrev pub AllNamed : List Token → Type 0
AllNamed [] = Unit {0}
AllNamed (token k a ∷ ts) = KindNamed k × AllNamed ts

split : (ts us : List Token) → AllNamed (ts ++ us) → AllNamed ts × AllNamed us
split [] us h = (tt, h)
split (token k a ∷ ts) us h = let both = split ts us h.1 in ((h.0, both.0), both.1)

word_named : (w : Word) → KindNamed (word_kind w)
word_named Auto = tt
word_named _ = tt

sign_named : (s : Sign) → KindNamed (sign_kind s)
sign_named LeftParen = tt
sign_named _ = tt

kind_named : (k : lex_kind.Kind) (bytes : List ℕ) (v : Option ℤ) → IsToken k bytes → KindNamed (kind_of bytes v k)
kind_named (kind.Word w) bytes v h = word_named w
kind_named kind.Name bytes v h = h
kind_named (kind.Number n) bytes v h = tt
kind_named (kind.Sign s) bytes v h = sign_named s
kind_named (kind.Foreign sort) bytes v h = tt
kind_named (kind.Aside aside) bytes v h = tt
kind_named kind.End bytes v h = tt

-- the names among the tokens of a text are names of the language
pub tokens_named : (definitions : List Definition) (text : List ℕ) (ts : List lex_token.Token) → AreTokensIn text ts
    → AllNamed (tokens_of definitions text ts)
tokens_named definitions text [] h = tt
tokens_named definitions text (t ∷ ts) h =
    let bytes = bytes_of text t in
    (kind_named t.kind bytes (constant_at definitions bytes t.at) h.0.is_token, tokens_named definitions text ts h.1)

-- ---- variables that were met
-- each is a name of the language
abbrev NamesKept : List (List ℕ) → Type 0
NamesKept [] = Unit {0}
NamesKept (x ∷ xs) = IsName x × NamesKept xs

-- each that was met is
abbrev Kept : State → Type 0
Kept st = NamesKept st.variables

-- the same of a state with something beside it
abbrev KeptWith : {A : Type 0} → State × A → Type 0
KeptWith r = NamesKept r.0.variables

abbrev Anything : {A : Type 0} → A → Type 0
Anything x = Unit {0}

anything : {A : Type 0} (r : Result A FunctionFault) → OnValue Anything r
anything (Ok x) = tt
anything (Err e) = tt

count_kept : (at more : ℕ) (st : State) → Kept st → OnValue Kept (counted at more st)
count_kept at more st h = on_provided Kept (nat_le (st.count + more) 4096) (fault.Limit at limit.Statements) _ (λ t. h)

provided_twice : {A : Type 0} (P : A → Type 0) (a b : Bool) (e f : FunctionFault) (x : A) → P x
    → OnValue P (provided a e x >>= λ x. provided b f x)
provided_twice P a b e f x h =
    on_bind P P (provided a e x) (λ y. provided b f y) (on_provided P a e x (λ t. h)) (λ y k. on_provided P b f y (λ t. k))

label_kept : (x : Name) (at : ℕ) (st : State) → Kept st → OnValue Kept (new_label x at st)
label_kept x at st h = by (list_any (λ y. bytes_eq x.text y) st.labels) where
  by : (b : Bool) → OnValue Kept (cond b (Err (NameTwice at)) (counted at 1 (record st { labels = x.text ∷ st.labels })))
  by true = tt
  by false = count_kept at 1 (record st { labels = x.text ∷ st.labels }) h

jump_kept : (inside : Bool) (at : ℕ) (st : State) → Kept st → OnValue Kept (jumped inside at st)
jump_kept true at st h = count_kept at 1 st h
jump_kept false at st h = tt

again_kept : (x : List ℕ) (at : ℕ) (st : State) → IsName x → Kept st → (before : Option Thing)
    → OnValue Kept (as_variable_again x at st before)
again_kept x at st n h None =
    on_provided Kept (nat_lt (length st.variables) MOST_VARIABLES) (fault.Limit at limit.Variables) _ (λ t. (n, h))
again_kept x at st n h (Some (variable i)) = h
again_kept x at st n h (Some (array extents)) = tt
again_kept x at st n h (Some (constant v)) = tt

variable_kept : (x : Name) (at : ℕ) (st : State) → IsName x.text → Kept st → OnValue Kept (with_variable x at st)
variable_kept x at st n h =
    on_bind (Anything {A = Option Thing}) Kept (fresh x at st) _ (anything (fresh x at st)) (λ before i. again_kept x.text at st n h before)

array_again_kept : (at : ℕ) (st : State) → Kept st → (before : Option Thing) → OnValue Kept (as_array_again at before st)
array_again_kept at st h None = h
array_again_kept at st h (Some (variable i)) = tt
array_again_kept at st h (Some (array extents)) = h
array_again_kept at st h (Some (constant v)) = tt

array_kept : (x : Name) (at : ℕ) (st : State) → Kept st → OnValue Kept (fresh_array x at st)
array_kept x at st h =
    on_bind (Anything {A = Option Thing}) Kept (fresh x at st) _ (anything (fresh x at st)) (λ before i. array_again_kept at st h before)

-- ---- walks
module _ (integers : Integers) (line : ℕ → ℕ) (n : ℕ) where
  abbrev Walks : Result (State × Statements) FunctionFault → Type 0
  Walks r = OnValue (KeptWith {A = Statements}) r

  then_kept : (r : Result (State × Statements) FunctionFault) (f : State × Statements → Result (State × Statements) FunctionFault) → Walks r
      → ((q : State × Statements) → Kept q.0 → Walks (f q)) → Walks (r >>= f)
  then_kept r f h g = on_bind (KeptWith {A = Statements}) (KeptWith {A = Statements}) r f h g

  -- a state that something follows
  now_kept : (r : Result State FunctionFault) (f : State → Result (State × Statements) FunctionFault) → OnValue Kept r
      → ((now : State) → Kept now → Walks (f now)) → Walks (r >>= f)
  now_kept r f h g = on_bind Kept (KeptWith {A = Statements}) r f h g

  -- something else that statements follow
  some_kept : {A : Type 0} (r : Result A FunctionFault) (f : A → Result (State × Statements) FunctionFault)
      → ((x : A) → Walks (f x)) → Walks (r >>= f)
  some_kept {A} r f g = on_bind (Anything {A = A}) (KeptWith {A = Statements}) r f (anything r) (λ x i. g x)

  few_kept : {A : Type 0} (P : A → Type 0) (l at : ℕ) (g : Change) (x : A) → P x → OnValue P (few integers n l at g x)
  few_kept P l at g x h = provided_twice P (nat_le (behind_change integers n l g) (n + MOST_HIDDEN))
      (list_all is_small_deed (change_deeds integers n g) && list_all is_small []) (fault.Limit at limit.Hidden)
      (fault.Limit at limit.Leaves) x h

  evaluated_kept : (at : ℕ) (g : Change) (st : State) → Kept st → Walks (read_evaluated integers line n st at g)
  evaluated_kept at g st h = now_kept (few integers n (line at) at g st) _ (few_kept Kept (line at) at g st h)
      (λ now k. now_kept (counted at (length (change_deeds integers n g)) now) _
      (count_kept at (length (change_deeds integers n g)) now k) (λ more l. l))

  declarator_kept : (d : Declarator) (st : State) → AllNamed (spell_declarator d) → Kept st → Walks (read_declarator integers line n st d)
  declarator_kept (declarator x at bare) st m h = now_kept (with_variable x at st) _ (variable_kept x at st m.0 h)
      (λ now k. let size = length (taken_any integers (declared_number now) (line at)) in
      now_kept (counted at size now) _ (count_kept at size now k) (λ more l. l))
  declarator_kept (declarator x at (given b e)) st m h = some_kept
      (read integers (line at) (among (spell_declarator (declarator x at (given b e))) st) e n) _
      (λ v. now_kept (with_variable x at st) _ (variable_kept x at st m.0 h)
      (λ now k. let g : Change = sets (declared_number now) v (line at) in
      now_kept (few integers n (line at) at g now) _ (few_kept Kept (line at) at g now k)
      (λ then l. now_kept (counted at (length (change_deeds integers n g)) then) _
      (count_kept at (length (change_deeds integers n g)) then l)
      (λ more i. i))))
  declarator_kept (declarator x at (sized zs)) st m h = now_kept (fresh_array x at st) _ (array_kept x at st h)
      (λ now k. some_kept (read_sizes now zs) _ (λ extents. k))
  declarator_kept (declarator x at (filled zs a b vs c)) st m h = now_kept (fresh_array x at st) _ (array_kept x at st h)
      (λ now k. some_kept (read_sizes now zs) _
      (λ extents. some_kept
      (read_values integers (line at) (among (spell_declarator (declarator x at (filled zs a b vs c))) now) vs n) _
      (λ es. then_kept (read_evaluated integers line n now at (evaluates es (line at))) _
      (evaluated_kept at (evaluates es (line at)) now k) (λ r l. l))))

  more_declarators_kept : (xs : MoreDeclarators) (st : State) → AllNamed (spell_more_declarators xs) → Kept st
      → Walks (read_more_declarators integers line n st xs)
  more_declarators_kept last_declarator st m h = h
  more_declarators_kept (next_declarator a x xs) st m h =
      let both = split (spell_declarator x) (spell_more_declarators xs) m.1 in
      then_kept (read_declarator integers line n st x) _ (declarator_kept x st both.0 h)
      (λ r k. then_kept (read_more_declarators integers line n r.0 xs) _ (more_declarators_kept xs r.0 both.1 k) (λ q l. l))

  declarators_kept : (xs : Declarators) (st : State) → AllNamed (spell_declarators xs) → Kept st
      → Walks (read_declarators integers line n st xs)
  declarators_kept (tree.declares x xs) st m h =
      let both = split (spell_declarator x) (spell_more_declarators xs) m in
      then_kept (read_declarator integers line n st x) _ (declarator_kept x st both.0 h)
      (λ r k. then_kept (read_more_declarators integers line n r.0 xs) _ (more_declarators_kept xs r.0 both.1 k) (λ q l. l))

  -- a change that is counted
  change_kept : (r : Result Change FunctionFault) (q : Change → Result Change FunctionFault) (at : ℕ) (more : Change → ℕ) (st : State)
      → Kept st → OnValue (KeptWith {A = Change}) (r >>= λ g. q g >>= λ g. counted at (more g) st >>= λ st. Ok (st, g))
  change_kept r q at more st h = on_bind (Anything {A = Change}) (KeptWith {A = Change}) r _ (anything r)
      (λ g i. on_bind (Anything {A = Change}) (KeptWith {A = Change}) (q g) _ (anything (q g))
      (λ g j. on_bind Kept (KeptWith {A = Change}) (counted at (more g) st) _ (count_kept at (more g) st h) (λ now k. k)))

  update_kept : (u : Update) (st : State) → Kept st → OnValue (KeptWith {A = Change}) (read_update integers line n st u)
  update_kept (update p f) st h = let at = first_place p in
      change_kept (changed integers n (line at) (among (spell_update (update p f)) st) p f) (λ g. few integers n (line at) at g g) at
      (λ g. length (change_deeds integers n g)) st h
  update_kept (step_before d at p) st h =
      change_kept (changed integers n (line at) (among (spell_update (step_before d at p)) st) p (steps d at))
      (λ g. few integers n (line at) at g g) at
      (λ g. length (change_deeds integers n g)) st h

  more_updates_kept : (us : MoreUpdates) (st : State) → Kept st
      → OnValue (KeptWith {A = List Change}) (read_more_updates integers line n st us)
  more_updates_kept last_update st h = h
  more_updates_kept (next_update a u us) st h =
      on_bind (KeptWith {A = Change}) (KeptWith {A = List Change}) (read_update integers line n st u) _ (update_kept u st h)
      (λ r k. on_bind (KeptWith {A = List Change}) (KeptWith {A = List Change}) (read_more_updates integers line n r.0 us) _
      (more_updates_kept us r.0 k) (λ q l. l))

  updates_kept : (us : Updates) (st : State) → Kept st → OnValue (KeptWith {A = List Change}) (read_updates integers line n st us)
  updates_kept no_updates st h = h
  updates_kept (some_updates u us) st h =
      on_bind (KeptWith {A = Change}) (KeptWith {A = List Change}) (read_update integers line n st u) _ (update_kept u st h)
      (λ r k. on_bind (KeptWith {A = List Change}) (KeptWith {A = List Change}) (read_more_updates integers line n r.0 us) _
      (more_updates_kept us r.0 k) (λ q l. l))

  first_kept : (f : ForFirst) (st : State) → AllNamed (spell_first f) → Kept st → Walks (read_first integers line n st f)
  first_kept (declared_first t xs) st m h = declarators_kept xs st (split (spell_type t) (spell_declarators xs) m).1 h
  first_kept (updated_first us) st m h =
      on_bind (KeptWith {A = List Change}) (KeptWith {A = Statements}) (read_updates integers line n st us) _ (updates_kept us st h)
      (λ r k. k)

  returned_kept : (at : ℕ) (t : Optional) (st : State) → Kept st → Walks (read_returned integers line n st at t)
  returned_kept at absent st h = h
  returned_kept at (present e) st h = some_kept (read integers (line at) (among (spell_expr e) st) e n) _
      (λ x. evaluated_kept at (evaluates (operand.more x operand.none) (line at)) st h)

  -- a statement under a condition that stands before it
  test_kept : (at : ℕ) (e : tree.Expr) (st : State) (size : Expression → ℕ)
      (f : Expression → State → Result (State × Statements) FunctionFault) → Kept st
      → ((x : Expression) (now : State) → Kept now → Walks (f x now))
      → Walks (read_condition integers line n st at e >>= λ x. counted at (size x) st >>= λ now. f x now)
  test_kept at e st size f h g =
      some_kept (read_condition integers line n st at e) _ (λ x. now_kept (counted at (size x) st) _ (count_kept at (size x) st h) (g x))

  mutual
    core_kept : (inside : Bool) (c : Core) (st : State) → AllNamed (spell_core c) → Kept st → Walks (read_core integers line n inside st c)
    core_kept inside (empty a) st m h = h
    core_kept inside (block a is b) st m h = then_kept (read_items integers line n inside st is) _
        (items_kept inside is st (split (spell_items is) (token right_brace b ∷ []) m.1).0 h)
        (λ r k. k)
    core_kept inside (if_alone a b e c s) st m h =
        let part = split (spell_expr e) (token right_paren c ∷ spell_sub s) m.1.1 in
        test_kept a e st (λ x. prelude_of integers line n a x + 1) _ h
        (λ x now k. then_kept (read_sub integers line n inside now s) _ (sub_kept inside s now part.1.1 k) (λ r l. l))
    core_kept inside (if_else a b e c s d t) st m h =
        let part = split (spell_expr e) (token right_paren c ∷ (spell_sub s ++ token else_word d ∷ spell_sub t)) m.1.1 in
        let both = split (spell_sub s) (token else_word d ∷ spell_sub t) part.1.1 in
        test_kept a e st (λ x. prelude_of integers line n a x + 1) _ h
        (λ x now k. then_kept (read_sub integers line n inside now s) _ (sub_kept inside s now both.0 k)
        (λ r l. then_kept (read_sub integers line n inside r.0 t) _ (sub_kept inside t r.0 both.1.1 l) (λ q i. i)))
    core_kept inside (repeat a b e c s) st m h =
        let part = split (spell_expr e) (token right_paren c ∷ spell_sub s) m.1.1 in
        test_kept a e st (λ x. prelude_of integers line n a x + 1) _ h
        (λ x now k. then_kept (read_sub integers line n true now s) _ (sub_kept true s now part.1.1 k) (λ r l. l))
    core_kept inside (repeat_after a s b c e d i) st m h =
        now_kept (counted a 1 st) _ (count_kept a 1 st h)
        (λ now k. then_kept (read_sub integers line n true now s) _ (sub_kept true s now (split (spell_sub s) _ m.1).0 k)
        (λ r l. some_kept (read_condition integers line n r.0 a e) _ (λ x. now_kept (counted a (prelude_of integers line n a x) r.0) _
        (count_kept a (prelude_of integers line n a x) r.0 l) (λ then j. j))))
    core_kept inside (repeat_for a b f c t d us i s) st m h =
        let one = split (spell_first f) (token semicolon c ∷ (spell_optional t ++ token semicolon d
        ∷ (spell_updates us ++ token right_paren i ∷ spell_sub s))) m.1.1 in
        let two = split (spell_optional t) (token semicolon d ∷ (spell_updates us ++ token right_paren i ∷ spell_sub s)) one.1.1 in
        let three = split (spell_updates us) (token right_paren i ∷ spell_sub s) two.1.1 in
        then_kept (read_first integers line n st f) _ (first_kept f st one.0 h)
        (λ r k. some_kept (read_test integers line n r.0 a t) _
        (λ x. now_kept (counted a (prelude_of integers line n a x + 1) r.0) _ (count_kept a (prelude_of integers line n a x + 1) r.0 k)
        (λ now l. on_bind (KeptWith {A = List Change}) (KeptWith {A = Statements}) (read_updates integers line n now us) _
        (updates_kept us now l)
        (λ u j. then_kept (read_sub integers line n true u.0 s) _ (sub_kept true s u.0 three.1.1 j)
        (λ q o. o)))))
    core_kept inside (jumps j a b) st m h = now_kept (jumped inside a st) _ (jump_kept inside a st h) (λ now k. k)
    core_kept inside (tree.returns a t b) st m h = then_kept (read_returned integers line n st a t) _ (returned_kept a t st h)
        (λ r k. now_kept (counted a 1 r.0) _ (count_kept a 1 r.0 k) (λ now l. l))
    core_kept inside (demands k a b e c d) st m h =
        some_kept (read_condition integers line n st a e) _ (λ x. let size = nodes_in (core_of integers n (demand_of k x a (line a))) in
        now_kept (counted a size st) _ (count_kept a size st h) (λ now l. l))
    core_kept inside (calls x a b es c d) st m h =
        let size = nodes_in (core_in integers n (call_of x a (line a))) in
        some_kept (as_called a (thing_of x st) es) _
        (λ es. some_kept (read_arguments integers (line a) (among (spell_expr (tree.call x a b es c)) st) es n) _
        (λ es. then_kept (read_evaluated integers line n st a (evaluates es (line a))) _ (evaluated_kept a (evaluates es (line a)) st h)
        (λ r k. now_kept (counted a size r.0) _ (count_kept a size r.0 k) (λ now l. l))))
    core_kept inside (updates u c) st m h =
        on_bind (KeptWith {A = Change}) (KeptWith {A = Statements}) (read_update integers line n st u) _ (update_kept u st h) (λ r k. k)

    sub_kept : (inside : Bool) (s : Sub) (st : State) → AllNamed (spell_sub s) → Kept st → Walks (read_sub integers line n inside st s)
    sub_kept inside (labelled x a b s) st m h = now_kept (new_label x a st) _ (label_kept x a st h)
        (λ now k. then_kept (read_sub integers line n inside now s) _ (sub_kept inside s now m.1.1 k) (λ r l. l))
    sub_kept inside (plain c) st m h = core_kept inside c st m h

    items_kept : (inside : Bool) (is : Items) (st : State) → AllNamed (spell_items is) → Kept st
        → Walks (read_items integers line n inside st is)
    items_kept inside no_items st m h = h
    items_kept inside (tree.label x a b is) st m h = now_kept (new_label x a st) _ (label_kept x a st h)
        (λ now k. then_kept (read_items integers line n inside now is) _ (items_kept inside is now m.1.1 k) (λ r l. l))
    items_kept inside (tree.declaration t xs b is) st m h =
        let behind = split (spell_type t) (spell_declarators xs ++ token semicolon b ∷ spell_items is) m in
        let both = split (spell_declarators xs) (token semicolon b ∷ spell_items is) behind.1 in
        then_kept (read_declarators integers line n st xs) _ (declarators_kept xs st both.0 h)
        (λ r k. then_kept (read_items integers line n inside r.0 is) _ (items_kept inside is r.0 both.1.1 k) (λ q l. l))
    items_kept inside (item c is) st m h =
        let both = split (spell_core c) (spell_items is) m in
        then_kept (read_core integers line n inside st c) _ (core_kept inside c st both.0 h)
        (λ r k. then_kept (read_items integers line n inside r.0 is) _ (items_kept inside is r.0 both.1 k) (λ q l. l))

module _ (integers : Integers) (line : ℕ → ℕ) where
  parameter_kept : (p : Parameter) (st : State) → AllNamed (spell_parameter p) → Kept st
      → Walks integers line 0 (read_parameter integers line st p)
  parameter_kept (number_parameter t x at) st m h =
      now_kept integers line 0 (with_variable x at st) _ (variable_kept x at st (split (spell_type t) (token (a_name x) at ∷ []) m).1.0 h)
      (λ now k. let size = length (taken_any integers (declared_number now) (line at)) in
      now_kept integers line 0 (counted at size now) _ (count_kept at size now k) (λ more l. l))
  parameter_kept (pointer_parameter t a x at) st m h =
      now_kept integers line 0 (fresh_array x at st) _ (array_kept x at st h) (λ now k. k)
  parameter_kept (array_parameter t x at bs) st m h =
      now_kept integers line 0 (fresh_array x at st) _ (array_kept x at st h)
      (λ now k. some_kept integers line 0 (read_bounds now bs) _ (λ extents. k))

  more_parameters_kept : (ps : MoreParameters) (st : State) → AllNamed (spell_more_parameters ps) → Kept st
      → Walks integers line 0 (read_more_parameters integers line st ps)
  more_parameters_kept last_parameter st m h = h
  more_parameters_kept (next_parameter a p ps) st m h =
      let both = split (spell_parameter p) (spell_more_parameters ps) m.1 in
      then_kept integers line 0 (read_parameter integers line st p) _ (parameter_kept p st both.0 h)
      (λ r k. then_kept integers line 0 (read_more_parameters integers line r.0 ps) _ (more_parameters_kept ps r.0 both.1 k) (λ q l. l))

  parameters_kept : (ps : Parameters) (st : State) → AllNamed (spell_parameters ps) → Kept st
      → Walks integers line 0 (read_parameters integers line st ps)
  parameters_kept no_parameters st m h = h
  parameters_kept (void_parameters a) st m h = h
  parameters_kept (some_parameters p ps) st m h =
      let both = split (spell_parameter p) (spell_more_parameters ps) m in
      then_kept integers line 0 (read_parameter integers line st p) _ (parameter_kept p st both.0 h)
      (λ r k. then_kept integers line 0 (read_more_parameters integers line r.0 ps) _ (more_parameters_kept ps r.0 both.1 k) (λ q l. l))

-- ---- functions
-- the variables in order of declaration
variables_named : (xs : List (List ℕ)) → NamesKept xs → All IsName (reverse xs)
variables_named [] h = All-nil IsName
variables_named (x ∷ xs) h =
    subst (All IsName) (sym (reverse_onto xs x [])) (All-push IsName (reverse xs) x (variables_named xs h.1) h.0)

-- the variables of what is read are names
abbrev pub AreNamed : List (List ℕ) × Statements → Type 0
AreNamed r = All IsName r.0

function_named : (integers : Integers) (line : ℕ → ℕ) (st : State) (body : Statements) → Kept st
    → OnValue AreNamed (function_of integers line st body)
function_named integers line st body h = by (reverse st.variables) (variables_named st.variables h) where
  by : (xs : List (List ℕ)) → All IsName xs → OnValue AreNamed (elim xs as (λ z. Result (List (List ℕ) × Statements) FunctionFault)
      [ [] ↦ Err NoVariables | x ∷ xs ↦ Ok (x ∷ xs, body) ])
  by [] k = tt
  by (x ∷ xs) k = k

-- each variable of a function is a name of the language, where each name among its tokens is
pub walk_named : (integers : Integers) (line : ℕ → ℕ) (f : Function) → AllNamed (spell f) → OnValue AreNamed (walk integers line f)
walk_named integers line (function ss f a ps b c is d) m =
    let n = width_of (function ss f a ps b c is d) in
    let rest = token right_paren b ∷ token left_brace c ∷ (spell_items is ++ token right_brace d ∷ []) in
    let head = split (spell_specifiers ss) (spell_function_name f ++ token left_paren a ∷ (spell_parameters ps ++ rest)) m in
    let behind = split (spell_function_name f) (token left_paren a ∷ (spell_parameters ps ++ rest)) head.1 in
    let front = split (spell_parameters ps) rest behind.1.1 in
    let body = split (spell_items is) (token right_brace d ∷ []) front.1.1.1 in
    on_bind (KeptWith {A = Statements}) AreNamed (read_parameters integers line start_state ps) _
    (parameters_kept integers line ps start_state front.0 tt)
    (λ p h. on_bind (KeptWith {A = Statements}) AreNamed (read_items integers line n false p.0 is) _
    (items_kept integers line n false is p.0 body.0 h)
    (λ r k. function_named integers line r.0 _ k))
