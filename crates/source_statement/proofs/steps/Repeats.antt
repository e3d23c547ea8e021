-- `do` and `for` that were read, from their parts.
use Rattle.std.proofs.Common.{◌≡◌, ◌∙◌, ◌+◌, ◌++◌, ◌∷◌, [], ℕ, Bool, true, List, Result, Ok, Err, length, refl, sym, ap, subst}
use Rattle.std.specs.Result.{IsErrAnd}
use Rattle.lang_tokens.specs.Lines.{line_at}
use Rattle.lang_tree.specs.Tree as tree
use Rattle.lang_tree.specs.View as view
use Rattle.lang_tree.specs.View.{deeds_of, statements_of, statement_of}
use Rattle.lang_tree.specs.declared.stmt.Stmt.{Stmt}
use Rattle.source_grammar.specs.Tokens.{Token, token, left_paren, right_paren, semicolon, while_word}
use Rattle.source_grammar.specs.Grammar.{Expr, Groups, spell_expr, Sub, GoodSub, ending_sub, repeat_after}
use Rattle.source_grammar.specs.Grammar.{repeat_for, ForFirst, Optional, Updates, GoodFirst, GoodOptional, GoodUpdates}
use Rattle.source_grammar.proofs.grammar.Follow.{AfterCore}
use Rattle.source_tree.specs.Expressions.{Expression}
use Rattle.source_tree.specs.Statements.{Change, Statements, LoopKind, loop}
use Rattle.source_tree.specs.Statements as made
use Rattle.source_core.specs.Core as core
use Rattle.source_core.specs.Core.{condition_of, core_in}
use Rattle.source_meaning.specs.declared.fault.FunctionFault.{FunctionFault}
use Rattle.source_meaning.specs.Results.{◌>>=◌}
use Rattle.source_meaning.specs.Names.{State, closed}
use Rattle.source_meaning.specs.Limits.{counted}
use Rattle.source_meaning.specs.Statements.{followed_by, read_condition, prelude_of, read_sub, read_core, read_first, read_test}
use Rattle.source_meaning.specs.Statements.{read_updates, one}
use Rattle.source_names.specs.Gives.{Gives}
use Rattle.source_reader.specs.Answers.{Answers}
use Rattle.source_reader.specs.Reading.{Reading, at_tokens, first_kind, passed}
use Rattle.source_reader.specs.declared.stop.Stop.{Stop}
use Rattle.source_change.specs.Tests.{WasRead}
use Rattle.source_change.specs.Pushed.{WasPushed}
use Rattle.source_change.specs.declared.conditions.Test.{Test}
use Rattle.source_change.specs.Onto.{onto_updates}
use Rattle.source_change.proofs.lists.Deeds.{followed_assoc}
use Rattle.source_change.proofs.lists.Statements.{core_followed}
use Rattle.source_change.proofs.results.Answered.{err_then, given_then, ok_then, weaker}
use Rattle.source_change.proofs.results.Binds.{bind_left}
use Rattle.source_statement.specs.Headed.{WasHeaded}
use Rattle.source_statement.specs.declared.head.Head.{Head}
use Rattle.source_statement.specs.Onto.{onto_sub, onto_first, onto_optional}
use Rattle.source_statement.specs.Parts.{read_head}
use Rattle.source_statement.proofs.steps.Moved.{BodyReads, body_read, TestReads, test_read}
use Rattle.source_statement.proofs.steps.Moved.{may_end, passed_then}
use Rattle.source_statement.proofs.steps.Tested.{counted_then, loop_made}
use Rattle.source_statement.proofs.steps.Loops.{Blocks}
use Rattle.base_integers.specs.declared.integers.Integers.{Integers}

-- ---- `do`
-- what stands behind its body
abbrev pub do_rest : (b c : ℕ) (e : Expr) (d i : ℕ) → List Token → List Token
do_rest b c e d i rest = token while_word b ∷ token left_paren c ∷ (spell_expr e ++ token right_paren d ∷ token semicolon i ∷ rest)

-- the fault of its body
pub do_body_fault : {C : Type 0} (Was : C → State × Statements → Type 0) (old here new : Reading) (k now met : State) (inside : Bool)
    (a : ℕ)
    (s : Sub) (b c : ℕ) (e : Expr) (d i : ℕ) (rest : List Token) (r : Result C Stop) (x : Stop)
    → GoodSub s → here ≡ at_tokens old (onto_sub s (do_rest b c e d i rest))
    → Gives {A = Unit {0}} (λ _. now) (Ok tt) (counted a 1 k) → BodyReads here new now met true (Err x) → IsErrAnd r (λ t. t ≡ x)
    → Answers Was r (read_core old.integers (line_at old.text) old.variables inside k (repeat_after a s b c e d i))
do_body_fault Was old here new k now met inside a s b c e d i rest r x g p y z h =
    let integers : Integers = old.integers in
    let line : ℕ → ℕ = line_at old.text in
    let n : ℕ = old.variables in
    let f : State × Statements → Result (State × Statements) FunctionFault = λ r. read_condition integers line n r.0 a e
    >>= λ x. counted a (prelude_of integers line n a x) r.0 >>= λ now. Ok (now, one (loop made.do_loop x r.1 (line a))) in
    given_then {A = Unit {0}} (λ _. now) Was tt r (counted a 1 k) (λ now. read_sub integers line n true now s >>= f) y
    (err_then (Blocks old new (do_rest b c e d i rest) met) Was r x (read_sub integers line n true now s) f h
    (body_read old here new now met true (Err x) s (do_rest b c e d i rest) g p
    (may_end (ending_sub s) while_word refl) z))

-- what comes behind its body
pub do_then : {C : Type 0} (Was : C → State × Statements → Type 0) (old here mid : Reading) (k now met : State) (inside : Bool) (a : ℕ)
    (s : Sub) (b c : ℕ) (e : Expr) (d i : ℕ) (rest : List Token) (u : tree.Statements) (r : Result C Stop)
    → GoodSub s → here ≡ at_tokens old (onto_sub s (do_rest b c e d i rest))
    → Gives {A = Unit {0}} (λ _. now) (Ok tt) (counted a 1 k) → BodyReads here mid now met true (Ok u)
    → ((body : Statements) → u ≡ core_in old.integers old.variables body → mid ≡ at_tokens old (do_rest b c e d i rest)
    → Answers Was r (read_condition old.integers (line_at old.text) old.variables met a e
    >>= λ x. counted a (prelude_of old.integers (line_at old.text) old.variables a x) met
    >>= λ now. Ok (now, one (loop made.do_loop x body (line_at old.text a)))))
    → Answers Was r (read_core old.integers (line_at old.text) old.variables inside k (repeat_after a s b c e d i))
do_then Was old here mid k now met inside a s b c e d i rest u r g p y z h =
    let integers : Integers = old.integers in
    let line : ℕ → ℕ = line_at old.text in
    let n : ℕ = old.variables in
    let f : State × Statements → Result (State × Statements) FunctionFault = λ r. read_condition integers line n r.0 a e
    >>= λ x. counted a (prelude_of integers line n a x) r.0 >>= λ now. Ok (now, one (loop made.do_loop x r.1 (line a))) in
    given_then {A = Unit {0}} (λ _. now) Was tt r (counted a 1 k) (λ now. read_sub integers line n true now s >>= f) y
    (ok_then (Blocks old mid (do_rest b c e d i rest) met) Was u r (read_sub integers line n true now s) f
    (body_read old here mid now met true (Ok u) s (do_rest b c e d i rest) g p (may_end (ending_sub s) while_word refl) z)
    (λ q w. let P : State → Type 0 = λ m. Answers Was r (read_condition integers line n m a e
    >>= λ x. counted a (prelude_of integers line n a x) m >>= λ now. Ok (now, one (loop made.do_loop x q.1 (line a)))) in
    subst P w.known (h q.1 w.block w.reader)))

-- all of it
pub do_read : (old here mid behind test new : Reading) (k now met last : State) (inside : Bool) (a : ℕ)
    (s : Sub) (b c : ℕ) (e : Expr) (d i : ℕ) (rest : List Token) (t : Test) (u : tree.Statements) (o p : List Stmt) (st : Stmt) (l : ℕ)
    (deeds : tree.LoopKind)
    → GoodSub s → Groups 0 e → here ≡ at_tokens old (onto_sub s (do_rest b c e d i rest))
    → Gives {A = Unit {0}} (λ _. now) (Ok tt) (counted a 1 k) → BodyReads here mid now met true (Ok u)
    → behind ≡ passed mid → TestReads behind test met a (Ok t) → new ≡ passed test
    → Gives {A = Unit {0}} (λ _. last) (Ok tt) (counted a (length t.prelude.items) met)
    → p ≡ o ++ (st ∷ []) → statement_of st ≡ tree.loop deeds (view.condition_of t.cond) u l
    → deeds ≡ tree.do_loop (deeds_of t.prelude.items) → l ≡ line_at new.text a
    → Answers {A = Unit {0}} (λ _ r. WasRead old.integers old.variables rest old new last o p r) (Ok tt)
    (read_core old.integers (line_at old.text) old.variables inside k (repeat_after a s b c e d i))
do_read old here mid behind test new k now met last inside a s b c e d i rest t u o p st l deeds g ge ph y z pb zt pn y' v m dd j =
    let integers : Integers = old.integers in
    let line : ℕ → ℕ = line_at old.text in
    let n : ℕ = old.variables in
    let ts : List Token = token semicolon i ∷ rest in
    do_then {C = Unit {0}} (λ _ r. WasRead integers n rest old new last o p r) old here mid k now met inside a s b c e d i rest u
    (Ok tt) g ph y z
    (λ body w r. let q : behind ≡ at_tokens old (token left_paren c ∷ (spell_expr e ++ token right_paren d ∷ ts)) =
    passed_then old mid behind while_word b (token left_paren c ∷ (spell_expr e ++ token right_paren d ∷ ts)) r pb in
    counted_then integers line n {C = Unit {0}} (λ _ r. WasRead integers n rest old new last o p r) (test ≡ at_tokens old ts) a
    (λ m. m) met last e t (Ok tt)
    (λ x now. Ok (now, one (loop made.do_loop x body (line a)))) (test_read old behind test met a (Ok t) c e d ts ge q zt) y'
    (λ x i' r'. let f : new ≡ at_tokens old rest = passed_then old test new semicolon i rest r' pn in (
      (last, one (loop made.do_loop x body (line a))),
      refl,
      record {
        known = refl;
        out = loop_made integers n (line a) l made.do_loop deeds x t u body st o p v m (dd ∙ ap tree.do_loop i'.prelude) i' w
            (j ∙ ap (λ (r : Reading). line_at r.text a) f);
        reader = f;
      },
    )))

-- ---- `for`
-- its head is read here
abbrev pub HeadReads : (here new : Reading) (k met : State) (at : ℕ) (before after : List Stmt) → Result Head Stop → Type 0
HeadReads here new k met at o p r = (b : ℕ) (f : ForFirst) (c : ℕ) (t : Optional) (d : ℕ) (us : Updates) (i : ℕ) (rest : List Token)
    → GoodFirst f → GoodOptional t → GoodUpdates us
    → here.ahead ≡ token left_paren b ∷ onto_first f (token semicolon c ∷ onto_optional t (token semicolon d
    ∷ onto_updates us (token right_paren i ∷ rest)))
    → Answers (λ h r. WasHeaded here.integers here.variables (line_at here.text at) rest here new met o p h r) r
    (read_head here.integers (line_at here.text) here.variables k at f t us)

-- what stands in a head, before its body
abbrev pub head_rest : (b : ℕ) (f : ForFirst) (c : ℕ) (t : Optional) (d : ℕ) (us : Updates) (i : ℕ) → List Token → List Token
head_rest b f c t d us i rest = token left_paren b ∷ onto_first f (token semicolon c ∷ onto_optional t (token semicolon d
    ∷ onto_updates us (token right_paren i ∷ rest)))

-- a head was read
abbrev pub Heads : (old new : Reading) (at : ℕ) → List Token → State → (before after : List Stmt) → Head
    → State × Statements × Expression × List Change → Type 0
Heads old new at rest met o p h r = WasHeaded old.integers old.variables (line_at old.text at) rest old new met o p h r

-- it is read of the same text
pub head_read : (old here new : Reading) (k met : State) (at : ℕ) (o p : List Stmt) (r : Result Head Stop)
    (b : ℕ) (f : ForFirst) (c : ℕ) (t : Optional) (d : ℕ) (us : Updates) (i : ℕ) (rest : List Token)
    → GoodFirst f → GoodOptional t → GoodUpdates us → here ≡ at_tokens old (head_rest b f c t d us i rest)
    → HeadReads here new k met at o p r
    → Answers (Heads old new at rest met o p) r (read_head old.integers (line_at old.text) old.variables k at f t us)
head_read old here new k met at o p r b f c t d us i rest gf gt gu e h =
    let P : Reading → Type 0 = λ m. HeadReads m new k met at o p r in
    weaker (Heads (at_tokens old (head_rest b f c t d us i rest)) new at rest met o p) (Heads old new at rest met o p) r
    (read_head old.integers (line_at old.text) old.variables k at f t us)
    (λ h q w. record { known = w.known; out = w.out; test = w.test; change = w.change; reader = w.reader })
    (subst P e h b f c t d us i rest gf gt gu refl)

-- what a head and a body make
abbrev pub for_made : (integers : Integers) (line : ℕ → ℕ) (n : ℕ) (k : State) (at : ℕ) → Sub
    → State × Statements × Expression × List Change
    → Result (State × Statements) FunctionFault
for_made integers line n k at s h = read_sub integers line n true h.0 s
    >>= λ q. Ok (closed (length k.names) q.0, followed_by h.1 (one (loop (made.for_loop h.3) h.2 q.1 (line at))))

-- a `for` is its head and then its body
pub for_parts : (integers : Integers) (line : ℕ → ℕ) (n : ℕ) (inside : Bool) (k : State) (a b : ℕ) (f : ForFirst) (c : ℕ) (t : Optional)
    (d : ℕ) (us : Updates)
    (i : ℕ) (s : Sub)
    → (read_head integers line n k a f t us >>= λ h. for_made integers line n k a s h) ≡ read_core integers line n inside k
    (repeat_for a b f c t d us i s)
for_parts integers line n inside k a b f c t d us i s =
    let Head : Type 0 = State × Statements × Expression × List Change in
    let g : Head → Result (State × Statements) FunctionFault = λ h. for_made integers line n k a s h in
    let f₃ : State × Statements → Expression → State → Result Head FunctionFault =
    λ r x now. read_updates integers line n now us >>= λ u. Ok (u.0, r.1, x, u.1) in
    let h₃ : State × Statements → Expression → State → Result (State × Statements) FunctionFault =
    λ r x now. read_updates integers line n now us >>= λ u. for_made integers line n k a s (u.0, r.1, x, u.1) in
    let f₂ : State × Statements → Expression → Result Head FunctionFault =
    λ r x. counted a (prelude_of integers line n a x + 1) r.0 >>= λ now. f₃ r x now in
    let h₂ : State × Statements → Expression → Result (State × Statements) FunctionFault =
    λ r x. counted a (prelude_of integers line n a x + 1) r.0 >>= λ now. h₃ r x now in
    let f₁ : State × Statements → Result Head FunctionFault = λ r. read_test integers line n r.0 a t >>= λ x. f₂ r x in
    let h₁ : State × Statements → Result (State × Statements) FunctionFault = λ r. read_test integers line n r.0 a t >>= λ x. h₂ r x in
    bind_left (read_first integers line n k f) f₁ g h₁
    (λ r. bind_left (read_test integers line n r.0 a t) (f₂ r) g (h₂ r)
    (λ x. bind_left (counted a (prelude_of integers line n a x + 1) r.0) (f₃ r x) g (h₃ r x)
    (λ now. bind_left (read_updates integers line n now us) (λ u. Ok (u.0, r.1, x, u.1)) g (λ u. for_made integers line n k a s
    (u.0, r.1, x, u.1))
    (λ u. refl))))

-- the fault of its head
pub for_head_fault : {C : Type 0} (Was : C → State × Statements → Type 0) (old here new : Reading) (k met : State) (inside : Bool)
    (o p : List Stmt) (a b : ℕ) (f : ForFirst) (c : ℕ) (t : Optional) (d : ℕ) (us : Updates) (i : ℕ) (s : Sub) (rest : List Token)
    (r : Result C Stop) (x : Stop) → GoodFirst f → GoodOptional t → GoodUpdates us
    → here ≡ at_tokens old (head_rest b f c t d us i (onto_sub s rest)) → HeadReads here new k met a o p (Err x) → IsErrAnd r (λ t. t ≡ x)
    → Answers Was r (read_core old.integers (line_at old.text) old.variables inside k (repeat_for a b f c t d us i s))
for_head_fault Was old here new k met inside o p a b f c t d us i s rest r x gf gt gu e z h =
    let integers : Integers = old.integers in
    let line : ℕ → ℕ = line_at old.text in
    let n : ℕ = old.variables in
    let P : Result (State × Statements) FunctionFault → Type 0 = λ w. Answers Was r w in
    subst P (for_parts integers line n inside k a b f c t d us i s) (err_then (Heads old new a (onto_sub s rest) met o p) Was r x
    (read_head integers line n k a f t us) (λ h. for_made integers line n k a s h) h
    (head_read old here new k met a o p (Err x) b f c t d us i (onto_sub s rest) gf gt gu e z))

-- what comes behind its head
pub for_then : {C : Type 0} (Was : C → State × Statements → Type 0) (old here mid : Reading) (k met : State) (inside : Bool)
    (o p : List Stmt) (a b : ℕ) (f : ForFirst) (c : ℕ) (t : Optional) (d : ℕ) (us : Updates) (i : ℕ) (s : Sub) (rest : List Token)
    (r : Result C Stop) (x : Head) → GoodFirst f → GoodOptional t → GoodUpdates us
    → here ≡ at_tokens old (head_rest b f c t d us i (onto_sub s rest)) → HeadReads here mid k met a o p (Ok x)
    → ((q : State × Statements × Expression × List Change) → Heads old mid a (onto_sub s rest) met o p x q
    → Answers Was r (for_made old.integers (line_at old.text) old.variables k a s q))
    → Answers Was r (read_core old.integers (line_at old.text) old.variables inside k (repeat_for a b f c t d us i s))
for_then Was old here mid k met inside o p a b f c t d us i s rest r x gf gt gu e z h =
    let integers : Integers = old.integers in
    let line : ℕ → ℕ = line_at old.text in
    let n : ℕ = old.variables in
    let P : Result (State × Statements) FunctionFault → Type 0 = λ w. Answers Was r w in
    subst P (for_parts integers line n inside k a b f c t d us i s) (ok_then (Heads old mid a (onto_sub s rest) met o p) Was x r
    (read_head integers line n k a f t us) (λ h. for_made integers line n k a s h)
    (head_read old here mid k met a o p (Ok x) b f c t d us i (onto_sub s rest) gf gt gu e z) h)

-- the fault of its body
pub for_body_fault : {C : Type 0} (Was : C → State × Statements → Type 0) (old here mid new : Reading) (k met last : State) (inside : Bool)
    (o p : List Stmt) (a b : ℕ) (f : ForFirst) (c : ℕ) (t : Optional) (d : ℕ) (us : Updates) (i : ℕ) (s : Sub) (rest : List Token)
    (r : Result C Stop) (x : Head) (y : Stop) → GoodFirst f → GoodOptional t → GoodUpdates us → GoodSub s
    → AfterCore (ending_sub s) (first_kind rest)
    → here ≡ at_tokens old (head_rest b f c t d us i (onto_sub s rest)) → HeadReads here mid k met a o p (Ok x)
    → BodyReads mid new met last true (Err y) → IsErrAnd r (λ t. t ≡ y)
    → Answers Was r (read_core old.integers (line_at old.text) old.variables inside k (repeat_for a b f c t d us i s))
for_body_fault Was old here mid new k met last inside o p a b f c t d us i s rest r x y gf gt gu gs af e z z' h =
    let integers : Integers = old.integers in
    let line : ℕ → ℕ = line_at old.text in
    let n : ℕ = old.variables in
    for_then Was old here mid k met inside o p a b f c t d us i s rest r x gf gt gu e z
    (λ q w. let P : State → Type 0 = λ m. Answers (Blocks old new rest last) (Err y) (read_sub integers line n true m s) in
    err_then (Blocks old new rest last) Was r y (read_sub integers line n true q.0 s)
    (λ v. Ok (closed (length k.names) v.0, followed_by q.1 (one (loop (made.for_loop q.3) q.2 v.1 (line a))))) h
    (subst P w.known (body_read old mid new met last true (Err y) s rest gs w.reader af z')))

-- all of it
pub for_read : (old here mid new : Reading) (k met last final : State) (inside : Bool)
    (o p p' : List Stmt) (a b : ℕ) (f : ForFirst) (c : ℕ) (t : Optional) (d : ℕ) (us : Updates) (i : ℕ) (s : Sub) (rest : List Token)
    (x : Head) (u : tree.Statements) (st : Stmt) (l before : ℕ) (deeds : tree.LoopKind)
    → GoodFirst f → GoodOptional t → GoodUpdates us → GoodSub s
    → AfterCore (ending_sub s) (first_kind rest)
    → here ≡ at_tokens old (head_rest b f c t d us i (onto_sub s rest)) → HeadReads here mid k met a o p (Ok x)
    → BodyReads mid new met last true (Ok u) → before ≡ length k.names → final ≡ closed before last
    → p' ≡ p ++ (st ∷ []) → statement_of st ≡ tree.loop deeds (view.condition_of x.test.cond) u l
    → deeds ≡ tree.for_loop (deeds_of x.test.prelude.items) (deeds_of x.change.items) → l ≡ line_at new.text a
    → Answers {A = Unit {0}} (λ _ r. WasRead old.integers old.variables rest old new final o p' r) (Ok tt)
    (read_core old.integers (line_at old.text) old.variables inside k (repeat_for a b f c t d us i s))
for_read old here mid new k met last final inside o p p' a b f c t d us i s rest x u st l before deeds gf gt gu gs af e z z' eb ef v m
    dd j =
    let integers : Integers = old.integers in
    let line : ℕ → ℕ = line_at old.text in
    let n : ℕ = old.variables in
    for_then {C = Unit {0}} (λ _ r. WasRead integers n rest old new final o p' r) old here mid k met inside o p a b f c t d us i s rest
    (Ok tt) x
    gf gt gu e z
    (λ q w. let P : State → Type 0 = λ m. Answers (Blocks old new rest last) (Ok u) (read_sub integers line n true m s) in
    ok_then {C = Unit {0}} (Blocks old new rest last) (λ _ r. WasRead integers n rest old new final o p' r) u (Ok tt)
    (read_sub integers line n true q.0 s)
    (λ v. Ok (closed (length k.names) v.0, followed_by q.1 (one (loop (made.for_loop q.3) q.2 v.1 (line a)))))
    (subst P w.known (body_read old mid new met last true (Ok u) s rest gs w.reader af z'))
    (λ q' w'. let kind : LoopKind = made.for_loop q.3 in
    let all : WasPushed integers n p p' (one (loop kind q.2 q'.1 (line a))) = loop_made integers n
    (line a) l kind deeds q.2 x.test u q'.1 st p p' v m
    (dd ∙ ap (λ ds. tree.for_loop ds (deeds_of x.change.items)) w.test.prelude
    ∙ ap (tree.for_loop (condition_of integers n (line a) q.2).prelude) w.change) w.test w'.block
    (j ∙ ap (λ (r : Reading). line_at r.text a) w'.reader) in (
      (closed (length k.names) q'.0, followed_by q.1 (one (loop kind q.2 q'.1 (line a)))),
      refl,
      record {
        known = ef ∙ ap (λ b. closed b last) eb ∙ ap (closed (length k.names)) w'.known;
        out = all ∙ ap (λ ss. core.followed_by ss (core_in integers n (one (loop kind q.2 q'.1 (line a))))) w.out
            ∙ followed_assoc (statements_of o) (core_in integers n q.1) (core_in integers n (one (loop kind q.2 q'.1 (line a))))
            ∙ sym (ap (core.followed_by (statements_of o)) (core_followed integers n q.1 (one (loop kind q.2 q'.1 (line a)))));
        reader = w'.reader;
      },
    )))
