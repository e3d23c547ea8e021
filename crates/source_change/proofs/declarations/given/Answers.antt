use Rattle.std.proofs.Common.{◌≡◌, ◌∙◌, [], ◌∷◌, ◌++◌, ℕ, Bool, true, false, List, Result, Ok, length, refl, sym, ap, ap₂, subst}
use Rattle.std.specs.declared.alloc.Global.{Global}
use Rattle.std.specs.declared.vec.Vec.{Vec}
use Rattle.lang_tokens.specs.Lines.{line_at}
use Rattle.lang_tree.specs.Tree as tree
use Rattle.lang_tree.specs.View.{statements_of}
use Rattle.lang_tree.specs.declared.deed.Deed as code_deed
use Rattle.source_grammar.specs.Tokens.{Name, Token, token, change_sign, replaces}
use Rattle.source_grammar.specs.Grammar.{Expr, spell_expr, given, declarator, spell_declarator}
use Rattle.source_grammar.proofs.grammar.Follow.{part_expr}
use Rattle.source_tree.specs.Statements.{Change, Statements, sets, changes}
use Rattle.source_core.specs.Core.{behind, change_deeds, followed_by}
use Rattle.source_meaning.specs.declared.fault.FunctionFault.{FunctionFault}
use Rattle.source_meaning.specs.Results.{◌>>=◌, provided}
use Rattle.source_meaning.specs.Names.{State, among, with_variable, declared_number}
use Rattle.std.specs.Prelude.{◌+◌, ◌&&◌, nat_le}
use Rattle.std.specs.List.{list_all}
use Rattle.lang_tree.specs.declared.limits.TheConstants.{MOST_HIDDEN}
use Rattle.source_meaning.specs.declared.fault.FunctionFault.TheVariants as fault
use Rattle.source_meaning.specs.declared.fault.Limit.TheVariants as limit
use Rattle.source_meaning.specs.Limits.{counted, is_small_deed, limited}
use Rattle.source_meaning.specs.Expressions.{read}
use Rattle.source_meaning.specs.Changes.{behind_change, few}
use Rattle.source_meaning.specs.Statements.{one, read_declarator}
use Rattle.source_value.specs.declared.value.Value.{Value}
use Rattle.source_reader.specs.Answers.{Answers}
use Rattle.source_reader.specs.declared.stop.Stop.{Stop}
use Rattle.source_reader.specs.Reading.{Reading, at_tokens, first_kind, passed}
use Rattle.source_expression.specs.Sides.{IsRead}
use Rattle.source_change.specs.Changed.{counted_change}
use Rattle.source_change.specs.Tests.{WasCounted, WasRead, WasTaken, name_of}
use Rattle.source_change.specs.declared.names.Named.{Named}
use Rattle.source_change.proofs.lists.Deeds.{followed_nil}
use Rattle.source_change.proofs.firsts.Going.{came_to}
use Rattle.source_change.proofs.firsts.Ends.{part_ends}
use Rattle.source_change.proofs.firsts.Taken.{taken_is}
use Rattle.source_change.proofs.limited.Limits.{limited_as}
use Rattle.source_change.proofs.results.Answered.{err_given, err_never, err_then, ok_then}
use Rattle.source_change.proofs.results.Binds.{bind_assoc}
use Rattle.base_integers.specs.declared.integers.Integers.{Integers}
use Rattle.source_change.proofs.declarations.given.Goals as goal

-- a value within the limits goes on as itself
bind_limited : {A B : Type 0} (n at next : ℕ) (ds : List tree.Deed) (x : A) (f h : A → Result B FunctionFault) → f x ≡ h x
    → (limited n at next ds [] x >>= f) ≡ (limited n at next ds [] x >>= h)
bind_limited n at next ds x f h e = on (nat_le next (n + MOST_HIDDEN)) (list_all is_small_deed ds && true) where
  on : (a b : Bool) → ((provided a (fault.Limit at limit.Hidden) x >>= λ x. provided b (fault.Limit at limit.Leaves) x) >>= f)
      ≡ ((provided a (fault.Limit at limit.Hidden) x >>= λ x. provided b (fault.Limit at limit.Leaves) x) >>= h)
  on true true = e
  on true false = refl
  on false b = refl

-- what is set is counted, and is a statement
abbrev set_so : (integers : Integers) (v l at : ℕ) → State → Change → Result (State × Statements) FunctionFault
set_so integers v l at now g = few integers v l at g now >>= λ now. counted at (length (change_deeds integers v g)) now >>= λ now. Ok
    (now, one (changes g))

counts : (integers : Integers) (v l at : ℕ) (now : State) (g : Change)
    → set_so integers v l at now g ≡ (counted_change integers v l at now g >>= λ r. Ok (r.0, one (changes r.1)))
counts integers v l at now g =
    let k : ℕ = behind_change integers v l g in
    let ds : List tree.Deed = change_deeds integers v g in
    let put : State → Result (State × Statements) FunctionFault = λ now. counted at (length (change_deeds integers v g)) now
    >>= λ now. Ok (now, one (changes g)) in
    let count : Change → Result (State × Change) FunctionFault = λ g. counted at (length (change_deeds integers v g)) now >>= λ st. Ok
    (st, g) in
    let put_on : State × Change → Result (State × Statements) FunctionFault = λ r. Ok (r.0, one (changes r.1)) in
    ap (λ w. w >>= put) (limited_as v at k ds [] now g) ∙ bind_assoc (few integers v l at g g) (λ _. Ok now) put
    ∙ bind_limited v at k ds g (λ _. put now) (λ g. count g >>= put_on)
    (sym (bind_assoc (counted at (length (change_deeds integers v g)) now) (λ st. Ok (st, g)) put_on))
    ∙ sym (bind_assoc (few integers v l at g g) count put_on)

-- a declaration with a value that is read there, over v variables, in this line
abbrev by_parts : (integers : Integers) (v l : ℕ) → (there st : State) → Name → (at : ℕ) → Expr → Result (State × Statements) FunctionFault
by_parts integers v l there st x at e = read integers l there e v >>= λ y. with_variable x at st >>= λ now. set_so integers v l at now
    (sets (declared_number now) y l)

-- it is the declarator of a name that was taken
declared_so : (integers : Integers) (line : ℕ → ℕ) (n : ℕ) (st : State) (x : Name) (a b : ℕ) (e : Expr) (j : Integers) (l v : ℕ)
    (there : State) (y : Name) (at : ℕ) → j ≡ integers → l ≡ line at → v ≡ n
    → there ≡ among (spell_declarator (declarator x a (given b e))) st → y ≡ x → at ≡ a
    → by_parts j v l there st y at e ≡ read_declarator integers line n st (declarator x a (given b e))
declared_so integers line n st x a b e j l v there y at by lined many around named here =
    ap (λ j. by_parts j v l there st y at e) by ∙ ap₂ (λ v l. by_parts integers v l there st y at e) many lined
    ∙ ap (λ there. by_parts integers n (line at) there st y at e) around
    ∙ ap₂ (λ y at. by_parts integers n (line at) (among (spell_declarator (declarator x a (given b e))) st) st y at e) named here

pub returns-in_err-first-clause-reads : goal.returns-in_err-first-clause-reads
returns-in_err-first-clause-reads c = λ x a b e rest g f h.
    let ts : List Token = token (change_sign replaces) b ∷ (spell_expr e ++ rest) in
    err_never (λ (n : Named) p. WasTaken ts c.args.reader.now c.take_name.new.reader n p)
    (λ _ r. WasRead c.args.reader.now.integers c.args.reader.now.variables rest c.args.reader.now c.take_name.new.reader c.args.known.now
    c.args.out.now.items c.args.out.now.items r) c.from_residual.result c.in_err-first.field-0.0 (x, a)
    (read_declarator c.args.reader.now.integers (line_at c.args.reader.now.text) c.args.reader.now.variables c.args.known.now
    (declarator x a (given b e)))
    c.from_residual.ensures.1 (c.in_err-first.ensures.reads x a ts f)

pub returns-in_err-value-clause-reads : goal.returns-in_err-value-clause-reads
returns-in_err-value-clause-reads c = λ x a b e rest g f h.
    let old : Reading = c.args.reader.now in
    let behind_it : List Token = spell_expr e ++ rest in
    let ts : List Token = token (change_sign replaces) b ∷ behind_it in
    let t = taken_is ts old c.take_name.new.reader c.in_ok-first.first x a (c.in_ok-first.ensures.reads x a ts f) in
    let mid : c.skip.new.self ≡ at_tokens old behind_it = c.skip.ensures ∙ ap passed t.2 in
    let st : State = c.args.known.now in
    let there : State = c.scope-scope.result in
    let around : there ≡ among (spell_declarator (declarator x a (given b e))) st =
    c.scope-scope.ensures.declarator (declarator x a (given b e)) rest f (part_ends (first_kind rest) h) in
    let y : Name = name_of c.in_ok-first.first in
    let at : ℕ = c.in_ok-first.first.at in
    let j : Integers = c.site-site.result.integers in
    let l : ℕ = c.site-site.result.line in
    let v : ℕ = c.site-site.result.variables in
    let by : j ≡ old.integers = c.site-site.ensures.integers ∙ ap (λ (r : Reading). r.integers) mid in
    let lined : l ≡ line_at old.text at = c.site-site.ensures.line ∙ ap (λ (r : Reading). line_at r.text at) mid in
    let many : v ≡ old.variables = c.site-site.ensures.variables ∙ ap (λ (r : Reading). r.variables) mid in
    let new : Reading = c.expression.new.reader in
    let is : Unit {0} → State × Statements → Type 0 =
    λ _ r. WasRead old.integers old.variables rest old new st c.args.out.now.items c.args.out.now.items r in
    let P : Result (State × Statements) FunctionFault → Type 0 = λ w. Answers is c.from_residual-in_err-value.result w in
    subst P (declared_so old.integers (line_at old.text) old.variables st x a b e j l v there y at by lined many around t.0 t.1)
    (err_then (λ (w : Value) z. IsRead c.site-site.result v w z × (new.ahead ≡ rest)) is c.from_residual-in_err-value.result
    c.in_err-value.field-0.0
    (read j l there e v) (λ z. with_variable y at st >>= λ now. set_so j v l at now (sets (declared_number now) z l))
    c.from_residual-in_err-value.ensures.1
    (c.in_err-value.ensures.reads e rest g (part_expr (first_kind rest) h) (ap (λ (r : Reading). r.ahead) mid)))

pub returns-in_err-var-clause-reads : goal.returns-in_err-var-clause-reads
returns-in_err-var-clause-reads c = λ x a b e rest g f h.
    let old : Reading = c.args.reader.now in
    let behind_it : List Token = spell_expr e ++ rest in
    let ts : List Token = token (change_sign replaces) b ∷ behind_it in
    let t = taken_is ts old c.take_name.new.reader c.in_ok-first.first x a (c.in_ok-first.ensures.reads x a ts f) in
    let mid : c.skip.new.self ≡ at_tokens old behind_it = c.skip.ensures ∙ ap passed t.2 in
    let st : State = c.args.known.now in
    let there : State = c.scope-scope.result in
    let around : there ≡ among (spell_declarator (declarator x a (given b e))) st =
    c.scope-scope.ensures.declarator (declarator x a (given b e)) rest f (part_ends (first_kind rest) h) in
    let y : Name = name_of c.in_ok-first.first in
    let at : ℕ = c.in_ok-first.first.at in
    let j : Integers = c.site-site.result.integers in
    let l : ℕ = c.site-site.result.line in
    let v : ℕ = c.site-site.result.variables in
    let by : j ≡ old.integers = c.site-site.ensures.integers ∙ ap (λ (r : Reading). r.integers) mid in
    let lined : l ≡ line_at old.text at = c.site-site.ensures.line ∙ ap (λ (r : Reading). line_at r.text at) mid in
    let many : v ≡ old.variables = c.site-site.ensures.variables ∙ ap (λ (r : Reading). r.variables) mid in
    let new : Reading = c.expression.new.reader in
    let is : Unit {0} → State × Statements → Type 0 =
    λ _ r. WasRead old.integers old.variables rest old new c.add_variable.new.self c.args.out.now.items c.args.out.now.items r in
    let P : Result (State × Statements) FunctionFault → Type 0 = λ w. Answers is c.from_residual-in_err-var.result w in
    subst P (declared_so old.integers (line_at old.text) old.variables st x a b e j l v there y at by lined many around t.0 t.1)
    (ok_then (λ (w : Value) z. IsRead c.site-site.result v w z ×
    (new.ahead ≡ rest)) is c.in_ok-value.value c.from_residual-in_err-var.result
    (read j l there e v) (λ z. with_variable y at st >>= λ now. set_so j v l at now (sets (declared_number now) z l))
    (c.in_ok-value.ensures.reads e rest g (part_expr (first_kind rest) h) (ap (λ (r : Reading). r.ahead) mid))
    (λ z k. err_given {A = ℕ} (λ _. c.add_variable.new.self) is c.from_residual-in_err-var.result c.in_err-var.field-0.0
    (with_variable y at st) (λ now. set_so j v l at now (sets (declared_number now) z l)) c.from_residual-in_err-var.ensures.1
    c.in_err-var.ensures.known))

pub returns-in_err-deeds-clause-reads : goal.returns-in_err-deeds-clause-reads
returns-in_err-deeds-clause-reads c = λ x a b e rest g f h.
    let old : Reading = c.args.reader.now in
    let behind_it : List Token = spell_expr e ++ rest in
    let ts : List Token = token (change_sign replaces) b ∷ behind_it in
    let t = taken_is ts old c.take_name.new.reader c.in_ok-first.first x a (c.in_ok-first.ensures.reads x a ts f) in
    let mid : c.skip.new.self ≡ at_tokens old behind_it = c.skip.ensures ∙ ap passed t.2 in
    let st : State = c.args.known.now in
    let there : State = c.scope-scope.result in
    let around : there ≡ among (spell_declarator (declarator x a (given b e))) st =
    c.scope-scope.ensures.declarator (declarator x a (given b e)) rest f (part_ends (first_kind rest) h) in
    let y : Name = name_of c.in_ok-first.first in
    let at : ℕ = c.in_ok-first.first.at in
    let j : Integers = c.site-site.result.integers in
    let l : ℕ = c.site-site.result.line in
    let v : ℕ = c.site-site.result.variables in
    let by : j ≡ old.integers = c.site-site.ensures.integers ∙ ap (λ (r : Reading). r.integers) mid in
    let lined : l ≡ line_at old.text at = c.site-site.ensures.line ∙ ap (λ (r : Reading). line_at r.text at) mid in
    let many : v ≡ old.variables = c.site-site.ensures.variables ∙ ap (λ (r : Reading). r.variables) mid in
    let new : Reading = c.expression.new.reader in
    let now : State = c.add_variable.new.self in
    let s : Stop = c.in_err-deeds.field-0.0 in
    let is : Unit {0} → State × Statements → Type 0 =
    λ _ r. WasRead old.integers old.variables rest old new c.counted_change.new.known c.args.out.now.items c.args.out.now.items r in
    let P : Result (State × Statements) FunctionFault → Type 0 = λ w. Answers is c.from_residual-in_err-deeds.result w in
    subst P (declared_so old.integers (line_at old.text) old.variables st x a b e j l v there y at by lined many around t.0 t.1)
    (ok_then (λ (w : Value) z. IsRead c.site-site.result v w z ×
    (new.ahead ≡ rest)) is c.in_ok-value.value c.from_residual-in_err-deeds.result
    (read j l there e v) (λ z. with_variable y at st >>= λ now. set_so j v l at now (sets (declared_number now) z l))
    (c.in_ok-value.ensures.reads e rest g (part_expr (first_kind rest) h) (ap (λ (r : Reading). r.ahead) mid))
    (λ z k. let d : Change = sets (declared_number now) z l in
    subst P (sym (ap (λ w. w >>= λ now. set_so j v l at now (sets (declared_number now) z l)) c.in_ok-var.ensures.known
    ∙ counts j v l at now d))
    (err_then (λ (w : Vec code_deed.Deed Global) r. WasCounted j v c.counted_change.new.known w.items r) is
    c.from_residual-in_err-deeds.result s
    (counted_change j v l at now d) (λ r. Ok (r.0, one (changes r.1))) c.from_residual-in_err-deeds.ensures.1
    (c.in_err-deeds.ensures d (c.in_ok-var.ensures.number, refl, k.0)))))

pub returns-clause-reads : goal.returns-clause-reads
returns-clause-reads c = λ x a b e rest g f h.
    let old : Reading = c.args.reader.now in
    let behind_it : List Token = spell_expr e ++ rest in
    let ts : List Token = token (change_sign replaces) b ∷ behind_it in
    let t = taken_is ts old c.take_name.new.reader c.in_ok-first.first x a (c.in_ok-first.ensures.reads x a ts f) in
    let mid : c.skip.new.self ≡ at_tokens old behind_it = c.skip.ensures ∙ ap passed t.2 in
    let st : State = c.args.known.now in
    let there : State = c.scope-scope.result in
    let around : there ≡ among (spell_declarator (declarator x a (given b e))) st =
    c.scope-scope.ensures.declarator (declarator x a (given b e)) rest f (part_ends (first_kind rest) h) in
    let y : Name = name_of c.in_ok-first.first in
    let at : ℕ = c.in_ok-first.first.at in
    let j : Integers = c.site-site.result.integers in
    let l : ℕ = c.site-site.result.line in
    let v : ℕ = c.site-site.result.variables in
    let by : j ≡ old.integers = c.site-site.ensures.integers ∙ ap (λ (r : Reading). r.integers) mid in
    let lined : l ≡ line_at old.text at = c.site-site.ensures.line ∙ ap (λ (r : Reading). line_at r.text at) mid in
    let many : v ≡ old.variables = c.site-site.ensures.variables ∙ ap (λ (r : Reading). r.variables) mid in
    let new : Reading = c.expression.new.reader in
    let now : State = c.add_variable.new.self in
    let first : tree.Statements = statements_of c.args.out.now.items in
    let is : Unit {0} → State × Statements → Type 0 =
    λ _ r. WasRead old.integers old.variables rest old new c.counted_change.new.known c.args.out.now.items c.push_deeds.new.out.items r in
    let P : Result (State × Statements) FunctionFault → Type 0 = λ w. Answers is (Ok tt) w in
    subst P (declared_so old.integers (line_at old.text) old.variables st x a b e j l v there y at by lined many around t.0 t.1)
    (ok_then (λ (w : Value) z. IsRead c.site-site.result v w z × (new.ahead ≡ rest)) is c.in_ok-value.value (Ok tt)
    (read j l there e v) (λ z. with_variable y at st >>= λ now. set_so j v l at now (sets (declared_number now) z l))
    (c.in_ok-value.ensures.reads e rest g (part_expr (first_kind rest) h) (ap (λ (r : Reading). r.ahead) mid))
    (λ z k. let d : Change = sets (declared_number now) z l in
    subst P (sym (ap (λ w. w >>= λ now. set_so j v l at now (sets (declared_number now) z l)) c.in_ok-var.ensures.known
    ∙ counts j v l at now d))
    (ok_then (λ (w : Vec code_deed.Deed Global) r. WasCounted j v c.counted_change.new.known w.items r) is c.in_ok-deeds.deeds (Ok tt)
    (counted_change j v l at now d) (λ r. Ok (r.0, one (changes r.1)))
    (c.in_ok-deeds.ensures d (c.in_ok-var.ensures.number, refl, k.0))
    (λ r m. (
      (r.0, one (changes r.1)),
      refl,
      record {
        known = m.0;
        out = c.in_ok-push_deeds.ensures ∙ ap (λ ds. followed_by first (behind ds tree.nil)) (m.1
            ∙ ap₂ (λ k n. change_deeds k n r.1) by many)
            ∙ ap (followed_by first) (sym (followed_nil (behind (change_deeds old.integers old.variables r.1) tree.nil)));
        reader = came_to c.skip.new.self new rest c.in_ok-value.ensures.goes k.1 ∙ ap (λ (r : Reading). at_tokens r rest) mid;
      },
    )))))
