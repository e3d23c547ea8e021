use Rattle.std.proofs.Common.{◌≡◌, ◌∙◌, ℕ, Bool, true, false, List, Ok, refl, sym, ap, subst, rules}
use Rattle.std.specs.Prelude.{if◌then◌else◌}
use Rattle.lang_tokens.specs.Lines.{line_at}
use Rattle.lang_tree.specs.Tree as tree
use Rattle.lang_tree.specs.Tree.{nodes_in}
use Rattle.lang_tree.specs.declared.stmt.Stmt.{Stmt}
use Rattle.lang_tree.specs.declared.stmt.Stmt.TheVariants.{Return}
use Rattle.source_tree.specs.Statements.{Statements, never, jump, nil, cons}
use Rattle.source_core.specs.Core as core
use Rattle.source_core.specs.Core.{core_in, core_of}
use Rattle.source_meaning.specs.Names.{State}
use Rattle.source_meaning.specs.Limits.{counted}
use Rattle.source_meaning.specs.Statements.{is_end, is_error, one}
use Rattle.source_reader.specs.Answers.{Answers}
use Rattle.source_change.specs.Pushed.{WasPushed}
use Rattle.source_change.proofs.lists.Pushed.{none_pushed, one_pushed, then_pushed}
use Rattle.base_integers.specs.declared.integers.Integers.{Integers}
use Rattle.source_statement.proofs.call.push_call.Goals as goal

-- what is done, by what the name is
abbrev by_name : (at l : ℕ) → Bool → Bool → Statements
by_name at l p q = if p then cons (never at l) (one (jump tree.returns l)) else (if q then one (jump tree.returns l) else nil)

-- it was done
abbrev Done : (integers : Integers) (n at l : ℕ) → State → State → List Stmt → List Stmt → Bool → Bool → Type 0
Done integers n at l old new a b p q = Answers {A = Unit {0}} (λ _ st. (new ≡ st) × WasPushed integers n a b (by_name at l p q)) (Ok tt)
    (counted at (nodes_in (core_in integers n (by_name at l p q))) old)

pub returns-in_ok-push-2 : goal.returns-in_ok-push-2
returns-in_ok-push-2 c =
    let integers : Integers = c.args.reader.now.integers in
    let n : ℕ = c.args.reader.now.variables in
    let at : ℕ = c.args.first.now.at in
    let l : ℕ = line_at c.args.reader.now.text at in
    let x : List ℕ = c.args.first.now.name in
    let a : List Stmt = c.args.out.now.items in
    let m : List Stmt = c.push.new.self.items in
    let b : List Stmt = c.push-then-is_error.new.self.items in
    let h : c.is_error.result ≡ true = search rules in
    let e : true ≡ is_error x = sym h ∙ c.is_error.ensures ∙ ap is_error c.bytes.ensures.bytes in
    let P : Bool → Type 0 = λ p. Done integers n at l c.args.known.now c.count.new.self a b p (is_end x) in
    subst P e (
      c.count.new.self,
      c.in_ok-count.ensures,
      (
        refl,
        then_pushed integers n a m b (one (never at l)) (one (jump tree.returns l))
            (one_pushed integers n a m c.never.result (never at l) c.in_ok-push.ensures.items
            (c.never.ensures integers n ∙ ap (λ l. core_of integers n (never at l)) c.line-line.ensures))
            (one_pushed integers n m b (Return c.line-line.result) (jump tree.returns l) c.in_ok-push-2.ensures.items
            (ap (λ l. core.one (tree.jump tree.returns l)) c.line-line.ensures)),
      ),
    )

pub returns-in_ok-push-3 : goal.returns-in_ok-push-3
returns-in_ok-push-3 c =
    let integers : Integers = c.args.reader.now.integers in
    let n : ℕ = c.args.reader.now.variables in
    let at : ℕ = c.args.first.now.at in
    let l : ℕ = line_at c.args.reader.now.text at in
    let x : List ℕ = c.args.first.now.name in
    let a : List Stmt = c.args.out.now.items in
    let b : List Stmt = c.push-then-is_end.new.self.items in
    let h : c.is_error.result ≡ false = search rules in
    let k : c.is_end.result ≡ true = search rules in
    let e : false ≡ is_error x = sym h ∙ c.is_error.ensures ∙ ap is_error c.bytes.ensures.bytes in
    let f : true ≡ is_end x = sym k ∙ c.is_end.ensures ∙ ap is_end c.bytes-else-is_error.ensures.bytes in
    let P : Bool → Bool → Type 0 = λ p q. Done integers n at l c.args.known.now c.count-then-is_end.new.self a b p q in
    subst (λ p. P p (is_end x)) e (subst (λ q. P false q) f (
      c.count-then-is_end.new.self,
      c.in_ok-count-2.ensures,
      (
        refl,
        one_pushed integers n a b (Return c.line-line.result) (jump tree.returns l) c.in_ok-push-3.ensures.items
            (ap (λ l. core.one (tree.jump tree.returns l)) c.line-line.ensures),
      ),
    ))

pub returns-in_ok-count-3 : goal.returns-in_ok-count-3
returns-in_ok-count-3 c =
    let integers : Integers = c.args.reader.now.integers in
    let n : ℕ = c.args.reader.now.variables in
    let at : ℕ = c.args.first.now.at in
    let l : ℕ = line_at c.args.reader.now.text at in
    let x : List ℕ = c.args.first.now.name in
    let a : List Stmt = c.args.out.now.items in
    let now : State = c.count-else-is_end.new.self in
    let h : c.is_error.result ≡ false = search rules in
    let k : c.is_end.result ≡ false = search rules in
    let e : false ≡ is_error x = sym h ∙ c.is_error.ensures ∙ ap is_error c.bytes.ensures.bytes in
    let f : false ≡ is_end x = sym k ∙ c.is_end.ensures ∙ ap is_end c.bytes-else-is_error.ensures.bytes in
    let P : Bool → Bool → Type 0 = λ p q. Done integers n at l c.args.known.now now a a p q in
    subst (λ p. P p (is_end x)) e (subst (λ q. P false q) f (now, c.in_ok-count-3.ensures, (refl, none_pushed integers n a)))
