-- Statements that were read in two parts.
use Rattle.std.proofs.Common.{◌≡◌, ◌∙◌, ℕ, List, Result, refl, sym, ap, subst}
use Rattle.std.proofs.lemmas.List.{append-nil}
use Rattle.lang_tree.specs.declared.stmt.Stmt.{Stmt}
use Rattle.source_grammar.specs.Tokens.{Token}
use Rattle.source_core.specs.Elaborated.{Elaborated, elaborated, evaluated}
use Rattle.source_core.specs.Fits.{deeds_fit, result_fits}
use Rattle.source_tree.specs.Expressions.{Expression, none, more}
use Rattle.source_tree.specs.Statements.{Statements}
use Rattle.source_meaning.specs.declared.fault.FunctionFault.{FunctionFault}
use Rattle.source_meaning.specs.Names.{State}
use Rattle.source_meaning.specs.Statements.{followed_by}
use Rattle.source_value.specs.Kept.{kept_deeds}
use Rattle.source_value.specs.Stands.{Stands, StandsEvaluated}
use Rattle.source_value.specs.declared.value.Value.{Value}
use Rattle.source_reader.specs.Reading.{Reading, at_tokens}
use Rattle.source_change.specs.Tests.{WasRead}
use Rattle.source_reader.specs.Answers.{Answers}
use Rattle.source_reader.specs.declared.stop.Stop.{Stop}
use Rattle.source_change.proofs.results.Answered.{weaker}
use Rattle.source_change.proofs.limited.Limits.{both_true}
use Rattle.source_change.proofs.lists.Pushed.{then_pushed}
use Rattle.base_integers.specs.declared.integers.Integers.{Integers}

-- the second is read from where the first ends
pub then_read : (integers : Integers) (n : ℕ) (ts rest : List Token) (old mid new : Reading) (k l : State) (a b d : List Stmt)
    (r q : State × Statements)
    → WasRead integers n ts old mid k a b r → WasRead integers n rest (at_tokens old ts) new l b d q
    → WasRead integers n rest old new l a d (q.0, followed_by r.1 q.1)
then_read integers n ts rest old mid new k l a b d r q v w = record {
  known = w.known;
  out = then_pushed integers n a b d r.1 q.1 v.out w.out;
  reader = w.reader;
}

-- what was read from some tokens on was read
pub same_read : (integers : Integers) (n : ℕ) (ts rest : List Token) (old new : Reading) (k : State) (a b : List Stmt) (res : Result
    (Unit {0}) Stop)
    (w : Result (State × Statements) FunctionFault)
    → Answers {A = Unit {0}} (λ _ r. WasRead integers n rest (at_tokens old ts) new k a b r) res w
    → Answers {A = Unit {0}} (λ _ r. WasRead integers n rest old new k a b r) res w
same_read integers n ts rest old new k a b res w q = weaker {A = Unit {0}} (λ _ r. WasRead integers n rest (at_tokens old ts) new k a b r)
    (λ _ r. WasRead integers n rest old new k a b r) res w (λ u r s. record { known = s.known; out = s.out; reader = s.reader }) q

-- a reader is at the tokens that are ahead
pub at_first : (r : Reading) (ts : List Token) → r.ahead ≡ ts → r ≡ at_tokens r ts
at_first r ts e = let P : List Token → Type 0 = λ ts. r ≡ at_tokens r ts in subst P e refl

-- a value that is evaluated alone
pub one_evaluated : (integers : Integers) (n line h : ℕ) (x : Expression) (v : Value) → Stands n v (elaborated integers line x h)
    → StandsEvaluated n (record { prelude = v.prelude; next = v.next }) (evaluated integers line (more x none) h)
one_evaluated integers n line h x v s =
    let o : Elaborated = elaborated integers line x h in
    let e = append-nil o.prelude in
    let fit = both_true (deeds_fit o.prelude) (result_fits o.result) s.numbers in
    record {
      prelude = s.prelude ∙ ap (kept_deeds n o.next) (sym e);
      next = s.next;
      numbers = ap deeds_fit e ∙ fit.0;
    }
