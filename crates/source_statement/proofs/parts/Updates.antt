-- A change and the `;` behind it.
use Rattle.std.proofs.Common.{◌≡◌, ◌∙◌, ◌∷◌, ℕ, List, Result, Ok, OnOk, ap}
use Rattle.std.specs.declared.alloc.Global.{Global}
use Rattle.std.specs.declared.vec.Vec.{Vec}
use Rattle.lang_tree.specs.Tree as tree
use Rattle.lang_tree.specs.View.{deeds_of, statements_of}
use Rattle.lang_tree.specs.declared.deed.Deed.{Deed}
use Rattle.lang_tree.specs.declared.stmt.Stmt.{Stmt}
use Rattle.source_grammar.specs.Tokens.{Token, token, semicolon}
use Rattle.source_tree.specs.Statements.{Change, Statements, changes}
use Rattle.source_core.specs.Core.{behind, followed_by}
use Rattle.source_meaning.specs.declared.fault.FunctionFault.{FunctionFault}
use Rattle.source_meaning.specs.Results.{◌>>=◌}
use Rattle.source_meaning.specs.Names.{State}
use Rattle.source_meaning.specs.Statements.{one}
use Rattle.source_reader.specs.Answers.{Answers}
use Rattle.source_reader.specs.Reading.{Reading, at_tokens}
use Rattle.source_reader.specs.declared.stop.Stop.{Stop}
use Rattle.source_change.specs.Tests.{WasChanged, WasRead}
use Rattle.source_change.proofs.results.Answered.{ok_then}
use Rattle.source_statement.specs.Headed.{no_fault}
use Rattle.source_change.proofs.lists.Pushed.{change_pushed}
use Rattle.source_statement.proofs.parts.Pushes.{pushed_answer}
use Rattle.base_integers.specs.declared.integers.Integers.{Integers}

-- they are the statement of that change
pub updated : (integers : Integers) (n d : ℕ) (rest : List Token) (old mid new : Reading) (k : State) (a b : List Stmt)
    (v : Vec Deed Global)
    (res : Result (Unit {0}) Stop) (w : Result (State × Change) FunctionFault)
    → Answers (λ (v : Vec Deed Global) r. WasChanged integers n (token semicolon d ∷ rest) old mid k v.items r) (Ok v) w
    → OnOk res (statements_of b ≡ followed_by (statements_of a) (behind (deeds_of v.items) tree.nil))
    → (mid.ahead ≡ token semicolon d ∷ rest → Answers {A = Unit {0}} (λ _ _. new ≡ at_tokens mid rest) res no_fault)
    → Answers {A = Unit {0}} (λ _ r. WasRead integers n rest old new k a b r) res (w >>= λ r. Ok (r.0, one (changes r.1)))
updated integers n d rest old mid new k a b v res w q p f =
    let is : Unit {0} → State × Statements → Type 0 = λ _ r. WasRead integers n rest old new k a b r in
    ok_then (λ (v : Vec Deed Global) r. WasChanged integers n (token semicolon d ∷ rest) old mid k v.items r) is v res w
    (λ r. Ok (r.0, one (changes r.1))) q
    (λ r c. pushed_answer is res (statements_of b ≡ followed_by (statements_of a) (behind (deeds_of v.items) tree.nil))
    (new ≡ at_tokens mid rest) (r.0, one (changes r.1)) p (f (ap (λ (r : Reading). r.ahead) c.reader))
    (λ p e. record {
      known = c.known;
      out = change_pushed integers n a b (deeds_of v.items) r.1 p c.deeds;
      reader = e ∙ ap (λ (r : Reading). at_tokens r rest) c.reader;
    }))
