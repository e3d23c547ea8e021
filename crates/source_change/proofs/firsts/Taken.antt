-- A name that was taken.
use Rattle.std.proofs.Common.{◌≡◌, ◌∙◌, ℕ, List, Result, Ok, ap, subst}
use Rattle.source_grammar.specs.Tokens.{Name, Token}
use Rattle.source_grammar.specs.Grammar.{Initialiser, declarator, spell_declarator}
use Rattle.source_tree.specs.Statements.{Statements}
use Rattle.source_meaning.specs.Names.{State, among}
use Rattle.source_meaning.specs.Statements.{read_declarator}
use Rattle.source_reader.specs.Answers.{Answers}
use Rattle.source_reader.specs.Reading.{Reading}
use Rattle.source_reader.specs.declared.stop.Stop.{Stop}
use Rattle.source_change.specs.Tests.{WasTaken}
use Rattle.source_change.specs.declared.names.Named.{Named}
use Rattle.base_integers.specs.declared.integers.Integers.{Integers}

-- it is that of the token
pub taken_is : (rest : List Token) (old new : Reading) (f : Named) (x : Name) (a : ℕ)
    → Answers (λ (n : Named) (p : Name × ℕ). WasTaken rest old new n p) (Ok f) (Ok (x, a)) → WasTaken rest old new f (x, a)
taken_is rest old new f x a t =
    let both : t.0 ≡ (x, a) = (let h = t.1 in cc) in (
      t.2.0 ∙ ap (λ (p : Name × ℕ). p.0) both,
      t.2.1 ∙ ap (λ (p : Name × ℕ). p.1) both,
      t.2.2,
    )

-- what is answered of the declarator of one name is answered of that of the same name
pub renamed : {C : Type 0} (Is : C → State × Statements → Type 0) (r : Result C Stop) (integers : Integers) (line : ℕ → ℕ) (n : ℕ)
    (st there : State) (i : Initialiser) (x y : Name) (a b : ℕ) → y ≡ x → b ≡ a → there ≡ among (spell_declarator (declarator x a i)) st
    → (there ≡ among (spell_declarator (declarator y b i)) st
    → Answers Is r (read_declarator integers line n st (declarator y b i)))
    → Answers Is r (read_declarator integers line n st (declarator x a i))
renamed Is r integers line n st there i x y a b p q e f =
    let P : Name → ℕ → Type 0 = λ z k. there ≡ among (spell_declarator (declarator z k i)) st
    → Answers Is r (read_declarator integers line n st (declarator z k i)) in
    subst (λ z. P z a) p (subst (λ k. P y k) q f) e
