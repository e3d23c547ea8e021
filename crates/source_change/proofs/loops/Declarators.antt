-- The names that are still to come while names are read that are declared together.
use Rattle.std.proofs.Common.{◌≡◌, ◌∙◌, ℕ, true, false, List, Result, Ok, Err, refl, sym, ap, subst}
use Rattle.lang_tree.specs.View.{statements_of}
use Rattle.lang_tree.specs.declared.stmt.Stmt.{Stmt}
use Rattle.source_grammar.specs.Tokens.{Kind, Token, semicolon, right_paren}
use Rattle.source_grammar.specs.Grammar.{MoreDeclarators, last_declarator, next_declarator, GoodMoreDeclarators, Declarator, GoodDeclarator}
use Rattle.source_grammar.proofs.grammar.Follow.{AfterList, AfterPart, list_part}
use Rattle.source_tree.specs.Statements.{Statements, nil}
use Rattle.source_core.specs.Core as core
use Rattle.source_core.specs.Core.{core_in}
use Rattle.source_meaning.specs.declared.fault.FunctionFault.{FunctionFault}
use Rattle.source_meaning.specs.Results.{◌>>=◌}
use Rattle.source_meaning.specs.Names.{State}
use Rattle.source_meaning.specs.Statements.{followed_by, read_declarator, read_more_declarators}
use Rattle.source_reader.specs.Reading.{Reading, at_tokens, first_kind, passed}
use Rattle.source_reader.specs.Answers.{Answers}
use Rattle.source_reader.specs.declared.stop.Stop.{Stop}
use Rattle.source_change.specs.Onto.{onto_declarator, onto_more_declarators}
use Rattle.source_change.specs.Nexts.{is_comma}
use Rattle.source_change.specs.Tests.{WasRead}
use Rattle.source_change.proofs.lists.Deeds.{followed_assoc, followed_nil}
use Rattle.source_change.proofs.lists.Statements.{core_followed, source_assoc, source_nil}
use Rattle.source_change.proofs.results.Answered.{fault_then}
use Rattle.source_change.proofs.results.Binds.{bind_assoc, bind_same, bind_ok}
use Rattle.base_integers.specs.declared.integers.Integers.{Integers}

module _ (integers : Integers) (line : ℕ → ℕ) (n : ℕ) where
  -- what is still to come of some names, where others were read
  pub record Left (xs : MoreDeclarators) (rest : List Token) (first now : Reading) (k₀ k : State) (o₀ o : List Stmt) : Type 0 where
    -- what is still to come
    pub ys : MoreDeclarators
    -- it groups as it must
    pub good : GoodMoreDeclarators ys
    -- the reader stands before it
    pub reader : now ≡ at_tokens first (onto_more_declarators ys rest)
    -- the statements of what was read
    pub done : Statements
    -- the list has their core behind what it had
    pub out : statements_of o ≡ core.followed_by (statements_of o₀) (core_in integers n done)
    -- the walk goes on with what is still to come
    pub goes : read_more_declarators integers line n k₀ xs ≡ (read_more_declarators integers line n k ys >>= λ q. Ok
        (q.0, followed_by done q.1))

  -- all are at first
  pub all_left : (xs : MoreDeclarators) (rest : List Token) (first : Reading) (k : State) (o : List Stmt) → GoodMoreDeclarators xs
      → first.ahead ≡ onto_more_declarators xs rest → Left xs rest first first k k o o
  all_left xs rest first k o g e = record {
    ys = xs;
    good = g;
    reader = let P : List Token → Type 0 = λ ts. first ≡ at_tokens first ts in subst P e refl;
    done = nil;
    out = sym (followed_nil (statements_of o));
    goes = bind_ok (read_more_declarators integers line n k xs) (λ q. (q.0, q.1)) (λ q. refl);
  }

  -- the next one
  pub record Next (xs : MoreDeclarators) (rest : List Token) (first now : Reading) (k₀ k : State) (o₀ o : List Stmt) : Type 0 where
    -- the next one
    pub x : Declarator
    -- those behind it
    pub zs : MoreDeclarators
    -- the next one groups as it must
    pub good : GoodDeclarator x
    -- these group as they must
    pub others : GoodMoreDeclarators zs
    -- the reader has passed the comma before it
    pub reader : passed now ≡ at_tokens first (onto_declarator x (onto_more_declarators zs rest))
    -- what stands behind it may
    pub follow : AfterPart (first_kind (onto_more_declarators zs rest))
    -- the statements of what was read
    pub done : Statements
    -- the list has their core behind what it had
    pub out : statements_of o ≡ core.followed_by (statements_of o₀) (core_in integers n done)
    -- the walk goes on with what is still to come
    pub goes : read_more_declarators integers line n k₀ xs
        ≡ (read_declarator integers line n k x >>= λ r. read_more_declarators integers line n r.0 zs >>= λ q. Ok (
          q.0,
          followed_by done
              (followed_by r.1 q.1),
        ))

  no_comma : (k : Kind) → AfterList k → is_comma k ≡ false
  no_comma semicolon h = refl
  no_comma right_paren h = refl
  no_comma _ h = absurd h

  -- behind one of them stands what may
  pub part_follows : (zs : MoreDeclarators) (rest : List Token) → AfterList (first_kind rest)
      → AfterPart (first_kind (onto_more_declarators zs rest))
  part_follows last_declarator rest h = list_part (first_kind rest) h
  part_follows (next_declarator a x zs) rest h = tt

  -- it is there where a comma is
  pub next_left : (xs : MoreDeclarators) (rest : List Token) (first now : Reading) (k₀ k : State) (o₀ o : List Stmt)
      → Left xs rest first now k₀ k o₀ o → AfterList (first_kind rest) → is_comma (first_kind now.ahead) ≡ true
      → Next xs rest first now k₀ k o₀ o
  next_left xs rest first now k₀ k o₀ o l h c = on l.ys l.good l.reader l.goes where
    on : (ys : MoreDeclarators) → GoodMoreDeclarators ys → now ≡ at_tokens first (onto_more_declarators ys rest)
        → read_more_declarators integers line n k₀ xs ≡ (read_more_declarators integers line n k ys >>= λ q. Ok
        (q.0, followed_by l.done q.1))
        → Next xs rest first now k₀ k o₀ o
    on last_declarator g e q =
        let i : is_comma (first_kind now.ahead) ≡ false = ap (λ (r : Reading). is_comma (first_kind r.ahead)) e ∙ no_comma
        (first_kind rest) h in
        absurd cc
    on (next_declarator a x zs) g e q = record {
      x = x;
      zs = zs;
      good = g.0;
      others = g.1;
      reader = ap passed e;
      follow = part_follows zs rest h;
      done = l.done;
      out = l.out;
      goes = q ∙ bind_assoc (read_declarator integers line n k x)
          (λ r. read_more_declarators integers line n r.0 zs >>= λ q. Ok (q.0, followed_by r.1 q.1)) (λ q. Ok (q.0, followed_by l.done q.1))
          ∙ bind_same (read_declarator integers line n k x)
          (λ r. (read_more_declarators integers line n r.0 zs >>= λ q. Ok (q.0, followed_by r.1 q.1)) >>= λ q. Ok
          (q.0, followed_by l.done q.1))
          (λ r. read_more_declarators integers line n r.0 zs >>= λ q. Ok (q.0, followed_by l.done (followed_by r.1 q.1)))
          (λ r. bind_assoc (read_more_declarators integers line n r.0 zs) (λ q. Ok (q.0, followed_by r.1 q.1)) (λ q. Ok
          (q.0, followed_by l.done q.1)));
    }

  -- where it was read the others are left
  pub less_left : (xs : MoreDeclarators) (rest : List Token) (first now new : Reading) (k₀ k k' : State) (o₀ o o' : List Stmt)
      (u : Unit {0})
      (x : Next xs rest first now k₀ k o₀ o)
      → Answers (λ _ r. WasRead integers n (onto_more_declarators x.zs rest) (at_tokens first (onto_declarator x.x
      (onto_more_declarators x.zs rest)))
      new k' o o' r) (Ok u) (read_declarator integers line n k x.x)
      → Left xs rest first new k₀ k' o₀ o'
  less_left xs rest first now new k₀ k k' o₀ o o' u x a =
      let r = a.0 in
      let w = a.2 in
      record {
        ys = x.zs;
        good = x.others;
        reader = w.reader;
        done = followed_by x.done r.1;
        out = w.out ∙ ap (λ s. core.followed_by s (core_in integers n r.1)) x.out
            ∙ followed_assoc (statements_of o₀) (core_in integers n x.done) (core_in integers n r.1)
            ∙ sym (ap (core.followed_by (statements_of o₀)) (core_followed integers n x.done r.1));
        goes = x.goes
            ∙ ap (λ v. v >>= λ r. read_more_declarators integers line n r.0 x.zs >>= λ q. Ok (
              q.0,
              followed_by x.done
                  (followed_by r.1 q.1),
            )) a.1
            ∙ bind_same (read_more_declarators integers line n r.0 x.zs) (λ q. Ok (q.0, followed_by x.done (followed_by r.1 q.1)))
            (λ q. Ok (q.0, followed_by (followed_by x.done r.1) q.1))
            (λ q. ap (λ s. Ok (q.0, s)) (sym (source_assoc x.done r.1 q.1)))
            ∙ ap (λ (k : State). read_more_declarators integers line n k x.zs >>= λ q. Ok (q.0, followed_by (followed_by x.done r.1) q.1))
            (sym w.known);
      }

  -- its fault is that of all
  pub fault_left : {A : Type 0} (Is : A → State × Statements → Type 0) (xs : MoreDeclarators) (rest : List Token) (first now new : Reading)
      (k₀ k k' : State) (o₀ o o' : List Stmt) (s t : Stop) (x : Next xs rest first now k₀ k o₀ o) → t ≡ s
      → Answers {A = Unit {0}} (λ _ r. WasRead integers n (onto_more_declarators x.zs rest) (at_tokens first (onto_declarator x.x
      (onto_more_declarators x.zs rest)))
      new k' o o' r) (Err s) (read_declarator integers line n k x.x)
      → Answers Is (Err t) (read_more_declarators integers line n k₀ xs)
  fault_left {A} Is xs rest first now new k₀ k k' o₀ o o' s t x e a =
      let P : Result (State × Statements) FunctionFault → Type 0 = λ v. Answers Is (Err t) v in
      subst P (sym x.goes) (fault_then {A = Unit {0}} (λ _ r. WasRead integers n (onto_more_declarators x.zs rest)
      (at_tokens first (onto_declarator x.x (onto_more_declarators x.zs rest))) new k' o o' r) Is s t
      (read_declarator integers line n k x.x)
      (λ r. read_more_declarators integers line n r.0 x.zs >>= λ q. Ok (q.0, followed_by x.done (followed_by r.1 q.1))) e a)

  -- where no comma is all were read
  pub none_left : (xs : MoreDeclarators) (rest : List Token) (first now : Reading) (k₀ k : State) (o₀ o : List Stmt) (u : Unit {0})
      → Left xs rest first now k₀ k o₀ o → is_comma (first_kind now.ahead) ≡ false
      → Answers (λ _ r. WasRead integers n rest first now k o₀ o r) (Ok u) (read_more_declarators integers line n k₀ xs)
  none_left xs rest first now k₀ k o₀ o u l c = on l.ys l.reader l.goes where
    on : (ys : MoreDeclarators) → now ≡ at_tokens first (onto_more_declarators ys rest)
        → read_more_declarators integers line n k₀ xs ≡ (read_more_declarators integers line n k ys >>= λ q. Ok
        (q.0, followed_by l.done q.1))
        → Answers (λ _ r. WasRead integers n rest first now k o₀ o r) (Ok u) (read_more_declarators integers line n k₀ xs)
    on last_declarator e q = ((k, l.done), q ∙ ap (λ s. Ok (k, s)) (source_nil l.done), record { known = refl; out = l.out; reader = e })
    on (next_declarator a x zs) e q =
        let i : is_comma (first_kind now.ahead) ≡ true = ap (λ (r : Reading). is_comma (first_kind r.ahead)) e in absurd cc
