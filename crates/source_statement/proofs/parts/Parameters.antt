-- The parameters that are still to come while those behind the first are read.
use Rattle.std.proofs.Common.{◌≡◌, ◌∙◌, ◌<◌, ℕ, List, [], ◌∷◌, length, Result, Ok, Err, refl, sym, ap, subst, arith}
use Rattle.lang_tree.specs.View.{statements_of}
use Rattle.lang_tree.specs.declared.stmt.Stmt.{Stmt}
use Rattle.source_grammar.specs.Tokens.{Token, token, right_paren}
use Rattle.source_grammar.specs.Grammar.{Parameter, MoreParameters, last_parameter, next_parameter}
use Rattle.source_grammar.proofs.grammar.Follow.{AfterPart}
use Rattle.source_tree.specs.Statements.{Statements, nil}
use Rattle.source_core.specs.Core as core
use Rattle.source_core.specs.Core.{core_in}
use Rattle.source_meaning.specs.declared.fault.FunctionFault.{FunctionFault}
use Rattle.source_meaning.specs.Results.{◌>>=◌}
use Rattle.source_meaning.specs.Names.{State}
use Rattle.source_meaning.specs.Statements.{followed_by}
use Rattle.source_meaning.specs.Walk.{read_parameter, read_more_parameters}
use Rattle.source_reader.specs.Reading.{Reading, at_tokens, behind_first, first_kind, passed}
use Rattle.source_reader.specs.Answers.{Answers}
use Rattle.source_reader.specs.declared.stop.Stop.{Stop}
use Rattle.source_change.specs.Tests.{WasRead}
use Rattle.source_change.proofs.lists.Deeds.{followed_assoc, followed_nil}
use Rattle.source_change.proofs.lists.Statements.{core_followed, source_assoc, source_nil}
use Rattle.source_change.proofs.results.Answered.{fault_then}
use Rattle.source_change.proofs.results.Binds.{bind_assoc, bind_same, bind_ok}
use Rattle.source_statement.specs.Onto.{onto_parameter, onto_more_parameters}
use Rattle.source_statement.specs.Starts.{start_in, a_comma, a_storage}
use Rattle.base_integers.specs.declared.integers.Integers.{Integers}

-- there is a token where one comes next that is a comma or stands before a function's name
pub comma_less : (ts : List Token) → start_in (first_kind ts) ≡ a_comma → length (behind_first ts) < length ts
comma_less [] h = absurd cc
comma_less (t ∷ ts) h = omega arith

-- likewise of what stands before a function
pub storage_less : (ts : List Token) → start_in (first_kind ts) ≡ a_storage → length (behind_first ts) < length ts
storage_less [] h = absurd cc
storage_less (t ∷ ts) h = omega arith

-- an array that was declared is known
pub array_known : (a b : State) → (let r : Result State FunctionFault = Ok a in r ≡ Ok b)
    → (let r : Result (State × Statements) FunctionFault = Ok (a, nil) in r ≡ Ok (b, nil))
array_known a b e = let k : a ≡ b = cc in ap (λ s. Ok (s, nil)) k

-- behind a parameter stands what may
pub parameter_follows : (zs : MoreParameters) (b : ℕ) (w : List Token)
    → AfterPart (first_kind (onto_more_parameters zs (token right_paren b ∷ w)))
parameter_follows last_parameter b w = tt
parameter_follows (next_parameter a p zs) b w = tt

module _ (integers : Integers) (line : ℕ → ℕ) (n : ℕ) where
  -- what is still to come of some parameters, where others were read
  pub record Left (xs : MoreParameters) (rest : List Token) (first now : Reading) (k₀ k : State) (o₀ o : List Stmt) : Type 0 where
    -- what is to come
    pub ys : MoreParameters
    -- the reader is before that
    pub reader : now ≡ at_tokens first (onto_more_parameters ys rest)
    -- what was read
    pub done : Statements
    -- it stands in the core behind what was there
    pub out : statements_of o ≡ core.followed_by (statements_of o₀) (core_in integers n done)
    -- all is what was read and then what is to come
    pub goes : read_more_parameters integers line k₀ xs ≡ (read_more_parameters integers line k ys >>= λ q. Ok (q.0, followed_by done q.1))

  -- all are at first
  pub all_left : (xs : MoreParameters) (rest : List Token) (first : Reading) (k : State) (o : List Stmt)
      → first.ahead ≡ onto_more_parameters xs rest → Left xs rest first first k k o o
  all_left xs rest first k o e = record {
    ys = xs;
    reader = let P : List Token → Type 0 = λ ts. first ≡ at_tokens first ts in subst P e refl;
    done = nil;
    out = sym (followed_nil (statements_of o));
    goes = bind_ok (read_more_parameters integers line k xs) (λ q. (q.0, q.1)) (λ q. refl);
  }

  -- the next one
  pub record Next (xs : MoreParameters) (rest : List Token) (first now : Reading) (k₀ k : State) (o₀ o : List Stmt) : Type 0 where
    -- it
    pub x : Parameter
    -- what is behind it
    pub zs : MoreParameters
    -- the reader is before that
    pub reader : passed now ≡ at_tokens first (onto_parameter x (onto_more_parameters zs rest))
    -- what stands behind it may
    pub follow : AfterPart (first_kind (onto_more_parameters zs rest))
    -- what was read
    pub done : Statements
    -- it stands in the core behind what was there
    pub out : statements_of o ≡ core.followed_by (statements_of o₀) (core_in integers n done)
    -- all is what was read and then what is to come
    pub goes : read_more_parameters integers line k₀ xs
        ≡ (read_parameter integers line k x >>= λ r. read_more_parameters integers line r.0 zs >>= λ q. Ok (
          q.0,
          followed_by done
              (followed_by r.1 q.1),
        ))

  -- it is there where a comma is
  pub next_left : (xs : MoreParameters) (b : ℕ) (w : List Token) (first now : Reading) (k₀ k : State) (o₀ o : List Stmt)
      → Left xs (token right_paren b ∷ w) first now k₀ k o₀ o → start_in (first_kind now.ahead) ≡ a_comma
      → Next xs (token right_paren b ∷ w) first now k₀ k o₀ o
  next_left xs b w first now k₀ k o₀ o l c = on l.ys l.reader l.goes where
    on : (ys : MoreParameters) → now ≡ at_tokens first (onto_more_parameters ys (token right_paren b ∷ w))
        → read_more_parameters integers line k₀ xs ≡ (read_more_parameters integers line k ys >>= λ q. Ok (q.0, followed_by l.done q.1))
        → Next xs (token right_paren b ∷ w) first now k₀ k o₀ o
    on last_parameter e q =
        let i : start_in (first_kind now.ahead) ≡ start_in right_paren = ap (λ (r : Reading). start_in (first_kind r.ahead)) e in
        absurd cc
    on (next_parameter a x zs) e q = record {
      x = x;
      zs = zs;
      reader = ap passed e;
      follow = parameter_follows zs b w;
      done = l.done;
      out = l.out;
      goes = q ∙ bind_assoc (read_parameter integers line k x)
          (λ r. read_more_parameters integers line r.0 zs >>= λ q. Ok (q.0, followed_by r.1 q.1)) (λ q. Ok (q.0, followed_by l.done q.1))
          ∙ bind_same (read_parameter integers line k x)
          (λ r. (read_more_parameters integers line r.0 zs >>= λ q. Ok (q.0, followed_by r.1 q.1)) >>= λ q. Ok
          (q.0, followed_by l.done q.1))
          (λ r. read_more_parameters integers line r.0 zs >>= λ q. Ok (q.0, followed_by l.done (followed_by r.1 q.1)))
          (λ r. bind_assoc (read_more_parameters integers line r.0 zs) (λ q. Ok (q.0, followed_by r.1 q.1)) (λ q. Ok
          (q.0, followed_by l.done q.1)));
    }

  -- where it was read the others are left
  pub less_left : (xs : MoreParameters) (rest : List Token) (first now new : Reading) (k₀ k k' : State) (o₀ o o' : List Stmt)
      (u : Unit {0}) (x : Next xs rest first now k₀ k o₀ o)
      → Answers (λ _ r. WasRead integers n (onto_more_parameters x.zs rest) (at_tokens first (onto_parameter x.x
      (onto_more_parameters x.zs rest)))
      new k' o o' r) (Ok u) (read_parameter integers line k x.x)
      → Left xs rest first new k₀ k' o₀ o'
  less_left xs rest first now new k₀ k k' o₀ o o' u x a =
      let r = a.0 in
      let w = a.2 in
      record {
        ys = x.zs;
        reader = w.reader;
        done = followed_by x.done r.1;
        out = w.out ∙ ap (λ s. core.followed_by s (core_in integers n r.1)) x.out
            ∙ followed_assoc (statements_of o₀) (core_in integers n x.done) (core_in integers n r.1)
            ∙ sym (ap (core.followed_by (statements_of o₀)) (core_followed integers n x.done r.1));
        goes = x.goes
            ∙ ap (λ v. v >>= λ r. read_more_parameters integers line r.0 x.zs >>= λ q. Ok (
              q.0,
              followed_by x.done
                  (followed_by r.1 q.1),
            )) a.1
            ∙ bind_same (read_more_parameters integers line r.0 x.zs) (λ q. Ok (q.0, followed_by x.done (followed_by r.1 q.1)))
            (λ q. Ok (q.0, followed_by (followed_by x.done r.1) q.1))
            (λ q. ap (λ s. Ok (q.0, s)) (sym (source_assoc x.done r.1 q.1)))
            ∙ ap (λ (k : State). read_more_parameters integers line k x.zs >>= λ q. Ok (q.0, followed_by (followed_by x.done r.1) q.1))
            (sym w.known);
      }

  -- its fault is that of all
  pub fault_left : {A : Type 0} (Is : A → State × Statements → Type 0) (xs : MoreParameters) (rest : List Token)
      (first now new : Reading) (k₀ k k' : State) (o₀ o o' : List Stmt) (s t : Stop) (x : Next xs rest first now k₀ k o₀ o) → t ≡ s
      → Answers {A = Unit {0}} (λ _ r. WasRead integers n (onto_more_parameters x.zs rest) (at_tokens first (onto_parameter x.x
      (onto_more_parameters x.zs rest)))
      new k' o o' r) (Err s) (read_parameter integers line k x.x)
      → Answers Is (Err t) (read_more_parameters integers line k₀ xs)
  fault_left {A} Is xs rest first now new k₀ k k' o₀ o o' s t x e a =
      let P : Result (State × Statements) FunctionFault → Type 0 = λ v. Answers Is (Err t) v in
      subst P (sym x.goes) (fault_then {A = Unit {0}} (λ _ r. WasRead integers n (onto_more_parameters x.zs rest)
      (at_tokens first (onto_parameter x.x (onto_more_parameters x.zs rest))) new k' o o' r) Is s t
      (read_parameter integers line k x.x)
      (λ r. read_more_parameters integers line r.0 x.zs >>= λ q. Ok (q.0, followed_by x.done (followed_by r.1 q.1))) e a)

  -- where no comma is all were read
  pub none_left : (xs : MoreParameters) (rest : List Token) (first now : Reading) (k₀ k : State) (o₀ o : List Stmt) (u : Unit {0})
      → Left xs rest first now k₀ k o₀ o → (start_in (first_kind now.ahead) ≡ a_comma → ⊥)
      → Answers (λ _ r. WasRead integers n rest first now k o₀ o r) (Ok u) (read_more_parameters integers line k₀ xs)
  none_left xs rest first now k₀ k o₀ o u l c = on l.ys l.reader l.goes where
    on : (ys : MoreParameters) → now ≡ at_tokens first (onto_more_parameters ys rest)
        → read_more_parameters integers line k₀ xs ≡ (read_more_parameters integers line k ys >>= λ q. Ok (q.0, followed_by l.done q.1))
        → Answers (λ _ r. WasRead integers n rest first now k o₀ o r) (Ok u) (read_more_parameters integers line k₀ xs)
    on last_parameter e q = ((k, l.done), q ∙ ap (λ s. Ok (k, s)) (source_nil l.done), record { known = refl; out = l.out; reader = e })
    on (next_parameter a x zs) e q = absurd (c (ap (λ (r : Reading). start_in (first_kind r.ahead)) e))
