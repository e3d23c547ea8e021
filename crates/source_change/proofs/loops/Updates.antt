-- The changes that are still to come while changes are read.
use Rattle.std.proofs.Common.{◌≡◌, ◌∙◌, ◌++◌, ℕ, true, false, List, [], ◌∷◌, Result, Ok, Err, refl, sym, ap, subst, append_assoc}
use Rattle.std.proofs.lemmas.List.{append-nil}
use Rattle.lang_tree.specs.View.{deeds_of}
use Rattle.lang_tree.specs.declared.deed.Deed.{Deed}
use Rattle.std.specs.declared.alloc.Global.{Global}
use Rattle.std.specs.declared.vec.Vec.{Vec}
use Rattle.source_grammar.specs.Tokens.{Kind, Token, semicolon, right_paren}
use Rattle.source_grammar.specs.Grammar.{MoreUpdates, last_update, next_update, GoodMoreUpdates, Update, GoodUpdate}
use Rattle.source_grammar.proofs.grammar.Follow.{AfterList, AfterPart, list_part}
use Rattle.source_tree.specs.Statements.{Change}
use Rattle.source_core.specs.Core.{change_deeds, changes_deeds}
use Rattle.source_meaning.specs.declared.fault.FunctionFault.{FunctionFault}
use Rattle.source_meaning.specs.Results.{◌>>=◌}
use Rattle.source_meaning.specs.Names.{State}
use Rattle.source_meaning.specs.Changes.{read_update}
use Rattle.source_meaning.specs.Statements.{read_more_updates}
use Rattle.source_reader.specs.Reading.{Reading, at_tokens, first_kind, passed}
use Rattle.source_reader.specs.Answers.{Answers}
use Rattle.source_reader.specs.declared.stop.Stop.{Stop}
use Rattle.source_change.specs.Onto.{onto_update, onto_more_updates}
use Rattle.source_change.specs.Nexts.{is_comma}
use Rattle.source_change.specs.Tests.{WasChanged, WereChanged}
use Rattle.source_change.proofs.results.Answered.{fault_then}
use Rattle.source_change.proofs.results.Binds.{bind_assoc, bind_same, bind_ok}
use Rattle.base_integers.specs.declared.integers.Integers.{Integers}

-- changes and then others
pub changes_append : (integers : Integers) (n : ℕ) (gs hs : List Change)
    → changes_deeds integers n (gs ++ hs) ≡ changes_deeds integers n gs ++ changes_deeds integers n hs
changes_append integers n [] hs = refl
changes_append integers n (g ∷ gs) hs = ap (λ ds. change_deeds integers n g ++ ds) (changes_append integers n gs hs)
    ∙ sym (append_assoc (change_deeds integers n g) (changes_deeds integers n gs) (changes_deeds integers n hs))

module _ (integers : Integers) (line : ℕ → ℕ) (n : ℕ) where
  -- what is still to come of some changes, where others were read
  pub record Left (us : MoreUpdates) (rest : List Token) (first now : Reading) (k₀ k : State) (o₀ o : List Deed) : Type 0 where
    -- what is still to come
    pub vs : MoreUpdates
    -- it groups as it must
    pub good : GoodMoreUpdates vs
    -- the reader stands before it
    pub reader : now ≡ at_tokens first (onto_more_updates vs rest)
    -- the changes that were read
    pub done : List Change
    -- the list has their deeds behind what it had
    pub out : deeds_of o ≡ deeds_of o₀ ++ changes_deeds integers n done
    -- the walk goes on with what is still to come
    pub goes : read_more_updates integers line n k₀ us ≡ (read_more_updates integers line n k vs >>= λ q. Ok (q.0, done ++ q.1))

  -- all are at first
  pub all_left : (us : MoreUpdates) (rest : List Token) (first : Reading) (k : State) (o : List Deed) → GoodMoreUpdates us
      → first.ahead ≡ onto_more_updates us rest → Left us rest first first k k o o
  all_left us rest first k o g e = record {
    vs = us;
    good = g;
    reader = let P : List Token → Type 0 = λ ts. first ≡ at_tokens first ts in subst P e refl;
    done = [];
    out = sym (append-nil (deeds_of o));
    goes = bind_ok (read_more_updates integers line n k us) (λ q. (q.0, q.1)) (λ q. refl);
  }

  -- the next one
  pub record Next (us : MoreUpdates) (rest : List Token) (first now : Reading) (k₀ k : State) (o₀ o : List Deed) : Type 0 where
    -- the next one
    pub u : Update
    -- what is still to come
    pub vs : MoreUpdates
    -- the next one groups as it must
    pub good : GoodUpdate u
    -- these group as they must
    pub others : GoodMoreUpdates vs
    -- the reader has passed the comma before it
    pub reader : passed now ≡ at_tokens first (onto_update u (onto_more_updates vs rest))
    -- what stands behind it may
    pub follow : AfterPart (first_kind (onto_more_updates vs rest))
    -- the changes that were read
    pub done : List Change
    -- the list has their deeds behind what it had
    pub out : deeds_of o ≡ deeds_of o₀ ++ changes_deeds integers n done
    -- the walk goes on with what is still to come
    pub goes : read_more_updates integers line n k₀ us
        ≡ (read_update integers line n k u >>= λ r. read_more_updates integers line n r.0 vs >>= λ q. Ok (q.0, done ++ r.1 ∷ q.1))

  no_comma : (k : Kind) → AfterList k → is_comma k ≡ false
  no_comma semicolon h = refl
  no_comma right_paren h = refl
  no_comma _ h = absurd h

  -- behind one of them stands what may
  pub part_follows : (vs : MoreUpdates) (rest : List Token) → AfterList (first_kind rest) → AfterPart (first_kind
      (onto_more_updates vs rest))
  part_follows last_update rest h = list_part (first_kind rest) h
  part_follows (next_update a u vs) rest h = tt

  -- it is there where a comma is
  pub next_left : (us : MoreUpdates) (rest : List Token) (first now : Reading) (k₀ k : State) (o₀ o : List Deed)
      → Left us rest first now k₀ k o₀ o → AfterList (first_kind rest) → is_comma (first_kind now.ahead) ≡ true
      → Next us rest first now k₀ k o₀ o
  next_left us rest first now k₀ k o₀ o l h c = on l.vs l.good l.reader l.goes where
    on : (vs : MoreUpdates) → GoodMoreUpdates vs → now ≡ at_tokens first (onto_more_updates vs rest)
        → read_more_updates integers line n k₀ us ≡ (read_more_updates integers line n k vs >>= λ q. Ok (q.0, l.done ++ q.1))
        → Next us rest first now k₀ k o₀ o
    on last_update g e q =
        let i : is_comma (first_kind now.ahead) ≡ false = ap (λ (r : Reading). is_comma (first_kind r.ahead)) e ∙ no_comma
        (first_kind rest) h in
        absurd cc
    on (next_update a u vs) g e q = record {
      u = u;
      vs = vs;
      good = g.0;
      others = g.1;
      reader = ap passed e;
      follow = part_follows vs rest h;
      done = l.done;
      out = l.out;
      goes = q ∙ bind_assoc (read_update integers line n k u)
          (λ r. read_more_updates integers line n r.0 vs >>= λ q. Ok (q.0, r.1 ∷ q.1)) (λ q. Ok (q.0, l.done ++ q.1))
          ∙ bind_same (read_update integers line n k u)
          (λ r. (read_more_updates integers line n r.0 vs >>= λ q. Ok (q.0, r.1 ∷ q.1)) >>= λ q. Ok (q.0, l.done ++ q.1))
          (λ r. read_more_updates integers line n r.0 vs >>= λ q. Ok (q.0, l.done ++ r.1 ∷ q.1))
          (λ r. bind_assoc (read_more_updates integers line n r.0 vs) (λ q. Ok (q.0, r.1 ∷ q.1)) (λ q. Ok (q.0, l.done ++ q.1)));
    }

  -- where it was read the others are left
  pub less_left : (us : MoreUpdates) (rest : List Token) (first now new : Reading) (k₀ k k' : State) (o₀ o o' : List Deed)
      (ds : Vec Deed Global)
      (x : Next us rest first now k₀ k o₀ o)
      → Answers (λ (ds : Vec Deed Global) r. WasChanged integers n (onto_more_updates x.vs rest)
      (at_tokens first (onto_update x.u (onto_more_updates x.vs rest))) new k' ds.items r) (Ok ds) (read_update integers line n k x.u)
      → deeds_of o' ≡ deeds_of o ++ deeds_of ds.items
      → Left us rest first new k₀ k' o₀ o'
  less_left us rest first now new k₀ k k' o₀ o o' ds x a p =
      let r = a.0 in
      let w = a.2 in
      let one : changes_deeds integers n (r.1 ∷ []) ≡ change_deeds integers n r.1 = append-nil (change_deeds integers n r.1) in
      record {
        vs = x.vs;
        good = x.others;
        reader = w.reader;
        done = x.done ++ r.1 ∷ [];
        out = p ∙ ap (λ es. es ++ deeds_of ds.items) x.out ∙ ap (λ es. (deeds_of o₀ ++ changes_deeds integers n x.done) ++ es) (w.deeds
            ∙ sym one)
            ∙ append_assoc (deeds_of o₀) (changes_deeds integers n x.done) (changes_deeds integers n (r.1 ∷ []))
            ∙ ap (λ es. deeds_of o₀ ++ es) (sym (changes_append integers n x.done (r.1 ∷ [])));
        goes = x.goes
            ∙ ap (λ v. v >>= λ r. read_more_updates integers line n r.0 x.vs >>= λ q. Ok (q.0, x.done ++ r.1 ∷ q.1)) a.1
            ∙ bind_same (read_more_updates integers line n r.0 x.vs) (λ q. Ok (q.0, x.done ++ r.1 ∷ q.1)) (λ q. Ok (
              q.0,
              (x.done ++ r.1 ∷ []) ++ q.1,
            ))
            (λ q. ap (λ s. Ok (q.0, s)) (sym (append_assoc x.done (r.1 ∷ []) q.1)))
            ∙ ap (λ (k : State). read_more_updates integers line n k x.vs >>= λ q. Ok (q.0, (x.done ++ r.1 ∷ []) ++ q.1)) (sym w.known);
      }

  -- its fault is that of all
  pub fault_left : {A : Type 0} (Is : A → State × List Change → Type 0) (us : MoreUpdates) (rest : List Token) (first now new : Reading)
      (k₀ k k' : State) (o₀ o : List Deed) (s t : Stop) (x : Next us rest first now k₀ k o₀ o) → t ≡ s
      → Answers (λ (ds : Vec Deed Global) r. WasChanged integers n (onto_more_updates x.vs rest)
      (at_tokens first (onto_update x.u (onto_more_updates x.vs rest))) new k' ds.items r) (Err s) (read_update integers line n k x.u)
      → Answers Is (Err t) (read_more_updates integers line n k₀ us)
  fault_left {A} Is us rest first now new k₀ k k' o₀ o s t x e a =
      let P : Result (State × List Change) FunctionFault → Type 0 = λ v. Answers Is (Err t) v in
      subst P (sym x.goes) (fault_then (λ (ds : Vec Deed Global) r. WasChanged integers n (onto_more_updates x.vs rest)
      (at_tokens first (onto_update x.u (onto_more_updates x.vs rest))) new k' ds.items r) Is s t (read_update integers line n k x.u)
      (λ r. read_more_updates integers line n r.0 x.vs >>= λ q. Ok (q.0, x.done ++ r.1 ∷ q.1)) e a)

  -- where no comma is all were read
  pub none_left : (us : MoreUpdates) (rest : List Token) (first now : Reading) (k₀ k : State) (o₀ o : List Deed) (u : Unit {0})
      → Left us rest first now k₀ k o₀ o → is_comma (first_kind now.ahead) ≡ false
      → Answers (λ _ r. WereChanged integers n rest first now k o₀ o r) (Ok u) (read_more_updates integers line n k₀ us)
  none_left us rest first now k₀ k o₀ o u l c = on l.vs l.reader l.goes where
    on : (vs : MoreUpdates) → now ≡ at_tokens first (onto_more_updates vs rest)
        → read_more_updates integers line n k₀ us ≡ (read_more_updates integers line n k vs >>= λ q. Ok (q.0, l.done ++ q.1))
        → Answers (λ _ r. WereChanged integers n rest first now k o₀ o r) (Ok u) (read_more_updates integers line n k₀ us)
    on last_update e q = ((k, l.done), q ∙ ap (λ s. Ok (k, s)) (append-nil l.done), record { known = refl; deeds = l.out; reader = e })
    on (next_update a u vs) e q =
        let i : is_comma (first_kind now.ahead) ≡ true = ap (λ (r : Reading). is_comma (first_kind r.ahead)) e in absurd cc
