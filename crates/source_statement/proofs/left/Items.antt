-- The statements that are still to come while those of a block are read.
use Rattle.std.proofs.Common.{◌≡◌, ◌∙◌, ℕ, Bool, true, false, List, ◌∷◌, Result, Ok, Err, refl, sym, ap, subst}
use Rattle.lang_tree.specs.View.{statements_of}
use Rattle.lang_tree.specs.declared.stmt.Stmt.{Stmt}
use Rattle.source_grammar.specs.Tokens.{Token, token, right_brace}
use Rattle.source_grammar.specs.Grammar.{Items, no_items, label, declaration, plain_int, const_int, item, GoodItems, updates, update, place}
use Rattle.source_grammar.specs.Grammar.{step_before, Core}
use Rattle.source_tree.specs.Statements.{Statements, nil}
use Rattle.source_tree.specs.Statements as c
use Rattle.source_core.specs.Core as core
use Rattle.source_core.specs.Core.{core_in}
use Rattle.source_meaning.specs.declared.fault.FunctionFault.{FunctionFault}
use Rattle.source_meaning.specs.Results.{◌>>=◌}
use Rattle.source_meaning.specs.Names.{State}
use Rattle.source_meaning.specs.Statements.{followed_by, read_items, new_label, one}
use Rattle.source_reader.specs.Reading.{Reading, at_tokens, first_kind}
use Rattle.source_reader.specs.Answers.{Answers}
use Rattle.source_reader.specs.declared.stop.Stop.{Stop}
use Rattle.source_change.specs.Tests.{WasRead}
use Rattle.source_change.proofs.lists.Deeds.{followed_assoc, followed_nil}
use Rattle.source_change.proofs.lists.Statements.{core_followed, source_assoc, source_nil}
use Rattle.source_change.proofs.results.Answered.{fault_then}
use Rattle.source_change.proofs.results.Binds.{bind_assoc, bind_same, bind_ok}
use Rattle.source_statement.specs.Onto.{onto_core, onto_items}
use Rattle.source_statement.specs.Starts.{start_in, is_closing}
use Rattle.source_statement.specs.Parts.{GoodOne, others, read_one}
use Rattle.base_integers.specs.declared.integers.Integers.{Integers}

-- a statement doesn't begin with a `}`
no_close : (c : Core) (w : List Token) → is_closing (start_in (first_kind (onto_core c w))) ≡ false
no_close (updates (update (place x a i) f) c) w = refl
no_close (updates (step_before g a p) c) w = refl
no_close _ w = refl

module _ (integers : Integers) (line : ℕ → ℕ) (n : ℕ) (inside : Bool) where
  -- statements are the first and the others
  pub one_then : (st : State) (is : Items) → GoodOne is
      → read_items integers line n inside st is
      ≡ (read_one integers line n inside st is >>= λ r. read_items integers line n inside r.0 (others is) >>= λ q. Ok
      (q.0, followed_by r.1 q.1))
  one_then st no_items g = absurd g
  one_then st (label x at b is) g = sym (bind_assoc (new_label x at st) (λ now. Ok (now, one (c.label x.text (line at))))
      (λ r. read_items integers line n inside r.0 is >>= λ q. Ok (q.0, followed_by r.1 q.1)))
  one_then st (declaration a xs b is) g = refl
  one_then st (item c is) g = refl

  -- what is still to come of some statements, where others were read
  pub record Left (is : Items) (rest : List Token) (first now : Reading) (k₀ k : State) (o₀ o : List Stmt) : Type 0 where
    -- what is to come
    pub js : Items
    -- it keeps to the grammar
    pub good : GoodItems js
    -- the reader is before it
    pub reader : now ≡ at_tokens first (onto_items js rest)
    -- what was read
    pub done : Statements
    -- it stands in the core behind what was there
    pub out : statements_of o ≡ core.followed_by (statements_of o₀) (core_in integers n done)
    -- all is what was read and then what is to come
    pub goes : read_items integers line n inside k₀ is ≡ (read_items integers line n inside k js >>= λ q. Ok (q.0, followed_by done q.1))

  -- all are at first
  pub all_left : (is : Items) (rest : List Token) (first : Reading) (k : State) (o : List Stmt) → GoodItems is
      → first.ahead ≡ onto_items is rest → Left is rest first first k k o o
  all_left is rest first k o g e = record {
    js = is;
    good = g;
    reader = let P : List Token → Type 0 = λ ts. first ≡ at_tokens first ts in subst P e refl;
    done = nil;
    out = sym (followed_nil (statements_of o));
    goes = bind_ok (read_items integers line n inside k is) (λ q. (q.0, q.1)) (λ q. refl);
  }

  -- there is one where no `}` comes next
  pub some_left : (js : Items) (b : ℕ) (w : List Token) → GoodItems js
      → is_closing (start_in (first_kind (onto_items js (token right_brace b ∷ w)))) ≡ false → GoodOne js
  some_left no_items b w g h = cc
  some_left (label x a c is) b w g h = tt
  some_left (declaration a xs c is) b w g h = g.0
  some_left (item c is) b w g h = g.0

  -- the others are good
  pub others_good : (js : Items) → GoodItems js → GoodItems (others js)
  others_good no_items g = g
  others_good (label x a c is) g = g
  others_good (declaration a xs c is) g = g.1
  others_good (item c is) g = g.1

  -- where one was read the others are left
  pub less_left : (is : Items) (rest : List Token) (first now new : Reading) (k₀ k k' : State) (o₀ o o' : List Stmt) (u : Unit {0})
      (l : Left is rest first now k₀ k o₀ o) → GoodOne l.js
      → Answers (λ _ r. WasRead integers n (onto_items (others l.js) rest) (at_tokens first (onto_items l.js rest)) new k' o o' r) (Ok u)
      (read_one integers line n inside k l.js)
      → Left is rest first new k₀ k' o₀ o'
  less_left is rest first now new k₀ k k' o₀ o o' u l g a =
      let r = a.0 in
      let w = a.2 in
      record {
        js = others l.js;
        good = others_good l.js l.good;
        reader = w.reader;
        done = followed_by l.done r.1;
        out = w.out ∙ ap (λ s. core.followed_by s (core_in integers n r.1)) l.out
            ∙ followed_assoc (statements_of o₀) (core_in integers n l.done) (core_in integers n r.1)
            ∙ sym (ap (core.followed_by (statements_of o₀)) (core_followed integers n l.done r.1));
        goes = l.goes ∙ ap (λ v. v >>= λ q. Ok (q.0, followed_by l.done q.1)) (one_then k l.js g
            ∙ ap (λ v. v >>= λ r. read_items integers line n inside r.0 (others l.js) >>= λ q. Ok (q.0, followed_by r.1 q.1)) a.1)
            ∙ bind_assoc (read_items integers line n inside r.0 (others l.js)) (λ q. Ok (q.0, followed_by r.1 q.1)) (λ q. Ok
            (q.0, followed_by l.done q.1))
            ∙ bind_same (read_items integers line n inside r.0 (others l.js)) (λ q. Ok (q.0, followed_by l.done (followed_by r.1 q.1)))
            (λ q. Ok (q.0, followed_by (followed_by l.done r.1) q.1))
            (λ q. ap (λ s. Ok (q.0, s)) (sym (source_assoc l.done r.1 q.1)))
            ∙ ap (λ (k : State). read_items integers line n inside k (others l.js) >>= λ q. Ok (
              q.0,
              followed_by
                  (followed_by l.done r.1) q.1,
            ))
            (sym w.known);
      }

  -- its fault is that of all
  pub fault_left : {A : Type 0} (Is : A → State × Statements → Type 0) (is : Items) (rest : List Token) (first now new : Reading)
      (k₀ k k' : State) (o₀ o o' : List Stmt) (s t : Stop) (l : Left is rest first now k₀ k o₀ o) → GoodOne l.js → t ≡ s
      → Answers {A = Unit {0}} (λ _ r. WasRead integers n (onto_items (others l.js) rest) (at_tokens first
      (onto_items l.js rest)) new k' o o' r) (Err s)
      (read_one integers line n inside k l.js)
      → Answers Is (Err t) (read_items integers line n inside k₀ is)
  fault_left {A} Is is rest first now new k₀ k k' o₀ o o' s t l g e a =
      let P : Result (State × Statements) FunctionFault → Type 0 = λ v. Answers Is (Err t) v in
      let f = fault_then {A = Unit {0}} (λ _ r. WasRead integers n (onto_items (others l.js) rest) (at_tokens first
      (onto_items l.js rest)) new k' o o' r) Is
      s t (read_one integers line n inside k l.js)
      (λ r. (read_items integers line n inside r.0 (others l.js) >>= λ q. Ok (q.0, followed_by r.1 q.1)) >>= λ q. Ok
      (q.0, followed_by l.done q.1)) e a in
      subst P (sym (l.goes ∙ ap (λ v. v >>= λ q. Ok (q.0, followed_by l.done q.1)) (one_then k l.js g)
      ∙ bind_assoc (read_one integers line n inside k l.js) (λ r. read_items integers line n inside r.0 (others l.js) >>= λ q. Ok
      (q.0, followed_by r.1 q.1))
      (λ q. Ok (q.0, followed_by l.done q.1)))) f

  -- where a `}` comes next all were read
  pub none_left : (is : Items) (b : ℕ) (w : List Token) (first now : Reading) (k₀ k : State) (o₀ o : List Stmt) (u : Unit {0})
      → Left is (token right_brace b ∷ w) first now k₀ k o₀ o → is_closing (start_in (first_kind now.ahead)) ≡ true
      → Answers (λ _ r. WasRead integers n (token right_brace b ∷ w) first now k o₀ o r) (Ok u) (read_items integers line n inside k₀ is)
  none_left is b w first now k₀ k o₀ o u l c = on l.js l.reader l.goes where
    on : (js : Items) → now ≡ at_tokens first (onto_items js (token right_brace b ∷ w))
        → read_items integers line n inside k₀ is ≡ (read_items integers line n inside k js >>= λ q. Ok (q.0, followed_by l.done q.1))
        → Answers (λ _ r. WasRead integers n (token right_brace b ∷ w) first now k o₀ o r) (Ok u) (read_items integers line n inside k₀ is)
    on no_items e q = ((k, l.done), q ∙ ap (λ s. Ok (k, s)) (source_nil l.done), record { known = refl; out = l.out; reader = e })
    on (label x a d is) e q =
        let i : is_closing (start_in (first_kind now.ahead)) ≡ false = ap (λ (r : Reading). is_closing (start_in
        (first_kind r.ahead))) e in absurd cc
    on (declaration (plain_int a) xs d is) e q =
        let i : is_closing (start_in (first_kind now.ahead)) ≡ false = ap (λ (r : Reading). is_closing (start_in
        (first_kind r.ahead))) e in absurd cc
    on (declaration (const_int a b) xs d is) e q =
        let i : is_closing (start_in (first_kind now.ahead)) ≡ false = ap (λ (r : Reading). is_closing (start_in
        (first_kind r.ahead))) e in absurd cc
    on (item d is) e q =
        let i : is_closing (start_in (first_kind now.ahead)) ≡ false = ap (λ (r : Reading). is_closing (start_in (first_kind r.ahead))) e
        ∙ no_close d (onto_items is (token right_brace b ∷ w)) in
        absurd cc
