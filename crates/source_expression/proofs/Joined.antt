-- Expressions as their leftmost operands and the signs behind these.
use Rattle.std.proofs.Common.{◌≡◌, ◌∙◌, ◌≤◌, ◌++◌, ℕ, suc, List, [], ◌∷◌, Option, Some, None, Result, Ok, Err, refl}
use Rattle.std.proofs.Common.{sym, ap, ap₂}
use Rattle.std.proofs.Common.{arith, append_assoc, append-nil}
use Rattle.source_tree.specs.Expressions.{Expression}
use Rattle.source_grammar.specs.Tokens.{Op, Token, token, infix_sign, level}
use Rattle.source_grammar.specs.Grammar as tree
use Rattle.source_grammar.specs.Grammar.{Expr, spell_expr, Groups}
use Rattle.source_meaning.specs.declared.fault.FunctionFault.{FunctionFault}
use Rattle.source_meaning.specs.Results.{◌>>=◌}
use Rattle.source_meaning.specs.Names.{State}
use Rattle.source_meaning.specs.Expressions.{first_of, read}
use Rattle.source_value.specs.declared.site.Site.{Site}
use Rattle.source_value.specs.declared.value.Value.{Value}
use Rattle.source_reader.specs.declared.stop.Stop.{Stop}
use Rattle.source_reader.specs.Reading.{Reading, first_kind}
use Rattle.source_expression.specs.Signs.{sign_in}
use Rattle.source_expression.specs.Sides.{IsRead}
use Rattle.source_expression.specs.Readings.{Reads}
use Rattle.source_expression.specs.Joins.{Join, spell_joins, Falls, Stops, joined_with, goes_with}
use Rattle.source_expression.proofs.Answering.{err_then, wanted_of}
use Rattle.source_expression.proofs.Shapes.{level_between, stops_more, stops_looser, stops_signs, sign_found}
use Rattle.base_integers.specs.declared.integers.Integers.{Integers}

-- ---- results
-- a value alone may come next of itself
pub bind_ok : {A : Type 0} (r : Result A FunctionFault) → (r >>= λ x. Ok x) ≡ r
bind_ok (Ok x) = refl
bind_ok (Err e) = refl

-- what comes next may come next in two steps
pub bind_assoc : {A B C : Type 0} (r : Result A FunctionFault) (f : A → Result B FunctionFault) (g : B → Result C FunctionFault)
    → ((r >>= f) >>= g) ≡ (r >>= λ x. f x >>= g)
bind_assoc (Ok x) f g = refl
bind_assoc (Err e) f g = refl

-- the same comes next of each value
pub bind_same : {A B : Type 0} (r : Result A FunctionFault) (f g : A → Result B FunctionFault) → ((x : A) → f x ≡ g x)
    → (r >>= f) ≡ (r >>= g)
bind_same (Ok x) f g h = h x
bind_same (Err e) f g h = refl

-- ---- lists of joins
abbrev one_more : List Join → Join → List Join
one_more js j = js ++ (j ∷ [])

falls_more : (least most : ℕ) (js : List Join) (j : Join) → Falls (level j.op) most js → least ≤ level j.op → level j.op ≤ most
    → Groups (suc (level j.op)) j.right → Falls least most (one_more js j)
falls_more least most [] j f l m g = (l, m, g, tt)
falls_more least most (k ∷ js) j f l m g =
    let p = f.0 in
    (omega (arith, p, l), f.1, f.2, falls_more least (level k.op) js j f.3 l p g)

spell_more : (js : List Join) (j : Join)
    → spell_joins (one_more js j) ≡ spell_joins js ++ token (infix_sign j.op) j.at ∷ spell_expr j.right
spell_more [] j = ap (λ ts. token (infix_sign j.op) j.at ∷ ts) (append-nil (spell_expr j.right))
spell_more (k ∷ js) j = ap (λ ts. token (infix_sign k.op) k.at ∷ ts)
    (ap (λ ts. spell_expr k.right ++ ts) (spell_more js j) ∙ sym (append_assoc (spell_expr k.right) (spell_joins js) _))

module _ (integers : Integers) (line : ℕ) (st : State) (first h : ℕ) where
  goes_more : (x : Expression) (js : List Join) (j : Join) → goes_with integers line st first x (one_more js j) h
      ≡ (goes_with integers line st first x js h >>= λ y. joined_with integers line st first y j h)
  goes_more x [] j = bind_ok (joined_with integers line st first x j h)
  goes_more x (k ∷ js) j = bind_same (joined_with integers line st first x k h) (λ y. goes_with integers line st first y (one_more js j) h)
      (λ y. goes_with integers line st first y js h >>= λ z. joined_with integers line st first z j h) (λ y. goes_more y js j)
      ∙ sym (bind_assoc (joined_with integers line st first x k h) (λ y. goes_with integers line st first y js h)
      (λ z. joined_with integers line st first z j h))

-- An expression is an operand with the signs behind it, none of which holds looser than this level.
pub record Split (integers : Integers) (line : ℕ) (st : State) (h least : ℕ) (e : Expr) : Type 0 where
  -- the leftmost operand
  pub operand : Expr
  -- the signs behind it
  pub joins : List Join
  -- the operand groups as one
  pub groups : Groups 7 operand
  -- the signs hold no looser than they may
  pub falls : Falls least 7 joins
  -- both begin at one place
  pub first : first_of e ≡ first_of operand
  -- both are spelled alike
  pub spelled : spell_expr e ≡ spell_expr operand ++ spell_joins joins
  -- both are read alike
  pub reads : read integers line st e h ≡ (read integers line st operand h >>= λ x. goes_with integers line st (first_of operand) x joins h)

module _ (integers : Integers) (line : ℕ) (st : State) (h : ℕ) where
  alone : (least : ℕ) (e : Expr) → Groups 7 e → Split integers line st h least e
  alone least e g = record {
    operand = e;
    joins = [];
    groups = g;
    falls = tt;
    first = refl;
    spelled = sym (append-nil (spell_expr e));
    reads = sym (bind_ok (read integers line st e h));
  }

  with_join : (least : ℕ) (e : Expr) (o : Op) (a : ℕ) (f : Expr) → least ≤ level o → Groups (suc (level o)) f
      → Split integers line st h (level o) e → Split integers line st h least (tree.joined e o a f)
  with_join least e o a f l g s =
      let j : Join = record { op = o; at = a; right = f } in
      let first = first_of s.operand in
      record {
        operand = s.operand;
        joins = one_more s.joins j;
        groups = s.groups;
        falls = falls_more least 7 s.joins j s.falls l (let m = (level_between o).1 in omega (arith, m)) g;
        first = s.first;
        spelled = ap (λ ts. ts ++ token (infix_sign o) a ∷ spell_expr f) s.spelled
            ∙ append_assoc (spell_expr s.operand) (spell_joins s.joins) _
            ∙ ap (λ ts. spell_expr s.operand ++ ts) (sym (spell_more s.joins j));
        reads = ap₂ (λ r n. r >>= λ x. joined_with integers line st n x j h) s.reads s.first
            ∙ bind_assoc (read integers line st s.operand h) (λ x. goes_with integers line st first x s.joins h)
            (λ y. joined_with integers line st first y j h)
            ∙ bind_same (read integers line st s.operand h) _ _ (λ x. sym (goes_more integers line st first h x s.joins j));
      }

  -- each is one
  pub split : (least : ℕ) (e : Expr) → 1 ≤ least → Groups least e → Split integers line st h least e
  split least (tree.number v a) l g = alone least (tree.number v a) g
  split least (tree.variable x a) l g = alone least (tree.variable x a) g
  split least (tree.element x a is) l g = alone least (tree.element x a is) g
  split least (tree.stepped_behind x a d b) l g = alone least (tree.stepped_behind x a d b) g
  split least (tree.stepped_before d a x b) l g = alone least (tree.stepped_before d a x b) g
  split least (tree.call x a b es c) l g = alone least (tree.call x a b es c) g
  split least (tree.free a b c) l g = alone least (tree.free a b c) g
  split least (tree.grouped a e b) l g = alone least (tree.grouped a e b) g
  split least (tree.prefixed p a e) l g = alone least (tree.prefixed p a e) g
  split least (tree.joined e o a f) l g = with_join least e o a f g.0 g.2 (split (level o) e (level_between o).0 g.1)
  split least (tree.chosen c a e b f) l g = let k = g.0 in absurd (omega (arith, l, k))

-- ---- what was read so far
-- an expression is read up to some of its signs
pub record Goes (site : Site) (st : State) (h least first : ℕ) (e : Expr) (rest : List Token) (v : Value)
    (ahead : List Token) : Type 0 where
  -- what was read
  pub so_far : Expression
  -- the signs behind it
  pub joins : List Join
  -- the level of the last sign
  pub most : ℕ
  -- the signs hold no looser than they may
  pub falls : Falls least most joins
  -- the others are to come
  pub ahead_is : ahead ≡ spell_joins joins ++ rest
  -- the code has what was read
  pub stands : IsRead site h v so_far
  -- both are read alike
  pub reads : read site.integers site.line st e h ≡ goes_with site.integers site.line st first so_far joins h

-- an expression stops before the next of its signs
pub stops_join : (least : ℕ) (o : Op) (js : List Join) (rest : List Token) → least ≤ level o → Falls least (level o) js → Stops least rest
    → Stops (suc (level o)) (spell_joins js ++ rest)
stops_join least o [] rest l f s = stops_more least (suc (level o)) (first_kind rest) (omega (arith, l)) s
stops_join least o (k ∷ js) rest l f s = let m = f.1 in stops_looser (suc (level o)) k.op (omega (arith, m))

module _ (site : Site) (st : State) (h least first : ℕ) (e : Expr) (rest : List Token) (stops : Stops least rest) where
  abbrev Here : Value → List Token → Type 0
  Here v ahead = Goes site st h least first e rest v ahead

  -- behind the operand
  pub goes_first : (s : Split site.integers site.line st h least e) (v : Value) (x : Expression) (ahead : List Token)
      → first ≡ first_of s.operand
      → read site.integers site.line st s.operand h ≡ Ok x → IsRead site h v x → ahead ≡ spell_joins s.joins ++ rest → Here v ahead
  goes_first s v x ahead p r i a = record {
    so_far = x;
    joins = s.joins;
    most = 7;
    falls = s.falls;
    ahead_is = a;
    stands = i;
    reads = s.reads ∙ ap₂ (λ r n. r >>= λ x. goes_with site.integers site.line st n x s.joins h) r (sym p);
  }

  -- where no sign is found
  pub goes_last : (v : Value) (after : Reading) → Here v after.ahead → sign_in least (first_kind after.ahead) ≡ None
      → Reads site h (read site.integers site.line st e h) rest (Ok v) after
  goes_last v after g n = by g.joins g.falls g.ahead_is g.reads where
    by : (js : List Join) → Falls least g.most js → after.ahead ≡ spell_joins js ++ rest
        → read site.integers site.line st e h ≡ goes_with site.integers site.line st first g.so_far js h
        → Reads site h (read site.integers site.line st e h) rest (Ok v) after
    by [] f a r = (g.so_far, r, (g.stands, a))
    by (j ∷ js) f a r =
        let k : first_kind after.ahead ≡ infix_sign j.op = ap first_kind a in
        let m : Option Op = None in
        let t : m ≡ Some j.op = sym n ∙ ap (sign_in least) k ∙ sign_found least j.op f.0 in
        absurd cc

  -- what reading one sign with its right side answers
  abbrev pub Joins : Value → (o : Op) → List Token → Result Value Stop → Reading → Type 0
  Joins v o ahead result after = (x : Expression) (h : ℕ) (j : Join) (rest : List Token) → IsRead site h v x → j.op ≡ o
      → Groups (suc (level j.op)) j.right → Stops (suc (level j.op)) rest
      → ahead ≡ token (infix_sign j.op) j.at ∷ (spell_expr j.right ++ rest)
      → Reads site h (joined_with site.integers site.line st first x j h) rest result after

  -- what that has to give
  abbrev pub Then : Result Value Stop → Reading → Type 0
  Then (Ok v) after = Here v after.ahead
  Then (Err s) after = Reads site h (read site.integers site.line st e h) rest (Err s) after

  then_of : (x : Expression) (j : Join) (js : List Join) (most : ℕ) (result : Result Value Stop) (after : Reading) → Falls least most js
      → read site.integers site.line st e h ≡ (joined_with site.integers site.line st first x j h >>= λ y. goes_with site.integers
      site.line st first y js h)
      → Reads site h (joined_with site.integers site.line st first x j h) (spell_joins js ++ rest) result after → Then result after
  then_of x j js most (Ok v) after f r a = record {
    so_far = a.0;
    joins = js;
    most = most;
    falls = f;
    ahead_is = a.2.1;
    stands = a.2.0;
    reads = r ∙ ap (λ w. w >>= λ y. goes_with site.integers site.line st first y js h) a.1;
  }
  then_of x j js most (Err s) after f r a = wanted_of (λ v x. IsRead site h v x × (after.ahead ≡ rest)) (Err s) _ _ r
      (err_then (λ v x. IsRead site h v x × (after.ahead ≡ spell_joins js ++ rest)) (λ v x. IsRead site h v x × (after.ahead ≡ rest)) s
      (joined_with site.integers site.line st first x j h) (λ y. goes_with site.integers site.line st first y js h) a)

  -- where one is found
  pub goes_next : (v : Value) (ahead : List Token) (o : Op) (result : Result Value Stop) (after : Reading) → Here v ahead
      → sign_in least (first_kind ahead) ≡ Some o → Joins v o ahead result after → Then result after
  goes_next v ahead o result after g n k = by g.joins g.falls g.ahead_is g.reads where
    by : (js : List Join) → Falls least g.most js → ahead ≡ spell_joins js ++ rest
        → read site.integers site.line st e h ≡ goes_with site.integers site.line st first g.so_far js h → Then result after
    by [] f a r =
        let m : Option Op = None in
        let t : Some o ≡ m = sym n ∙ ap (λ ts. sign_in least (first_kind ts)) a ∙ stops_signs least (first_kind rest) stops in
        absurd cc
    by (j ∷ js) f a r =
        let p : first_kind ahead ≡ infix_sign j.op = ap first_kind a in
        let t : Some o ≡ Some j.op = sym n ∙ ap (sign_in least) p ∙ sign_found least j.op f.0 in
        let q : j.op ≡ o = cc in
        then_of g.so_far j js (level j.op) result after f.3 r
        (k g.so_far h j (spell_joins js ++ rest) g.stands q f.2 (stops_join least j.op js rest f.0 f.3 stops)
        (a ∙ ap (λ ts. token (infix_sign j.op) j.at ∷ ts) (append_assoc (spell_expr j.right) (spell_joins js) rest)))
