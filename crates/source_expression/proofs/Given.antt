-- Arguments, as they are read one after another.
use Rattle.std.proofs.Common.{◌≡◌, ◌∙◌, ◌++◌, ℕ, Bool, true, false, cond, List, Option, Result, Ok, Err, refl, sym, ap, subst}
use Rattle.std.proofs.Common.{append_assoc}
use Rattle.std.specs.Prelude.{◌&&◌}
use Rattle.std.specs.Result.{IsErrAnd}
use Rattle.source_tree.specs.Expressions.{Expressions, none}
use Rattle.source_core.specs.Elaborated.{evaluated}
use Rattle.source_grammar.specs.Tokens as g
use Rattle.source_grammar.specs.Tokens.{Kind, Token, right_paren}
use Rattle.source_grammar.specs.View.{plain_kind}
use Rattle.source_grammar.specs.Grammar as tree
use Rattle.source_grammar.specs.Grammar.{Expr, Arguments, MoreArguments, no_arguments, arguments, last_argument, next_argument}
use Rattle.source_grammar.specs.Grammar.{spell_expr, spell_arguments, spell_more_arguments, Groups, GoodArguments, GoodMoreArguments}
use Rattle.source_grammar.proofs.grammar.Follow.{AfterExpr}
use Rattle.source_meaning.specs.Results.{◌>>=◌}
use Rattle.source_meaning.specs.Names.{Thing, State, thing_of}
use Rattle.source_meaning.specs.Expressions.{is_array, is_array_name, read_arguments}
use Rattle.source_value.specs.declared.site.Site.{Site}
use Rattle.source_value.specs.declared.value.Evaluated.{Evaluated}
use Rattle.source_value.specs.Stands.{StandsEvaluated}
use Rattle.source_reader.specs.declared.stop.Stop.{Stop}
use Rattle.source_reader.specs.Answers.{Answers}
use Rattle.source_reader.specs.Reading.{Reading, behind_first, first_kind}
use Rattle.source_expression.specs.Signs.{is_closing, is_comma, is_name}
use Rattle.source_expression.specs.Sides.{IsEvaluatedOf}
use Rattle.source_expression.specs.Readings.{ReadsAll}
use Rattle.source_expression.specs.Joins.{read_behind, with_last}
use Rattle.source_expression.specs.Lists.{ends_argument, read_one, read_argument}
use Rattle.source_expression.proofs.Answering.{handed_then, ok_then, wanted_of}
use Rattle.source_expression.proofs.Listed.{with_none, first_argument_read, next_argument_read}

-- neither a name nor a number is `)`
pub closing_plain : (k : Kind) → is_closing (plain_kind k) ≡ is_closing k
closing_plain (g.a_name x) = refl
closing_plain (g.a_number n) = refl
closing_plain _ = refl

-- nor is one `,`
pub comma_plain : (k : Kind) → is_comma (plain_kind k) ≡ is_comma k
comma_plain (g.a_name x) = refl
comma_plain (g.a_number n) = refl
comma_plain _ = refl

-- a name is one without its text
pub name_plain : (k : Kind) → is_name (plain_kind k) ≡ is_name k
name_plain (g.a_name x) = refl
name_plain (g.a_number n) = refl
name_plain _ = refl

-- nor does one end an argument
pub ends_plain : (k : Kind) → ends_argument (plain_kind k) ≡ ends_argument k
ends_plain (g.a_name x) = refl
ends_plain (g.a_number n) = refl
ends_plain _ = refl

-- no expression begins with `)`
pub begins : (e : Expr) (w : List Token) → is_closing (first_kind (spell_expr e ++ w)) ≡ false
begins (tree.prefixed g.negative a e) w = refl
begins (tree.prefixed g.positive a e) w = refl
begins (tree.prefixed g.negation a e) w = refl
begins (tree.joined e o a f) w = rw append_assoc (begins e _)
begins (tree.chosen c a e b f) w = rw append_assoc (begins c _)
begins _ w = refl

-- ---- names of arrays
-- a name alone, as the first two tokens tell
abbrev pub alone : List Token → Bool
alone ts = is_name (first_kind ts) && ends_argument (first_kind (behind_first ts))

-- whether an expression is a name alone
abbrev is_one : Expr → Bool
is_one (tree.variable x a) = true
is_one e = false

element_goes_on : (x : g.Name) (a : ℕ) (is : tree.Subscripts) (w : List Token) → alone (spell_expr (tree.element x a is) ++ w) ≡ false
element_goes_on x a (tree.last_subscript b e c) w = refl
element_goes_on x a (tree.next_subscript b e c is) w = refl

one_and_no : (b : Bool) → (b && false) ≡ false
one_and_no true = refl
one_and_no false = refl

is_alone : (e : Expr) (w : List Token) → alone (spell_expr e ++ w) ≡ (is_one e && ends_argument (first_kind w))
is_alone (tree.variable x a) w = refl
is_alone (tree.element x a is) w = element_goes_on x a is w
is_alone (tree.prefixed g.negative a e) w = refl
is_alone (tree.prefixed g.positive a e) w = refl
is_alone (tree.prefixed g.negation a e) w = refl
is_alone (tree.joined e o a f) w = rw append_assoc (is_alone e _ ∙ one_and_no (is_one e))
is_alone (tree.chosen c a e b f) w = rw append_assoc (is_alone c _ ∙ one_and_no (is_one c))
is_alone _ w = refl

-- an argument is the name of an array alone where it is a name alone, and that of an array
pub array_alone : (st : State) (e : Expr) (w : List Token) (o : Option Thing) → ends_argument (first_kind w) ≡ true
    → ((x : g.Name) → first_kind (spell_expr e ++ w) ≡ g.a_name x → o ≡ thing_of x st)
    → (alone (spell_expr e ++ w) && is_array o) ≡ is_array_name st e
array_alone st e w o h f = ap (λ b. b && is_array o) (is_alone e w ∙ ap (λ b. is_one e && b) h) ∙ by e f where
  by : (e : Expr) → ((x : g.Name) → first_kind (spell_expr e ++ w) ≡ g.a_name x → o ≡ thing_of x st)
      → ((is_one e && true) && is_array o) ≡ is_array_name st e
  by (tree.variable x a) f = ap is_array (f x refl)
  by _ f = refl

-- behind it come the other tokens
array_passed : (st : State) (e : Expr) (w ahead : List Token) → is_array_name st e ≡ true → ahead ≡ spell_expr e ++ w
    → behind_first ahead ≡ w
array_passed st (tree.variable x a) w ahead t q = ap behind_first q
array_passed st _ w ahead t q = cc

-- what may stand behind an argument may stand behind an expression
pub ends_after : (k : Kind) → ends_argument k ≡ true → AfterExpr k
ends_after g.comma h = tt
ends_after g.right_paren h = tt
ends_after _ h = cc

-- what stands behind an argument ends it
after_argument : (fs : MoreArguments) (rest : List Token) → first_kind rest ≡ right_paren
    → ends_argument (first_kind (spell_more_arguments fs ++ rest)) ≡ true
after_argument last_argument rest c = ap ends_argument c
after_argument (next_argument d e fs) rest c = refl

-- ---- arguments in a row
-- arguments are read up to some of them
pub record Listing (site : Site) (st : State) (h : ℕ) (xs : Expressions) (es : MoreArguments) (rest : List Token) (v : Evaluated)
    (ahead : List Token) : Type 0 where
  -- those that were read
  pub so_far : Expressions
  -- those that are to come
  pub others : MoreArguments
  -- they group as they must
  pub good : GoodMoreArguments others
  -- they come next
  pub ahead_is : ahead ≡ spell_more_arguments others ++ rest
  -- the code has what was read
  pub stands : IsEvaluatedOf site h v so_far
  -- all are read alike
  pub reads : read_behind site.integers site.line st xs es h ≡ read_behind site.integers site.line st so_far others h

-- what reading one more argument behind some answers
abbrev pub ReadsArgument : Site → State → Evaluated → Reading → Result Evaluated Stop → Reading → Type 0
ReadsArgument site st before now result after = (xs : Expressions) (h : ℕ) (e : Expr) (rest : List Token) → IsEvaluatedOf site h before xs
    → Groups 0 e → ends_argument (first_kind rest) ≡ true → now.ahead ≡ spell_expr e ++ rest
    → ReadsAll site h (read_argument site.integers site.line st xs e h) rest result after

module _ (site : Site) (st : State) (h : ℕ) (old : Reading) (es : Arguments) (rest : List Token) (good : GoodArguments es)
    (c : first_kind rest ≡ right_paren) (q : old.ahead ≡ spell_arguments es ++ rest) where
  -- no arguments
  pub none_read : (v : Evaluated) → is_closing (first_kind old.ahead) ≡ true
      → StandsEvaluated site.variables v (evaluated site.integers site.line none h)
      → ReadsAll site h (read_arguments site.integers site.line st es h) rest (Ok v) old
  none_read v n i = by es q where
    by : (es : Arguments) → old.ahead ≡ spell_arguments es ++ rest
        → ReadsAll site h (read_arguments site.integers site.line st es h) rest (Ok v) old
    by no_arguments q = (none, refl, (i, q))
    by (arguments e es) q =
        let t : false ≡ true = sym (ap (λ ts. is_closing (first_kind ts)) (q ∙ append_assoc (spell_expr e) (spell_more_arguments es) rest)
        ∙ begins e (spell_more_arguments es ++ rest)) ∙ n in
        absurd cc

  -- what is wanted of arguments where there are some
  some_wanted : {A : Type 0} (As : A → Expressions → Type 0) (out : Result A Stop) → is_closing (first_kind old.ahead) ≡ false
      → ((e : Expr) (fs : MoreArguments) → Groups 0 e → GoodMoreArguments fs → old.ahead ≡ spell_expr e ++ (spell_more_arguments fs ++ rest)
      → Answers As out (read_argument site.integers site.line st none e h >>= λ ys. read_behind site.integers site.line st ys fs h))
      → Answers As out (read_arguments site.integers site.line st es h)
  some_wanted As out n f = by es good q where
    by : (es : Arguments) → GoodArguments es → old.ahead ≡ spell_arguments es ++ rest
        → Answers As out (read_arguments site.integers site.line st es h)
    by no_arguments o q =
        let t : true ≡ false = sym (ap (λ ts. is_closing (first_kind ts)) q ∙ ap is_closing c) ∙ n in
        absurd cc
    by (arguments e fs) o q = wanted_of As out (read_arguments site.integers site.line st (arguments e fs) h) _
        (first_argument_read site.integers site.line st 0 e fs h)
        (f e fs o.0 o.1 (q ∙ append_assoc (spell_expr e) (spell_more_arguments fs) rest))

  -- a fault of the first one
  pub first_fault : (v : Evaluated) (out : Result Evaluated Stop) (s : Stop) (after : Reading) → is_closing (first_kind old.ahead) ≡ false
      → StandsEvaluated site.variables v (evaluated site.integers site.line none h) → IsErrAnd out (λ z. z ≡ s)
      → ReadsArgument site st v old (Err s) after → ReadsAll site h (read_arguments site.integers site.line st es h) rest out after
  first_fault v out s after n i k r =
      let As : Evaluated → Expressions → Type 0 = λ v xs. IsEvaluatedOf site h v xs × (after.ahead ≡ rest) in
      some_wanted As out n (λ e fs o g q.
      let w = spell_more_arguments fs ++ rest in
      handed_then (λ v xs. IsEvaluatedOf site h v xs × (after.ahead ≡ w)) As out s (read_argument site.integers site.line st none e h)
      (λ ys. read_behind site.integers site.line st ys fs h) k (r none h e w i o (after_argument fs rest c) q))

  -- the others behind the first
  pub first_read : (v before : Evaluated) (now after : Reading) (out : Result Evaluated Stop) → is_closing (first_kind old.ahead) ≡ false
      → StandsEvaluated site.variables v (evaluated site.integers site.line none h) → ReadsArgument site st v old (Ok before) now
      → ((xs : Expressions) (h : ℕ) (es : MoreArguments) (rest : List Token) → IsEvaluatedOf site h before xs → GoodMoreArguments es
      → first_kind rest ≡ right_paren → now.ahead ≡ spell_more_arguments es ++ rest
      → ReadsAll site h (read_behind site.integers site.line st xs es h) rest out after)
      → ReadsAll site h (read_arguments site.integers site.line st es h) rest out after
  first_read v before now after out n i r m =
      let As : Evaluated → Expressions → Type 0 = λ v xs. IsEvaluatedOf site h v xs × (after.ahead ≡ rest) in
      some_wanted As out n (λ e fs o g q.
      let w = spell_more_arguments fs ++ rest in
      let a = r none h e w i o (after_argument fs rest c) q in
      ok_then As out (read_argument site.integers site.line st none e h) a.0 (λ ys. read_behind site.integers site.line st ys fs h) a.1
      (m a.0 h fs rest a.2.0 g c a.2.1))

module _ (site : Site) (st : State) (h : ℕ) (xs : Expressions) (es : MoreArguments) (rest : List Token) where
  abbrev Here : Evaluated → List Token → Type 0
  Here v ahead = Listing site st h xs es rest v ahead

  -- at first
  pub listing_first : (v : Evaluated) (ahead : List Token) → GoodMoreArguments es → ahead ≡ spell_more_arguments es ++ rest
      → IsEvaluatedOf site h v xs → Here v ahead
  listing_first v ahead g a i = record { so_far = xs; others = es; good = g; ahead_is = a; stands = i; reads = refl }

  -- where no comma comes next
  pub listing_last : (v : Evaluated) (after : Reading) → Here v after.ahead → is_comma (first_kind after.ahead) ≡ false
      → ReadsAll site h (read_behind site.integers site.line st xs es h) rest (Ok v) after
  listing_last v after g n = by g.others g.ahead_is g.reads where
    by : (fs : MoreArguments) → after.ahead ≡ spell_more_arguments fs ++ rest
        → read_behind site.integers site.line st xs es h ≡ read_behind site.integers site.line st g.so_far fs h
        → ReadsAll site h (read_behind site.integers site.line st xs es h) rest (Ok v) after
    by last_argument a r = (with_last g.so_far none, r, (subst (IsEvaluatedOf site h v) (sym (with_none g.so_far)) g.stands, a))
    by (next_argument b f fs) a r =
        let t : true ≡ false = sym (ap (λ ts. is_comma (first_kind ts)) a) ∙ n in
        absurd cc

  -- the next one, behind the comma, where one comes next
  pub listing_comma : (v : Evaluated) (ahead behind : List Token)
      → Here v ahead → first_kind rest ≡ right_paren → is_comma (first_kind ahead) ≡ true → behind ≡ behind_first ahead
      → (e : Expr) × (fs : MoreArguments) × (ys : Expressions) × Groups 0 e × GoodMoreArguments fs × IsEvaluatedOf site h v ys
      × (behind ≡ spell_expr e ++ (spell_more_arguments fs ++ rest))
      × (read_behind site.integers site.line st xs es h
      ≡ (read_argument site.integers site.line st ys e h >>= λ zs. read_behind site.integers site.line st zs fs h))
  listing_comma v ahead behind g c n b = by g.others g.good g.ahead_is g.reads where
    by : (fs : MoreArguments) → GoodMoreArguments fs → ahead ≡ spell_more_arguments fs ++ rest
        → read_behind site.integers site.line st xs es h ≡ read_behind site.integers site.line st g.so_far fs h
        → (e : Expr) × (fs : MoreArguments) × (ys : Expressions) × Groups 0 e × GoodMoreArguments fs × IsEvaluatedOf site h v ys
        × (behind ≡ spell_expr e ++ (spell_more_arguments fs ++ rest))
        × (read_behind site.integers site.line st xs es h
        ≡ (read_argument site.integers site.line st ys e h >>= λ zs. read_behind site.integers site.line st zs fs h))
    by last_argument o a r =
        let t : false ≡ true = sym (ap is_comma (ap first_kind a ∙ c)) ∙ n in
        absurd cc
    by (next_argument d e fs) o a r = (
      e,
      fs,
      g.so_far,
      o.0,
      o.1,
      g.stands,
      b ∙ ap behind_first a ∙ append_assoc (spell_expr e) (spell_more_arguments fs) rest,
      r ∙ next_argument_read site.integers site.line st g.so_far d e fs h,
    )

module _ (site : Site) (st : State) (h : ℕ) (xs : Expressions) (es : MoreArguments) (rest : List Token) (v : Evaluated)
    (now behind : Reading)
    (l : Listing site st h xs es rest v now.ahead) (c : first_kind rest ≡ right_paren) (n : is_comma (first_kind now.ahead) ≡ true)
    (b : behind.ahead ≡ behind_first now.ahead) where
  -- a fault of the next one
  pub next_fault : (out : Result Evaluated Stop) (s : Stop) (after : Reading) → IsErrAnd out (λ z. z ≡ s)
      → ReadsArgument site st v behind (Err s) after → ReadsAll site h (read_behind site.integers site.line st xs es h) rest out after
  next_fault out s after k r =
      let t = listing_comma site st h xs es rest v now.ahead behind.ahead l c n b in
      let w = spell_more_arguments t.1 ++ rest in
      let As : Evaluated → Expressions → Type 0 = λ v xs. IsEvaluatedOf site h v xs × (after.ahead ≡ rest) in
      wanted_of As out (read_behind site.integers site.line st xs es h) _ t.7
      (handed_then (λ v xs. IsEvaluatedOf site h v xs × (after.ahead ≡ w)) As out s (read_argument site.integers site.line st t.2 t.0 h)
      (λ zs. read_behind site.integers site.line st zs t.1 h) k (r t.2 h t.0 w t.5 t.3 (after_argument t.1 rest c) t.6))

  -- the next one
  pub next_read : (all : Evaluated) (after : Reading) → ReadsArgument site st v behind (Ok all) after
      → Listing site st h xs es rest all after.ahead
  next_read all after r =
      let t = listing_comma site st h xs es rest v now.ahead behind.ahead l c n b in
      let w = spell_more_arguments t.1 ++ rest in
      let a = r t.2 h t.0 w t.5 t.3 (after_argument t.1 rest c) t.6 in
      record {
        so_far = a.0;
        others = t.1;
        good = t.4;
        ahead_is = a.2.1;
        stands = a.2.0;
        reads = t.7 ∙ ap (λ r. r >>= λ zs. read_behind site.integers site.line st zs t.1 h) a.1;
      }

-- ---- one argument
module _ (site : Site) (st : State) (h : ℕ) (xs : Expressions) (e : Expr) (rest : List Token) where
  -- the name of an array is passed over
  pub argument_passed : (v : Evaluated) (now after : Reading) → is_array_name st e ≡ true → IsEvaluatedOf site h v xs
      → now.ahead ≡ spell_expr e ++ rest → after.ahead ≡ behind_first now.ahead
      → ReadsAll site h (read_argument site.integers site.line st xs e h) rest (Ok v) after
  argument_passed v now after t i q p = (
    xs,
    ap (λ b. cond b (Ok xs) (read_one site.integers site.line st xs e h)) t,
    (i, p ∙ array_passed st e rest now.ahead t q),
  )

  -- another argument is an expression
  pub argument_read : (out : Result Evaluated Stop) (after : Reading) → is_array_name st e ≡ false
      → ReadsAll site h (read_one site.integers site.line st xs e h) rest out after
      → ReadsAll site h (read_argument site.integers site.line st xs e h) rest out after
  argument_read out after t r = wanted_of (λ v xs. IsEvaluatedOf site h v xs × (after.ahead ≡ rest)) out _ _
      (ap (λ b. cond b (Ok xs) (read_one site.integers site.line st xs e h)) t) r
