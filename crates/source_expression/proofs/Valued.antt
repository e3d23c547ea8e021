-- Values of arrays, as they are read one after another.
use Rattle.std.proofs.Common.{◌≡◌, ◌∙◌, ◌≤◌, ◌++◌, ℕ, true, false, List, [], ◌∷◌, Result, Ok, Err, refl, sym, ap, subst, append_assoc}
use Rattle.std.specs.Result.{IsErrAnd}
use Rattle.source_tree.specs.Expressions as made
use Rattle.source_tree.specs.Expressions.{Expression, Expressions, none}
use Rattle.source_core.specs.Elaborated as core
use Rattle.source_core.specs.Elaborated.{evaluated}
use Rattle.source_grammar.specs.Tokens as g
use Rattle.source_grammar.specs.Tokens.{Kind, Token, token, left_brace, right_brace}
use Rattle.source_grammar.specs.View.{plain_kind}
use Rattle.source_grammar.specs.Grammar as tree
use Rattle.source_grammar.specs.Grammar.{Expr, Value, one_value, braced, Values, no_values, values, MoreValues, last_value, last_comma}
use Rattle.source_grammar.specs.Grammar.{next_value, spell_expr, spell_value, spell_values, spell_more_values}
use Rattle.source_grammar.specs.Grammar.{Groups, GoodValue, GoodValues, GoodMoreValues}
use Rattle.source_grammar.proofs.grammar.Follow.{AfterExpr}
use Rattle.source_meaning.specs.Results.{◌>>=◌}
use Rattle.source_meaning.specs.Names.{State}
use Rattle.source_meaning.specs.Expressions.{read_values}
use Rattle.source_value.specs.declared.site.Site.{Site}
use Rattle.source_value.specs.declared.value.Evaluated.{Evaluated}
use Rattle.source_value.specs.declared.value.Value as code_value
use Rattle.source_value.specs.Stands.{Stands, StandsEvaluated}
use Rattle.source_reader.specs.declared.stop.Stop.{Stop}
use Rattle.source_reader.specs.Answers.{Answers}
use Rattle.source_reader.specs.Reading.{Reading, behind_first, first_kind}
use Rattle.source_expression.specs.Signs.{is_brace, is_brace_end, is_comma}
use Rattle.source_expression.specs.Sides.{IsEvaluatedOf}
use Rattle.source_expression.specs.Readings.{ReadsAll}
use Rattle.source_expression.specs.Joins.{with_last}
use Rattle.source_expression.specs.Lists.{and_one, read_one, read_listed, read_values_behind}
use Rattle.source_expression.proofs.Answering.{handed_then, ok_then, wanted_of}
use Rattle.source_expression.proofs.Joined.{bind_assoc}
use Rattle.source_expression.proofs.Listed.{with_none, with_one, first_value_read, next_value_read}

-- neither a name nor a number is `{`
pub brace_plain : (k : Kind) → is_brace (plain_kind k) ≡ is_brace k
brace_plain (g.a_name x) = refl
brace_plain (g.a_number n) = refl
brace_plain _ = refl

-- nor is one `}`
pub brace_end_plain : (k : Kind) → is_brace_end (plain_kind k) ≡ is_brace_end k
brace_end_plain (g.a_name x) = refl
brace_end_plain (g.a_number n) = refl
brace_end_plain _ = refl

-- no expression begins with `{`
pub no_brace : (e : Expr) (w : List Token) → is_brace (first_kind (spell_expr e ++ w)) ≡ false
no_brace (tree.prefixed g.negative a e) w = refl
no_brace (tree.prefixed g.positive a e) w = refl
no_brace (tree.prefixed g.negation a e) w = refl
no_brace (tree.joined e o a f) w = rw append_assoc (no_brace e _)
no_brace (tree.chosen c a e b f) w = rw append_assoc (no_brace c _)
no_brace _ w = refl

expr_no_end : (e : Expr) (w : List Token) → is_brace_end (first_kind (spell_expr e ++ w)) ≡ false
expr_no_end (tree.prefixed g.negative a e) w = refl
expr_no_end (tree.prefixed g.positive a e) w = refl
expr_no_end (tree.prefixed g.negation a e) w = refl
expr_no_end (tree.joined e o a f) w = rw append_assoc (expr_no_end e _)
expr_no_end (tree.chosen c a e b f) w = rw append_assoc (expr_no_end c _)
expr_no_end _ w = refl

-- no value begins with `}`
pub value_no_end : (v : Value) (w : List Token) → is_brace_end (first_kind (spell_value v ++ w)) ≡ false
value_no_end (one_value e) w = expr_no_end e w
value_no_end (braced a vs b) w = refl

-- what stands behind a value ends it
pub after_value : (vs : MoreValues) (rest : List Token) → first_kind rest ≡ right_brace
    → AfterExpr (first_kind (spell_more_values vs ++ rest))
after_value last_value rest c = subst AfterExpr (sym c) tt
after_value (last_comma a) rest c = tt
after_value (next_value a v vs) rest c = tt

-- ---- values in a row
-- values are read up to some of them
pub record Listing (site : Site) (st : State) (h : ℕ) (xs : Expressions) (vs : MoreValues) (rest : List Token) (v : Evaluated)
    (ahead : List Token) : Type 0 where
  -- those that were read
  pub so_far : Expressions
  -- those that are to come
  pub others : MoreValues
  -- they group as they must
  pub good : GoodMoreValues others
  -- they come next
  pub ahead_is : ahead ≡ spell_more_values others ++ rest
  -- the code has what was read
  pub stands : IsEvaluatedOf site h v so_far
  -- all are read alike
  pub reads : read_values_behind site.integers site.line st xs vs h ≡ read_values_behind site.integers site.line st so_far others h

-- what reading one more value behind some answers
abbrev pub ReadsValue : Site → State → Evaluated → Reading → Result Evaluated Stop → Reading → Type 0
ReadsValue site st before now result after = (xs : Expressions) (h : ℕ) (v : Value) (rest : List Token) → IsEvaluatedOf site h before xs
    → GoodValue v → AfterExpr (first_kind rest) → now.ahead ≡ spell_value v ++ rest
    → ReadsAll site h (read_listed site.integers site.line st xs v h) rest result after

module _ (site : Site) (st : State) (h : ℕ) (old : Reading) (vs : Values) (rest : List Token) (good : GoodValues vs)
    (c : first_kind rest ≡ right_brace) (q : old.ahead ≡ spell_values vs ++ rest) where
  -- no values
  pub none_read : (v : Evaluated) → is_brace_end (first_kind old.ahead) ≡ true
      → StandsEvaluated site.variables v (evaluated site.integers site.line none h)
      → ReadsAll site h (read_values site.integers site.line st vs h) rest (Ok v) old
  none_read v n i = by vs q where
    by : (vs : Values) → old.ahead ≡ spell_values vs ++ rest
        → ReadsAll site h (read_values site.integers site.line st vs h) rest (Ok v) old
    by no_values q = (none, refl, (i, q))
    by (values w ws) q =
        let t : false ≡ true = sym (ap (λ ts. is_brace_end (first_kind ts)) (q ∙ append_assoc (spell_value w) (spell_more_values ws) rest)
        ∙ value_no_end w (spell_more_values ws ++ rest)) ∙ n in
        absurd cc

  -- what is wanted of values where there are some
  some_wanted : {A : Type 0} (As : A → Expressions → Type 0) (out : Result A Stop) → is_brace_end (first_kind old.ahead) ≡ false
      → ((w : Value) (ws : MoreValues) → GoodValue w → GoodMoreValues ws → old.ahead ≡ spell_value w ++ (spell_more_values ws ++ rest)
      → Answers As out (read_listed site.integers site.line st none w h >>= λ ys. read_values_behind site.integers site.line st ys ws h))
      → Answers As out (read_values site.integers site.line st vs h)
  some_wanted As out n f = by vs good q where
    by : (vs : Values) → GoodValues vs → old.ahead ≡ spell_values vs ++ rest
        → Answers As out (read_values site.integers site.line st vs h)
    by no_values o q =
        let t : true ≡ false = sym (ap (λ ts. is_brace_end (first_kind ts)) q ∙ ap is_brace_end c) ∙ n in
        absurd cc
    by (values w ws) o q = wanted_of As out (read_values site.integers site.line st (values w ws) h) _
        (first_value_read site.integers site.line st 0 w ws h)
        (f w ws o.0 o.1 (q ∙ append_assoc (spell_value w) (spell_more_values ws) rest))

  -- a fault of the first one
  pub first_fault : (v : Evaluated) (out : Result Evaluated Stop) (s : Stop) (after : Reading) → is_brace_end (first_kind old.ahead) ≡ false
      → StandsEvaluated site.variables v (evaluated site.integers site.line none h) → IsErrAnd out (λ z. z ≡ s)
      → ReadsValue site st v old (Err s) after → ReadsAll site h (read_values site.integers site.line st vs h) rest out after
  first_fault v out s after n i k r =
      let As : Evaluated → Expressions → Type 0 = λ v xs. IsEvaluatedOf site h v xs × (after.ahead ≡ rest) in
      some_wanted As out n (λ w ws o g q.
      let z = spell_more_values ws ++ rest in
      handed_then (λ v xs. IsEvaluatedOf site h v xs × (after.ahead ≡ z)) As out s (read_listed site.integers site.line st none w h)
      (λ ys. read_values_behind site.integers site.line st ys ws h) k (r none h w z i o (after_value ws rest c) q))

  -- the others behind the first
  pub first_read : (v before : Evaluated) (now after : Reading) (out : Result Evaluated Stop) → is_brace_end (first_kind old.ahead) ≡ false
      → StandsEvaluated site.variables v (evaluated site.integers site.line none h) → ReadsValue site st v old (Ok before) now
      → ((xs : Expressions) (h : ℕ) (ws : MoreValues) (rest : List Token) → IsEvaluatedOf site h before xs → GoodMoreValues ws
      → first_kind rest ≡ right_brace → now.ahead ≡ spell_more_values ws ++ rest
      → ReadsAll site h (read_values_behind site.integers site.line st xs ws h) rest out after)
      → ReadsAll site h (read_values site.integers site.line st vs h) rest out after
  first_read v before now after out n i r m =
      let As : Evaluated → Expressions → Type 0 = λ v xs. IsEvaluatedOf site h v xs × (after.ahead ≡ rest) in
      some_wanted As out n (λ w ws o g q.
      let z = spell_more_values ws ++ rest in
      let a = r none h w z i o (after_value ws rest c) q in
      ok_then As out (read_listed site.integers site.line st none w h) a.0 (λ ys. read_values_behind site.integers site.line st ys ws h) a.1
      (m a.0 h ws rest a.2.0 g c a.2.1))

module _ (site : Site) (st : State) (h : ℕ) (xs : Expressions) (vs : MoreValues) (rest : List Token) where
  abbrev Here : Evaluated → List Token → Type 0
  Here v ahead = Listing site st h xs vs rest v ahead

  -- at first
  pub listing_first : (v : Evaluated) (ahead : List Token) → GoodMoreValues vs → ahead ≡ spell_more_values vs ++ rest
      → IsEvaluatedOf site h v xs → Here v ahead
  listing_first v ahead g a i = record { so_far = xs; others = vs; good = g; ahead_is = a; stands = i; reads = refl }

  -- where no comma comes next
  pub listing_last : (v : Evaluated) (after : Reading) → Here v after.ahead → is_comma (first_kind after.ahead) ≡ false
      → ReadsAll site h (read_values_behind site.integers site.line st xs vs h) rest (Ok v) after
  listing_last v after g n = by g.others g.ahead_is g.reads where
    by : (ws : MoreValues) → after.ahead ≡ spell_more_values ws ++ rest
        → read_values_behind site.integers site.line st xs vs h ≡ read_values_behind site.integers site.line st g.so_far ws h
        → ReadsAll site h (read_values_behind site.integers site.line st xs vs h) rest (Ok v) after
    by last_value a r = (with_last g.so_far none, r, (subst (IsEvaluatedOf site h v) (sym (with_none g.so_far)) g.stands, a))
    by (last_comma b) a r =
        let t : true ≡ false = sym (ap (λ ts. is_comma (first_kind ts)) a) ∙ n in
        absurd cc
    by (next_value b w ws) a r =
        let t : true ≡ false = sym (ap (λ ts. is_comma (first_kind ts)) a) ∙ n in
        absurd cc

module _ (site : Site) (st : State) (h : ℕ) (xs : Expressions) (vs : MoreValues) (rest : List Token) (v : Evaluated)
    (now behind : Reading)
    (l : Listing site st h xs vs rest v now.ahead) (c : first_kind rest ≡ right_brace) (n : is_comma (first_kind now.ahead) ≡ true)
    (b : behind.ahead ≡ behind_first now.ahead) where
  -- where the list ends behind the comma
  pub comma_last : is_brace_end (first_kind behind.ahead) ≡ true
      → ReadsAll site h (read_values_behind site.integers site.line st xs vs h) rest (Ok v) behind
  comma_last m = by l.others l.ahead_is l.reads where
    by : (ws : MoreValues) → now.ahead ≡ spell_more_values ws ++ rest
        → read_values_behind site.integers site.line st xs vs h ≡ read_values_behind site.integers site.line st l.so_far ws h
        → ReadsAll site h (read_values_behind site.integers site.line st xs vs h) rest (Ok v) behind
    by last_value a r =
        let t : false ≡ true = sym (ap is_comma (ap first_kind a ∙ c)) ∙ n in
        absurd cc
    by (last_comma d) a r = (
      with_last l.so_far none,
      r,
      (subst (IsEvaluatedOf site h v) (sym (with_none l.so_far)) l.stands, b ∙ ap behind_first a),
    )
    by (next_value d w ws) a r =
        let t : false ≡ true = sym (ap (λ ts. is_brace_end (first_kind ts)) (b ∙ ap behind_first a
        ∙ append_assoc (spell_value w) (spell_more_values ws) rest) ∙ value_no_end w (spell_more_values ws ++ rest)) ∙ m in
        absurd cc

  -- where it goes on, what comes next
  next_value_of : is_brace_end (first_kind behind.ahead) ≡ false
      → (w : Value) × (ws : MoreValues) × GoodValue w × GoodMoreValues ws × (behind.ahead ≡ spell_value w ++ (spell_more_values ws ++ rest))
      × (read_values_behind site.integers site.line st xs vs h
      ≡ (read_listed site.integers site.line st l.so_far w h >>= λ zs. read_values_behind site.integers site.line st zs ws h))
  next_value_of m = by l.others l.good l.ahead_is l.reads where
    by : (ws : MoreValues) → GoodMoreValues ws → now.ahead ≡ spell_more_values ws ++ rest
        → read_values_behind site.integers site.line st xs vs h ≡ read_values_behind site.integers site.line st l.so_far ws h
        → (w : Value) × (ws : MoreValues) × GoodValue w × GoodMoreValues ws
        × (behind.ahead ≡ spell_value w ++ (spell_more_values ws ++ rest))
        × (read_values_behind site.integers site.line st xs vs h
        ≡ (read_listed site.integers site.line st l.so_far w h >>= λ zs. read_values_behind site.integers site.line st zs ws h))
    by last_value o a r =
        let t : false ≡ true = sym (ap is_comma (ap first_kind a ∙ c)) ∙ n in
        absurd cc
    by (last_comma d) o a r =
        let t : true ≡ false = sym (ap is_brace_end (ap first_kind (b ∙ ap behind_first a) ∙ c)) ∙ m in
        absurd cc
    by (next_value d w ws) o a r = (
      w,
      ws,
      o.0,
      o.1,
      b ∙ ap behind_first a ∙ append_assoc (spell_value w) (spell_more_values ws) rest,
      r ∙ next_value_read site.integers site.line st l.so_far d w ws h,
    )

  -- a fault of the next one
  pub next_fault : (out : Result Evaluated Stop) (s : Stop) (after : Reading) → is_brace_end (first_kind behind.ahead) ≡ false
      → IsErrAnd out (λ z. z ≡ s) → ReadsValue site st v behind (Err s) after
      → ReadsAll site h (read_values_behind site.integers site.line st xs vs h) rest out after
  next_fault out s after m k r =
      let t = next_value_of m in
      let z = spell_more_values t.1 ++ rest in
      let As : Evaluated → Expressions → Type 0 = λ v xs. IsEvaluatedOf site h v xs × (after.ahead ≡ rest) in
      wanted_of As out (read_values_behind site.integers site.line st xs vs h) _ t.5
      (handed_then (λ v xs. IsEvaluatedOf site h v xs × (after.ahead ≡ z)) As out s
      (read_listed site.integers site.line st l.so_far t.0 h)
      (λ zs. read_values_behind site.integers site.line st zs t.1 h) k (r l.so_far h t.0 z l.stands t.2 (after_value t.1 rest c) t.4))

  -- the next one
  pub next_read : (all : Evaluated) (after : Reading) → is_brace_end (first_kind behind.ahead) ≡ false
      → ReadsValue site st v behind (Ok all) after → Listing site st h xs vs rest all after.ahead
  next_read all after m r =
      let t = next_value_of m in
      let z = spell_more_values t.1 ++ rest in
      let a = r l.so_far h t.0 z l.stands t.2 (after_value t.1 rest c) t.4 in
      record {
        so_far = a.0;
        others = t.1;
        good = t.3;
        ahead_is = a.2.1;
        stands = a.2.0;
        reads = t.5 ∙ ap (λ r. r >>= λ zs. read_values_behind site.integers site.line st zs t.1 h) a.1;
      }

-- ---- one value
module _ (site : Site) (st : State) (h : ℕ) (xs : Expressions) (v : Value) (rest : List Token) (g : GoodValue v) (now : Reading)
    (q : now.ahead ≡ spell_value v ++ rest) where
  -- what a list in braces is read as
  pub listed_read : (out : Result Evaluated Stop) (after : Reading) → is_brace (first_kind now.ahead) ≡ true
      → ((a : ℕ) (vs : Values) (b : ℕ) → GoodValues vs
      → now.ahead ≡ token left_brace a ∷ (spell_values vs ++ token right_brace b ∷ rest)
      → ReadsAll site h (read_listed site.integers site.line st xs (braced a vs b) h) rest out after)
      → ReadsAll site h (read_listed site.integers site.line st xs v h) rest out after
  listed_read out after t r = by v g q where
    by : (v : Value) → GoodValue v → now.ahead ≡ spell_value v ++ rest
        → ReadsAll site h (read_listed site.integers site.line st xs v h) rest out after
    by (one_value e) g q =
        let k : false ≡ true = sym (ap (λ ts. is_brace (first_kind ts)) q ∙ no_brace e rest) ∙ t in
        absurd cc
    by (braced a vs b) g q =
        r a vs b g (q ∙ ap (λ ts. token left_brace a ∷ ts) (append_assoc (spell_values vs) (token right_brace b ∷ []) rest))

  -- another value is an expression
  pub expression_read : (out : Result Evaluated Stop) (after : Reading) → is_brace (first_kind now.ahead) ≡ false
      → ((e : Expr) → Groups 0 e → now.ahead ≡ spell_expr e ++ rest
      → ReadsAll site h (read_one site.integers site.line st xs e h) rest out after)
      → ReadsAll site h (read_listed site.integers site.line st xs v h) rest out after
  expression_read out after t r = by v g q where
    by : (v : Value) → GoodValue v → now.ahead ≡ spell_value v ++ rest
        → ReadsAll site h (read_listed site.integers site.line st xs v h) rest out after
    by (one_value e) g q = r e g q
    by (braced a vs b) g q =
        let k : true ≡ false = sym (ap (λ ts. is_brace (first_kind ts)) q) ∙ t in
        absurd cc

-- ---- lists in braces
-- what reading values answers
abbrev pub ReadsValues : Site → State → ℕ → Reading → Result Evaluated Stop → Reading → Type 0
ReadsValues site st h now result after = (vs : Values) (rest : List Token) → GoodValues vs → first_kind rest ≡ right_brace
    → now.ahead ≡ spell_values vs ++ rest → ReadsAll site h (read_values site.integers site.line st vs h) rest result after

module _ (site : Site) (st : State) (h : ℕ) (xs : Expressions) (a : ℕ) (vs : Values) (b : ℕ) (rest : List Token) (v : Evaluated)
    (i : IsEvaluatedOf site h v xs) (g : GoodValues vs) (now : Reading)
    (q : now.ahead ≡ spell_values vs ++ token right_brace b ∷ rest) where
  -- the hidden variable that is next behind those before
  abbrev next : ℕ
  next = (evaluated site.integers site.line xs h).next

  -- a fault within the braces
  pub list_fault : (out : Result Evaluated Stop) (s : Stop) (after later : Reading) → IsErrAnd out (λ z. z ≡ s)
      → ReadsValues site st v.next now (Err s) after
      → ReadsAll site h (read_listed site.integers site.line st xs (braced a vs b) h) rest out later
  list_fault out s after later k r =
      let w = token right_brace b ∷ rest in
      let Is : Evaluated → Expressions → Type 0 = λ w xs. IsEvaluatedOf site v.next w xs × (after.ahead ≡ token right_brace b ∷ rest) in
      let As : Evaluated → Expressions → Type 0 = λ v xs. IsEvaluatedOf site h v xs × (later.ahead ≡ rest) in
      let r0 = read_values site.integers site.line st vs next in
      wanted_of As out ((r0 >>= λ es. Ok (made.call es a)) >>= λ x. Ok (and_one xs x)) (r0 >>= λ es. Ok (and_one xs (made.call es a)))
      (bind_assoc r0 (λ es. Ok (made.call es a)) (λ x. Ok (and_one xs x)))
      (handed_then Is As out s r0 (λ es. Ok (and_one xs (made.call es a))) k
      (subst (λ n. Answers Is (Err s) (read_values site.integers site.line st vs n)) i.next (r vs w g refl q)))

  -- what is within the braces, behind the others
  pub list_done : (inner all : Evaluated) (w : code_value.Value) (after later : Reading) → ReadsValues site st v.next now (Ok inner) after
      → ((n : ℕ) (d : core.Evaluated) → StandsEvaluated n inner d
      → Stands n w (record { prelude = d.prelude; result = core.any; next = d.next }))
      → ((n : ℕ) (d : core.Evaluated) (e : core.Elaborated) → d.next ≤ e.next → StandsEvaluated n v d → Stands n w e
      → StandsEvaluated n all (record { prelude = d.prelude ++ e.prelude; next = e.next }))
      → (after.ahead ≡ token right_brace b ∷ rest → later.ahead ≡ rest)
      → ReadsAll site h (read_listed site.integers site.line st xs (braced a vs b) h) rest (Ok all) later
  list_done inner all w after later r f k p =
      let t = r vs (token right_brace b ∷ rest) g refl q in
      let e : read_values site.integers site.line st vs next ≡ Ok t.0 =
      subst (λ n. read_values site.integers site.line st vs n ≡ Ok t.0) i.next t.1 in (
        and_one xs (made.call t.0 a),
        ap (λ r. (r >>= λ es. Ok (made.call es a)) >>= λ x. Ok (and_one xs x)) e,
        (
          with_one site h xs (made.call t.0 a) v w all i
              (f site.variables (evaluated site.integers site.line t.0 v.next) t.2.0) k,
          p t.2.1,
        ),
      )
