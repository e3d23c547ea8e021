-- Indexes, one after another.
use Rattle.std.proofs.Common.{◌≡◌, ◌∙◌, ◌≤◌, ◌<◌, ◌+◌, ◌++◌, ℕ, zero, suc, Bool, true, false, List, [], ◌∷◌, length, map, drop, get_or}
use Rattle.std.proofs.Common.{eqb-true, Option, Some, None, Result, Ok, Err, refl, sym, ap}
use Rattle.std.proofs.Common.{subst, arith, append_assoc, append-nil}
use Rattle.std.specs.Prelude.{◌&&◌, nat_eq}
use Rattle.std.specs.Result.{IsErrAnd}
use Rattle.std.proofs.lemmas.List.{at_drop_more, at_drop_all}
use Rattle.lang_tree.specs.Tree.{Deed}
use Rattle.source_tree.specs.Expressions as made
use Rattle.source_tree.specs.Extents.{extent_of}
use Rattle.source_tree.specs.declared.extent.Extent as code_extent
use Rattle.source_tree.specs.Expressions.{Expression, Extent, Subscripts, no_subscript, subscript}
use Rattle.source_core.specs.Elaborated.{Evaluated, Numbered, elaborated, indexed, index_behind, numbered}
use Rattle.source_core.specs.Elaborated as core
use Rattle.source_core.specs.Fits.{deeds_fit, evaluated_fits, fits}
use Rattle.source_grammar.specs.Tokens.{Name, Token, token, left_bracket, right_bracket}
use Rattle.source_grammar.specs.Grammar as tree
use Rattle.source_grammar.specs.Grammar.{Expr, spell_expr, spell_subscripts, Groups, GoodSubscripts, last_subscript, next_subscript}
use Rattle.source_meaning.specs.declared.fault.FunctionFault.{FunctionFault}
use Rattle.source_meaning.specs.declared.fault.FunctionFault.TheVariants.{WrongKind, BigNumber}
use Rattle.source_meaning.specs.Results.{◌>>=◌, provided}
use Rattle.source_meaning.specs.Names as names
use Rattle.source_meaning.specs.Names.{Thing, State, thing_of, as_array, array_of}
use Rattle.source_meaning.specs.Expressions.{ranged, read, read_subscripts, behind_number, subscript_count}
use Rattle.source_value.specs.declared.fault.OperationFault.{OperationFault}
use Rattle.source_value.specs.declared.site.Site.{Site}
use Rattle.source_value.specs.declared.value.Evaluated as code_evaluated
use Rattle.source_value.specs.Answers as value
use Rattle.source_value.specs.declared.value.Number.{Number}
use Rattle.source_value.specs.Stands.{Stands, StandsNumber, StandsEvaluated}
use Rattle.source_value.specs.declared.value.Value.{Value}
use Rattle.source_value.specs.declared.fault.OperationFault.TheVariants as operation
use Rattle.source_reader.specs.declared.stop.Stop.{Stop}
use Rattle.source_reader.specs.declared.stop.Stop.TheVariants.{Fault, Unlike}
use Rattle.source_reader.specs.Reading.{Reading, first_kind}
use Rattle.source_reader.specs.Answers.{Answers}
use Rattle.source_reader.specs.Placed.{placed}
use Rattle.source_reader.proofs.Placing.{placed_answers}
use Rattle.source_expression.specs.Signs.{goes_on}
use Rattle.source_expression.specs.Joins.{Stops}
use Rattle.source_expression.specs.Sides.{IsRead, IsIndexedOf}
use Rattle.source_expression.specs.Readings.{Reads, ReadsIndexes}
use Rattle.source_expression.specs.Lists.{and_indexes, read_element, read_index}
use Rattle.source_expression.proofs.Answering.{handed_then, ok_then, wanted_of}
use Rattle.source_expression.proofs.Joined.{bind_assoc, bind_ok}
use Rattle.source_expression.proofs.Grows.{numbers_grow}
use Rattle.base_integers.specs.declared.integers.Integers.{Integers}

made_of : List Deed → ℕ → Evaluated
made_of ds n = record { prelude = ds; next = n }

module _ (integers : Integers) (line : ℕ) where
  -- an index behind others is elaborated so
  pub one_index : (ys : Subscripts) (extent : Extent) (b : ℕ) (i : Expression) (h : ℕ)
      → indexed integers line (and_indexes ys (subscript extent b i no_subscript)) h
      ≡ record {
        prelude = (indexed integers line ys h).prelude
            ++ (index_behind line extent b (numbered integers line (elaborated integers line i (indexed integers line ys h).next))).prelude;
        next = (numbered integers line (elaborated integers line i (indexed integers line ys h).next)).next;
      }
  unfolding made_of
  one_index no_subscript extent b i h =
      let v = numbered integers line (elaborated integers line i h) in
      ap (λ ds. made_of ds v.next) (append-nil (index_behind line extent b v).prelude)
  one_index (subscript x c j ys) extent b i h =
      let v = numbered integers line (elaborated integers line j h) in
      let d = index_behind line x c v in
      let e = indexed integers line ys v.next in
      let w = numbered integers line (elaborated integers line i e.next) in
      ap (λ (a : Evaluated). made_of (d.prelude ++ a.prelude) a.next) (one_index ys extent b i v.next)
      ∙ ap (λ ds. made_of ds w.next) (sym (append_assoc d.prelude e.prelude (index_behind line extent b w).prelude))

  -- an index is in range where its element is
  pub index_fits : (extent : Extent) (b at h : ℕ) (i : Expression)
      → fits (elaborated integers line (made.element (subscript extent b i no_subscript) at) h)
      ≡ evaluated_fits (index_behind line extent b (numbered integers line (elaborated integers line i h)))
  index_fits extent b at h i =
      let ds = (index_behind line extent b (numbered integers line (elaborated integers line i h))).prelude in
      by (deeds_fit (ds ++ [])) ∙ ap deeds_fit (append-nil ds) where
        by : (t : Bool) → (t && true) ≡ t
        by true = refl
        by false = refl

-- ---- the brackets of an element
-- an index in its brackets
pub record Bracket : Type 0 where
  -- where the first of them stands
  pub open_at : ℕ
  -- what stands between them
  pub index : Expr
  -- where the second one stands
  pub close_at : ℕ

-- those of an element
abbrev pub brackets_of : tree.Subscripts → List Bracket
brackets_of (last_subscript a e b) = record { open_at = a; index = e; close_at = b } ∷ []
brackets_of (next_subscript a e b is) = record { open_at = a; index = e; close_at = b } ∷ brackets_of is

-- how they are spelled
abbrev pub spell_brackets : List Bracket → List Token
spell_brackets [] = []
spell_brackets (b ∷ bs) = token left_bracket b.open_at ∷ (spell_expr b.index ++ token right_bracket b.close_at ∷ spell_brackets bs)

-- each index groups as it must
abbrev pub GoodBrackets : List Bracket → Type 0
GoodBrackets [] = Unit {0}
GoodBrackets (b ∷ bs) = Groups 0 b.index × GoodBrackets bs

-- the brackets of an element are spelled as it is
pub brackets_spelled : (is : tree.Subscripts) → spell_subscripts is ≡ spell_brackets (brackets_of is)
brackets_spelled (last_subscript a e b) = refl
brackets_spelled (next_subscript a e b is) =
    ap (λ ts. token left_bracket a ∷ (spell_expr e ++ token right_bracket b ∷ ts)) (brackets_spelled is)

-- they group as it does
pub brackets_good : (is : tree.Subscripts) → GoodSubscripts is → GoodBrackets (brackets_of is)
brackets_good (last_subscript a e b) g = (g, tt)
brackets_good (next_subscript a e b is) g = (g.0, brackets_good is g.1)

-- there are as many as indexes
pub brackets_counted : (is : tree.Subscripts) → length (brackets_of is) ≡ subscript_count is
brackets_counted (last_subscript a e b) = refl
brackets_counted (next_subscript a e b is) = ap suc (brackets_counted is)

and_both : (ys : Subscripts) (x : Extent) (b : ℕ) (i : Expression) (zs : Subscripts)
    → and_indexes (and_indexes ys (subscript x b i no_subscript)) zs ≡ and_indexes ys (subscript x b i zs)
and_both no_subscript x b i zs = refl
and_both (subscript y c j ys) x b i zs = ap (subscript y c j) (and_both ys x b i zs)

module _ (integers : Integers) (line : ℕ) (st : State) (at : ℕ) where
  -- indexes are read behind some
  abbrev pub read_brackets : Subscripts → List Extent → List Bracket → (h : ℕ) → Result Subscripts FunctionFault
  read_brackets ys [] [] h = Ok ys
  read_brackets ys [] (b ∷ bs) h = Err (WrongKind at)
  read_brackets ys (x ∷ xs) [] h = Err (WrongKind at)
  read_brackets ys (x ∷ xs) (b ∷ bs) h =
      read_index integers line st at ys x b.open_at b.index h >>= λ zs. read_brackets zs xs bs h

  -- which is how they are read
  subscripts_read : (ys : Subscripts) (xs : List Extent) (is : tree.Subscripts) (h : ℕ) → length xs ≡ subscript_count is
      → (read_subscripts integers line st at xs is (indexed integers line ys h).next >>= λ zs. Ok (and_indexes ys zs))
      ≡ read_brackets ys xs (brackets_of is) h
  subscripts_read ys [] (last_subscript a e b) h l = cc
  subscripts_read ys [] (next_subscript a e b is) h l = cc
  subscripts_read ys (x ∷ y ∷ xs) (last_subscript a e b) h l = cc
  subscripts_read ys (x ∷ []) (last_subscript a e b) h l =
      by (read integers line st e n) (λ i. ranged integers line a n (made.element (subscript x a i no_subscript) at)) where
        n : ℕ
        n = (indexed integers line ys h).next

        by : (r : Result Expression FunctionFault) (g : Expression → Result Expression FunctionFault)
            → ((r >>= λ i. g i >>= λ y. Ok (subscript x a i no_subscript)) >>= λ zs. Ok (and_indexes ys zs))
            ≡ ((r >>= λ i. g i >>= λ y. Ok (and_indexes ys (subscript x a i no_subscript))) >>= λ zs. Ok zs)
        by (Err f) g = refl
        by (Ok i) g = told (g i) where
          told : (q : Result Expression FunctionFault)
              → ((q >>= λ y. Ok (subscript x a i no_subscript)) >>= λ zs. Ok (and_indexes ys zs))
              ≡ ((q >>= λ y. Ok (and_indexes ys (subscript x a i no_subscript))) >>= λ zs. Ok zs)
          told (Ok y) = refl
          told (Err f) = refl
  subscripts_read ys (x ∷ xs) (next_subscript a e b is) h l =
      by (read integers line st e n) (λ i. ranged integers line a n (made.element (subscript x a i no_subscript) at))
      (λ i. subscripts_read (and_indexes ys (subscript x a i no_subscript)) xs is h (omega (arith, l))) where
        n : ℕ
        n = (indexed integers line ys h).next

        rest : ℕ → Result Subscripts FunctionFault
        rest m = read_subscripts integers line st at xs is m

        by : (r : Result Expression FunctionFault) (g : Expression → Result Expression FunctionFault)
            → ((i : Expression) → (rest (indexed integers line (and_indexes ys (subscript x a i no_subscript)) h).next
            >>= λ zs. Ok (and_indexes (and_indexes ys (subscript x a i no_subscript)) zs))
            ≡ read_brackets (and_indexes ys (subscript x a i no_subscript)) xs (brackets_of is) h)
            → ((r >>= λ i. g i >>= λ y. rest (behind_number integers line i n) >>= λ zs. Ok (subscript x a i zs))
            >>= λ zs. Ok (and_indexes ys zs))
            ≡ ((r >>= λ i. g i >>= λ y. Ok (and_indexes ys (subscript x a i no_subscript)))
            >>= λ zs. read_brackets zs xs (brackets_of is) h)
        by (Err f) g k = refl
        by (Ok i) g k = told (g i) where
          next : Subscripts
          next = and_indexes ys (subscript x a i no_subscript)

          behind : (q : Result Subscripts FunctionFault) → ((q >>= λ zs. Ok (subscript x a i zs)) >>= λ zs. Ok (and_indexes ys zs))
              ≡ (q >>= λ zs. Ok (and_indexes next zs))
          behind (Ok zs) = ap Ok (sym (and_both ys x a i zs))
          behind (Err f) = refl

          told : (q : Result Expression FunctionFault)
              → ((q >>= λ y. rest (behind_number integers line i n) >>= λ zs. Ok (subscript x a i zs)) >>= λ zs. Ok (and_indexes ys zs))
              ≡ ((q >>= λ y. Ok next) >>= λ zs. read_brackets zs xs (brackets_of is) h)
          told (Err f) = refl
          told (Ok y) = behind (rest (behind_number integers line i n))
              ∙ ap (λ (d : Evaluated). rest d.next >>= λ zs. Ok (and_indexes next zs)) (sym (one_index integers line ys x a i h)) ∙ k i

  -- all of them
  pub all_read : (xs : List Extent) (is : tree.Subscripts) (h : ℕ) → length xs ≡ subscript_count is
      → read_subscripts integers line st at xs is h ≡ read_brackets no_subscript xs (brackets_of is) h
  all_read xs is h l = sym (bind_ok (read_subscripts integers line st at xs is h)) ∙ subscripts_read no_subscript xs is h l

-- ---- one index
placed_ok : {A : Type 0} (at : ℕ) (r : Result A OperationFault) (v : A) → placed at r ≡ Ok v → r ≡ Ok v
placed_ok at (Ok w) v e = let k : w ≡ v = cc in ap Ok k
placed_ok at (Err operation.Big) v e = cc
placed_ok at (Err operation.NoMemory) v e = cc

-- a fault says nothing of the value that there isn't
provided_err : {A B C D : Type 0} (Is : A → B → Type 0) (As : C → D → Type 0) (x : Stop) (t : Bool) (f : FunctionFault) (i : B) (y : D)
    → Answers Is (Err x) (provided t f i) → Answers As (Err x) (provided t f y)
provided_err Is As (Fault e) true f i y h = λ n. let k = h n in cc
provided_err Is As (Fault e) false f i y h = λ n. let k = h n in cc
provided_err Is As Unlike t f i y h = h

module _ (site : Site) (st : State) (at : ℕ) (ys : Subscripts) (h : ℕ) (x : Extent) (b : ℕ) (e : Expr) (i : Expression)
    (p : read site.integers site.line st e (indexed site.integers site.line ys h).next ≡ Ok i) where
  -- the hidden variable that is next behind those before
  abbrev next : ℕ
  next = (indexed site.integers site.line ys h).next

  -- the index with its check
  abbrev pub check : Evaluated
  check = index_behind site.line x b (numbered site.integers site.line (elaborated site.integers site.line i next))

  -- an element with this index alone
  abbrev alone : Expression
  alone = made.element (subscript x b i no_subscript) at

  -- a fault of its check
  pub index_fault : (r : Result code_evaluated.Evaluated OperationFault) (out : Result code_evaluated.Evaluated Stop) (s : Stop)
      (P : Type 0) → value.Answers (StandsEvaluated site.variables) evaluated_fits r check → placed b r ≡ Err s → IsErrAnd out (λ z. z ≡ s)
      → Answers (λ v zs. IsIndexedOf site h v zs × P) out (read_index site.integers site.line st at ys x b e h)
  index_fault r out s P a q k =
      let Is : code_evaluated.Evaluated → Expression → Type 0 = λ v j. StandsEvaluated site.variables v
      (index_behind site.line x b (numbered site.integers site.line (elaborated site.integers site.line j next))) in
      let Any : code_evaluated.Evaluated → Expression → Type 0 = λ v j. Unit {0} in
      let c : Answers Is (placed b r) (provided (evaluated_fits check) (BigNumber b) i) =
      placed_answers (StandsEvaluated site.variables) evaluated_fits
      (λ j. index_behind site.line x b (numbered site.integers site.line (elaborated site.integers site.line j next))) r b i a
      (λ v s. s.numbers) in
      let d : Answers Any (Err s) (provided (evaluated_fits check) (BigNumber b) alone) =
      provided_err Is Any s (evaluated_fits check) (BigNumber b) i alone
      (subst (λ o. Answers Is o (provided (evaluated_fits check) (BigNumber b) i)) q c) in
      let As : code_evaluated.Evaluated → Subscripts → Type 0 = λ v zs. IsIndexedOf site h v zs × P in
      ok_then As out (read site.integers site.line st e next) i _ p
      (handed_then Any As out s (ranged site.integers site.line b next alone)
      (λ y. Ok (and_indexes ys (subscript x b i no_subscript))) k
      (subst (λ t. Answers Any (Err s) (provided t (BigNumber b) alone)) (sym (index_fits site.integers site.line x b at next i)) d))

  -- what is wanted where it has none
  index_wanted : evaluated_fits check ≡ true
      → read_index site.integers site.line st at ys x b e h ≡ Ok (and_indexes ys (subscript x b i no_subscript))
  index_wanted t = ap (λ r. r >>= λ j. ranged site.integers site.line b next (made.element (subscript x b j no_subscript) at)
      >>= λ y. Ok (and_indexes ys (subscript x b j no_subscript))) p
      ∙ ap (λ u. provided u (BigNumber b) alone >>= λ y. Ok (and_indexes ys (subscript x b i no_subscript)))
      (index_fits site.integers site.line x b at next i ∙ t)

  -- the index behind those before
  pub index_done : (r : Result code_evaluated.Evaluated OperationFault) (before checked all : code_evaluated.Evaluated) (P : Type 0)
      → value.Answers (StandsEvaluated site.variables) evaluated_fits r check → placed b r ≡ Ok checked → IsIndexedOf site h before ys
      → ((n : ℕ) (d e : Evaluated) → d.next ≤ e.next → StandsEvaluated n before d → StandsEvaluated n checked e
      → StandsEvaluated n all (record { prelude = d.prelude ++ e.prelude; next = e.next })) → P
      → Answers (λ v zs. IsIndexedOf site h v zs × P) (Ok all) (read_index site.integers site.line st at ys x b e h)
  index_done r before checked all P a q j k w =
      let c : StandsEvaluated site.variables checked check =
      subst (λ o. value.Answers (StandsEvaluated site.variables) evaluated_fits o check) (placed_ok b r checked q) a in (
        and_indexes ys (subscript x b i no_subscript),
        index_wanted c.numbers,
        (
          subst (λ d. StandsEvaluated site.variables all d) (sym (one_index site.integers site.line ys x b i h))
              (k site.variables (indexed site.integers site.line ys h) check (numbers_grow site.integers site.line i next) j c),
          w,
        ),
      )

-- an index that was read, with all that it is made of
pub index_whole : (site : Site) (st : State) (at : ℕ) (ys : Subscripts) (h : ℕ) (x : Extent) (b : ℕ) (e : Expr) (rest close : List Token)
    (before : code_evaluated.Evaluated) → IsIndexedOf site h before ys → (now after : Reading) (bracket : ℕ) → bracket ≡ b
    → (w : Value) (number : Number) (checked all : code_evaluated.Evaluated) (r : Result code_evaluated.Evaluated OperationFault)
    → Reads site before.next (read site.integers site.line st e before.next) close (Ok w) now
    → ((d : core.Elaborated) → Stands site.variables w d → StandsNumber site.variables number (numbered site.integers site.line d))
    → ((a : Numbered) → StandsNumber site.variables number a
    → value.Answers (StandsEvaluated site.variables) evaluated_fits r (index_behind site.line x bracket a))
    → placed bracket r ≡ Ok checked
    → ((n : ℕ) (d e : Evaluated) → d.next ≤ e.next → StandsEvaluated n before d → StandsEvaluated n checked e
    → StandsEvaluated n all (record { prelude = d.prelude ++ e.prelude; next = e.next }))
    → (now.ahead ≡ close → after.ahead ≡ rest)
    → ReadsIndexes site h (read_index site.integers site.line st at ys x b e h) rest (Ok all) after
index_whole site st at ys h x b e rest close before i now after bracket m w number checked all r t f k p j u =
    let n = (indexed site.integers site.line ys h).next in
    let q : read site.integers site.line st e n ≡ Ok t.0 = subst (λ n. read site.integers site.line st e n ≡ Ok t.0) i.next t.1 in
    let v : Stands site.variables w (elaborated site.integers site.line t.0 n) =
    subst (λ n. Stands site.variables w (elaborated site.integers site.line t.0 n)) i.next t.2.0 in
    let a = numbered site.integers site.line (elaborated site.integers site.line t.0 n) in
    let o : value.Answers (StandsEvaluated site.variables) evaluated_fits r (index_behind site.line x b a) =
    subst (λ b. value.Answers (StandsEvaluated site.variables) evaluated_fits r (index_behind site.line x b a)) m
    (k a (f (elaborated site.integers site.line t.0 n) v)) in
    index_done site st at ys h x b e t.0 q r before checked all (after.ahead ≡ rest) o
    (subst (λ b. placed b r ≡ Ok checked) m p) i j (u t.2.1)

-- an element of an array by its name
pub element_named : (site : Site) (st : State) (h : ℕ) (x : Name) (a : ℕ) (is : tree.Subscripts) (rest : List Token) → Stops 7 rest
    → (now : Reading) → now.ahead ≡ spell_subscripts is ++ rest → (count : ℕ) (xs : List Extent)
    → ((is : tree.Subscripts) (ts : List Token) → now.ahead ≡ spell_subscripts is ++ ts → (first_kind ts ≡ left_bracket → ⊥)
    → count ≡ subscript_count is)
    → Ok xs ≡ array_of x a count st → (out : Result Value Stop) (after : Reading)
    → (subscript_count is ≡ length xs → Reads site h (read_element site.integers site.line st a xs is h) rest out after)
    → Reads site h (read site.integers site.line st (tree.element x a is) h) rest out after
element_named site st h x a is rest s now p count xs f e out after r =
    let c : count ≡ subscript_count is = f is rest p (λ k. let t : true ≡ false = sym (ap (goes_on 7) k) ∙ s in cc) in
    let d : array_of x a (subscript_count is) st ≡ Ok xs = sym (e ∙ ap (λ n. array_of x a n st) c) in
    ok_then (λ v x. IsRead site h v x × (after.ahead ≡ rest)) out (array_of x a (subscript_count is) st) xs
    (λ xs. read_element site.integers site.line st a xs is h) d
    (r (sym (counted (thing_of x st) d))) where
      counted : (o : Option Thing) → as_array a (subscript_count is) o ≡ Ok xs → length xs ≡ subscript_count is
      counted None k = cc
      counted (Some (names.variable i)) k = cc
      counted (Some (names.constant v)) k = cc
      counted (Some (names.array ys)) k = by (nat_eq (length ys) (subscript_count is)) refl k where
        by : (b : Bool) → nat_eq (length ys) (subscript_count is) ≡ b → provided b (WrongKind a) ys ≡ Ok xs
            → length xs ≡ subscript_count is
        by true t u = let v : ys ≡ xs = cc in ap length (sym v) ∙ eqb-true (length ys) (subscript_count is) t
        by false t u = cc

-- ---- indexes in a row
-- indexes are read up to some of them
pub record Indexing (site : Site) (st : State) (h at : ℕ) (xs : List Extent) (all : List Bracket) (rest : List Token) (count : ℕ)
    (v : code_evaluated.Evaluated) (ahead : List Token) : Type 0 where
  -- those that were read
  pub so_far : Subscripts
  -- those that are to come
  pub others : List Bracket
  -- as many as extents
  pub as_many : length others + count ≡ length xs
  -- they group as they must
  pub good : GoodBrackets others
  -- they come next
  pub ahead_is : ahead ≡ spell_brackets others ++ rest
  -- the code has what was read
  pub stands : IsIndexedOf site h v so_far
  -- all are read alike
  pub reads : read_brackets site.integers site.line st at no_subscript xs all h
      ≡ read_brackets site.integers site.line st at so_far (drop count xs) others h

-- what reading one more index behind some answers
abbrev pub ReadsIndex : Site → State → Extent → code_evaluated.Evaluated → Reading → Result code_evaluated.Evaluated Stop → Reading → Type 0
ReadsIndex site st x before now result after = (at : ℕ) (ys : Subscripts) (h b c : ℕ) (e : Expr) (rest : List Token)
    → IsIndexedOf site h before ys → Groups 0 e
    → now.ahead ≡ token left_bracket b ∷ (spell_expr e ++ token right_bracket c ∷ rest)
    → ReadsIndexes site h (read_index site.integers site.line st at ys x b e h) rest result after

module _ (site : Site) (st : State) (h at : ℕ) (xs : List Extent) (is : tree.Subscripts) (rest : List Token) where
  abbrev Here : ℕ → code_evaluated.Evaluated → List Token → Type 0
  Here count v ahead = Indexing site st h at xs (brackets_of is) rest count v ahead

  -- at first
  pub indexing_first : (v : code_evaluated.Evaluated) (ahead : List Token) → GoodSubscripts is → subscript_count is ≡ length xs
      → ahead ≡ spell_subscripts is ++ rest → IsIndexedOf site h v no_subscript → Here 0 v ahead
  indexing_first v ahead g l a i = record {
    so_far = no_subscript;
    others = brackets_of is;
    as_many = let k = brackets_counted is in omega (arith, k, l);
    good = brackets_good is g;
    ahead_is = a ∙ ap (λ ts. ts ++ rest) (brackets_spelled is);
    stands = i;
    reads = refl;
  }

  -- what is wanted of all of them
  wanted_is : subscript_count is ≡ length xs → read_element site.integers site.line st at xs is h
      ≡ (read_brackets site.integers site.line st at no_subscript xs (brackets_of is) h >>= λ ys. Ok (made.element ys at))
  wanted_is l = ap (λ r. r >>= λ ys. Ok (made.element ys at)) (all_read site.integers site.line st at xs is h (sym l))

  -- behind the last of them
  pub indexing_last : (count : ℕ) (v : code_evaluated.Evaluated) (w : Value) (after : Reading) → subscript_count is ≡ length xs
      → length xs ≤ count → Here count v after.ahead
      → ((n : ℕ) (d : Evaluated) → StandsEvaluated n v d → Stands n w (record { prelude = d.prelude; result = core.any; next = d.next }))
      → Reads site h (read_element site.integers site.line st at xs is h) rest (Ok w) after
  indexing_last count v w after l k g f = by g.others g.as_many g.ahead_is g.reads where
    by : (bs : List Bracket) → length bs + count ≡ length xs → after.ahead ≡ spell_brackets bs ++ rest
        → read_brackets site.integers site.line st at no_subscript xs (brackets_of is) h
        ≡ read_brackets site.integers site.line st at g.so_far (drop count xs) bs h
        → Reads site h (read_element site.integers site.line st at xs is h) rest (Ok w) after
    by (b ∷ bs) m a r = absurd (omega (arith, m, k))
    by [] m a r = (
      made.element g.so_far at,
      wanted_is l ∙ ap (λ q. q >>= λ ys. Ok (made.element ys at))
          (r ∙ at_drop_all (λ zs. read_brackets site.integers site.line st at g.so_far zs [] h) xs count k),
      (f site.variables (indexed site.integers site.line g.so_far h) g.stands, a),
    )

  -- the next of them
  indexing_next : (count : ℕ) (v : code_evaluated.Evaluated) (x : Extent) (ahead : List Token) → count < length xs
      → drop count xs ≡ x ∷ drop (count + 1) xs → (g : Here count v ahead)
      → (b : Bracket) × (bs : List Bracket) × (length bs + (count + 1) ≡ length xs) × Groups 0 b.index × GoodBrackets bs
      × (ahead ≡ token left_bracket b.open_at ∷ (spell_expr b.index ++ token right_bracket b.close_at ∷ (spell_brackets bs ++ rest)))
      × (read_brackets site.integers site.line st at no_subscript xs (brackets_of is) h
      ≡ (read_index site.integers site.line st at g.so_far x b.open_at b.index h
      >>= λ zs. read_brackets site.integers site.line st at zs (drop (count + 1) xs) bs h))
  indexing_next count v x ahead k d g = by g.others g.as_many g.good g.ahead_is g.reads where
    by : (cs : List Bracket) → length cs + count ≡ length xs → GoodBrackets cs → ahead ≡ spell_brackets cs ++ rest
        → read_brackets site.integers site.line st at no_subscript xs (brackets_of is) h
        ≡ read_brackets site.integers site.line st at g.so_far (drop count xs) cs h
        → (b : Bracket) × (bs : List Bracket) × (length bs + (count + 1) ≡ length xs) × Groups 0 b.index × GoodBrackets bs
        × (ahead ≡ token left_bracket b.open_at ∷ (spell_expr b.index ++ token right_bracket b.close_at ∷ (spell_brackets bs ++ rest)))
        × (read_brackets site.integers site.line st at no_subscript xs (brackets_of is) h
        ≡ (read_index site.integers site.line st at g.so_far x b.open_at b.index h
        >>= λ zs. read_brackets site.integers site.line st at zs (drop (count + 1) xs) bs h))
    by [] m o a r = absurd (omega (arith, m, k))
    by (b ∷ bs) m o a r = (
      b,
      bs,
      omega (arith, m),
      o.0,
      o.1,
      a ∙ ap (λ ts. token left_bracket b.open_at ∷ ts)
          (append_assoc (spell_expr b.index) (token right_bracket b.close_at ∷ spell_brackets bs) rest),
      r ∙ ap (λ zs. read_brackets site.integers site.line st at g.so_far zs (b ∷ bs) h) d,
    )

  -- a fault of it
  pub indexing_fault : (count : ℕ) (v : code_evaluated.Evaluated) (x : Extent) (now after : Reading) (out : Result Value Stop) (s : Stop)
      → subscript_count is ≡ length xs → count < length xs → drop count xs ≡ x ∷ drop (count + 1) xs → Here count v now.ahead
      → IsErrAnd out (λ z. z ≡ s) → ReadsIndex site st x v now (Err s) after
      → Reads site h (read_element site.integers site.line st at xs is h) rest out after
  indexing_fault count v x now after out s l k d g e r =
      let t = indexing_next count v x now.ahead k d g in
      let w = spell_brackets t.1 ++ rest in
      let As : Value → Expression → Type 0 = λ v y. IsRead site h v y × (after.ahead ≡ rest) in
      let one = read_index site.integers site.line st at g.so_far x t.0.open_at t.0.index h in
      let more : Subscripts → Result Subscripts FunctionFault =
      λ zs. read_brackets site.integers site.line st at zs (drop (count + 1) xs) t.1 h in
      wanted_of As out (read_element site.integers site.line st at xs is h) ((one >>= more) >>= λ ys. Ok (made.element ys at))
      (wanted_is l ∙ ap (λ q. q >>= λ ys. Ok (made.element ys at)) t.6)
      (wanted_of As out ((one >>= more) >>= λ ys. Ok (made.element ys at)) (one >>= λ zs. more zs >>= λ ys. Ok (made.element ys at))
      (bind_assoc one more (λ ys. Ok (made.element ys at)))
      (handed_then (λ v zs. IsIndexedOf site h v zs × (after.ahead ≡ w)) As out s one (λ zs. more zs >>= λ ys. Ok (made.element ys at)) e
      (r at g.so_far h t.0.open_at t.0.close_at t.0.index w g.stands t.3 t.5)))

  -- behind it
  pub indexing_more : (count : ℕ) (v all : code_evaluated.Evaluated) (x : Extent) (now after : Reading)
      → count < length xs → drop count xs ≡ x ∷ drop (count + 1) xs → Here count v now.ahead → ReadsIndex site st x v now (Ok all) after
      → Here (count + 1) all after.ahead
  indexing_more count v all x now after k d g r =
      let t = indexing_next count v x now.ahead k d g in
      let w = spell_brackets t.1 ++ rest in
      let a = r at g.so_far h t.0.open_at t.0.close_at t.0.index w g.stands t.3 t.5 in
      record {
        so_far = a.0;
        others = t.1;
        as_many = t.2;
        good = t.4;
        ahead_is = a.2.1;
        stands = a.2.0;
        reads = t.6
            ∙ ap (λ q. q >>= λ zs. read_brackets site.integers site.line st at zs (drop (count + 1) xs) t.1 h) a.1;
      }

-- the extents of the code from a place on
pub extents_from : (extents : List code_extent.Extent) (i : ℕ) (d : code_extent.Extent) → i < length extents
    → drop i (map extent_of extents) ≡ extent_of (get_or extents i d) ∷ drop (i + 1) (map extent_of extents)
extents_from extents i d h = drop_map i extents ∙ at_drop_more (map extent_of) extents i d h
    ∙ ap (λ xs. extent_of (get_or extents i d) ∷ xs) (sym (drop_map (i + 1) extents)) where
      drop_map : (i : ℕ) (xs : List code_extent.Extent) → drop i (map extent_of xs) ≡ map extent_of (drop i xs)
      drop_map zero xs = refl
      drop_map (suc i) [] = refl
      drop_map (suc i) (x ∷ xs) = drop_map i xs
