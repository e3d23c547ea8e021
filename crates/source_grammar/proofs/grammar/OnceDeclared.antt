-- Declarations have at most one reading.
use Rattle.std.proofs.Common.{◌≡◌, ◌∙◌, ◌++◌, ℕ, List, [], ◌∷◌, refl, sym, ap, ap₂, append_assoc}
use Rattle.source_grammar.specs.Tokens.{replaces, Kind, a_name, left_bracket, right_bracket, comma, change_sign, int_word, Token, token}
use Rattle.source_grammar.specs.Tokens.{Name, const_word, left_brace, right_brace}
use Rattle.source_grammar.specs.Grammar.{Expr, spell_expr, place, update, step_before, Updates, no_updates, some_updates, spell_updates}
use Rattle.source_grammar.specs.Grammar.{Initialiser, bare, given, sized, spell_initialiser, GoodInitialiser, Declarator, declarator}
use Rattle.source_grammar.specs.Grammar.{spell_declarator, GoodDeclarator, MoreDeclarators, last_declarator, next_declarator}
use Rattle.source_grammar.specs.Grammar.{spell_more_declarators, GoodMoreDeclarators, Declarators, declares, spell_declarators}
use Rattle.source_grammar.specs.Grammar.{GoodDeclarators, ForFirst, declared_first, updated_first, spell_first, GoodFirst, GoodMoreValues}
use Rattle.source_grammar.specs.Grammar.{GoodValue, GoodValues, IntType, MoreValues, Size, Sizes, Value, Values, braced, const_int, filled}
use Rattle.source_grammar.specs.Grammar.{last_comma, last_size, last_value, name_size, next_size, next_value, no_values, number_size}
use Rattle.source_grammar.specs.Grammar.{one_value, plain_int, spell_more_values, spell_size, spell_sizes, spell_type, spell_value}
use Rattle.source_grammar.specs.Grammar.{spell_values, values}
use Rattle.source_grammar.proofs.machine.Goes.{First}
use Rattle.source_grammar.proofs.grammar.Follow.{AfterExpr, AfterList, AfterPart, list_part, part_expr, expr_first, AfterValues, NoBracket}
use Rattle.source_grammar.proofs.grammar.Follow.{StartsExpr, part_no_bracket, values_expr}
use Rattle.source_grammar.proofs.grammar.Unique.{expr_once, tail_of, head_of, first_at}
use Rattle.source_grammar.proofs.grammar.OncePieces.{clash, updates_once, widen}

-- ---- trees that are determined by their parts
given_same : (a b : ℕ) (e f : Expr) → token (change_sign replaces) a ≡ token (change_sign replaces) b → e ≡ f → given a e ≡ given b f
given_same a b e f h i = cc

declarator_same : (x : Name) (a : ℕ) (i : Initialiser) (y : Name) (b : ℕ) (j : Initialiser) → token (a_name x) a ≡ token (a_name y) b
    → i ≡ j → declarator x a i ≡ declarator y b j
declarator_same x a i y b j h k = cc

next_declarator_same : (a b : ℕ) (x y : Declarator) (xs ys : MoreDeclarators) → token comma a ≡ token comma b → x ≡ y → xs ≡ ys
    → next_declarator a x xs ≡ next_declarator b y ys
next_declarator_same a b x y xs ys h i j = cc

last_size_same : (a : ℕ) (s : Size) (b a2 : ℕ) (t : Size) (b2 : ℕ) → token left_bracket a ≡ token left_bracket a2 → s ≡ t
    → token right_bracket b ≡ token right_bracket b2 → last_size a s b ≡ last_size a2 t b2
last_size_same a s b a2 t b2 h i j = cc

next_size_same : (a : ℕ) (s : Size) (b : ℕ) (ss : Sizes) (a2 : ℕ) (t : Size) (b2 : ℕ) (ts : Sizes)
    → token left_bracket a ≡ token left_bracket a2 → s ≡ t → token right_bracket b ≡ token right_bracket b2 → ss ≡ ts
    → next_size a s b ss ≡ next_size a2 t b2 ts
next_size_same a s b ss a2 t b2 ts h i j k = cc

braced_same : (a : ℕ) (vs : Values) (b a2 : ℕ) (us : Values) (b2 : ℕ) → token left_brace a ≡ token left_brace a2 → vs ≡ us
    → token right_brace b ≡ token right_brace b2 → braced a vs b ≡ braced a2 us b2
braced_same a vs b a2 us b2 h i j = cc

next_value_same : (a b : ℕ) (u v : Value) (us vs : MoreValues) → token comma a ≡ token comma b → u ≡ v → us ≡ vs
    → next_value a u us ≡ next_value b v vs
next_value_same a b u v us vs h i j = cc

filled_same : (ss : Sizes) (a b : ℕ) (vs : Values) (c : ℕ) (ts : Sizes) (a2 b2 : ℕ) (us : Values) (c2 : ℕ) → ss ≡ ts
    → token (change_sign replaces) a ≡ token (change_sign replaces) a2 → token left_brace b ≡ token left_brace b2 → vs ≡ us
    → token right_brace c ≡ token right_brace c2 → filled ss a b vs c ≡ filled ts a2 b2 us c2
filled_same ss a b vs c ts a2 b2 us c2 h i j k l = cc

-- ---- sizes
size_once : (s t : Size) (w x : List Token) → spell_size s ++ w ≡ spell_size t ++ x → (s ≡ t) × (w ≡ x)
size_once (number_size n a) (number_size m b) w x q = ((cc), (cc))
size_once (name_size y a) (name_size z b) w x q = ((cc), (cc))
size_once (number_size n a) (name_size z b) w x q = cc
size_once (name_size z b) (number_size n a) w x q = cc

-- a size, `]`, and others
size_ended : (s t : Size) (a b : ℕ) (y z w x : List Token)
    → (spell_size s ++ token right_bracket a ∷ y) ++ w ≡ (spell_size t ++ token right_bracket b ∷ z) ++ x
    → (s ≡ t) × (token right_bracket a ∷ (y ++ w) ≡ token right_bracket b ∷ (z ++ x))
size_ended s t a b y z w x q = size_once s t (token right_bracket a ∷ (y ++ w)) (token right_bracket b ∷ (z ++ x))
    (sym (append_assoc (spell_size s) (token right_bracket a ∷ y) w) ∙ q ∙ append_assoc (spell_size t) (token right_bracket b ∷ z) x)

-- what does not go on with `[` is no sizes
pub no_sizes : (ss : Sizes) (w y : List Token) → First NoBracket w → w ≡ spell_sizes ss ++ y → ⊥
no_sizes (last_size a s b) w y h q = first_at NoBracket w left_bracket a _ h q
no_sizes (next_size a s b ss) w y h q = first_at NoBracket w left_bracket a _ h q

-- the brackets of an array
pub sizes_once : (ss ts : Sizes) (w x : List Token) → First NoBracket w → First NoBracket x → spell_sizes ss ++ w ≡ spell_sizes ts ++ x
    → (ss ≡ ts) × (w ≡ x)
sizes_once (last_size a s b) (last_size c t d) w x i j q =
    let r = size_ended s t b d [] [] w x (tail_of _ _ _ _ q) in
    (last_size_same a s b c t d (head_of _ _ _ _ q) r.0 (head_of _ _ _ _ r.1), tail_of _ _ _ _ r.1)
sizes_once (last_size a s b) (next_size c t d ts) w x i j q =
    let r = size_ended s t b d [] (spell_sizes ts) w x (tail_of _ _ _ _ q) in absurd (no_sizes ts w x i (tail_of _ _ _ _ r.1))
sizes_once (next_size a s b ss) (last_size c t d) w x i j q =
    let r = size_ended s t b d (spell_sizes ss) [] w x (tail_of _ _ _ _ q) in absurd (no_sizes ss x w j (sym (tail_of _ _ _ _ r.1)))
sizes_once (next_size a s b ss) (next_size c t d ts) w x i j q =
    let r = size_ended s t b d (spell_sizes ss) (spell_sizes ts) w x (tail_of _ _ _ _ q) in
    let u = sizes_once ss ts w x i j (tail_of _ _ _ _ r.1) in
    (next_size_same a s b ss c t d ts (head_of _ _ _ _ q) r.0 (head_of _ _ _ _ r.1) u.0, u.1)

-- ---- values
-- the kinds of token with which a value begins
abbrev StartsValue : Kind → Type 0
StartsValue left_brace = Unit {0}
StartsValue k = StartsExpr k

expr_value : (k : Kind) → StartsExpr k → StartsValue k
expr_value left_brace h = tt
expr_value _ h = h

value_first : (v : Value) (w : List Token) → First StartsValue (spell_value v ++ w)
value_first (one_value e) w = widen StartsExpr StartsValue (spell_expr e ++ w) expr_value (expr_first e w)
value_first (braced a vs b) w = tt

-- what may follow values begins none
no_value : (k : Kind) → AfterValues k → StartsValue k → ⊥
no_value right_brace h i = i
no_value _ h i = h

more_values_first : (vs : MoreValues) (w : List Token) → First AfterValues w → First AfterExpr (spell_more_values vs ++ w)
more_values_first last_value w h = widen AfterValues AfterExpr w values_expr h
more_values_first (last_comma a) w h = tt
more_values_first (next_value a v vs) w h = tt

mutual
  value_once : (u v : Value) (w x : List Token) → GoodValue u → GoodValue v → First AfterExpr w → First AfterExpr x
      → spell_value u ++ w ≡ spell_value v ++ x → (u ≡ v) × (w ≡ x)
  value_once (one_value e) (one_value f) w x g h i j q = let r = expr_once e f w x g h i j q in (ap one_value r.0, r.1)
  value_once (one_value e) (braced a vs b) w x g h i j q = absurd (first_at StartsExpr _ left_brace a _ (expr_first e w) q)
  value_once (braced a vs b) (one_value e) w x g h i j q = absurd (first_at StartsExpr _ left_brace a _ (expr_first e x) (sym q))
  value_once (braced a us b) (braced c vs d) w x g h i j q =
      let r = values_once us vs (token right_brace b ∷ w) (token right_brace d ∷ x) g h tt tt
      (sym (append_assoc (spell_values us) (token right_brace b ∷ []) w) ∙ tail_of _ _ _ _ q
      ∙ append_assoc (spell_values vs) (token right_brace d ∷ []) x) in
      (braced_same a us b c vs d (head_of _ _ _ _ q) r.0 (head_of _ _ _ _ r.1), tail_of _ _ _ _ r.1)

  values_once : (us vs : Values) (w x : List Token) → GoodValues us → GoodValues vs → First AfterValues w → First AfterValues x
      → spell_values us ++ w ≡ spell_values vs ++ x → (us ≡ vs) × (w ≡ x)
  values_once no_values no_values w x g h i j q = (refl, q)
  values_once no_values (values v vs) w x g h i j q = absurd (clash AfterValues StartsValue w _ no_value i
      (q ∙ append_assoc (spell_value v) (spell_more_values vs) x) (value_first v _))
  values_once (values u us) no_values w x g h i j q = absurd (clash AfterValues StartsValue x _ no_value j
      (sym q ∙ append_assoc (spell_value u) (spell_more_values us) w) (value_first u _))
  values_once (values u us) (values v vs) w x g h i j q =
      let r = value_once u v (spell_more_values us ++ w) (spell_more_values vs ++ x) g.0 h.0 (more_values_first us w i)
      (more_values_first vs x j) (sym (append_assoc (spell_value u) (spell_more_values us) w) ∙ q
      ∙ append_assoc (spell_value v) (spell_more_values vs) x) in
      let s = more_values_once us vs w x g.1 h.1 i j r.1 in
      (ap₂ values r.0 s.0, s.1)

  more_values_once : (us vs : MoreValues) (w x : List Token) → GoodMoreValues us → GoodMoreValues vs → First AfterValues w
      → First AfterValues x → spell_more_values us ++ w ≡ spell_more_values vs ++ x → (us ≡ vs) × (w ≡ x)
  more_values_once last_value last_value w x g h i j q = (refl, q)
  more_values_once last_value (last_comma a) w x g h i j q = absurd (first_at AfterValues w comma a _ i q)
  more_values_once (last_comma a) last_value w x g h i j q = absurd (first_at AfterValues x comma a _ j (sym q))
  more_values_once last_value (next_value a v vs) w x g h i j q = absurd (first_at AfterValues w comma a _ i q)
  more_values_once (next_value a v vs) last_value w x g h i j q = absurd (first_at AfterValues x comma a _ j (sym q))
  more_values_once (last_comma a) (last_comma b) w x g h i j q = ((cc), (cc))
  more_values_once (last_comma a) (next_value b v vs) w x g h i j q = absurd (clash AfterValues StartsValue w _ no_value i
      (tail_of _ _ _ _ q ∙ append_assoc (spell_value v) (spell_more_values vs) x) (value_first v _))
  more_values_once (next_value b v vs) (last_comma a) w x g h i j q = absurd (clash AfterValues StartsValue x _ no_value j
      (sym (tail_of _ _ _ _ q) ∙ append_assoc (spell_value v) (spell_more_values vs) w) (value_first v _))
  more_values_once (next_value a u us) (next_value b v vs) w x g h i j q =
      let r = value_once u v (spell_more_values us ++ w) (spell_more_values vs ++ x) g.0 h.0 (more_values_first us w i)
      (more_values_first vs x j) (sym (append_assoc (spell_value u) (spell_more_values us) w) ∙ tail_of _ _ _ _ q
      ∙ append_assoc (spell_value v) (spell_more_values vs) x) in
      let s = more_values_once us vs w x g.1 h.1 i j r.1 in
      (next_value_same a b u v us vs (head_of _ _ _ _ q) r.0 s.0, s.1)

-- ---- declarations
-- the values of an array and what is before them
abbrev fill_text : ℕ → ℕ → Values → ℕ → List Token
fill_text a b vs c = token (change_sign replaces) a ∷ token left_brace b ∷ (spell_values vs ++ token right_brace c ∷ [])

part_first : (w : List Token) → First AfterPart w → First NoBracket w
part_first w h = widen AfterPart NoBracket w part_no_bracket h

initialiser_once : (t u : Initialiser) (w x : List Token) → GoodInitialiser t → GoodInitialiser u → First AfterPart w → First AfterPart x
    → spell_initialiser t ++ w ≡ spell_initialiser u ++ x → (t ≡ u) × (w ≡ x)
initialiser_once bare bare w x g h i j q = (refl, q)
initialiser_once bare (given a f) w x g h i j q = absurd (first_at AfterPart w (change_sign replaces) a _ i q)
initialiser_once (given a f) bare w x g h i j q = absurd (first_at AfterPart x (change_sign replaces) a _ j (sym q))
initialiser_once bare (sized ts) w x g h i j q = absurd (no_sizes ts w x (part_first w i) q)
initialiser_once (sized ss) bare w x g h i j q = absurd (no_sizes ss x w (part_first x j) (sym q))
initialiser_once bare (filled ts a b vs c) w x g h i j q = absurd (no_sizes ts w _ (part_first w i)
    (q ∙ append_assoc (spell_sizes ts) (fill_text a b vs c) x))
initialiser_once (filled ss a b vs c) bare w x g h i j q = absurd (no_sizes ss x _ (part_first x j)
    (sym q ∙ append_assoc (spell_sizes ss) (fill_text a b vs c) w))
initialiser_once (given a e) (given b f) w x g h i j q =
    let r = expr_once e f w x g h (widen AfterPart AfterExpr w part_expr i) (widen AfterPart AfterExpr x part_expr j)
    (tail_of _ _ _ _ q) in
    (given_same a b e f (head_of _ _ _ _ q) r.0, r.1)
initialiser_once (given d e) (sized ts) w x g h i j q = absurd (no_sizes ts _ x tt q)
initialiser_once (sized ss) (given d e) w x g h i j q = absurd (no_sizes ss _ w tt (sym q))
initialiser_once (given d e) (filled ts a b vs c) w x g h i j q = absurd (no_sizes ts _ _ tt
    (q ∙ append_assoc (spell_sizes ts) (fill_text a b vs c) x))
initialiser_once (filled ss a b vs c) (given d e) w x g h i j q = absurd (no_sizes ss _ _ tt
    (sym q ∙ append_assoc (spell_sizes ss) (fill_text a b vs c) w))
initialiser_once (sized ss) (sized ts) w x g h i j q =
    let r = sizes_once ss ts w x (part_first w i) (part_first x j) q in (ap sized r.0, r.1)
initialiser_once (sized ss) (filled ts a b vs c) w x g h i j q =
    let r = sizes_once ss ts w (fill_text a b vs c ++ x) (part_first w i) tt
    (q ∙ append_assoc (spell_sizes ts) (fill_text a b vs c) x) in
    absurd (first_at AfterPart w (change_sign replaces) a _ i r.1)
initialiser_once (filled ss a b vs c) (sized ts) w x g h i j q =
    let r = sizes_once ss ts (fill_text a b vs c ++ w) x tt (part_first x j)
    (sym (append_assoc (spell_sizes ss) (fill_text a b vs c) w) ∙ q) in
    absurd (first_at AfterPart x (change_sign replaces) a _ j (sym r.1))
initialiser_once (filled ss a b vs c) (filled ts a2 b2 us c2) w x g h i j q =
    let r = sizes_once ss ts (fill_text a b vs c ++ w) (fill_text a2 b2 us c2 ++ x) tt tt
    (sym (append_assoc (spell_sizes ss) (fill_text a b vs c) w) ∙ q ∙ append_assoc (spell_sizes ts) (fill_text a2 b2 us c2) x) in
    let t = tail_of _ _ _ _ r.1 in
    let s = values_once vs us (token right_brace c ∷ w) (token right_brace c2 ∷ x) g h tt tt
    (sym (append_assoc (spell_values vs) (token right_brace c ∷ []) w) ∙ tail_of _ _ _ _ t
    ∙ append_assoc (spell_values us) (token right_brace c2 ∷ []) x) in (
      filled_same ss a b vs c ts a2 b2 us c2 r.0 (head_of _ _ _ _ r.1) (head_of _ _ _ _ t) s.0 (head_of _ _ _ _ s.1),
      tail_of _ _ _ _ s.1,
    )

declarator_once : (s t : Declarator) (w x : List Token) → GoodDeclarator s → GoodDeclarator t → First AfterPart w → First AfterPart x
    → spell_declarator s ++ w ≡ spell_declarator t ++ x → (s ≡ t) × (w ≡ x)
declarator_once (declarator y a s) (declarator z b t) w x g h i j q =
    let r = initialiser_once s t w x g h i j (tail_of _ _ _ _ q) in
    (declarator_same y a s z b t (head_of _ _ _ _ q) r.0, r.1)

more_declarators_first : (xs : MoreDeclarators) (w : List Token) → First AfterList w → First AfterPart (spell_more_declarators xs ++ w)
more_declarators_first last_declarator w h = widen AfterList AfterPart w list_part h
more_declarators_first (next_declarator a u us) w h = tt

more_declarators_once : (us vs : MoreDeclarators) (w x : List Token) → GoodMoreDeclarators us → GoodMoreDeclarators vs → First AfterList w
    → First AfterList x → spell_more_declarators us ++ w ≡ spell_more_declarators vs ++ x → (us ≡ vs) × (w ≡ x)
more_declarators_once last_declarator last_declarator w x g h i j q = (refl, q)
more_declarators_once last_declarator (next_declarator a v vs) w x g h i j q = absurd (first_at AfterList w comma a _ i q)
more_declarators_once (next_declarator a u us) last_declarator w x g h i j q = absurd (first_at AfterList x comma a _ j (sym q))
more_declarators_once (next_declarator a u us) (next_declarator b v vs) w x g h i j q =
    let r = declarator_once u v (spell_more_declarators us ++ w) (spell_more_declarators vs ++ x) g.0 h.0 (more_declarators_first us w i)
    (more_declarators_first vs x j) (sym (append_assoc (spell_declarator u) (spell_more_declarators us) w) ∙ tail_of _ _ _ _ q
    ∙ append_assoc (spell_declarator v) (spell_more_declarators vs) x) in
    let s = more_declarators_once us vs w x g.1 h.1 i j r.1 in
    (next_declarator_same a b u v us vs (head_of _ _ _ _ q) r.0 s.0, s.1)

-- declarators
pub declarators_once : (us vs : Declarators) (w x : List Token) → GoodDeclarators us → GoodDeclarators vs → First AfterList w
    → First AfterList x → spell_declarators us ++ w ≡ spell_declarators vs ++ x → (us ≡ vs) × (w ≡ x)
declarators_once (declares u us) (declares v vs) w x g h i j q =
    let r = declarator_once u v (spell_more_declarators us ++ w) (spell_more_declarators vs ++ x) g.0 h.0 (more_declarators_first us w i)
    (more_declarators_first vs x j) (sym (append_assoc (spell_declarator u) (spell_more_declarators us) w) ∙ q
    ∙ append_assoc (spell_declarator v) (spell_more_declarators vs) x) in
    let s = more_declarators_once us vs w x g.1 h.1 i j r.1 in
    (ap₂ declares r.0 s.0, s.1)

-- the type of a declaration or a parameter
pub type_once : (s t : IntType) (w x : List Token) → spell_type s ++ w ≡ spell_type t ++ x → (s ≡ t) × (w ≡ x)
type_once (plain_int a) (plain_int b) w x q = ((cc), (cc))
type_once (const_int a b) (const_int c d) w x q = ((cc), (cc))
type_once (plain_int a) (const_int c d) w x q = cc
type_once (const_int c d) (plain_int a) w x q = cc

-- `int` and `const` begin no changes, and nothing that may follow them
no_type : (t : IntType) (us : Updates) (y w : List Token) → First AfterList w → spell_type t ++ y ≡ spell_updates us ++ w → ⊥
no_type (plain_int a) no_updates y w h e = first_at AfterList w int_word a y h (sym e)
no_type (plain_int a) (some_updates (update (place x b i) f) us) y w h e = cc
no_type (plain_int a) (some_updates (step_before g b p) us) y w h e = cc
no_type (const_int a c) no_updates y w h e = first_at AfterList w const_word a _ h (sym e)
no_type (const_int a c) (some_updates (update (place x b i) f) us) y w h e = cc
no_type (const_int a c) (some_updates (step_before g b p) us) y w h e = cc

-- the first part of a `for`'s head
pub first_once : (s t : ForFirst) (w x : List Token) → GoodFirst s → GoodFirst t → First AfterList w → First AfterList x
    → spell_first s ++ w ≡ spell_first t ++ x → (s ≡ t) × (w ≡ x)
first_once (declared_first s us) (declared_first t vs) w x g h i j q =
    let k = type_once s t _ _ (sym (append_assoc (spell_type s) (spell_declarators us) w) ∙ q
    ∙ append_assoc (spell_type t) (spell_declarators vs) x) in
    let r = declarators_once us vs w x g h i j k.1 in
    (ap₂ declared_first k.0 r.0, r.1)
first_once (declared_first s us) (updated_first vs) w x g h i j q = absurd (no_type s vs _ x j
    (sym (append_assoc (spell_type s) (spell_declarators us) w) ∙ q))
first_once (updated_first us) (declared_first t vs) w x g h i j q = absurd (no_type t us _ w i
    (sym (append_assoc (spell_type t) (spell_declarators vs) x) ∙ sym q))
first_once (updated_first us) (updated_first vs) w x g h i j q =
    let r = updates_once us vs w x g h i j q in (ap updated_first r.0, r.1)
