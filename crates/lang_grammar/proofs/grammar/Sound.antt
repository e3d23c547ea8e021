-- What the machine accepts is the spelling of a good tree.
use Rattle.std.proofs.Common.{◌≡◌, ◌∙◌, ◌++◌, ◌<◌, ◌≤◌, ◌⊎◌, ℕ, suc, List, [], ◌∷◌, refl, sym, append_assoc, arith}
use Rattle.lang_grammar.specs.Grammar.{equal, Op, compare_op, minus_op, a_name}
use Rattle.lang_grammar.specs.Grammar.{a_number, infix_sign, left_paren, right_paren, right_brace, comma, semicolon, colon, else_word}
use Rattle.lang_grammar.specs.Grammar.{Token, token, level, Groups}
use Rattle.lang_grammar.specs.Grammar.{Expr, number, variable, free, grouped, prefixed, joined, spell_expr, Declarators, spell_declarators}
use Rattle.lang_grammar.specs.Grammar.{GoodDeclarators, Core}
use Rattle.lang_grammar.specs.Grammar.{spell_core, ending_core, GoodCore, Sub, Items, Return, spell_return, Parameters, spell_parameters}
use Rattle.lang_grammar.specs.Grammar.{spell_sub, spell_items}
use Rattle.lang_grammar.specs.Grammar.{Ending, shut, waiting, ending_sub, GoodSub, GoodItems, while_word, Update, spell_update, GoodUpdate}
use Rattle.lang_grammar.specs.Grammar.{ForFirst, spell_first}
use Rattle.lang_grammar.specs.Grammar.{GoodFirst, ForTest, spell_test, GoodTest, ForLast, spell_last, GoodLast}
use Rattle.lang_grammar.specs.Machine.{Ender, until_paren, until_semicolon, until_declared, in_sub, in_block, in_main, Goal, operand, more}
use Rattle.lang_grammar.specs.Machine.{statement, after_name}
use Rattle.lang_grammar.specs.Machine.{maybe_else, condition, do_end, header, header_first, header_test, header_last, updating, declarator}
use Rattle.lang_grammar.specs.Machine.{declared, some_name, parameters, returned, some_number, only, mark_kind}
use Rattle.lang_grammar.proofs.grammar.Complete.{NotElse}
use Rattle.std.proofs.lemmas.Bool.{ltb-true, ltb-false}
use Rattle.std.proofs.lemmas.List.{append-nil}
use Rattle.std.specs.Prelude.{nat_lt, Bool, true, false}

-- signs and what stands behind each
pub data Links : Type 0 where
  ended : Links
  link : Op → ℕ → Expr → Links → Links

-- how links are spelled
abbrev pub spell_links : Links → List Token
spell_links ended = []
spell_links (link o a e ls) = token (infix_sign o) a ∷ (spell_expr e ++ spell_links ls)

-- each operand of the links is one
abbrev pub GoodLinks : Links → Type 0
GoodLinks ended = Unit {0}
GoodLinks (link o a e ls) = Groups 6 e × GoodLinks ls

-- the tree with one more sign and operand at its end
abbrev pub extend : Expr → Op → ℕ → Expr → Expr
extend (joined e p b f) o a u = elim (nat_lt (level p) (level o)) [
  | true ↦ joined e p b (extend f o a u)
  | false ↦ joined (joined e p b f) o
      a u
]
extend (number n b) o a u = joined (number n b) o a u
extend (variable x b) o a u = joined (variable x b) o a u
extend (free i j k) o a u = joined (free i j k) o a u
extend (grouped i e j) o a u = joined (grouped i e j) o a u
extend (prefixed p i e) o a u = joined (prefixed p i e) o a u

-- the tree with all these signs and operands at its end
abbrev pub extend_all : Expr → Links → Expr
extend_all e ended = e
extend_all e (link o a u ls) = extend_all (extend e o a u) ls

spell_extend : (e : Expr) (o : Op) (a : ℕ) (u : Expr) → spell_expr (extend e o a u) ≡ spell_expr e ++ token (infix_sign o) a ∷ spell_expr u
spell_extend (joined e p b f) o a u = spell_pick (nat_lt (level p) (level o)) e p b f o a u (spell_extend f o a u) where
  spell_pick : (t : Bool) (e : Expr) (p : Op) (b : ℕ) (f : Expr) (o : Op) (a : ℕ) (u : Expr)
      → spell_expr (extend f o a u) ≡ spell_expr f ++ token (infix_sign o) a ∷ spell_expr u
      → spell_expr (elim t as (λ x. Expr) [ true ↦ joined e p b (extend f o a u) | false ↦ joined (joined e p b f) o a u ])
      ≡ spell_expr (joined e p b f) ++ token (infix_sign o) a ∷ spell_expr u
  spell_pick true e p b f o a u h = rw h (sym (append_assoc (spell_expr e) (token (infix_sign p) b ∷ spell_expr f) _))
  spell_pick false e p b f o a u h = refl
spell_extend (number n b) o a u = refl
spell_extend _ o a u = refl

-- an expression with links at its end is spelled as it and the links
pub spell_all : (e : Expr) (ls : Links) → spell_expr (extend_all e ls) ≡ spell_expr e ++ spell_links ls
spell_all e ended = sym (append-nil (spell_expr e))
spell_all e (link o a u ls) = spell_all (extend e o a u) ls ∙ rw (spell_extend e o a u)
    (append_assoc (spell_expr e) (token (infix_sign o) a ∷ spell_expr u) (spell_links ls))

-- every sign holds looser than an operand
pub below_six : (o : Op) → level o < 6
below_six (compare_op equal) = omega arith
below_six _ = omega arith

-- an operand groups at every level
pub any_level : (l : ℕ) (u : Expr) → Groups 6 u → Groups l u
any_level l (number n a) g = tt
any_level l (variable x a) g = tt
any_level l (free a b c) g = tt
any_level l (grouped a e b) g = g
any_level l (prefixed p a e) g = g
any_level l (joined e o a f) g = absurd (omega (arith, g.0, below_six o))

groups_pick : (l : ℕ) (t : Bool) (e : Expr) (p : Op) (b : ℕ) (f : Expr) (o : Op) (a : ℕ) (u : Expr) → Groups l (joined e p b f)
    → l ≤ level o → Groups 6 u → (suc (level p) ≤ level o → Groups (suc (level p)) (extend f o a u)) → nat_lt (level p) (level o) ≡ t
    → Groups l (elim t as (λ x. Expr) [ true ↦ joined e p b (extend f o a u) | false ↦ joined (joined e p b f) o a u ])
groups_pick l true e p b f o a u g h k i w = (g.0, g.1, i (ltb-true (level p) (level o) w))
groups_pick l false e p b f o a u g h k i w = (h, (ltb-false (level p) (level o) w, g.1, g.2), any_level _ u k)

groups_extend : (l : ℕ) (e : Expr) (o : Op) (a : ℕ) (u : Expr) → Groups l e → l ≤ level o → Groups 6 u → Groups l (extend e o a u)
groups_extend l (joined e p b f) o a u g h k = groups_pick l (nat_lt (level p) (level o)) e p b f o a u g h k
    (λ t. groups_extend (suc (level p)) f o a u g.2 t k) refl
groups_extend l (number n b) o a u g h k = (h, tt, any_level _ u k)
groups_extend l (variable x b) o a u g h k = (h, tt, any_level _ u k)
groups_extend l (free i j m) o a u g h k = (h, tt, any_level _ u k)
groups_extend l (grouped i e j) o a u g h k = (h, g, any_level _ u k)
groups_extend l (prefixed p i e) o a u g h k = (h, g, any_level _ u k)

-- an expression with links at its end groups as it must
pub groups_all : (e : Expr) (ls : Links) → Groups 0 e → GoodLinks ls → Groups 0 (extend_all e ls)
groups_all e ended g h = g
groups_all e (link o a u ls) g h = groups_all (extend e o a u) ls (groups_extend 0 e o a u g (omega arith) h.0) h.1

-- what an `if` without `else` at the end forbids
abbrev pub Clear : Ending → List Token → Type 0
Clear shut v = Unit {0}
Clear waiting [] = Unit {0}
Clear waiting (token k a ∷ v) = NotElse k

-- what ends the initialiser of a declarator, with the declarators after it
pub data Rest : Type 0 where
  no_more : ℕ → Rest
  and_more : ℕ → Declarators → Rest

-- how what ends an initialiser is spelled
abbrev pub spell_rest : Rest → List Token
spell_rest (no_more a) = token semicolon a ∷ []
spell_rest (and_more a xs) = token comma a ∷ spell_declarators xs

-- the declarators after it are good
abbrev pub GoodRest : Rest → Type 0
GoodRest (no_more a) = Unit {0}
GoodRest (and_more a xs) = GoodDeclarators xs

-- what stands behind an expression
abbrev pub Ended : Ender → List Token → List Token → Type 0
Ended until_paren u v = (a : ℕ) × (u ≡ token right_paren a ∷ v)
Ended until_semicolon u v = (a : ℕ) × (u ≡ token semicolon a ∷ v)
Ended until_declared u v = (r : Rest) × (u ≡ spell_rest r ++ v) × GoodRest r

-- the number behind `return`
pub data Result : Type 0 where
  just : ℕ → ℕ → Result
  minus : ℕ → ℕ → ℕ → Result

-- how the number after `return` is spelled
abbrev pub spell_result : Result → List Token
spell_result (just n a) = token (a_number n) a ∷ []
spell_result (minus a n b) = token (infix_sign minus_op) a ∷ token (a_number n) b ∷ []

-- The text is spelled as these goals ask.
abbrev pub Holds : List Goal → List Token → Type 0
Holds [] w = w ≡ []
Holds (operand d ∷ gs) w = (e : Expr) × (v : List Token) × (w ≡ spell_expr e ++ v) × Groups 6 e × Holds gs v
Holds (more n d ∷ gs) w = (ls : Links) × (u : List Token) × (v : List Token) × (w ≡ spell_links ls ++ u) × GoodLinks ls × Ended n u v
    × Holds gs v
Holds (statement in_sub d ∷ gs) w = (s : Sub) × (v : List Token) × (w ≡ spell_sub s ++ v) × GoodSub s × Clear (ending_sub s) v × Holds gs v
Holds (statement in_block d ∷ gs) w = (is : Items) × (a : ℕ) × (v : List Token) × (w ≡ spell_items is ++ token right_brace a ∷ v)
    × GoodItems is × Holds gs v
Holds (statement in_main d ∷ gs) w = (is : Items) × (r : Return) × (a : ℕ) × (v : List Token)
    × (w ≡ spell_items is ++ (spell_return r ++ token right_brace a ∷ v)) × GoodItems is × Holds gs v
Holds (after_name in_sub d ∷ gs) w = (x : List ℕ) (a : ℕ) → (s : Sub) × (v : List Token) × (token (a_name x) a ∷ w ≡ spell_sub s ++ v)
    × GoodSub s × Clear (ending_sub s) v × Holds gs v
Holds (after_name in_block d ∷ gs) w = ((b : ℕ) × (v : List Token) × (w ≡ token colon b ∷ v) × Holds gs v)
    ⊎ ((x : List ℕ) (a : ℕ) → (c : Core) × (v : List Token) × (token (a_name x) a ∷ w ≡ spell_core c ++ v) × GoodCore c
    × Clear (ending_core c) v × Holds gs v)
Holds (after_name in_main d ∷ gs) w = ((b : ℕ) × (v : List Token) × (w ≡ token colon b ∷ v) × Holds gs v)
    ⊎ ((x : List ℕ) (a : ℕ) → (c : Core) × (v : List Token) × (token (a_name x) a ∷ w ≡ spell_core c ++ v) × GoodCore c
    × Clear (ending_core c) v × Holds gs v)
Holds (maybe_else d ∷ gs) w = (Clear waiting w × Holds gs w) ⊎ ((a : ℕ) × (s : Sub) × (v : List Token)
    × (w ≡ token else_word a ∷ (spell_sub s ++ v)) × GoodSub s × Clear (ending_sub s) v × Holds gs v)
Holds (condition d ∷ gs) w = (b : ℕ) × (e : Expr) × (c : ℕ) × (v : List Token)
    × (w ≡ token left_paren b ∷ (spell_expr e ++ token right_paren c ∷ v)) × Groups 0 e × Holds gs v
Holds (do_end d ∷ gs) w = (b : ℕ) × (c : ℕ) × (e : Expr) × (i : ℕ) × (j : ℕ) × (v : List Token)
    × (w ≡ token while_word b ∷ token left_paren c ∷ (spell_expr e ++ token right_paren i ∷ token semicolon j ∷ v)) × Groups 0 e
    × Holds gs v
Holds (header d ∷ gs) w = (b : ℕ) × (f : ForFirst) × (t : ForTest) × (l : ForLast) × (v : List Token)
    × (w ≡ token left_paren b ∷ (spell_first f ++ (spell_test t ++ (spell_last l ++ v)))) × GoodFirst f × GoodTest t × GoodLast l
    × Holds gs v
Holds (header_first d ∷ gs) w = (f : ForFirst) × (v : List Token) × (w ≡ spell_first f ++ v) × GoodFirst f × Holds gs v
Holds (header_test d ∷ gs) w = (t : ForTest) × (v : List Token) × (w ≡ spell_test t ++ v) × GoodTest t × Holds gs v
Holds (header_last d ∷ gs) w = (l : ForLast) × (v : List Token) × (w ≡ spell_last l ++ v) × GoodLast l × Holds gs v
Holds (updating n d ∷ gs) w = (x : List ℕ) (a : ℕ) → (u : Update) × (y : List Token) × (v : List Token)
    × (token (a_name x) a ∷ w ≡ spell_update u ++ y) × GoodUpdate u × Ended n y v × Holds gs v
Holds (declarator d ∷ gs) w = (xs : Declarators) × (v : List Token) × (w ≡ spell_declarators xs ++ v) × GoodDeclarators xs × Holds gs v
Holds (declared d ∷ gs) w = (x : List ℕ) (a : ℕ) → (xs : Declarators) × (v : List Token)
    × (token (a_name x) a ∷ w ≡ spell_declarators xs ++ v) × GoodDeclarators xs × Holds gs v
Holds (some_name ∷ gs) w = (x : List ℕ) × (a : ℕ) × (v : List Token) × (w ≡ token (a_name x) a ∷ v) × Holds gs v
Holds (parameters ∷ gs) w = (ps : Parameters) × (a : ℕ) × (v : List Token) × (w ≡ spell_parameters ps ++ token right_paren a ∷ v)
    × Holds gs v
Holds (returned ∷ gs) w = (r : Result) × (v : List Token) × (w ≡ spell_result r ++ v) × Holds gs v
Holds (some_number ∷ gs) w = (n : ℕ) × (a : ℕ) × (v : List Token) × (w ≡ token (a_number n) a ∷ v) × Holds gs v
Holds (only m ∷ gs) w = (b : ℕ) × (v : List Token) × (w ≡ token (mark_kind m) b ∷ v) × Holds gs v
