-- An expression with signs and operands put behind it.
use Rattle.std.proofs.Common.{◌≡◌, ◌∙◌, ◌++◌, ◌≤◌, ℕ, suc, List, [], ◌∷◌, refl, sym, append_assoc, arith}
use Rattle.source_grammar.specs.Tokens.{Op, level, infix_sign, question, colon, Token, token}
use Rattle.source_grammar.specs.Grammar.{Groups, Expr, number, variable, element, call, stepped_behind, stepped_before, free, grouped}
use Rattle.source_grammar.specs.Grammar.{prefixed, joined, chosen, spell_expr}
use Rattle.source_grammar.proofs.grammar.TakenPieces.{below_seven, above_zero}
use Rattle.std.proofs.lemmas.Bool.{ltb-true, ltb-false}
use Rattle.std.proofs.lemmas.List.{append-nil}
use Rattle.std.specs.Prelude.{nat_lt, Bool, true, false}

-- signs and what stands behind each; at the end there may be `? e : f`
pub data Links : Type 0 where
  ended : Links
  link : Op → ℕ → Expr → Links → Links
  choice : ℕ → Expr → ℕ → Expr → Links

-- how links are spelled
abbrev pub spell_links : Links → List Token
spell_links ended = []
spell_links (link o a e ls) = token (infix_sign o) a ∷ (spell_expr e ++ spell_links ls)
spell_links (choice a e b f) = token question a ∷ (spell_expr e ++ token colon b ∷ spell_expr f)

-- each operand of the links is one
abbrev pub GoodLinks : Links → Type 0
GoodLinks ended = Unit {0}
GoodLinks (link o a e ls) = Groups 7 e × GoodLinks ls
GoodLinks (choice a e b f) = Groups 0 e × Groups 0 f

-- the tree with one more sign and operand at its end
abbrev pub extend : Expr → Op → ℕ → Expr → Expr
extend (joined e p b f) o a u = elim (nat_lt (level p) (level o)) [
  | true ↦ joined e p b (extend f o a u)
  | false ↦ joined (joined e p b f) o
      a u
]
extend (number n b) o a u = joined (number n b) o a u
extend (variable x b) o a u = joined (variable x b) o a u
extend (element x i is) o a u = joined (element x i is) o a u
extend (call x i j es k) o a u = joined (call x i j es k) o a u
extend (stepped_behind x i g j) o a u = joined (stepped_behind x i g j) o a u
extend (stepped_before g i x j) o a u = joined (stepped_before g i x j) o a u
extend (free i j k) o a u = joined (free i j k) o a u
extend (grouped i e j) o a u = joined (grouped i e j) o a u
extend (prefixed p i e) o a u = joined (prefixed p i e) o a u
extend (chosen c i e j f) o a u = joined (chosen c i e j f) o a u

-- the tree with all these signs and operands at its end
abbrev pub extend_all : Expr → Links → Expr
extend_all e ended = e
extend_all e (link o a u ls) = extend_all (extend e o a u) ls
extend_all e (choice a f b g) = chosen e a f b g

spell_extend : (e : Expr) (o : Op) (a : ℕ) (u : Expr) → spell_expr (extend e o a u) ≡ spell_expr e ++ token (infix_sign o) a ∷ spell_expr u
spell_extend (joined e p b f) o a u = spell_pick (nat_lt (level p) (level o)) e p b f o a u (spell_extend f o a u) where
  spell_pick : (t : Bool) (e : Expr) (p : Op) (b : ℕ) (f : Expr) (o : Op) (a : ℕ) (u : Expr)
      → spell_expr (extend f o a u) ≡ spell_expr f ++ token (infix_sign o) a ∷ spell_expr u
      → spell_expr (elim t as (λ x. Expr) [ true ↦ joined e p b (extend f o a u) | false ↦ joined (joined e p b f) o a u ])
      ≡ spell_expr (joined e p b f) ++ token (infix_sign o) a ∷ spell_expr u
  spell_pick true e p b f o a u h = rw h (sym (append_assoc (spell_expr e) (token (infix_sign p) b ∷ spell_expr f) _))
  spell_pick false e p b f o a u h = refl
spell_extend (number n b) o a u = refl
spell_extend _ o a u = refl

-- an expression with links at its end is spelled as it and the links
pub spell_all : (e : Expr) (ls : Links) → spell_expr (extend_all e ls) ≡ spell_expr e ++ spell_links ls
spell_all e ended = sym (append-nil (spell_expr e))
spell_all e (link o a u ls) = spell_all (extend e o a u) ls ∙ rw (spell_extend e o a u)
    (append_assoc (spell_expr e) (token (infix_sign o) a ∷ spell_expr u) (spell_links ls))
spell_all e (choice a f b g) = refl

-- an operand groups at every level
pub any_level : (l : ℕ) (u : Expr) → Groups 7 u → Groups l u
any_level l (number n a) g = tt
any_level l (variable x a) g = tt
any_level l (element x a is) g = g
any_level l (call x a b es c) g = g
any_level l (stepped_behind x a s b) g = tt
any_level l (stepped_before s a x b) g = tt
any_level l (free a b c) g = tt
any_level l (grouped a e b) g = g
any_level l (prefixed p a e) g = g
any_level l (joined e o a f) g = absurd (omega (arith, g.0, below_seven o))
any_level l (chosen c a e b f) g = absurd (omega (arith, g.0))

-- what groups at level 1 does so at level 0
pub lower : (e : Expr) → Groups 1 e → Groups 0 e
lower (number n a) g = tt
lower (variable x a) g = tt
lower (element x a is) g = g
lower (call x a b es c) g = g
lower (stepped_behind x a s b) g = tt
lower (stepped_before s a x b) g = tt
lower (free a b c) g = tt
lower (grouped a e b) g = g
lower (prefixed p a e) g = g
lower (joined e o a f) g = (omega arith, g.1, g.2)
lower (chosen c a e b f) g = absurd (omega (arith, g.0))

groups_pick : (l : ℕ) (t : Bool) (e : Expr) (p : Op) (b : ℕ) (f : Expr) (o : Op) (a : ℕ) (u : Expr) → Groups l (joined e p b f)
    → l ≤ level o → Groups 7 u → (suc (level p) ≤ level o → Groups (suc (level p)) (extend f o a u)) → nat_lt (level p) (level o) ≡ t
    → Groups l (elim t as (λ x. Expr) [ true ↦ joined e p b (extend f o a u) | false ↦ joined (joined e p b f) o a u ])
groups_pick l true e p b f o a u g h k i w = (g.0, g.1, i (ltb-true (level p) (level o) w))
groups_pick l false e p b f o a u g h k i w = (h, (ltb-false (level p) (level o) w, g.1, g.2), any_level _ u k)

groups_extend : (l : ℕ) (e : Expr) (o : Op) (a : ℕ) (u : Expr) → 1 ≤ l → Groups l e → l ≤ level o → Groups 7 u
    → Groups l (extend e o a u)
groups_extend l (joined e p b f) o a u m g h k = groups_pick l (nat_lt (level p) (level o)) e p b f o a u g h k
    (λ t. groups_extend (suc (level p)) f o a u (omega arith) g.2 t k) refl
groups_extend l (number n b) o a u m g h k = (h, tt, any_level _ u k)
groups_extend l (variable x b) o a u m g h k = (h, tt, any_level _ u k)
groups_extend l (element x i is) o a u m g h k = (h, g, any_level _ u k)
groups_extend l (call x i j es c) o a u m g h k = (h, g, any_level _ u k)
groups_extend l (stepped_behind x i s j) o a u m g h k = (h, tt, any_level _ u k)
groups_extend l (stepped_before s i x j) o a u m g h k = (h, tt, any_level _ u k)
groups_extend l (free i j c) o a u m g h k = (h, tt, any_level _ u k)
groups_extend l (grouped i e j) o a u m g h k = (h, g, any_level _ u k)
groups_extend l (prefixed p i e) o a u m g h k = (h, g, any_level _ u k)
groups_extend l (chosen c i e j f) o a u m g h k = absurd (omega (arith, m, g.0))

-- an expression with links at its end groups as it must
pub groups_all : (e : Expr) (ls : Links) → Groups 1 e → GoodLinks ls → Groups 0 (extend_all e ls)
groups_all e ended g h = lower e g
groups_all e (link o a u ls) g h =
    groups_all (extend e o a u) ls (groups_extend 1 e o a u (omega arith) g (above_zero o) h.0) h.1
groups_all e (choice a f b k) g h = (refl, g, h.0, h.1)
