-- A text has at most one tree.
use Rattle.std.proofs.Common.{◌≡◌, ◌∙◌, ◌++◌, ◌+◌, ◌<◌, ℕ, zero, suc, List, [], ◌∷◌, refl, sym, ap, ap₂, append_assoc, arith, subst}
use Rattle.lang_grammar.specs.Grammar.{level, Prefix, negative, positive, negation, infix_sign, right_paren, left_paren, Token, token}
use Rattle.lang_grammar.specs.Grammar.{Groups, Expr, number}
use Rattle.lang_grammar.specs.Grammar.{variable, free, grouped, prefixed, joined, spell_expr}
use Rattle.lang_grammar.proofs.grammar.Sound.{Links, ended, link, spell_links, GoodLinks, extend_all, below_six}
use Rattle.lang_grammar.proofs.grammar.Flat.{after, first, links, again, spell_flat, first_good}

-- the number of operands of an expression, with one for each pair of parentheses and each sign before an operand
abbrev pub weight : Expr → ℕ
weight (number n a) = 1
weight (variable x a) = 1
weight (free i j k) = 1
weight (grouped i e j) = suc (weight e)
weight (prefixed p i e) = suc (weight e)
weight (joined e o a f) = weight e + weight f

abbrev links_weight : Links → ℕ
links_weight ended = 0
links_weight (link o a u ls) = weight u + links_weight ls

after_weight : (ls ms : Links) → links_weight (after ls ms) ≡ links_weight ls + links_weight ms
after_weight ended ms = omega arith
after_weight (link o a u ls) ms = omega (arith, after_weight ls ms)

flat_weight : (e : Expr) → weight (first e) + links_weight (links e) ≡ weight e
flat_weight (joined e o a f) = omega (arith, flat_weight e, flat_weight f, after_weight (links e) (link o a (first f) (links f)))
flat_weight _ = omega arith

after_good : (ls ms : Links) → GoodLinks ls → GoodLinks ms → GoodLinks (after ls ms)
after_good ended ms h i = i
after_good (link o a u ls) ms h i = (h.0, after_good ls ms h.1 i)

links_good : (l : ℕ) (e : Expr) → Groups l e → GoodLinks (links e)
links_good l (joined e o a f) g = after_good (links e) (link o a (first f) (links f)) (links_good (level o) e g.1)
    (first_good (suc (level o)) f g.2, links_good (suc (level o)) f g.2)
links_good l _ g = tt

-- the token is no sign between two sides
abbrev pub IsEnd : Token → Type 0
IsEnd (token (infix_sign o) a) = ⊥
IsEnd (token _ a) = Unit {0}

-- equal lists have equal rests
pub tail_of : (t s : Token) (xs ys : List Token) → t ∷ xs ≡ s ∷ ys → xs ≡ ys
tail_of t s xs ys e = cc

-- equal lists have equal first tokens
pub head_of : (t s : Token) (xs ys : List Token) → t ∷ xs ≡ s ∷ ys → t ≡ s
head_of t s xs ys e = cc

abbrev Unique : ℕ → Type 0
Unique n = (u v : Expr) (w x : List Token) → weight u < n → Groups 6 u → Groups 6 v → spell_expr u ++ w ≡ spell_expr v ++ x
    → (u ≡ v) × (w ≡ x)

unique_links : (n : ℕ) → Unique n → (ls ms : Links) (t s : Token) (w x : List Token) → links_weight ls < n → GoodLinks ls → GoodLinks ms
    → IsEnd t → IsEnd s → spell_links ls ++ t ∷ w ≡ spell_links ms ++ s ∷ x → (ls ≡ ms) × (t ∷ w ≡ s ∷ x)
unique_links n f ended ended t s w x b g h i j e = (refl, e)
unique_links n f ended (link o a u ms) t s w x b g h i j e = absurd (subst IsEnd (head_of t (token (infix_sign o) a) _ _ e) i)
unique_links n f (link o a u ls) ended t s w x b g h i j e = absurd (subst IsEnd (sym (head_of (token (infix_sign o) a) s _ _ e)) j)
unique_links n f (link o a u ls) (link p c v ms) t s w x b g h i j e =
    let k = tail_of (token (infix_sign o) a) (token (infix_sign p) c) _ _ e in
    let m = f u v (spell_links ls ++ t ∷ w) (spell_links ms ++ s ∷ x) (omega arith) g.0 h.0
    (sym (append_assoc (spell_expr u) (spell_links ls) (t ∷ w)) ∙ k ∙ append_assoc (spell_expr v) (spell_links ms) (s ∷ x)) in
    let q = unique_links n f ls ms t s w x (omega arith) g.1 h.1 i j m.1 in
    let y : token (infix_sign o) a ≡ token (infix_sign p) c = head_of (token (infix_sign o) a) (token (infix_sign p) c) _ _ e in
    let z : u ≡ v = m.0 in
    let l : ls ≡ ms = q.0 in
    ((cc), q.1)

-- expressions before tokens that end them are the same where their spellings are
pub unique_expr : (n : ℕ) → Unique n → (e f : Expr) (t s : Token) (w x : List Token) → weight e < n → Groups 0 e → Groups 0 f → IsEnd t
    → IsEnd s → spell_expr e ++ t ∷ w ≡ spell_expr f ++ s ∷ x → (e ≡ f) × (t ∷ w ≡ s ∷ x)
unique_expr n un e f t s w x b g h i j k =
    let c = flat_weight e in
    let m = un (first e) (first f) (spell_links (links e) ++ t ∷ w) (spell_links (links f) ++ s ∷ x) (omega arith) (first_good 0 e g)
    (first_good 0 f h) (sym (append_assoc (spell_expr (first e)) (spell_links (links e)) (t ∷ w))
    ∙ ap (λ y. y ++ t ∷ w) (sym (spell_flat e)) ∙ k ∙ ap (λ y. y ++ s ∷ x) (spell_flat f)
    ∙ append_assoc (spell_expr (first f)) (spell_links (links f)) (s ∷ x)) in
    let q = unique_links n un (links e) (links f) t s w x (omega arith) (links_good 0 e g) (links_good 0 f h) i j m.1 in
    (sym (again 0 e g) ∙ ap₂ extend_all m.0 q.0 ∙ again 0 f h, q.1)

unique_group : (n : ℕ) → Unique n → (a : ℕ) (e : Expr) (b c : ℕ) (f : Expr) (d : ℕ) (w x : List Token) → suc (weight e) < suc n → Groups 0 e
    → Groups 0 f → spell_expr (grouped a e b) ++ w ≡ spell_expr (grouped c f d) ++ x → (grouped a e b ≡ grouped c f d) × (w ≡ x)
unique_group n un a e b c f d w x h g k q =
    let y = tail_of (token left_paren a) (token left_paren c) _ _ q in
    let z : token left_paren a ≡ token left_paren c = head_of (token left_paren a) (token left_paren c) _ _ q in
    let m = unique_expr n un e f (token right_paren b) (token right_paren d) w x (omega arith) g k tt tt
    (sym (append_assoc (spell_expr e) (token right_paren b ∷ []) w) ∙ y
    ∙ append_assoc (spell_expr f) (token right_paren d ∷ []) x) in
    let i : e ≡ f = m.0 in
    let j : token right_paren b ∷ w ≡ token right_paren d ∷ x = m.1 in
    ((cc), (cc))

unique_prefix : (n : ℕ) → Unique n → (p : Prefix) (a : ℕ) (e : Expr) (c : ℕ) (f : Expr) (w x : List Token) → suc (weight e) < suc n
    → Groups 6 e → Groups 6 f → spell_expr (prefixed p a e) ++ w ≡ spell_expr (prefixed p c f) ++ x
    → (prefixed p a e ≡ prefixed p c f) × (w ≡ x)
unique_prefix n un p a e c f w x h g k q =
    let m = un e f w x (omega arith) g k (tail_of _ _ _ _ q) in
    let i : e ≡ f = m.0 in
    let j : a ≡ c = cc in
    ((cc), m.1)

-- two operands with one spelling are the same
pub unique : (n : ℕ) → Unique n
unique zero u v w x h g k e = absurd (omega arith)
unique (suc n) (joined u o a y) v w x h g k e = absurd (omega (arith, g.0, below_six o))
unique (suc n) (number i a) (joined v o b y) w x h g k e = absurd (omega (arith, k.0, below_six o))
unique (suc n) (variable i a) (joined v o b y) w x h g k e = absurd (omega (arith, k.0, below_six o))
unique (suc n) (free i j m) (joined v o b y) w x h g k e = absurd (omega (arith, k.0, below_six o))
unique (suc n) (grouped i u j) (joined v o b y) w x h g k e = absurd (omega (arith, k.0, below_six o))
unique (suc n) (prefixed p i u) (joined v o b y) w x h g k e = absurd (omega (arith, k.0, below_six o))
unique (suc n) (number i a) (number j b) w x h g k e = ((cc), (cc))
unique (suc n) (variable i a) (variable j b) w x h g k e = ((cc), (cc))
unique (suc n) (free i j m) (free a b c) w x h g k e = ((cc), (cc))
unique (suc n) (grouped i u j) (grouped a v b) w x h g k e = unique_group n (unique n) i u j a v b w x h g k e
unique (suc n) (prefixed negative i u) (prefixed negative a v) w x h g k e = unique_prefix n (unique n) negative i u a v w x h g k e
unique (suc n) (prefixed positive i u) (prefixed positive a v) w x h g k e = unique_prefix n (unique n) positive i u a v w x h g k e
unique (suc n) (prefixed negation i u) (prefixed negation a v) w x h g k e = unique_prefix n (unique n) negation i u a v w x h g k e
unique (suc n) _ (prefixed negative a v) w x h g k e = cc
unique (suc n) _ (prefixed positive a v) w x h g k e = cc
unique (suc n) _ (prefixed negation a v) w x h g k e = cc
unique (suc n) (prefixed negative a u) _ w x h g k e = cc
unique (suc n) (prefixed positive a u) _ w x h g k e = cc
unique (suc n) (prefixed negation a u) _ w x h g k e = cc
unique (suc n) _ _ w x h g k e = cc
