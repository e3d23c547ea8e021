-- An expression is its first operand and the signs and operands after it.
use Rattle.std.proofs.Common.{◌≡◌, ◌∙◌, ◌++◌, ◌≤◌, ℕ, suc, List, ◌∷◌, refl, sym, ap, append_assoc, arith, Bool, true, false}
use Rattle.std.proofs.lemmas.Bool.{lt-ltb, le-ltb}
use Rattle.std.proofs.lemmas.List.{append-nil}
use Rattle.lang_grammar.specs.Grammar.{Op, level, infix_sign, Token, token, Groups, Expr, number, variable, free, grouped, prefixed, joined}
use Rattle.lang_grammar.specs.Grammar.{spell_expr}
use Rattle.lang_grammar.proofs.grammar.Sound.{Links, ended, link, spell_links, extend, extend_all}

-- links and then further ones
abbrev pub after : Links → Links → Links
after ended ms = ms
after (link o a u ls) ms = link o a u (after ls ms)

-- the first operand of an expression
abbrev pub first : Expr → Expr
first (joined e o a f) = first e
first (number n a) = number n a
first (variable x a) = variable x a
first (free i j k) = free i j k
first (grouped i e j) = grouped i e j
first (prefixed p i e) = prefixed p i e

-- the signs and operands after the first operand
abbrev pub links : Expr → Links
links (joined e o a f) = after (links e) (link o a (first f) (links f))
links (number n a) = ended
links (variable x a) = ended
links (free i j k) = ended
links (grouped i e j) = ended
links (prefixed p i e) = ended

abbrev AllAbove : ℕ → Links → Type 0
AllAbove l ended = Unit {0}
AllAbove l (link o a u ls) = (l ≤ level o) × AllAbove l ls

above_after : (l : ℕ) (ls ms : Links) → AllAbove l ls → AllAbove l ms → AllAbove l (after ls ms)
above_after l ended ms h i = i
above_after l (link o a u ls) ms h i = (h.0, above_after l ls ms h.1 i)

above_less : (l m : ℕ) (ls : Links) → m ≤ l → AllAbove l ls → AllAbove m ls
above_less l m ended h i = tt
above_less l m (link o a u ls) h i = (omega (arith, i.0), above_less l m ls h i.1)

links_above : (l : ℕ) (e : Expr) → Groups l e → AllAbove l (links e)
links_above l (joined e o a f) g = above_after l (links e) (link o a (first f) (links f))
    (above_less (level o) l (links e) g.0 (links_above (level o) e g.1))
    (g.0, above_less (suc (level o)) l (links f) (omega (arith, g.0)) (links_above (suc (level o)) f g.2))
links_above l _ g = tt

extend_over : (e : Expr) (o : Op) (a : ℕ) (u : Expr) (ls : Links) → AllAbove (suc (level o)) ls
    → extend_all (joined e o a u) ls ≡ joined e o a (extend_all u ls)
extend_over e o a u ended h = refl
extend_over e o a u (link p b x ls) h = ap (λ (t : Bool). extend_all (elim t as (λ x. Expr)
    [ true ↦ joined e o a (extend u p b x) | false ↦ joined (joined e o a u) p b x ]) ls) (lt-ltb (level o) (level p) h.0)
    ∙ extend_over e o a (extend u p b x) ls h.1

extend_top : (e : Expr) (o : Op) (a : ℕ) (u : Expr) → Groups (level o) e → extend e o a u ≡ joined e o a u
extend_top (joined e p b f) o a u g = ap (λ (t : Bool). elim t as (λ x. Expr)
    [ true ↦ joined e p b (extend f o a u) | false ↦ joined (joined e p b f) o a u ]) (le-ltb (level p) (level o) g.0)
extend_top _ o a u g = refl

extend_after : (e : Expr) (ls ms : Links) → extend_all e (after ls ms) ≡ extend_all (extend_all e ls) ms
extend_after e ended ms = refl
extend_after e (link o a u ls) ms = extend_after (extend e o a u) ls ms

-- The tree is made again from its flat form.
pub again : (l : ℕ) (e : Expr) → Groups l e → extend_all (first e) (links e) ≡ e
again l (joined e o a f) g = extend_after (first e) (links e) (link o a (first f) (links f))
    ∙ ap (λ (x : Expr). extend_all (extend x o a (first f)) (links f)) (again (level o) e g.1)
    ∙ ap (λ (x : Expr). extend_all x (links f)) (extend_top e o a (first f) g.1)
    ∙ extend_over e o a (first f) (links f) (links_above (suc (level o)) f g.2)
    ∙ ap (λ (x : Expr). joined e o a x) (again (suc (level o)) f g.2)
again l _ g = refl

spell_after : (ls ms : Links) → spell_links (after ls ms) ≡ spell_links ls ++ spell_links ms
spell_after ended ms = refl
spell_after (link o a u ls) ms = ap (λ (x : List Token). token (infix_sign o) a ∷ (spell_expr u ++ x)) (spell_after ls ms)
    ∙ ap (λ x. token (infix_sign o) a ∷ x) (sym (append_assoc (spell_expr u) (spell_links ls) (spell_links ms)))

-- an expression is spelled as its first operand and its links
pub spell_flat : (e : Expr) → spell_expr e ≡ spell_expr (first e) ++ spell_links (links e)
spell_flat (joined e o a f) = ap (λ (x : List Token). x ++ token (infix_sign o) a ∷ spell_expr f) (spell_flat e)
    ∙ append_assoc (spell_expr (first e)) (spell_links (links e)) (token (infix_sign o) a ∷ spell_expr f)
    ∙ ap (λ (x : List Token). spell_expr (first e) ++ (spell_links (links e) ++ token (infix_sign o) a ∷ x)) (spell_flat f)
    ∙ ap (λ (x : List Token). spell_expr (first e) ++ x) (sym (spell_after (links e) (link o a (first f) (links f))))
spell_flat (number n a) = refl
spell_flat (variable x a) = refl
spell_flat (free i j k) = refl
spell_flat (grouped i e j) = sym (append-nil (spell_expr (grouped i e j)))
spell_flat (prefixed p i e) = sym (append-nil (spell_expr (prefixed p i e)))

-- the first operand of an expression that groups as it must is an operand
pub first_good : (l : ℕ) (e : Expr) → Groups l e → Groups 6 (first e)
first_good l (joined e o a f) g = first_good (level o) e g.1
first_good l (number n a) g = tt
first_good l (variable x a) g = tt
first_good l (free i j k) g = tt
first_good l (grouped i e j) g = g
first_good l (prefixed p i e) g = g
