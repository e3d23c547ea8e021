-- An expression is its first operand and the signs and operands after it.
use Rattle.std.proofs.Common.{◌≡◌, ◌∙◌, ◌++◌, ◌≤◌, ℕ, suc, List, ◌∷◌, refl, sym, ap, append_assoc, arith, Bool, true, false}
use Rattle.std.proofs.lemmas.Bool.{lt-ltb, le-ltb}
use Rattle.std.proofs.lemmas.List.{append-nil}
use Rattle.source_grammar.specs.Tokens.{Op, level, infix_sign, question, colon, Token, token}
use Rattle.source_grammar.specs.Grammar.{Groups, Expr, number, variable, element, call, stepped_behind, stepped_before, free, grouped}
use Rattle.source_grammar.specs.Grammar.{prefixed, joined, chosen, spell_expr}
use Rattle.source_grammar.proofs.grammar.TakenPieces.{above_zero}
use Rattle.source_grammar.proofs.grammar.Links.{Links, ended, link, choice, spell_links, extend, extend_all}

-- links and then further ones; behind a `? :` there are none
abbrev pub after : Links → Links → Links
after ended ms = ms
after (link o a u ls) ms = link o a u (after ls ms)
after (choice a e b f) ms = choice a e b f

-- the first operand of an expression
abbrev pub first : Expr → Expr
first (joined e o a f) = first e
first (chosen c a e b f) = first c
first (number n a) = number n a
first (variable x a) = variable x a
first (element x i is) = element x i is
first (call x i j es k) = call x i j es k
first (stepped_behind x i g j) = stepped_behind x i g j
first (stepped_before g i x j) = stepped_before g i x j
first (free i j k) = free i j k
first (grouped i e j) = grouped i e j
first (prefixed p i e) = prefixed p i e

-- the signs and operands after the first operand
abbrev pub links : Expr → Links
links (joined e o a f) = after (links e) (link o a (first f) (links f))
links (chosen c a e b f) = after (links c) (choice a e b f)
links (number n a) = ended
links (variable x a) = ended
links (element x i is) = ended
links (call x i j es k) = ended
links (stepped_behind x i g j) = ended
links (stepped_before g i x j) = ended
links (free i j k) = ended
links (grouped i e j) = ended
links (prefixed p i e) = ended

-- no link holds looser than this, and none is a `? :`
abbrev pub AllAbove : ℕ → Links → Type 0
AllAbove l ended = Unit {0}
AllAbove l (link o a u ls) = (l ≤ level o) × AllAbove l ls
AllAbove l (choice a e b f) = ⊥

above_after : (l : ℕ) (ls ms : Links) → AllAbove l ls → AllAbove l ms → AllAbove l (after ls ms)
above_after l ended ms h i = i
above_after l (link o a u ls) ms h i = (h.0, above_after l ls ms h.1 i)
above_after l (choice a e b f) ms h i = absurd h

above_less : (l m : ℕ) (ls : Links) → m ≤ l → AllAbove l ls → AllAbove m ls
above_less l m ended h i = tt
above_less l m (link o a u ls) h i = (omega (arith, i.0), above_less l m ls h i.1)
above_less l m (choice a e b f) h i = absurd i

-- the links of what groups at a level are all above it
pub links_above : (l : ℕ) (e : Expr) → 1 ≤ l → Groups l e → AllAbove l (links e)
links_above l (joined e o a f) m g = above_after l (links e) (link o a (first f) (links f))
    (above_less (level o) l (links e) g.0 (links_above (level o) e (above_zero o) g.1))
    (g.0, above_less (suc (level o)) l (links f) (omega (arith, g.0)) (links_above (suc (level o)) f (omega arith) g.2))
links_above l (chosen c a e b f) m g = absurd (omega (arith, m, g.0))
links_above l _ m g = tt

extend_over : (e : Expr) (o : Op) (a : ℕ) (u : Expr) (ls : Links) → AllAbove (suc (level o)) ls
    → extend_all (joined e o a u) ls ≡ joined e o a (extend_all u ls)
extend_over e o a u ended h = refl
extend_over e o a u (link p b x ls) h = ap (λ (t : Bool). extend_all (elim t as (λ x. Expr)
    [ true ↦ joined e o a (extend u p b x) | false ↦ joined (joined e o a u) p b x ]) ls) (lt-ltb (level o) (level p) h.0)
    ∙ extend_over e o a (extend u p b x) ls h.1
extend_over e o a u (choice b x c y) h = absurd h

extend_top : (e : Expr) (o : Op) (a : ℕ) (u : Expr) → Groups (level o) e → extend e o a u ≡ joined e o a u
extend_top (joined e p b f) o a u g = ap (λ (t : Bool). elim t as (λ x. Expr)
    [ true ↦ joined e p b (extend f o a u) | false ↦ joined (joined e p b f) o a u ]) (le-ltb (level p) (level o) g.0)
extend_top _ o a u g = refl

extend_after : (l : ℕ) (e : Expr) (ls ms : Links) → AllAbove l ls → extend_all e (after ls ms) ≡ extend_all (extend_all e ls) ms
extend_after l e ended ms h = refl
extend_after l e (link o a u ls) ms h = extend_after l (extend e o a u) ls ms h.1
extend_after l e (choice a f b g) ms h = absurd h

again_flat : (l : ℕ) (e : Expr) → 1 ≤ l → Groups l e → extend_all (first e) (links e) ≡ e
again_flat l (joined e o a f) m g =
    extend_after (level o) (first e) (links e) (link o a (first f) (links f)) (links_above (level o) e (above_zero o) g.1)
    ∙ ap (λ (x : Expr). extend_all (extend x o a (first f)) (links f)) (again_flat (level o) e (above_zero o) g.1)
    ∙ ap (λ (x : Expr). extend_all x (links f)) (extend_top e o a (first f) g.1)
    ∙ extend_over e o a (first f) (links f) (links_above (suc (level o)) f (omega arith) g.2)
    ∙ ap (λ (x : Expr). joined e o a x) (again_flat (suc (level o)) f (omega arith) g.2)
again_flat l (chosen c a e b f) m g = absurd (omega (arith, m, g.0))
again_flat l _ m g = refl

-- The tree is made again from its flat form.
pub again : (e : Expr) → Groups 0 e → extend_all (first e) (links e) ≡ e
again (joined e o a f) g = again_flat 1 (joined e o a f) (omega arith) (above_zero o, g.1, g.2)
again (chosen c a e b f) g = extend_after 1 (first c) (links c) (choice a e b f) (links_above 1 c (omega arith) g.1)
    ∙ ap (λ (x : Expr). chosen x a e b f) (again_flat 1 c (omega arith) g.1)
again _ g = refl

spell_after : (l : ℕ) (ls ms : Links) → AllAbove l ls → spell_links (after ls ms) ≡ spell_links ls ++ spell_links ms
spell_after l ended ms h = refl
spell_after l (link o a u ls) ms h = ap (λ (x : List Token). token (infix_sign o) a ∷ (spell_expr u ++ x)) (spell_after l ls ms h.1)
    ∙ ap (λ x. token (infix_sign o) a ∷ x) (sym (append_assoc (spell_expr u) (spell_links ls) (spell_links ms)))
spell_after l (choice a e b f) ms h = absurd h

-- an expression is spelled as its first operand and its links
pub spell_flat : (l : ℕ) (e : Expr) → Groups l e → spell_expr e ≡ spell_expr (first e) ++ spell_links (links e)
spell_flat l (joined e o a f) g = ap (λ (x : List Token). x ++ token (infix_sign o) a ∷ spell_expr f) (spell_flat (level o) e g.1)
    ∙ append_assoc (spell_expr (first e)) (spell_links (links e)) (token (infix_sign o) a ∷ spell_expr f)
    ∙ ap (λ (x : List Token). spell_expr (first e) ++ (spell_links (links e) ++ token (infix_sign o) a ∷ x))
    (spell_flat (suc (level o)) f g.2)
    ∙ ap (λ (x : List Token). spell_expr (first e) ++ x)
    (sym (spell_after (level o) (links e) (link o a (first f) (links f)) (links_above (level o) e (above_zero o) g.1)))
spell_flat l (chosen c a e b f) g =
    ap (λ (x : List Token). x ++ token question a ∷ (spell_expr e ++ token colon b ∷ spell_expr f)) (spell_flat 1 c g.1)
    ∙ append_assoc (spell_expr (first c)) (spell_links (links c)) _
    ∙ ap (λ (x : List Token). spell_expr (first c) ++ x)
    (sym (spell_after 1 (links c) (choice a e b f) (links_above 1 c (omega arith) g.1)))
spell_flat l (number n a) g = refl
spell_flat l (variable x a) g = refl
spell_flat l (element x i is) g = sym (append-nil (spell_expr (element x i is)))
spell_flat l (call x i j es k) g = sym (append-nil (spell_expr (call x i j es k)))
spell_flat l (stepped_behind x i s j) g = refl
spell_flat l (stepped_before s i x j) g = refl
spell_flat l (free i j k) g = refl
spell_flat l (grouped i e j) g = sym (append-nil (spell_expr (grouped i e j)))
spell_flat l (prefixed p i e) g = sym (append-nil (spell_expr (prefixed p i e)))

-- the first operand of an expression that groups as it must is an operand
pub first_good : (l : ℕ) (e : Expr) → Groups l e → Groups 7 (first e)
first_good l (joined e o a f) g = first_good (level o) e g.1
first_good l (chosen c a e b f) g = first_good 1 c g.1
first_good l (number n a) g = tt
first_good l (variable x a) g = tt
first_good l (element x i is) g = g
first_good l (call x i j es k) g = g
first_good l (stepped_behind x i s j) g = tt
first_good l (stepped_before s i x j) g = tt
first_good l (free i j k) g = tt
first_good l (grouped i e j) g = g
first_good l (prefixed p i e) g = g
