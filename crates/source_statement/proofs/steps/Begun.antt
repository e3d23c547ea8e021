-- Which statements begin with what.
use Rattle.std.proofs.Common.{◌≡◌, ◌∷◌, ℕ, false, List, refl, ap}
use Rattle.source_grammar.specs.Tokens.{Kind, Token, token, semicolon}
use Rattle.source_grammar.specs.Grammar.{Core, empty, block, if_alone, if_else, repeat, repeat_after, repeat_for, jumps, returns, demands}
use Rattle.source_grammar.specs.Grammar.{calls, updates, update, step_before, place, no_index, index, assigns, steps, Expr, Sub, Items}
use Rattle.source_grammar.specs.Grammar.{ForFirst}
use Rattle.source_grammar.specs.Grammar.{Optional, Updates, no_items, label, declaration, plain_int, const_int, item}
use Rattle.source_grammar.proofs.grammar.Follow.{NotElse}
use Rattle.source_reader.specs.Reading.{first_kind}
use Rattle.source_change.specs.Onto.{onto_effect}
use Rattle.source_change.proofs.spelled.Changes.{subscripts_first}
use Rattle.source_statement.specs.Onto.{onto_core, onto_items}
use Rattle.source_statement.specs.Starts.{Begins, begins_label, is_label, start_in, a_block, an_if, a_while, a_do, a_for, a_name, a_type}
use Rattle.source_statement.specs.Parts.{IsSimple}

-- the beginning of a statement
abbrev pub beginning : Core → List Token → Begins
beginning c w = start_in (first_kind (onto_core c w))

-- a block does with a `{`
pub at_block : (P : Core → Type 0) (c : Core) (w : List Token) → beginning c w ≡ a_block
    → ((a : ℕ) (is : Items) (b : ℕ) → P (block a is b)) → P c
at_block P (block a is b) w e h = h a is b
at_block P (updates (update (place x a i) f) b) w e h = cc
at_block P (updates (step_before g a p) b) w e h = cc
at_block P _ w e h = cc

-- an `if` with that word
pub at_if : (P : Core → Type 0) (c : Core) (w : List Token) → beginning c w ≡ an_if
    → ((a b : ℕ) (e : Expr) (c : ℕ) (s : Sub) → P (if_alone a b e c s))
    → ((a b : ℕ) (e : Expr) (c : ℕ) (s : Sub) (d : ℕ) (t : Sub) → P (if_else a b e c s d t)) → P c
at_if P (if_alone a b x c s) w e h g = h a b x c s
at_if P (if_else a b x c s d t) w e h g = g a b x c s d t
at_if P (updates (update (place x a i) f) b) w e h g = cc
at_if P (updates (step_before d a p) b) w e h g = cc
at_if P _ w e h g = cc

-- a `while`
pub at_while : (P : Core → Type 0) (c : Core) (w : List Token) → beginning c w ≡ a_while
    → ((a b : ℕ) (e : Expr) (c : ℕ) (s : Sub) → P (repeat a b e c s)) → P c
at_while P (repeat a b x c s) w e h = h a b x c s
at_while P (updates (update (place x a i) f) b) w e h = cc
at_while P (updates (step_before d a p) b) w e h = cc
at_while P _ w e h = cc

-- a `do`
pub at_do : (P : Core → Type 0) (c : Core) (w : List Token) → beginning c w ≡ a_do
    → ((a : ℕ) (s : Sub) (b c : ℕ) (e : Expr) (d i : ℕ) → P (repeat_after a s b c e d i)) → P c
at_do P (repeat_after a s b c x d i) w e h = h a s b c x d i
at_do P (updates (update (place x a i) f) b) w e h = cc
at_do P (updates (step_before d a p) b) w e h = cc
at_do P _ w e h = cc

-- a `for`
pub at_for : (P : Core → Type 0) (c : Core) (w : List Token) → beginning c w ≡ a_for
    → ((a b : ℕ) (f : ForFirst) (c : ℕ) (t : Optional) (d : ℕ) (us : Updates) (i : ℕ) (s : Sub) → P (repeat_for a b f c t d us i s)) → P c
at_for P (repeat_for a b f c t d us i s) w e h = h a b f c t d us i s
at_for P (updates (update (place x a i) f) b) w e h = cc
at_for P (updates (step_before d a p) b) w e h = cc
at_for P _ w e h = cc

-- any other is simple
pub is_simple : (c : Core) (w : List Token) → (beginning c w ≡ a_block → ⊥) → (beginning c w ≡ an_if → ⊥) → (beginning c w ≡ a_while → ⊥)
    → (beginning c w ≡ a_do → ⊥) → (beginning c w ≡ a_for → ⊥) → IsSimple c
is_simple (block a is b) w p q r s t = absurd (p refl)
is_simple (if_alone a b x c u) w p q r s t = absurd (q refl)
is_simple (if_else a b x c u d v) w p q r s t = absurd (q refl)
is_simple (repeat a b x c u) w p q r s t = absurd (r refl)
is_simple (repeat_after a u b c x d i) w p q r s t = absurd (s refl)
is_simple (repeat_for a b f c x d us i u) w p q r s t = absurd (t refl)
is_simple (empty a) w p q r s t = tt
is_simple (jumps j a b) w p q r s t = tt
is_simple (returns a x b) w p q r s t = tt
is_simple (demands k a b x c d) w p q r s t = tt
is_simple (calls x a b es c d) w p q r s t = tt
is_simple (updates u c) w p q r s t = tt

-- a statement doesn't begin with an `else`
pub no_else : (c : Core) (w : List Token) → NotElse (first_kind (onto_core c w))
no_else (updates (update (place x a i) f) b) w = refl
no_else (updates (step_before d a p) b) w = refl
no_else _ w = refl

-- nor do statements before a `}`
pub no_else_in : (is : Items) (k : Kind) (b : ℕ) (w : List Token) → NotElse k → NotElse (first_kind (onto_items is (token k b ∷ w)))
no_else_in no_items k b w h = h
no_else_in (label x a c is) k b w h = refl
no_else_in (declaration (plain_int a) xs c is) k b w h = refl
no_else_in (declaration (const_int a d) xs c is) k b w h = refl
no_else_in (item c is) k b w h = no_else c (onto_items is (token k b ∷ w))

-- no statement begins as a label does
pub no_label : (c : Core) (w : List Token) → begins_label (onto_core c w) ≡ false
no_label (updates (update (place x a no_index) (assigns g d e)) i) w = refl
no_label (updates (update (place x a no_index) (steps g d)) i) w = refl
no_label (updates (update (place x a (index is)) f) i) w =
    ap (λ k. is_label a_name (start_in k)) (subscripts_first is (onto_effect f (token semicolon i ∷ w)))
no_label (updates (step_before g a p) i) w = refl
no_label _ w = refl

-- no statement begins with a type
pub never_type : (c : Core) (w : List Token) → (beginning c w ≡ a_type → ⊥)
never_type (updates (update (place x a i) f) b) w h = cc
never_type (updates (step_before d a p) b) w h = cc
never_type _ w h = cc
