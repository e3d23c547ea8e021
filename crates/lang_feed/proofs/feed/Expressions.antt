-- Feeding the spelling of a tree is walking it.
use Rattle.std.proofs.Common.{◌≡◌, ◌∙◌, ◌++◌, ◌<◌, ◌≤◌, ℕ, suc, List, [], ◌∷◌, Result, Ok, refl, sym, ap, append_assoc, arith, Bool, true}
use Rattle.std.proofs.Common.{false}
use Rattle.std.proofs.lemmas.Bool.{lt-ltb, le-ltb}
use Rattle.std.specs.Prelude.{pos}
use Rattle.lang_grammar.specs.Grammar.{Op, level, Prefix, negative, positive, negation, infix_sign, right_paren, comma, semicolon, Token}
use Rattle.lang_grammar.specs.Grammar.{token, Groups, Expr}
use Rattle.lang_grammar.specs.Grammar.{number, variable, free, grouped, prefixed, joined, spell_expr}
use Rattle.lang_grammar.proofs.grammar.Sound.{below_six}
use Rattle.lang_meaning.specs.declared.fault.ParseFault.{ParseFault}
use Rattle.lang_meaning.specs.Results.{◌>>=◌}
use Rattle.lang_meaning.specs.Forms.{constant_form, variable_form}
use Rattle.lang_meaning.specs.Walk.{Value, a_form, a_nondet, State, known_number, prefix_value, ranged, regarded}
use Rattle.lang_meaning.specs.Feed as feeds
use Rattle.lang_meaning.specs.Feed.{combined_small, Frame, side, before, group, test, assigns, initial, header, header_tested, under, of_if}
use Rattle.lang_meaning.specs.Feed.{of_while, wants, has, stands}
use Rattle.lang_meaning.specs.Feed.{heading, after, ends, Mode, Machine, at, Outcome, complete, join_tighter, pushed}
use Rattle.lang_feed.proofs.feed.SmallConditions.{walk_small}
use Rattle.lang_meaning.proofs.results.Binds.{bind_assoc, bind_same, bind_both, bind_right}

-- the next token joins every left side of level l and above
abbrev pub Next : ℕ → Token → Type 0
Next l (token (infix_sign o) a) = level o ≤ l
Next l (token right_paren a) = Unit {0}
Next l (token semicolon a) = Unit {0}
Next l (token comma a) = Unit {0}
Next l (token _ a) = ⊥

-- nothing on top is joined before a sign of level l
abbrev pub Base : ℕ → List Frame → Type 0
Base l (side u o a ∷ fs) = level o < l
Base l (before p a ∷ fs) = ⊥
Base l [] = Unit {0}
Base l (group a ∷ fs) = Unit {0}
Base l (test t a ∷ fs) = Unit {0}
Base l (assigns i g b a ∷ fs) = Unit {0}
Base l (initial x a b ∷ fs) = Unit {0}
Base l (header k a ns ∷ fs) = Unit {0}
Base l (header_tested k a ns c ∷ fs) = Unit {0}
Base l (under w ns ∷ fs) = Unit {0}

base_complete : (l : ℕ) (fs : List Frame) (v : Value) → Base l fs → complete fs v ≡ Ok (fs, v)
base_complete l (side u o a ∷ fs) v h = refl
base_complete l (before p a ∷ fs) v h = absurd h
base_complete l _ v h = refl

join_none : (l m : ℕ) (fs : List Frame) (v : Value) → Base l fs → l ≤ m → join_tighter m fs v ≡ Ok (fs, v)
join_none l m (side u o a ∷ fs) v b h =
    ap (λ (t : Bool). elim t as (λ x. Result (List Frame × Value) ParseFault) [
      | true ↦ Ok (side u o a ∷ fs, v)
      | false ↦ combined_small o a u v
          >>= λ x. join_tighter m fs x
    ]) (lt-ltb (level o) m (omega arith))
join_none l m (before p a ∷ fs) v b h = absurd b
join_none l m _ v h j = refl

base_more : (l m : ℕ) (fs : List Frame) → Base l fs → l ≤ m → Base m fs
base_more l m (side u o a ∷ fs) b h = omega arith
base_more l m (before p a ∷ fs) b h = absurd b
base_more l m _ h j = tt

next_more : (l m : ℕ) (t : Token) → Next l t → l ≤ m → Next m t
next_more l m (token (infix_sign o) a) n h = omega arith
next_more l m (token right_paren a) n h = tt
next_more l m (token semicolon a) n h = tt
next_more l m (token comma a) n h = tt
next_more l m (token _ a) n h = absurd n

join_side : (m : ℕ) (u : Value) (o : Op) (a : ℕ) (fs : List Frame) (v : Value) → m ≤ level o
    → join_tighter m (side u o a ∷ fs) v ≡ combined_small o a u v >>= λ x. join_tighter m fs x
join_side m u o a fs v h = ap
    (λ (t : Bool). elim t as (λ x. Result (List Frame × Value) ParseFault) [
      | true ↦ Ok (side u o a ∷ fs, v)
      | false ↦ combined_small o a u v
          >>= λ x. join_tighter m fs x
    ]) (le-ltb (level o) m h)

joined_tighter : (m : ℕ) (u : Value) (o : Op) (a : ℕ) (fs : List Frame) (v : Value) (p : List Frame × Value → Outcome)
    (q : Machine → Outcome) → m ≤ level o
    → (join_tighter m (side u o a ∷ fs) v >>= p) >>= q ≡ combined_small o a u v >>= λ x. (join_tighter m fs x >>= p) >>= q
joined_tighter m u o a fs v p q h = ap (λ (z : Result (List Frame × Value) ParseFault). (z >>= p) >>= q) (join_side m u o a fs v h)
    ∙ ap (λ (z : Outcome). z >>= q) (bind_assoc (combined_small o a u v) (λ x. join_tighter m fs x) p)
    ∙ bind_assoc (combined_small o a u v) (λ x. join_tighter m fs x >>= p) q

module _ (line : ℕ → ℕ) (width : ℕ) where
  abbrev pub feed : List Token → Machine → Outcome
  feed ts s = feeds.feed line width ts s

  abbrev given_by : State → List Frame × Value → Machine
  given_by st r = feeds.given st r

  -- after a whole operand
  abbrev on : State → List Token → List Frame → Value → Outcome
  on st w fs v = complete fs v >>= λ r. feed w (given_by st r)

  -- the pending side is joined by the next token
  joins : (st : State) (u : Value) (o : Op) (a : ℕ) (fs : List Frame) (v : Value) (l : ℕ) (t : Token) (w : List Token) → Next l t
      → l ≤ level o
      → feed (t ∷ w) (at st (side u o a ∷ fs) (has v)) ≡ combined_small o a u v >>= λ x. feed (t ∷ w) (at st fs (has x))
  joins st u o a fs v l (token (infix_sign p) b) w n h = joined_tighter (level p) u o a fs v (λ r. Ok (at st (side r.1 p b ∷ r.0) wants))
      (λ r. feed w r) (omega arith)
  joins st u o a fs v l (token right_paren b) w n h = joined_tighter 0 u o a fs v (λ r. feeds.after_paren line width st r) (λ r. feed w r)
      (omega arith)
  joins st u o a fs v l (token semicolon b) w n h = joined_tighter 0 u o a fs v (λ r. feeds.after_semicolon line width st r) (λ r. feed w r)
      (omega arith)
  joins st u o a fs v l (token comma b) w n h = joined_tighter 0 u o a fs v (λ r. feeds.after_comma line width st r) (λ r. feed w r)
      (omega arith)
  joins st u o a fs v l (token _ b) w n h = absurd n

  abbrev FedOperand : State → Expr → List Frame → List Token → Type 0
  FedOperand st e fs w = feed (spell_expr e ++ w) (at st fs wants) ≡ walk_small line width st e >>= λ v. on st w fs v

  abbrev FedExpr : State → Expr → List Frame → Token → List Token → Type 0
  FedExpr st e fs t w = feed (spell_expr e ++ t ∷ w) (at st fs wants) ≡ walk_small line width st e >>= λ v. feed (t ∷ w) (at st fs (has v))

  op_number : (st : State) (n a : ℕ) (fs : List Frame) (w : List Token) → FedOperand st (number n a) fs w
  op_number st n a fs w = bind_both (ranged a (constant_form width (pos n))) _ _ (λ f. Ok (a_form f a)) (λ v. on st w fs v)
      (λ f. bind_assoc (complete fs (a_form f a)) (λ r. Ok (given_by st r)) (λ r. feed w r))

  op_variable : (st : State) (x : List ℕ) (a : ℕ) (fs : List Frame) (w : List Token) → FedOperand st (variable x a) fs w
  op_variable st x a fs w = bind_both (known_number x a st) _ _ (λ i. Ok (a_form (variable_form width i (pos 0)) a)) (λ v. on st w fs v)
      (λ i. bind_assoc (complete fs (a_form (variable_form width i (pos 0)) a)) (λ r. Ok (given_by st r)) (λ r. feed w r))

  op_free : (st : State) (a b c : ℕ) (fs : List Frame) (w : List Token) → FedOperand st (free a b c) fs w
  op_free st a b c fs w = bind_assoc (complete fs (a_nondet a)) (λ r. Ok (given_by st r)) (λ r. feed w r)

  op_grouped : (st : State) (a : ℕ) (e : Expr) (b : ℕ) (fs : List Frame) (w : List Token)
      → FedExpr st e (group a ∷ fs) (token right_paren b) w → FedOperand st (grouped a e b) fs w
  op_grouped st a e b fs w h = ap (λ (x : List Token). feed x (at st (group a ∷ fs) wants))
      (append_assoc (spell_expr e) (token right_paren b ∷ []) w) ∙ h
      ∙ bind_right (walk_small line width st e) _ (λ v. Ok (regarded a v)) (λ v. on st w fs v)
      (λ v. bind_assoc (complete fs (regarded a v)) (λ r. Ok (given_by st r)) (λ r. feed w r))

  op_prefixed : (st : State) (p : Prefix) (a : ℕ) (e : Expr) (fs : List Frame) (w : List Token) → FedOperand st e (before p a ∷ fs) w
      → feed (spell_expr e ++ w) (at st (before p a ∷ fs) wants) ≡ walk_small line width st (prefixed p a e) >>= λ v. on st w fs v
  op_prefixed st p a e fs w h = h
      ∙ bind_right (walk_small line width st e) _ (λ v. prefix_value p a v) (λ v. on st w fs v)
      (λ v. bind_assoc (prefix_value p a v) (λ u. complete fs u) (λ r. feed w (given_by st r)))

  lift : (st : State) (e : Expr) (l : ℕ) (fs : List Frame) (t : Token) (w : List Token) → Base l fs → FedOperand st e fs (t ∷ w)
      → FedExpr st e fs t w
  lift st e l fs t w b h = h ∙ bind_same (walk_small line width st e) _ _
      (λ v. ap (λ (r : Result (List Frame × Value) ParseFault). r >>= λ r. feed (t ∷ w) (given_by st r)) (base_complete l fs v b))

  pushes : (st : State) (o : Op) (a : ℕ) (fs : List Frame) (v : Value) (w : List Token) → Base (level o) fs
      → feed (token (infix_sign o) a ∷ w) (at st fs (has v)) ≡ feed w (at st (side v o a ∷ fs) wants)
  pushes st o a fs v w b = ap (λ (z : Result (List Frame × Value) ParseFault). (z >>= λ r. Ok (at st (side r.1 o a ∷ r.0) wants))
      >>= λ r. feed w r)
      (join_none (level o) (level o) fs v b (omega arith))

  mutual
    -- The tokens of an operand give its value; the signs before it are applied, and the tokens behind it go on from there.
    pub fed_operand : (st : State) (e : Expr) (fs : List Frame) (w : List Token) → Groups 6 e → FedOperand st e fs w
    fed_operand st (number n a) fs w g = op_number st n a fs w
    fed_operand st (variable x a) fs w g = op_variable st x a fs w
    fed_operand st (free a b c) fs w g = op_free st a b c fs w
    fed_operand st (grouped a e b) fs w g = op_grouped st a e b fs w (fed_expr st e 0 (group a ∷ fs) (token right_paren b) w g tt tt)
    fed_operand st (prefixed negative a e) fs w g = op_prefixed st negative a e fs w (fed_operand st e (before negative a ∷ fs) w g)
    fed_operand st (prefixed positive a e) fs w g = op_prefixed st positive a e fs w (fed_operand st e (before positive a ∷ fs) w g)
    fed_operand st (prefixed negation a e) fs w g = op_prefixed st negation a e fs w (fed_operand st e (before negation a ∷ fs) w g)
    fed_operand st (joined e o a f) fs w g = absurd (omega (arith, g.0, below_six o))

    -- Feeding an expression is walking it; then its value is there, under what was pending.
    pub fed_expr : (st : State) (e : Expr) (l : ℕ) (fs : List Frame) (t : Token) (w : List Token) → Groups l e → Base l fs → Next l t
        → FedExpr st e fs t w
    fed_expr st (number n a) l fs t w g b i = lift st (number n a) l fs t w b (op_number st n a fs (t ∷ w))
    fed_expr st (variable x a) l fs t w g b i = lift st (variable x a) l fs t w b (op_variable st x a fs (t ∷ w))
    fed_expr st (free a j c) l fs t w g b i = lift st (free a j c) l fs t w b (op_free st a j c fs (t ∷ w))
    fed_expr st (grouped a e j) l fs t w g b i = lift st (grouped a e j) l fs t w b
        (op_grouped st a e j fs (t ∷ w) (fed_expr st e 0 (group a ∷ fs) (token right_paren j) (t ∷ w) g tt tt))
    fed_expr st (prefixed negative a e) l fs t w g b i = lift st (prefixed negative a e) l fs t w b
        (op_prefixed st negative a e fs (t ∷ w) (fed_operand st e (before negative a ∷ fs) (t ∷ w) g))
    fed_expr st (prefixed positive a e) l fs t w g b i = lift st (prefixed positive a e) l fs t w b
        (op_prefixed st positive a e fs (t ∷ w) (fed_operand st e (before positive a ∷ fs) (t ∷ w) g))
    fed_expr st (prefixed negation a e) l fs t w g b i = lift st (prefixed negation a e) l fs t w b
        (op_prefixed st negation a e fs (t ∷ w) (fed_operand st e (before negation a ∷ fs) (t ∷ w) g))
    fed_expr st (joined e o a f) l fs t w g b i =
        ap (λ (x : List Token). feed x (at st fs wants)) (append_assoc (spell_expr e) (token (infix_sign o) a ∷ spell_expr f) (t ∷ w))
        ∙ fed_expr st e (level o) fs (token (infix_sign o) a) (spell_expr f ++ t ∷ w) g.1 (base_more l (level o) fs b g.0) (omega arith)
        ∙ bind_same (walk_small line width st e) _ _ (λ v. pushes st o a fs v (spell_expr f ++ t ∷ w) (base_more l (level o) fs b g.0)
        ∙ fed_expr st f (suc (level o)) (side v o a ∷ fs) t w g.2 (omega arith) (next_more l (suc (level o)) t i (omega (arith, g.0)))
        ∙ bind_same (walk_small line width st f) _ _ (λ u. joins st v o a fs u l t w i g.0)
        ∙ sym (bind_assoc (walk_small line width st f) (λ u. combined_small o a v u) (λ x. feed (t ∷ w) (at st fs (has x)))))
        ∙ sym (bind_assoc (walk_small line width st e) (λ v. walk_small line width st f >>= λ u. combined_small o a v u)
        (λ x. feed (t ∷ w) (at st fs (has x))))
