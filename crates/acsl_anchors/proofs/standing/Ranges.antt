-- Tokens and anchors in order, and what holds of the places at which tokens begin and colons end.
use Rattle.std.proofs.Common.{◌≡◌, ◌≤◌, ◌+◌, ◌++◌, ◌∷◌, ℕ, Bool, true, false, List, [], arith}
use Rattle.source_grammar.specs.Tokens.{Kind, colon, left_paren, right_paren, right_brace, while_word, do_word, for_word, return_word}
use Rattle.source_grammar.specs.Tokens.{Token, token}
use Rattle.source_grammar.specs.Expressions.{Expr}
use Rattle.source_grammar.specs.Grammar.{spell_expr}
use Rattle.acsl_anchors.specs.Anchors.{Anchor}

-- a token that may stand behind an anchor
abbrev pub is_anchor : Kind → Bool
is_anchor while_word = true
is_anchor do_word = true
is_anchor for_word = true
is_anchor return_word = true
is_anchor right_brace = true
is_anchor _ = false

-- a colon
abbrev pub is_colon : Kind → Bool
is_colon colon = true
is_colon _ = false

module _ (P : ℕ → Type 0) where
  -- It holds of the token's place if an anchor may stand there, and behind it if it is a colon.
  pub record HoldsAt (k : Kind) (a : ℕ) : Type 0 where
    -- it holds of the token's place, if an anchor may stand before it
    pub begin : is_anchor k ≡ true → P a
    -- it holds of the place after the token, if the token is a colon
    pub behind : is_colon k ≡ true → P (a + 1)

  -- tokens in order between these places, and it holds of each
  abbrev pub Standing : (from : ℕ) → List Token → (to : ℕ) → Type 0
  Standing from [] to = from ≤ to
  Standing from (token k a ∷ ts) to = (from ≤ a) × HoldsAt k a × Standing (a + 1) ts to

  -- anchors in order between these places, and it holds of each
  abbrev pub Placed : (from : ℕ) → List Anchor → (to : ℕ) → Type 0
  Placed from [] to = from ≤ to
  Placed from (x ∷ xs) to = (from ≤ x.place) × P x.place × Placed x.place xs to

  -- The first place isn't behind the last,
  pub in_order : (ts : List Token) (from to : ℕ) → Standing from ts to → from ≤ to
  in_order [] from to h = h
  in_order (token k a ∷ ts) from to h = let later : a + 1 ≤ to = in_order ts (a + 1) to h.2 in omega (arith, later, h.0)

  -- the place between tokens and those that follow
  pub record Split (from : ℕ) (xs ys : List Token) (to : ℕ) : Type 0 where
    -- the place between them
    pub between : ℕ
    -- the first tokens stand before it
    pub left : Standing from xs between
    -- the others stand after it
    pub right : Standing between ys to

  -- Tokens in a row stand one behind the other.
  pub split : (xs ys : List Token) (from to : ℕ) → Standing from (xs ++ ys) to → Split from xs ys to
  split [] ys from to h = record { between = from; left = omega arith; right = h }
  split (token k a ∷ xs) ys from to h = let s = split xs ys (a + 1) to h.2 in
      record { between = s.between; left = (h.0, h.1, s.left); right = s.right }

  -- Anchors between two places are between any further apart,
  pub wider : (xs : List Anchor) (low from to high : ℕ) → low ≤ from → to ≤ high → Placed from xs to → Placed low xs high
  wider [] low from to high h i p = omega arith
  wider (x ∷ xs) low from to high h i p = (omega (arith, p.0), p.1, wider xs x.place x.place to high (omega arith) i p.2)

  -- and those in a row between the first place and the last.
  pub one_after_another : (xs ys : List Anchor) (from between to : ℕ) → Placed from xs between → Placed between ys to
      → Placed from (xs ++ ys) to
  one_after_another [] ys from between to h i = wider ys from between to to h (omega arith) i
  one_after_another (x ∷ xs) ys from between to h i = (h.0, h.1, one_after_another xs ys x.place between to h.2 i)

  -- a word, an expression in parentheses behind it, and what follows
  pub record Headed (from : ℕ) (k : Kind) (a c : ℕ) (ts : List Token) (to : ℕ) : Type 0 where
    -- the word stands at the first place or after it
    pub after : from ≤ a
    -- it holds of the word's place
    pub held : HoldsAt k a
    -- the word stands before the closing parenthesis
    pub before : a + 1 ≤ c
    -- what follows stands after the closing parenthesis
    pub rest : Standing (c + 1) ts to

  -- A condition has its places before those of what follows.
  pub headed : (k : Kind) (a b : ℕ) (e : Expr) (c : ℕ) (ts : List Token) (from to : ℕ)
      → Standing from (token k a ∷ token left_paren b ∷ (spell_expr e ++ token right_paren c ∷ ts)) to → Headed from k a c ts to
  headed k a b e c ts from to h =
      let s = split (spell_expr e) (token right_paren c ∷ ts) (b + 1) to h.2.2 in
      record {
        after = h.0;
        held = h.1;
        before = omega (arith, h.2.0, in_order (spell_expr e) (b + 1) s.between s.left, s.right.0);
        rest =
            s.right.2;
      }
