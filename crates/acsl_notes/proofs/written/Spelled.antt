-- Bytes that are an expression wherever they stand, and how it is put together.
use Rattle.std.proofs.Common.{◌≡◌, ◌≤◌, ◌<◌, ◌+◌, ◌||◌, ℕ, zero, suc, ℤ, pos, negsuc, Bool, true, false, IsTrue, List, [], ◌∷◌, ◌++◌}
use Rattle.std.proofs.Common.{length, Option, Some, None, Ok, refl, ap, arith}
use Rattle.std.specs.Prelude.{decimal, nat_eq}
use Rattle.std.specs.List.{list_all, list_any}
use Rattle.std.proofs.lemmas.Bool.{and_parts, le-leb, leb-true, eqb-true}
use Rattle.lang_tokens.specs.declared.sign.Sign.TheVariants.{Minus, RightParen}
use Rattle.lang_tokens.specs.Bytes.{is_letter, is_digit, is_word_byte}
use Rattle.lang_tokens.specs.Lexemes.{is_word, is_numeral, IsName, greatest_literal}
use Rattle.lang_tokens.proofs.lexemes.Heads.{heads}
use Rattle.lang_grammar.specs.Grammar as g
use Rattle.lang_grammar.specs.Grammar.{Expr, spell_expr, Groups, Op, level}
use Rattle.lang_grammar.specs.Depth.{opens_expr}
use Rattle.lang_grammar.specs.Faults.{AllShallow}
use Rattle.lang_tree.specs.declared.form.Form.{Form}
use Rattle.lang_tree.specs.Numbers.{is_number, are_numbers}
use Rattle.lang_meaning.specs.Names.{place_of}
use Rattle.lang_meaning.specs.Forms.{constant_form, scaled}
use Rattle.lang_meaning.specs.Walk.{Value, a_form, combined, regarded, walk_expr}
use Rattle.lang_meaning.specs.Expressions.{knowing, numbers_from}
use Rattle.lang_meaning.proofs.forms.Ranges.{zeros_fit}
use Rattle.out_workload.proofs.bodies.WholeTokens.{is_second}
use Rattle.acsl_notes.proofs.written.Forms.{sum_of, one_at, ranged_ok, set_zeros}
use Rattle.acsl_notes.proofs.written.Lexed.{Lexed, beside, a_mark, an_opening, nothing_heads, a_word_of, a_number_of}

-- Bytes at a place that are an expression of this level and value over these names, where nothing follows that goes on with them. It may
-- stand within so many constructs that the innermost has a number below the depth.
pub record Spelled (all : List (List ℕ)) (at : ℕ) (bytes : List ℕ) (goes_on : ℕ → Bool) (l depth : ℕ) (v : Value) : Type 0 where
  -- the expression
  pub expr : Expr
  -- the bytes read as its tokens
  pub lexed : Lexed at bytes (spell_expr expr) goes_on
  -- it groups as the level asks
  pub groups : Groups l expr
  -- it opens no construct too many
  pub shallow : (d : ℕ) → d < depth → AllShallow (opens_expr d expr)
  -- its value
  pub walks : (line : ℕ → ℕ) → walk_expr line (length all) (knowing all) expr ≡ Ok v

-- ---- what bytes begin with
letter_plain : (b : ℕ) (t : Bool) → is_letter b ≡ true → is_second b ≡ t → t ≡ false
letter_plain b true l e = grind (arith, leb-true, eqb-true)
letter_plain b false l e = refl

digit_plain : (b : ℕ) (t : Bool) → is_digit b ≡ true → is_second b ≡ t → t ≡ false
digit_plain b true l e = grind (arith, leb-true, eqb-true)
digit_plain b false l e = refl

-- a word begins with no second byte of a sign
pub word_plain : (bytes rest : List ℕ) → is_word bytes ≡ true → heads is_second (bytes ++ rest) ≡ false
word_plain [] rest h = cc
word_plain (b ∷ bs) rest h = letter_plain b (is_second b) (and_parts (is_letter b) (list_all is_word_byte bs) h).0 refl

-- nor does a numeral
pub numeral_plain : (bytes rest : List ℕ) → is_numeral bytes ≡ true → heads is_second (bytes ++ rest) ≡ false
numeral_plain [] rest h = cc
numeral_plain (b ∷ bs) rest h = digit_plain b (is_second b) (and_parts (is_digit b) (list_all is_digit bs) h).0 refl

-- ---- operands
-- a number
pub number_spelled : {all : List (List ℕ)} {l depth : ℕ} (at n : ℕ) → n ≤ greatest_literal
    → Spelled all at (decimal n) is_word_byte l depth (a_form (constant_form (length all) (pos n)) at)
number_spelled {all} at n h = record {
  expr = g.number n at;
  lexed = a_number_of at n h;
  groups = tt;
  shallow = λ d k. tt;
  walks = λ line. rw (ranged_ok at (constant_form (length all) (pos n)) (zeros_fit (length all)) (le-leb n 9223372036854775807 h)) refl;
}

later : (from i : ℕ) → nat_eq from i ≡ false → from ≤ i → suc from ≤ i
later from i e h = grind (arith)

known_first : (from n i : ℕ) (t : Bool) → nat_eq from i ≡ t
    → (t ≡ false → list_any (λ j. nat_eq j i) (numbers_from (suc from) n) ≡ true)
    → (nat_eq from i || list_any (λ j. nat_eq j i) (numbers_from (suc from) n)) ≡ true
known_first from n i true e h = rw e refl
known_first from n i false e h = rw (e, h refl) refl

-- the names are known
known_all : (from n i : ℕ) → from ≤ i → i < from + n → list_any (λ j. nat_eq j i) (numbers_from from n) ≡ true
known_all from zero i h k = absurd (omega arith)
known_all from (suc n) i h k = known_first from n i (nat_eq from i) refl
    (λ e. known_all (suc from) n i (later from i e h) (omega arith))

-- a name with i names before it and k behind it
pub name_spelled : {all : List (List ℕ)} {l depth : ℕ} (at : ℕ) (name : List ℕ) (i k : ℕ) → IsName name → place_of name all ≡ Some i
    → length all ≡ i + suc k → Spelled all at name is_word_byte l depth (a_form (sum_of (one_at i (pos 1) k)) at)
name_spelled {all} at name i k n e f = record {
  expr = g.variable name at;
  lexed = a_word_of at name n;
  groups = tt;
  shallow = λ d h. tt;
  walks = λ line. rw (e, known_all 0 (length all) i (omega arith) (omega (arith, f)))
      (ap (λ (cs : List ℤ). Ok (a_form (sum_of cs) at)) (set_zeros (length all) i k f));
}

-- `-` before an operand
pub negated : {all : List (List ℕ)} {l depth : ℕ} {bytes : List ℕ} {q : ℕ → Bool} {f : Form} {b : ℕ} (at : ℕ)
    → Spelled all (at + 1) bytes q 6 (suc depth) (a_form f b) → depth ≤ 64 → ((rest : List ℕ) → heads is_second (bytes ++ rest) ≡ false)
    → IsTrue (are_numbers (scaled (negsuc 0) f).coeffs) → IsTrue (is_number (scaled (negsuc 0) f).constant)
    → Spelled all at (45 ∷ bytes) q l depth (a_form (scaled (negsuc 0) f) at)
negated {f = f} at e h apart fits small = record {
  expr = g.prefixed g.negative at e.expr;
  lexed = beside (a_mark at Minus) e.lexed (λ rest none. apart rest);
  groups = e.groups;
  shallow = λ d k. (omega (arith, h), e.shallow (suc d) (omega arith));
  walks = λ line. rw (e.walks line, ranged_ok at (scaled (negsuc 0) f) fits small) refl;
}

-- an expression in parentheses
pub in_parentheses : {all : List (List ℕ)} {l depth : ℕ} {bytes : List ℕ} {q : ℕ → Bool} {v : Value} (at : ℕ)
    → Spelled all (at + 1) bytes q 0 (suc depth) v → depth ≤ 64 → ((rest : List ℕ) → heads q (41 ∷ rest) ≡ false)
    → Spelled all at (40 ∷ (bytes ++ 41 ∷ [])) is_second l depth (regarded at v)
in_parentheses {all} {l} {depth} {bytes} at e h apart = record {
  expr = g.grouped at e.expr (at + 1 + length bytes);
  lexed = beside (an_opening at) (beside e.lexed (a_mark (at + 1 + length bytes) RightParen) (λ rest none. apart rest))
      (λ rest none. nothing_heads ((bytes ++ 41 ∷ []) ++ rest));
  groups = e.groups;
  shallow = λ d k. (omega (arith, h), shallow_last (opens_expr (suc d) e.expr) (e.shallow (suc d) (omega arith)));
  walks = λ line. rw (e.walks line) refl;
}
  where
    shallow_last : (os : List (Option ℕ)) → AllShallow os → AllShallow (os ++ None ∷ [])
    shallow_last [] h = tt
    shallow_last (None ∷ os) h = shallow_last os h
    shallow_last (Some d ∷ os) h = (h.0, shallow_last os h.1)

shallow_both : (os : List (Option ℕ)) (ps : List (Option ℕ)) → AllShallow os → AllShallow ps → AllShallow (os ++ None ∷ ps)
shallow_both [] ps h k = k
shallow_both (None ∷ os) ps h k = shallow_both os ps h k
shallow_both (Some d ∷ os) ps h k = (h.0, shallow_both os ps h.1 k)

-- an expression that groups at a level does so below it
weaker : (l m : ℕ) (e : Expr) → m ≤ l → Groups l e → Groups m e
weaker l m (g.number n a) h k = tt
weaker l m (g.variable x a) h k = tt
weaker l m (g.free a b c) h k = tt
weaker l m (g.grouped a e b) h k = k
weaker l m (g.prefixed p a e) h k = k
weaker l m (g.joined e o a f) h k = (omega (arith, h, k.0), k.1, k.2)

-- two sides with a sign between them
pub joins : {all : List (List ℕ)} {at l m depth : ℕ} {bytes between more : List ℕ} {p r q : ℕ → Bool} {v w : Value} (o : Op) (place : ℕ)
    → Spelled all at bytes p l depth v → Lexed (at + length bytes) between (g.token (g.infix_sign o) place ∷ []) r
    → Spelled all (at + length bytes + length between) more q m depth w → level o ≤ l → suc (level o) ≤ m
    → ((rest : List ℕ) → heads p ((between ++ more) ++ rest) ≡ false) → ((rest : List ℕ) → heads r (more ++ rest) ≡ false)
    → (u : Value) → combined o place v w ≡ Ok u → Spelled all at (bytes ++ (between ++ more)) q (level o) depth u
joins {l = l} {m} o place a sign b h k apart behind u e = record {
  expr = g.joined a.expr o place b.expr;
  lexed = beside a.lexed (beside sign b.lexed (λ rest none. behind rest)) (λ rest none. apart rest);
  groups = (omega arith, weaker l (level o) a.expr h a.groups, weaker m (suc (level o)) b.expr k b.groups);
  shallow = λ d s. shallow_both (opens_expr d a.expr) (opens_expr d b.expr) (a.shallow d s) (b.shallow d s);
  walks = λ line. rw (a.walks line, b.walks line) e;
}

-- an expression of a level is one of each level below it
pub loosened : {all : List (List ℕ)} {at depth : ℕ} {bytes : List ℕ} {q : ℕ → Bool} {v : Value} (l m : ℕ) → m ≤ l
    → Spelled all at bytes q l depth v → Spelled all at bytes q m depth v
loosened l m h e = record { expr = e.expr; lexed = e.lexed; groups = weaker l m e.expr h e.groups; shallow = e.shallow; walks = e.walks }
