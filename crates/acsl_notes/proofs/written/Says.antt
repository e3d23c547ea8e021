-- The texts of clauses are conditions that say them.
use Rattle.std.proofs.Common.{◌≡◌, ◌↔◌, inr, ◌==◌, ◌<◌, ◌+◌, ◌*ℤ◌, ℕ, zero, suc, ℤ, pos, negsuc, nat_abs, Bool, true, false}
use Rattle.std.proofs.Common.{IsTrue, List, [], ◌∷◌, ◌++◌, length, Some, Ok, refl, sym, ap, ◌∙◌, subst, zero-add, arith}
use Rattle.std.specs.Prelude.{◌-ℤ◌, codes, decimal, if◌then◌else◌}
use Rattle.std.specs.Fmt.{signed_decimal}
use Rattle.std.specs.List.{All, slice_get}
use Rattle.std.proofs.lemmas.Int.{ints}
use Rattle.std.proofs.lemmas.Bool.{le-leb, leb-true, eqb-true}
use Rattle.std.proofs.lemmas.List.{append_assoc, append-nil, length-append, map-append, length-map}
use Rattle.std.proofs.lemmas.List.Elements.{All-head, All-tail}
use Rattle.lang_tokens.specs.declared.sign.Sign.TheVariants.{Star, LessEqual, EqualEqual}
use Rattle.lang_tokens.specs.declared.lexicon.Lexicon.TheVariants.{Own}
use Rattle.lang_tokens.specs.declared.token.Token as lex_token
use Rattle.lang_tokens.specs.Bytes.{is_word_byte}
use Rattle.lang_tokens.specs.declared.before.Before.TheVariants.{Blanks}
use Rattle.lang_tokens.specs.Lexemes.{IsName, greatest_literal}
use Rattle.lang_tokens.specs.Lines.{line_at}
use Rattle.lang_tokens.specs.Reading.{Reads, spelling, tokens_from, end_at}
use Rattle.lang_tokens.proofs.lexemes.Heads.{heads}
use Rattle.lang_grammar.specs.Grammar as g
use Rattle.lang_grammar.specs.Grammar.{spell_expr, Relation}
use Rattle.lang_grammar.specs.View.{token_of, tokens_of}
use Rattle.lang_grammar.specs.Machine.{run}
use Rattle.lang_grammar.specs.Depth.{opens_expr}
use Rattle.lang_grammar.specs.Verdicts.{trace}
use Rattle.lang_grammar.specs.Faults.{AllShallow}
use Rattle.lang_grammar.specs.Expressions.{IsLongest, ReadsExpr}
use Rattle.lang_grammar.specs.Reaches.{expression_start}
use Rattle.lang_grammar.proofs.depth.Deep.{expr_trace}
use Rattle.lang_grammar.proofs.phrase.Starts.{at_end, reads_run, fine_expr}
use Rattle.lang_grammar.proofs.phrase.Found.{ends_there}
use Rattle.lang_tree.specs.declared.form.Form.{Form}
use Rattle.lang_tree.specs.declared.cond.Rel.{Rel}
use Rattle.lang_tree.specs.declared.cond.Rel.TheVariants.{Eq, Le}
use Rattle.lang_tree.specs.Numbers.{is_number, are_numbers}
use Rattle.lang_tree.specs.Meaning.{State, MayBe, dot}
use Rattle.lang_tree.specs.Tree as tree
use Rattle.lang_meaning.specs.Forms.{pairwise, products, is_comparable}
use Rattle.lang_meaning.specs.Results.{◌>>=◌}
use Rattle.lang_meaning.specs.Walk.{Value, a_form, a_truth, compared, rel_of}
use Rattle.lang_meaning.specs.Expressions.{Meaning, a_condition, first_place, meant}
use Rattle.lang_meaning.specs.ExpressionAnswers.{ExpressionMeans}
use Rattle.out_workload.proofs.bodies.WholeTokens.{is_second}
use Rattle.acsl_notes.specs.Clauses.{Clause, never, at_most, equals, IsTrueAt}
use Rattle.acsl_notes.specs.Texts.{side_text, clause_text}
use Rattle.acsl_notes.specs.Written.{AreNames, IsWritableRow, SaysClause, WrittenClausesMean}
use Rattle.flow_systems.specs.Report.{row_text}
use Rattle.acsl_notes.proofs.written.Forms.{form_of, sum_of, zeros, ranged_ok, pairwise_zeros}
use Rattle.acsl_notes.proofs.written.Lexed.{nothing_heads}
use Rattle.acsl_notes.proofs.written.Spelled.{Spelled, number_spelled, in_parentheses, joins, loosened}
use Rattle.acsl_notes.proofs.written.Terms.{spaced, times_value, negative_number}
use Rattle.acsl_notes.proofs.written.Names.{own_place}
use Rattle.acsl_notes.proofs.written.Rows.{AreFrom, row_spelled}
use Rattle.acsl_notes.proofs.written.Values.{dot_products, at_most_zero, equals_zero}

-- ---- a text that is an expression
-- the tokens of a text
abbrev pub tokens_in : {all : List (List ℕ)} {bytes : List ℕ} {q : ℕ → Bool} {v : Value} → Spelled all 0 bytes q 0 1 v
    → List lex_token.Token
tokens_in {bytes = bytes} e = tokens_from 0 e.lexed.pieces ++ end_at (length bytes) ∷ []

module _ {all : List (List ℕ)} {bytes : List ℕ} {q : ℕ → Bool} {v : Value} (e : Spelled all 0 bytes q 0 1 v)
    (last : heads q [] ≡ false) where
  -- the text reads as these tokens
  pub text_reads : Reads Own bytes (tokens_in e)
  text_reads = record {
    front = tokens_from 0 e.lexed.pieces;
    whole = record {
      pieces = e.lexed.pieces;
      spelled = append-nil (spelling e.lexed.pieces) ∙ e.lexed.spelled;
      fit = e.lexed.fit Blanks refl [] last;
      place = ap length e.lexed.spelled;
      told = refl;
    };
    told = refl;
  }

  abbrev behind : List g.Token
  behind = g.token g.the_end (length bytes) ∷ []

  tokens_are : tokens_of bytes (tokens_in e) ≡ spell_expr e.expr ++ behind
  tokens_are = map-append (token_of bytes) (tokens_from 0 e.lexed.pieces) (end_at (length bytes) ∷ [])
      ∙ ap (λ (ts : List g.Token). ts ++ behind) (e.lexed.told bytes [] [] (append-nil bytes) refl)

  -- they are those of the expression and the end
  pub tokens_count : length (tokens_in e) ≡ length (spell_expr e.expr) + 1
  tokens_count = sym (length-map (tokens_in e) (token_of bytes)) ∙ ap length tokens_are ∙ length-append (spell_expr e.expr) behind

  is_longest : IsLongest (spell_expr e.expr ++ behind) (length (spell_expr e.expr)) e.expr
  is_longest =
      let reads : ReadsExpr (spell_expr e.expr) e.expr = record { spelled = refl; good = e.groups } in
      let runs : run expression_start (spell_expr e.expr) ≡ Some at_end = reads_run (spell_expr e.expr) e.expr reads in
      let traced : trace expression_start (spell_expr e.expr) ≡ opens_expr 0 e.expr =
      ap (trace expression_start) (sym (append-nil (spell_expr e.expr))) ∙ expr_trace e.expr _ 0 0 [] [] e.groups
      ∙ append-nil (opens_expr 0 e.expr) in
      record {
        front = spell_expr e.expr;
        next = g.token g.the_end (length bytes);
        rest = [];
        split = refl;
        size = refl;
        reads = reads;
        ends = ends_there (spell_expr e.expr) g.the_end (length bytes) runs refl;
        fine = fine_expr (spell_expr e.expr) _ _ runs (subst AllShallow (sym traced) (e.shallow 0 (omega arith)));
      }

  -- an expression with the value of a comparison is that condition
  pub text_means : (r : Rel) (f : Form) → v ≡ a_truth (tree.compare r f)
      → ExpressionMeans bytes (tokens_of bytes (tokens_in e)) 0 all (Ok (a_condition (tree.compare r f), length (spell_expr e.expr)))
  text_means r f same =
      subst (λ (ts : List g.Token). ExpressionMeans bytes ts 0 all (Ok (a_condition (tree.compare r f), length (spell_expr e.expr))))
      (sym tokens_are) (inr (inr (
        e.expr,
        length (spell_expr e.expr),
        is_longest,
        sym (walked (first_place (spell_expr e.expr ++ behind))),
      )))
    where
      walked : (a : ℕ) → ◌>>=◌ {B = Meaning × ℕ} (meant bytes all a e.expr) (λ m. Ok (m, 0 + length (spell_expr e.expr)))
          ≡ Ok (a_condition (tree.compare r f), length (spell_expr e.expr))
      walked a = rw (e.walks (line_at bytes), same, zero-add (length (spell_expr e.expr))) refl

-- ---- the sides of a comparison
-- the bytes are a sum with these coefficients, before a blank
pub record Side (all : List (List ℕ)) (bytes : List ℕ) (cs : List ℤ) : Type 0 where
  -- a byte that would go on with the last one
  pub goes_on : ℕ → Bool
  -- the sum
  pub spelled : Spelled all 0 bytes goes_on 4 1 (a_form (sum_of cs) 0)
  -- a blank ends it
  pub blank : goes_on 32 ≡ false

-- the coefficients of a row with a factor
abbrev pub side_of : ℕ → List ℤ → List ℤ
side_of factor row = if factor == 1 then row else products (pos factor) row

module _ (all : List (List ℕ)) (from : AreFrom all all 0) where
  -- `factor * (row)`, its parts put together from the right
  product_spelled : (factor : ℕ) (row : List ℤ) → IsWritableRow all factor row
      → Spelled all 0 (decimal factor ++ (codes " * (" ++ (row_text all row ++ codes ")"))) is_second 4 1
      (a_form (sum_of (products (pos factor) row)) 0)
  product_spelled factor row w =
      let p = 0 + length (decimal factor) in
      let number = number_spelled {all = all} {l = 6} {depth = 1} 0 factor (leb-true factor 9223372036854775807 w.factor_fits) in
      let sum = row_spelled all (p + 3 + 1) 2 row from w.one_each (omega arith) w.some w.numbers in
      loosened 5 4 (omega arith) (joins {m = 6} g.times_op (p + 1) number (spaced p Star (λ rest none. refl))
      (in_parentheses (p + 3) (loosened 4 0 (omega arith) sum) (omega arith) (λ rest. refl)) (omega arith) (omega arith)
      (λ rest. refl) (λ rest. nothing_heads (40 ∷ (row_text all row ++ 41 ∷ []) ++ rest))
      (a_form (sum_of (products (pos factor) row)) 0)
      (times_value (length all) (p + 1) 0 (p + 3) (pos factor) row (products (pos factor) row) refl w.products_fit))

  multiplied : (factor : ℕ) (row : List ℤ) → IsWritableRow all factor row
      → Side all (decimal factor ++ codes " * (" ++ row_text all row ++ codes ")") (products (pos factor) row)
  multiplied factor row w =
      let same : decimal factor ++ codes " * (" ++ row_text all row ++ codes ")"
      ≡ decimal factor ++ (codes " * (" ++ (row_text all row ++ codes ")")) =
      append_assoc (decimal factor ++ codes " * (") (row_text all row) (codes ")")
      ∙ append_assoc (decimal factor) (codes " * (") (row_text all row ++ codes ")") in
      record {
        goes_on = is_second;
        spelled = subst (λ (bs : List ℕ). Spelled all 0 bs is_second 4 1 (a_form (sum_of (products (pos factor) row)) 0)) (sym same)
            (product_spelled factor row w);
        blank = refl;
      }

  side_by : (t : Bool) (factor : ℕ) (row : List ℤ) → (factor == 1) ≡ t → IsWritableRow all factor row
      → Side all (if t then row_text all row else decimal factor ++ codes " * (" ++ row_text all row ++ codes ")")
      (if t then row else products (pos factor) row)
  side_by true factor row e w = record {
    goes_on = is_word_byte;
    spelled = row_spelled all 0 1 row from w.one_each (omega arith) w.some w.numbers;
    blank = refl;
  }
  side_by false factor row e w = multiplied factor row w

  -- the text of a side
  side_spelled : (factor : ℕ) (row : List ℤ) → IsWritableRow all factor row → Side all (side_text all factor row) (side_of factor row)
  side_spelled factor row w = side_by (factor == 1) factor row refl w

  -- the text of a bound
  bound_spelled : (at : ℕ) (n : ℤ) → nat_abs n < greatest_literal
      → Spelled all at (signed_decimal n) is_word_byte 4 1 (a_form (form_of (zeros (length all)) n) at)
  bound_spelled at (pos n) h = number_spelled at n (omega (arith, h))
  bound_spelled at (negsuc n) h = negative_number at n (omega arith) (omega (arith, h))

-- what is true of the coefficients of a side
length_by : (t : Bool) (factor : ℕ) (row : List ℤ) → length (if t then row else products (pos factor) row) ≡ length row
length_by true factor row = refl
length_by false factor row = count row
  where
    count : (cs : List ℤ) → length (products (pos factor) cs) ≡ length cs
    count [] = refl
    count (c ∷ cs) = ap suc (count cs)

numbers_by : (t : Bool) (factor : ℕ) (row : List ℤ) → IsTrue (are_numbers row) → IsTrue (are_numbers (products (pos factor) row))
    → IsTrue (are_numbers (if t then row else products (pos factor) row))
numbers_by true factor row h k = h
numbers_by false factor row h k = k

value_by : (t : Bool) (factor : ℕ) (row : List ℤ) (x : State) → (factor == 1) ≡ t
    → dot (if t then row else products (pos factor) row) x ≡ pos factor *ℤ dot row x
value_by true factor row x e = let one : factor ≡ 1 = eqb-true factor 1 e in
    subst (λ (n : ℕ). dot row x ≡ pos n *ℤ dot row x) (sym one) (omega (arith, ints))
value_by false factor row x e = dot_products (pos factor) row x

-- ---- comparisons
minus_abs : (n : ℤ) → nat_abs (pos 0 -ℤ n) ≡ nat_abs n
minus_abs n = omega (arith, ints)

compared_is : (r : Relation) (a : ℕ) (cs : List ℤ) (w : ℕ) (n : ℤ) → length cs ≡ w → IsTrue (are_numbers cs) → nat_abs n < greatest_literal
    → compared r a (sum_of cs) (form_of (zeros w) n) ≡ Ok (a_truth (tree.compare (rel_of r) (form_of cs (pos 0 -ℤ n))))
compared_is r a cs w n e fits small =
    let paired : pairwise true cs (zeros w) ≡ cs = ap (λ (m : ℕ). pairwise true cs (zeros m)) (sym e) ∙ pairwise_zeros true cs in
    let within : IsTrue (is_number (pos 0 -ℤ n)) = le-leb (nat_abs (pos 0 -ℤ n)) 9223372036854775807 (omega (arith, small, minus_abs n)) in
    let comparable : is_comparable (form_of cs (pos 0 -ℤ n)) ≡ true =
    le-leb (nat_abs (pos 0 -ℤ n) + 1) 9223372036854775807 (omega (arith, small, minus_abs n)) in
    rw (paired, ranged_ok a (form_of cs (pos 0 -ℤ n)) fits within, comparable) refl

module _ (names : List (List ℕ)) (from : AreFrom names names 0) (factor : ℕ) (row : List ℤ) (n : ℤ) (w : IsWritableRow names factor row)
    (small : nat_abs n < greatest_literal) where
  abbrev side : List ℤ
  side = side_of factor row

  side_size : length side ≡ length names
  side_size = length_by (factor == 1) factor row ∙ w.one_each

  side_fits : IsTrue (are_numbers side)
  side_fits = numbers_by (factor == 1) factor row w.numbers w.products_fit

  side_value : (x : State) → dot side x ≡ pos factor *ℤ dot row x
  side_value x = value_by (factor == 1) factor row x refl

  abbrev place : ℕ
  place = 0 + length (side_text names factor row)

  -- the condition that a clause is
  abbrev condition_of : Rel → tree.Condition
  condition_of r = tree.compare r (form_of side (pos 0 -ℤ n))

  -- the two sides with a sign between them, put together from the left
  parted : (sign : List ℕ) (v : Value)
      → Spelled names 0 (side_text names factor row ++ (sign ++ signed_decimal n)) is_word_byte 0 1 v
      → Spelled names 0 (side_text names factor row ++ sign ++ signed_decimal n) is_word_byte 0 1 v
  parted sign v e = subst (λ (bs : List ℕ). Spelled names 0 bs is_word_byte 0 1 v)
      (sym (append_assoc (side_text names factor row) sign (signed_decimal n))) e

  at_most_spelled : Spelled names 0 (clause_text names (at_most factor row n)) is_word_byte 0 1 (a_truth (condition_of Le))
  at_most_spelled =
      let left = side_spelled names from factor row w in
      parted (codes " <= ") (a_truth (condition_of Le)) (loosened 3 0 (omega arith)
      (joins {m = 4} (g.compare_op g.at_most) (place + 1) left.spelled
      (spaced place LessEqual (λ rest none. refl)) (bound_spelled names from (place + 4) n small) (omega arith) (omega arith)
      (λ rest. left.blank) (λ rest. nothing_heads (signed_decimal n ++ rest)) (a_truth (condition_of Le))
      (compared_is g.at_most (place + 1) side (length names) n side_size side_fits small)))

  equals_spelled : Spelled names 0 (clause_text names (equals factor row n)) is_word_byte 0 1 (a_truth (condition_of Eq))
  equals_spelled =
      let left = side_spelled names from factor row w in
      parted (codes " == ") (a_truth (condition_of Eq)) (loosened 2 0 (omega arith)
      (joins {m = 4} (g.compare_op g.equal) (place + 1) left.spelled
      (spaced place EqualEqual (λ rest none. refl)) (bound_spelled names from (place + 4) n small) (omega arith) (omega arith)
      (λ rest. left.blank) (λ rest. nothing_heads (signed_decimal n ++ rest)) (a_truth (condition_of Eq))
      (compared_is g.equal (place + 1) side (length names) n side_size side_fits small)))

-- where two things are so together, they are not so together
both_not : {A B : Type 0} → A ↔ B → (¬ A) ↔ (¬ B)
both_not h = (λ n b. n (h.1 b), λ n a. n (h.0 a))

-- a text that is the comparison of a clause says it
says : (names : List (List ℕ)) (clause : Clause) (r : Rel) (f : Form)
    → Spelled names 0 (clause_text names clause) is_word_byte 0 1 (a_truth (tree.compare r f))
    → ((x : State) → MayBe true (tree.compare r f) x ↔ IsTrueAt clause x) → SaysClause names clause
says names clause r f e exact = record {
  tokens = tokens_in e;
  condition = tree.compare r f;
  size = length (spell_expr e.expr);
  reads = text_reads e refl;
  whole = tokens_count e refl;
  means = text_means e refl r f refl;
  exact = exact;
  exact_not = λ x. both_not (exact x);
}

-- the names of a program are all from the first one on
all_from : (names : List (List ℕ)) → AreNames names → AreFrom names names 0
all_from names h = record {
  named = λ j name e. (named names h.each j name e, own_place names j name h e ∙ ap Some (sym (zero-add j)));
  size = sym (zero-add (length names));
}
  where
    named : (xs : List (List ℕ)) → All IsName xs → (j : ℕ) (name : List ℕ) → slice_get xs j ≡ Some name → IsName name
    named [] a j name e = cc
    named (x ∷ xs) a zero name e = let same : x ≡ name = cc in subst IsName same (All-head IsName x xs a)
    named (x ∷ xs) a (suc j) name e = named xs (All-tail IsName x xs a) j name e

-- each clause that the language can say is written as a condition that says it
pub written : WrittenClausesMean
written names never h w = absurd w
written names (at_most factor row n) h (w, small) = says names (at_most factor row n) Le _
    (at_most_spelled names (all_from names h) factor row n w small)
    (λ x. at_most_zero _ n (pos factor *ℤ dot row x) (side_value names (all_from names h) factor row n w small x))
written names (equals factor row n) h (w, small) = says names (equals factor row n) Eq _
    (equals_spelled names (all_from names h) factor row n w small)
    (λ x. equals_zero _ n (pos factor *ℤ dot row x) (side_value names (all_from names h) factor row n w small x))
