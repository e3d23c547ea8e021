-- The text of a row, as a sum with its value.
use Rattle.std.proofs.Common.{◌≡◌, ◌==◌, ◌≤◌, ◌+◌, ℕ, zero, suc, ℤ, pos, negsuc, nat_abs, Bool, true, false, not, IsTrue, List, []}
use Rattle.std.proofs.Common.{◌∷◌, ◌++◌, length, Some, refl, sym, ap, ◌∙◌, subst, arith}
use Rattle.std.specs.Prelude.{if◌then◌else◌}
use Rattle.std.specs.List.{list_any, slice_get}
use Rattle.std.proofs.lemmas.Int.{ints}
use Rattle.std.proofs.lemmas.Bool.{leb-true, eqb-true}
use Rattle.std.proofs.lemmas.List.{append_assoc, append-nil, length-append, length-replicate}
use Rattle.lang_tokens.specs.declared.sign.Sign.TheVariants.{Plus, Minus}
use Rattle.lang_tokens.specs.Bytes.{is_word_byte}
use Rattle.lang_tokens.specs.Lexemes.{IsName}
use Rattle.lang_grammar.specs.Grammar as g
use Rattle.lang_tree.specs.Numbers.{is_number, are_numbers}
use Rattle.lang_meaning.specs.Names.{place_of}
use Rattle.lang_meaning.specs.Forms.{pairwise, sum_or_difference}
use Rattle.lang_meaning.specs.Walk.{a_form}
use Rattle.lang_meaning.proofs.forms.Ranges.{and_split, zeros_fit, both_true}
use Rattle.flow_systems.specs.Report.{term_text, first_sign, later_sign, later_terms, row_text}
use Rattle.acsl_notes.proofs.written.Forms.{sum_of, zeros, one_at, append_fits, pairwise_one}
use Rattle.acsl_notes.proofs.written.Lexed.{nothing_heads}
use Rattle.acsl_notes.proofs.written.Spelled.{Spelled, joins, loosened}
use Rattle.acsl_notes.proofs.written.Terms.{IsPlaced, first_term, unsigned_term, spaced, sum_value, difference_value}

-- these names are all from the number i on
pub record AreFrom (all names : List (List ℕ)) (i : ℕ) : Type 0 where
  -- each is a name of the language whose number is its place
  pub named : (j : ℕ) (name : List ℕ) → slice_get names j ≡ Some name → IsName name × (place_of name all ≡ Some (i + j))
  -- they are the last of all
  pub size : length all ≡ i + length names

next_names : {all : List (List ℕ)} {name : List ℕ} {names : List (List ℕ)} {i : ℕ} → AreFrom all (name ∷ names) i
    → AreFrom all names (suc i)
next_names {all} {name} {names} {i} h = record {
  named = λ j other e. let one = h.named (suc j) other e in let same : i + suc j ≡ suc i + j = omega arith in
      (one.0, one.1 ∙ ap Some same);
  size = omega (arith, h.size);
}

first_placed : {all : List (List ℕ)} {name : List ℕ} {names : List (List ℕ)} {i : ℕ} → AreFrom all (name ∷ names) i
    → IsPlaced all name i (length names)
first_placed {all} {name} {names} {i} h = let one = h.named 0 name refl in let same : i + 0 ≡ i = omega arith in
    record { named = one.0; place = one.1 ∙ ap Some same; size = h.size }

-- ---- lists
none_is_zero : (c : ℤ) → (nat_abs c == 0) ≡ true → c ≡ pos 0
none_is_zero c e = let none : nat_abs c ≡ 0 = eqb-true (nat_abs c) 0 e in omega (arith, ints)

one_is : (i : ℕ) (c : ℤ) (k : ℕ) → one_at i c k ≡ (zeros i ++ c ∷ []) ++ zeros k
one_is zero c k = refl
one_is (suc i) c k = ap (λ (xs : List ℤ). pos 0 ∷ xs) (one_is i c k)

more_zeros : (i : ℕ) (cs : List ℤ) → zeros i ++ pos 0 ∷ cs ≡ zeros (suc i) ++ cs
more_zeros zero cs = refl
more_zeros (suc i) cs = ap (λ (xs : List ℤ). pos 0 ∷ xs) (more_zeros i cs)

done_more : (done : List ℤ) (c : ℤ) (cs : List ℤ) → done ++ c ∷ cs ≡ (done ++ c ∷ []) ++ cs
done_more done c cs = sym (append_assoc done (c ∷ []) cs)

some_behind : (c : ℤ) (cs : List ℤ) → (nat_abs c == 0) ≡ true → list_any (λ x. not (nat_abs x == 0)) (c ∷ cs) ≡ true
    → list_any (λ x. not (nat_abs x == 0)) cs ≡ true
some_behind c cs e h = let same : list_any (λ x. not (nat_abs x == 0)) (c ∷ cs) ≡ list_any (λ x. not (nat_abs x == 0)) cs = rw e refl in
    sym same ∙ h

-- ---- a term more
module _ (all : List (List ℕ)) (at depth : ℕ) where
  -- the bytes are a sum with these coefficients
  abbrev IsSum : List ℕ → List ℤ → Type 0
  IsSum bytes cs = Spelled all at bytes is_word_byte 4 depth (a_form (sum_of cs) at)

  module _ (bytes : List ℕ) (done : List ℤ) (name : List ℕ) (i k : ℕ) (so_far : IsSum bytes (done ++ zeros (suc k)))
      (size : length done ≡ i) (placed : IsPlaced all name i k) (fits : IsTrue (are_numbers done)) where
    ended : (c : ℤ) → IsTrue (is_number c) → IsTrue (are_numbers (done ++ c ∷ zeros k))
    ended c h = append_fits done (c ∷ zeros k) fits (both_true (is_number c) (are_numbers (zeros k)) h (zeros_fit k))

    paired : (b : Bool) (s c : ℤ) → sum_or_difference b (pos 0) s ≡ c
        → pairwise b (done ++ zeros (suc k)) (one_at i s k) ≡ done ++ c ∷ zeros k
    paired b s c e = ap (λ (n : ℕ). pairwise b (done ++ zeros (suc k)) (one_at n s k)) (sym size) ∙ pairwise_one b done s k
        ∙ ap (λ (x : ℤ). done ++ x ∷ zeros k) e

    -- a term with its sign
    term_more : (c : ℤ) → IsTrue (is_number c) → IsSum (bytes ++ (later_sign c ++ term_text (nat_abs c) name)) (done ++ c ∷ zeros k)
    term_more (pos n) h =
        joins {m = 5} g.plus_op (at + length bytes + 1) so_far (spaced (at + length bytes) Plus (λ rest none. refl))
        (unsigned_term name i k placed (at + length bytes + 3) n (leb-true n 9223372036854775807 h)) (omega arith) (omega arith)
        (λ rest. refl) (λ rest. nothing_heads (term_text n name ++ rest)) (a_form (sum_of (done ++ pos n ∷ zeros k)) at)
        (sum_value (at + length bytes + 1) at (at + length bytes + 3) (done ++ zeros (suc k)) (one_at i (pos n) k) (done ++ pos n ∷ zeros k)
        (paired false (pos n) (pos n) (omega (arith, ints))) (ended (pos n) h))
    term_more (negsuc n) h =
        joins {m = 5} g.minus_op (at + length bytes + 1) so_far (spaced (at + length bytes) Minus (λ rest none. refl))
        (unsigned_term name i k placed (at + length bytes + 3) (suc n) (leb-true (suc n) 9223372036854775807 h)) (omega arith) (omega arith)
        (λ rest. refl) (λ rest. nothing_heads (term_text (suc n) name ++ rest)) (a_form (sum_of (done ++ negsuc n ∷ zeros k)) at)
        (difference_value (at + length bytes + 1) at (at + length bytes + 3) (done ++ zeros (suc k)) (one_at i (pos (suc n)) k)
        (done ++ negsuc n ∷ zeros k) (paired true (pos (suc n)) (negsuc n) (omega (arith, ints))) (ended (negsuc n) h))

    step_by : (t : Bool) (c : ℤ) → (nat_abs c == 0) ≡ t → IsTrue (is_number c)
        → IsSum (bytes ++ (if t then [] else later_sign c ++ term_text (nat_abs c) name)) (done ++ c ∷ zeros k)
    step_by true c e h = subst (λ (bs : List ℕ). IsSum bs (done ++ c ∷ zeros k)) (sym (append-nil bytes))
        (subst (λ (x : ℤ). IsSum bytes (done ++ x ∷ zeros k)) (sym (none_is_zero c e)) so_far)
    step_by false c e h = term_more c h

  -- a coefficient more, which is left out where it is 0
  step : (bytes : List ℕ) (done : List ℤ) (name : List ℕ) (i k : ℕ) → IsSum bytes (done ++ zeros (suc k)) → length done ≡ i
      → IsPlaced all name i k → IsTrue (are_numbers done) → (c : ℤ) → IsTrue (is_number c)
      → IsSum (bytes ++ (if nat_abs c == 0 then [] else later_sign c ++ term_text (nat_abs c) name)) (done ++ c ∷ zeros k)
  step bytes done name i k s size placed fits c h = step_by bytes done name i k s size placed fits (nat_abs c == 0) c refl h

  -- the coefficients behind those that are done
  later_spelled : (names : List (List ℕ)) (cs : List ℤ) (bytes : List ℕ) (done : List ℤ) (i : ℕ) → AreFrom all names i
      → length cs ≡ length names → length done ≡ i → IsTrue (are_numbers done) → IsTrue (are_numbers cs)
      → IsSum bytes (done ++ zeros (length names)) → IsSum (bytes ++ later_terms names cs) (done ++ cs)
  later_spelled [] [] bytes done i from same size fits more s =
      subst (λ (bs : List ℕ). IsSum bs (done ++ [])) (sym (append-nil bytes)) s
  later_spelled [] (c ∷ cs) bytes done i from same size fits more s = absurd (omega (arith, same))
  later_spelled (name ∷ names) [] bytes done i from same size fits more s = absurd (omega (arith, same))
  later_spelled (name ∷ names) (c ∷ cs) bytes done i from same size fits more s =
      let both = and_split (is_number c) (are_numbers cs) more in
      let term = if nat_abs c == 0 then [] else later_sign c ++ term_text (nat_abs c) name in
      let one : IsSum (bytes ++ term) ((done ++ c ∷ []) ++ zeros (length names)) =
      subst (λ (xs : List ℤ). IsSum (bytes ++ term) xs) (done_more done c (zeros (length names)))
      (step bytes done name i (length names) s size (first_placed from) fits c both.0) in
      let all_done = later_spelled names cs (bytes ++ term) (done ++ c ∷ []) (suc i) (next_names from) (omega (arith, same))
      (omega (arith, length-append done (c ∷ []), size))
      (append_fits done (c ∷ []) fits (both_true (is_number c) true both.0 refl)) both.1 one in
      subst (λ (bs : List ℕ). IsSum bs (done ++ c ∷ cs)) (append_assoc bytes term (later_terms names cs))
      (subst (λ (xs : List ℤ). IsSum ((bytes ++ term) ++ later_terms names cs) xs) (sym (done_more done c cs)) all_done)

  first_by : (t : Bool) (name : List ℕ) (names : List (List ℕ)) (c : ℤ) (cs : List ℤ) (i : ℕ) → (nat_abs c == 0) ≡ t
      → AreFrom all (name ∷ names) i → length cs ≡ length names → depth ≤ 64 → IsTrue (is_number c) → IsTrue (are_numbers cs)
      → (t ≡ true → IsSum (row_text names cs) (zeros (suc i) ++ cs))
      → IsSum (if t then row_text names cs else (first_sign c ++ term_text (nat_abs c) name) ++ later_terms names cs) (zeros i ++ c ∷ cs)
  first_by true name names c cs i e from same deep h more rest =
      subst (λ (x : ℤ). IsSum (row_text names cs) (zeros i ++ x ∷ cs)) (sym (none_is_zero c e))
      (subst (λ (xs : List ℤ). IsSum (row_text names cs) xs) (sym (more_zeros i cs)) (rest refl))
  first_by false name names c cs i e from same deep h more rest =
      let bytes = first_sign c ++ term_text (nat_abs c) name in
      let first : IsSum bytes ((zeros i ++ c ∷ []) ++ zeros (length names)) =
      subst (λ (xs : List ℤ). IsSum bytes xs) (one_is i c (length names))
      (loosened 5 4 (omega arith) (first_term name i (length names) (first_placed from) at c deep
      (leb-true (nat_abs c) 9223372036854775807 h))) in
      subst (λ (xs : List ℤ). IsSum (bytes ++ later_terms names cs) xs) (sym (done_more (zeros i) c cs))
      (later_spelled names cs bytes (zeros i ++ c ∷ []) (suc i) (next_names from) same
      (omega (arith, length-append (zeros i) (c ∷ []), length-replicate i (pos 0)))
      (append_fits (zeros i) (c ∷ []) (zeros_fit i) (both_true (is_number c) true h refl)) more first)

  -- the row's text behind i zeros
  row_from : (names : List (List ℕ)) (cs : List ℤ) (i : ℕ) → AreFrom all names i → length cs ≡ length names → depth ≤ 64
      → IsTrue (list_any (λ x. not (nat_abs x == 0)) cs) → IsTrue (are_numbers cs) → IsSum (row_text names cs) (zeros i ++ cs)
  row_from [] [] i from same deep some fits = cc
  row_from [] (c ∷ cs) i from same deep some fits = absurd (omega (arith, same))
  row_from (name ∷ names) [] i from same deep some fits = cc
  row_from (name ∷ names) (c ∷ cs) i from same deep some fits =
      let both = and_split (is_number c) (are_numbers cs) fits in
      first_by (nat_abs c == 0) name names c cs i refl from (omega (arith, same)) deep both.0 both.1
      (λ e. row_from names cs (suc i) (next_names from) (omega (arith, same)) deep (some_behind c cs e some) both.1)

  -- the text of a row is the sum
  pub row_spelled : (cs : List ℤ) → AreFrom all all 0 → length cs ≡ length all → depth ≤ 64
      → IsTrue (list_any (λ x. not (nat_abs x == 0)) cs) → IsTrue (are_numbers cs)
      → Spelled all at (row_text all cs) is_word_byte 4 depth (a_form (sum_of cs) at)
  row_spelled cs from same deep some fits = row_from all cs 0 from same deep some fits
