-- A text grows loop by loop, and a summary line by line.
use Rattle.std.proofs.Common.{◌≡◌, ◌≤◌, ◌<◌, ◌+◌, ◌-◌, ℕ, suc, List, [], ◌++◌, refl, sym, ap, ◌∙◌, arith}
use Rattle.std.specs.Prelude.{flat_map}
use Rattle.std.proofs.lemmas.List.{append_assoc}
use Rattle.out_workload.specs.Draws.{after_loop, loop_at, loops_from}
use Rattle.out_workload.specs.Texts.{loop_text, front_text, back_text, generated_text}

-- what is still to come after the text so far makes it whole
pub record IsBegun (seed loops : ℕ) (text : List ℕ) (state counter : ℕ) : Type 0 where
  -- the state has at most 31 bits
  pub small : state < 2147483648
  -- the text so far, the loops still to come and the last lines are the generated text
  pub whole : text ++ (flat_map loop_text (loops_from state (loops - counter)) ++ back_text) ≡ generated_text seed loops

-- the lines before the loops begin the generated text
pub begun : (seed loops : ℕ) (text : List ℕ) → seed < 2147483648 → text ≡ front_text → IsBegun seed loops text seed 0
begun seed loops text h e = record {
  small = h;
  whole = let none : loops - 0 ≡ loops = omega arith in rw (e, none) refl;
}

-- with one loop more the text still begins the generated text
pub begun_more : (seed loops : ℕ) (text more : List ℕ) (state after counter : ℕ) → counter < loops → after < 2147483648
    → after ≡ after_loop state → more ≡ text ++ loop_text (loop_at state) → IsBegun seed loops text state counter
    → IsBegun seed loops more after (counter + 1)
begun_more seed loops text more state after counter h s e m b = record {
  small = s;
  whole =
      let one : loops - counter ≡ suc (loops - (counter + 1)) = omega arith in
      let rest = flat_map loop_text (loops_from (after_loop state) (loops - (counter + 1))) in
      rw (m, e) (append_assoc text (loop_text (loop_at state)) (rest ++ back_text)
      ∙ ap (λ (x : List ℕ). text ++ x) (sym (append_assoc (loop_text (loop_at state)) rest back_text))
      ∙ ap (λ (k : ℕ). text ++ (flat_map loop_text (loops_from state k) ++ back_text)) (sym one)
      ∙ b.whole);
}

-- after all loops and the last lines the text is the generated text
pub begun_whole : (seed loops : ℕ) (text out : List ℕ) (state counter : ℕ) → loops ≤ counter → out ≡ text ++ back_text
    → IsBegun seed loops text state counter → out ≡ generated_text seed loops
begun_whole seed loops text out state counter h e b =
    let none : loops - counter ≡ 0 = omega arith in
    e ∙ ap (λ (k : ℕ). text ++ (flat_map loop_text (loops_from state k) ++ back_text)) (sym none) ∙ b.whole

-- six parts that are appended one after another
pub six_parts : (start one two three four five whole a b c d e f : List ℕ) → start ≡ [] → one ≡ start ++ a → two ≡ one ++ b
    → three ≡ two ++ c → four ≡ three ++ d → five ≡ four ++ e → whole ≡ five ++ f → whole ≡ a ++ (b ++ (c ++ (d ++ (e ++ f))))
six_parts start one two three four five whole a b c d e f s g h i j k l = rw (l, k, j, i, h, g, s) (simp append_assoc)
