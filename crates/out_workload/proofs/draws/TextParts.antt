-- A generated text as parts.
use Rattle.std.proofs.Common.{◌≡◌, ◌≤◌, ◌<◌, ◌+◌, ◌%◌, ℕ, zero, suc, true, List, [], ◌∷◌, ◌++◌, length, refl, sym, ap, ap₂, ◌∙◌, arith}
use Rattle.std.specs.Prelude.{decimal, flat_map}
use Rattle.std.proofs.lemmas.List.{append_assoc}
use Rattle.lang_tokens.specs.declared.word.Word.TheVariants.{Int, Main, Return, While}
use Rattle.lang_tokens.specs.declared.sign.Sign.TheVariants.{LeftParen, RightParen, LeftBrace, RightBrace, Comma, Semicolon, Assign}
use Rattle.lang_tokens.specs.declared.sign.Sign.TheVariants.{PlusAssign, Less}
use Rattle.out_workload.specs.declared.draws.Loop.{Loop}
use Rattle.out_workload.specs.Draws.{following, loop_at, loops_from, after_loop}
use Rattle.out_workload.specs.Texts.{loop_text, front_text, back_text, generated_text}
use Rattle.out_workload.proofs.bodies.Decimals.{short_numeral}
use Rattle.out_workload.proofs.bodies.Pieces.{Part, space, word, sign, letter, number, spelled, spelled_append, all_stand, stand_append}
use Rattle.out_workload.proofs.bodies.Pieces.{IsNumeral, AllGood, good_append}

-- the lines before the loops
abbrev pub front_parts : List Part
front_parts =
    word Int ∷ space 32 ∷ word Main ∷ sign LeftParen ∷ sign RightParen ∷ space 32 ∷ sign LeftBrace ∷ space 10
    ∷ space 32 ∷ space 32 ∷ word Int ∷ space 32 ∷ letter 97 ∷ space 32 ∷ sign Assign ∷ space 32 ∷ number 0 (48 ∷ []) ∷ sign Comma
    ∷ space 32 ∷ letter 98 ∷ space 32 ∷ sign Assign ∷ space 32 ∷ number 0 (48 ∷ []) ∷ sign Comma
    ∷ space 32 ∷ letter 99 ∷ space 32 ∷ sign Assign ∷ space 32 ∷ number 0 (48 ∷ []) ∷ sign Semicolon ∷ space 10 ∷ []

-- the lines after them
abbrev pub back_parts : List Part
back_parts = space 32 ∷ space 32 ∷ word Return ∷ space 32 ∷ number 0 (48 ∷ []) ∷ sign Semicolon ∷ space 10 ∷ sign RightBrace ∷ space 10 ∷ []

-- the lines of a loop over the variables v and w, with its bound and its step and their digits
abbrev pub parts_of : (v w bound : ℕ) (bs : List ℕ) (step : ℕ) (ss : List ℕ) → List Part
parts_of v w bound bs step ss =
    space 32 ∷ space 32 ∷ letter (97 + v) ∷ space 32 ∷ sign Assign ∷ space 32 ∷ number 0 (48 ∷ []) ∷ sign Semicolon ∷ space 10
    ∷ space 32 ∷ space 32 ∷ word While ∷ space 32 ∷ sign LeftParen ∷ letter (97 + v) ∷ space 32 ∷ sign Less ∷ space 32 ∷ number bound bs
    ∷ sign RightParen ∷ space 32 ∷ sign LeftBrace ∷ space 10
    ∷ space 32 ∷ space 32 ∷ space 32 ∷ space 32 ∷ letter (97 + v) ∷ space 32 ∷ sign PlusAssign ∷ space 32 ∷ number step ss ∷ sign Semicolon
    ∷ space 10
    ∷ space 32 ∷ space 32 ∷ space 32 ∷ space 32 ∷ letter (97 + w) ∷ space 32 ∷ sign Assign ∷ space 32 ∷ letter (97 + v) ∷ sign Semicolon
    ∷ space 10
    ∷ space 32 ∷ space 32 ∷ sign RightBrace ∷ space 10 ∷ []

abbrev pub loop_parts : Loop → List Part
loop_parts l = parts_of l.variable (following l.variable) l.bound (decimal l.bound) l.step (decimal l.step)

abbrev pub loops_parts : List Loop → List Part
loops_parts [] = []
loops_parts (l ∷ ls) = loop_parts l ++ loops_parts ls

abbrev pub text_parts : List Loop → List Part
text_parts ls = front_parts ++ (loops_parts ls ++ back_parts)

-- what is true of every loop that is drawn
pub record IsDrawn (l : Loop) : Type 0 where
  -- the variable is one of three
  pub variable : l.variable < 3
  -- the bound is at most 100
  pub bound : l.bound ≤ 100
  -- the step is at most 9
  pub step : l.step ≤ 9

abbrev pub AreDrawn : List Loop → Type 0
AreDrawn [] = Unit {0}
AreDrawn (l ∷ ls) = IsDrawn l × AreDrawn ls

loop_drawn : (state : ℕ) → IsDrawn (loop_at state)
loop_drawn state = record { variable = omega arith; bound = omega arith; step = omega arith }

-- loops drawn from any state have variables, bounds and steps within the ranges
pub are_drawn : (state loops : ℕ) → AreDrawn (loops_from state loops)
are_drawn state zero = tt
are_drawn state (suc loops) = (loop_drawn state, are_drawn (after_loop state) loops)

-- there are as many loops as are drawn
pub count_drawn : (state loops : ℕ) → length (loops_from state loops) ≡ loops
count_drawn state zero = refl
count_drawn state (suc loops) = omega (arith, count_drawn (after_loop state) loops)

-- ---- the parts spell the text
loop_spelled : (l : Loop) → spelled (loop_parts l) ≡ loop_text l
loop_spelled l = sym (simp append_assoc)

loops_spelled : (ls : List Loop) → spelled (loops_parts ls) ≡ flat_map loop_text ls
loops_spelled [] = refl
loops_spelled (l ∷ ls) = spelled_append (loop_parts l) (loops_parts ls) ∙ ap₂ (λ (x y : List ℕ). x ++ y) (loop_spelled l) (loops_spelled ls)

-- the parts of the loops spell the generated text
pub text_spelled : (seed loops : ℕ) → spelled (text_parts (loops_from seed loops)) ≡ generated_text seed loops
text_spelled seed loops =
    let ls = loops_from seed loops in
    spelled_append front_parts (loops_parts ls ++ back_parts)
    ∙ ap (λ (x : List ℕ). front_text ++ x) (spelled_append (loops_parts ls) back_parts
    ∙ ap (λ (x : List ℕ). x ++ back_text) (loops_spelled ls))

-- ---- they fit
stand_case : (v : ℕ) → v < 3 → (w bound : ℕ) (bs : List ℕ) (step : ℕ) (ss rest : List ℕ)
    → all_stand (parts_of v w bound bs step ss) rest ≡ true
stand_case zero h w bound bs step ss rest = refl
stand_case (suc zero) h w bound bs step ss rest = refl
stand_case (suc (suc zero)) h w bound bs step ss rest = refl
stand_case (suc (suc (suc v))) h w bound bs step ss rest = absurd (omega arith)

loops_stand : (ls : List Loop) (rest : List ℕ) → AreDrawn ls → all_stand (loops_parts ls) rest ≡ true
loops_stand [] rest h = refl
loops_stand (l ∷ ls) rest h =
    stand_append (loop_parts l) (loops_parts ls) rest (stand_case l.variable h.0.variable (following l.variable) l.bound (decimal l.bound)
    l.step (decimal l.step) (spelled (loops_parts ls) ++ rest))
    ∙ loops_stand ls rest h.1

-- the parts of drawn loops each stand before what follows them
pub text_stands : (ls : List Loop) → AreDrawn ls → all_stand (text_parts ls) [] ≡ true
text_stands ls h =
    stand_append front_parts (loops_parts ls ++ back_parts) [] refl
    ∙ stand_append (loops_parts ls) back_parts [] (loops_stand ls (spelled back_parts ++ []) h)

zero_is : IsNumeral 0 (48 ∷ [])
zero_is = record { digits = refl; plain = refl; value = refl; small = omega arith }

loop_good : (v w : ℕ) → v < 3 → w ≡ (v + 1) % 3 → (bound : ℕ) (bs : List ℕ) (step : ℕ) (ss : List ℕ) → IsNumeral bound bs
    → IsNumeral step ss → AllGood (parts_of v w bound bs step ss)
loop_good zero w l e bound bs step ss h k = rw e (refl, (zero_is, (refl, (h, (refl, (k, (refl, (refl, tt))))))))
loop_good (suc zero) w l e bound bs step ss h k = rw e (refl, (zero_is, (refl, (h, (refl, (k, (refl, (refl, tt))))))))
loop_good (suc (suc zero)) w l e bound bs step ss h k = rw e (refl, (zero_is, (refl, (h, (refl, (k, (refl, (refl, tt))))))))
loop_good (suc (suc (suc v))) w l e bound bs step ss h k = absurd (omega arith)

-- the parts of a drawn loop are good
pub one_good : (l : Loop) → IsDrawn l → AllGood (loop_parts l)
one_good l h = loop_good l.variable (following l.variable) h.variable refl l.bound (decimal l.bound) l.step (decimal l.step)
    (short_numeral l.bound h.bound).numeral (short_numeral l.step (omega (arith, h.step))).numeral

loops_good : (ls : List Loop) → AreDrawn ls → AllGood (loops_parts ls)
loops_good [] h = tt
loops_good (l ∷ ls) h = good_append (loop_parts l) (loops_parts ls) (one_good l h.0) (loops_good ls h.1)

-- the parts before the loops are good
pub front_good : AllGood front_parts
front_good = (refl, (zero_is, (refl, (zero_is, (refl, (zero_is, tt))))))

-- the parts of a text with drawn loops are good
pub text_good : (ls : List Loop) → AreDrawn ls → AllGood (text_parts ls)
text_good ls h = good_append front_parts (loops_parts ls ++ back_parts) front_good
    (good_append (loops_parts ls) back_parts (loops_good ls h) (zero_is, tt))
