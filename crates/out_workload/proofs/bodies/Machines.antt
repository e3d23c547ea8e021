-- What the tokens of a generated text mean, token by token.
use Rattle.std.proofs.Common.{◌≡◌, ◌≤◌, ◌<◌, ◌+◌, ◌*◌, ℕ, zero, suc, pos, true, List, [], ◌∷◌, ◌++◌, length, Option, Some, None, Ok}
use Rattle.std.proofs.Common.{refl, sym, ap, ap₂, ◌∙◌, arith}
use Rattle.std.proofs.lemmas.Int.{ints}
use Rattle.std.specs.Prelude.{ℤ, nat_le, nat_lt, nat_abs, neg_ℤ, ◌+ℤ◌, ◌-ℤ◌, get_or, decimal}
use Rattle.std.proofs.lemmas.Bool.{lt-ltb, le-leb}
use Rattle.std.proofs.lemmas.List.{append_assoc, length-append}
use Rattle.lang_tokens.specs.Lines.{line_at}
use Rattle.lang_grammar.specs.Grammar as g
use Rattle.lang_grammar.specs.Machine.{Goal, statement, in_main, only, text_end, start}
use Rattle.lang_grammar.specs.Verdicts.{scan}
use Rattle.lang_grammar.specs.Faults.{whole}
use Rattle.lang_tree.specs.declared.cond.Rel.TheVariants.{Lt}
use Rattle.lang_tree.specs.Numbers.{is_number}
use Rattle.lang_tree.specs.Tree.{Condition, Statements, compare, while_loop, set, loop, nil, cons}
use Rattle.lang_meaning.specs.Forms.{constant_form, variable_form, plus, minus}
use Rattle.lang_meaning.specs.Walk.{State, followed_by, one, known_number, ranged}
use Rattle.lang_meaning.specs.Feed.{Machine, at, under, of_items, of_loop, after, stands, feed, begin, result_of}
use Rattle.base_limits.specs.declared.limits.TheConstants.{MOST_STATEMENTS}
use Rattle.lang_meaning.specs.Results.{◌>>=◌}
use Rattle.out_workload.specs.declared.draws.Loop.{Loop}
use Rattle.out_workload.specs.Draws.{following}
use Rattle.out_workload.specs.Bodies.{generated_names, loops_body}
use Rattle.out_workload.proofs.bodies.Pieces.{spelled, spelled_append, tokens_at, tokens_append}
use Rattle.out_workload.proofs.bodies.LineNumbers.{feeds, lines_of, lines_at, line_after, lines_are, behind_all}
use Rattle.out_workload.proofs.draws.TextParts.{front_parts, back_parts, parts_of, loop_parts, loops_parts, AreDrawn, one_good}

-- what is known after the declarations, with k nodes
abbrev pub state_at : ℕ → State
state_at k = record { names = (97 ∷ []) ∷ ((98 ∷ []) ∷ ((99 ∷ []) ∷ [])); known = 0 ∷ 1 ∷ 2 ∷ []; labels = []; count = k }

-- between statements of `main`, with these nodes so far
abbrev pub machine_at : ℕ → Statements → Machine
machine_at k ns = at (state_at k) (under (of_items 0) ns ∷ []) stands

abbrev nth : List ℕ → ℕ → ℕ
nth ls i = get_or ls i 0

-- the two nodes of a loop, whose tokens stand on these lines
abbrev pub first_node : ℕ → List ℕ → Statements
first_node v ls = one (set v (constant_form 3 (pos 0)) (nth ls 0))

abbrev pub second_node : (v w bound step : ℕ) → List ℕ → Statements
second_node v w bound step ls = one (loop (while_loop []) (compare Lt (variable_form 3 v (neg_ℤ (pos bound))))
    (cons (set v (variable_form 3 v (pos step)) (nth ls 11)) (cons (set w (variable_form 3 v (pos 0)) (nth ls 15)) nil)) (nth ls 4))

-- what is known of the numbers
record Small (k bound step : ℕ) : Type 0 where
  first : nat_lt k MOST_STATEMENTS ≡ true
  second : nat_lt (suc k) MOST_STATEMENTS ≡ true
  third : nat_lt (suc (suc k)) MOST_STATEMENTS ≡ true
  fourth : nat_lt (suc (suc (suc k))) MOST_STATEMENTS ≡ true
  bound_fits : nat_le bound 9223372036854775807 ≡ true
  step_fits : nat_le step 9223372036854775807 ≡ true
  minus_bound : pos 0 -ℤ pos bound ≡ neg_ℤ (pos bound)
  plus_step : 0 + step ≡ step
  minus_fits : nat_le (nat_abs (neg_ℤ (pos bound))) 9223372036854775807 ≡ true
  comparable : nat_le (nat_abs (neg_ℤ (pos bound)) + 1) 9223372036854775807 ≡ true

-- what stands after a loop: a name, or `return`
abbrev pub next : Option (List ℕ) → g.Kind
next (Some x) = g.a_name x
next None = g.return_word

-- what is true of three variables is true of each
each_variable : (P : ℕ → Type 0) → P 0 → P 1 → P 2 → (v : ℕ) → v < 3 → P v
each_variable P a b c zero h = a
each_variable P a b c (suc zero) h = b
each_variable P a b c (suc (suc zero)) h = c
each_variable P a b c (suc (suc (suc v))) h = absurd (omega arith)

-- the name of a variable is known
known_at : (v a k : ℕ) → v < 3 → known_number ((97 + v) ∷ []) a (state_at k) ≡ Ok v
known_at v a k = each_variable (λ (x : ℕ). known_number ((97 + x) ∷ []) a (state_at k) ≡ Ok x) refl refl refl v

-- a variable less a number is in its range where their constant is
less_number : (v a : ℕ) (z y : ℤ) → pos 0 -ℤ z ≡ y → is_number y ≡ true → v < 3
    → ranged a (minus (variable_form 3 v (pos 0)) (constant_form 3 z)) ≡ Ok (variable_form 3 v y)
less_number v a z y d e = each_variable (λ (x : ℕ). ranged a (minus (variable_form 3 x (pos 0)) (constant_form 3 z))
    ≡ Ok (variable_form 3 x y)) (rw (d, e)) (rw (d, e)) (rw (d, e)) v

-- so is one with a number
plus_number : (v a : ℕ) (z y : ℤ) → pos 0 +ℤ z ≡ y → is_number y ≡ true → v < 3
    → ranged a (plus (variable_form 3 v (pos 0)) (constant_form 3 z)) ≡ Ok (variable_form 3 v y)
plus_number v a z y d e = each_variable (λ (x : ℕ). ranged a (plus (variable_form 3 x (pos 0)) (constant_form 3 z))
    ≡ Ok (variable_form 3 x y)) (rw (d, e)) (rw (d, e)) (rw (d, e)) v

-- a loop ends where a name or `return` follows
loop_ends : (line : ℕ → ℕ) (st : State) (c : Condition) (b : ℕ) (ms ns : Statements) (o : Option (List ℕ)) (a : ℕ) (rest : List g.Token) →
    feed line 3 (g.token (next o) a ∷ rest) (at st (under (of_loop c b) nil ∷ under (of_items 0) ns ∷ []) (after ms))
    ≡ feed line 3 (g.token (next o) a ∷ rest) (at st
    (under (of_items 0) (followed_by ns (one (loop (while_loop []) c ms (line b)))) ∷ []) stands)
loop_ends line st c b ms ns (Some x) a rest = refl
loop_ends line st c b ms ns None a rest = refl

-- the tokens of a loop, whatever its two variables are, add its nodes to those so far
fed_case : (v w : ℕ) → v < 3 → w < 3 → (line : ℕ → ℕ) (p k bound step : ℕ) (bs ss : List ℕ) (ns : Statements)
    (o : Option (List ℕ)) (a : ℕ) (rest : List g.Token) → Small k bound step →
    feed line 3 (tokens_at p (parts_of v w bound bs step ss) ++ g.token (next o) a ∷ rest) (machine_at k ns)
    ≡ feed line 3 (g.token (next o) a ∷ rest)
    (machine_at (suc (suc (suc (suc k)))) (followed_by (followed_by ns
    (first_node v (lines_of line (tokens_at p (parts_of v w bound bs step ss)))))
    (second_node v w bound step (lines_of line (tokens_at p (parts_of v w bound bs step ss))))))
fed_case v w h i line p k bound step bs ss ns o a rest s = rw (
  known_at v _ _ h,
  s.first,
  known_at v _ _ h,
  s.bound_fits,
  less_number v _ (pos bound) _ s.minus_bound s.minus_fits h,
  s.comparable,
  s.second,
  known_at v _ _ h,
  s.third,
  s.step_fits,
  plus_number v _ (pos step) _ (ap pos s.plus_step) s.step_fits h,
  known_at w _ _ i,
  s.fourth,
  known_at v _ _ h,
) (loop_ends line _ _ _ _ _ o a rest)

abs_minus : (n : ℕ) → nat_abs (neg_ℤ (pos n)) ≡ n
abs_minus zero = refl
abs_minus (suc n) = refl

minus_is : (n : ℕ) → pos 0 -ℤ pos n ≡ neg_ℤ (pos n)
minus_is n = omega (arith, ints)

small : (k bound step : ℕ) → k + 4 ≤ MOST_STATEMENTS → bound ≤ 100 → step ≤ 9 → Small k bound step
small k bound step h i j = record {
  first = lt-ltb k MOST_STATEMENTS (omega arith);
  second = lt-ltb (suc k) MOST_STATEMENTS (omega arith);
  third = lt-ltb (suc (suc k)) MOST_STATEMENTS (omega arith);
  fourth = lt-ltb (suc (suc (suc k))) MOST_STATEMENTS (omega arith);
  bound_fits = le-leb bound 9223372036854775807 (omega arith);
  step_fits = le-leb step 9223372036854775807 (omega arith);
  minus_bound = minus_is bound;
  plus_step = omega arith;
  minus_fits = le-leb (nat_abs (neg_ℤ (pos bound))) 9223372036854775807 (omega (arith, abs_minus bound));
  comparable = le-leb (nat_abs (neg_ℤ (pos bound)) + 1) 9223372036854775807 (omega (arith, abs_minus bound));
}

followed_assoc : (xs ys zs : Statements) → followed_by (followed_by xs ys) zs ≡ followed_by xs (followed_by ys zs)
followed_assoc nil ys zs = refl
followed_assoc (cons x xs) ys zs = ap (cons x) (followed_assoc xs ys zs)

followed_none : (xs : Statements) → followed_by xs nil ≡ xs
followed_none nil = refl
followed_none (cons x xs) = ap (cons x) (followed_none xs)

abbrev tail : List g.Token → List g.Token
tail [] = []
tail (t ∷ ts) = ts

-- what begins after a loop
starts : (ls : List Loop) (q : ℕ) (o : Option (List ℕ)) (a : ℕ) (rest : List g.Token) →
    (n : Option (List ℕ)) × (b : ℕ) × (more : List g.Token) × (tokens_at q (loops_parts ls) ++ g.token (next o) a ∷ rest
    ≡ g.token (next n) b ∷ more)
starts [] q o a rest = (o, a, rest, refl)
starts (l ∷ ls) q o a rest = (
  Some ((97 + l.variable) ∷ []),
  q + 1 + 1,
  tail (tokens_at q (loops_parts (l ∷ ls)) ++ g.token (next o) a ∷ rest),
  refl,
)

-- the number of nodes after the loops
abbrev pub count_behind : ℕ → List Loop → ℕ
count_behind k [] = k
count_behind k (l ∷ ls) = count_behind (suc (suc (suc (suc k)))) ls

nodes_are : (n : ℕ) (l : Loop) (ls : List Loop) (m : ℕ) → m ≡ n + 5 → (ns : Statements) →
    followed_by (followed_by (followed_by ns (first_node l.variable (lines_at n (loop_parts l))))
    (second_node l.variable (following l.variable) l.bound l.step (lines_at n (loop_parts l)))) (loops_body m ls)
    ≡ followed_by ns (loops_body n (l ∷ ls))
nodes_are n l ls m e ns =
    let two : n + 1 + 1 ≡ n + 2 = omega arith in
    followed_assoc (followed_by ns (first_node l.variable (lines_at n (loop_parts l))))
    (second_node l.variable (following l.variable) l.bound l.step (lines_at n (loop_parts l))) (loops_body m ls)
    ∙ followed_assoc ns (first_node l.variable (lines_at n (loop_parts l)))
    (followed_by (second_node l.variable (following l.variable) l.bound l.step (lines_at n (loop_parts l))) (loops_body m ls))
    ∙ rw (two, e) refl

-- the loops of a text, where they stand after a front
pub loops_fed : (text front back : List ℕ) (p n : ℕ) (ls : List Loop) → AreDrawn ls → front ++ (spelled (loops_parts ls) ++ back) ≡ text
    → length front ≡ p → 1 + feeds front ≡ n →
    (k : ℕ) → k + 4 * length ls ≤ MOST_STATEMENTS → (ns : Statements) (o : Option (List ℕ)) (a : ℕ) (rest : List g.Token) →
    feed (line_at text) 3 (tokens_at p (loops_parts ls) ++ g.token (next o) a ∷ rest) (machine_at k ns)
    ≡ feed (line_at text) 3 (g.token (next o) a ∷ rest) (machine_at (count_behind k ls) (followed_by ns (loops_body n ls)))
loops_fed text front back p n [] d e f h k c ns o a rest = ap (λ (x : Statements). feed (line_at text) 3 (g.token (next o) a ∷ rest)
    (machine_at k x)) (sym (followed_none ns))
loops_fed text front back p n (l ∷ ls) d e f h k c ns o a rest =
    let line = line_at text in
    let q = p + length (spelled (loop_parts l)) in
    let last = g.token (next o) a ∷ rest in
    let one : front ++ (spelled (loop_parts l) ++ (spelled (loops_parts ls) ++ back)) ≡ text =
    ap (λ (x : List ℕ). front ++ x) (sym (append_assoc (spelled (loop_parts l)) (spelled (loops_parts ls)) back)
    ∙ ap (λ (x : List ℕ). x ++ back) (sym (spelled_append (loop_parts l) (loops_parts ls)))) ∙ e in
    let more : (front ++ spelled (loop_parts l)) ++ (spelled (loops_parts ls) ++ back) ≡ text =
    append_assoc front (spelled (loop_parts l)) (spelled (loops_parts ls) ++ back) ∙ one in
    let size : length (front ++ spelled (loop_parts l)) ≡ q = omega (arith, length-append front (spelled (loop_parts l))) in
    let lines : lines_of line (tokens_at p (loop_parts l)) ≡ lines_at n (loop_parts l) =
    lines_are text front (spelled (loops_parts ls) ++ back) p n (loop_parts l) (one_good l d.0) one f h in
    let behind : 1 + feeds (front ++ spelled (loop_parts l)) ≡ line_after n (loop_parts l) =
    behind_all front n (loop_parts l) (one_good l d.0) h in
    let five : line_after n (loop_parts l) ≡ n + 5 = omega arith in
    let start = starts ls q o a rest in
    let ms = followed_by (followed_by ns (first_node l.variable (lines_at n (loop_parts l))))
    (second_node l.variable (following l.variable) l.bound l.step (lines_at n (loop_parts l))) in
    ap (λ (x : List g.Token). feed line 3 x (machine_at k ns))
    (ap (λ (x : List g.Token). x ++ last) (tokens_append p (loop_parts l) (loops_parts ls))
    ∙ append_assoc (tokens_at p (loop_parts l)) (tokens_at q (loops_parts ls)) last
    ∙ ap (λ (x : List g.Token). tokens_at p (loop_parts l) ++ x) start.3)
    ∙ fed_case l.variable (following l.variable) d.0.variable (omega arith) line p k l.bound l.step (decimal l.bound) (decimal l.step) ns
    start.0 start.1 start.2 (small k l.bound l.step (omega arith) d.0.bound d.0.step)
    ∙ ap₂ (λ (x : List g.Token) (y : List ℕ). feed line 3 x (machine_at (suc (suc (suc (suc k))))
    (followed_by (followed_by ns (first_node l.variable y)) (second_node l.variable (following l.variable) l.bound l.step y))))
    (sym start.3) lines
    ∙ loops_fed text (front ++ spelled (loop_parts l)) back q (line_after n (loop_parts l)) ls d.1 more size behind
    (suc (suc (suc (suc k)))) (omega arith) ms o a rest
    ∙ ap (λ (x : Statements). feed line 3 last (machine_at (count_behind (suc (suc (suc (suc k)))) ls) x))
    (nodes_are n l ls (line_after n (loop_parts l)) five ns)

-- ---- the lines before the loops and after them
abbrev pub front_nodes : List ℕ → Statements
front_nodes ls = cons (set 0 (constant_form 3 (pos 0)) (nth ls 6)) (cons (set 1 (constant_form 3 (pos 0)) (nth ls 10))
    (cons (set 2 (constant_form 3 (pos 0)) (nth ls 14)) nil))

-- the tokens before the loops declare the three variables and set them to 0
pub front_fed : (line : ℕ → ℕ) (rest : List g.Token) → feed line 3 (tokens_at 0 front_parts ++ rest) begin
    ≡ feed line 3 rest (machine_at 3 (front_nodes (lines_of line (tokens_at 0 front_parts))))
front_fed line rest = refl

-- the tokens after the loops end the program with the nodes so far
pub back_fed : (line : ℕ → ℕ) (p k : ℕ) (ns : Statements) (z : ℕ) → (feed line 3 (tokens_at p back_parts ++ g.token g.the_end z ∷ [])
    (machine_at k ns) >>= λ s. result_of s) ≡ Ok (generated_names, ns)
back_fed line p k ns z = refl

-- ---- the grammar's machine
abbrev pub in_program : List Goal
in_program = statement in_main 0 ∷ only text_end ∷ []

-- the grammar's machine goes through the tokens before the loops into the program
pub front_scanned : (rest : List g.Token) → scan start (tokens_at 0 front_parts ++ rest) ≡ scan in_program rest
front_scanned rest = refl

loop_scanned : (p v w bound step : ℕ) (bs ss : List ℕ) (rest : List g.Token)
    → scan in_program (tokens_at p (parts_of v w bound bs step ss) ++ rest) ≡ scan in_program rest
loop_scanned p v w bound step bs ss rest = refl

-- the grammar's machine goes through the tokens of the loops and is in the program still
pub loops_scanned : (p : ℕ) (ls : List Loop) (rest : List g.Token) → scan in_program (tokens_at p (loops_parts ls) ++ rest)
    ≡ scan in_program rest
loops_scanned p [] rest = refl
loops_scanned p (l ∷ ls) rest =
    let q = p + length (spelled (loop_parts l)) in
    ap (λ (x : List g.Token). scan in_program x) (ap (λ (x : List g.Token). x ++ rest) (tokens_append p (loop_parts l) (loops_parts ls))
    ∙ append_assoc (tokens_at p (loop_parts l)) (tokens_at q (loops_parts ls)) rest)
    ∙ loop_scanned p l.variable (following l.variable) l.bound l.step (decimal l.bound) (decimal l.step)
    (tokens_at q (loops_parts ls) ++ rest)
    ∙ loops_scanned q ls rest

-- the grammar's machine goes through the tokens after the loops to the end
pub back_scanned : (p z : ℕ) → scan in_program (tokens_at p back_parts ++ g.token g.the_end z ∷ []) ≡ whole
back_scanned p z = refl
