-- A generated text reads, and means its body.
use Rattle.std.proofs.Common.{◌≡◌, ◌≤◌, ◌+◌, ◌-◌, ◌*◌, ℕ, List, [], ◌∷◌, ◌++◌, length, map, min, None, Ok, refl, sym, ap, ◌∙◌, subst, arith}
use Rattle.std.specs.Prelude.{decimal}
use Rattle.std.proofs.lemmas.List.{append_assoc, append-nil, length-append, map-append}
use Rattle.base_limits.specs.declared.limits.TheConstants.{MOST_LOOPS, MOST_PROGRAM_BYTES, MOST_STATEMENTS}
use Rattle.lang_tokens.specs.declared.lexicon.Lexicon.TheVariants.{Own}
use Rattle.lang_tokens.specs.declared.token.Token as lex_token
use Rattle.lang_tokens.specs.Lines.{line_at}
use Rattle.lang_tokens.specs.declared.before.Before.TheVariants.{Blanks}
use Rattle.lang_tokens.specs.Reading.{spelling, tokens_from, end_at, Reads, piece_bytes}
use Rattle.lang_grammar.specs.Grammar as g
use Rattle.lang_grammar.specs.View.{tokens_of, token_of, plain_token, word_kind, sign_kind}
use Rattle.lang_grammar.specs.Machine.{start}
use Rattle.lang_grammar.specs.Verdicts.{scan}
use Rattle.lang_grammar.specs.Faults.{whole}
use Rattle.lang_grammar.proofs.faults.Scanned.{found_by}
use Rattle.lang_meaning.specs.Feed.{Outcome, feed, begin, result_of}
use Rattle.lang_meaning.specs.Walk.{followed_by}
use Rattle.lang_meaning.specs.Results.{◌>>=◌}
use Rattle.lang_meaning.specs.Meaning.{Means}
use Rattle.lang_feed.specs.Width.{total, mark}
use Rattle.lang_feed.proofs.counts.Counts.{total_append}
use Rattle.lang_feed.proofs.texts.Programs.{whole_is_read, read_means, read_width}
use Rattle.out_workload.specs.declared.draws.Loop.{Loop}
use Rattle.out_workload.specs.Draws.{following, loops_from}
use Rattle.out_workload.specs.Texts.{generated_text}
use Rattle.out_workload.specs.Bodies.{generated_names, generated_body, loops_body}
use Rattle.out_workload.proofs.bodies.Pieces.{Part, space, word, sign, letter, number, piece_of, spelled, spelled_is, spelled_append}
use Rattle.out_workload.proofs.bodies.Pieces.{all_fit, tokens_at, tokens_append, tokens_are}
use Rattle.out_workload.proofs.bodies.LineNumbers.{lines_of, lines_at, lines_are}
use Rattle.out_workload.proofs.draws.TextParts.{front_parts, back_parts, parts_of, loop_parts, loops_parts, text_parts, IsDrawn, AreDrawn}
use Rattle.out_workload.proofs.draws.TextParts.{are_drawn, count_drawn, text_spelled, text_stands, text_good, front_good}
use Rattle.out_workload.proofs.bodies.Decimals.{short_numeral}
use Rattle.out_workload.proofs.bodies.Machines.{machine_at, count_behind, front_nodes, front_fed, loops_fed, back_fed, front_scanned}
use Rattle.out_workload.proofs.bodies.Machines.{loops_scanned, back_scanned}
use Rattle.lang_tree.specs.declared.limits.TheConstants.{MOST_VARIABLES}

-- the tokens of the text that these loops make
abbrev pub lexed : List ℕ → List Loop → List lex_token.Token
lexed text ls = tokens_from 0 (map piece_of (text_parts ls)) ++ end_at (length text) ∷ []

text_reads : (text : List ℕ) (ls : List Loop) → AreDrawn ls → spelled (text_parts ls) ≡ text → Reads Own text (lexed text ls)
text_reads text ls d e =
    let pieces = map piece_of (text_parts ls) in
    let same : spelling pieces ≡ text = spelled_is (text_parts ls) ∙ e in
    record {
      front = tokens_from 0 pieces;
      whole = record {
        pieces = pieces;
        spelled = append-nil (spelling pieces) ∙ same;
        fit = all_fit Blanks (text_parts ls) [] refl (text_good ls d) (text_stands ls d);
        place = ap length same;
        told = refl;
      };
      told = refl;
    }

-- ---- what they are to the grammar
abbrev ended : List ℕ → List g.Token
ended text = g.token g.the_end (length text) ∷ []

-- the places after the front, and after the loops
abbrev front_end : ℕ
front_end = 0 + length (spelled front_parts)

abbrev loops_end : List Loop → ℕ
loops_end ls = front_end + length (spelled (loops_parts ls))

abbrev read_tokens : List ℕ → List Loop → List g.Token
read_tokens text ls = tokens_at 0 front_parts ++ (tokens_at front_end (loops_parts ls)
    ++ (tokens_at (loops_end ls) back_parts ++ ended text))

tokens_read : (text : List ℕ) (ls : List Loop) → spelled (text_parts ls) ≡ text → tokens_of text (lexed text ls) ≡ read_tokens text ls
tokens_read text ls e =
    let one : [] ++ (spelled (text_parts ls) ++ []) ≡ text = append-nil (spelled (text_parts ls)) ∙ e in
    map-append (token_of text) (tokens_from 0 (map piece_of (text_parts ls))) (end_at (length text) ∷ [])
    ∙ ap (λ (x : List g.Token). x ++ ended text)
    (tokens_are text [] [] 0 (text_parts ls) one refl
    ∙ tokens_append 0 front_parts (loops_parts ls ++ back_parts)
    ∙ ap (λ (x : List g.Token). tokens_at 0 front_parts ++ x) (tokens_append front_end (loops_parts ls) back_parts))
    ∙ append_assoc (tokens_at 0 front_parts) (tokens_at front_end (loops_parts ls) ++ tokens_at (loops_end ls) back_parts) (ended text)
    ∙ ap (λ (x : List g.Token). tokens_at 0 front_parts ++ x) (append_assoc (tokens_at front_end (loops_parts ls))
    (tokens_at (loops_end ls) back_parts) (ended text))

scanned : (text : List ℕ) (ls : List Loop) → scan start (read_tokens text ls) ≡ whole
scanned text ls =
    front_scanned (tokens_at front_end (loops_parts ls) ++ (tokens_at (loops_end ls) back_parts ++ ended text))
    ∙ loops_scanned front_end ls (tokens_at (loops_end ls) back_parts ++ ended text)
    ∙ back_scanned (loops_end ls) (length text)

-- ---- how many variables they declare
abbrev part_mark : Part → ℕ
part_mark (space b) = 0
part_mark (word w) = mark (word_kind w)
part_mark (sign s) = mark (sign_kind s)
part_mark (letter b) = 0
part_mark (number n bytes) = 0

abbrev marks : List Part → ℕ
marks [] = 0
marks (p ∷ ps) = part_mark p + marks ps

marked : (at : ℕ) (ps : List Part) → total mark (map plain_token (tokens_from at (map piece_of ps))) ≡ marks ps
marked at [] = refl
marked at (space b ∷ ps) = omega (arith, marked (at + 1) ps)
marked at (word w ∷ ps) = omega (arith, marked (at + length (piece_bytes (piece_of (word w)))) ps)
marked at (sign s ∷ ps) = omega (arith, marked (at + length (piece_bytes (piece_of (sign s)))) ps)
marked at (letter b ∷ ps) = omega (arith, marked (at + 1) ps)
marked at (number n bytes ∷ ps) = omega (arith, marked (at + length bytes) ps)

marks_append : (ps qs : List Part) → marks (ps ++ qs) ≡ marks ps + marks qs
marks_append [] qs = omega arith
marks_append (p ∷ ps) qs = omega (arith, marks_append ps qs)

loops_marks : (ls : List Loop) → marks (loops_parts ls) ≡ 0
loops_marks [] = refl
loops_marks (l ∷ ls) =
    let one : marks (loop_parts l) ≡ 0 = refl in
    omega (arith, marks_append (loop_parts l) (loops_parts ls), one, loops_marks ls)

text_marks : (ls : List Loop) → marks (text_parts ls) ≡ 4
text_marks ls =
    let front : marks front_parts ≡ 4 = refl in
    let back : marks back_parts ≡ 0 = refl in
    omega (
      arith,
      marks_append front_parts (loops_parts ls ++ back_parts),
      marks_append (loops_parts ls) back_parts,
      front,
      back,
      loops_marks ls,
    )

total_marks : (text : List ℕ) (ls : List Loop) → total mark (map plain_token (lexed text ls)) ≡ 4
total_marks text ls =
    let tokens = tokens_from 0 (map piece_of (text_parts ls)) in
    ap (λ (x : List g.Token). total mark x) (map-append plain_token tokens (end_at (length text) ∷ []))
    ∙ total_append mark (map plain_token tokens) (map plain_token (end_at (length text) ∷ []))
    ∙ omega (arith, marked 0 (text_parts ls), text_marks ls)

three_wide : (text : List ℕ) (ls : List Loop) → 3 ≡ min MOST_VARIABLES (total mark (map plain_token (lexed text ls)) - 1)
three_wide text ls = omega (arith, total_marks text ls)

-- ---- what they mean
abbrev behind_first : List g.Token → List g.Token
behind_first [] = []
behind_first (t ∷ ts) = ts

fed : (text : List ℕ) (ls : List Loop) → AreDrawn ls → 3 + 4 * length ls ≤ MOST_STATEMENTS → spelled (text_parts ls) ≡ text →
    (feed (line_at text) 3 (read_tokens text ls) begin >>= λ s. result_of s)
    ≡ Ok (generated_names, followed_by (front_nodes (lines_at 1 front_parts)) (loops_body 3 ls))
fed text ls d c e =
    let line = line_at text in
    let back = tokens_at (loops_end ls) back_parts ++ ended text in
    let split : spelled front_parts ++ (spelled (loops_parts ls) ++ spelled back_parts) ≡ text =
    sym (spelled_append front_parts (loops_parts ls ++ back_parts) ∙ ap (λ (x : List ℕ). spelled front_parts ++ x)
    (spelled_append (loops_parts ls) back_parts)) ∙ e in
    let lines : lines_of line (tokens_at 0 front_parts) ≡ lines_at 1 front_parts =
    lines_are text [] (spelled (loops_parts ls) ++ spelled back_parts) 0 1 front_parts front_good split refl refl in
    ap (λ (x : Outcome). x >>= λ s. result_of s)
    (front_fed line (tokens_at front_end (loops_parts ls) ++ back)
    ∙ ap (λ (y : List ℕ). feed line 3 (tokens_at front_end (loops_parts ls) ++ back) (machine_at 3 (front_nodes y))) lines
    ∙ loops_fed text (spelled front_parts) (spelled back_parts) front_end 3 ls d split refl refl 3 c (front_nodes (lines_at 1 front_parts))
    None (loops_end ls + 1 + 1) (behind_first back))
    ∙ back_fed line (loops_end ls) (count_behind 3 ls) (followed_by (front_nodes (lines_at 1 front_parts)) (loops_body 3 ls)) (length text)

text_means : (text : List ℕ) (ls : List Loop) → AreDrawn ls → 3 + 4 * length ls ≤ MOST_STATEMENTS → spelled (text_parts ls) ≡ text →
    Means text (tokens_of text (lexed text ls)) (Ok (generated_names, followed_by (front_nodes (lines_at 1 front_parts)) (loops_body 3 ls)))
text_means text ls d c e =
    let tokens = tokens_of text (lexed text ls) in
    let same = tokens_read text ls e in
    let scans : whole ≡ scan start tokens = sym (ap (λ (x : List g.Token). scan start x) same ∙ scanned text ls) in
    let read = whole_is_read tokens (found_by whole tokens scans) in
    let means = read_means text tokens 3 read (read_width text (lexed text ls) 3 read (three_wide text ls)) in
    subst (Means text tokens) (ap (λ (x : List g.Token). feed (line_at text) 3 x begin >>= λ s. result_of s) same ∙ fed text ls d c e) means

-- a generated text reads as the tokens of its parts
pub generated_reads : (seed loops : ℕ) → Reads Own (generated_text seed loops) (lexed (generated_text seed loops) (loops_from seed loops))
generated_reads seed loops = text_reads (generated_text seed loops) (loops_from seed loops) (are_drawn seed loops) (text_spelled seed loops)

-- the tokens of a generated text mean its body over a, b and c
pub generated_means : (seed loops : ℕ) → loops ≤ MOST_LOOPS → Means (generated_text seed loops)
    (tokens_of (generated_text seed loops) (lexed (generated_text seed loops) (loops_from seed loops)))
    (Ok (generated_names, generated_body seed loops))
generated_means seed loops h = text_means (generated_text seed loops) (loops_from seed loops) (are_drawn seed loops)
    (omega (arith, count_drawn seed loops)) (text_spelled seed loops)

-- ---- how long the text is
parts_length : (v w bound : ℕ) (bs : List ℕ) (step : ℕ) (ss : List ℕ) →
    length (spelled (parts_of v w bound bs step ss)) ≤ 56 + length bs + length ss
parts_length v w bound bs step ss = omega (arith, length-append {A = ℕ})

loop_length : (l : Loop) → IsDrawn l → length (spelled (loop_parts l)) ≤ 62
loop_length l d = let b = (short_numeral l.bound d.bound).short in let s = (short_numeral l.step (omega (arith, d.step))).short in
    omega (arith, parts_length l.variable (following l.variable) l.bound (decimal l.bound) l.step (decimal l.step))

loops_length : (ls : List Loop) → AreDrawn ls → length (spelled (loops_parts ls)) ≤ 62 * length ls
loops_length [] d = omega arith
loops_length (l ∷ ls) d = omega (
  arith,
  ap length (spelled_append (loop_parts l) (loops_parts ls)),
  length-append (spelled (loop_parts l)) (spelled (loops_parts ls)),
  loop_length l d.0,
  loops_length ls d.1,
)

-- a generated text is no longer than a program may be
pub generated_short : (seed loops : ℕ) → loops ≤ MOST_LOOPS → length (generated_text seed loops) ≤ MOST_PROGRAM_BYTES
generated_short seed loops h =
    let ls = loops_from seed loops in
    let front : length (spelled front_parts) ≡ 40 = refl in
    let back : length (spelled back_parts) ≡ 14 = refl in
    omega (
      arith,
      sym (ap length (text_spelled seed loops)),
      ap length (spelled_append front_parts (loops_parts ls ++ back_parts)),
      length-append (spelled front_parts) (spelled (loops_parts ls ++ back_parts)),
      ap length (spelled_append (loops_parts ls) back_parts),
      length-append (spelled (loops_parts ls)) (spelled back_parts),
      front,
      back,
      loops_length ls (are_drawn seed loops),
      count_drawn seed loops,
    )
