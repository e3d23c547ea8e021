-- Steps in what stands among its own tokens: each variable that is stepped occurs once.
use Rattle.std.proofs.Common.{◌≤◌, ◌+◌, ℕ, Bool, true, IsTrue, List, [], ◌∷◌, Some, refl, arith, nat_le, eq-eqb, le-leb, leb-true}
use Rattle.std.specs.Prelude.{◌==◌}
use Rattle.std.proofs.lemmas.Bool.{and_from}
use Rattle.source_grammar.specs.Tokens.{Token}
use Rattle.source_tree.specs.Expressions.{Operation, Expression, Expressions, variable, joined, none, more}
use Rattle.source_tree.specs.Statements.{sets, evaluates}
use Rattle.source_core.specs.Laws.{occurrences, occurrences_in, all_steps, all_steps_in, are_steps_certain}
use Rattle.source_core.specs.Laws.{are_steps_certain_in, steps_apart}
use Rattle.source_core.specs.RunLaws.{is_change_apart}
use Rattle.source_core.proofs.expressions.Apart.{occurs_in, all_steps-join, all_in-join}
use Rattle.source_core.proofs.expressions.Occurring.{steps_occur, steps_occur_in}
use Rattle.source_meaning.specs.Names.{State, among}
use Rattle.source_meaning.proofs.names.Counted.{Counted, standing, counted_more, counted_then, counted_within, is_single, single_once}
use Rattle.source_meaning.proofs.expressions.Apart.{Stands, may_step, Apart, ApartIn}

-- tokens in which each name stands as often have room for what stands in others
pub stands_within : {st : State} {us : List Token} {c : ℕ → ℕ} {s a : Bool} → (ts : List Token) → Stands st us c s a
    → ((x : List ℕ) → standing x us ≤ standing x ts) → Stands st ts c s a
stands_within {st = st} {us = us} {c = c} ts p w = record {
  counted = counted_within st.variables us ts c p.counted w;
  single = p.single;
  sure = p.sure;
}

-- one expression alone
pub one_apart : (st : State) (ts : List Token) (e : Expression) → Apart st ts e → ApartIn st ts (more e none)
one_apart st ts e p = record {
  counted = λ i x k. let l = p.counted i x k in omega (arith, l);
  single = and_from (all_steps (may_step st) e) true p.single refl;
  sure = and_from (are_steps_certain e) true p.sure refl;
}

-- each step passes a test that a variable passes which occurs there and is counted once
steps_pass : (vs : List (List ℕ)) (ts : List Token) (c : ℕ → ℕ) → Counted vs ts c → (test : ℕ → Bool) (e : Expression)
    → ((i : ℕ) → 1 ≤ occurrences i e → c i ≤ 1 → IsTrue (test i)) → IsTrue (all_steps (λ i. is_single vs (Some ts) i) e)
    → IsTrue (all_steps test e)
steps_pass vs ts c h test e f k =
    let occurs : ℕ → Bool = λ i. nat_le 1 (occurrences i e) in
    all_steps-join (λ i. is_single vs (Some ts) i) occurs test
    (λ i t l. f i (leb-true 1 (occurrences i e) l) (single_once vs ts c h i t)) e k
    (steps_occur occurs e (λ i l. le-leb 1 (occurrences i e) l))

-- an expression among its own tokens
pub apart_alone : (st : State) (ts : List Token) (e : Expression) → Apart (among ts st) ts e → IsTrue (steps_apart e)
apart_alone st ts e p =
    let test : ℕ → Bool = λ i. occurrences i e == 1 in
    and_from (all_steps test e) (are_steps_certain e)
    (steps_pass st.variables ts (λ i. occurrences i e) p.counted test e
    (λ i l m. eq-eqb (occurrences i e) 1 (omega (arith, l, m))) p.single)
    p.sure

-- expressions together
pub apart_together : (st : State) (ts : List Token) (es : Expressions) (line : ℕ) → ApartIn (among ts st) ts es
    → IsTrue (is_change_apart (evaluates es line))
apart_together st ts es line p =
    let test : ℕ → Bool = λ i. occurrences_in i es == 1 in
    let occurs : ℕ → Bool = λ i. nat_le 1 (occurrences_in i es) in
    and_from (all_steps_in test es) (are_steps_certain_in es)
    (all_in-join (may_step (among ts st)) occurs test
    (λ i t l. let m = single_once st.variables ts (λ j. occurrences_in j es) p.counted i t in
    let k = leb-true 1 (occurrences_in i es) l in eq-eqb (occurrences_in i es) 1 (omega (arith, k, m)))
    es p.single (steps_occur_in occurs es (λ i l. le-leb 1 (occurrences_in i es) l)))
    p.sure

-- what a variable is set to, this counted, too
abbrev pub ApartBeside : State → List Token → (var : ℕ) → Expression → Type 0
ApartBeside st ts var e = Stands st ts (λ i. occurs_in i var + occurrences i e) (all_steps (may_step st) e) (are_steps_certain e)

-- its token stands before the sign and what it is set to
pub apart_beside : (st : State) (x t : Token) (us : List Token) (var : ℕ) (e : Expression)
    → Counted st.variables (x ∷ []) (λ i. occurs_in i var) → Apart st us e → ApartBeside st (x ∷ t ∷ us) var e
apart_beside st x t us var e k p = record {
  counted = counted_then st.variables (x ∷ []) (t ∷ us) (λ i. occurs_in i var) (λ i. occurrences i e) k
      (counted_more st.variables t us (λ i. occurrences i e) p.counted);
  single = p.single;
  sure = p.sure;
}

-- a variable is set
pub apart_set : (st : State) (ts : List Token) (var : ℕ) (e : Expression) (line : ℕ) → ApartBeside (among ts st) ts var e
    → IsTrue (is_change_apart (sets var e line))
apart_set st ts var e line p =
    let test : ℕ → Bool = λ i. occurs_in i var + occurrences i e == 1 in
    and_from (all_steps test e) (are_steps_certain e)
    (steps_pass st.variables ts (λ i. occurs_in i var + occurrences i e) p.counted test e
    (λ i l m. eq-eqb (occurs_in i var + occurrences i e) 1 (omega (arith, l, m))) p.single)
    p.sure

-- a variable is set to what is made of its old value
pub apart_changed : (st : State) (ts : List Token) (var : ℕ) (o : Operation) (sign at : ℕ) (e : Expression) (line : ℕ)
    → ApartBeside (among ts st) ts var e
    → IsTrue (is_change_apart (sets var (joined o sign (variable var at) e) line))
apart_changed st ts var o sign at e line p =
    let test : ℕ → Bool = λ i. occurs_in i var + (occurs_in i var + occurrences i e) == 1 in
    and_from (all_steps test e) (are_steps_certain e)
    (steps_pass st.variables ts (λ i. occurs_in i var + occurrences i e) p.counted test e
    (λ i l m. eq-eqb (occurs_in i var + (occurs_in i var + occurrences i e)) 1 (omega (arith, l, m))) p.single)
    p.sure
