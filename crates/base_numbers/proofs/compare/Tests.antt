-- Tests that hold as types. For tests that answer `true` the library has the lemmas (`lemmas.Bool`: `cases_Bool`, `not-true`,
-- `and_parts`, `and_from`, `or_cases`, `or_left`, `eqb-true`, `eq-eqb`, `cases_eq` and more; `IsTrue b` is `b ≡ true`).
use Rattle.std.proofs.Common.{◌≡◌, ◌&&◌, Bool, true, false, T, refl, sym, subst}

-- a test that holds answers `true`
pub true_from_T : (b : Bool) → T b → b ≡ true
true_from_T true t = refl
true_from_T false t = absurd t

-- a test that answers `true` holds
pub T_from_true : (b : Bool) → b ≡ true → T b
T_from_true b e = subst T (sym e) tt

-- two tests that hold hold together
T_and_from : (a b : Bool) → T a → T b → T (a && b)
T_and_from true b p q = q
T_and_from false b p q = absurd p

-- where two tests hold together each of them holds
pub T_and_parts : (a b : Bool) → T (a && b) → T a × T b
T_and_parts true b p = (tt, p)
T_and_parts false b p = absurd p
