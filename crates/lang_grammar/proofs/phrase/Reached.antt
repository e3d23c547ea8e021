-- How far the machine reaches, token by token.
use Rattle.std.proofs.Common.{◌≡◌, ◌∙◌, ◌+◌, ℕ, zero, suc, List, ◌∷◌, refl, ap, arith, Bool, true, false}
use Rattle.lang_grammar.specs.Grammar.{Kind, Token, token}
use Rattle.lang_grammar.specs.Machine.{Goal}
use Rattle.lang_grammar.specs.Verdicts.{verdict, Verdict, goes, refused, too_deep}
use Rattle.lang_grammar.specs.Expressions.{Reach, reaches, runs_out, stops_at, nests_at}
use Rattle.lang_grammar.specs.Reaches.{ends_before, longer, longer_by, reach}

-- one token more at the last is one token more at first
pub longer_last : (n : ℕ) (x : Reach) → longer (longer_by n x) ≡ longer_by n (longer x)
longer_last zero x = refl
longer_last (suc n) x = longer_last n (longer x)

reaches_from : (n m : ℕ) → longer_by n (reaches m) ≡ reaches (n + m)
reaches_from zero m = ap reaches (omega arith)
reaches_from (suc n) m = reaches_from n (suc m) ∙ ap reaches (omega arith)

-- from no token on n more reach n
pub reaches_by : (n : ℕ) → longer_by n (reaches 0) ≡ reaches n
reaches_by n = reaches_from n 0 ∙ ap reaches (omega arith)

-- tokens that end too early do so with n more before them
pub out_by : (n : ℕ) → longer_by n runs_out ≡ runs_out
out_by zero = refl
out_by (suc n) = out_by n

-- tokens that stop at a place do so with n more before them
pub stops_by : (n a : ℕ) → longer_by n (stops_at a) ≡ stops_at a
stops_by zero a = refl
stops_by (suc n) a = stops_by n a

-- tokens that nest too deep at a place do so with n more before them
pub nests_by : (n a : ℕ) → longer_by n (nests_at a) ≡ nests_at a
nests_by zero a = refl
nests_by (suc n) a = nests_by n a

abbrev on_verdict : Verdict → ℕ → List Token → Reach
on_verdict v a ts = elim v as (λ x. Reach) [ goes next ↦ longer (reach next ts) | refused ↦ stops_at a | too_deep ↦ nests_at a ]

abbrev on_end : Bool → Verdict → ℕ → List Token → Reach
on_end b v a ts = elim b as (λ x. Reach) [ true ↦ reaches 0 | false ↦ on_verdict v a ts ]

-- before a token that ends the expression nothing more is reached
pub reach_ends : (gs : List Goal) (k : Kind) (a : ℕ) (ts : List Token) → ends_before gs k ≡ true → reach gs (token k a ∷ ts) ≡ reaches 0
reach_ends gs k a ts h = ap (λ (b : Bool). on_end b (verdict gs k) a ts) h

reach_by : (gs : List Goal) (k : Kind) (a : ℕ) (ts : List Token) (v : Verdict) → ends_before gs k ≡ false → verdict gs k ≡ v
    → reach gs (token k a ∷ ts) ≡ on_verdict v a ts
reach_by gs k a ts v h i = ap (λ (b : Bool). on_end b (verdict gs k) a ts) h ∙ ap (λ (x : Verdict). on_verdict x a ts) i

-- a token with which the machine goes on is one more
pub reach_goes : (gs next : List Goal) (k : Kind) (a : ℕ) (ts : List Token) → ends_before gs k ≡ false → verdict gs k ≡ goes next
    → reach gs (token k a ∷ ts) ≡ longer (reach next ts)
reach_goes gs next k a ts h i = reach_by gs k a ts (goes next) h i

-- a token that the machine refuses is where the reading stops
pub reach_stops : (gs : List Goal) (k : Kind) (a : ℕ) (ts : List Token) → ends_before gs k ≡ false → verdict gs k ≡ refused
    → reach gs (token k a ∷ ts) ≡ stops_at a
reach_stops gs k a ts h i = reach_by gs k a ts refused h i

-- a token that opens one construct too many is where the reading nests too deep
pub reach_nests : (gs : List Goal) (k : Kind) (a : ℕ) (ts : List Token) → ends_before gs k ≡ false → verdict gs k ≡ too_deep
    → reach gs (token k a ∷ ts) ≡ nests_at a
reach_nests gs k a ts h i = reach_by gs k a ts too_deep h i
