-- Expressions that group as they must have the shapes that they may have.
use Rattle.std.proofs.Common.{◌≡◌, ◌≤◌, ℕ, zero, suc, List, Option, Some, None, refl, arith}
use Rattle.lang_grammar.specs.Grammar.{Relation, equal, unequal, less, at_most, greater, at_least, relation_level}
use Rattle.lang_grammar.specs.Grammar.{or_op, and_op, compare_op, plus_op, minus_op, times_op}
use Rattle.lang_grammar.specs.Grammar.{Expr, number, variable, free, grouped, prefixed, joined, Groups}
use Rattle.lang_meaning.specs.Names.{place_of}
use Rattle.lang_groups.specs.Shapes.{Fits}
use Rattle.flow_transitions.specs.AutoGroups.{at_place, shape_of}

-- how tightly a sign holds that may stand at a level of shapes
abbrev tight : ℕ → ℕ
tight zero = 0
tight (suc zero) = 2
tight (suc (suc k)) = 4

tight_few : (k : ℕ) → tight k ≤ 6
tight_few zero = omega arith
tight_few (suc zero) = omega arith
tight_few (suc (suc k)) = omega arith

-- the levels at which a sign may stand that is looser than a comparison, and at which one may that is a comparison
looser : (k : ℕ) → tight k ≤ 1 → k ≡ 0
looser zero h = refl
looser (suc zero) h = absurd (omega (arith, h))
looser (suc (suc k)) h = absurd (omega (arith, h))

comparing : (k : ℕ) → tight k ≤ 3 → k ≤ 1
comparing zero h = omega arith
comparing (suc zero) h = omega arith
comparing (suc (suc k)) h = absurd (omega (arith, h))

relation_tight : (r : Relation) → 2 ≤ relation_level r
relation_tight equal = omega arith
relation_tight unequal = omega arith
relation_tight less = omega arith
relation_tight at_most = omega arith
relation_tight greater = omega arith
relation_tight at_least = omega arith

relation_loose : (r : Relation) → relation_level r ≤ 3
relation_loose equal = omega arith
relation_loose unequal = omega arith
relation_loose less = omega arith
relation_loose at_most = omega arith
relation_loose greater = omega arith
relation_loose at_least = omega arith

-- a name stands at every level
pub place_fits : (o : Option ℕ) (k : ℕ) → Fits k (at_place o)
place_fits (Some x) k = tt
place_fits None k = tt

-- an expression stands where each of its signs may
pub fits : (names : List (List ℕ)) (e : Expr) (l k : ℕ) → Groups l e → tight k ≤ l → Fits k (shape_of names e)
fits names (number n a) l k g h = tt
fits names (variable x a) l k g h = place_fits (place_of x names) k
fits names (free a b c) l k g h = tt
fits names (grouped a e b) l k g h = fits names e 0 0 g (omega arith)
fits names (prefixed p a e) l k g h = fits names e 6 k g (tight_few k)
fits names (joined e or_op a f) l k g h =
    (looser k (let m = g.0 in omega (arith, h, m)), fits names e 0 0 g.1 (omega arith), fits names f 1 0 g.2 (omega arith))
fits names (joined e and_op a f) l k g h =
    (looser k (let m = g.0 in omega (arith, h, m)), fits names e 1 0 g.1 (omega arith), fits names f 2 0 g.2 (omega arith))
fits names (joined e (compare_op r) a f) l k g h =
    let low = relation_tight r in (
      comparing k (let m = g.0 in let n = relation_loose r in omega (arith, h, m, n)),
      fits names e (relation_level r) 1 g.1 low,
      fits names f (suc (relation_level r)) 1 g.2 (omega (arith, low)),
    )
fits names (joined e plus_op a f) l k g h = (fits names e 4 2 g.1 (omega arith), fits names f 5 2 g.2 (omega arith))
fits names (joined e minus_op a f) l k g h = (fits names e 4 2 g.1 (omega arith), fits names f 5 2 g.2 (omega arith))
fits names (joined e times_op a f) l k g h = (fits names e 5 2 g.1 (omega arith), fits names f 6 2 g.2 (omega arith))

-- a whole expression
pub whole_fits : (names : List (List ℕ)) (e : Expr) → Groups 0 e → Fits 0 (shape_of names e)
whole_fits names e g = fits names e 0 0 g (omega arith)
