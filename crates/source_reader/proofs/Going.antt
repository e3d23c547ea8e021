-- How readers go on.
use Rattle.std.proofs.Common.{◌≡◌, ◌∙◌, ◌≤◌, ◌<◌, List, [], ◌∷◌, length, Some, refl, ap, arith}
use Rattle.source_grammar.specs.Tokens.{other_sign, Token}
use Rattle.source_reader.specs.declared.mark.Mark.{Mark}
use Rattle.source_reader.specs.Marks.{mark_in}
use Rattle.source_reader.specs.Reading.{Reading, behind_first, first_kind, passed, GoesOn}

-- behind a token there are no more than with it
pub behind_fewer : (ts : List Token) → length (behind_first ts) ≤ length ts
behind_fewer [] = omega arith
behind_fewer (t ∷ ts) = omega arith

-- and fewer, where there is one that stands in functions
pub behind_less : (ts : List Token) → (first_kind ts ≡ other_sign → ⊥) → length (behind_first ts) < length ts
behind_less [] h = absurd (h refl)
behind_less (t ∷ ts) h = omega arith

-- a mark stands in functions
pub mark_less : (m : Mark) (ts : List Token) → mark_in (first_kind ts) ≡ Some m → length (behind_first ts) < length ts
mark_less m [] h = absurd cc
mark_less m (t ∷ ts) h = omega arith

-- a reader that stays goes on
pub stays : (r : Reading) → GoesOn r r
stays r = record { text = refl; variables = refl; integers = refl; fewer = omega arith }

-- so does one that is the same
pub same_goes : (r s : Reading) → s ≡ r → GoesOn r s
same_goes r s e = record {
  text = ap (λ (r : Reading). r.text) e;
  variables = ap (λ (r : Reading). r.variables) e;
  integers = ap (λ (r : Reading). r.integers) e;
  fewer = let l : length s.ahead ≡ length r.ahead = ap (λ (r : Reading). length r.ahead) e in omega (arith, l);
}

-- one that goes on twice goes on
pub goes_then : (r s t : Reading) → GoesOn r s → GoesOn s t → GoesOn r t
goes_then r s t g h = record {
  text = h.text ∙ g.text;
  variables = h.variables ∙ g.variables;
  integers = h.integers ∙ g.integers;
  fewer = omega (arith, g.fewer, h.fewer);
}

-- one that passes a token goes on
pub passed_goes : (r s : Reading) → s ≡ passed r → GoesOn r s
passed_goes r s e = record {
  text = ap (λ (r : Reading). r.text) e;
  variables = ap (λ (r : Reading). r.variables) e;
  integers = ap (λ (r : Reading). r.integers) e;
  fewer = let l : length s.ahead ≡ length (behind_first r.ahead) = ap (λ (r : Reading). length r.ahead) e in
      let k = behind_fewer r.ahead in omega (arith, l, k);
}
