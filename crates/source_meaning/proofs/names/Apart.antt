-- Names that are apart, the other way round.
use Rattle.std.proofs.Common.{◌≢◌, ℕ, List, [], ◌∷◌, ◌++◌, sym, subst, reverse}
use Rattle.std.proofs.lemmas.Grind.{reverse_onto}
use Rattle.source_meaning.specs.Laws.{IsNoneOf, AreApart}

none_behind : (x : List ℕ) (ys : List (List ℕ)) (y : List ℕ) → IsNoneOf x ys → x ≢ y → IsNoneOf x (ys ++ y ∷ [])
none_behind x [] y h d = (d, tt)
none_behind x (z ∷ zs) y h d = (h.0, none_behind x zs y h.1 d)

none_reversed : (x : List ℕ) (ys : List (List ℕ)) → IsNoneOf x ys → IsNoneOf x (reverse ys)
none_reversed x [] h = tt
none_reversed x (y ∷ ys) h = subst (IsNoneOf x) (sym (reverse_onto ys y [])) (none_behind x (reverse ys) y (none_reversed x ys h.1) h.0)

apart_behind : (ys : List (List ℕ)) (x : List ℕ) → AreApart ys → IsNoneOf x ys → AreApart (ys ++ x ∷ [])
apart_behind [] x h d = (tt, tt)
apart_behind (y ∷ ys) x h d = (none_behind y ys x h.0 (λ e. d.0 (sym e)), apart_behind ys x h.1 d.1)

-- names that are apart are apart the other way round
pub apart_reversed : (ys : List (List ℕ)) → AreApart ys → AreApart (reverse ys)
apart_reversed [] h = tt
apart_reversed (y ∷ ys) h =
    subst AreApart (sym (reverse_onto ys y [])) (apart_behind (reverse ys) y (apart_reversed ys h.1) (none_reversed y ys h.0))
