-- The place of a name among the names of points.
use Rattle.std.proofs.Common.{◌≡◌, ◌∙◌, ℕ, ◌+◌, ◌<◌, ◌≤◌, true, false, List, cond, length, get_or, drop, sym, ap}
use Rattle.std.specs.Prelude.{Some, None}
use Rattle.std.specs.List.{position_from}
use Rattle.std.specs.Str.{bytes_eq}
use Rattle.std.proofs.lemmas.List.{at_drop_more, at_drop_all}
use Rattle.std.proofs.lemmas.Iterator.Adapters.{position_from-zero}
use Rattle.lang_meaning.specs.Names.{place_of}
use Rattle.flow_transitions.specs.declared.reading.point_name.PointName.{PointName}
use Rattle.flow_transitions.specs.AutoReading.{names_of}

-- the place is that among the points from number i on
abbrev pub IsPlaced : List ℕ → List PointName → ℕ → Type 0
IsPlaced name points i = place_of name (names_of points) ≡ position_from (bytes_eq name) i (names_of (drop i points))

-- before the first point the place is that among all of them
pub placed_none : (name : List ℕ) (points : List PointName) → IsPlaced name points 0
placed_none name points = position_from-zero (bytes_eq name) (names_of points)

-- one point on
rest_at : (name : List ℕ) (points : List PointName) (i : ℕ) (p : PointName) → i < length points → p ≡ get_or points i p →
    position_from (bytes_eq name) i (names_of (drop i points)) ≡ cond (bytes_eq name p.name) (Some i)
    (position_from (bytes_eq name) (i + 1) (names_of (drop (i + 1) points)))
rest_at name points i p l e =
    at_drop_more (λ ps. position_from (bytes_eq name) i (names_of ps)) points i p l
    ∙ ap (λ (q : PointName). cond (bytes_eq name q.name) (Some i) (position_from (bytes_eq name) (i + 1) (names_of (drop (i + 1) points))))
    (sym e)

-- a point of this name, behind others of other names, gives the place
pub placed_here : (name : List ℕ) (points : List PointName) (i : ℕ) (p : PointName) → i < length points → p ≡ get_or points i p
    → bytes_eq name p.name ≡ true →
    IsPlaced name points i → place_of name (names_of points) ≡ Some i
placed_here name points i p l e t h =
    h ∙ rest_at name points i p l e ∙ ap (λ b. cond b (Some i) (position_from (bytes_eq name) (i + 1) (names_of (drop (i + 1) points)))) t

-- a point of another name leaves the place to those behind it
pub placed_more : (name : List ℕ) (points : List PointName) (i : ℕ) (p : PointName) → i < length points → p ≡ get_or points i p
    → bytes_eq name p.name ≡ false →
    IsPlaced name points i → IsPlaced name points (i + 1)
placed_more name points i p l e t h =
    h ∙ rest_at name points i p l e ∙ ap (λ b. cond b (Some i) (position_from (bytes_eq name) (i + 1) (names_of (drop (i + 1) points)))) t

-- behind the last point there is no place
pub placed_all : (name : List ℕ) (points : List PointName) (i : ℕ) → length points ≤ i → IsPlaced name points i
    → place_of name (names_of points) ≡ None
placed_all name points i l h = h ∙ at_drop_all (λ ps. position_from (bytes_eq name) i (names_of ps)) points i l
