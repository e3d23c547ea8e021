-- Steps of the reading along the names of variables and points.
use Rattle.std.proofs.Common.{◌≡◌, ◌∙◌, ℕ, ◌+◌, ◌<◌, ◌≤◌, Bool, true, false, cond, List, [], ◌∷◌, ◌++◌, length, Ok, Err, refl, sym, ap}
use Rattle.std.specs.Prelude.{Some, None, nat_lt, nat_le}
use Rattle.std.proofs.lemmas.Bool.{lt-ltb, le-ltb, le-leb, lt-leb}
use Rattle.lang_tokens.specs.declared.token.Token.{Token}
use Rattle.flow_transitions.specs.declared.limits.TheConstants.{MOST_VARIABLES}
use Rattle.flow_transitions.specs.declared.limits.TheConstants.{MOST_POINTS}
use Rattle.lang_meaning.specs.declared.fault.ParseFault.TheVariants as parse
use Rattle.lang_meaning.specs.declared.fault.Limit.TheVariants.{Variables}
use Rattle.lang_meaning.specs.Names.{place_of}
use Rattle.flow_transitions.specs.declared.fault.AutoFault.{AutoFault}
use Rattle.flow_transitions.specs.declared.fault.AutoFault.TheVariants as fault
use Rattle.flow_transitions.specs.declared.reading.point_name.PointName.{PointName}
use Rattle.flow_transitions.specs.declared.reading.symbol.Symbol.{Symbol}
use Rattle.flow_transitions.specs.declared.reading.symbol.Symbol.TheVariants as symbol
use Rattle.flow_transitions.specs.AutoSymbols.{Seen, seen_at}
use Rattle.flow_transitions.specs.AutoReading.{progress, Progress, Stand, Stepped, at_variable, past_variable, at_points, at_point}
use Rattle.flow_transitions.specs.AutoReading.{past_point, at_edge}
use Rattle.flow_transitions.specs.AutoReading.{unexpected, unexpected_fault, going, if_name, variable_if, names_of, point_if, counted_then}
use Rattle.flow_transitions.specs.AutoReading.{behind_point}
use Rattle.flow_transitions.proofs.progress.Steps.{Goes, Fails, token_goes, token_fails, sign_goes, sign_fails}
use Rattle.flow_transitions.proofs.progress.Signs.{no_comma}

-- where the symbol is no name, the other result is taken
pub not_name : (s : Symbol) (here other : Stepped) → (s ≡ symbol.Name → ⊥) → if_name s here other ≡ other
not_name symbol.Name here other h = absurd (h refl)
not_name s here other h = refl

-- a choice of two steps by a test
chosen : {X : Type 0} (b : Bool) (x y : X) → b ≡ true → cond b x y ≡ x
chosen b x y e = ap (λ t. cond t x y) e

passed : {X : Type 0} (b : Bool) (x y : X) → b ≡ false → cond b x y ≡ y
passed b x y e = ap (λ t. cond t x y) e

module _ (text : List ℕ) (tokens : List Token) where
  abbrev there : ℕ → Seen
  there i = seen_at text tokens i

  -- ---- a variable
  module _ (names : List (List ℕ)) (i : ℕ) where
    abbrev at : List (List ℕ) → Stand → Progress
    at known stand = progress known [] [] stand

    -- where a variable has to stand, a token that is no name is unexpected
    pub variable_unnamed : (f : AutoFault) → f ≡ unexpected_fault (there i) → ((there i).symbol ≡ symbol.Name → ⊥)
        → Fails text tokens (at names at_variable) i f
    variable_unnamed f h n =
        token_fails text tokens (at names at_variable) i f refl
        (not_name (there i).symbol (variable_if (place_of (there i).bytes names) (at names at_variable) (there i)) (unexpected (there i)) n
        ∙ ap Err (sym h))

    named : (there i).symbol ≡ symbol.Name →
        if_name (there i).symbol (variable_if (place_of (there i).bytes names) (at names at_variable) (there i)) (unexpected (there i))
        ≡ variable_if (place_of (there i).bytes names) (at names at_variable) (there i)
    named w = ap (λ y. if_name y (variable_if (place_of (there i).bytes names) (at names at_variable) (there i)) (unexpected (there i))) w

    -- a variable whose name stands before it is refused
    pub variable_twice : (k : ℕ) (f : AutoFault) → (there i).symbol ≡ symbol.Name → place_of (there i).bytes names ≡ Some k
        → f ≡ fault.Parse (parse.NameTwice (there i).at) →
        Fails text tokens (at names at_variable) i f
    variable_twice k f w p h =
        token_fails text tokens (at names at_variable) i f refl (named w ∙ ap (λ o. variable_if o (at names at_variable) (there i)) p
        ∙ ap Err (sym h))

    -- a variable more than there may be is refused
    pub variable_limit : (f : AutoFault) → (there i).symbol ≡ symbol.Name → place_of (there i).bytes names ≡ None
        → MOST_VARIABLES ≤ length names →
        f ≡ fault.Parse (parse.Limit (there i).at Variables) → Fails text tokens (at names at_variable) i f
    variable_limit f w p l h =
        token_fails text tokens (at names at_variable) i f refl
        (named w ∙ ap (λ o. variable_if o (at names at_variable) (there i)) p
        ∙ passed (nat_lt (length names) MOST_VARIABLES) (Ok (at (names ++ (there i).bytes ∷ []) past_variable))
        (Err (fault.Parse (parse.Limit (there i).at Variables))) (le-ltb (length names) MOST_VARIABLES l)
        ∙ ap Err (sym h))

    -- a new variable, where there is room for it, is put behind the others
    pub variable_goes : (x : List ℕ) → x ≡ (there i).bytes → (there i).symbol ≡ symbol.Name → place_of (there i).bytes names ≡ None
        → length names < MOST_VARIABLES →
        Goes text tokens (at names at_variable) i (at (names ++ x ∷ []) past_variable) (i + 1)
    variable_goes x e w p l =
        token_goes text tokens (at names at_variable) (at (names ++ x ∷ []) past_variable) i refl
        (named w ∙ ap (λ o. variable_if o (at names at_variable) (there i)) p
        ∙ chosen (nat_lt (length names) MOST_VARIABLES) (Ok (at (names ++ (there i).bytes ∷ []) past_variable))
        (Err (fault.Parse (parse.Limit (there i).at Variables))) (lt-ltb (length names) MOST_VARIABLES l)
        ∙ ap (λ y. let s : Stepped = Ok (at (names ++ y ∷ []) past_variable) in s) (sym e))

    -- the sign behind it
    pub comma_goes : (comma : Bool) → (there i).symbol ≡ cond comma symbol.Comma symbol.Semicolon →
        Goes text tokens (at names past_variable) i (at names (cond comma at_variable at_points)) (i + 1)
    comma_goes true w = sign_goes text tokens (at names past_variable) i symbol.Comma at_variable refl (λ y. refl) w refl
    comma_goes false w = sign_goes text tokens (at names past_variable) i symbol.Semicolon at_points refl (λ y. refl) w refl

    -- behind a variable a token that is neither `,` nor `;` is unexpected
    pub comma_fails : (f : AutoFault) → f ≡ unexpected_fault (there i) → ((there i).symbol ≡ symbol.Comma → ⊥)
        → ((there i).symbol ≡ symbol.Semicolon → ⊥) → Fails text tokens (at names past_variable) i f
    comma_fails f h k l = sign_fails text tokens (at names past_variable) i f refl (λ y. refl) h
        (no_comma (there i).at (there i).symbol k l)

  -- ---- a point
  module _ (variables : List (List ℕ)) (points : List PointName) (i : ℕ) where
    abbrev on : List PointName → Stand → Progress
    on known stand = progress variables known [] stand

    -- where a point has to stand, a token that is no name is unexpected
    pub point_unnamed : (f : AutoFault) → f ≡ unexpected_fault (there i) → ((there i).symbol ≡ symbol.Name → ⊥)
        → Fails text tokens (on points at_point) i f
    point_unnamed f h n =
        token_fails text tokens (on points at_point) i f refl
        (not_name (there i).symbol (point_if (place_of (there i).bytes (names_of points)) (on points at_point) (there i))
        (unexpected (there i)) n ∙ ap Err (sym h))

    point_named : (there i).symbol ≡ symbol.Name →
        if_name (there i).symbol (point_if (place_of (there i).bytes (names_of points)) (on points at_point) (there i))
        (unexpected (there i)) ≡ point_if (place_of (there i).bytes (names_of points)) (on points at_point) (there i)
    point_named w = ap (λ y. if_name y (point_if (place_of (there i).bytes (names_of points)) (on points at_point) (there i))
        (unexpected (there i))) w

    -- a point whose name stands before it is refused
    pub point_twice : (k : ℕ) (f : AutoFault) → (there i).symbol ≡ symbol.Name → place_of (there i).bytes (names_of points) ≡ Some k
        → f ≡ fault.Parse (parse.NameTwice (there i).at) →
        Fails text tokens (on points at_point) i f
    point_twice k f w p h =
        token_fails text tokens (on points at_point) i f refl (point_named w ∙ ap (λ o. point_if o (on points at_point) (there i)) p
        ∙ ap Err (sym h))

    -- a new point is put behind the others, with its line
    pub point_goes : (x : List ℕ) (line : ℕ) → x ≡ (there i).bytes → line ≡ (there i).line → (there i).symbol ≡ symbol.Name
        → place_of (there i).bytes (names_of points) ≡ None →
        Goes text tokens (on points at_point) i (on (points ++ record { name = x; line = line } ∷ []) past_point) (i + 1)
    point_goes x line e l w p =
        token_goes text tokens (on points at_point) (on (points ++ record { name = x; line = line } ∷ []) past_point) i refl
        (point_named w ∙ ap (λ o. point_if o (on points at_point) (there i)) p
        ∙ ap (λ y. let q : PointName = record { name = y; line = (there i).line } in
        let s : Stepped = Ok (on (points ++ q ∷ []) past_point) in s) (sym e)
        ∙ ap (λ n. let q : PointName = record { name = x; line = n } in let s : Stepped = Ok (on (points ++ q ∷ []) past_point) in s)
        (sym l))

    -- the sign behind it
    pub more_points : (there i).symbol ≡ symbol.Comma → Goes text tokens (on points past_point) i (on points at_point) (i + 1)
    more_points w = token_goes text tokens (on points past_point) (on points at_point) i refl
        (ap (λ y. behind_point y (on points past_point) (there i)) w)

    no_more : (s : Symbol) → (s ≡ symbol.Comma → ⊥) → (s ≡ symbol.Semicolon → ⊥)
        → behind_point s (on points past_point) (there i) ≡ unexpected (there i)
    no_more symbol.Comma h k = absurd (h refl)
    no_more symbol.Semicolon h k = absurd (k refl)
    no_more s h k = refl

    -- behind a point a token that is neither `,` nor `;` is unexpected
    pub points_fail : (f : AutoFault) → f ≡ unexpected_fault (there i) → ((there i).symbol ≡ symbol.Comma → ⊥)
        → ((there i).symbol ≡ symbol.Semicolon → ⊥) → Fails text tokens (on points past_point) i f
    points_fail f h k l = token_fails text tokens (on points past_point) i f refl (no_more (there i).symbol k l ∙ ap Err (sym h))

    counted : (there i).symbol ≡ symbol.Semicolon → behind_point (there i).symbol (on points past_point) (there i)
        ≡ counted_then (length points) (going (on points past_point) at_edge)
    counted w = ap (λ y. behind_point y (on points past_point) (there i)) w

    -- a `;` behind as many points as there may be leads on to the edges
    pub points_counted : (there i).symbol ≡ symbol.Semicolon → 2 ≤ length points → length points ≤ MOST_POINTS
        → Goes text tokens (on points past_point) i (on points at_edge) (i + 1)
    points_counted w h k =
        let next : Stepped = going (on points past_point) at_edge in
        let refused : Stepped = Err (fault.Points (length points)) in
        token_goes text tokens (on points past_point) (on points at_edge) i refl
        (counted w ∙ chosen (nat_le 2 (length points)) (cond (nat_le (length points) MOST_POINTS) next refused) refused
        (le-leb 2 (length points) h)
        ∙ chosen (nat_le (length points) MOST_POINTS) next refused (le-leb (length points) MOST_POINTS k))

    -- a `;` behind fewer than two points is refused with their number
    pub few_points : (f : AutoFault) → (there i).symbol ≡ symbol.Semicolon → length points < 2 → f ≡ fault.Points (length points)
        → Fails text tokens (on points past_point) i f
    few_points f w h e =
        let next : Stepped = going (on points past_point) at_edge in
        let refused : Stepped = Err (fault.Points (length points)) in
        token_fails text tokens (on points past_point) i f refl
        (counted w ∙ passed (nat_le 2 (length points)) (cond (nat_le (length points) MOST_POINTS) next refused) refused
        (lt-leb 2 (length points) h) ∙ ap Err (sym e))

    -- a `;` behind too many points is refused with their number
    pub many_points : (f : AutoFault) → (there i).symbol ≡ symbol.Semicolon → 2 ≤ length points → MOST_POINTS < length points
        → f ≡ fault.Points (length points) → Fails text tokens (on points past_point) i f
    many_points f w l h e =
        let next : Stepped = going (on points past_point) at_edge in
        let refused : Stepped = Err (fault.Points (length points)) in
        token_fails text tokens (on points past_point) i f refl
        (counted w ∙ chosen (nat_le 2 (length points)) (cond (nat_le (length points) MOST_POINTS) next refused) refused
        (le-leb 2 (length points) l)
        ∙ passed (nat_le (length points) MOST_POINTS) next refused (lt-leb (length points) MOST_POINTS h) ∙ ap Err (sym e))
