-- The names that have been met only grow, and behind a block those before it are known that were.
use Rattle.std.proofs.Common.{◌≡◌, ◌∙◌, ◌-◌, ◌++◌, ◌∷◌, ℕ, false, List, [], length, refl, sym, ap, append_assoc, arith}
use Rattle.std.proofs.lemmas.List.{append-nil, length-append}
use Rattle.source_meaning.specs.Names.{Named, State, forgotten, closed}
use Rattle.acsl_anchors.specs.Laws.{known_in}

-- the names of the second state are those of the first, behind newer ones
abbrev pub Grows : State → State → Type 0
Grows st now = (newer : List Named) × (now.names ≡ newer ++ st.names)

-- none more
pub grows_none : (st now : State) → now.names ≡ st.names → Grows st now
grows_none st now h = ([], h)

-- one behind the other
pub grows_then : (st now last : State) → Grows st now → Grows now last → Grows st last
grows_then st now last (xs, h) (ys, i) =
    (ys ++ xs, i ∙ ap (λ (l : List Named). ys ++ l) h ∙ sym (append_assoc ys xs st.names))

-- names that are no longer known
abbrev pub unknown : List Named → List Named
unknown [] = []
unknown (n ∷ ns) = record n { is_known = false } ∷ unknown ns

-- the newer ones are forgotten
forgotten_newer : (newer older : List Named) → forgotten (length newer) (newer ++ older) ≡ unknown newer ++ older
forgotten_newer [] older = refl
forgotten_newer (n ∷ ns) older = ap (λ (l : List Named). record n { is_known = false } ∷ l) (forgotten_newer ns older)

-- the names behind a block
pub closed_names : (st now : State) → (newer : List Named) → now.names ≡ newer ++ st.names
    → forgotten (length now.names - length st.names) now.names ≡ unknown newer ++ st.names
closed_names st now newer h =
    let count : length now.names - length st.names ≡ length newer =
    omega (arith, ap (λ (l : List Named). length l) h, length-append newer st.names) in
    ap (λ (k : ℕ). forgotten k now.names) count ∙ ap (λ (l : List Named). forgotten (length newer) l) h ∙ forgotten_newer newer st.names

-- none of those that are forgotten is known
known_older : (newer older : List Named) → known_in (unknown newer ++ older) ≡ known_in older
known_older [] older = refl
known_older (n ∷ ns) older = append-nil (known_in (unknown ns ++ older)) ∙ known_older ns older

-- Behind a block what was known before it is known.
pub closed_known : (st now : State) → Grows st now → known_in (closed (length st.names) now).names ≡ known_in st.names
closed_known st now (newer, h) =
    ap (λ (l : List Named). known_in l) (closed_names st now newer h) ∙ known_older newer st.names

-- and its names grow.
pub closed_grows : (st now : State) → Grows st now → Grows st (closed (length st.names) now)
closed_grows st now (newer, h) = (unknown newer, closed_names st now newer h)
