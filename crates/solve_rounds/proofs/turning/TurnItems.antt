-- The items of a turn, one after the other.
use Rattle.std.proofs.Common.{◌≡◌, inl, inr, ⊎_elim, ℕ, zero, suc, ◌+◌, ◌<◌, List, [], ◌∷◌, ◌++◌, length, map, get_or, refl, sym, ap₂}
use Rattle.std.proofs.Common.{subst, arith}
use Rattle.std.specs.List.{range_with_len}
use Rattle.std.proofs.lemmas.List.{get_or-map, length-map}
use Rattle.std.proofs.lemmas.List.FromFn.{map-range_with_len_more}
use Rattle.base_facts.specs.Elements.{In}
use Rattle.base_numbers.specs.Rational.{ℚ, zero_ℚ}
use Rattle.flow_systems.specs.declared.trace.Trace.{Trace}
use Rattle.cert_types.specs.declared.step.Step.{Step as CodeStep}
use Rattle.cert_types.specs.declared.step.JumpItem.{JumpItem}
use Rattle.solve_rounds.specs.Lows.{no_trace, edge_in, low_in, raise_at}
use Rattle.solve_rounds.specs.Turning.{jump_item_at}

-- the item at a place
pub jump_item_here : (raises : List CodeStep) (places list : List ℕ) (to : List ℚ) (highs : List Trace) (k : ℕ) (q : ℚ) (high : Trace)
    → q ≡ get_or to k zero_ℚ → high ≡ get_or highs k no_trace →
    jump_item_at raises places (get_or list k 0 ∷ []) (q ∷ []) (high ∷ []) 0 ≡ jump_item_at raises places list to highs k
jump_item_here raises places list to highs k q high e f =
    ap₂ (λ (x : ℚ) (h : Trace). let i : JumpItem = record {
      unknown = get_or list k 0;
      edge = edge_in (raise_at raises places (get_or list k 0));
      low = low_in (raise_at raises places (get_or list k 0));
      high = h;
      to = x;
    } in i) e f

-- one item more
pub jump_items_more : (raises : List CodeStep) (places list : List ℕ) (to : List ℚ) (highs : List Trace) (k : ℕ) →
    map (jump_item_at raises places list to highs) (range_with_len 0 (k + 1))
    ≡ map (jump_item_at raises places list to highs) (range_with_len 0 k) ++ jump_item_at raises places list to highs k ∷ []
jump_items_more raises places list to highs k = map-range_with_len_more (jump_item_at raises places list to highs) 0 k k (omega arith)

-- an element stands at a place
pub place_of : {A : Type 0} (xs : List A) (x d : A) → In xs x → (k : ℕ) × (k < length xs) × (get_or xs k d ≡ x)
place_of [] x d m = absurd m
place_of (y ∷ xs) x d m = ⊎_elim (λ e. (0, omega arith, e)) (λ j. let r = place_of xs x d j in (suc r.0, (let l = r.1 in omega arith), r.2))
    m

-- and what stands at a place is an element
pub in_place : {A : Type 0} (xs : List A) (d : A) (k : ℕ) → k < length xs → In xs (get_or xs k d)
in_place [] d k l = absurd (omega arith)
in_place (x ∷ xs) d zero l = inl refl
in_place (x ∷ xs) d (suc k) l = inr (in_place xs d k (omega arith))

-- what holds of each of a list holds of the unknowns of others in it
pub each_unknown : {X : Type 0} (P : ℕ → Type 0) (f : X → ℕ) (xs : List X) (d : X) (list : List ℕ)
    → ((k : ℕ) → k < length list → P (get_or list k 0)) → ((x : X) → In xs x → In list (f x)) →
    (k : ℕ) → k < length (map f xs) → P (get_or (map f xs) k 0)
each_unknown P f xs d list h within k l =
    let k_in : k < length xs = subst (λ n. k < n) (length-map xs f) l in
    let p = place_of list (f (get_or xs k d)) 0 (within (get_or xs k d) (in_place xs d k k_in)) in
    subst P (sym (get_or-map f xs k d 0 k_in)) (subst P p.2 (h p.0 p.1))
