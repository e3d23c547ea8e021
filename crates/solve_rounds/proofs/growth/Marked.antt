-- The numbers that are marked.
use Rattle.std.proofs.Common.{◌≡◌, ◌∙◌, inl, inr, ⊎_elim, ℕ, zero, suc, ◌+◌, ◌*◌, ◌<◌, Bool, true, false, true≢false, List, [], ◌∷◌}
use Rattle.std.proofs.Common.{◌++◌, get_or, length, map, refl, sym, ap, ap₂, arith, if◌then◌else◌}
use Rattle.std.specs.Prelude.{replicate}
use Rattle.std.specs.List.{range_with_len, filter}
use Rattle.std.proofs.lemmas.List.{append-nil, get_or-replicate, length-replicate}
use Rattle.std.proofs.lemmas.List.Elements.{filter-append}
use Rattle.base_facts.specs.Elements.{In}
use Rattle.base_facts.proofs.elements.Membership.{in_range}
use Rattle.flow_systems.specs.declared.system.System.{System}
use Rattle.cert_types.specs.declared.step.Step.{Step as CodeStep}
use Rattle.cert_types.specs.Certificates.{step_of}
use Rattle.theory_strategy.specs.Growth.{items_of}
use Rattle.solve_rounds.specs.declared.growing.Growing.{Growing}
use Rattle.solve_rounds.specs.GrowthTests.{is_named}
use Rattle.solve_rounds.specs.Growth.{named_at}
use Rattle.solve_rounds.specs.Growing.{steps_so_far, IsKept, IsFresh, marked_numbers}
use Rattle.solve_rounds.proofs.growing.Walked.{range-append}

-- one more number, which is marked or not
marked_more : (raised : List Bool) (k : ℕ) → marked_numbers raised (k + 1)
    ≡ marked_numbers raised k ++ filter (λ u. get_or raised u false) (k ∷ [])
marked_more raised k =
    ap (filter (λ u. get_or raised u false)) (range-append 0 k 1 ∙ ap (λ j. range_with_len 0 k ++ range_with_len j 1)
    (let e : 0 + k ≡ k = omega arith in e))
    ∙ filter-append (λ u. get_or raised u false) (range_with_len 0 k) (k ∷ [])

-- a marked number extends the marked numbers
pub marked_yes : (raised : List Bool) (k : ℕ) → get_or raised k false ≡ true
    → marked_numbers raised (k + 1) ≡ marked_numbers raised k ++ k ∷ []
marked_yes raised k e = marked_more raised k ∙ ap (λ b. marked_numbers raised k ++ (if b then k ∷ [] else [])) e

-- a number without a mark leaves the marked numbers as they are
pub marked_no : (raised : List Bool) (k : ℕ) → get_or raised k false ≡ false → marked_numbers raised (k + 1) ≡ marked_numbers raised k
marked_no raised k e = marked_more raised k ∙ ap (λ b. marked_numbers raised k ++ (if b then k ∷ [] else [])) e
    ∙ append-nil (marked_numbers raised k)

-- a number that is kept is one of a filtered list
in_filter : (p : ℕ → Bool) (xs : List ℕ) (x : ℕ) → In xs x → p x ≡ true → In (filter p xs) x
in_filter p [] x m e = m
in_filter p (y ∷ xs) x m e = by (p y) refl (λ h. in_filter p xs x h e)
  where
    by : (b : Bool) → p y ≡ b → (In xs x → In (filter p xs) x) → In (if b then y ∷ filter p xs else filter p xs) x
    by true f rest = ⊎_elim (λ h. inl h) (λ h. inr (rest h)) m
    by false f rest = ⊎_elim (λ h. absurd (true≢false (sym e ∙ ap p (sym h) ∙ f))) rest m

-- a mark that is there is one of the list
marked_within : (marks : List Bool) (k : ℕ) → get_or marks k false ≡ true → k < length marks
marked_within [] k e = absurd (true≢false (sym e))
marked_within (m ∷ marks) zero e = omega arith
marked_within (m ∷ marks) (suc k) e = (let l = marked_within marks k e in omega arith)

-- a number that isn't listed isn't marked
pub unlisted_unmarked : (raised : List Bool) (u : ℕ) → (In (marked_numbers raised (length raised)) u → ⊥) → get_or raised u false ≡ false
unlisted_unmarked raised u none = by (get_or raised u false) refl
  where
    by : (b : Bool) → get_or raised u false ≡ b → get_or raised u false ≡ false
    by false e = e
    by true e =
        let l = marked_within raised u e in
        absurd (none (in_filter (λ k. get_or raised k false) (range_with_len 0 (length raised)) u
        (in_range 0 (length raised) u (omega arith) (omega (arith, l))) e))

filter_same : (p q : ℕ → Bool) (a n : ℕ) → ((u : ℕ) → u < a + n → p u ≡ q u) → filter p (range_with_len a n) ≡ filter q (range_with_len a n)
filter_same p q a zero h = refl
filter_same p q a (suc n) h = ap₂ (λ b l. if b then a ∷ l else l) (h a (omega arith))
    (filter_same p q (a + 1) n (λ u l. h u (omega (arith, l))))

-- the marked numbers are those that the steps name
pub marked_are_named : (system : System) (growing : Growing) → IsKept system growing
    → marked_numbers growing.raised.items (length growing.raised.items) ≡ named_at system (steps_so_far system growing)
marked_are_named system growing kept =
    ap (marked_numbers growing.raised.items) kept.raised
    ∙ filter_same (λ u. get_or growing.raised.items u false) (is_named (length system.template) (items_of (steps_so_far system growing))) 0
    (length system.flow.points * length system.template) (λ u l. kept.named u (omega (arith, l)))

none_marked : (n : ℕ) → filter (λ (marked : Bool). marked) (replicate n false) ≡ []
none_marked zero = refl
none_marked (suc n) = none_marked n

-- before anything is raised everything is kept
pub kept_fresh : (system : System) (growing : Growing) → length growing.bounds ≡ length system.flow.points * length system.template
    → IsFresh system growing → IsKept system growing
unfolding items_of
kept_fresh system growing size fresh = record {
  bounds = size;
  raised = ap (λ l. length l) fresh.raised ∙ length-replicate (length system.flow.points * length system.template) false;
  named = λ u l.
      ap (λ m. get_or m u false) fresh.raised ∙ get_or-replicate (length system.flow.points * length system.template) u false false l
      ∙ sym (ap (λ (steps : List CodeStep). is_named (length system.template) (items_of (map (step_of (length system.template)) steps)) u)
      fresh.steps);
  count = ap (λ l. length l) fresh.steps ∙ sym (ap (λ m. length (filter (λ (marked : Bool). marked) m)) fresh.raised
      ∙ ap (λ (l : List Bool). length l) (none_marked (length system.flow.points * length system.template)));
}
