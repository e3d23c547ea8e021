-- A proved claim is true in every run.
use Rattle.std.proofs.Common.{◌≡◌, ◌∙◌, ◌⊎◌, inl, inr, ⊎_elim, zero, suc, true, false, [], refl, sym}
use Rattle.std.proofs.Common.{true≢false, arith}
use Rattle.std.specs.Prelude.{ℤ, pos, negsuc, ◌<ℤ◌, IsTrue}
use Rattle.std.proofs.lemmas.Bool.{and_parts}
use Rattle.std.proofs.lemmas.Int.{ints}
use Rattle.std.proofs.lemmas.List.{length-map}
use Rattle.base_numbers.specs.Rational.{whole}
use Rattle.lang_tree.specs.declared.cond.Rel.{Rel}
use Rattle.lang_tree.specs.declared.cond.Rel.TheVariants.{Eq, Ne, Lt, Le, Gt, Ge}
use Rattle.lang_tree.specs.Tree.{Condition, free, compare, negation, both, either}
use Rattle.lang_tree.specs.Meaning.{State, value, Relates, MayBe}
use Rattle.flow_systems.specs.States.{rational}
use Rattle.flow_systems.specs.Solutions.{equations_of_program}
use Rattle.flow_systems.proofs.states.Sizes.{run_size}
use Rattle.flow_systems.proofs.states.Soundness.{program_soundness}
use Rattle.ask_verdicts.proofs.laws.Held.{places_hold}
use Rattle.ask_claims.specs.Laws.{ProvedClaimsHold}
use Rattle.ask_claims.specs.Truth.{is_decided}

-- ---- a condition without choices is true or false
sign : (z : ℤ) → (z <ℤ pos 0) ⊎ ((z ≡ pos 0) ⊎ (pos 0 <ℤ z))
sign (pos zero) = inr (inl refl)
sign (pos (suc n)) = inr (inr (omega (arith, ints)))
sign (negsuc n) = inl (omega (arith, ints))

by_sign : (P : Type 0) (z : ℤ) → (z <ℤ pos 0 → P) → (z ≡ pos 0 → P) → (pos 0 <ℤ z → P) → P
by_sign P z below at above = ⊎_elim below (λ h. ⊎_elim at above h) (sign z)

relates : (rel : Rel) (z : ℤ) → Relates rel z ⊎ (¬ (Relates rel z))
relates Eq z = by_sign (Relates Eq z ⊎ (¬ (Relates Eq z))) z (λ b. inr (λ e. omega (arith, ints, b, e))) (λ e. inl e)
    (λ a. inr (λ e. omega (arith, ints, a, e)))
relates Ne z = by_sign (Relates Ne z ⊎ (¬ (Relates Ne z))) z (λ b. inl (λ e. omega (arith, ints, b, e))) (λ e. inr (λ n. n e))
    (λ a. inl (λ e. omega (arith, ints, a, e)))
relates Lt z = by_sign (Relates Lt z ⊎ (¬ (Relates Lt z))) z (λ b. inl b) (λ e. inr (λ h. omega (arith, ints, e, h)))
    (λ a. inr (λ h. omega (arith, ints, a, h)))
relates Le z = by_sign (Relates Le z ⊎ (¬ (Relates Le z))) z (λ b. inl (omega (arith, ints, b))) (λ e. inl (omega (arith, ints, e)))
    (λ a. inr (λ h. omega (arith, ints, a, h)))
relates Gt z = by_sign (Relates Gt z ⊎ (¬ (Relates Gt z))) z (λ b. inr (λ h. omega (arith, ints, b, h)))
    (λ e. inr (λ h. omega (arith, ints, e, h))) (λ a. inl a)
relates Ge z = by_sign (Relates Ge z ⊎ (¬ (Relates Ge z))) z (λ b. inr (λ h. omega (arith, ints, b, h))) (λ e. inl (omega (arith, ints, e)))
    (λ a. inl (omega (arith, ints, a)))

decided : (c : Condition) (x : State) → IsTrue (is_decided c) → MayBe true c x ⊎ MayBe false c x
decided free x d = absurd (true≢false (sym d))
decided (compare rel f) x d = relates rel (value f x)
decided (negation c) x d = ⊎_elim (λ t. inr t) (λ f. inl f) (decided c x d)
decided (both a b) x d =
    let p = and_parts (is_decided a) (is_decided b) d in
    ⊎_elim (λ t. ⊎_elim (λ u. inl (t, u)) (λ f. inr (inr f)) (decided b x p.1)) (λ f. inr (inl f)) (decided a x p.0)
decided (either a b) x d =
    let p = and_parts (is_decided a) (is_decided b) d in
    ⊎_elim (λ t. inl (inl t)) (λ f. ⊎_elim (λ t. inl (inr t)) (λ g. inr (f, g)) (decided b x p.1)) (decided a x p.0)

-- ---- runs
-- a condition none of whose opposite cases a state breaks is true at its point in every run
pub claims_hold : ProvedClaimsHold
claims_hold variables body template v p c over post none run now is_run is_in is_at =
    let system = equations_of_program variables body template in
    let x = now.state in
    let size = run_size variables body run now p is_run is_in is_at in
    let fits = program_soundness variables body template v over post run now p is_run is_in is_at in
    let never = places_hold system v p [] c none (rational x) x (length-map x whole ∙ size) fits refl in
    record { never_false = never; is_true = λ d. ⊎_elim (λ t. t) (λ f. absurd (never f)) (decided c x d) }
