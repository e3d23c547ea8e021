-- Traces that are found one after the other.
use Rattle.std.proofs.Common.{◌≡◌, ◌⊎◌, inl, inr, ℕ, ◌+◌, ◌<◌, ◌≤◌, List, [], ◌∷◌, ◌++◌, length, get_or, sym, subst, arith}
use Rattle.std.specs.Prelude.{Option}
use Rattle.std.proofs.lemmas.Bool.{cases_lt}
use Rattle.std.proofs.lemmas.List.{get_or_append_left}
use Rattle.std.proofs.Math.Seq.{get_or-append_seam}
use Rattle.base_numbers.specs.Rational.{ℚ, zero_ℚ}
use Rattle.base_numbers.specs.Extended.{Ext as Extended}
use Rattle.flow_systems.specs.declared.system.System.{System}
use Rattle.flow_systems.specs.declared.trace.Trace.{Trace}
use Rattle.solve_rounds.specs.Lows.{no_trace}
use Rattle.solve_rounds.specs.Guessed.{IsReached, AreReached}

-- one number more is reached
pub reached_more : (system : System) (pick : List (Option ℕ)) (bounds : List Extended) (list : List ℕ) (to : List ℚ) (highs : List Trace)
    (trace : Trace) (k : ℕ) → length highs ≡ k → AreReached system pick bounds list to highs k
    → IsReached system pick bounds (get_or list k 0) (get_or to k zero_ℚ) trace
    → AreReached system pick bounds list to (highs ++ trace ∷ []) (k + 1)
reached_more system pick bounds list to highs trace k size earlier now j l = by (cases_lt j k)
  where
    by : (j < k) ⊎ (k ≤ j)
        → IsReached system pick bounds (get_or list j 0) (get_or to j zero_ℚ) (get_or (highs ++ trace ∷ []) j no_trace)
    by (inl h) =
        subst (IsReached system pick bounds (get_or list j 0) (get_or to j zero_ℚ))
        (sym (get_or_append_left highs (trace ∷ []) no_trace j (subst (λ n. j < n) (sym size) h))) (earlier j h)
    by (inr h) =
        let e : k ≡ j = omega arith in
        subst (λ i. IsReached system pick bounds (get_or list i 0) (get_or to i zero_ℚ) (get_or (highs ++ trace ∷ []) i no_trace)) e
        (subst (IsReached system pick bounds (get_or list k 0) (get_or to k zero_ℚ))
        (sym (subst (λ i. get_or (highs ++ trace ∷ []) i no_trace ≡ trace) size (get_or-append_seam highs trace [] no_trace))) now)
