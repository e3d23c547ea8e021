-- The groups that are found are those of the definition.
use Rattle.std.proofs.Common.{◌≡◌, ◌∙◌, ◌++◌, ◌∷◌, ◌==◌, ℕ, Bool, true, false, not, ◌||◌, List, [], refl, sym, ap, ap₂}
use Rattle.std.proofs.Common.{append_assoc, append-nil, arith}
use Rattle.std.specs.Prelude.{if◌then◌else◌}
use Rattle.lang_groups.specs.Groups.{are_together, SameTogether}
use Rattle.lang_groups.specs.Kept.{kept_group, with_group}
use Rattle.lang_groups.specs.Shapes.{Shape, nothing, one, enclosed, tied, compared, apart, occurring, groups_of, Fits, marks_of}
use Rattle.lang_groups.specs.Machine.{State, at_rest, taken_all, ended, ended_together}
use Rattle.lang_groups.specs.Found.{is_compared, inner, found}
use Rattle.lang_groups.specs.Laws.{Adds}
use Rattle.lang_groups.proofs.together.Bools.{or_false, and_false, covered}
use Rattle.lang_groups.proofs.together.Same.{same_refl, same_equal, same_trans, same_append, same_last, same_part, same_rest}
use Rattle.lang_groups.proofs.together.Same.{together_append}
use Rattle.lang_groups.proofs.together.Kept.{kept_same}
use Rattle.lang_groups.proofs.runs.Takes.{is_whole}

-- the group of a run's comparison, if there is one
abbrev closing : Shape → List (List ℕ)
closing s = if is_compared s then kept_group (occurring s) else []

-- those of a run, and of an operand
run_found : (s : Shape) → Fits 1 s → found s ≡ inner s ++ closing s
run_found nothing f = refl
run_found (one x) f = refl
run_found (enclosed s) f = sym (append-nil (found s))
run_found (tied s t) f = sym (append-nil (inner s ++ inner t))
run_found (compared s t) f = refl
run_found (apart s t) f = absurd (let e = f.0 in omega (arith, e))

operand_found : (s : Shape) → Fits 2 s → inner s ≡ found s
operand_found nothing f = refl
operand_found (one x) f = refl
operand_found (enclosed s) f = refl
operand_found (tied s t) f = refl
operand_found (compared s t) f = absurd (let l = f.0 in omega (arith, l))
operand_found (apart s t) f = refl

-- a group that is part of another adds nothing to it
closing_covered : (g o : List ℕ) (b : Bool) → SameTogether (o ∷ g ∷ []) (o ∷ []) → (x y : ℕ)
    → (are_together (o ∷ []) x y || are_together (if b then kept_group g else []) x y) ≡ are_together (o ∷ []) x y
closing_covered g o true h x y = ap (λ c. are_together (o ∷ []) x y || c) ((kept_same g).same x y)
    ∙ sym (together_append (o ∷ []) (g ∷ []) x y) ∙ h.same x y
closing_covered g o false h x y = ap (λ c. are_together (o ∷ []) x y || c) (and_false (not (x == y))) ∙ or_false (are_together (o ∷ []) x y)

-- a comparison's groups, where those of its sides are so
compared_same : (s t : Shape) → Fits 1 s → Fits 1 t → SameTogether (found s) (groups_of s) → SameTogether (found t) (groups_of t)
    → SameTogether (found (compared s t)) (groups_of (compared s t))
compared_same s t f g h k = record { same = together }
  where
    side : (r : Shape) → Fits 1 r → SameTogether (found r) (groups_of r) → (x y : ℕ)
        → (are_together (inner r) x y || are_together (closing r) x y) ≡ are_together (groups_of r) x y
    side r fits same x y = sym (together_append (inner r) (closing r) x y)
        ∙ sym (ap (λ gs. are_together gs x y) (run_found r fits)) ∙ same.same x y

    together : (x y : ℕ) → are_together (found (compared s t)) x y ≡ are_together (groups_of (compared s t)) x y
    together x y =
        together_append (inner s ++ inner t) (kept_group (occurring s ++ occurring t)) x y
        ∙ ap₂ ◌||◌ (together_append (inner s) (inner t) x y) ((kept_same (occurring s ++ occurring t)).same x y)
        ∙ covered (are_together ((occurring s ++ occurring t) ∷ []) x y) (are_together (inner s) x y) (are_together (inner t) x y)
        (are_together (closing s) x y) (are_together (closing t) x y)
        (closing_covered (occurring s) (occurring s ++ occurring t) (is_compared s) (same_part (occurring s) (occurring t)) x y)
        (closing_covered (occurring t) (occurring s ++ occurring t) (is_compared t) (same_rest (occurring s) (occurring t)) x y)
        ∙ ap (λ b. are_together ((occurring s ++ occurring t) ∷ []) x y || b)
        (ap₂ ◌||◌ (side s f h x y) (side t g k x y) ∙ sym (together_append (groups_of s) (groups_of t) x y))
        ∙ sym (together_append ((occurring s ++ occurring t) ∷ []) (groups_of s ++ groups_of t) x y)

-- those of each shape
pub found_same : (s : Shape) (l : ℕ) → Fits l s → SameTogether (found s) (groups_of s)
found_same nothing l f = same_refl []
found_same (one x) l f = same_refl []
found_same (enclosed s) l f = found_same s 0 f
found_same (tied s t) l f = same_append (same_trans (same_equal (operand_found s f.0)) (found_same s 2 f.0))
    (same_trans (same_equal (operand_found t f.1)) (found_same t 2 f.1))
found_same (compared s t) l f = compared_same s t f.1 f.2 (found_same s 1 f.1) (found_same t 1 f.2)
found_same (apart s t) l f = same_append (found_same s 0 f.1) (found_same t 0 f.2)

-- the tokens of an expression, to its end
pub marks_give : (s : Shape) → Fits 0 s → (gs : List (List ℕ)) → Adds gs (groups_of s) (ended (taken_all (marks_of s) (at_rest gs)))
marks_give s f gs = record {
  more = found s;
  kept = ap (λ (e : State). at_rest e.groups) (is_whole s f (at_rest gs) refl);
  same = found_same s 0 f;
}

-- the same to its end with all of its variables together
pub marks_give_more : (s : Shape) → Fits 0 s → (gs : List (List ℕ))
    → Adds gs (occurring s ∷ groups_of s) (ended_together (taken_all (marks_of s) (at_rest gs)))
marks_give_more s f gs = record {
  more = found s ++ kept_group (occurring s);
  kept = ap (λ (e : State). at_rest (with_group e.groups e.seen)) (is_whole s f (at_rest gs) refl)
      ∙ ap at_rest (append_assoc gs (found s) (kept_group (occurring s)));
  same = same_trans (same_append (found_same s 0 f) (kept_same (occurring s))) (same_last (occurring s) (groups_of s));
}
