-- Loops over a list that add to another list what belongs to each element.
use Rattle.std.proofs.Common.{◌≡◌, ◌∙◌, ℕ, ◌+◌, ◌<◌, ◌≤◌, List, [], ◌∷◌, ◌++◌, length, get_or, drop, sym, ap, append_assoc}
use Rattle.std.proofs.lemmas.List.{at_drop_more, at_drop_all, append-nil}

module _ {A B : Type 0} (F : List A → List B) (f : A → List B) (by_cons : (x : A) (xs : List A) → F (x ∷ xs) ≡ f x ++ F xs) where
  -- one element on
  pub loop_step : (before after all : List B) (xs : List A) (i : ℕ) (x : A) → i < length xs → x ≡ get_or xs i x →
      after ≡ before ++ f x → before ++ F (drop i xs) ≡ all → after ++ F (drop (i + 1) xs) ≡ all
  loop_step before after all xs i x l e a h =
      let rest = drop (i + 1) xs in
      ap (λ z. z ++ F rest) a ∙ append_assoc before (f x) (F rest)
      ∙ ap (λ z. before ++ z) (sym (at_drop_more F xs i x l ∙ ap (λ y. F (y ∷ rest)) (sym e) ∙ by_cons x rest)) ∙ h

  -- past the last element
  pub loop_end : (before all : List B) (xs : List A) (i : ℕ) → length xs ≤ i → F [] ≡ [] → before ++ F (drop i xs) ≡ all → before ≡ all
  loop_end before all xs i l e h = sym (append-nil before) ∙ ap (λ z. before ++ z) (sym (at_drop_all F xs i l ∙ e)) ∙ h
