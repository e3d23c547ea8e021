-- Answers on a list of things, and the first for which an operation is too wide.
use Rattle.std.proofs.Common.{◌≡◌, ◌∙◌, ⊎_elim, ℕ, ◌<◌, List, [], ◌∷◌, length-take, get_or, take, refl, sym, ap, ap₂, subst, arith}
use Rattle.std.specs.Prelude.{Some, slice_get}
use Rattle.std.specs.List.{All, AllZip}
use Rattle.std.proofs.lemmas.Bool.{cases_lt}
use Rattle.std.proofs.lemmas.List.{get_or-take}
use Rattle.std.proofs.lemmas.List.Elements.{All-head, All-tail, All-take}
use Rattle.std.proofs.lemmas.Option.{slice_get_within, get_or_from_slice_get, same_Some}
use Rattle.lp_simplex.specs.Operations.{capped}
use Rattle.ask_verdicts.specs.Lists.{IsFirstWide}

-- where each item has one answer, a list of them has one list of answers
pub same_answers : {A B : Type 0} (says : A → B → Type 0) → ((x : A) (v w : B) → says x v → says x w → v ≡ w) → (items : List A)
    (answers again : List B) → AllZip says items answers → AllZip says items again → answers ≡ again
same_answers says one [] [] [] a b = refl
same_answers says one [] [] (w ∷ ws) a b = absurd b
same_answers says one [] (v ∷ vs) ws a b = absurd a
same_answers says one (x ∷ xs) [] ws a b = absurd a
same_answers says one (x ∷ xs) (v ∷ vs) [] a b = absurd b
same_answers says one (x ∷ xs) (v ∷ vs) (w ∷ ws) a b = ap₂ (λ y ys. y ∷ ys) (one x v w a.0 b.0) (same_answers says one xs vs ws a.1 b.1)

-- answers by one relation are answers by another that follows from it at items of a kind
pub answers_stay : {A B : Type 0} (kind : A → Type 0) (says again : A → B → Type 0) → ((x : A) (v : B) → kind x → says x v → again x v)
    → (items : List A) (answers : List B) → All kind items → AllZip says items answers → AllZip again items answers
answers_stay kind says again same [] [] k a = tt
answers_stay kind says again same [] (v ∷ vs) k a = absurd a
answers_stay kind says again same (x ∷ xs) [] k a = absurd a
answers_stay kind says again same (x ∷ xs) (v ∷ vs) k a =
    (same x v (All-head kind x xs k) a.0, answers_stay kind says again same xs vs (All-tail kind x xs k) a.1)

module _ {A : Type 0} (fits : A → Type 0) (items : List A) where
  -- an item before a number up to which all are fit is fit
  fits_before : (number k : ℕ) (item : A) → k < number → slice_get items k ≡ Some item → All fits (take number items) → fits item
  fits_before number k item l e h =
      let within = slice_get_within items k item e in
      let long = length-take number items in
      subst fits (get_or-take number items k item l ∙ get_or_from_slice_get items k item item e) (h k item (omega (arith, l, within, long)))

  -- so it is where all are
  pub fits_there : (k : ℕ) (item : A) → slice_get items k ≡ Some item → All fits items → fits item
  fits_there k item e h =
      subst fits (get_or_from_slice_get items k item item e) (h k item (slice_get_within items k item e))

  module _ {E : Type 0} (faulty again : A → E → Type 0) (named other : ℕ) (e f : E)
      (apart : (x : A) → faulty x e → fits x → ⊥) (apart_again : (x : A) → again x f → fits x → ⊥)
      (a : IsFirstWide fits faulty items named e) (b : IsFirstWide fits again items other f) where
    same_place : a.number ≡ b.number
    same_place =
        ⊎_elim (λ l. absurd (apart a.item a.here (fits_before b.number a.number a.item l a.listed b.before)))
        (λ le. ⊎_elim (λ l. absurd (apart_again b.item b.here (fits_before a.number b.number b.item l b.listed a.before)))
        (λ ge. omega (arith, le, ge)) (cases_lt b.number a.number)) (cases_lt a.number b.number)

    -- the first item for which an operation is wide is one, and is named so
    pub same_item : (a.item ≡ b.item) × (named ≡ other)
    same_item = (
      same_Some a.item b.item (sym a.listed ∙ ap (λ k. slice_get items k) same_place ∙ b.listed),
      a.named_so ∙ ap capped same_place ∙ sym b.named_so,
    )

-- a refusal by some relations is one by others that follow from them at items of a kind
pub wide_stays : {A E : Type 0} (kind : A → Type 0) (fits fit_again : A → Type 0) (faulty again : A → E → Type 0)
    → ((x : A) → kind x → fits x → fit_again x) → ((x : A) (e : E) → kind x → faulty x e → again x e) →
    (items : List A) (named : ℕ) (e : E) → All kind items → IsFirstWide fits faulty items named e
    → IsFirstWide fit_again again items named e
wide_stays kind fits fit_again faulty again fit same items named e kinds a = record {
  number = a.number;
  item = a.item;
  listed = a.listed;
  named_so = a.named_so;
  before = λ k d l.
      fit (get_or (take a.number items) k d)
      (All-take kind a.number items kinds k d l) (a.before k d l);
  here = same a.item e (fits_there kind items a.number a.item a.listed kinds) a.here;
}
