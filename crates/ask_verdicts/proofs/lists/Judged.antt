-- The items that a loop over a list has judged.
use Rattle.std.proofs.Common.{◌≡◌, ◌∙◌, ℕ, zero, suc, ◌+◌, ◌<◌, List, [], ◌∷◌, ◌++◌, length, get_or, take, Some, sym, ap, subst}
use Rattle.std.specs.Prelude.{slice_get}
use Rattle.std.specs.List.{All, AllZip}
use Rattle.std.proofs.lemmas.List.{take_more}
use Rattle.std.proofs.lemmas.List.Elements.{All-more}
use Rattle.std.proofs.lemmas.Option.{slice_get-get_or}
use Rattle.lp_simplex.specs.Operations.{capped}
use Rattle.ask_verdicts.specs.Lists.{IsFirstWide}

-- one related element more at the end of each list
zip_push : {A B : Type 0} (R : A → B → Type 0) (xs : List A) (ys : List B) (x : A) (y : B) → AllZip R xs ys → R x y
    → AllZip R (xs ++ x ∷ []) (ys ++ y ∷ [])
zip_push R [] [] x y a h = (h, tt)
zip_push R [] (w ∷ ys) x y a h = absurd a
zip_push R (v ∷ xs) [] x y a h = absurd a
zip_push R (v ∷ xs) (w ∷ ys) x y a h = (a.0, zip_push R xs ys x y a.1 h)

-- what is related at a place
pub zip_at : {A B : Type 0} (R : A → B → Type 0) (xs : List A) (ys : List B) (k : ℕ) (x : A) (y : B) → AllZip R xs ys
    → slice_get xs k ≡ Some x → slice_get ys k ≡ Some y → R x y
zip_at R [] ys k x y a e f = absurd cc
zip_at R (v ∷ xs) [] k x y a e f = absurd a
zip_at R (v ∷ xs) (w ∷ ys) zero x y a e f = let g : v ≡ x = cc in let h : w ≡ y = cc in
    subst (λ b. R x b) h (subst (λ c. R c w) g a.0)
zip_at R (v ∷ xs) (w ∷ ys) (suc k) x y a e f = zip_at R xs ys k x y a.1 e f

-- the first i items have these answers, and are fit
pub record AreJudged {A B : Type 0} (says : A → B → Type 0) (fits : A → Type 0) (items : List A) (i : ℕ) (answers : List B) : Type 0 where
  -- these are the answers
  pub listed : AllZip says (take i items) answers
  -- they are fit
  pub fit : All fits (take i items)

module _ {A B : Type 0} (says : A → B → Type 0) (fits : A → Type 0) (items : List A) (i : ℕ) (item : A) (l : i < length items)
    (is : item ≡ get_or items i item) (answers : List B) (judged : AreJudged says fits items i answers) where
  -- one item more
  pub judged_push : (list : List B) (answer : B) → says item answer → fits item → list ≡ answers ++ answer ∷ []
      → AreJudged says fits items (i + 1) list
  judged_push list answer new fit pushed =
      let fronts = take_more items i item l ∙ ap (λ (x : A). take i items ++ x ∷ []) (sym is) in
      let more = zip_push says (take i items) answers item answer judged.listed new in
      record {
        listed = subst (λ ys. AllZip says (take (i + 1) items) ys) (sym pushed)
            (subst (λ (xs : List A). AllZip says xs (answers ++ answer ∷ [])) (sym fronts) more);
        fit = All-more fits items i item l judged.fit (subst fits is fit);
      }

  -- the first wide operation is that of the next item
  pub judged_refused : {E : Type 0} (faulty : A → E → Type 0) (named : ℕ) (fault : E) → named ≡ capped i → faulty item fault
      → IsFirstWide fits faulty items named fault
  judged_refused faulty named fault e h = record {
    number = i;
    item = item;
    listed = slice_get-get_or items i item l ∙ ap Some (sym is);
    named_so = e;
    before = judged.fit;
    here = h;
  }
