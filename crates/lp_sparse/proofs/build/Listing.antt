-- Lists of entries that grow at their end with the numbers of a dense row.
use Rattle.std.proofs.Common.{◌≡◌, ℕ, ◌+◌, Bool, true, false, List, [], ◌∷◌, ◌++◌, length, map, ap, sym}
use Rattle.std.proofs.Common.{◌∙◌, subst, append_assoc}
use Rattle.std.proofs.lemmas.List.{length_push, map-id}
use Rattle.base_numbers.specs.Rational.{ℚ}
use Rattle.lp_dictionary.specs.Build.{auxiliary_entry, signed_by}
use Rattle.lp_dictionary.specs.declared.entry.Entry.{Entry}
use Rattle.lp_dictionary.specs.Entries.{pushed}
use Rattle.lp_dictionary.specs.Keeps.{Lists}
use Rattle.lp_sparse.specs.Build.{end_pushed}
use Rattle.lp_dictionary.proofs.kept.Listing.{lists_pushed}

-- numbers that keep their sign stay as they are
pub signed_none : (xs : List ℚ) → map (signed_by false) xs ≡ xs
signed_none xs = map-id xs

module _ {F : Type 0} (m : F → ℚ) where
  -- the end of a row
  pub lists_end : (aux : Bool) (xs : List ℚ) (es : List (Entry F)) (k : ℕ) (x s : F) (q t : ℚ) → Lists m xs es → k ≡ length xs → m x ≡ q
      → m s ≡ t → Lists m (xs ++ (auxiliary_entry aux q ++ t ∷ [])) (end_pushed m aux es k x s)
  lists_end true xs es k x s q t h e v w =
      subst (λ ys. Lists m ys (pushed m (pushed m es k x) (k + 1) s)) (append_assoc xs (q ∷ []) (t ∷ []))
      (lists_pushed m (xs ++ q ∷ []) (pushed m es k x) (k + 1) s t (lists_pushed m xs es k x q h e v)
      (ap (λ n. n + 1) e ∙ sym (length_push xs q)) w)
  lists_end false xs es k x s q t h e v w = lists_pushed m xs es k s t h e w
