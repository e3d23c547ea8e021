-- A map's entries with one more stand for the members with one more.
use Rattle.std.proofs.Common.{◌≡◌, ◌∷◌, [], ℕ, List, Ordering, Less, Equal, Greater, Vec, nat_cmp, refl, ◌∙◌}
use Rattle.std.specs.BTreeMap.{insert_entry}
use Rattle.std.specs.Cmp.Lexicographic.{slice_cmp}
use Rattle.std.specs.Ordering.{match_ordering}
use Rattle.serde_json.specs.Data.{put, string}
use Rattle.base_numbers.specs.Rational.{ℚ}
use Rattle.base_fractions.specs.Texts.{frac_text}
use Rattle.out_json.specs.Entries.{entry_members}

members_chosen : {Z : Type 0} (o : Ordering) (a b c : List (Vec ℕ Z × ℚ))
    → entry_members (match_ordering o a b c) ≡ match_ordering o (entry_members a) (entry_members b) (entry_members c)
members_chosen Less a b c = refl
members_chosen Equal a b c = refl
members_chosen Greater a b c = refl

-- by the order of the bytes of the names
pub inserted : {Z : Type 0} (es : List (Vec ℕ Z × ℚ)) (name : Vec ℕ Z) (value : ℚ)
    → entry_members (insert_entry (λ x y. slice_cmp nat_cmp x.items y.items) es name value)
    ≡ put name.items (string (frac_text value)) (entry_members es)
inserted [] name value = refl
inserted (e ∷ es) name value = members_chosen (slice_cmp nat_cmp name.items e.0.items) _ _ _ ∙ rw (inserted es name value)
