-- What a line is, by what was found of it.
use Rattle.std.proofs.Common.{◌≡◌, ℕ, ℤ, Bool, true, false, List, map, IsTrue, Bor, ap, sym, subst, ◌∙◌}
use Rattle.std.specs.List.{list_all}
use Rattle.std.specs.BTreeMap.{BTreeMap}
use Rattle.lang_tree.specs.Numbers.{are_numbers}
use Rattle.flow_templates.specs.declared.term.Term.{Term}
use Rattle.flow_templates.specs.Rows.{is_row}
use Rattle.flow_templates.specs.Grammar.{Amount, ReadsTerms}
use Rattle.flow_templates.specs.Sums.{is_among, row_by, row_of, StaysWithin}
use Rattle.flow_templates.specs.Kept.{kept_amount, sum_at, AddUp, ReadsKept}
use Rattle.flow_templates.specs.RowFiles.{are_known, is_skipped, ReadsWithin, IsBad, IsUnknown, IsZero, IsRowLine}
use Rattle.flow_templates.proofs.row.Steps.{kept_row, row_numbers, known_kept}

-- a line that isn't skipped and reads as no terms is bad
pub bad_none : (line : List ℕ) → is_skipped line ≡ false → ((amounts : List Amount) → ReadsTerms line amounts → ⊥) → IsBad line
bad_none line s h = record { not_skipped = s; no_row = λ amounts r. h amounts r.reads }

-- a line whose coefficients leave their range is bad
pub bad_range : (line : List ℕ) (kept slice : List Term) → is_skipped line ≡ false → ReadsKept line kept → slice ≡ kept
    → (StaysWithin (map kept_amount slice) → ⊥) → IsBad line
bad_range line kept slice s told same out = record {
  not_skipped = s;
  no_row = λ amounts r. out (subst StaysWithin (told.only amounts r.reads ∙ ap (map kept_amount) (sym same)) r.within);
}

-- what is known of a line once its terms are added up
pub record Told (line : List ℕ) (kept : List Term) (sums : BTreeMap (Bor (List ℕ)) ℤ) : Type 0 where
  -- the line reads as the kept terms, with coefficients in their range
  pub reads : ReadsWithin line (map kept_amount kept)
  -- the kept coefficients are those of the terms
  pub add_up : AddUp sums (map kept_amount kept)

-- a line with kept terms that stay in their range and are added up is told
pub told_of : (line : List ℕ) (kept slice : List Term) (sums : BTreeMap (Bor (List ℕ)) ℤ) → is_skipped line ≡ false → ReadsKept line kept
    → slice ≡ kept → StaysWithin (map kept_amount slice) × AddUp sums (map kept_amount slice) → Told line kept sums
told_of line kept slice sums s told same h =
    let P : List Term → Type 0 = λ ts. StaysWithin (map kept_amount ts) × AddUp sums (map kept_amount ts) in
    let here : P kept = subst P same h in
    record { reads = record { not_skipped = s; reads = told.reads; within = here.0 }; add_up = here.1 }

-- a line with a name that is no variable's names an unknown one
pub unknown_of : (names : List (List ℕ)) (line : List ℕ) (kept slice : List Term) (sums : BTreeMap (Bor (List ℕ)) ℤ) (b : Bool)
    → Told line kept sums → slice ≡ kept → b ≡ list_all (λ (t : Term). is_among names t.name.now) slice → b ≡ false → IsUnknown names line
unknown_of names line kept slice sums b told same e no_one = record {
  amounts = map kept_amount kept;
  reads = told.reads;
  unknown = sym (known_kept names kept) ∙ (ap (list_all (λ (t : Term). is_among names t.name.now)) (sym same) ∙ (sym e ∙ no_one));
}

-- all that is known once its names are known, too
pub record Known (names : List (List ℕ)) (line : List ℕ) (row : List ℤ) : Type 0 where
  -- the amounts of the line's terms
  pub amounts : List Amount
  -- the line reads as these amounts, with coefficients in their range
  pub reads : ReadsWithin line amounts
  -- each name is that of a variable
  pub known : IsTrue (are_known names amounts)
  -- the row is that of the amounts
  pub row_is : row ≡ row_of names amounts

-- a line each of whose names is a variable's has a known row
pub known_of : (names : List (List ℕ)) (line : List ℕ) (kept slice : List Term) (sums : BTreeMap (Bor (List ℕ)) ℤ) (b : Bool) (row : List ℤ)
    → Told line kept sums → slice ≡ kept → b ≡ list_all (λ (t : Term). is_among names t.name.now) slice → b ≡ true
    → row ≡ row_by names (sum_at sums) → Known names line row
known_of names line kept slice sums b row told same e all r = record {
  amounts = map kept_amount kept;
  reads = told.reads;
  known = sym (known_kept names kept) ∙ (ap (list_all (λ (t : Term). is_among names t.name.now)) (sym same) ∙ (sym e ∙ all));
  row_is = r ∙ kept_row names (sum_at sums) (map kept_amount kept) told.add_up;
}

-- the coefficients of a known row stay within 2^63 - 1
pub known_numbers : (names : List (List ℕ)) (line : List ℕ) (row : List ℤ) → Known names line row → are_numbers row ≡ true
known_numbers names line row k = ap are_numbers k.row_is ∙ row_numbers names k.amounts k.reads.within

-- a line whose known row has only zeros is a zero row
pub zero_of : (names : List (List ℕ)) (line : List ℕ) (row slice : List ℤ) (b : Bool) → Known names line row → slice ≡ row
    → b ≡ is_row slice → b ≡ false → IsZero names line
zero_of names line row slice b k same e z = record {
  amounts = k.amounts;
  reads = k.reads;
  known = k.known;
  zero = ap is_row (sym k.row_is) ∙ (ap is_row (sym same) ∙ (sym e ∙ z));
}

-- a line whose known row has a coefficient other than 0 is that row
pub row_of_line : (names : List (List ℕ)) (line : List ℕ) (row slice made : List ℤ) (b : Bool) → Known names line row → slice ≡ row
    → b ≡ is_row slice → b ≡ true → made ≡ row → IsRowLine names line made
row_of_line names line row slice made b k same e some m = record {
  amounts = k.amounts;
  reads = k.reads;
  known = k.known;
  row_is = m ∙ k.row_is;
  nonzero = ap is_row m ∙ (ap is_row (sym same) ∙ (sym e ∙ some));
}
