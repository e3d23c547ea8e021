-- Names and numbers do not matter to the machine.
use Rattle.std.proofs.Common.{◌≡◌, ◌∙◌, ◌++◌, ℕ, List, [], ◌∷◌, Option, Some, None, refl, sym, ap, ap₂, map}
use Rattle.source_grammar.specs.Tokens.{a_name, a_number, Kind, Token, token, Name}
use Rattle.source_grammar.specs.Machine.{Goal, operand, only, opening, Entry, takes, skips, stops, entry, step, start}
use Rattle.source_grammar.specs.Verdicts.{opened, opened_by, verdict, judged, Verdict, goes, refused, too_deep, scan}
use Rattle.source_grammar.specs.Faults.{Scan, unexpected, nested}
use Rattle.source_grammar.specs.View.{plain_kind, plain_token, token_of, Are}
use Rattle.source_grammar.specs.Symbols.{nameless}
use Rattle.source_grammar.specs.declared.symbol.Piece as code_piece

-- Nothing is opened or chosen by the name.
name_entry_same : (g : Goal) (x : Name) → entry g (a_name nameless) ≡ entry g (a_name x)
name_entry_same (only opening) x = refl
name_entry_same _ x = refl

number_entry_same : (g : Goal) (n : ℕ) → entry g (a_number 0) ≡ entry g (a_number n)
number_entry_same (only opening) x = refl
number_entry_same _ x = refl

name_opens : (g : Goal) (x : Name) → opened_by g (a_name x) ≡ None
name_opens (operand d) x = refl
name_opens _ x = refl

number_opens : (g : Goal) (n : ℕ) → opened_by g (a_number n) ≡ None
number_opens (operand d) x = refl
number_opens _ x = refl

module _ (k l : Kind) (same : (g : Goal) → entry g k ≡ entry g l) (opens : (g : Goal) → opened_by g k ≡ opened_by g l) where
  step_same : (gs : List Goal) → step gs k ≡ step gs l
  step_same [] = refl
  step_same (g ∷ gs) = ap₂ (λ (e : Entry) (o : Option (List Goal)). elim e as (λ x. Option (List Goal))
      [ takes next ↦ Some (next ++ gs) | skips ↦ o | stops ↦ None ]) (same g) (step_same gs)

  opened_same : (gs : List Goal) → opened gs k ≡ opened gs l
  opened_same [] = refl
  opened_same (g ∷ gs) = on_entry (entry g k) (entry g l) (same g) (opens g) (opened_same gs) where
    on_entry : (e f : Entry) {o p q r : Option ℕ} → e ≡ f → o ≡ p → q ≡ r
        → elim e as (λ x. Option ℕ) [ takes next ↦ o | skips ↦ q | stops ↦ None ]
        ≡ elim f as (λ x. Option ℕ) [ takes next ↦ p | skips ↦ r | stops ↦ None ]
    on_entry e f {o} {p} {q} {r} h i j = ap (λ (x : Entry). elim x as (λ x. Option ℕ) [ takes next ↦ o | skips ↦ q | stops ↦ None ]) h
        ∙ ap₂ (λ (y z : Option ℕ). elim f as (λ x. Option ℕ) [ takes next ↦ y | skips ↦ z | stops ↦ None ]) i j

  verdict_same : (gs : List Goal) → verdict gs k ≡ verdict gs l
  verdict_same gs = ap₂ judged (step_same gs) (opened_same gs)

-- the machine judges a token the same whatever names and numbers are
plain_verdict : (gs : List Goal) (k : Kind) → verdict gs (plain_kind k) ≡ verdict gs k
plain_verdict gs (a_name x) = verdict_same (a_name nameless) (a_name x) (λ g. name_entry_same g x)
    (λ g. name_opens g nameless ∙ sym (name_opens g x)) gs
plain_verdict gs (a_number n) = verdict_same (a_number 0) (a_number n)
    (λ g. number_entry_same g n) (λ g. number_opens g 0 ∙ sym (number_opens g n)) gs
plain_verdict gs _ = refl

-- The scan is the same whatever names and numbers are.
plain_scan : (gs : List Goal) (ts : List Token) → scan gs (map plain_token ts) ≡ scan gs ts
plain_scan gs [] = refl
plain_scan gs (token k a ∷ ts) = on_verdict (verdict gs (plain_kind k)) (verdict gs k) (plain_verdict gs k)
    (λ next. plain_scan next ts) where
      on_verdict : (v w : Verdict) {f h : List Goal → Scan} → v ≡ w → ((next : List Goal) → f next ≡ h next)
          → elim v as (λ x. Scan) [ goes next ↦ f next | refused ↦ unexpected a | too_deep ↦ nested a ]
          ≡ elim w as (λ x. Scan) [ goes next ↦ h next | refused ↦ unexpected a | too_deep ↦ nested a ]
      on_verdict v (goes next) {f} {h} e i = ap (λ (x : Verdict). elim x as (λ x. Scan)
          [ goes next ↦ f next | refused ↦ unexpected a | too_deep ↦ nested a ]) e ∙ i next
      on_verdict v refused {f} {h} e i = ap (λ (x : Verdict). elim x as (λ x. Scan)
          [ goes next ↦ f next | refused ↦ unexpected a | too_deep ↦ nested a ]) e
      on_verdict v too_deep {f} {h} e i = ap (λ (x : Verdict). elim x as (λ x. Scan)
          [ goes next ↦ f next | refused ↦ unexpected a | too_deep ↦ nested a ]) e

-- an answer that is the scan's of the pieces is that of each list of tokens that has their symbols and places
pub scan_of_tokens : (s : Scan) (ts : List Token) (pieces : List code_piece.Piece) → Are ts pieces
    → s ≡ scan start (map token_of pieces) → s ≡ scan start ts
scan_of_tokens s ts pieces h e = e ∙ ap (λ (x : List Token). scan start x) (sym h) ∙ plain_scan start ts
