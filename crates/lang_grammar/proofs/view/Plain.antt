-- Names and numbers do not matter to the machine.
use Rattle.std.specs.Prelude.{slice_range}
use Rattle.std.proofs.Common.{◌≡◌, ◌∙◌, ◌+◌, ◌++◌, ℕ, List, [], ◌∷◌, Option, Some, None, refl, sym, ap, ap₂, map}
use Rattle.lang_grammar.specs.Grammar.{a_name, a_number, Kind}
use Rattle.lang_grammar.specs.Machine.{Goal, operand, more}
use Rattle.lang_grammar.specs.Machine.{only, opening}
use Rattle.lang_grammar.specs.Machine.{until_paren, Entry, takes, skips, stops, entry, step}
use Rattle.lang_grammar.specs.Verdicts.{opened, opened_by, verdict, judged, Verdict, goes, refused, too_deep, scan}
use Rattle.lang_grammar.specs.Faults.{Scan, unexpected, nested}
use Rattle.lang_grammar.specs.View.{literal, kind_of, plain_kind, tokens_of, plain_token}
use Rattle.lang_tokens.specs.declared.token.Kind as lex_kind
use Rattle.lang_tokens.specs.declared.token.Token as lex_token

-- Nothing is opened or chosen by the name.
name_entry_same : (g : Goal) (x : List ℕ) → entry g (a_name []) ≡ entry g (a_name x)
name_entry_same (more until_paren d) x = refl
name_entry_same (only opening) x = refl
name_entry_same _ x = refl

number_entry_same : (g : Goal) (n : ℕ) → entry g (a_number 0) ≡ entry g (a_number n)
number_entry_same (more until_paren d) x = refl
number_entry_same (only opening) x = refl
number_entry_same _ x = refl

name_opens : (g : Goal) (x : List ℕ) → opened_by g (a_name x) ≡ None
name_opens (operand d) x = refl
name_opens _ x = refl

number_opens : (g : Goal) (n : ℕ) → opened_by g (a_number n) ≡ None
number_opens (operand d) x = refl
number_opens _ x = refl

module _ (k l : Kind) (same : (g : Goal) → entry g k ≡ entry g l) (opens : (g : Goal) → opened_by g k ≡ opened_by g l) where
  step_same : (gs : List Goal) → step gs k ≡ step gs l
  step_same [] = refl
  step_same (g ∷ gs) = ap₂ (λ (e : Entry) (o : Option (List Goal)). elim e as (λ x. Option (List Goal))
      [ takes next ↦ Some (next ++ gs) | skips ↦ o | stops ↦ None ]) (same g) (step_same gs)

  opened_same : (gs : List Goal) → opened gs k ≡ opened gs l
  opened_same [] = refl
  opened_same (g ∷ gs) = on_entry (entry g k) (entry g l) (same g) (opens g) (opened_same gs) where
    on_entry : (e f : Entry) {o p q r : Option ℕ} → e ≡ f → o ≡ p → q ≡ r
        → elim e as (λ x. Option ℕ) [ takes next ↦ o | skips ↦ q | stops ↦ None ]
        ≡ elim f as (λ x. Option ℕ) [ takes next ↦ p | skips ↦ r | stops ↦ None ]
    on_entry e f {o} {p} {q} {r} h i j = ap (λ (x : Entry). elim x as (λ x. Option ℕ) [ takes next ↦ o | skips ↦ q | stops ↦ None ]) h
        ∙ ap₂ (λ (y z : Option ℕ). elim f as (λ x. Option ℕ) [ takes next ↦ y | skips ↦ z | stops ↦ None ]) i j

  verdict_same : (gs : List Goal) → verdict gs k ≡ verdict gs l
  verdict_same gs = ap₂ judged (step_same gs) (opened_same gs)

-- the machine judges a token the same whatever names and numbers are
pub plain_verdict : (gs : List Goal) (k : lex_kind.Kind) (bytes : List ℕ) → verdict gs (plain_kind k) ≡ verdict gs (kind_of bytes k)
plain_verdict gs (lex_kind.TheVariants.Word w) bytes = refl
plain_verdict gs lex_kind.TheVariants.Name bytes = verdict_same (a_name []) (a_name bytes) (λ g. name_entry_same g bytes)
    (λ g. name_opens g [] ∙ sym (name_opens g bytes)) gs
plain_verdict gs (lex_kind.TheVariants.Number n) bytes = verdict_same (a_number 0) (a_number (literal n))
    (λ g. number_entry_same g (literal n)) (λ g. number_opens g 0 ∙ sym (number_opens g (literal n))) gs
plain_verdict gs (lex_kind.TheVariants.Sign s) bytes = refl
plain_verdict gs (lex_kind.TheVariants.Foreign f) bytes = refl
plain_verdict gs (lex_kind.TheVariants.Aside a) bytes = refl
plain_verdict gs lex_kind.TheVariants.End bytes = refl

-- The scan is the same whatever names and numbers are.
pub plain_scan : (text : List ℕ) (gs : List Goal) (ts : List lex_token.Token) → scan gs (map plain_token ts) ≡ scan gs (tokens_of text ts)
plain_scan text gs [] = refl
plain_scan text gs (t ∷ ts) = on_verdict (verdict gs (plain_kind t.kind))
    (verdict gs (kind_of (slice_range text t.at (t.at + t.len)) t.kind)) t.at
    (plain_verdict gs t.kind (slice_range text t.at (t.at + t.len))) (λ next. plain_scan text next ts) where
      on_verdict : (v w : Verdict) (a : ℕ) {f h : List Goal → Scan} → v ≡ w → ((next : List Goal) → f next ≡ h next)
          → elim v as (λ x. Scan) [ goes next ↦ f next | refused ↦ unexpected a | too_deep ↦ nested a ]
          ≡ elim w as (λ x. Scan) [ goes next ↦ h next | refused ↦ unexpected a | too_deep ↦ nested a ]
      on_verdict v (goes next) a {f} {h} e i = ap (λ (x : Verdict). elim x as (λ x. Scan)
          [ goes next ↦ f next | refused ↦ unexpected a | too_deep ↦ nested a ]) e ∙ i next
      on_verdict v refused a {f} {h} e i = ap (λ (x : Verdict). elim x as (λ x. Scan)
          [ goes next ↦ f next | refused ↦ unexpected a | too_deep ↦ nested a ]) e
      on_verdict v too_deep a {f} {h} e i = ap (λ (x : Verdict). elim x as (λ x. Scan)
          [ goes next ↦ f next | refused ↦ unexpected a | too_deep ↦ nested a ]) e
