-- A text means one thing.
use Rattle.std.proofs.Common.{◌≡◌, ◌∙◌, inl, inr, ℕ, List, Ok, Err, refl, sym, ap}
use Rattle.lang_grammar.specs.Grammar.{Token, Program, Reads}
use Rattle.lang_grammar.specs.Machine.{start}
use Rattle.lang_grammar.specs.Faults.{Scan, whole, short, unexpected, nested, Fine, Finds}
use Rattle.lang_grammar.specs.Verdicts.{scan}
use Rattle.lang_grammar.proofs.faults.Exact.{exact_by}
use Rattle.lang_grammar.proofs.grammar.Once.{reads_once}
use Rattle.lang_tokens.specs.Lines.{line_at}
use Rattle.lang_meaning.specs.declared.fault.ParseFault.{ParseFault}
use Rattle.lang_meaning.specs.declared.fault.ParseFault.TheVariants as fault
use Rattle.lang_tree.specs.Tree.{Statements}
use Rattle.lang_meaning.specs.declared.fault.Limit.TheVariants.{Nesting}
use Rattle.lang_meaning.specs.Walk.{walk}
use Rattle.lang_meaning.specs.Meaning.{Answer, Means}

-- what is found is what the scan says
found_is : (s : Scan) (ts : List Token) → (s ≡ short → ⊥) → Finds s ts → scan start ts ≡ s
found_is s ts n f = exact_by (scan start ts) s ts refl n f

two_unexpected : (a b : ℕ) (ts : List Token) → Finds (unexpected a) ts → Finds (unexpected b) ts → a ≡ b
two_unexpected a b ts f g = let h = sym (found_is (unexpected a) ts (λ e. cc) f) ∙ found_is (unexpected b) ts (λ e. cc) g in cc

two_nested : (a b : ℕ) (ts : List Token) → Finds (nested a) ts → Finds (nested b) ts → a ≡ b
two_nested a b ts f g = let h = sym (found_is (nested a) ts (λ e. cc) f) ∙ found_is (nested b) ts (λ e. cc) g in cc

not_both : (a b : ℕ) (ts : List Token) → Finds (unexpected a) ts → Finds (nested b) ts → ⊥
not_both a b ts f g = let h = sym (found_is (unexpected a) ts (λ e. cc) f) ∙ found_is (nested b) ts (λ e. cc) g in cc

not_read : (a : ℕ) (ts : List Token) (p : Program) → Finds (unexpected a) ts → Reads ts p → Fine ts → ⊥
not_read a ts p f r g = let h = sym (found_is (unexpected a) ts (λ e. cc) f) ∙ found_is whole ts (λ e. cc) ((p, r), g) in cc

not_nested : (a : ℕ) (ts : List Token) (p : Program) → Finds (nested a) ts → Reads ts p → Fine ts → ⊥
not_nested a ts p f r g = let h = sym (found_is (nested a) ts (λ e. cc) f) ∙ found_is whole ts (λ e. cc) ((p, r), g) in cc

-- At most one answer is meant.
pub means_once : (text : List ℕ) (ts : List Token) (r s : Answer) → Means text ts r → Means text ts s → r ≡ s
means_once text ts r s (inl (a, f, e)) (inl (b, g, h)) = e ∙ ap (λ x. Err (fault.Unexpected x)) (two_unexpected a b ts f g) ∙ sym h
means_once text ts r s (inl (a, f, e)) (inr (inl (b, g, h))) = absurd (not_both a b ts f g)
means_once text ts r s (inl (a, f, e)) (inr (inr (p, g, h, i))) = absurd (not_read a ts p f g h)
means_once text ts r s (inr (inl (a, f, e))) (inl (b, g, h)) = absurd (not_both b a ts g f)
means_once text ts r s (inr (inl (a, f, e))) (inr (inl (b, g, h))) = e ∙ ap (λ x. Err (fault.Limit x Nesting)) (two_nested a b ts f g)
    ∙ sym h
means_once text ts r s (inr (inl (a, f, e))) (inr (inr (p, g, h, i))) = absurd (not_nested a ts p f g h)
means_once text ts r s (inr (inr (p, f, k, e))) (inl (b, g, h)) = absurd (not_read b ts p g f k)
means_once text ts r s (inr (inr (p, f, k, e))) (inr (inl (b, g, h))) = absurd (not_nested b ts p g f k)
means_once text ts r s (inr (inr (p, f, k, e))) (inr (inr (q, g, l, h))) = e ∙ ap (walk (line_at text)) (reads_once ts p q f g) ∙ sym h

-- what is answered in place of what is meant
pub meant_value : (text : List ℕ) (ts : List Token) (wanted r : Answer) (x : List (List ℕ) × Statements) → Means text ts wanted
    → Means text ts r → r ≡ Ok x → wanted ≡ Ok x
meant_value text ts wanted r x m n e = means_once text ts wanted r m n ∙ e

-- where one answer that is meant is a fault, another one is the same fault
pub meant_fault : (text : List ℕ) (ts : List Token) (wanted r : Answer) (e : ParseFault) → Means text ts wanted → Means text ts r
    → r ≡ Err e → wanted ≡ Err e
meant_fault text ts wanted r e m n h = means_once text ts wanted r m n ∙ h
