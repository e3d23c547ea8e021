-- Claims that are stated alike are written alike.
use Rattle.std.proofs.Common.{◌≡◌, ◌∙◌, ◌++◌, ℕ, suc, List, [], ◌∷◌, length, map, refl, sym, ap, ap₂, codes}
use Rattle.std.specs.Prelude.{decimal}
use Rattle.std.proofs.lemmas.List.{length-map}
use Rattle.serde_json.specs.Data.{Items, array, item, member, object, string}
use Rattle.flow_systems.specs.Report.{footer_line, line}
use Rattle.flow_systems.specs.declared.footer.Footer.TheVariants.{Improvements}
use Rattle.ask_verdicts.specs.Lines.{count_line, verdict_text}
use Rattle.ask_verdicts.specs.declared.outcome.Verdict.{Verdict}
use Rattle.ask_claims.specs.Claims.{Stated, stated_of}
use Rattle.ask_claims.specs.Lines.{claim_lines}
use Rattle.ask_claims.specs.declared.claim.Claim.{Claim}
use Rattle.ask_json.specs.Claims.{claim_values, claims_value}
use Rattle.ask_json.specs.Verdicts.{count_members, verdict_members}
use Rattle.out_json.specs.Pieces.{value_line}
use Rattle.ask_words.specs.declared.format.Format.{Format}
use Rattle.ask_words.specs.declared.format.Format.TheVariants.{Text, Json, Sarif}
use Rattle.top_written.specs.Formats.{claims_in}

-- the claims are stated alike
abbrev pub SameStated : List Claim → List Claim → Type 0
SameStated claims others = map stated_of claims ≡ map stated_of others

-- so the first ones are
pub first_stated : (c d : Claim) (cs ds : List Claim) → SameStated (c ∷ cs) (d ∷ ds) → stated_of c ≡ stated_of d
first_stated c d cs ds e = cc

-- and so are the others
pub rest_stated : (c d : Claim) (cs ds : List Claim) → SameStated (c ∷ cs) (d ∷ ds) → SameStated cs ds
rest_stated c d cs ds e = cc

-- they have the same lines
lines_agree : (names : List (List ℕ)) (n : ℕ) (claims others : List Claim) (verdicts : List Verdict) → SameStated claims others
    → claim_lines names n claims verdicts ≡ claim_lines names n others verdicts
lines_agree names n [] [] vs e = refl
lines_agree names n [] (d ∷ ds) vs e = absurd cc
lines_agree names n (c ∷ cs) [] vs e = absurd cc
lines_agree names n (c ∷ cs) (d ∷ ds) [] e = refl
lines_agree names n (c ∷ cs) (d ∷ ds) (v ∷ vs) e =
    ap₂ (λ (s : Stated) (rest : List ℕ). line (codes "claim " ++ decimal n ++ codes " " ++ s.label ++ codes ": " ++ verdict_text names v)
    ++ rest)
    (first_stated c d cs ds e) (lines_agree names (suc n) cs ds vs (rest_stated c d cs ds e))

count_agrees : (claims others : List Claim) → SameStated claims others → length claims ≡ length others
count_agrees claims others e = sym (length-map claims stated_of) ∙ ap length e ∙ length-map others stated_of

-- and the same items
items_agree : (names : List (List ℕ)) (claims others : List Claim) (verdicts : List Verdict) → SameStated claims others
    → claim_values names claims verdicts ≡ claim_values names others verdicts
items_agree names [] [] vs e = refl
items_agree names [] (d ∷ ds) vs e = absurd cc
items_agree names (c ∷ cs) [] vs e = absurd cc
items_agree names (c ∷ cs) (d ∷ ds) [] e = refl
items_agree names (c ∷ cs) (d ∷ ds) (v ∷ vs) e =
    ap₂ (λ (s : Stated) (rest : Items). item (object (member (codes "label") (string s.label) (verdict_members names v))) rest)
    (first_stated c d cs ds e) (items_agree names cs ds vs (rest_stated c d cs ds e))

line_agrees : (names : List (List ℕ)) (claims others : List Claim) (verdicts : List Verdict) (n : ℕ) → SameStated claims others
    → value_line (claims_value names claims verdicts n) ≡ value_line (claims_value names others verdicts n)
line_agrees names claims others verdicts n e =
    ap (λ (items : Items). value_line (object (member (codes "claims") (array items) (count_members verdicts n))))
    (items_agree names claims others verdicts e)

same_text : (format : Format) (names : List (List ℕ)) (claims others : List Claim) (verdicts : List Verdict) (n : ℕ)
    → SameStated claims others → claims_in format names claims verdicts n ≡ claims_in format names others verdicts n
same_text Text names claims others verdicts n e =
    ap₂ (λ (lines : List ℕ) k. lines ++ count_line k verdicts ++ footer_line (Improvements n))
    (lines_agree names 0 claims others verdicts e) (count_agrees claims others e)
same_text Json names claims others verdicts n e = line_agrees names claims others verdicts n e
same_text Sarif names claims others verdicts n e = line_agrees names claims others verdicts n e

-- and are written alike, with the same verdicts
pub claims_agree : (format : Format) (names : List (List ℕ)) (claims others : List Claim) (verdicts again : List Verdict) (n m : ℕ)
    → SameStated claims others → verdicts ≡ again → n ≡ m
    → claims_in format names claims verdicts n ≡ claims_in format names others again m
claims_agree format names claims others verdicts again n m e same rounds =
    ap₂ (λ (vs : List Verdict) k. claims_in format names claims vs k) same rounds ∙ same_text format names claims others again m e
