-- Brackets of any kind, and what stands behind the first that is closed outside of all others.
use Rattle.std.proofs.Common.{◌≡◌, ◌∙◌, ◌++◌, ℕ, zero, suc, List, [], ◌∷◌, Option, Some, None, refl, ap}
use Rattle.source_grammar.specs.Tokens.{Kind, left_paren, right_paren, left_brace, right_brace, left_bracket, right_bracket, Token, token}
use Rattle.source_items.specs.declared.mark.Mark.{Mark}
use Rattle.source_items.specs.declared.mark.Mark.TheVariants.{Opens, Closes, Semicolon, Storage, Returned, Name, Other}

-- what a token does to the brackets that are open
pub data Turn : Type 0 where
  opening : Turn
  closing : Turn
  staying : Turn

abbrev pub kind_turn : Kind → Turn
kind_turn left_paren = opening
kind_turn left_bracket = opening
kind_turn left_brace = opening
kind_turn right_paren = closing
kind_turn right_bracket = closing
kind_turn right_brace = closing
kind_turn k = staying

abbrev pub mark_turn : Mark → Turn
mark_turn (Opens b) = opening
mark_turn (Closes b) = closing
mark_turn Semicolon = staying
mark_turn Storage = staying
mark_turn Returned = staying
mark_turn Name = staying
mark_turn Other = staying

-- what tokens do
abbrev pub turns : List Token → List Turn
turns [] = []
turns (token k a ∷ ts) = kind_turn k ∷ turns ts

-- what stands behind the bracket that closes the last of so many, or the first of all that is closed outside of others
abbrev pub after : ℕ → List Turn → Option (List Turn)
after d [] = None
after d (staying ∷ ts) = after d ts
after d (opening ∷ ts) = after (suc d) ts
after zero (closing ∷ ts) = None
after (suc zero) (closing ∷ ts) = Some ts
after (suc (suc d)) (closing ∷ ts) = after (suc d) ts

-- the same behind what was found
abbrev pub again : Option (List Turn) → Option (List Turn)
again None = None
again (Some ts) = after 0 ts

-- what stands behind the second of these
abbrev pub twice : List Turn → Option (List Turn)
twice ts = again (after 0 ts)

-- what is found among some tokens is found where others follow
pub after_append : (d : ℕ) (ts us rest : List Turn) → after d ts ≡ Some rest → after d (ts ++ us) ≡ Some (rest ++ us)
after_append d [] us rest e = cc
after_append d (staying ∷ ts) us rest e = after_append d ts us rest e
after_append d (opening ∷ ts) us rest e = after_append (suc d) ts us rest e
after_append zero (closing ∷ ts) us rest e = cc
after_append (suc zero) (closing ∷ ts) us rest e = let same : ts ≡ rest = cc in ap (λ (x : List Turn). Some (x ++ us)) same
after_append (suc (suc d)) (closing ∷ ts) us rest e = after_append (suc d) ts us rest e

again_append : (ts us rest : List Turn) (o : Option (List Turn)) → after 0 ts ≡ o → again o ≡ Some rest
    → again (after 0 (ts ++ us)) ≡ Some (rest ++ us)
again_append ts us rest None e f = cc
again_append ts us rest (Some found) e f =
    ap again (after_append 0 ts us found e) ∙ after_append 0 found us rest f

-- the same of the second
pub twice_append : (ts us rest : List Turn) → twice ts ≡ Some rest → twice (ts ++ us) ≡ Some (rest ++ us)
twice_append ts us rest e = again_append ts us rest (after 0 ts) refl e

-- what tokens do in a row
pub turns_append : (ts us : List Token) → turns (ts ++ us) ≡ turns ts ++ turns us
turns_append [] us = refl
turns_append (token k a ∷ ts) us = ap (λ (x : List Turn). kind_turn k ∷ x) (turns_append ts us)
