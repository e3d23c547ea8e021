-- The functions of one item more.
use Rattle.std.proofs.Common.{◌≡◌, ◌∙◌, ◌++◌, ◌<◌, ℕ, zero, suc, length, get_or, arith, List, [], ◌∷◌, Option, Some, None, sym, ap}
use Rattle.std.proofs.Common.{append_assoc}
use Rattle.lang_tokens.specs.declared.token.Token.{Token}
use Rattle.source_items.specs.declared.item.Item.{Item}
use Rattle.source_file.specs.declared.functions.Defined.{Defined}
use Rattle.std.specs.List.{slice_get}
use Rattle.source_file.specs.Functions.{named_by, defined_by, functions_of}

module _ (text : List ℕ) (ts : List Token) (item : Item) (ahead rest : List Item) (fs all : List Defined) (split : ahead ≡ item ∷ rest)
    (h : fs ++ functions_of text ts ahead ≡ all) where
  abbrev added : Option Defined → List Defined
  added o = elim o [ None ↦ functions_of text ts rest | Some d ↦ d ∷ functions_of text ts rest ]

  here : (o : Option Defined) → o ≡ defined_by text ts item → fs ++ added o ≡ all
  here o e =
      ap (λ (x : Option Defined). fs ++ added x) e ∙ ap (λ (x : List Item). fs ++ functions_of text ts x) (sym split) ∙ h

  -- it is one
  pub found_more : (d : Defined) → Some d ≡ defined_by text ts item → (fs ++ d ∷ []) ++ functions_of text ts rest ≡ all
  found_more d e = append_assoc fs (d ∷ []) (functions_of text ts rest) ∙ here (Some d) e

  -- it is none
  pub none_more : None ≡ defined_by text ts item → fs ++ functions_of text ts rest ≡ all
  none_more e = here None e

-- the function of an item whose name is a token
pub defined_is : (text : List ℕ) (ts : List Token) (item : Item) (index : ℕ) (t : Token) (r : Option Defined) → item.name ≡ Some index
    → slice_get ts index ≡ Some t → r ≡ named_by text item t → r ≡ defined_by text ts item
defined_is text ts item index t r name get e =
    let by_token : Option Token → Option Defined = λ o. elim o [ None ↦ None | Some u ↦ named_by text item u ] in
    let by_name : Option ℕ → Option Defined = λ o. elim o [ None ↦ None | Some n ↦ by_token (slice_get ts n) ] in
    e ∙ sym (ap by_token get) ∙ sym (ap by_name name)

-- the token of a number
pub got : (ts : List Token) (i : ℕ) (t : Token) → i < length ts → t ≡ get_or ts i t → slice_get ts i ≡ Some t
got [] i t l e = absurd (omega (arith, l))
got (u ∷ us) zero t l e = ap Some (sym e)
got (u ∷ us) (suc i) t l e = got us i t (omega (arith, l)) e
