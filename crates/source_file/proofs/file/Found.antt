-- Which tokens are the function that is asked about.
use Rattle.std.proofs.Common.{◌≡◌, ◌∙◌, ◌++◌, ◌-◌, ◌≤◌, ℕ, List, [], ◌∷◌, Option, Result, Ok, Err, length, take, sym, ap, subst}
use Rattle.std.specs.Prelude.{IfOk, IfErr}
use Rattle.base_integers.specs.declared.integers.Integers.{Integers}
use Rattle.lang_tokens.specs.declared.token.Token.{Token}
use Rattle.lang_tokens.specs.Reading.{end_at}
use Rattle.source_tokens.specs.View.{tokens_of}
use Rattle.source_constants.specs.Directives.{code_of}
use Rattle.source_file.specs.declared.file.Chosen.{Chosen}
use Rattle.source_file.specs.declared.fault.SourceFault.{SourceFault}
use Rattle.source_file.specs.declared.fault.SourceFault.TheVariants.{NoMemory}
use Rattle.source_file.specs.Meaning.{Answer, FunctionMeans, IsChosen, Means, item_of}
use Rattle.source_file.proofs.file.Fronts.{front_is}
use Rattle.source_file.proofs.file.Meant.{chosen_only, end_is, first_is}

module _ (integers : Integers) (text : List ℕ) (asked : Option (List ℕ)) (ts : List Token) where
  abbrev inside : List Token
  inside = take (length ts - 1) ts

  abbrev IsIn : Chosen → Type 0
  IsIn c = IsChosen integers text asked inside c.definitions.items c.function

  abbrev HasCode : Chosen → Type 0
  HasCode c = c.code.items ≡ code_of inside

  -- a function is in order
  pub found_order : (r : Result Chosen SourceFault) → IfOk r IsIn → IfOk r (λ c. c.function.first ≤ c.function.end)
  found_order (Ok c) h = first_is integers text asked inside c.definitions.items c.function h
  found_order (Err e) h = tt

  -- and there
  pub found_within : (r : Result Chosen SourceFault) → IfOk r HasCode → IfOk r IsIn
      → IfOk r (λ c. c.function.end ≤ length c.code.items)
  found_within (Ok c) k h =
      subst (λ (x : List Token). c.function.end ≤ length x) (sym k) (end_is integers text asked inside c.definitions.items c.function h)
  found_within (Err e) k h = tt

  -- its tokens are those of code
  pub found_code : (r : Result Chosen SourceFault) → IfOk r HasCode
      → IfOk r (λ c. (front : List Token) → front ++ end_at (length text) ∷ [] ≡ ts → c.code.items ≡ code_of front)
  found_code (Ok c) k = λ front e. k ∙ ap code_of (front_is ts front (end_at (length text)) e)
  found_code (Err e) k = tt

  -- it is the one that is asked about
  pub found_chosen : (r : Result Chosen SourceFault) → IfOk r IsIn
      → IfOk r (λ c. (front : List Token) → front ++ end_at (length text) ∷ [] ≡ ts
      → IsChosen integers text asked front c.definitions.items c.function)
  found_chosen (Ok c) h = λ front e.
      subst (λ (x : List Token). IsChosen integers text asked x c.definitions.items c.function)
      (front_is ts front (end_at (length text)) e) h
  found_chosen (Err e) h = tt

  -- and means what the file does
  pub found_means : (r : Result Chosen SourceFault) → IfOk r HasCode → IfOk r IsIn
      → IfOk r (λ c. (front : List Token) → front ++ end_at (length text) ∷ [] ≡ ts → (wanted : Answer)
      → Means integers text asked front wanted
      → FunctionMeans integers text (tokens_of c.definitions.items text (item_of c.code.items c.function)) wanted)
  found_means (Ok c) k h = λ front e wanted m.
      let is = front_is ts front (end_at (length text)) e in
      subst (λ (x : List Token). FunctionMeans integers text (tokens_of c.definitions.items text (item_of x c.function)) wanted)
      (sym (k ∙ ap code_of is))
      (chosen_only integers text asked front c.definitions.items c.function
      (subst (λ (x : List Token). IsChosen integers text asked x c.definitions.items c.function) is h) wanted m)
  found_means (Err e) k h = tt

  -- a fault is the file's
  pub found_fault : (r : Result Chosen SourceFault) → IfErr r (λ e. (e ≡ NoMemory → ⊥) → Means integers text asked inside (Err e))
      → IfErr r (λ e. (e ≡ NoMemory → ⊥) → (front : List Token) → front ++ end_at (length text) ∷ [] ≡ ts
      → Means integers text asked front (Err e))
  found_fault (Ok c) h = tt
  found_fault (Err e) h = λ n front i.
      subst (λ (x : List Token). Means integers text asked x (Err e)) (front_is ts front (end_at (length text)) i) (h n)
