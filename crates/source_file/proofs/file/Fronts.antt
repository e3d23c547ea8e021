-- The tokens of a text without its end.
use Rattle.std.proofs.Common.{◌≡◌, ◌∙◌, ◌++◌, ◌+◌, ◌-◌, ◌<◌, ℕ, List, [], ◌∷◌, Option, Result, Ok, Err, length, take, sym, ap, ap₂}
use Rattle.std.proofs.Common.{subst, arith}
use Rattle.std.proofs.Common.{length-append}
use Rattle.std.proofs.Math.Seq.{take-append_seam}
use Rattle.lang_tree.specs.declared.program.Program.{Program}
use Rattle.lang_tokens.specs.declared.token.Token.{Token}
use Rattle.lang_tokens.specs.Reading.{end_at}
use Rattle.lang_tokens.specs.TokenLists.{AreTokensOf}
use Rattle.source_tokens.specs.Texts.{AreTokensIn}
use Rattle.source_tokens.proofs.placed.Fronts.{front_in}
use Rattle.source_file.specs.Gives.{Gives, NamesGive, NamesTell, Tells}
use Rattle.source_file.specs.Meaning.{Answer, Means, NamesAre}
use Rattle.source_file.specs.declared.fault.SourceFault.{SourceFault}
use Rattle.source_file.proofs.meaning.Every.{each_means, each_names}
use Rattle.source_file.proofs.meaning.Once.{means_once, names_once}
use Rattle.source_file.proofs.file.Told.{tells_gives}
use Rattle.base_integers.specs.declared.integers.Integers.{Integers}

-- the end is a token
pub some_token : (text : List ℕ) (ts : List Token) → AreTokensOf text ts → 0 < length ts
some_token text ts h =
    let count : length ts ≡ length h.front + length (end_at (length text) ∷ []) =
    ap (λ (x : List Token). length x) (sym h.ended) ∙ length-append h.front (end_at (length text) ∷ []) in
    omega (arith, count)

-- all tokens but the last
pub front_is : (ts front : List Token) (end : Token) → front ++ end ∷ [] ≡ ts → take (length ts - 1) ts ≡ front
front_is ts front end e =
    let count : length front ≡ length ts - 1 =
    (let all : length ts ≡ length front + length (end ∷ []) = ap (λ (x : List Token). length x) (sym e) ∙ length-append front (end ∷ []) in
    omega (arith, all)) in
    ap₂ (λ (n : ℕ) (x : List Token). take n x) (sym count) (sym e) ∙ take-append_seam front (end ∷ [])

-- they stand in the text
pub taken_in : (text : List ℕ) (ts : List Token) → AreTokensOf text ts → AreTokensIn text (take (length ts - 1) ts)
taken_in text ts h =
    subst (AreTokensIn text) (sym (front_is ts h.front (end_at (length text)) h.ended)) (front_in text ts h.front h h.ended)

module _ (integers : Integers) (text : List ℕ) (asked : Option (List ℕ)) (ts front : List Token) (end : Token) (e : front ++ end ∷ [] ≡ ts)
    (r : Result Program SourceFault) (told : Tells integers r (Means integers text asked (take (length ts - 1) ts))) where
  -- what is meant is answered
  pub front_exact : (wanted : Answer) → Means integers text asked front wanted → Gives integers r wanted
  front_exact wanted m =
      tells_gives integers r (Means integers text asked (take (length ts - 1) ts)) wanted
      (λ one n. means_once integers text asked front one wanted
      (subst (λ (x : List Token). Means integers text asked x one) (front_is ts front end e) n) m) told

  -- what is answered is meant
  pub front_found : (wanted : Answer) × Means integers text asked front wanted × Gives integers r wanted
  front_found = let w = each_means integers text asked front in (w.0, w.1, front_exact w.0 w.1)

names_give : (text : List ℕ) (ts : List Token) (r wanted : Result (List (List ℕ)) SourceFault) → NamesTell r (NamesAre text ts)
    → NamesAre text ts wanted
    → NamesGive r wanted
names_give text ts (Ok names) wanted told m = names_once text ts wanted (Ok names) m told
names_give text ts (Err e) wanted told m = λ n. names_once text ts wanted (Err e) m (told n)

module _ (text : List ℕ) (ts front : List Token) (end : Token) (e : front ++ end ∷ [] ≡ ts)
    (r : Result (List (List ℕ)) SourceFault) (told : NamesTell r (NamesAre text (take (length ts - 1) ts))) where
  -- what the functions are is answered
  pub names_exact : (wanted : Result (List (List ℕ)) SourceFault) → NamesAre text front wanted → NamesGive r wanted
  names_exact wanted m =
      names_give text front r wanted (subst (λ (x : List Token). NamesTell r (NamesAre text x)) (front_is ts front end e) told) m

  -- what is answered is so
  pub names_found : (wanted : Result (List (List ℕ)) SourceFault) × NamesAre text front wanted × NamesGive r wanted
  names_found = let w = each_names text front in (w.0, w.1, names_exact w.0 w.1)
