-- How many tokens a text has, and where they begin.
use Rattle.std.proofs.Common.{◌≡◌, ◌∙◌, ◌≤◌, ◌<◌, ◌+◌, ◌-◌, ◌^◌, ◌++◌, ◌∷◌, ℕ, zero, suc, List, [], length, get_or, take, drop, sym, subst}
use Rattle.std.proofs.Common.{arith}
use Rattle.std.proofs.lemmas.List.{get_or-drop, get_or-take, length-drop, length-take}
use Rattle.base_limits.specs.declared.limits.TheConstants.{MOST_PROGRAM_BYTES}
use Rattle.lang_tokens.specs.declared.token.Kind.TheVariants.{Name}
use Rattle.lang_tokens.specs.declared.token.Token.{Token}
use Rattle.lang_tokens.specs.Reading.{end_at}
use Rattle.lang_tokens.specs.TokenLists.{AreTokensAfter, AreTokensOf}
use Rattle.source_tokens.specs.Texts.{IsTokenIn}

-- tokens behind a place, the end included
few_after : (text : List ℕ) (place : ℕ) (ts : List Token) → place ≤ length text → AreTokensAfter text place ts
    → length (ts ++ end_at (length text) ∷ []) + place ≤ length text + 1
few_after text place [] h i = omega arith
few_after text place (t ∷ ts) h i = let more : length (ts ++ end_at (length text) ∷ []) + (t.at + t.len) ≤ length text + 1 =
    few_after text (t.at + t.len) ts i.0.within i.1 in omega (arith, more, i.0.some, i.0.after)

-- A text has at most one token more than bytes.
pub few_tokens : (text : List ℕ) (ts : List Token) → AreTokensOf text ts → length ts ≤ length text + 1
few_tokens text ts tokens = let P : List Token → Type 0 = λ l. length l ≤ length text + 1 in
    subst P tokens.ended (omega (arith, few_after text 0 tokens.front (omega arith) tokens.placed))

-- where tokens behind a place begin
within_after : (text : List ℕ) (place : ℕ) (ts : List Token) → AreTokensAfter text place ts → (k : ℕ) (d : Token)
    → k < length (ts ++ end_at (length text) ∷ []) → (get_or (ts ++ end_at (length text) ∷ []) k d).at ≤ length text
within_after text place [] i zero d h = omega arith
within_after text place [] i (suc k) d h = absurd (omega arith)
within_after text place (t ∷ ts) i zero d h = omega (arith, i.0.within)
within_after text place (t ∷ ts) i (suc k) d h = within_after text (t.at + t.len) ts i.1 k d (omega arith)

-- A token begins in the text or at its end.
pub within_text : (text : List ℕ) (ts : List Token) → AreTokensOf text ts → (k : ℕ) (d : Token) → k < length ts
    → (get_or ts k d).at ≤ length text
within_text text ts tokens = let P : List Token → Type 0 = λ l. (k : ℕ) (d : Token) → k < length l → (get_or l k d).at ≤ length text in
    subst P tokens.ended (within_after text 0 tokens.front tokens.placed)

-- what tokens behind a place are, where they are no end
name_after : (text : List ℕ) (place : ℕ) (ts : List Token) → AreTokensAfter text place ts → (k : ℕ) (d : Token)
    → k < length (ts ++ end_at (length text) ∷ []) → (get_or (ts ++ end_at (length text) ∷ []) k d).kind ≡ Name
    → IsTokenIn text (get_or (ts ++ end_at (length text) ∷ []) k d)
name_after text place [] i zero d h e = cc
name_after text place [] i (suc k) d h e = absurd (omega (arith, h))
name_after text place (t ∷ ts) i zero d h e = record { within = i.0.within; is_token = i.0.is_token }
name_after text place (t ∷ ts) i (suc k) d h e = name_after text (t.at + t.len) ts i.1 k d (omega (arith, h)) e

-- A token that is a name stands in the text.
name_in : (text : List ℕ) (ts : List Token) → AreTokensOf text ts → (k : ℕ) (d : Token) → k < length ts → (get_or ts k d).kind ≡ Name
    → IsTokenIn text (get_or ts k d)
name_in text ts tokens =
    let P : List Token → Type 0 = λ l. (k : ℕ) (d : Token) → k < length l → (get_or l k d).kind ≡ Name → IsTokenIn text (get_or l k d) in
    subst P tokens.ended (name_after text 0 tokens.front tokens.placed)

-- a place of a text is a number of the code, and so is the next one
pub fits_code : (n m : ℕ) → n ≤ m → m ≤ MOST_PROGRAM_BYTES → n < 2 ^ 32 - 1
fits_code n m h i = omega arith

-- ---- some of the tokens
-- they are few
pub few_between : (text : List ℕ) (ts : List Token) → AreTokensOf text ts → (count first k d : ℕ) → k < length (take count (drop first ts))
    → d ≤ k → d ≤ length text
few_between text ts tokens count first k d h i =
    omega (arith, few_tokens text ts tokens, length-take count (drop first ts), length-drop first ts, h, i)

-- and each begins in the text or at its end
pub within_between : (text : List ℕ) (ts : List Token) → AreTokensOf text ts → (count first k : ℕ) (d : Token)
    → k < length (take count (drop first ts)) → (get_or (take count (drop first ts)) k d).at ≤ length text
within_between text ts tokens count first k d h =
    let P : Token → Type 0 = λ t. t.at ≤ length text in
    let few : k < count = omega (arith, length-take count (drop first ts), h) in
    let there : first + k < length ts = omega (arith, length-take count (drop first ts), length-drop first ts, h) in
    let same : get_or (take count (drop first ts)) k d ≡ get_or ts (first + k) d =
    get_or-take count (drop first ts) k d few ∙ get_or-drop first ts k d in
    subst P (sym same) (within_text text ts tokens (first + k) d there)

-- and one that is a name stands in the text
pub name_between : (text : List ℕ) (ts : List Token) → AreTokensOf text ts → (count first k : ℕ) (d : Token)
    → k < length (take count (drop first ts)) → (get_or (take count (drop first ts)) k d).kind ≡ Name
    → IsTokenIn text (get_or (take count (drop first ts)) k d)
name_between text ts tokens count first k d h =
    let P : Token → Type 0 = λ t. t.kind ≡ Name → IsTokenIn text t in
    let few : k < count = omega (arith, length-take count (drop first ts), h) in
    let there : first + k < length ts = omega (arith, length-take count (drop first ts), length-drop first ts, h) in
    let same : get_or (take count (drop first ts)) k d ≡ get_or ts (first + k) d =
    get_or-take count (drop first ts) k d few ∙ get_or-drop first ts k d in
    subst P (sym same) (name_in text ts tokens (first + k) d there)
