-- A token that the search takes.
use Rattle.std.proofs.Common.{◌≡◌, ◌∙◌, ◌<◌, ◌+◌, ◌∷◌, ℕ, zero, suc, List, [], length, get_or, drop, sym, ap, arith}
use Rattle.std.proofs.Math.Seq.{drop-cons}
use Rattle.lang_tokens.specs.declared.token.Token.{Token}
use Rattle.source_tokens.specs.Constants.{constant_at}
use Rattle.source_tokens.specs.Texts.{AreTokensIn, IsTokenIn}
use Rattle.source_tokens.specs.View.{bytes_of, kind_of, tokens_of}
use Rattle.source_tokens.specs.declared.definition.Definition.{Definition}
use Rattle.source_packs.specs.Parts.{part_of}
use Rattle.source_packs.specs.Machine.{State, run, step}
use Rattle.source_packs.specs.Search.{book_in, stack_of, state_of}
use Rattle.source_packs.specs.declared.part.Part.{Part}
use Rattle.source_packs.specs.declared.search.Search.{Search}

-- a token stands in the text where all of them do
pub one_in : (text : List ℕ) (ts : List Token) → AreTokensIn text ts → (k : ℕ) (d : Token) → k < length ts → IsTokenIn text (get_or ts k d)
one_in text [] h k d l = absurd (omega (arith, l))
one_in text (t ∷ ts) h zero d l = h.0
one_in text (t ∷ ts) h (suc k) d l = one_in text ts h.1 k d (omega (arith, l))

-- the search behind it is the machine's run behind it
pub token_taken : (names : List (List ℕ)) (constants : List Definition) (text : List ℕ) (ts : List Token) (i : ℕ) (d : Token)
    (search now : Search) (part : Part) (end : State) → i < length ts
    → part ≡ part_of names (kind_of (bytes_of text (get_or ts i d))
    (constant_at constants (bytes_of text (get_or ts i d)) (get_or ts i d).at)
    (get_or ts i d).kind)
    → state_of now ≡ step (stack_of search.goals.items) part (book_in search)
    → run names (state_of search) (tokens_of constants text (drop i ts)) ≡ end
    → run names (state_of now) (tokens_of constants text (drop (i + 1) ts)) ≡ end
token_taken names constants text ts i d search now part end within seen taken before =
    let t = get_or ts i d in
    let more : suc i ≡ i + 1 = omega arith in
    let rest = tokens_of constants text (drop (i + 1) ts) in
    let split : drop i ts ≡ t ∷ drop (i + 1) ts = drop-cons ts i d within ∙ ap (λ (n : ℕ). t ∷ drop n ts) more in
    ap (λ (st : State). run names st rest) taken
    ∙ ap (λ (p : Part). run names (step (stack_of search.goals.items) p (book_in search)) rest) seen
    ∙ ap (λ (l : List Token). run names (state_of search) (tokens_of constants text l)) (sym split) ∙ before
