-- A token that the search takes.
use Rattle.std.proofs.Common.{◌≡◌, ◌∙◌, ◌<◌, ◌+◌, ◌∷◌, ℕ, ℤ, suc, List, Option, length, get_or, drop, sym, ap, arith}
use Rattle.std.proofs.Math.Seq.{drop-cons}
use Rattle.lang_tokens.specs.declared.token.Token.{Token}
use Rattle.source_tokens.specs.Constants.{constant_at}
use Rattle.source_tokens.specs.View.{bytes_of, kind_of, tokens_of}
use Rattle.source_tokens.specs.declared.definition.Definition.{Definition}
use Rattle.acsl_anchors.specs.Parts.{part_of}
use Rattle.acsl_anchors.specs.Machine.{State, run, step}
use Rattle.acsl_anchors.specs.Search.{scope_in, stack_of, state_of}
use Rattle.acsl_anchors.specs.declared.part.Part.{Part}
use Rattle.acsl_anchors.specs.declared.search.Search.{Search}

-- the search behind it is the machine's run behind it
pub token_taken : (constants : List Definition) (text : List ℕ) (ts : List Token) (i : ℕ) (d : Token) (search now : Search) (part : Part)
    (end : State) → i < length ts
    → ((value : Option ℤ) → part ≡ part_of (kind_of (bytes_of text (get_or ts i d)) value (get_or ts i d).kind))
    → state_of now ≡ step (stack_of search.goals.items) part (get_or ts i d).at (scope_in search) search.anchors.items
    → run (state_of search) (tokens_of constants text (drop i ts)) ≡ end
    → run (state_of now) (tokens_of constants text (drop (i + 1) ts)) ≡ end
token_taken constants text ts i d search now part end within seen taken before =
    let t = get_or ts i d in
    let more : suc i ≡ i + 1 = omega arith in
    let rest = tokens_of constants text (drop (i + 1) ts) in
    let split : drop i ts ≡ t ∷ drop (i + 1) ts = drop-cons ts i d within ∙ ap (λ (n : ℕ). t ∷ drop n ts) more in
    ap (λ (st : State). run st rest) taken
    ∙ ap (λ (p : Part). run (step (stack_of search.goals.items) p t.at (scope_in search) search.anchors.items) rest)
    (seen (constant_at constants (bytes_of text t) t.at))
    ∙ ap (λ (l : List Token). run (state_of search) (tokens_of constants text l)) (sym split) ∙ before
