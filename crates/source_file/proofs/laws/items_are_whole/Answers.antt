use Rattle.std.proofs.Common.{◌≡◌, ◌<◌, ℕ, zero, suc, List, [], ◌∷◌, length, subst, arith}
use Rattle.std.specs.Prelude.{slice_index_or}
use Rattle.lang_tokens.specs.declared.token.Token.{Token}
use Rattle.source_constants.specs.Directives.{code_of}
use Rattle.source_file.specs.declared.functions.Defined.{Defined}
use Rattle.source_file.proofs.wholes.Functions.{AllWhole, IsWhole, all_whole, whole_never_short}
use Rattle.source_file.proofs.laws.items_are_whole.Goals as goal

whole_at : (ts : List Token) (ds : List Defined) (d : Defined) (k : ℕ) → AllWhole ts ds → k < length ds → slice_index_or ds k d ≡ d
    → IsWhole ts d
whole_at ts [] d k h l e = absurd (omega (arith, l))
whole_at ts (c ∷ ds) d zero h l e = subst (IsWhole ts) e h.0
whole_at ts (c ∷ ds) d (suc k) h l e = whole_at ts ds d k h.1 (omega (arith, l)) e

pub returns : goal.returns
returns c = λ text ts items d f definitions (k, l, e) s.
    let code = code_of ts in
    whole_never_short definitions text code d (whole_at code _ d k (all_whole text code items f) l e) s
