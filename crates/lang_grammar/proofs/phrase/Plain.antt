-- Names and numbers do not matter to how far an expression reaches.
use Rattle.std.specs.Prelude.{slice_range, not}
use Rattle.std.proofs.Common.{◌≡◌, ◌∙◌, ◌+◌, ℕ, List, [], ◌∷◌, refl, ap, map, Bool, true, false}
use Rattle.lang_grammar.specs.Grammar.{Kind}
use Rattle.lang_grammar.specs.Machine.{Goal}
use Rattle.lang_grammar.specs.Verdicts.{verdict, Verdict, goes, refused, too_deep}
use Rattle.lang_grammar.specs.Expressions.{Reach, reaches, stops_at, nests_at}
use Rattle.lang_grammar.specs.Reaches.{is_infix, ends_before, longer, reach}
use Rattle.lang_grammar.specs.View.{kind_of, plain_kind, tokens_of, plain_token}
use Rattle.lang_grammar.proofs.view.Plain.{plain_verdict}
use Rattle.lang_tokens.specs.declared.token.Kind as lex_kind
use Rattle.lang_tokens.specs.declared.token.Token as lex_token

infix_same : (k : lex_kind.Kind) (bytes : List ℕ) → is_infix (plain_kind k) ≡ is_infix (kind_of bytes k)
infix_same (lex_kind.TheVariants.Word w) bytes = refl
infix_same _ bytes = refl

ends_same : (gs : List Goal) (k l : Kind) → is_infix k ≡ is_infix l → ends_before gs k ≡ ends_before gs l
ends_same [] k l e = refl
ends_same (g ∷ []) k l e = ap not e
ends_same (g ∷ h ∷ gs) k l e = refl

abbrev by : Bool → Verdict → ℕ → (List Goal → Reach) → Reach
by b v a f = elim b as (λ x. Reach) [
  | true ↦ reaches 0
  | false ↦ elim v as (λ x. Reach)
      [ goes next ↦ longer (f next) | refused ↦ stops_at a | too_deep ↦ nests_at a ]
]

-- an expression reaches as far whatever names and numbers are
pub plain_reach : (text : List ℕ) (gs : List Goal) (ts : List lex_token.Token)
    → reach gs (map plain_token ts) ≡ reach gs (tokens_of text ts)
plain_reach text gs [] = refl
plain_reach text gs (t ∷ ts) =
    let bytes = slice_range text t.at (t.at + t.len) in
    on (ends_before gs (plain_kind t.kind)) (ends_before gs (kind_of bytes t.kind)) (verdict gs (plain_kind t.kind))
    (verdict gs (kind_of bytes t.kind)) t.at
    (ends_same gs (plain_kind t.kind) (kind_of bytes t.kind) (infix_same t.kind bytes)) (plain_verdict gs t.kind bytes)
    (λ next. plain_reach text next ts) where
      same : (b : Bool) (v : Verdict) (a : ℕ) {f h : List Goal → Reach} → ((next : List Goal) → f next ≡ h next) → by b v a f ≡ by b v a h
      same true v a i = refl
      same false (goes next) a i = ap longer (i next)
      same false refused a i = refl
      same false too_deep a i = refl

      on : (b c : Bool) (v w : Verdict) (a : ℕ) {f h : List Goal → Reach} → b ≡ c → v ≡ w → ((next : List Goal) → f next ≡ h next)
          → by b v a f ≡ by c w a h
      on b c v w a {f} {h} d e i = ap (λ (x : Bool). by x v a f) d ∙ ap (λ (x : Verdict). by c x a f) e ∙ same c w a i
