use Rattle.std.proofs.Common.{◌≡◌, ◌∙◌, get_or, false, ◌-◌, take, take_all, length-drop, ◌+◌, List, [], length, drop, ap, sym, arith}
use Rattle.std.proofs.Common.{ℕ}
use Rattle.std.specs.declared.alloc.Global.{Global}
use Rattle.std.specs.declared.vec.Vec.{Vec}
use Rattle.lang_tokens.specs.declared.token.Token.{Token}
use Rattle.source_grammar.specs.Symbols.{symbol_kind}
use Rattle.source_meaning.specs.Walk.{distinct}
use Rattle.source_tokens.specs.View.{bytes_of, tokens_of}
use Rattle.source_tokens.proofs.placed.Fronts.{each_in}
use Rattle.source_file.specs.declared.width.Place.{Place}
use Rattle.source_file.specs.Width.{begins_bracket, declared_from, next}
use Rattle.source_file.proofs.choice.Repeats.{texts}
use Rattle.source_file.proofs.width.Keys.{inserted}
use Rattle.source_file.proofs.width.Steps.{declares, passes, sizes}
use Rattle.source_file.proofs.width.counted.Goals as goal
use Rattle.source_file.proofs.width.counted.Goals.{then-names+then-not-begins_bracket+in_ok-from_slice+in_ok-insert, else-names}
use Rattle.source_file.proofs.width.counted.Goals.{else-names-via-then-names+else-not-begins_bracket, else-names-via-else-names}

-- all that stands behind a place
rest_is : (ts : List Token) (n : ℕ) → take (length ts - n) (drop n ts) ≡ drop n ts
rest_is ts n = take_all (length ts - n) (drop n ts) (omega (arith, length-drop n ts))

pub bytes_of-requires : goal.bytes_of-requires
bytes_of-requires c = (each_in c.args.text.now c.args.tokens.now c.loop-index.index _ c.requires c.loop-index-test.true).within

pub loop-index-preserved : goal.loop-index-preserved
loop-index-preserved c =
    let text = c.args.text.now in
    let ts = c.args.tokens.now in
    let i = c.loop-index.index in
    let p = c.loop-index.place in
    let keys = c.loop-index.before.keys in
    let symbol = symbol_kind c.symbol_of-symbol.result in
    let is = c.symbol_of-symbol.ensures in
    let rest = tokens_of [] text (drop (i + 1) ts) in
    let there : declared_from c.next-place.result rest ≡ declared_from (next p symbol) rest =
    ap (λ (q : Place). declared_from q rest) c.next-place.ensures.place in
    let counts : List (Vec ℕ Global) → List (List ℕ) → ℕ = λ ks l. distinct (texts ks) l + length ks in
    let behind = rest_is ts (i + 1) in
    let begins : begins_bracket (tokens_of [] text (take (length ts - (i + 1)) (drop (i + 1) ts))) ≡ begins_bracket rest =
    ap (λ (x : List Token). begins_bracket (tokens_of [] text x)) behind in
    record {
      counted = elim c.if-names.branch [
        | then-names+then-not-begins_bracket+in_ok-from_slice+in_ok-insert w ↦ (
            let same : c.if-names.before.keys ≡ w.insert.new.self.keys = ap (λ b. b.keys) w.before-is in
            let bare : begins_bracket rest ≡ false =
            sym begins ∙ sym (w.begins_bracket.ensures text) ∙ w.if-not-begins_bracket.true in
            let key : w.in_ok-from_slice.field-0.items ≡ bytes_of text (get_or ts i _) =
            w.in_ok-from_slice.ensures.items ∙ w.bytes_of.ensures in
            ap (λ (ks : List (Vec ℕ Global)). counts ks (declared_from c.next-place.result rest)) same
            ∙ ap (λ (l : List (List ℕ)). counts w.insert.new.self.keys l) there
            ∙ inserted _ (declared_from (next p symbol) rest) keys w.in_ok-from_slice.field-0 key w.insert.new.self.keys
            w.in_ok-insert.ensures.keys
            ∙ ap (λ (l : List (List ℕ)). counts keys l)
            (sym (declares text ts i _ c.loop-index-test.true p symbol is (sym c.names.ensures ∙ w.if-names.true) bare))
            ∙ c.loop-index.invariant.counted)
        | else-names w ↦ (
            let same : c.if-names.before.keys ≡ keys = ap (λ b. b.keys) w.before-is in
            let passed : declared_from p (tokens_of [] text (drop i ts)) ≡ declared_from (next p symbol) rest =
            elim w.else-names.branch [
              | else-names-via-then-names+else-not-begins_bracket v ↦
                  sizes text ts i _ c.loop-index-test.true p symbol is (sym c.names.ensures ∙ v.if-names.true)
                  (sym begins ∙ sym (v.begins_bracket.ensures text) ∙ v.if-not-begins_bracket.false)
              | else-names-via-else-names v ↦
                  passes text ts i _ c.loop-index-test.true p symbol is (sym c.names.ensures ∙ v.if-names.false)
            ] in
            ap (λ (ks : List (Vec ℕ Global)). counts ks (declared_from c.next-place.result rest)) same
            ∙ ap (λ (l : List (List ℕ)). counts keys l) (there ∙ sym passed) ∙ c.loop-index.invariant.counted)
      ];
      depth = omega (arith, c.next-place.ensures.depth, c.loop-index.invariant.depth);
    }
