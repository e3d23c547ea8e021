use Rattle.std.proofs.Common.{◌≡◌, ◌++◌, ◌∷◌, [], List, Result, Ok, Err, map, false, sym, ap, ◌∙◌, subst}
use Rattle.std.specs.Prelude.{OnOk}
use Rattle.cert_written.specs.declared.trace.Trace.{Trace}
use Rattle.cert_text.specs.Naming.{AreSpelt, is_listed, trace_text, with_trace}
use Rattle.cert_text.proofs.numbering.Texts.{any_listed, spelt_more, texts_more, with_listed, with_new}
use Rattle.cert_text.proofs.numbering.Numbering.add.Goals as goal
use Rattle.cert_text.proofs.numbering.Numbering.add.Goals.{in-Ok, in-Err}

on_any : {A E : Type 0} (r : Result A E) (P : Type 0) → P → OnOk r P
on_any (Ok x) P p = p
on_any (Err e) P p = tt

on_err : {A E : Type 0} (r : Result A E) (e : E) (P : Type 0) → r ≡ Err e → OnOk r P
on_err (Ok x) e P h = absurd cc
on_err (Err f) e P h = tt

pub returns-then-contains : goal.returns-then-contains
returns-then-contains c =
    with_listed c.args.self.now c.args.trace.now
    (sym (any_listed c.as_slice.result.now c.args.trace.now c.self.inside.texts.keys c.args.self.now
    (c.as_slice.ensures.value ∙ c.in_ok-text.ensures.text)
    (c.self.invariant.0 ∙ ap (λ (ts : List Trace). map trace_text ts) c.self.view_is)) ∙ sym c.contains.ensures ∙ c.if-contains.true)

pub invariant_of-self-in-Ok : goal.invariant_of-self-in-Ok
invariant_of-self-in-Ok c =
    let ts = c.self.inside.list.items in
    let t = c.args.trace.now in
    let items : c.push.new.self.items ≡ ts ++ t ∷ [] = c.in_ok-push.ensures.items ∙ ap (λ (x : Trace). ts ++ x ∷ []) c.in_ok-copy.ensures in
    let new : is_listed ts t ≡ false =
    sym (any_listed c.as_slice.result.now t c.self.inside.texts.keys ts (c.as_slice.ensures.value ∙ c.in_ok-text.ensures.text)
    c.self.invariant.0) ∙ sym c.contains.ensures ∙ c.if-contains.false in (
      texts_more c.self.inside.texts.keys c.insert.new.self.keys c.in_ok-text.text ts t c.in_ok-text.ensures.text c.self.invariant.0 new
          c.in-Ok.ensures.keys ∙ ap (λ (xs : List Trace). map trace_text xs) (sym items),
      subst AreSpelt (sym items) (spelt_more ts t c.self.invariant.1 c.in_ok-text.ensures.spelt),
    )

pub returns : goal.returns
returns c =
    let ts = c.self.inside.list.items in
    let t = c.args.trace.now in
    let items : c.push.new.self.items ≡ ts ++ t ∷ [] = c.in_ok-push.ensures.items ∙ ap (λ (x : Trace). ts ++ x ∷ []) c.in_ok-copy.ensures in
    let new : is_listed ts t ≡ false =
    sym (any_listed c.as_slice.result.now t c.self.inside.texts.keys ts (c.as_slice.ensures.value ∙ c.in_ok-text.ensures.text)
    c.self.invariant.0) ∙ sym c.contains.ensures ∙ c.if-contains.false in
    elim c.match-insert.branch [
      | in-Ok w ↦ on_any c.match-insert.result _ (w.self-is ∙ items ∙ with_new ts t new
          ∙ ap (λ (xs : List Trace). with_trace xs t) c.self.view_is)
      | in-Err w ↦ on_err c.match-insert.result _ _ w.result-is
    ]
