use Rattle.std.proofs.Common.{◌≡◌, ◌∙◌, ◌++◌, ◌∷◌, ◌+◌, ℕ, suc, [], Bool, Option, ap, ap₂, arith, refl, sym, true, false}
use Rattle.source_items.specs.declared.item.Begun.{Begun}
use Rattle.source_items.specs.declared.item.Head.{Head}
use Rattle.source_items.specs.declared.item.Item.{Item}
use Rattle.source_items.specs.Begun.{is_braced, is_round, named, next_head}
use Rattle.source_items.proofs.division.Found.{meets_next}
use Rattle.source_items.proofs.division.take_element.Goals as goal

pub returns-in_ok-push-clause-meets : goal.returns-in_ok-push-clause-meets
returns-in_ok-push-clause-meets c = λ base e l m n k h.
    let end : c.args.index + 1 ≡ suc c.args.index = omega arith in
    let name : c.name.result ≡ named (next_head c.args.reading.now.begun.head c.args.last c.args.index) =
    c.name.ensures ∙ ap named c.with-begun.ensures.head in
    let item = ap₂ (λ (k : ℕ) (x : Option ℕ). let here : Item = record { first = c.args.reading.now.first; end = k; name = x } in here)
    end name in
    meets_next base e c.args.last c.args.index c.args.reading.now _ l m n k h true (sym c.if-ends_with.ensures) record {
      items = c.in_ok-push.ensures.items ∙ ap (λ (x : Item). c.args.reading.now.items.items ++ x ∷ []) item;
      first = end;
      begun = c.none-reading.ensures;
    }

pub returns-else-ends_with-clause-meets : goal.returns-else-ends_with-clause-meets
returns-else-ends_with-clause-meets c = λ base e l m n k h.
    let b = c.with-begun.ensures in
    meets_next base e c.args.last c.args.index c.args.reading.now _ l m n k h false (sym c.if-ends_with.ensures) record {
      items = refl;
      first = refl;
      begun = ap₂ (λ (x : Bool) (y : Bool). let here : Begun = record { braced = x; round = y; head = c.with-begun.result.head } in here)
          b.braced b.round
          ∙ ap (λ (h : Head). let here : Begun = record {
            braced = is_braced c.args.reading.now.begun c.args.last;
            round = is_round c.args.last;
            head = h;
          } in here) b.head;
    }
