use Rattle.std.proofs.Common.{◌∙◌, ◌&&◌, IfOk, List, Result, Ok, Err, Some, ap, ap₂, sym}
use Rattle.cert_written.specs.declared.pairs.Pair.{Pair}
use Rattle.cert_written.specs.Pairs.{ascends}
use Rattle.cert_text.specs.Pairs.{are_pairs, pairs_data}
use Rattle.cert_text.proofs.bounds.WrittenLists.{map_same}
use Rattle.cert_text.proofs.pairs.Ascending.{places_ascend}
use Rattle.cert_text.proofs.pairs.pairs_value.Goals as goal

both : {A E : Type 0} (r : Result A E) (P Q R : A → Type 0) → ((x : A) → P x → Q x → R x) → IfOk r P → IfOk r Q → IfOk r R
both (Ok x) P Q R f p q = f x p q
both (Err e) P Q R f p q = tt

pub returns-clause-shape : goal.returns-clause-shape
returns-clause-shape c =
    let ps = c.as_slice.result.now in
    both c.write_list.result _ _ _ (λ _ p q. ap (λ (xs : List Pair). are_pairs (pairs_data xs)) (sym c.as_slice.ensures.list)
    ∙ ap₂ (λ a b. a && b) p (places_ascend 0 ps
    (ap (λ (xs : List Pair). ascends 0 xs) c.as_slice.ensures.list ∙ c.as_slice.ensures.sparse)
    (q ∙ ap Some (map_same ps)))) c.write_list.ensures.shape c.write_list.ensures.back
