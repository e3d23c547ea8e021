use Rattle.std.proofs.Common.{◌≡◌, ◌∙◌, ◌+◌, ◌∷◌, [], length, get_or, sym, ap, subst, arith, below_more}
use Rattle.std.proofs.lemmas.List.{length-append, get_or_append_left, get_or_push}
use Rattle.solve_joint.specs.Classes.{IsHome}
use Rattle.solve_joint.proofs.homes.homes.Goals as goal

pub loop-point-preserved : goal.loop-point-preserved
loop-point-preserved c =
    let homes = c.loop-point.homes.items in
    let rows = c.args.rows.now in
    let e = c.in_ok-push.ensures.items in
    let size = c.loop-point.invariant.size in
    record {
      size = ap (λ xs. length xs) e ∙ length-append homes (c.home.result ∷ []) ∙ ap (λ n. n + 1) size;
      each = below_more (λ p. IsHome rows p (get_or c.push.new.self.items p 0)) c.loop-point.point
          (λ p l. subst (λ h. IsHome rows p h) (sym (ap (λ xs. get_or xs p 0) e
          ∙ get_or_append_left homes (c.home.result ∷ []) 0 p (omega (arith, l, size)))) (c.loop-point.invariant.each p l))
          (subst (λ h. IsHome rows c.loop-point.point h) (sym (ap (λ xs. get_or xs c.loop-point.point 0) e
          ∙ get_or_push homes c.home.result 0 c.loop-point.point size)) c.home.ensures);
    }

pub returns : goal.returns
returns c =
    let all : c.loop-point.point ≡ c.args.points =
    (let t = c.loop-point-test.false in let k = c.loop-point.auto.point-end in omega arith) in
    record {
      size = c.loop-point.invariant.size ∙ all;
      each = λ p l. c.loop-point.invariant.each p (omega (arith, l, all));
    }
