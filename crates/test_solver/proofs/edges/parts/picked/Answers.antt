use Rattle.std.proofs.Common.{◌≡◌, ◌∙◌, ℕ, ◌*◌, List, Option, Some, None, length, get_or, ap, ap₂, arith}
use Rattle.std.specs.Prelude.{replicate, slice_set}
use Rattle.test_solver.proofs.edges.parts.picked.Goals as goal

three_set : (none p q r : List (Option ℕ)) (a b c : ℕ) → none ≡ replicate 8 None → p ≡ slice_set none 2 (Some a)
    → q ≡ slice_set p 4 (Some b) → r ≡ slice_set q 6 (Some c) →
    (get_or r 2 None ≡ Some a) × (get_or r 4 None ≡ Some b) × (get_or r 6 None ≡ Some c)
three_set none p q r a b c e f g h =
    let k : r ≡ slice_set (slice_set (slice_set (replicate 8 None) 2 (Some a)) 4 (Some b)) 6 (Some c) =
    h ∙ ap (λ xs. slice_set xs 6 (Some c)) (g ∙ ap (λ xs. slice_set xs 4 (Some b)) (f ∙ ap (λ xs. slice_set xs 2 (Some a)) e)) in
    (ap (λ xs. get_or xs 2 None) k, ap (λ xs. get_or xs 4 None) k, ap (λ xs. get_or xs 6 None) k)

pub returns-clause-picked : goal.returns-clause-picked
returns-clause-picked c =
    let flow = c.args.system.now.flow in
    let n : length flow.points * length c.args.system.now.template ≡ 8 = ap₂ (λ x y. x * y) c.requires.points c.requires.rows in
    let t = three_set c.in_ok-pick.pick c.set.new.self c.set-2.new.self c.set-3.new.self c.args.at_loop c.args.at_join c.args.at_exit
    (c.in_ok-pick.ensures ∙ ap (λ m. replicate m None) n) c.set.ensures c.set-2.ensures c.set-3.ensures in (
      record {
        in_range = omega (arith, n);
        edge = c.args.at_loop;
        picks = t.0;
        is_edge =
            omega (arith, c.requires.at_loop, c.requires.edges);
      },
      (
        record {
          in_range = omega (arith, n);
          edge = c.args.at_join;
          picks = t.1;
          is_edge =
              omega (arith, c.requires.at_join, c.requires.edges);
        },
        (
          record {
            in_range = omega (arith, n);
            edge = c.args.at_exit;
            picks = t.2;
            is_edge =
                omega (arith, c.requires.at_exit, c.requires.edges);
          },
          tt,
        ),
      ),
    )
