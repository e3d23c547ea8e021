-- The columns of the unknowns of a list as far as they are put.
use Rattle.std.proofs.Common.{◌≡◌, ◌∙◌, ℕ, zero, suc, ◌+◌, ◌-◌, ◌<◌, ◌≤◌, List, [], ◌∷◌, ◌++◌, length, get_or, drop, Option, refl, ap, ap₂}
use Rattle.std.proofs.Common.{sym, append_assoc, arith}
use Rattle.std.proofs.lemmas.List.{append-nil, drop_more, drop_all}
use Rattle.flow_systems.specs.declared.system.System.{System}
use Rattle.solve_ray.specs.declared.layout.Rise.{Rise}
use Rattle.theory_validity.specs.Words.{width, free_count}
use Rattle.solve_joint.specs.Blocks.{edge_at, edge_for, split_width, split_columns}
use Rattle.solve_joint.specs.Layouts.{columns_from, rise_of, rises_from, layout_of}

-- two columns more extend the columns by one
pub columns_push : (first n : ℕ) → columns_from first (n + 1) ≡ columns_from first n ++ (first + n + n) ∷ []
columns_push first zero = let e : first ≡ first + 0 + 0 = omega arith in ap (λ c. c ∷ []) e
columns_push first (suc n) =
    let a : suc n + 1 ≡ suc (n + 1) = omega arith in
    let b : (first + 2) + n + n ≡ first + suc n + suc n = omega arith in
    ap (columns_from first) a ∙ ap (λ xs. first ∷ xs) (columns_push (first + 2) n ∙ ap (λ c. columns_from (first + 2) n ++ c ∷ []) b)

-- the unknowns so far, and where the columns of the next one stand
pub record IsLaid (system : System) (pick : List (Option ℕ)) (list : List ℕ) (done : List Rise) (offset i : ℕ) : Type 0 where
  -- the whole layout is what is laid so far, and then that of the unknowns left
  pub rest : layout_of system pick list ≡ done ++ rises_from system pick (length list) i offset (drop i list)
  -- the columns so far and those left are all columns
  pub columns : offset + split_columns system pick (drop i list) ≡ split_columns system pick list

module _ (system : System) (pick : List (Option ℕ)) (list : List ℕ) where
  -- before the first unknown nothing is laid
  pub laid_none : IsLaid system pick list [] 0 0
  laid_none = record {
    rest = refl;
    columns = let e : 0 + split_columns system pick list ≡ split_columns system pick list = omega arith in
        e;
  }

  -- the rise of the unknown at hand extends what is laid
  pub laid_more : (done : List Rise) (offset i next : ℕ) (rise : Rise) → IsLaid system pick list done offset i → i < length list
      → rise ≡ rise_of system pick (length list) i offset (get_or list i 0) →
      next ≡ offset + split_width system (edge_for pick (get_or list i 0)) → IsLaid system pick list (done ++ rise ∷ []) next (i + 1)
  laid_more done offset i next rise h l e f =
      let more = drop_more list i 0 l in
      record {
        rest = h.rest ∙ ap (λ xs. done ++ rises_from system pick (length list) i offset xs) more
            ∙ ap₂ (λ r o. done ++ r ∷ rises_from system pick (length list) (i + 1) o (drop (i + 1) list)) (sym e) (sym f)
            ∙ sym (append_assoc done (rise ∷ []) (rises_from system pick (length list) (i + 1) next (drop (i + 1) list)));
        columns = let a = h.columns in let b = ap (split_columns system pick) more in omega (arith, a, b, f);
      }

  -- the columns of the unknown at hand are within those of the list
  pub laid_fits : (done : List Rise) (offset i : ℕ) → IsLaid system pick list done offset i → i < length list
      → offset + split_width system (edge_for pick (get_or list i 0)) ≤ split_columns system pick list
  laid_fits done offset i h l = let a = h.columns in let b = ap (split_columns system pick) (drop_more list i 0 l) in omega (arith, a, b)

  -- behind the last unknown the layout is complete
  pub laid_all : (done : List Rise) (offset i : ℕ) → IsLaid system pick list done offset i → length list ≤ i
      → done ≡ layout_of system pick list
  laid_all done offset i h l = sym (h.rest ∙ ap (λ xs. done ++ rises_from system pick (length list) i offset xs) (drop_all i list l)
      ∙ append-nil done)

-- one unknown's columns, as they are put
pub rise_is : {X : Type 0} (system : System) (pick : List (Option ℕ)) (n place offset u : ℕ) (names : List X) (w : ℕ)
    (starts frees : List ℕ) → length names ≡ length system.flow.names →
    w ≡ width (length system.flow.names) (edge_at system (edge_for pick u)).actions →
    starts ≡ columns_from (n + offset) (length names) → frees ≡ columns_from (n + offset + length names + length names) (w - length names) →
    (let r : Rise = record { unknown = u; col = place; starts = starts; frees = frees } in r) ≡ rise_of system pick n place offset u
unfolding width
rise_is system pick n place offset u names w starts frees e f g h =
    let P : List ℕ → List ℕ → Rise = λ a b. record { unknown = u; col = place; starts = a; frees = b } in
    let a : n + offset + length names + length names ≡ n + offset + (length system.flow.names + length system.flow.names) =
    omega (arith, e) in
    let c : w - length names ≡ free_count (edge_at system (edge_for pick u)).actions = omega (arith, e, f) in
    ap₂ P (g ∙ ap (columns_from (n + offset)) e) (h ∙ ap₂ columns_from a c)
