-- The parts that are cut are those of the theory.
use Rattle.std.proofs.Common.{◌≡◌, ◌∙◌, inl, inr, ℕ, zero, suc, ◌&&◌, ◌||◌, not, cond, Bool, true, false, List, [], ◌∷◌}
use Rattle.std.proofs.Common.{length, map, Option, Some, None, refl, ap, ap₂, sym, if◌then◌else◌}
use Rattle.std.specs.Prelude.{find}
use Rattle.std.specs.List.{list_all, filter}
use Rattle.std.proofs.lemmas.List.{length-map}
use Rattle.base_facts.specs.Elements.{In}
use Rattle.flow_systems.specs.declared.system.System.{System}
use Rattle.flow_systems.specs.Equations.{Equations}
use Rattle.flow_systems.specs.View.{equations_of}
use Rattle.theory_transformers.specs.JointProblems.{Listed}
use Rattle.theory_transformers.specs.Parts.{leans, together, all_in, keep, first_of, ready, part_before, parts_from, parts}
use Rattle.solve_joint.specs.declared.node.Node.{Node}
use Rattle.solve_joint.specs.Numbers.{number_of, all_listed, listed_of, nodes_of, ArePicked}
use Rattle.solve_joint.specs.Tables.{closed}
use Rattle.solve_joint.specs.Cuts.{are_one_part, are_apart, keeps_within, may_come, cut_next, cut_from}
use Rattle.solve_joint.specs.PartLists.{part_numbers}
use Rattle.solve_joint.proofs.numbers.NodeFacts.{number_back, shown, shown_all, length-nodes}
use Rattle.solve_joint.proofs.tables.ReachTables.{leans_shown, one_part_shown}
use Rattle.solve_joint.proofs.cut.Kept.{find_in, filter_in}

-- ---- lists of nodes and of the unknowns for which they stand
abbrev both : {X Y : Type 0} → (X → Y) → Option X → Option Y
both h None = None
both h (Some x) = Some (h x)

all_shown : (f : Node → Bool) (g : Listed → Bool) (h : Node → Listed) (xs : List Node) → ((x : Node) → In xs x → f x ≡ g (h x))
    → list_all f xs ≡ all_in g (map h xs)
unfolding all_in
all_shown f g h [] e = refl
all_shown f g h (x ∷ xs) e = ap₂ (λ a b. a && b) (e x (inl refl)) (all_shown f g h xs (λ y m. e y (inr m)))

kept_shown : (f : Node → Bool) (g : Listed → Bool) (h : Node → Listed) (xs : List Node) → ((x : Node) → In xs x → f x ≡ g (h x))
    → map h (filter f xs) ≡ keep g (map h xs)
unfolding keep
kept_shown f g h [] e = refl
kept_shown f g h (x ∷ xs) e = by (f x) (kept_shown f g h xs (λ y m. e y (inr m)))
    ∙ ap (λ b. if b then h x ∷ keep g (map h xs) else keep g (map h xs)) (e x (inl refl))
  where
    by : (b : Bool) → map h (filter f xs) ≡ keep g (map h xs) → map h (cond b (x ∷ filter f xs) (filter f xs))
        ≡ (if b then h x ∷ keep g (map h xs) else keep g (map h xs))
    by true k = ap (λ ys. h x ∷ ys) k
    by false k = k

first_shown : (f : Node → Bool) (g : Listed → Bool) (h : Node → Listed) (xs : List Node) → ((x : Node) → In xs x → f x ≡ g (h x))
    → both h (find f xs) ≡ first_of g (map h xs)
unfolding first_of
first_shown f g h [] e = refl
first_shown f g h (x ∷ xs) e = by (f x) (first_shown f g h xs (λ y m. e y (inr m)))
    ∙ ap (λ b. if b then Some (h x) else first_of g (map h xs)) (e x (inl refl))
  where
    by : (b : Bool) → both h (find f xs) ≡ first_of g (map h xs) → both h (cond b (Some x) (find f xs))
        ≡ (if b then Some (h x) else first_of g (map h xs))
    by true k = refl
    by false k = k

module _ (system : System) (pick : List (Option ℕ)) (list : List ℕ) (picked : ArePicked system pick list) where
  abbrev eqs : Equations
  eqs = equations_of system

  abbrev us : List Listed
  us = all_listed system pick list

  abbrev nodes : List Node
  nodes = nodes_of system pick list

  abbrev rows : List (List Bool)
  rows = closed (length system.flow.points) nodes

  abbrev h : Node → Listed
  h = shown system pick

  abbrev Among : List Node → Type 0
  Among left = (a : Node) → In left a → In nodes a

  together_shown : (a b : Node) → In nodes a → In nodes b → are_one_part rows a b ≡ together eqs us (h a) (h b)
  together_shown a b m n = one_part_shown system pick list picked a b m n

  within_shown : (left : List Node) (part member : Node) → Among left → In nodes part → In nodes member →
      list_all (keeps_within rows part member) left ≡ all_in (λ w. not (leans eqs (h member) w) || together eqs us (h part) w) (map h left)
  within_shown left part member sub p m =
      all_shown (keeps_within rows part member) (λ w. not (leans eqs (h member) w) || together eqs us (h part) w) h left
      (λ w n. ap₂ (λ a b. not a || b) (leans_shown system pick list picked member w m (sub w n)) (together_shown part w p (sub w n)))

  ready_shown : (left : List Node) (part : Node) → Among left → In nodes part → may_come rows left part ≡ ready eqs us (map h left) (h part)
  unfolding ready
  ready_shown left part sub p =
      all_shown (λ member. not (are_one_part rows part member) || list_all (keeps_within rows part member) left)
      (λ v. not (together eqs us (h part) v) || all_in (λ w. not (leans eqs v w) || together eqs us (h part) w) (map h left)) h left
      (λ v n. ap₂ (λ a b. not a || b) (together_shown part v p (sub v n)) (within_shown left part v sub p (sub v n)))

  numbers_shown : (left : List Node) → map (λ (a : Node). a.unknown) left ≡ map (number_of (length system.template)) (map h left)
  numbers_shown [] = refl
  numbers_shown (a ∷ left) = ap₂ (λ x xs. x ∷ xs) (sym (number_back (length system.template) pick a.unknown)) (numbers_shown left)

  cut_shown : (n : ℕ) (left : List Node) → Among left → cut_from rows n left
      ≡ map (map (number_of (length system.template))) (parts_from n eqs us (map h left))
  unfolding parts_from part_before
  cut_shown zero left sub = refl
  cut_shown (suc n) left sub =
      by (find (may_come rows left) left) refl (λ next s. cut_shown n next s)
      ∙ ap (λ o. map (map (number_of (length system.template))) (part_before eqs us (map h left) (parts_from n eqs us) o))
      (first_shown (may_come rows left) (ready eqs us (map h left)) h left (λ a m. ready_shown left a sub (sub a m)))
    where
      by : (o : Option Node) → find (may_come rows left) left ≡ o →
          ((next : List Node) → Among next → cut_from rows n next ≡ map (map (number_of (length system.template)))
          (parts_from n eqs us (map h next))) →
          cut_next rows left (cut_from rows n) o ≡ map (map (number_of (length system.template)))
          (part_before eqs us (map h left) (parts_from n eqs us) (both h o))
      by None e t = refl
      by (Some part) e t =
          let p = sub part (find_in (may_come rows left) left part e) in
          ap₂ (λ x xs. x ∷ xs)
          (numbers_shown (filter (are_one_part rows part) left) ∙ ap (map (number_of (length system.template)))
          (kept_shown (are_one_part rows part) (together eqs us (h part)) h left (λ a m. together_shown part a p (sub a m))))
          (t (filter (are_apart rows part) left) (λ a m. sub a (filter_in (are_apart rows part) left a m))
          ∙ ap (λ xs. map (map (number_of (length system.template))) (parts_from n eqs us xs))
          (kept_shown (are_apart rows part) (λ v. not (together eqs us (h part) v)) h left
          (λ a m. ap not (together_shown part a p (sub a m)))))

  -- the whole cut
  pub parts_shown : cut_from rows (length nodes) nodes ≡ part_numbers system pick list
  unfolding parts
  parts_shown =
      cut_shown (length nodes) nodes (λ a m. m)
      ∙ ap₂ (λ n xs. map (map (number_of (length system.template))) (parts_from n eqs us xs))
      (length-nodes system pick list ∙ sym (length-map list (listed_of (length system.template) pick))) (shown_all system pick list)
