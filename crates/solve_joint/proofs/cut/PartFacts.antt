-- What the parts are, by the numbers of their unknowns.
use Rattle.std.proofs.Common.{◌≡◌, ◌∙◌, inl, inr, ⊎_elim, ℕ, zero, suc, ◌+◌, ◌≤◌, cond, Bool, true, false, List, [], ◌∷◌, length, map}
use Rattle.std.proofs.Common.{Option, Some, None, refl, ap, ap₂, sym, subst, arith}
use Rattle.std.specs.Prelude.{find}
use Rattle.std.specs.List.{filter}
use Rattle.base_facts.specs.Elements.{In}
use Rattle.flow_systems.specs.declared.system.System.{System}
use Rattle.flow_systems.specs.View.{equations_of}
use Rattle.theory_transformers.specs.JointProblems.{Listed}
use Rattle.theory_transformers.specs.Parts.{InSome}
use Rattle.theory_transformers.proofs.parts.PartsLaw.{parts_in_order, parts_sound, parts_admissible, parts_classes}
use Rattle.solve_joint.specs.declared.node.Node.{Node}
use Rattle.solve_joint.specs.Numbers.{number_of, listed_of, all_listed, Rises, nodes_of, ArePicked}
use Rattle.solve_joint.specs.Tables.{closed}
use Rattle.solve_joint.specs.Cuts.{are_one_part, are_apart, may_come, cut_next, cut_from}
use Rattle.solve_joint.specs.PartLists.{listed_parts, part_numbers, each_listed, EachRises, NumberClasses, NumbersAdmissible}
use Rattle.solve_joint.specs.PartLists.{NumbersInOrder}
use Rattle.solve_joint.proofs.numbers.NodeFacts.{number_back, unknowns_all}
use Rattle.solve_joint.proofs.cut.SameParts.{parts_shown}

-- ---- the numbers rise
lower : (j k : ℕ) (list : List ℕ) → j ≤ k → Rises k list → Rises j list
lower j k [] l h = tt
lower j k (u ∷ list) l h = let a = h.0 in (omega (arith, l, a), h.1)

abbrev unknowns : List Node → List ℕ
unknowns left = map (λ (a : Node). a.unknown) left

filter_rises : (f : Node → Bool) (k : ℕ) (left : List Node) → Rises k (unknowns left) → Rises k (unknowns (filter f left))
filter_rises f k [] h = tt
filter_rises f k (a ∷ left) h = by (f a) (filter_rises f (a.unknown + 1) left h.1)
  where
    by : (b : Bool) → Rises (a.unknown + 1) (unknowns (filter f left)) → Rises k (unknowns (cond b (a ∷ filter f left) (filter f left)))
    by true r = (h.0, r)
    by false r = let l = h.0 in lower k (a.unknown + 1) (unknowns (filter f left)) (omega (arith, l)) r

cut_rises : (rows : List (List Bool)) (n : ℕ) (left : List Node) → Rises 0 (unknowns left) → EachRises (cut_from rows n left)
cut_rises rows zero left h = tt
cut_rises rows (suc n) left h = by (find (may_come rows left) left) (λ next r. cut_rises rows n next r)
  where
    by : (o : Option Node) → ((next : List Node) → Rises 0 (unknowns next) → EachRises (cut_from rows n next))
        → EachRises (cut_next rows left (cut_from rows n) o)
    by None t = tt
    by (Some part) t = (
      filter_rises (are_one_part rows part) 0 left h,
      t (filter (are_apart rows part) left) (filter_rises (are_apart rows part) 0 left h),
    )

module _ (system : System) (pick : List (Option ℕ)) (list : List ℕ) where
  abbrev us : List Listed
  us = all_listed system pick list

  abbrev nodes : List Node
  nodes = nodes_of system pick list

  -- each part of a rising list rises
  pub parts_rise : ArePicked system pick list → Rises 0 list → EachRises (part_numbers system pick list)
  parts_rise picked h = subst EachRises (parts_shown system pick list picked)
      (cut_rises (closed (length system.flow.points) nodes) (length nodes) nodes (subst (Rises 0) (sym (unknowns_all system pick list)) h))

  -- ---- the numbers stand for the unknowns
  listed_back : (ns : List ℕ) (x : Listed) → In (all_listed system pick ns) x
      → listed_of (length system.template) pick (number_of (length system.template) x) ≡ x
  listed_back [] x m = absurd m
  listed_back (u ∷ ns) x m = ⊎_elim
      (λ e. ap (λ y. listed_of (length system.template) pick (number_of (length system.template) y)) (sym e)
      ∙ ap (listed_of (length system.template) pick) (number_back (length system.template) pick u) ∙ e)
      (λ k. listed_back ns x k)
      m

  part_back : (xs : List Listed) → ((x : Listed) → In xs x → In us x) →
      all_listed system pick (map (number_of (length system.template)) xs) ≡ xs
  part_back [] sub = refl
  part_back (x ∷ xs) sub = ap₂ (λ y ys. y ∷ ys) (listed_back list x (sub x (inl refl))) (part_back xs (λ y m. sub y (inr m)))

  parts_back : (ps : List (List Listed)) → ((x : Listed) → InSome ps x → In us x)
      → each_listed system pick (map (map (number_of (length system.template))) ps) ≡ ps
  parts_back [] sub = refl
  parts_back (xs ∷ ps) sub = ap₂ (λ y ys. y ∷ ys) (part_back xs (λ y m. sub y (inl m))) (parts_back ps (λ y m. sub y (inr m)))

  -- the unknowns of the parts' numbers are the parts of the list's unknowns
  pub parts_listed : each_listed system pick (part_numbers system pick list) ≡ listed_parts system pick list
  parts_listed = parts_back (listed_parts system pick list) (λ x m. parts_sound (equations_of system) us x m)

  -- ---- the laws
  pub number_classes : NumberClasses system pick list (part_numbers system pick list)
  number_classes = rw parts_listed (parts_classes (equations_of system) us)

  -- the numbers of the parts are admissible
  pub numbers_admissible : NumbersAdmissible system pick list (part_numbers system pick list)
  numbers_admissible = rw parts_listed (parts_admissible (equations_of system) us)

  -- the numbers of the parts are in order
  pub numbers_in_order : NumbersInOrder system pick list (part_numbers system pick list)
  numbers_in_order = rw parts_listed (parts_in_order (equations_of system) us)
