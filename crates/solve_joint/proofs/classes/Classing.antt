-- Classes, unknown by unknown.
use Rattle.std.proofs.Common.{◌≡◌, ◌∙◌, ◌⊎◌, inl, inr, ⊎_elim, ℕ, ◌+◌, ◌<◌, ◌≤◌, ◌==◌, Bool, true, List, [], ◌∷◌, ◌++◌}
use Rattle.std.proofs.Common.{length, get_or, set, refl, sym, ap, subst, arith, length-set}
use Rattle.std.specs.Prelude.{Option, Some, None, replicate}
use Rattle.std.proofs.lemmas.Bool.{eqb-true}
use Rattle.std.proofs.lemmas.Bool.Decides.{eqb_tells}
use Rattle.std.proofs.lemmas.List.{get_or-set_same, get_or-set_other, length-replicate}
use Rattle.std.proofs.lemmas.List.{length-append, get_or_append_left, get_or_push}
use Rattle.base_facts.proofs.Lists.{get_or_replicate_default}
use Rattle.base_facts.specs.Elements.{In}
use Rattle.solve_joint.specs.declared.node.Node.{Node}
use Rattle.solve_joint.specs.Numbers.{Rises}
use Rattle.solve_joint.specs.Tables.{closed}
use Rattle.solve_joint.specs.Cuts.{are_one_part}
use Rattle.solve_joint.specs.Classes.{node_at, AreHomes, AreClasses, IsFirstPlace}
use Rattle.solve_joint.proofs.closure.Leading.{same_test}
use Rattle.solve_joint.proofs.classes.Homes.{unknowns, IsInner, home_of, one_part_means, one_part_itself, one_part_inner}

no_place : (f : ℕ) → None ≡ Some f → ⊥
no_place f e = cc

one_some : (f g : ℕ) → Some f ≡ Some g → f ≡ g
one_some f g e = cc

-- a place is kept already
pub place_kept : (old : List (Option ℕ)) (p place first : ℕ) → get_or old p None ≡ Some first → IsFirstPlace old p place old first
place_kept old p place first e = record { size = refl; here = e; keeps = λ q f h. h; only = λ q f h. inl h }

-- a place is kept from now on
pub place_set : (old new : List (Option ℕ)) (p place : ℕ) → p < length old → get_or old p None ≡ None → new ≡ set old p (Some place)
    → IsFirstPlace old p place new place
place_set old new p place l none e = record {
  size = ap (λ xs. length xs) e ∙ length-set old p (Some place);
  here = here;
  keeps = λ q f h. ⊎_elim (λ s. absurd (no_place f (sym none ∙ ap (λ k. get_or old k None) (sym s.1) ∙ h)))
      (λ s. other q s.1 ∙ h) (eqb_tells q p);
  only = λ q f h. ⊎_elim
      (λ s. inr (s.1, one_some f place (sym h ∙ ap (λ k. get_or new k None) s.1 ∙ here)))
      (λ s. inl (sym (other q s.1) ∙ h)) (eqb_tells q p);
}
  where
    here : get_or new p None ≡ Some place
    here = ap (λ xs. get_or xs p None) e ∙ get_or-set_same old p (Some place) None l

    other : (q : ℕ) → (q ≡ p → ⊥) → get_or new q None ≡ get_or old q None
    other q s = ap (λ xs. get_or xs q None) e ∙ get_or-set_other old p q (Some place) None s

module _ (points : ℕ) (homes : List ℕ) (nodes : List Node) where
  -- the classes of the first n unknowns, and at each home the place of its first inner one
  pub record ClassesTo (firsts : List (Option ℕ)) (classes : List ℕ) (n : ℕ) : Type 0 where
    -- there is one for each of them
    pub size : length classes ≡ n
    -- there is a place for each point
    pub places : length firsts ≡ points
    -- a kept place is that of an inner unknown of the home
    pub kept : (p f : ℕ) → get_or firsts p None ≡ Some f → (f < n) × IsInner homes nodes f × (home_of homes nodes f ≡ p)
    -- the class of an inner unknown is the place that is kept at its home
    pub inner : (k : ℕ) → k < n → IsInner homes nodes k → get_or firsts (home_of homes nodes k) None ≡ Some (get_or classes k 0)
    -- any other unknown has a class of its own
    pub alone : (k : ℕ) → k < n → (IsInner homes nodes k → ⊥) → get_or classes k 0 ≡ k
    -- no class is behind its unknown
    pub low : (k : ℕ) → k < n → get_or classes k 0 ≤ k

  -- no unknown yet
  pub classes_none : (firsts : List (Option ℕ)) (classes : List ℕ) → firsts ≡ replicate points None → classes ≡ []
      → ClassesTo firsts classes 0
  classes_none firsts classes e f = record {
    size = ap (λ xs. length xs) f;
    places = ap (λ xs. length xs) e ∙ length-replicate points None;
    kept = λ p g h. absurd (no_place g (sym (ap (λ xs. get_or xs p None) e ∙ get_or_replicate_default points p None) ∙ h));
    inner = λ k l. absurd (omega (arith, l));
    alone = λ k l. absurd (omega (arith, l));
    low = λ k l. absurd (omega (arith, l));
  }

  module _ (firsts : List (Option ℕ)) (classes : List ℕ) (n : ℕ) (to : ClassesTo firsts classes n) (new : List ℕ) (class : ℕ)
      (more : new ≡ classes ++ class ∷ []) where
    earlier : (k : ℕ) → k < n → get_or new k 0 ≡ get_or classes k 0
    earlier k l = ap (λ xs. get_or xs k 0) more ∙ get_or_append_left classes (class ∷ []) 0 k (let s = to.size in omega (arith, l, s))

    here : get_or new n 0 ≡ class
    here = ap (λ xs. get_or xs n 0) more ∙ get_or_push classes class 0 n to.size

    longer : length new ≡ n + 1
    longer = ap (λ xs. length xs) more ∙ length-append classes (class ∷ []) ∙ ap (λ m. m + 1) to.size

    -- an unknown of its own class
    pub class_alone : (IsInner homes nodes n → ⊥) → class ≡ n → ClassesTo firsts new (n + 1)
    class_alone apart e = record {
      size = longer;
      places = to.places;
      kept = λ p f h. let k = to.kept p f h in (let l = k.0 in omega (arith, l), k.1, k.2);
      inner = λ k l i. ⊎_elim
          (λ s. absurd (apart (subst (IsInner homes nodes) s.1 i)))
          (λ s. let m : k < n = (let t = s.1 in omega (arith, l, t)) in to.inner k m i ∙ ap Some (sym (earlier k m)))
          (eqb_tells k n);
      alone = λ k l i. ⊎_elim
          (λ s. ap (λ j. get_or new j 0) s.1 ∙ here ∙ e ∙ sym s.1)
          (λ s. let m : k < n = (let t = s.1 in omega (arith, l, t)) in earlier k m ∙ to.alone k m i)
          (eqb_tells k n);
      low = λ k l. ⊎_elim
          (λ s. (let t = ap (λ j. get_or new j 0) s.1 ∙ here ∙ e ∙ sym s.1 in omega (arith, t)))
          (λ s. let m : k < n = (let t = s.1 in omega (arith, l, t)) in
          let a = to.low k m in let b = earlier k m in omega (arith, a, b))
          (eqb_tells k n);
    }

    -- an inner unknown, of the class that its home has
    pub class_inner : (next : List (Option ℕ)) → IsInner homes nodes n → IsFirstPlace firsts (home_of homes nodes n) n next class
        → ClassesTo next new (n + 1)
    class_inner next is first = record {
      size = longer;
      places = first.size ∙ to.places;
      kept = kept;
      inner = λ k l i. ⊎_elim
          (λ s. ap (λ j. get_or next (home_of homes nodes j) None) s.1 ∙ first.here ∙ ap Some (sym here)
          ∙ ap (λ j. Some (get_or new j 0)) (sym s.1))
          (λ s. let m : k < n = (let t = s.1 in omega (arith, l, t)) in
          first.keeps (home_of homes nodes k) (get_or new k 0) (to.inner k m i ∙ ap Some (sym (earlier k m))))
          (eqb_tells k n);
      alone = λ k l i. ⊎_elim
          (λ s. absurd (i (subst (IsInner homes nodes) (sym s.1) is)))
          (λ s. let m : k < n = (let t = s.1 in omega (arith, l, t)) in earlier k m ∙ to.alone k m i)
          (eqb_tells k n);
      low = λ k l. ⊎_elim
          (λ s. (let t = ap (λ j. get_or new j 0) s.1 ∙ here in let b = (kept (home_of homes nodes n) class first.here).0 in let c = s.1 in
          omega (arith, t, b, c)))
          (λ s. let m : k < n = (let t = s.1 in omega (arith, l, t)) in
          let a = to.low k m in let b = earlier k m in omega (arith, a, b))
          (eqb_tells k n);
    }
      where
        kept : (p f : ℕ) → get_or next p None ≡ Some f → (f < n + 1) × IsInner homes nodes f × (home_of homes nodes f ≡ p)
        kept p f h = ⊎_elim
            (λ o. let k = to.kept p f o in (let l = k.0 in omega (arith, l), k.1, k.2))
            (λ o. (let e = o.1 in omega (arith, e), subst (IsInner homes nodes) (sym o.1) is, ap (home_of homes nodes) o.1 ∙ sym o.0))
            (first.only p f h)

-- all unknowns
module _ (points : ℕ) (rows : List (List Bool)) (nodes : List Node) (are : rows ≡ closed points nodes)
    (within : (a : Node) → In nodes a → (a.point < points) × (a.source < points)) (homes : List ℕ) (at : AreHomes points rows homes)
    (rises : Rises 0 (unknowns nodes)) (firsts : List (Option ℕ)) (classes : List ℕ)
    (to : ClassesTo points homes nodes firsts classes (length nodes)) where
  abbrev Inner : ℕ → Type 0
  Inner = IsInner homes nodes

  abbrev home : ℕ → ℕ
  home = home_of homes nodes

  abbrev class : ℕ → ℕ
  class i = get_or classes i 0

  inner_or_not : (i : ℕ) → Inner i ⊎ (Inner i → ⊥)
  inner_or_not i = ⊎_elim (λ t. inl t.1) (λ t. inr t.1)
      (eqb_tells (get_or homes (node_at nodes i).point 0) (get_or homes (node_at nodes i).source 0))

  of_class : (i : ℕ) → i < length nodes → Inner i → (class i < length nodes) × Inner (class i) × (home (class i) ≡ home i)
  of_class i l h = to.kept (home i) (class i) (to.inner i l h)

  class_same : (i k : ℕ) → i < length nodes → k < length nodes → Inner i → Inner k → home i ≡ home k → class i ≡ class k
  class_same i k l m h j e = one_some (class i) (class k)
      (sym (to.inner i l h) ∙ ap (λ p. get_or firsts p None) e ∙ to.inner k m j)

  same_class : (i k : ℕ) → i < length nodes → k < length nodes → class i ≡ class k
      → (i ≡ k) ⊎ (Inner i × Inner k × (home i ≡ home k))
  same_class i k l m e = ⊎_elim
      (λ h. ⊎_elim
      (λ j. inr (h, j, sym (of_class i l h).2 ∙ ap home e ∙ (of_class k m j).2))
      (λ j. absurd (j (subst Inner (e ∙ to.alone k m j) (of_class i l h).1)))
      (inner_or_not k))
      (λ h. ⊎_elim
      (λ j. absurd (h (subst Inner (sym e ∙ to.alone i l h) (of_class k m j).1)))
      (λ j. inl (sym (to.alone i l h) ∙ e ∙ to.alone k m j))
      (inner_or_not k))
      (inner_or_not i)

  -- the classes of all unknowns tell their parts apart
  pub classes_all : AreClasses rows nodes classes
  classes_all = record {
    size = to.size;
    low = to.low;
    head = λ i l. ⊎_elim
        (λ h. let o = of_class i l h in class_same (class i) i o.0 l o.1 h o.2)
        (λ h. ap class (to.alone i l h))
        (inner_or_not i);
    same = λ i k l m. same_test (are_one_part rows (node_at nodes i) (node_at nodes k)) (class i == class k)
        (λ h. equal (class i) (class k) (⊎_elim
        (λ e. ap class e)
        (λ t. class_same i k l m t.0 t.1 t.2)
        (one_part_means points rows nodes are within homes at rises i k l m h)))
        (λ h. ⊎_elim
        (λ e. one_part_itself points rows nodes are within homes at i k e)
        (λ t. one_part_inner points rows nodes are within homes at i k l m t.0 t.1 t.2)
        (same_class i k l m (eqb-true (class i) (class k) h)));
  }
    where
      equal : (a b : ℕ) → a ≡ b → (a == b) ≡ true
      equal a b e = ⊎_elim (λ t. t.0) (λ t. absurd (t.1 e)) (eqb_tells a b)
