-- By which groups the same variables are together.
use Rattle.std.proofs.Common.{◌≡◌, ◌∙◌, ◌++◌, ◌∷◌, ◌==◌, ℕ, Bool, false, not, ◌&&◌, ◌||◌, List, [], refl, sym, ap, ap₂}
use Rattle.std.proofs.lemmas.List.Folds.{list_any-append}
use Rattle.lang_groups.specs.Groups.{has, share, are_together, SameMembers, SameTogether}
use Rattle.lang_groups.proofs.together.Bools.{or_comm, or_again, and_comm, and_or, or_false, both_in_more, both_in_rest}
use Rattle.lang_groups.proofs.together.Members.{has_append}

-- two variables are in one of two lists of groups joined where they are in one of the first or of the second
pub share_append : (gs hs : List (List ℕ)) (x y : ℕ) → share (gs ++ hs) x y ≡ (share gs x y || share hs x y)
share_append gs hs x y = list_any-append _ gs hs

-- the same of two variables that are together
pub together_append : (gs hs : List (List ℕ)) (x y : ℕ) → are_together (gs ++ hs) x y ≡ (are_together gs x y || are_together hs x y)
together_append gs hs x y =
    ap (λ b. not (x == y) && b) (share_append gs hs x y) ∙ and_or (not (x == y)) (share gs x y) (share hs x y)

-- where the same variables share a group, the same are together
pub from_share : {gs hs : List (List ℕ)} → ((x y : ℕ) → share gs x y ≡ share hs x y) → SameTogether gs hs
from_share h = record { same = λ x y. ap (λ b. not (x == y) && b) (h x y) }

-- lists of groups are alike with themselves
pub same_refl : (gs : List (List ℕ)) → SameTogether gs gs
same_refl gs = record { same = λ x y. refl }

-- equal ones are
pub same_equal : {gs hs : List (List ℕ)} → gs ≡ hs → SameTogether gs hs
same_equal e = record { same = λ x y. ap (λ g. are_together g x y) e }

-- the same the other way round
pub same_sym : {gs hs : List (List ℕ)} → SameTogether gs hs → SameTogether hs gs
same_sym s = record { same = λ x y. sym (s.same x y) }

-- the same by way of a third list
pub same_trans : {fs gs hs : List (List ℕ)} → SameTogether fs gs → SameTogether gs hs → SameTogether fs hs
same_trans s t = record { same = λ x y. s.same x y ∙ t.same x y }

-- lists of groups joined
pub same_append : {fs gs hs ks : List (List ℕ)} → SameTogether fs gs → SameTogether hs ks → SameTogether (fs ++ hs) (gs ++ ks)
same_append {fs = fs} {gs = gs} {hs = hs} {ks = ks} s t = record {
  same = λ x y. together_append fs hs x y ∙ ap₂ ◌||◌ (s.same x y) (t.same x y) ∙ sym (together_append gs ks x y);
}

-- lists joined in either order
pub same_swap : (gs hs : List (List ℕ)) → SameTogether (gs ++ hs) (hs ++ gs)
same_swap gs hs = record {
  same = λ x y. together_append gs hs x y ∙ or_comm (are_together gs x y) (are_together hs x y) ∙ sym (together_append hs gs x y);
}

-- a list that stands twice
pub same_twice : (gs : List (List ℕ)) → SameTogether (gs ++ gs) gs
same_twice gs = record { same = λ x y. together_append gs gs x y ∙ or_again (are_together gs x y) }

-- a group in front, by its variables alone
pub same_cons : {g h : List ℕ} {gs hs : List (List ℕ)} → SameMembers g h → SameTogether gs hs → SameTogether (g ∷ gs) (h ∷ hs)
same_cons {g = g} {h = h} {gs = gs} {hs = hs} m s =
    same_append {fs = g ∷ []} {gs = h ∷ []} {hs = gs} {ks = hs}
    (from_share (λ x y. ap (λ b. b || false) (ap₂ ◌&&◌ (m.same x) (m.same y)))) s

-- a group at the end is one in front
pub same_last : (g : List ℕ) (gs : List (List ℕ)) → SameTogether (gs ++ g ∷ []) (g ∷ gs)
same_last g gs = same_swap gs (g ∷ [])

-- a group without variables holds nothing together
pub same_none : SameTogether ([] ∷ []) []
same_none = from_share (λ x y. refl)

-- a group that is part of another
pub same_part : (f g : List ℕ) → SameTogether ((f ++ g) ∷ f ∷ []) ((f ++ g) ∷ [])
same_part f g = from_share (λ x y. ap₂ (λ a b. (a && b) || ((has f x && has f y) || false)) (has_append f g x) (has_append f g y)
    ∙ part (has f x) (has f y) (has g x) (has g y)
    ∙ ap₂ (λ a b. (a && b) || false) (sym (has_append f g x)) (sym (has_append f g y)))
  where
    part : (a b c d : Bool) → (((a || c) && (b || d)) || ((a && b) || false)) ≡ (((a || c) && (b || d)) || false)
    part a b c d = ap (λ e. ((a || c) && (b || d)) || e) (or_false (a && b)) ∙ both_in_more a b c d ∙ sym (or_false ((a || c) && (b || d)))

-- a group that is the rest of another
pub same_rest : (f g : List ℕ) → SameTogether ((f ++ g) ∷ g ∷ []) ((f ++ g) ∷ [])
same_rest f g = from_share (λ x y. ap₂ (λ a b. (a && b) || ((has g x && has g y) || false)) (has_append f g x) (has_append f g y)
    ∙ rest (has f x) (has f y) (has g x) (has g y)
    ∙ ap₂ (λ a b. (a && b) || false) (sym (has_append f g x)) (sym (has_append f g y)))
  where
    rest : (a b c d : Bool) → (((a || c) && (b || d)) || ((c && d) || false)) ≡ (((a || c) && (b || d)) || false)
    rest a b c d = ap (λ e. ((a || c) && (b || d)) || e) (or_false (c && d)) ∙ both_in_rest a b c d ∙ sym (or_false ((a || c) && (b || d)))

-- whether two variables share a group doesn't depend on their order
pub together_swap : (gs : List (List ℕ)) (x y : ℕ) → share gs x y ≡ share gs y x
together_swap [] x y = refl
together_swap (g ∷ gs) x y = ap₂ ◌||◌ (and_comm (has g x) (has g y)) (together_swap gs x y)
