-- Which variables are in groups that are made of others.
use Rattle.std.proofs.Common.{◌≡◌, ◌∙◌, ◌++◌, ℕ, ◌||◌, List, refl, sym, ap₂}
use Rattle.std.proofs.lemmas.List.Folds.{list_any-append}
use Rattle.lang_groups.specs.Groups.{has, SameMembers}
use Rattle.lang_groups.proofs.together.Bools.{or_comm, or_again}

-- a variable is in two groups joined where it is in one of them
pub has_append : (g h : List ℕ) (x : ℕ) → has (g ++ h) x ≡ (has g x || has h x)
has_append g h x = list_any-append _ g h

-- a group has the same variables as itself
pub members_refl : (g : List ℕ) → SameMembers g g
members_refl g = record { same = λ x. refl }

-- the same the other way round
pub members_sym : {g h : List ℕ} → SameMembers g h → SameMembers h g
members_sym s = record { same = λ x. sym (s.same x) }

-- the same by way of a third group
pub members_trans : {f g h : List ℕ} → SameMembers f g → SameMembers g h → SameMembers f h
members_trans s t = record { same = λ x. s.same x ∙ t.same x }

-- groups joined
pub members_append : {f g h k : List ℕ} → SameMembers f g → SameMembers h k → SameMembers (f ++ h) (g ++ k)
members_append {f = f} {g = g} {h = h} {k = k} s t = record {
  same = λ x. has_append f h x ∙ ap₂ ◌||◌ (s.same x) (t.same x) ∙ sym (has_append g k x);
}

-- groups joined in either order
pub members_swap : (g h : List ℕ) → SameMembers (g ++ h) (h ++ g)
members_swap g h = record { same = λ x. has_append g h x ∙ or_comm (has g x) (has h x) ∙ sym (has_append h g x) }

-- a group that stands twice
pub members_twice : (g : List ℕ) → SameMembers (g ++ g) g
members_twice g = record { same = λ x. has_append g g x ∙ or_again (has g x) }
