-- Identities that `ring` proves.
use Rattle.std.proofs.Common.{◌≡◌, [], ◌∷◌, pos, refl}
use Rattle.base_numbers.specs.Rational.{ℚ, whole, one_ℚ, ◌+ℚ◌, ◌*ℚ◌, neg_ℚ, ◌-ℚ◌}
use Rattle.base_numbers.proofs.tactics.Ring.{ring, reads}

product_of_sums : (a b c d : ℚ) → (a +ℚ b) *ℚ (c -ℚ d) ≡ a *ℚ c -ℚ a *ℚ d +ℚ b *ℚ c -ℚ b *ℚ d
product_of_sums a b c d = ring (a ∷ b ∷ c ∷ d ∷ []) (search reads depth 40) refl

difference_of_squares : (a b : ℚ) → (a +ℚ b) *ℚ (a -ℚ b) ≡ a *ℚ a -ℚ b *ℚ b
difference_of_squares a b = ring (a ∷ b ∷ []) (search reads depth 40) refl

regrouped : (a b c d e : ℚ) → a +ℚ (b +ℚ (c +ℚ (d +ℚ e))) ≡ e +ℚ d +ℚ c +ℚ b +ℚ a
regrouped a b c d e = ring (a ∷ b ∷ c ∷ d ∷ e ∷ []) (search reads depth 40) refl

negated_difference : (a b : ℚ) → neg_ℚ (a -ℚ b) ≡ b -ℚ a
negated_difference a b = ring (a ∷ b ∷ []) (search reads depth 40) refl

cube_of_sum : (a b : ℚ) → (a +ℚ b) *ℚ (a +ℚ b) *ℚ (a +ℚ b) ≡ a *ℚ a *ℚ a +ℚ whole (pos 3) *ℚ a *ℚ a *ℚ b +ℚ whole (pos 3) *ℚ a *ℚ b *ℚ b +ℚ
    b *ℚ b *ℚ b
cube_of_sum a b = ring (a ∷ b ∷ []) (search reads depth 40) refl

doubled : (a b : ℚ) → whole (pos 2) *ℚ (a +ℚ b) -ℚ a ≡ a +ℚ whole (pos 2) *ℚ b
doubled a b = ring (a ∷ b ∷ []) (search reads depth 40) refl

on_the_way : (a b t : ℚ) → (one_ℚ -ℚ t) *ℚ a +ℚ t *ℚ b ≡ a +ℚ t *ℚ (b -ℚ a)
on_the_way a b t = ring (a ∷ b ∷ t ∷ []) (search reads depth 40) refl

-- an opaque term as an atom
opaque_factor : (f : ℚ → ℚ) (a b : ℚ) → f a *ℚ (b +ℚ one_ℚ) -ℚ f a ≡ b *ℚ f a
opaque_factor f a b = ring (f a ∷ b ∷ []) (search reads depth 40) refl

-- two products of two sums with 4 variables each
sums_of_four_squares : (a b c d e f g h : ℚ) → (a *ℚ a +ℚ b *ℚ b +ℚ c *ℚ c +ℚ d *ℚ d) *ℚ (e *ℚ e +ℚ f *ℚ f +ℚ g *ℚ g +ℚ h *ℚ h) ≡
    (a *ℚ e -ℚ b *ℚ f -ℚ c *ℚ g -ℚ d *ℚ h) *ℚ (a *ℚ e -ℚ b *ℚ f -ℚ c *ℚ g -ℚ d *ℚ h) +ℚ
    (a *ℚ f +ℚ b *ℚ e +ℚ c *ℚ h -ℚ d *ℚ g) *ℚ (a *ℚ f +ℚ b *ℚ e +ℚ c *ℚ h -ℚ d *ℚ g) +ℚ
    (a *ℚ g -ℚ b *ℚ h +ℚ c *ℚ e +ℚ d *ℚ f) *ℚ (a *ℚ g -ℚ b *ℚ h +ℚ c *ℚ e +ℚ d *ℚ f) +ℚ
    (a *ℚ h +ℚ b *ℚ g -ℚ c *ℚ f +ℚ d *ℚ e) *ℚ (a *ℚ h +ℚ b *ℚ g -ℚ c *ℚ f +ℚ d *ℚ e)
sums_of_four_squares a b c d e f g h = ring (a ∷ b ∷ c ∷ d ∷ e ∷ f ∷ g ∷ h ∷ []) (search reads depth 40 fits 5000) refl
