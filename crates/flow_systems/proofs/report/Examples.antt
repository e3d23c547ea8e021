-- Reports and fits, worked by hand.
use Rattle.std.proofs.Common.{◌≡◌, ℕ, zero, suc, true, false, List, [], ◌∷◌, refl}
use Rattle.std.specs.Prelude.{ℤ, pos, negsuc, codes}
use Rattle.std.specs.Fmt.{digits}
use Rattle.base_numbers.specs.Gcd.{gcd, gcd_within}
use Rattle.base_numbers.specs.Rational.{ratio, whole, zero_ℚ, ◌+ℚ◌, ◌*ℚ◌, le_ℚ}
use Rattle.base_numbers.specs.Extended.{Ext, neg_inf, fin, pos_inf}
use Rattle.flow_edges.specs.declared.point.Place.{Place}
use Rattle.flow_edges.specs.declared.point.Place.TheVariants.{Entry, Loop, Label, Join, Assume, Exit}
use Rattle.flow_edges.specs.declared.point.Point.{Point}
use Rattle.flow_systems.specs.declared.footer.Footer.TheVariants.{Improvements, Accepted}
use Rattle.flow_systems.specs.Equations.{Vector}
use Rattle.flow_systems.specs.Report.{row_text, report_text}
use Rattle.flow_systems.proofs.equations.FitsProgram.{fits_rows}

abbrev point : Place → ℕ → Point
point place line = record { place = place; line = line }

-- ---- rows: no term for 0, no 1 before a name, the first sign without a blank
rows_by_hand : row_text (codes "x" ∷ (codes "y" ∷ (codes "z" ∷ []))) (negsuc 0 ∷ (pos 0 ∷ (pos 2 ∷ []))) ≡ codes "-x + 2*z"
unfolding digits
rows_by_hand = refl

later_minus : row_text (codes "x" ∷ (codes "y" ∷ (codes "z" ∷ []))) (pos 0 ∷ (pos 3 ∷ (negsuc 0 ∷ []))) ≡ codes "3*y - z"
unfolding digits
later_minus = refl

abbrev intervals : List (List ℤ)
intervals = (pos 1 ∷ []) ∷ ((negsuc 0 ∷ []) ∷ [])

abbrev x : List ℕ
x = codes "x"

-- the bounds of int x = 0; while (x < 100) { x = x + 1; }
counting : Vector
counting zero r = pos_inf
counting (suc zero) zero = fin (whole (pos 100))
counting (suc zero) (suc r) = fin (whole (pos 0))
counting (suc (suc p)) zero = fin (whole (pos 100))
counting (suc (suc p)) (suc r) = fin (whole (negsuc 99))

counting_report : report_text (x ∷ []) (point Entry 0 ∷ (point Loop 1 ∷ (point Exit 0 ∷ []))) intervals counting (Improvements 3)
    ≡ codes "variables x\npoint 0: entry\n  x <= +inf\n  -x <= +inf\npoint 1: loop at line 1\n  x <= 100\n  -x <= 0\npoint 2: exit\n  x <= 100\n  -x <= -100\nimprovements: 3\n"
unfolding counting whole ratio gcd gcd_within digits
counting_report = refl

-- ---- x at most 13/3 and at least 0
thirds : ℕ → Ext
thirds zero = fin (ratio (pos 13) 3)
thirds (suc r) = fin (whole (pos 0))

-- 13/3 fits; 9/2 and -1/6 don't
thirds_fit : fits_rows intervals thirds (ratio (pos 13) 3 ∷ []) ≡ true
unfolding thirds whole ratio gcd gcd_within zero_ℚ ◌+ℚ◌ ◌*ℚ◌ le_ℚ
thirds_fit = refl

halves_miss : fits_rows intervals thirds (ratio (pos 9) 2 ∷ []) ≡ false
unfolding thirds whole ratio gcd gcd_within zero_ℚ ◌+ℚ◌ ◌*ℚ◌ le_ℚ
halves_miss = refl

sixths_miss : fits_rows intervals thirds (ratio (negsuc 0) 6 ∷ []) ≡ false
unfolding thirds whole ratio gcd gcd_within zero_ℚ ◌+ℚ◌ ◌*ℚ◌ le_ℚ
sixths_miss = refl

-- a row over two variables: x - y at most 0 and y - x at most 1/2
abbrev differences : List (List ℤ)
differences = (pos 1 ∷ (negsuc 0 ∷ [])) ∷ ((negsuc 0 ∷ (pos 1 ∷ [])) ∷ [])

close : ℕ → Ext
close zero = fin (whole (pos 0))
close (suc r) = fin (ratio (pos 1) 2)

close_fit : fits_rows differences close (ratio (pos 1) 3 ∷ (ratio (pos 5) 6 ∷ [])) ≡ true
unfolding close whole ratio gcd gcd_within zero_ℚ ◌+ℚ◌ ◌*ℚ◌ le_ℚ
close_fit = refl

far_misses : fits_rows differences close (ratio (pos 1) 3 ∷ (ratio (pos 6) 7 ∷ [])) ≡ false
unfolding close whole ratio gcd gcd_within zero_ℚ ◌+ℚ◌ ◌*ℚ◌ le_ℚ
far_misses = refl

-- nothing fits -inf, and everything fits +inf
nothing_fits : fits_rows intervals (λ r. neg_inf) (zero_ℚ ∷ []) ≡ false
nothing_fits = refl

all_fit : fits_rows intervals (λ r. pos_inf) (zero_ℚ ∷ []) ≡ true
all_fit = refl

-- ---- heads, an unreachable point, a fraction and the other footer
places : List Point
places = point Entry 0 ∷ (point (Label (codes "mid")) 2 ∷ (point Join 3 ∷ (point Assume 14 ∷ (point Exit 0 ∷ []))))

some_reached : Vector
some_reached zero r = pos_inf
some_reached (suc zero) r = fin (ratio (pos 13) 3)
some_reached (suc (suc p)) r = neg_inf

places_report : report_text (codes "x" ∷ (codes "y2" ∷ [])) places ((pos 1 ∷ (pos 1 ∷ [])) ∷ []) some_reached Accepted
    ≡ codes "variables x y2\npoint 0: entry\n  x + y2 <= +inf\npoint 1: label mid at line 2\n  x + y2 <= 13/3\npoint 2: join at line 3\n  unreachable\npoint 3: assume at line 14\n  unreachable\npoint 4: exit\n  unreachable\ncertificate: accepted\n"
unfolding places some_reached ratio gcd gcd_within digits
places_report = refl
