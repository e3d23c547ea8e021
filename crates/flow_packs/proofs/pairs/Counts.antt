-- Packs are rows over the variables, and a template where they are few enough.
use Rattle.std.proofs.Common.{◌≡◌, ◌≤◌, ◌+◌, ◌*◌, ℕ, ℤ, Bool, true, false, cond, List, [], ◌++◌, length, refl, arith, length-append}
use Rattle.std.proofs.lemmas.Nat.{mul-le}
use Rattle.std.specs.List.{range_with_len, flat_map, list_all}
use Rattle.flow_templates.specs.Domains.{intervals_of, signed_sums, octagons_of}
use Rattle.flow_templates.specs.declared.limits.TheConstants.{MOST_ROWS}
use Rattle.flow_templates.proofs.counted.Sound.{is_row_over}
use Rattle.flow_templates.proofs.counted.Counts.{IsCounted, counted, all_append, all_parts, intervals_over, length-intervals}
use Rattle.flow_templates.proofs.counted.Counts.{length-octagons, sums_over}
use Rattle.lang_groups.specs.Groups.{are_together}
use Rattle.flow_packs.specs.Packs.{sums_together, packs_of}
use Rattle.flow_packs.proofs.pairs.Together.{packs_most}

over_anyway : (n : ℕ) (b : Bool) (rows : List (List ℤ)) → list_all (is_row_over n) rows ≡ true
    → list_all (is_row_over n) (cond b rows []) ≡ true
over_anyway n true rows h = h
over_anyway n false rows h = refl

packs_over : (n : ℕ) (groups : List (List ℕ)) → list_all (is_row_over n) (packs_of n groups) ≡ true
packs_over n groups =
    all_append (is_row_over n) (intervals_of n) _ (intervals_over n)
    (all_parts (is_row_over n) (λ i. flat_map (sums_together n groups i) (range_with_len 0 n)) 0 n (λ i l m.
    all_parts (is_row_over n) (sums_together n groups i) 0 n (λ j p q.
    over_anyway n (are_together groups i j) (signed_sums n i j) (sums_over n i j (omega arith)))))

-- packs over at least one variable are some rows
some_packs : (n : ℕ) (groups : List (List ℕ)) → 1 ≤ n → 1 ≤ length (packs_of n groups)
some_packs n groups h =
    let pairs = flat_map (λ i. flat_map (sums_together n groups i) (range_with_len 0 n)) (range_with_len 0 n) in
    omega (arith, length-append (intervals_of n) pairs, length-intervals n)

-- packs that are few enough are a template over the variables
pub packs_counted : (n : ℕ) (groups : List (List ℕ)) → 1 ≤ n → length (packs_of n groups) ≤ MOST_ROWS
    → IsCounted (packs_of n groups) n (length (packs_of n groups))
packs_counted n groups h l =
    counted (packs_of n groups) n (length (packs_of n groups)) (packs_over n groups) refl (some_packs n groups h) l

-- over as many variables as a program may have there are no more than 8,192
pub packs_few : (n : ℕ) (groups : List (List ℕ)) → n ≤ 64 → length (packs_of n groups) ≤ 8192
packs_few n groups l =
    let square : 2 * n * n ≤ 128 * 64 = mul-le (2 * n) n 128 64 (omega arith) l in
    omega (arith, packs_most n groups, length-octagons n, square)
