-- The rows of the unknowns of a list as far as they are put.
use Rattle.std.proofs.Common.{◌≡◌, ◌∙◌, ℕ, ◌+◌, ◌%◌, ◌<◌, ◌≤◌, List, [], ◌∷◌, ◌++◌, length, get_or, drop, Option, Some, None, refl, ap, sym}
use Rattle.std.proofs.Common.{subst, append_assoc, arith}
use Rattle.std.proofs.lemmas.List.{append-nil, drop_more, drop_all}
use Rattle.base_numbers.specs.Rational.{ℚ}
use Rattle.base_numbers.specs.Extended.{Ext}
use Rattle.base_fractions.specs.Fits.{long_limit}
use Rattle.base_fractions.specs.Operation.{Operation, first_wide}
use Rattle.flow_systems.specs.declared.spot.PartFault.{PartFault}
use Rattle.flow_systems.specs.declared.spot.PartFault.TheVariants.{Wide, NoMemory}
use Rattle.flow_systems.specs.declared.system.System.{System}
use Rattle.flow_systems.proofs.Widths.{first_wide_later, first_wide_sooner}
use Rattle.theory_transformers.specs.Limits.{Limit}
use Rattle.solve_joint.specs.Rows.{AllStand, IsSideFault}
use Rattle.solve_joint.specs.Blocks.{edge_for, block_of, split_width, blocks_from, split_columns, side_of, side_operations}

-- a fault of one side's operations is one of all that they are the first of
side_fault : (os ps : List Operation) (f : PartFault) → ((o : Operation) → first_wide long_limit os ≡ Some o
    → first_wide long_limit ps ≡ Some o) → IsSideFault os f → IsSideFault ps f
side_fault os ps (Wide part wide) k h = (h.0, k _ h.1)
side_fault os ps NoMemory k h = tt

module _ (system : System) (pick : List (Option ℕ)) (base : List Ext) (list : List ℕ) where
  -- the split columns that are left
  pub columns_more : (i : ℕ) → i < length list → split_columns system pick (drop i list)
      ≡ split_width system (edge_for pick (get_or list i 0)) + split_columns system pick (drop (i + 1) list)
  columns_more i l = ap (split_columns system pick) (drop_more list i 0 l)

  -- behind the last unknown no column is left
  pub columns_all : (i : ℕ) → length list ≤ i → split_columns system pick (drop i list) ≡ 0
  columns_all i l = ap (split_columns system pick) (drop_all i list l)

  -- the rows so far, where the columns of the next unknown stand, and no side so far was wide
  pub record AreBlocks (cols : ℕ) (rows : List (List ℚ)) (sides : List ℚ) (offset i : ℕ) : Type 0 where
    -- the limits of the unknowns so far
    pub done : List Limit
    -- all blocks are those so far, and then those of the unknowns left
    pub rest : blocks_from system pick base list 0 list ≡ done ++ blocks_from system pick base list offset (drop i list)
    -- the rows and sides stand for the limits so far
    pub stand : AllStand cols rows sides done
    -- the columns so far and those left are all columns
    pub columns : offset + split_columns system pick (drop i list) ≡ split_columns system pick list
    -- the first wide operation of all sides is that of the unknowns left
    pub first : first_wide long_limit (side_operations system pick base list)
        ≡ first_wide long_limit (side_operations system pick base (drop i list))

  -- before the first unknown there are no rows and no sides
  pub blocks_none : (cols : ℕ) → AreBlocks cols [] [] 0 0
  blocks_none cols = record {
    done = [];
    rest = refl;
    stand = tt;
    columns =
        let e : 0 + split_columns system pick list ≡ split_columns system pick list = omega arith in e;
    first = refl;
  }

  module _ (cols : ℕ) (rows : List (List ℚ)) (sides : List ℚ) (offset i : ℕ) (h : AreBlocks cols rows sides offset i)
      (l : i < length list) where
    abbrev u : ℕ
    u = get_or list i 0

    abbrev side : Operation
    side = side_of system base (edge_for pick u) (u % length system.template) u

    first_left : first_wide long_limit (side_operations system pick base list)
        ≡ first_wide long_limit (side ∷ side_operations system pick base (drop (i + 1) list))
    first_left = h.first ∙ ap (λ xs. first_wide long_limit (side_operations system pick base xs)) (drop_more list i 0 l)

    -- the rows of the unknown at hand extend the blocks by one unknown
    pub blocks_more : (new_rows : List (List ℚ)) (new_sides : List ℚ) (next : ℕ) → next ≡ offset + split_width system (edge_for pick u)
        → first_wide long_limit (side ∷ []) ≡ None →
        ((ls : List Limit) → AllStand cols rows sides ls → AllStand cols new_rows new_sides
        (ls ++ block_of system base list offset (edge_for pick u) u)) → AreBlocks cols new_rows new_sides next (i + 1)
    blocks_more new_rows new_sides next e n k = record {
      done = h.done ++ block_of system base list offset (edge_for pick u) u;
      rest = h.rest ∙ ap (λ xs. h.done ++ blocks_from system pick base list offset xs) (drop_more list i 0 l)
          ∙ sym (append_assoc h.done (block_of system base list offset (edge_for pick u) u)
          (blocks_from system pick base list (offset + split_width system (edge_for pick u)) (drop (i + 1) list)))
          ∙ ap (λ o. (h.done ++ block_of system base list offset (edge_for pick u) u)
          ++ blocks_from system pick base list o (drop (i + 1) list)) (sym e);
      stand = k h.done h.stand;
      columns = let a = h.columns in let b = columns_more i l in omega (arith, a, b, e);
      first = first_left ∙ first_wide_later long_limit (side ∷ []) (side_operations system pick base (drop (i + 1) list)) n;
    }

    -- a fault of the unknown's own side is a fault of all sides
    pub blocks_refused : (f : PartFault) → IsSideFault (side ∷ []) f → IsSideFault (side_operations system pick base list) f
    blocks_refused f k = side_fault (side ∷ []) (side_operations system pick base list) f
        (λ o e. first_left ∙ first_wide_sooner long_limit (side ∷ []) (side_operations system pick base (drop (i + 1) list)) o e) k

    -- the columns of the unknown at hand are within those of the problem
    pub blocks_fit : length list + split_columns system pick list ≡ cols
        → length list + (offset + split_width system (edge_for pick u)) ≤ cols
    blocks_fit e = let a = h.columns in let b = columns_more i l in omega (arith, a, b, e)

  -- behind the last unknown the rows and sides stand for all blocks, and no side is wide
  pub blocks_all : (cols : ℕ) (rows : List (List ℚ)) (sides : List ℚ) (offset i : ℕ) → AreBlocks cols rows sides offset i → length list ≤ i
      →
      AllStand cols rows sides (blocks_from system pick base list 0 list)
      × (first_wide long_limit (side_operations system pick base list) ≡ None)
  blocks_all cols rows sides offset i h l = (
    subst (AllStand cols rows sides) (sym (h.rest ∙ ap (λ xs. h.done ++ blocks_from system pick base list offset xs) (drop_all i list l)
        ∙ append-nil h.done)) h.stand,
    h.first ∙ ap (λ xs. first_wide long_limit (side_operations system pick base xs)) (drop_all i list l),
  )
