-- Lists that are tested, read and counted an element at a time.
use Rattle.std.proofs.Common.{◌≡◌, ◌+◌, ◌<◌, ◌≤◌, ◌&&◌, ℕ, Bool, true, false, List, Option, Some, None, option_map, refl, sym, ap, ◌∙◌}
use Rattle.std.proofs.Common.{arith, Result, Ok, Err}
use Rattle.std.specs.Prelude.{if◌then◌else◌}
use Rattle.std.specs.List.{flat_map}
use Rattle.serde_json.specs.Data.{Data, Items, item, no_items}
use Rattle.serde_json.specs.Events.{items_len}
use Rattle.base_fractions.proofs.texts.Slashes.{some_same}
use Rattle.cert_written.specs.declared.trace.Trace.{Trace}
use Rattle.cert_text.specs.declared.fault.Field.{Field}
use Rattle.cert_text.specs.declared.fault.FormFault.{FormFault}
use Rattle.cert_text.specs.declared.fault.FormFault.TheVariants.{Number, Shape}
use Rattle.cert_text.specs.declared.limits.TheConstants.{MOST_VALUES}
use Rattle.cert_text.specs.Certificates.{and_then, read_from}
use Rattle.cert_text.specs.Lists.{all_items, items_in}
use Rattle.cert_text.specs.Naming.{capped, values_of}
use Rattle.cert_text.proofs.naming.Counts.{count_in, count_one, counted, counted_none, one_counted}

-- fewer elements are left
pub shorter : (ds rest : Items) (d : Data) → ds ≡ item d rest → items_len rest < items_len ds
shorter ds rest d e = omega (arith, ap items_len e)

-- ---- shapes

module _ (test : Data → Bool) (ds rest : Items) (d : Data) (all : Bool) (is : ds ≡ item d rest) (e : all ≡ all_items test ds) where
  -- a value with its shape
  pub shaped : true ≡ test d → all ≡ all_items test rest
  shaped h = e ∙ ap (all_items test) is ∙ ap (λ b. b && all_items test rest) (sym h)

  -- a value without its shape
  pub misshapen : false ≡ test d → all ≡ false
  misshapen h = e ∙ ap (all_items test) is ∙ ap (λ b. b && all_items test rest) (sym h)

-- at the end all have their shapes
pub all_shaped : (test : Data → Bool) (ds : Items) (all : Bool) → ds ≡ no_items → all ≡ all_items test ds → all ≡ true
all_shaped test ds all is e = e ∙ ap (all_items test) is

-- ---- how many values their traces hold

-- a number of values is counted, and these elements are left
pub record IsCounted {A : Type 0} (test : Data → Bool) (read : Data → Option A) (traces_of : A → List Trace) (all left : Items) (total : ℕ)
    : Type 0 where
  -- as far as values are counted
  pub few : total ≤ MOST_VALUES + 1
  -- the elements before these have their shapes
  pub shaped : all_items test all ≡ all_items test left
  -- and their values are those that are counted
  pub count : count_in read traces_of all ≡ counted read traces_of total (items_in read left)

-- one that is counted under a setting is so under any that is the same
pub under : {A S : Type 0} (read : S → Data → Option A) (traces_of : A → List Trace) (s t : S) (d : Data) (n : Option ℕ) → s ≡ t
    → n ≡ count_one (read t) traces_of d → n ≡ count_one (read s) traces_of d
under {S = S} read traces_of s t d n is e = e ∙ ap (λ (u : S). count_one (read u) traces_of d) (sym is)

module _ {A : Type 0} (test : Data → Bool) (read : Data → Option A) (traces_of : A → List Trace) where
  -- at first none is counted
  pub none_counted : (ds : Items) → IsCounted test read traces_of ds ds 0
  none_counted ds = record { few = omega arith; shaped = refl; count = counted_none read traces_of (items_in read ds) }

  -- one more is counted
  pub counted_on : (all ds rest : Items) (d : Data) (total : ℕ) → IsCounted test read traces_of all ds total → ds ≡ item d rest
      → (m now : ℕ) → true ≡ test d → Some m ≡ count_one read traces_of d → now ≡ capped (total + m)
      → IsCounted test read traces_of all rest now
  counted_on all ds rest d total so_far is m now h found more = record {
    few = omega (arith, more);
    shaped = shaped test ds rest d _ is so_far.shaped h;
    count = one_counted read traces_of ds rest d is total (count_in read traces_of all) so_far.count m now found more;
  }

  -- at the end all are counted
  pub all_counted : (all ds : Items) (total : ℕ) → IsCounted test read traces_of all ds total → ds ≡ no_items
      → count_in read traces_of all ≡ Some total
  all_counted all ds total so_far is =
      let small : capped total ≡ total = omega (arith, so_far.few) in
      let z : total + 0 ≡ total = omega arith in
      so_far.count ∙ ap (λ xs. counted read traces_of total (items_in read xs)) is ∙ ap (λ n. Some (capped n)) z ∙ ap Some small

-- ---- the answers

module _ {A : Type 0} (field : Field) (test : Data → Bool) (read : Data → Option A) (ds : Items) where
  -- elements that are all read
  pub from_read : (xs : List A) → all_items test ds ≡ true → items_in read ds ≡ Some xs → read_from field test read ds ≡ Ok xs
  from_read xs p e = rw (p, e)

  -- one without its shape
  pub from_misshapen : all_items test ds ≡ false → read_from field test read ds ≡ Err (Shape field)
  from_misshapen p = rw p

  -- one that isn't read, where all of them have their shapes or not
  pub from_unread : (b : Bool) (fault : FormFault) → all_items test ds ≡ b → items_in read ds ≡ None
      → fault ≡ (if b then Number field else Shape field) → read_from field test read ds ≡ Err fault
  from_unread true fault p e f = rw (p, e) (ap Err (sym f))
  from_unread false fault p e f = rw p (ap Err (sym f))

  module _ (traces_of : A → List Trace) where
    abbrev counted_from : Result (List A) FormFault → Result ℕ FormFault
    counted_from r = and_then r (λ (xs : List A). Ok (capped (values_of (flat_map traces_of xs))))

    -- elements that are all counted
    pub count_read : (n : ℕ) → all_items test ds ≡ true → count_in read traces_of ds ≡ Some n
        → counted_from (read_from field test read ds) ≡ Ok n
    count_read n p e = by (items_in read ds) refl e
      where
        by : (o : Option (List A)) → items_in read ds ≡ o
            → option_map (λ (xs : List A). capped (values_of (flat_map traces_of xs))) o ≡ Some n
            → counted_from (read_from field test read ds) ≡ Ok n
        by None q f = absurd cc
        by (Some xs) q f = ap counted_from (from_read xs p q) ∙ ap Ok (some_same f)

    -- one without its shape
    pub count_misshapen : all_items test ds ≡ false → counted_from (read_from field test read ds) ≡ Err (Shape field)
    count_misshapen p = ap counted_from (from_misshapen p)

    -- one that isn't read, where all of them have their shapes or not
    pub count_unread : (b : Bool) (fault : FormFault) → all_items test ds ≡ b → count_in read traces_of ds ≡ None
        → fault ≡ (if b then Number field else Shape field) → counted_from (read_from field test read ds) ≡ Err fault
    count_unread b fault p e f = by (items_in read ds) refl e
      where
        by : (o : Option (List A)) → items_in read ds ≡ o
            → option_map (λ (xs : List A). capped (values_of (flat_map traces_of xs))) o ≡ None
            → counted_from (read_from field test read ds) ≡ Err fault
        by None q g = ap counted_from (from_unread b fault p q f)
        by (Some xs) q g = absurd cc
