-- Files that are loaded one after another.
use Rattle.std.proofs.Common.{◌≡◌, ◌≤◌, ◌+◌, ◌∙◌, ◌++◌, ◌∷◌, ℕ, List, [], Bool, true, false, Option, Result, Ok, Err, refl, sym, ap, subst}
use Rattle.std.proofs.Common.{append_assoc, append-nil, arith, length}
use Rattle.std.specs.Prelude.{◌<◌, IsErr, IsOk, is_ok, leb}
use Rattle.base_files.specs.Faults.{next_count}
use Rattle.base_files.specs.Files.{Contents}
use Rattle.base_files.specs.Loads.{IsFrontOf, LoadedFile, newest_bytes}
use Rattle.ask_files.specs.Files.{NamedFile, most_bytes}
use Rattle.ask_files.specs.Loads.{AreRead, IsRead, LoadsEnd, LoadsNext}
use Rattle.ask_files.specs.Loads.{failed, has_failed, too_long, wants_memory, wanted_memory, was_long, was_read}

-- ---- the load of one file

le_of : (a b : ℕ) → leb a b ≡ true → a ≤ b
le_of a b e = grind arith

lt_of : (a b : ℕ) → leb a b ≡ false → b < a
lt_of a b e = grind arith

-- a file that is loaded is read or too long, as its length says
pub loaded : {E : Type 0} (told : Option Contents) (file : NamedFile) (loads now : List LoadedFile) (faults faults_now : ℕ) (last : List ℕ)
    (bytes : List ℕ) → bytes ≡ newest_bytes now → now ≡ loads ++ (file.1, newest_bytes now) ∷ []
    → IsFrontOf told file.1 (most_bytes file.0 + 1) (newest_bytes now) → faults_now ≡ faults
    → LoadsNext {E = E} told file loads now faults faults_now last (Ok (leb (length bytes) (most_bytes file.0)))
loaded {E} told file loads now faults faults_now last bytes is log front calm =
    by_test (leb (length bytes) (most_bytes file.0)) refl
  where
    load : LoadedFile
    load = (file.1, newest_bytes now)

    by_test : (b : Bool) → leb (length bytes) (most_bytes file.0) ≡ b → LoadsNext {E = E} told file loads now faults faults_now last (Ok b)
    by_test true e = was_read load log (record {
      is_load = record { name_is = refl; front = front };
      within = subst (λ t. length t ≤ most_bytes file.0) is (le_of _ _ e);
    }) calm refl
    by_test false e = was_long load log (record {
      is_load = record { name_is = refl; front = front };
      over = subst (λ t. most_bytes file.0 < length t) is (lt_of _ _ e);
    }) calm refl

-- ---- one after another

-- one more file was read
one_more : (told : Option Contents) (files : List NamedFile) (made : List LoadedFile) (file : NamedFile) (left : List NamedFile)
    (load : LoadedFile) → AreRead told files made (file ∷ left) → IsRead told file load → AreRead told files (made ++ load ∷ []) left
one_more told files [] file left load h read = subst (λ fs. AreRead told fs (load ∷ []) left) (sym h) (read, refl)
one_more told [] (other ∷ made) file left load h read = absurd h
one_more told (first ∷ files) (other ∷ made) file left load h read = (h.0, one_more told files made file left load h.1 read)

-- the first files were read, with no failure, and these are left
pub record HasRead (told : Option Contents) (files : List NamedFile) (loads now : List LoadedFile) (faults faults_now : ℕ)
    (left : List NamedFile) : Type 0 where
  -- the loads that were made
  pub made : List LoadedFile
  -- they stand behind those before
  pub log : now ≡ loads ++ made
  -- they are of the files before those that are left
  pub are_read : AreRead told files made left
  -- no load failed
  pub calm : faults_now ≡ faults

-- before the first load nothing was read
pub none_read : (told : Option Contents) (files : List NamedFile) (loads : List LoadedFile) (faults : ℕ)
    → HasRead told files loads loads faults faults files
none_read told files loads faults = record { made = []; log = sym (append-nil loads); are_read = refl; calm = refl }

true_false : {E : Type 0} (r : Result Bool E) → r ≡ Ok true → r ≡ Ok false → ⊥
true_false r e e' = cc

err_ok : {E : Type 0} (r : Result Bool E) → IsErr r → r ≡ Ok true → ⊥
err_ok (Ok b) e e' = let h : ⊥ = cc in h
err_ok (Err x) e e' = cc

module _ {E : Type 0} (told told_now : Option Contents) (same : told_now ≡ told) (files : List NamedFile)
    (loads now next : List LoadedFile) (f f' f'' : ℕ) (last : List ℕ) (file : NamedFile) (rest left : List NamedFile)
    (read : HasRead told files loads now f f' rest) (cut : rest ≡ file ∷ left) (result : Result Bool E)
    (loaded : LoadsNext told_now file now next f' f'' last result) where
  next_is : AreRead told files read.made (file ∷ left)
  next_is = subst (λ fs. AreRead told files read.made fs) cut read.are_read

  more_log : (load : LoadedFile) → next ≡ now ++ load ∷ [] → next ≡ loads ++ (read.made ++ load ∷ [])
  more_log load log = log ∙ ap (λ l. l ++ load ∷ []) read.log ∙ append_assoc loads read.made (load ∷ [])

  here : LoadsNext told file now next f' f'' last result
  here = subst (λ t. LoadsNext t file now next f' f'' last result) same loaded

  step : LoadsNext told file now next f' f'' last result → result ≡ Ok true → HasRead told files loads next f f'' left
  step (was_read load log is calm e) ok = record {
    made = read.made ++ load ∷ [];
    log = more_log load log;
    are_read = one_more told files read.made file left load next_is is;
    calm = calm ∙ read.calm;
  }
  step (was_long load log is calm e) ok = absurd (true_false result ok e)
  step (has_failed log count name e) ok = absurd (true_false result ok e)
  step (wanted_memory log calm e) ok = absurd (err_ok result e ok)

  -- the file that is loaded next is read
  pub goes_on : result ≡ Ok true → HasRead told files loads next f f'' left
  goes_on ok = step here ok

  stop : {F : Type 0} (answer : Result (Unit {0}) F) → LoadsNext told file now next f' f'' last result → (result ≡ Ok true → ⊥)
      → (IsErr result → IsErr answer) → (IsOk result → IsOk answer)
      → (made : List LoadedFile) × (next ≡ loads ++ made) × LoadsEnd told files made f f'' last answer
  stop answer (was_read load log is calm e) other err ok = absurd (other e)
  stop answer (was_long load log is calm e) other err ok = (
    read.made ++ load ∷ [],
    more_log load log,
    too_long read.made load file left refl next_is is (calm ∙ read.calm) (ok (ap is_ok e)),
  )
  stop answer (has_failed log count name e) other err ok =
      (read.made, log ∙ read.log, failed file left next_is (count ∙ ap next_count read.calm) name (ok (ap is_ok e)))
  stop answer (wanted_memory log calm e) other err ok =
      (read.made, log ∙ read.log, wants_memory file left next_is (calm ∙ read.calm) (err e))

  -- it isn't read, since it failed or is too long
  pub ends : {F : Type 0} (b : Bool) → result ≡ Ok b → b ≡ false
      → (made : List LoadedFile) × (next ≡ loads ++ made) × LoadsEnd {E = F} told files made f f'' last (Ok tt)
  ends b is no_more = stop (Ok tt) here (λ e. true_false result e (is ∙ ap Ok no_more)) (λ e. absurd (ok_err b is e)) (λ e. refl)
    where
      ok_err : (b : Bool) → result ≡ Ok b → IsErr result → ⊥
      ok_err b is e = cc

  -- memory is wanted
  pub ends_wanting : {F : Type 0} (error : E) (answer : Result (Unit {0}) F) → result ≡ Err error → IsErr answer
      → (made : List LoadedFile) × (next ≡ loads ++ made) × LoadsEnd told files made f f'' last answer
  ends_wanting error answer is err = stop answer here (λ e. err_true error is e) (λ e. err) (λ e. absurd (err_not_ok error is e))
    where
      err_true : (error : E) → result ≡ Err error → result ≡ Ok true → ⊥
      err_true error is e = cc

      err_not_ok : (error : E) → result ≡ Err error → IsOk result → ⊥
      err_not_ok error is e = cc
