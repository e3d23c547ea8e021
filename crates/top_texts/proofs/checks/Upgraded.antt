-- A certificate that is accepted for a program is accepted as it is upgraded, too.
use Rattle.std.proofs.Common.{◌≡◌, ◌+◌, ◌≤◌, ◌<◌, ◌⊎◌, ◌∙◌, ◌==◌, ◌++◌, ⊎_elim, ℕ, Bool, true, false, List, [], ◌∷◌, length, map, refl}
use Rattle.std.proofs.Common.{sym, ap}
use Rattle.std.proofs.Common.{subst, arith, if◌then◌else◌}
use Rattle.std.specs.Prelude.{ℤ, IsTrue}
use Rattle.lang_tree.specs.Tree.{Statements}
use Rattle.flow_templates.specs.RowFaults.{count_faults, faults_from, faults_of, row_faults}
use Rattle.flow_templates.specs.Rows.{is_row}
use Rattle.flow_templates.specs.declared.fault.RowFault.TheVariants.{ZeroRow, Length}
use Rattle.flow_systems.specs.Equations.{Vector}
use Rattle.flow_systems.specs.Solutions.{equations_of_program}
use Rattle.flow_systems.specs.SystemLimits.{is_over}
use Rattle.theory_validity.specs.Certificates.{ValidCertificate}
use Rattle.cert_types.specs.declared.cert.Cert.{Cert}
use Rattle.cert_written.specs.Bare.{bare_cert, bare_entries}
use Rattle.cert_written.specs.declared.cert.Cert.{Cert as WrittenCert}
use Rattle.cert_text.specs.Certificates.{IsBeyond, IsWithin, SpellsTooMany, written_values}
use Rattle.cert_text.specs.declared.limits.TheConstants.{MOST_VALUES}
use Rattle.cert_text.proofs.form_laws.Laws.{one_reading}
use Rattle.cert_fitted.specs.Fitted.{cert_for, rows_for}
use Rattle.cert_fitted.proofs.fitted_laws.Evidence.{valid_same}
use Rattle.cert_fitted.proofs.fitted_laws.Lists.{rows_same}
use Rattle.top_texts.specs.Checks.{IsAcceptedWith, fitted_to, system_with, theirs}
use Rattle.top_texts.specs.Texts.{Program}
use Rattle.top_texts.specs.Upgrades.{IsUpgradeOf}

-- ---- rows without faults have the length that is asked for

first_nil : {A : Type 0} (xs ys : List A) → xs ++ ys ≡ [] → xs ≡ []
first_nil [] ys h = refl
first_nil (x ∷ xs) ys h = cc

second_nil : {A : Type 0} (xs ys : List A) → xs ++ ys ≡ [] → ys ≡ []
second_nil [] ys h = h
second_nil (x ∷ xs) ys h = cc

long : (line : ℕ) (b c : Bool) → (if b then (if c then [] else ZeroRow line ∷ []) else Length line ∷ []) ≡ [] → b ≡ true
long line true c h = refl
long line false c h = cc

over_from : (n line : ℕ) (rows : List (List ℤ)) → faults_from n line rows ≡ [] → IsTrue (is_over n rows)
over_from n line [] h = refl
over_from n line (row ∷ rows) h =
    rw (long line (length row == n) (is_row row) (first_nil (row_faults n (line, row)) (faults_from n (line + 1) rows) h))
    (over_from n (line + 1) rows (second_nil (row_faults n (line, row)) (faults_from n (line + 1) rows) h))

-- rows without faults over so many variables have this length
pub over_by_faults : (n : ℕ) (rows : List (List ℤ)) → faults_of n rows ≡ [] → IsTrue (is_over n rows)
over_by_faults n rows h = over_from n 1 rows (first_nil (faults_from n 1 rows) (count_faults (length rows)) h)

-- ---- the certificate for which a text stands

-- traces that don't hold too many values hold few enough
pub few : (cert : WrittenCert) → (IsBeyond cert → ⊥) → IsWithin cert
few cert n = ⊎_elim (λ h. h) (λ h. absurd (n h)) (le_or_lt (written_values cert) MOST_VALUES)
  where
    le_or_lt : (m k : ℕ) → (m ≤ k) ⊎ (k < m)
    le_or_lt m k = grind arith

-- a valid certificate is the one for which its text stands without zeros
bare_fitted : (names : List (List ℕ)) (body : Statements) (written : WrittenCert) (cert : Cert) → cert ≡ fitted_to names body written
    → faults_of (length names) cert.rows ≡ [] → ValidCertificate (system_with names body cert) (theirs cert)
    → cert ≡ fitted_to names body (bare_cert written)
bare_fitted names body written cert is sound valid =
    let n = length names in
    let rows : rows_for n (map bare_entries written.rows) ≡ rows_for n written.rows =
    rows_same n written.rows (over_by_faults n (rows_for n written.rows) (subst (λ (c : Cert). faults_of n c.rows ≡ []) is sound)) in
    is ∙ sym (ap (λ (rs : List (List ℤ)). cert_for (equations_of_program n body rs) (bare_cert written)) rows
    ∙ valid_same (equations_of_program n body (rows_for n written.rows)) written
    (subst (λ (c : Cert). ValidCertificate (system_with names body c) (theirs c)) is valid))

-- what is accepted is accepted as it is upgraded, unless its traces then hold too many values
pub upgraded_accepted : (program : Program) (bytes written : List ℕ) (names : List (List ℕ)) (body : Statements) (rows : List (List ℤ))
    (vector : Vector) → IsUpgradeOf bytes written → (SpellsTooMany written → ⊥)
    → IsAcceptedWith program bytes names body rows vector → IsAcceptedWith program written names body rows vector
upgraded_accepted program bytes written names body rows vector u short a =
    let system = a.valid.system in
    let same : system.spelt.spells.written ≡ u.cert =
    one_reading bytes system.spelt.spells.written u.cert system.spelt.spells.spells u.spells in
    record {
      cert = a.cert;
      rows_are = a.rows_are;
      vector_is = a.vector_is;
      valid = record {
        system = record {
          spelt = record {
            analysed = system.spelt.analysed;
            spells = record {
              written = bare_cert u.cert;
              spells = u.again (few u.cert (λ many. short (u.expands many)));
              fitted = bare_fitted names body u.cert a.cert
                  (system.spelt.spells.fitted ∙ ap (λ (w : WrittenCert). fitted_to names body w) same) system.rows a.valid.valid;
            };
          };
          rows = system.rows;
          within = system.within;
        };
        valid = a.valid.valid;
      };
      narrow = a.narrow;
    }
