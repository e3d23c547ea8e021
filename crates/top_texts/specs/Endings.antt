-- The ending that the texts of a check and of an upgrade have.
use Rattle.std.specs.Prelude.{ℕ, List}
use Rattle.top_texts.specs.Checks.{IsAccepted, IsFormFault, IsRefusedCertificate, IsWideAt}
use Rattle.top_texts.specs.Texts.{IsRefusedProgram, Program}
use Rattle.top_texts.specs.Upgrades.{IsUpgradeOf}
use Rattle.top_status.specs.declared.status.CertCause.TheVariants.{Form}
use Rattle.top_status.specs.declared.status.Excess.TheVariants.{Wide}
use Rattle.top_status.specs.declared.status.Status.{Status}
use Rattle.top_status.specs.declared.status.Status.TheVariants.{Done, Certificate, Text, Exceeded}

-- this is the ending that a program and the bytes of a certificate have
abbrev pub CheckEnd : Program → List ℕ → Status → Type 0
CheckEnd program bytes Done = IsAccepted program bytes
CheckEnd program bytes (Certificate cause) = IsRefusedCertificate program bytes cause
CheckEnd program bytes (Text cause) = IsRefusedProgram program cause
CheckEnd program bytes (Exceeded (Wide spot)) = IsWideAt program bytes spot
CheckEnd program bytes _ = ⊥

-- this is the ending that the bytes of a certificate have which are upgraded
abbrev pub UpgradeEnd : List ℕ → Status → Type 0
UpgradeEnd bytes Done = (written : List ℕ) × IsUpgradeOf bytes written
UpgradeEnd bytes (Certificate (Form fault)) = IsFormFault bytes fault
UpgradeEnd bytes _ = ⊥
