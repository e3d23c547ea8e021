-- What is written for the bytes of a certificate, in whichever of the formats they are.
use Rattle.std.specs.Prelude.{◌≡◌, ℕ, List}
use Rattle.serde_json.specs.Written.{compact_text}
use Rattle.cert_written.specs.Bare.{bare_cert}
use Rattle.cert_written.specs.declared.cert.Cert.{Cert}
use Rattle.cert_text.specs.Certificates.{IsBeyond, IsWithin, SpellsCert, SpellsTooMany, cert_data}

-- the bytes spell a certificate, and this is the text that is written of it; the text spells it without the zeros of its lists, unless
-- its traces then hold too many values
pub record IsUpgradeOf (bytes written : List ℕ) : Type 0 where
  pub cert : Cert
  pub spells : SpellsCert bytes cert
  pub text : written ≡ compact_text (cert_data cert)
  pub again : IsWithin cert → SpellsCert written (bare_cert cert)
  pub expands : IsBeyond cert → SpellsTooMany written
