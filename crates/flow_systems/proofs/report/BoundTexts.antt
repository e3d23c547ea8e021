-- A bound's text is that of the value of the code.
use Rattle.std.proofs.Common.{◌≡◌, refl}
use Rattle.base_fractions.specs.declared.ext.Ext.{Ext}
use Rattle.base_fractions.specs.declared.ext.Ext.TheVariants.{NegInf, Fin, PosInf}
use Rattle.base_fractions.specs.Extended.{extended, ext_text}
use Rattle.flow_systems.specs.Report.{bound_text}

bound_text-extended : (e : Ext) → bound_text (extended e) ≡ ext_text e
bound_text-extended NegInf = refl
bound_text-extended (Fin q) = refl
bound_text-extended PosInf = refl
