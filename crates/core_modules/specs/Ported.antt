-- Signs that have no name.
use Rattle.std.specs.Prelude.{Option, Some, None}
use Rattle.core_modules.specs.declared.port_faults_sign.Sign.{Sign}
use Rattle.core_modules.specs.declared.port_faults_sign.Sign.TheVariants as sign
use Rattle.core_modules.specs.declared.port_faults_sign.Form.TheVariants.{Other}
use Rattle.core_modules.specs.declared.port_faults_sign.Port.{Port}

-- that of ports, if it is one
abbrev pub sign_of : Option Port → Sign
sign_of None = sign.Form Other
sign_of (Some p) = sign.Port p
