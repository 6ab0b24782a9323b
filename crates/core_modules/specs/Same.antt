-- Signs that are the same.
use Rattle.std.specs.Prelude.{ℕ, List, map, Bool, false, nat_eq}
use Rattle.elm_canon.specs.Names.{same_name}
use Rattle.core_modules.specs.declared.port_faults_sign.Sign.{Sign}
use Rattle.core_modules.specs.declared.port_faults_sign.Sign.TheVariants as sign
use Rattle.core_modules.specs.declared.port_faults_sign.Form.{Form}
use Rattle.core_modules.specs.declared.port_faults_sign.Form.TheVariants.{Other, End, Lambda, Apply, Two, Alone}
use Rattle.core_modules.specs.declared.port_faults_sign.Port.{Port}
use Rattle.core_modules.specs.declared.port_faults_sign.Port.TheVariants.{Wrong, Sends, Listens, TakesSend, TakesListen}
use Rattle.core_modules.specs.declared.port_faults_sign.Port.TheVariants.{TakesCommands, TakesSubscriptions}
use Rattle.core_modules.specs.declared.port_faults_sign.Row.{Row}
use Rattle.core_modules.specs.declared.port_faults_sign.Row.TheVariants as row

abbrev pub form_number : Form → ℕ
form_number Other = 0
form_number End = 1
form_number Lambda = 2
form_number Apply = 3
form_number Two = 4
form_number Alone = 5

abbrev pub port_number : Port → ℕ
port_number Wrong = 0
port_number Sends = 1
port_number Listens = 2
port_number TakesSend = 3
port_number TakesListen = 4
port_number TakesCommands = 5
port_number TakesSubscriptions = 6

abbrev pub same_sign : Sign → Sign → Bool
same_sign (sign.Local x) (sign.Local y) = same_name x y
same_sign (sign.Named x) (sign.Named y) = same_name x y
same_sign (sign.Form f) (sign.Form g) = nat_eq (form_number f) (form_number g)
same_sign (sign.Port p) (sign.Port q) = nat_eq (port_number p) (port_number q)
same_sign _ _ = false

-- the rows of a table as the program keeps them
abbrev pub row_view : Row → Sign
row_view (row.Local x) = sign.Local x.now
row_view (row.Named x) = sign.Named x.now
row_view (row.Form f) = sign.Form f
row_view (row.Port p) = sign.Port p

abbrev pub rows_view : List Row → List Sign
rows_view rs = map row_view rs
