-- The aliases in an order of use, and then the ports: `payloads_well`, `names_once`, `shown_well`.
use Rattle.module_proper.proofs.PortProperResolved.{payloads_well, names_once, shown_well}
use Rattle.module_proper.proofs.port_proper_laws.module_law.Goals as goal

pub returns : goal.returns
returns c = record {
  payloads = λ s t m is read imports none. payloads_well s t m is read none imports;
  names = λ s t m scope is a read none. names_once s t m is read none scope a;
  shown = λ s t m is read imports none. shown_well s t m is read none imports;
}
