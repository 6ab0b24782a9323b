use Rattle.build_safety.proofs.PortWorlds.{programs_have_ports, links_carry}
use Rattle.build_safety.proofs.port_worlds.worlds_law.Goals as goal

pub returns : goal.returns
returns c = record { ports = programs_have_ports; carried = links_carry }
