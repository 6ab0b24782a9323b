-- A type has 100 levels at first.
use Rattle.port_payload.specs.Payloads.{payload_of}
use Rattle.port_payload.proofs.node_payload.payload_at.Goals as goal

pub returns : goal.returns
unfolding payload_of
returns c = c.payload_within.ensures.payload
