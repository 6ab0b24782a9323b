use Rattle.emit_laws.proofs.meaning_laws.record_laws.Goals as goal
use Rattle.emit_laws.proofs.Records.{records_hold, updates_hold, records_rise, updates_rise, records_alike}

pub returns : goal.returns
returns c = record {
  records_hold = records_hold;
  updates_hold = updates_hold;
  records_rise = records_rise;
  updates_rise = updates_rise;
  records_alike = records_alike;
}
