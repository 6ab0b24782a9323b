-- What is read was written, and where nothing is read no interface has the bytes: `text_read`, `none_has`.
use Rattle.std.proofs.Common.{subst}
use Rattle.interface.specs.declared.error.ReadError.{ReadError}
use Rattle.interface.specs.Formats.{whole}
use Rattle.interface.specs.Reading.{Fails}
use Rattle.interface.specs.Text.{interface_format}
use Rattle.interface.specs.View.{interface_view}
use Rattle.interface.proofs.Whole.{text_read, none_has}
use Rattle.interface.proofs.received.from_text.Goals as goal

pub returns-in-Ok-clause-found : goal.returns-in-Ok-clause-found
returns-in-Ok-clause-found c = (text_read c.args.bytes.now (interface_view c.in-Ok.interface) c.in-Ok.ensures).0

pub returns-in-Refused-clause-none : goal.returns-in-Refused-clause-none
returns-in-Refused-clause-none c = none_has c.args.bytes.now (subst (λ (e : ReadError). Fails e (whole interface_format c.args.bytes.now)) c.in-Refused.is c.in-Err.ensures)
