-- No more types are to come than there are nodes: `fits_made`, `fits_record`, `fits_open`.
use Rattle.std.proofs.Common.{arith}
use Rattle.port_payload.proofs.Lasting.{fits_made, fits_record, fits_open}
use Rattle.port_payload.proofs.part.still_left.Goals as goal

pub overflow_add-result : goal.overflow_add-result
overflow_add-result c =
    omega (
      arith,
      fits_made c.args.most c.args.left c.in-Made.parts _ _ c.in-Made.is c.requires.some c.requires.few,
      c.ranges.most.fits,
    )

pub overflow_add-result-in-Record : goal.overflow_add-result-in-Record
overflow_add-result-in-Record c =
    omega (
      arith,
      fits_record c.args.most c.args.left c.in-Record.fields _ c.in-Record.is c.requires.some
          c.requires.few,
      c.ranges.most.fits,
    )

pub overflow_add-result-in-Open : goal.overflow_add-result-in-Open
overflow_add-result-in-Open c =
    omega (
      arith,
      fits_open c.args.most c.args.left c.in-Open.fields _ _ c.in-Open.is c.requires.some c.requires.few,
      c.ranges.most.fits,
    )
