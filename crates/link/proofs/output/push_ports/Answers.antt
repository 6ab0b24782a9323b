-- The ports of one piece more.
use Rattle.std.proofs.Common.{◌≡◌, ◌+◌, [], ◌∷◌, ◌++◌, map, drop, sym, ap, ◌∙◌, arith, append_assoc}
use Rattle.link.proofs.Naming.{drop_at}
use Rattle.emit_program.specs.Texts.{in_view}
use Rattle.link.specs.Link.{ins_of, outs_of, in_of, out_of}
use Rattle.link.specs.View.{kept_piece}
use Rattle.link.proofs.output.push_ports.Goals as goal

pub loop-placed-preserved : goal.loop-placed-preserved
loop-placed-preserved c =
    let i = c.loop-placed.placed-index in
    let ds = c.args.pieces.now in
    let d = c.placed-item.result in
    let rest = map kept_piece (drop (i + 1) ds) in
    let front = drop_at ds i d (omega arith) c.placed-item.is in
    record {
      ins = ap (λ ps. ps ++ ins_of rest) c.in_ok-push_port.ensures.ins
          ∙ append_assoc (map in_view c.loop-placed.ins.items) (in_of (kept_piece d).port) (ins_of rest)
          ∙ ap (λ es. map in_view c.loop-placed.ins.items ++ ins_of (map kept_piece es)) (sym front) ∙ c.loop-placed.invariant.ins;
      outs = ap (λ ps. ps ++ outs_of rest) c.in_ok-push_port.ensures.outs
          ∙ append_assoc c.loop-placed.outs.items (out_of (kept_piece d).port) (outs_of rest)
          ∙ ap (λ es. c.loop-placed.outs.items ++ outs_of (map kept_piece es)) (sym front) ∙ c.loop-placed.invariant.outs;
    }
