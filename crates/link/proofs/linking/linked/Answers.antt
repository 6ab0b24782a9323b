-- Without faults and with flags there is an output: `linked`.
use Rattle.std.proofs.Common.{◌≡◌, List, ℕ, Bor, Some, map, option_map, sym, ap, ◌∙◌, subst, arith, refl}
use Rattle.link.specs.Link.{Placed, linked_or, output_of, flags_in}
use Rattle.link.specs.Programs.{Tells}
use Rattle.link.specs.View.{part_view, placed_view, kept_piece}
use Rattle.link.proofs.Written.{linked, pieces_of_placed}
use Rattle.link.proofs.linking.linked.Goals as goal

pub returns-in_ok-bytes-in-Some-clause-output : goal.returns-in_ok-bytes-in-Some-clause-output
returns-in_ok-bytes-in-Some-clause-output c =
    let entry = part_view c.args.entry.now in
    let ds = map placed_view c.args.pieces.now in
    let ps = map (λ (d : Placed). d.piece) ds in
    let o = output_of entry.name c.in-Some.flags.now ps in
    let made = option_map (λ flags. output_of entry.name flags ps) in (
      o,
      ap (λ fs. linked_or fs (made (flags_in entry.fragment.main))) (sym c.in_ok-faults.ensures)
          ∙ ap (λ x. linked_or c.in_ok-faults.faults.items (made x))
          (sym c.flags_of.ensures ∙ ap (option_map (λ (b : Bor (List ℕ)). b.now)) c.in-Some.is)
          ∙ linked c.in_ok-faults.faults.items o (omega (arith, c.if-len-ne0.false, c.len.ensures)),
      (λ p t. c.in_ok-bytes-in-Some.ensures.text p
          (subst (λ qs. Tells (output_of entry.name c.in-Some.flags.now qs) p)
          (sym (pieces_of_placed placed_view kept_piece (λ x. refl) c.args.pieces.now)) t)),
    )
