-- Interfaces of one text are the same: `one_text`.
use Rattle.std.proofs.Common.{◌≡◌, sym, ap, ◌∙◌}
use Rattle.interface.specs.Text.{text_of}
use Rattle.interface.specs.View.{interface_view}
use Rattle.interface.proofs.Whole.{one_text}
use Rattle.interface.proofs.offer.same.Goals as goal

pub returns : goal.returns
returns c =
    let a = c.args.first.now.written in
    let b = c.args.second.now.written in
    let d : c.deref.result.now ≡ text_of (interface_view c.args.first.now) = c.deref.ensures.value ∙ a.0 in
    let e : c.deref-2.result.now ≡ text_of (interface_view c.args.second.now) = c.deref-2.ensures.value ∙ b.0 in (
      λ t. one_text (interface_view c.args.first.now) (interface_view c.args.second.now) a.1 b.1 (sym d ∙ c.same_text.ensures.0 t ∙ e),
      λ is. c.same_text.ensures.1 (d ∙ ap text_of is ∙ sym e),
    )
