use Rattle.std.proofs.Common.{◌∷◌, ◌++◌, ◌-◌, reverse, ap, ◌∙◌}
use Rattle.pattern_check.specs.Starts.{part_view}
use Rattle.pattern_check.specs.Written.{rest, begin_text, left_of}
use Rattle.pattern_check.proofs.Writing.{part_step}
use Rattle.pattern_check.proofs.text.write_part.Goals as goal

pub returns-clause-text : goal.returns-clause-text
returns-clause-text c = λ ps.
    part_step c.args.top (part_view c.args.part) ps (reverse c.args.rests.now.items) (reverse c.push_rest.new.rests.items)
    (reverse c.push_rest-2.new.rests.items) c.args.text.now.items c.put.new.text.items c.put_begin.new.text.items c.requires
    (c.in_ok-put.ensures ∙ ap (λ z. c.args.text.now.items ++ z) c.separator.ensures)
    (c.in_ok-put_begin.ensures ∙ ap (λ a. c.put.new.text.items ++ begin_text a (part_view c.args.part)) c.standing-around.ensures)
    (c.in_ok-push_rest.ensures.top
    ∙ ap (λ k. rest k (c.args.top.left - 1) c.args.top.closing ∷ reverse c.args.rests.now.items) c.next.ensures)
    (c.in_ok-push_rest-2.ensures.top
    ∙ ap (λ r. r ∷ reverse c.push_rest.new.rests.items)
    (c.left_of.ensures ∙ ap (λ a. left_of a (part_view c.args.part)) c.standing-around.ensures))
