-- Frames: `reverse_push`, `close_text`, `close_wanted`.
use Rattle.std.proofs.Common.{◌≡◌, ◌∷◌, ◌++◌, [], rules, reverse, ◌∙◌, ap, arith}
use Rattle.elm_type.proofs.Framing.{reverse_push, close_text, close_wanted}
use Rattle.elm_type.proofs.frame.next_frame.Goals as goal

pub loop-top-preserved : goal.loop-top-preserved
loop-top-preserved c =
    let i : c.loop-top.frames.items ≡ c.pop.new.self.items ++ c.in-Some.top ∷ [] = search rules in
    let e : reverse c.loop-top.frames.items ≡ c.in-Some.top ∷ reverse c.pop.new.self.items = ap reverse i ∙ reverse_push c.pop.new.self.items c.in-Some.top in
    record {
      text = λ name rs. close_text name rs c.loop-top.frames.items c.pop.new.self.items c.in-Some.top c.loop-top.text.items c.put.new.text.items e (omega arith) (c.in_ok-put.ensures ∙ ap (λ t. c.loop-top.text.items ++ t) c.closing_ascii.ensures) ∙ c.loop-top.invariant.text name rs;
      wanted = close_wanted c.loop-top.frames.items c.pop.new.self.items c.in-Some.top e (omega arith) ∙ c.loop-top.invariant.wanted;
    }
