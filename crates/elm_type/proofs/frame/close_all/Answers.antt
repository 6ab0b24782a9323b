-- Frames: `reverse_push`, `end_text`.
use Rattle.std.proofs.Common.{◌≡◌, ◌∷◌, ◌++◌, [], rules, reverse, sym, ◌∙◌, ap, append-nil}
use Rattle.elm_type.specs.Frames.{pending}
use Rattle.elm_type.proofs.Framing.{reverse_push, end_text}
use Rattle.elm_type.proofs.frame.close_all.Goals as goal

pub loop-top-preserved : goal.loop-top-preserved
loop-top-preserved c =
    let i : c.loop-top.frames.items ≡ c.pop.new.self.items ++ c.in-Some.top ∷ [] = search rules in
    let e : reverse c.loop-top.frames.items ≡ c.in-Some.top ∷ reverse c.pop.new.self.items = ap reverse i ∙ reverse_push c.pop.new.self.items c.in-Some.top in
    λ name. end_text name c.loop-top.frames.items c.pop.new.self.items c.in-Some.top c.loop-top.text.items c.put.new.text.items e
    (c.in_ok-put.ensures ∙ ap (λ t. c.loop-top.text.items ++ t) c.closing_ascii.ensures) ∙ c.loop-top.invariant name

pub returns : goal.returns
unfolding pending
returns c =
    let i : c.loop-top.frames.items ≡ [] = search rules in
    λ name. sym (append-nil c.loop-top.text.items) ∙ (ap (λ fs. c.loop-top.text.items ++ pending name (reverse fs) []) (sym i) ∙ c.loop-top.invariant name)
