use Rattle.std.proofs.Common.{◌≡◌, ◌++◌, [], reverse, sym, ap, ◌∙◌, arith}
use Rattle.pattern_check.specs.Starts.{parts_view}
use Rattle.pattern_check.specs.Built.{unlisted}
use Rattle.pattern_check.specs.Written.{pending}
use Rattle.pattern_check.proofs.Searching.{no_items}
use Rattle.pattern_check.proofs.Writing.{close_done, close_short, all_written}
use Rattle.pattern_check.proofs.text.write.Goals as goal

pub loop-top-preserved-in-Continue-branch-2 : goal.loop-top-preserved-in-Continue-branch-2
loop-top-preserved-in-Continue-branch-2 c =
    close_done c.in-Some.top c.loop-top.rests.items c.pop.new.self.items (unlisted (parts_view c.loop-top.others.now) [])
    c.loop-top.text.items c.put.new.text.items c.in-Some.ensures.items
    (c.in_ok-put.ensures ∙ ap (λ z. c.loop-top.text.items ++ z) c.closing_ascii.ensures) (omega (arith, c.if-top-eq0.true))
    ∙ c.loop-top.invariant

pub loop-top-preserved-then-others-lt1 : goal.loop-top-preserved-then-others-lt1
loop-top-preserved-then-others-lt1 c =
    let none : c.loop-top.others.now ≡ [] = no_items c.loop-top.others.now (omega (arith, c.in-empty.len_below)) in
    let e : unlisted (parts_view c.loop-top.others.now) [] ≡ [] = ap (λ z. unlisted (parts_view z) []) none in
    ap (λ ps. c.put-in-empty.new.text.items ++ pending (reverse c.pop.new.self.items) ps) e
    ∙ close_short c.in-Some.top c.loop-top.rests.items c.pop.new.self.items c.loop-top.text.items c.put-in-empty.new.text.items
    c.in-Some.ensures.items
    (c.in_ok-put-in-empty.ensures ∙ ap (λ z. c.loop-top.text.items ++ z) c.closing_ascii-in-empty.ensures)
    ∙ ap (λ ps. c.loop-top.text.items ++ pending (reverse c.loop-top.rests.items) ps) (sym e) ∙ c.loop-top.invariant

pub returns : goal.returns
returns c =
    all_written c.loop-top.rests.items (unlisted (parts_view c.loop-top.others.now) []) c.loop-top.text.items _
    (no_items c.loop-top.rests.items (omega (arith, c.in_default.ensures.cases.0, c.loop-top.rests.ok.0))) c.loop-top.invariant
