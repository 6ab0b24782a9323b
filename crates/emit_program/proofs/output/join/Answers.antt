use Rattle.std.proofs.Common.{ℕ, List, [], ◌++◌, ◌∙◌, map, take, get_or, sym, ap, append_assoc, arith}
use Rattle.std.specs.Borrow.{Bor}
use Rattle.std.proofs.lemmas.List.{get_or_default}
use Rattle.js_tree.specs.declared.runtime.TheConstants.{HEAD, TAIL}
use Rattle.js_tree.specs.Text.{lines_text, main_text}
use Rattle.js_emit.specs.Program.{Emit}
use Rattle.emit_exprs.proofs.Rows.{seen_next, seen_all}
use Rattle.emit_program.specs.Texts.{joined}
use Rattle.emit_program.proofs.Joined.{all_joined, joined_more, bytes_are, text_is}
use Rattle.emit_program.proofs.output.join.Goals as goal

-- where the place holds no text
abbrev none : Bor (List ℕ)
none = record { ref_ptr = (0, 0); now = [] }

abbrev now : Bor (List ℕ) → List ℕ
now line = line.now

pub loop-line-preserved : goal.loop-line-preserved
loop-line-preserved c =
    let xs = c.args.lines.now in
    let i = c.loop-line.line-index in
    let x = get_or xs i none in
    let next = seen_next now xs i x (omega arith) (get_or_default xs i none x (omega arith)) in
    let old = c.extend_from_slice.new.self.items in
    let seen = map now (take i xs) in
    c.in_ok-extend_from_slice-2.ensures.items ∙ ap (λ (t : List ℕ). t ++ x.now) c.loop-line.invariant
    ∙ append_assoc old (joined seen) x.now ∙ ap (λ (t : List ℕ). old ++ t) (sym (ap joined next ∙ joined_more seen x.now))

pub returns-clause-bytes : goal.returns-clause-bytes
returns-clause-bytes c =
    let xs = c.args.lines.now in
    let all = seen_all c.loop-line.line-index xs (omega arith) in
    let old = c.extend_from_slice.new.self.items in
    bytes_are HEAD.now (joined (map now xs)) c.args.main.now TAIL.now c.in_ok-text.text.items old c.loop-line.text.items
    c.extend_from_slice-2.new.self.items c.extend_from_slice-3.new.self.items
    c.in_ok-text.ensures.items c.in_ok-extend_from_slice.ensures.items
    (c.loop-line.invariant ∙ ap (λ (l : List (Bor (List ℕ))). old ++ joined (map now l)) all)
    c.in_ok-extend_from_slice-3.ensures.items c.in_ok-extend_from_slice-4.ensures.items

pub returns-clause-text : goal.returns-clause-text
returns-clause-text c = λ p lines main.
    let xs = c.args.lines.now in
    let all = seen_all c.loop-line.line-index xs (omega arith) in
    let old = c.extend_from_slice.new.self.items in
    let bytes = bytes_are HEAD.now (joined (map now xs)) c.args.main.now TAIL.now c.in_ok-text.text.items old c.loop-line.text.items
    c.extend_from_slice-2.new.self.items c.extend_from_slice-3.new.self.items
    c.in_ok-text.ensures.items c.in_ok-extend_from_slice.ensures.items
    (c.loop-line.invariant ∙ ap (λ (l : List (Bor (List ℕ))). old ++ joined (map now l)) all)
    c.in_ok-extend_from_slice-3.ensures.items c.in_ok-extend_from_slice-4.ensures.items in
    text_is HEAD.now (joined (map now xs)) c.args.main.now TAIL.now c.extend_from_slice-3.new.self.items
    (lines_text (Emit p).lines) (main_text (Emit p)) bytes (ap joined lines ∙ all_joined p) main
