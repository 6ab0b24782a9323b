-- Block comments and gaps: `line_gap`, `block_gap`, `block_no_gap`, `white_gap`.
use Rattle.std.proofs.Common.{◌≡◌, ℕ, List, true, sym, subst, MatchOption, Option, None, Some, take, drop, length, ◌-◌}
use Rattle.std.specs.Borrow.{Bor}
use Rattle.elm_lexer.specs.Gaps.{begins_block, IsBlock, IsGap}
use Rattle.elm_lexer.proofs.Blocks.{line_gap, block_gap, block_no_gap, white_gap}
use Rattle.elm_lexer.proofs.gap.after_gap.Goals as goal

pub returns-then-begins_with-clause-gap : goal.returns-then-begins_with-clause-gap
returns-then-begins_with-clause-gap c =
    let P : List ℕ → Type 0 = λ r. IsGap c.args.text.now r in
    subst P (sym c.after_line.ensures.value) (line_gap c.args.text.now (sym c.if-begins_with.ensures.value))

of_block : (t : List ℕ) (o : Option (Bor (List ℕ))) → begins_block t ≡ true → MatchOption o ((rest : List ℕ) → IsBlock 1 (take (length t - 2) (drop 2 t)) rest → ⊥) (λ r. IsBlock 1 (take (length t - 2) (drop 2 t)) r.now) → MatchOption o ((rest : List ℕ) → IsGap t rest → ⊥) (λ r. IsGap t r.now)
of_block t None b h = λ r. block_no_gap t r b h
of_block t (Some r) b h = block_gap t r.now b h

pub returns-then-begins_with-2-clause-gap : goal.returns-then-begins_with-2-clause-gap
returns-then-begins_with-2-clause-gap c = of_block c.args.text.now c.after_block.result (sym c.if-begins_with-2.ensures.value) c.after_block.ensures.block

pub returns-clause-gap : goal.returns-clause-gap
returns-clause-gap c = white_gap c.args.text.now c.requires.begins (sym c.if-begins_with.ensures.value) (sym c.if-begins_with-2.ensures.value)
