use Rattle.std.proofs.Common.{◌∙◌, sym, arith, []}
use Rattle.type_store.proofs.Splitting.{turned_less, turned_greater, turned_equal, turned_no_first, turned_no_second}
use Rattle.type_store.specs.declared.slot.FieldSlot as stored
use Rattle.type_store.proofs.split.turn_at.Goals as goal

abbrev none : stored.FieldSlot
none = record { name = []; slot = 0 }

pub returns-then-at-first : goal.returns-then-at-first
returns-then-at-first c = turned_no_first c.args.first.now c.args.second.now c.args.at c.args.other none none c.requires.first_rises c.requires.second_rises
    (omega (arith, c.if-at-first.true)) (omega (arith, c.if-at-first.true, c.requires.some))

pub returns-then-other-second : goal.returns-then-other-second
returns-then-other-second c = turned_no_second c.args.first.now c.args.second.now c.args.at c.args.other none none c.requires.first_rises c.requires.second_rises
    (omega (arith, c.if-at-first.false, c.requires.first)) (omega (arith, c.if-other-second.true))

pub returns-in-Less : goal.returns-in-Less
returns-in-Less c = turned_less c.args.first.now c.args.second.now c.args.at c.args.other c.index-first-at.result c.index-second-other.result c.requires.first_rises c.requires.second_rises
    (omega (arith, c.if-at-first.false, c.requires.first)) (omega (arith, c.if-other-second.false, c.requires.second)) (sym c.compare.ensures ∙ c.in-Less.is)

pub returns-in-Equal : goal.returns-in-Equal
returns-in-Equal c = turned_equal c.args.first.now c.args.second.now c.args.at c.args.other c.index-first-at.result c.index-second-other.result c.requires.first_rises c.requires.second_rises
    (omega (arith, c.if-at-first.false, c.requires.first)) (omega (arith, c.if-other-second.false, c.requires.second)) (sym c.compare.ensures ∙ c.in-Equal.is)

pub returns-in-Greater : goal.returns-in-Greater
returns-in-Greater c = turned_greater c.args.first.now c.args.second.now c.args.at c.args.other c.index-first-at.result c.index-second-other.result c.requires.first_rises c.requires.second_rises
    (omega (arith, c.if-at-first.false, c.requires.first)) (omega (arith, c.if-other-second.false, c.requires.second)) (sym c.compare.ensures ∙ c.in-Greater.is)
