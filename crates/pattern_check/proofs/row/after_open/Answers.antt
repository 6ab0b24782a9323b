use Rattle.std.proofs.Common.{◌≡◌, ◌+◌, ◌++◌, sym, ap, ◌∙◌, arith}
use Rattle.pattern_check.specs.Flat.{open_parts}
use Rattle.pattern_check.specs.Starts.{parts_view}
use Rattle.pattern_check.proofs.Lists.{open_more}
use Rattle.pattern_check.proofs.row.after_open.Goals as goal

pub returns-in-Some : goal.returns-in-Some
returns-in-Some c =
    let e : c.in-Some.open ≡ c.args.count + c.args.row.open = omega (arith, c.in-Some.ensures) in
    ap (λ k. open_parts k ++ parts_view c.args.row.rest.now) e
    ∙ sym (open_more c.args.count c.args.row.open (parts_view c.args.row.rest.now))
