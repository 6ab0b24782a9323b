-- The number of a name that is not there: `not_found`, `absent_number`.
use Rattle.std.proofs.Common.{◌≡◌, ◌∙◌, ap, sym, None, arith}
use Rattle.std.specs.Option.{option_copied}
use Rattle.type_schemes.specs.Names.{place_in}
use Rattle.type_schemes.proofs.Numbering.{not_found, absent_number}
use Rattle.type_schemes.proofs.nodes.number.Goals as goal

pub returns-in-Ok : goal.returns-in-Ok
returns-in-Ok c =
    let e : place_in c.args.name.now c.args.order.now.names.items ≡ None =
    sym (c.requires c.args.name.now) ∙ (sym c.get.ensures.value ∙ ap option_copied c.in-None.is) in
    let a = absent_number c.args.name.now c.args.order.now.names.items
    (not_found c.args.name.now c.args.order.now.names.items e) in
    omega (arith, a, c.in-Ok.ensures, c.len.ensures, c.args.order.now.names.ok.0)
