use Rattle.std.proofs.Common.{◌≡◌, ◌∙◌, ap, sym, min, Some}
use Rattle.std.specs.Option.{option_copied}
use Rattle.std.specs.Prelude.{nat_eq}
use Rattle.std.specs.HashMap as hash
use Rattle.type_schemes.proofs.Ends.{end_is}
use Rattle.type_schemes.specs.Bases.{base, most, older_of, type_in}
use Rattle.type_schemes.proofs.sizes.part_base.Goals as goal

pub unreachable-requires : goal.unreachable-requires
unreachable-requires c =
    let e = end_is c.args.store.now c.requires.whole c.args.variable c.root-at.result c.root-at.ensures.leads c.root-at.ensures.ends in
    let x = sym (ap option_copied c.in-None.is) ∙ (c.get.ensures.value ∙ (ap (hash.get nat_eq c.args.known.now.bases) (sym e) ∙ c.requires.known.has)) in
    absurd (cc)

pub returns : goal.returns
returns c =
    let e = end_is c.args.store.now c.requires.whole c.args.variable c.root-at.result c.root-at.ensures.leads c.root-at.ensures.ends in
    let x : Some c.in-Some.size.now ≡ Some (min (base (type_in c.args.store.now (older_of c.args.known.now) c.args.variable)) most) =
    sym (ap option_copied c.in-Some.is) ∙ (c.get.ensures.value ∙ (ap (hash.get nat_eq c.args.known.now.bases) (sym e) ∙ c.requires.known.has)) in
    cc
