-- A name is looked up in the set of its form.
use Rattle.std.proofs.Common.{◌++◌, map, sym, ap, ◌∙◌}
use Rattle.canon_env.specs.Imports.{name_of}
use Rattle.canon_env.specs.Exposing.{is_among}
use Rattle.canon_module.specs.Faults.{is_declared}
use Rattle.canon_module.specs.View.{entry_of}
use Rattle.canon_module.proofs.exports.Declared.has_name.Goals as goal

pub returns-in-Value : goal.returns-in-Value
returns-in-Value c = λ given n word h named.
    c.contains.ensures ∙ h.values c.args.name.now ∙ ap (λ x. is_among x (map name_of n.values)) named
    ∙ ap (λ f. is_declared given n (entry_of f word)) (sym c.in-Value.is)

pub returns-in-Type : goal.returns-in-Type
returns-in-Type c = λ given n word h named.
    c.contains-in-Type.ensures ∙ h.types c.args.name.now ∙ ap (λ x. is_among x (given ++ map name_of n.types)) named
    ∙ ap (λ f. is_declared given n (entry_of f word)) (sym c.in-Type.is)

pub returns-in-OpenType : goal.returns-in-OpenType
returns-in-OpenType c = λ given n word h named.
    c.contains-in-OpenType.ensures ∙ h.unions c.args.name.now ∙ ap (λ x. is_among x (map name_of n.unions)) named
    ∙ ap (λ f. is_declared given n (entry_of f word)) (sym c.in-OpenType.is)
