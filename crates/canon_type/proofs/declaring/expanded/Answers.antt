-- Before the first alias, the module's unions are told alone: `is_setting`.
use Rattle.std.proofs.Common.{refl, map}
use Rattle.elm_tree.specs.View.{declaration_view}
use Rattle.elm_tree.specs.Turns.{tokens_view}
use Rattle.canon_type.specs.DeclaredTypesKept.{setting_of}
use Rattle.canon_type.proofs.Meaning.{is_setting, no_alias_yet}
use Rattle.canon_type.proofs.declaring.expanded.Goals as goal

pub returns : goal.returns
returns c = λ rows is.
    let ds = map (declaration_view (tokens_view c.args.tokens.now)) c.args.declarations.now in
    let s = setting_of c.args.home.now rows ds in
    c.in_ok-expansion.ensures s (is_setting c.args.home.now rows ds) refl refl refl
    (no_alias_yet s (record { own = c.in_ok-own.own; imported = c.args.imported }) c.in_ok-own.ensures is)
