-- What is shared is what it is.
use Rattle.std.proofs.Common.{◌≡◌, List, Bool, map, ap, ◌∙◌}
use Rattle.elm_tree.specs.Turns.{tokens_view}
use Rattle.elm_canon.specs.Names.{Name}
use Rattle.elm_canon.specs.Tree.{Annotation, AliasDeclaration}
use Rattle.elm_canon.specs.View.{annotation_view}
use Rattle.elm_canon.proofs.Views.{shared_type}
use Rattle.canon_env.specs.Imports.{name_of}
use Rattle.canon_type.specs.Written.{AliasTree}
use Rattle.canon_type.specs.Kept.{alias_view}
use Rattle.canon_type.specs.Types.{is_record, standing_for}
use Rattle.canon_type.proofs.expanding.standing_for.Goals as goal

standing : (a : AliasTree) (name : Name) (ps : List Name) (t u : Annotation) (m : Bool) → name ≡ name_of a.name →
    ps ≡ map name_of a.parameters → u ≡ t → m ≡ is_record a.body →
    record { name = name; parameters = ps; body = u; is_maker = m } ≡ standing_for a t
standing a name ps t u m b d e f =
    let first : Name → AliasDeclaration = λ z. record { name = z; parameters = ps; body = u; is_maker = m } in
    let second : List Name → AliasDeclaration = λ z. record { name = name_of a.name; parameters = z; body = u; is_maker = m } in
    let third : Annotation → AliasDeclaration = λ z. record { name = name_of a.name; parameters = map name_of a.parameters; body = z; is_maker = m } in
    let fourth : Bool → AliasDeclaration = λ z. record { name = name_of a.name; parameters = map name_of a.parameters; body = t; is_maker = z } in
    ap first b ∙ ap second d ∙ ap third e ∙ ap fourth f

pub returns : goal.returns
returns c =
    let tokens = tokens_view c.args.tokens.now in
    standing (alias_view tokens c.args.alias.now) c.in_ok-name.name c.in_ok-parameters.parameters.items
    (annotation_view c.args.body) _ c.is_record.result c.in_ok-name.ensures c.in_ok-parameters.ensures
    (shared_type c.in_ok-shared.shared ∙ ap annotation_view c.in_ok-shared.ensures.ok) (c.is_record.ensures tokens)
