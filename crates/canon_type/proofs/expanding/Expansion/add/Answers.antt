-- The alias at the place is declared too: `added_one`.
use Rattle.std.proofs.Common.{sym, ap, ◌∙◌}
use Rattle.elm_canon.specs.View.{annotation_view, alias_declaration_view}
use Rattle.elm_canon.specs.Tree.{AliasDeclaration}
use Rattle.canon_type.specs.Written.{alias_names}
use Rattle.canon_type.specs.Types.{standing_for}
use Rattle.canon_type.specs.CanonAliasesKept.{alias_at}
use Rattle.canon_type.proofs.Steps.{added_one}
use Rattle.canon_type.proofs.expanding.Expansion.add.Goals as goal

pub returns-clause-expanding : goal.returns-clause-expanding
returns-clause-expanding c = λ s placed is home keeps h at body apart closed.
    let i = c.args.place in
    let declared =
    c.in_ok-declared.ensures ∙ ap (λ a. standing_for a (annotation_view c.args.body)) (sym at) in
    added_one s is c.args.self.now.world c.enter.new.world c.args.self.now.made.items placed h i c.in_ok-shared.shared
    c.args.home.now c.in_ok-name.name c.requires home
    (ap alias_declaration_view c.in_ok-shared.ensures.ok ∙ declared ∙ ap (standing_for (alias_at s i)) body)
    (c.in_ok-name.ensures.cases ∙ ap (λ (z : AliasDeclaration). z.name) declared) apart closed
    c.in_ok-enter.ensures.imported c.is_first-first.result
    (c.is_first-first.ensures s.names (alias_names s.aliases) keeps) c.in_ok-enter.ensures.own
