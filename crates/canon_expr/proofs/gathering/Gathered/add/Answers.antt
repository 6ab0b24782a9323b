-- One row more.
use Rattle.std.proofs.Common.{◌<◌, ℕ, length, Vec, Global, refl, sym, subst}
use Rattle.std.specs.List.{All, filter_map}
use Rattle.std.proofs.lemmas.List.Elements.{All-push}
use Rattle.decl_groups.specs.Groups.{plain}
use Rattle.canon_env.proofs.Filtering.{pushed}
use Rattle.canon_expr.specs.Binding.{used_definition}
use Rattle.canon_expr.proofs.gathering.Gathered.add.Goals as goal

pub returns-clause-uses : goal.returns-clause-uses
returns-clause-uses c = λ each w old sites binds many grows.
    pushed (λ (row : Vec ℕ Global). row.items) c.args.self.now.uses.items c.put-2.new.items.items c.in_ok-used.used
    (plain c.args.self.now.uses.items) (filter_map (used_definition w each) sites) c.in_ok-put-2.ensures refl
    (c.in_ok-used.ensures.used each w old sites binds many grows)

pub returns-clause-within : goal.returns-clause-within
returns-clause-within c = λ each binds all.
    subst (All (λ (row : Vec ℕ Global). All (λ j. j < length each) row.items)) (sym c.in_ok-put-2.ensures)
    (All-push (λ (row : Vec ℕ Global). All (λ j. j < length each) row.items) c.args.self.now.uses.items c.in_ok-used.used
    all (c.in_ok-used.ensures.within each binds))
