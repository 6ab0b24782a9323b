-- Environments to which names are added: `env_more`.
use Rattle.canon_env.specs.Shown.{shown_view}
use Rattle.canon_env.proofs.Envs.{env_more}
use Rattle.canon_env.proofs.env.Env.add.Goals as goal

pub returns : goal.returns
returns c = λ e rows passes h.
    env_more c.args.self.now
    (record { values = c.add_all.new.self; types = c.add_all-2.new.self; makers = c.add_all-3.new.self })
    c.args.qualifier.now c.args.home.now e c.args.filter.now (shown_view c.args.shown.now) rows
    c.in_ok-values.field-0.items c.in_ok-types.field-0.items c.in_ok-makers.field-0.items passes
    c.in_ok-values.ensures c.in_ok-types.ensures c.in_ok-makers.ensures
    c.in_ok-add_all.ensures c.in_ok-add_all-2.ensures c.in_ok-add_all-3.ensures h
