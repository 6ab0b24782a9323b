use Rattle.infer_steps.proofs.laws.setting_law.Goals as goal
use Rattle.infer_steps.proofs.Staying.{means_later, setting_later, setting_links, around_child, setting_child}

pub returns-clause-means : goal.returns-clause-means
returns-clause-means c = means_later c.saying_law.ensures.later

pub returns-clause-later : goal.returns-clause-later
returns-clause-later c = setting_later c.saying_law.ensures.later

pub returns-clause-links : goal.returns-clause-links
returns-clause-links c = setting_links

pub returns-clause-around : goal.returns-clause-around
returns-clause-around c = around_child

pub returns-clause-child : goal.returns-clause-child
returns-clause-child c = setting_child
