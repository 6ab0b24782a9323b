-- The laws of names in order.
use Rattle.elm_type.proofs.Inserted.{one_form, same_names}
use Rattle.elm_type.proofs.scheme_order_laws.order_law.Goals as goal

pub returns-clause-one : goal.returns-clause-one
returns-clause-one c = one_form

pub returns-clause-same : goal.returns-clause-same
returns-clause-same c = same_names
