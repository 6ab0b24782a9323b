-- Other variables in the place of variables, as a substitution: `renames_by_substitution`.
use Rattle.elm_type.proofs.Substituting.{renames_by_substitution}
use Rattle.elm_type.proofs.laws.renaming_law.Goals as goal

pub returns : goal.returns
returns g c = renames_by_substitution
