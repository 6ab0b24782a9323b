use Rattle.std.proofs.Common.{◌≡◌, ◌||◌, take}
use Rattle.indexmap.specs.IndexSet.{contains}
use Rattle.elm_canon.specs.Names.{Name, same_name}
use Rattle.canon_env.specs.Exposing.{is_among}
use Rattle.canon_module.proofs.exports.insert_names.Given as goal

abbrev pub invariant-loop-name : goal.invariant-loop-name
invariant-loop-name l =
    (x : Name) → contains same_name l.names x
    ≡ (contains same_name l.initial.names x || is_among x (take l.name-index l.more))
