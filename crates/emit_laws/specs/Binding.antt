-- What patterns bind.
use Rattle.std.specs.Prelude.{◌≡◌, List, [], ◌∷◌, Some}
use Rattle.runs.specs.Ends.{Val}
use Rattle.elm_canon.specs.declared.reference.Ref.{Ref}
use Rattle.elm_canon.specs.Tree.{Pattern, Patterns}
use Rattle.elm_canon.specs.Proper.{bound_by, all_bound_by}
use Rattle.elm_meaning.specs.Values.{Value, Values, Env, Bind}
use Rattle.elm_meaning.specs.Match.{matches, matches_all}

-- Binds rs before after: the second environment is the first with these names bound, one after the other
pub data Binds : List Ref → Env → Env → Type 0 where
  no_more : {env : Env} → Binds [] env env
  one_more : {r : Ref} {rs : List Ref} {v : Value} {before after : Env}
      → Binds rs (Bind r v before) after → Binds (r ∷ rs) before after

abbrev pub BindsItsNames : Type 0
BindsItsNames =
    (p : Pattern) (v : Value) (before after : Env) → matches p v before ≡ Val (Some after)
    → Binds (bound_by p) before after

abbrev pub BindTheirNames : Type 0
BindTheirNames =
    (ps : Patterns) (vs : Values) (before after : Env) → matches_all ps vs before ≡ Val (Some after)
    → Binds (all_bound_by ps) before after
