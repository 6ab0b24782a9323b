-- A module without faults of names is inferred as the law of programs asks.
use Rattle.std.proofs.Common.{List, [], ◌∷◌}
use Rattle.std.specs.List.{AllByRecursion}
use Rattle.elm_canon.specs.declared.reference.Ref.TheVariants.{Top}
use Rattle.elm_type.specs.Types.{Leaf, Free, Fixed, variables}
use Rattle.infer_steps.specs.Ready.{IsBelow}
use Rattle.type_items.proofs.Modules.{same_types}
use Rattle.program_safety.specs.Told.{IsVariable}
use Rattle.program_safety.proofs.Told.{renamed_instances}
use Rattle.told_modules.specs.Told.{ModulesAreInferred, FormsHaveInstances}
use Rattle.told_modules.proofs.Names.{names_apart}
use Rattle.told_modules.proofs.Forms.{ordered_instances}
use Rattle.std.specs.Prelude.{ℕ}

no_constants : (n : ℕ) (xs : List (Leaf ℕ)) → AllByRecursion (IsBelow n) xs → AllByRecursion IsVariable xs
no_constants n [] h = tt
no_constants n (Free i ∷ xs) h = (tt, no_constants n xs h.1)
no_constants n (Fixed r ∷ xs) h = absurd h.0

pub modules_inferred : ModulesAreInferred
modules_inferred env told t schemes typed placed grows tells =
    let names = names_apart t.module_ typed.scope typed.proper in record {
      schemes = schemes;
      inferred = same_types t.module_ env told t.place schemes grows typed.inferred;
      placed = placed;
      titled = names.0;
      apart = names.1;
      closed = λ x s is. no_constants _ (variables s.type) (typed.written (Top t.module_.name x) s is).below;
      tells = tells;
    }

pub forms_have : FormsHaveInstances
forms_have s = (renamed_instances s, ordered_instances s)
