-- The law of expressions speaks of the sample.
use Rattle.std.proofs.Common.{[], ◌≡◌, true, Some, refl}
use Rattle.elm_canon.specs.declared.reference.Ref.{Ref}
use Rattle.elm_canon.specs.declared.reference.Ref.TheVariants.{Local, Top}
use Rattle.decl_groups.specs.InOrder.{ordered_groups}
use Rattle.type_items.specs.Scopes.{Entry, entry_of}
use Rattle.type_safety.specs.Sample.{sample_scope, sample_hidden, SampleMeets}

nothing : (y : Ref) (entry : Entry) → entry_of sample_scope y ≡ Some entry → sample_hidden y ≡ true
nothing (Local z) entry e = absurd cc
nothing (Top m z) entry e = refl

pub sample_meets : SampleMeets
unfolding ordered_groups
sample_meets = record {
  simple = (((refl, tt), tt), (tt, tt), (tt, tt), tt);
  free = (refl, tt);
  fits = (([], refl), nothing);
  solves = (refl, (refl, (refl, (tt, (refl, (refl, (refl, (refl, tt))))))));
}
