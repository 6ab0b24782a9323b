-- A placed module whose types were inferred is a part of its program.
use Rattle.std.proofs.Common.{inl, inr}
use Rattle.elm_canon.specs.declared.reference.Ref.{Ref}
use Rattle.elm_canon.specs.declared.reference.Ref.TheVariants.{Local, Top}
use Rattle.type_items.specs.Scopes.{Known}
use Rattle.type_items.specs.Solutions.{Values}
use Rattle.program_safety.specs.Parts.{Part, IsEarlier}
use Rattle.program_safety.proofs.Told.{names_tell}
use Rattle.told_modules.specs.Parts.{InferredAreParts}

-- with other types for its variables
earlier_still : (told : Known) (t : Part) (values : Values) (y : Ref) → IsEarlier told t y
    → IsEarlier told (record t { values = values }) y
earlier_still told t values (Local x) h = absurd h
earlier_still told t values (Top m x) h = record {
  own = h.own;
  scheme = h.scheme;
  told_is = h.told_is;
  inside = h.inside;
  is = h.is;
  instances = h.instances;
}

pub inferred_parts : InferredAreParts
inferred_parts w told before t ok names placed =
    let values = ok.inferred.typable.solution.values in (
      values,
      record {
        known = placed.known;
        solves = ok.inferred.typable.solution.solves;
        some = placed.some;
        titled = names.titled;
        apart = names.apart;
        own = names.own;
        others = names.others;
        given_own = names.given_own;
        elsewhere = λ y e. elim (placed.elsewhere y e) [
          | inl other ↦ inl other
          | inr earlier ↦ inr (earlier_still told t values y earlier)
        ];
        given = placed.given;
        use_before = names.use_before;
        earlier = names.earlier;
        simple = placed.simple;
        used = placed.used;
        tells = names_tell told t ok;
      },
    )
