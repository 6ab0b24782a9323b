-- The unions of the core library in the world of a build that has its modules: `core_unions`.
use Rattle.std.proofs.Common.{◌≡◌, ℕ, List, [], ◌∷◌, ◌++◌, map, inl, inr, refl, sym, ap, ◌∙◌, subst, codes, Option}
use Rattle.std.specs.List.{zip}
use Rattle.elm_canon.specs.Names.{Name}
use Rattle.elm_canon.specs.Unions.{alternatives}
use Rattle.elm_canon.specs.declared.unions.Alternative.{Alternative}
use Rattle.elm_canon.specs.Tree.{Annotation, Annotations, NoAnnotation, MoreAnnotation, UnionDeclaration, Payload}
use Rattle.elm_type.specs.Types.{ElmType, Leaf}
use Rattle.type_items.specs.Annotations.{annotation_type, scheme_variable, number_of, own_variables}
use Rattle.typed_values.specs.World.{Constructor, Among}
use Rattle.canon_proper.proofs.Quiet.{append_none}
use Rattle.core_modules.specs.Facts.{core_faults}
use Rattle.core_modules.specs.Table.{UnionRow, union_rows, BareRow, bare_rows, bool_union, maybe_union, dict_union}
use Rattle.core_modules.specs.Table.{cmd_union, sub_union, program_union}
use Rattle.module_offers.specs.Faults.{operator_faults}
use Rattle.core_modules.specs.Faults.{port_faults}
use Rattle.told_modules.specs.Facts.{HasFacts}
use Rattle.told_modules.specs.Unions as core
use Rattle.told_modules.specs.Unions.{constructors_of, HasCoreUnions}
use Rattle.told_modules.proofs.Facts.{facts_hold}
use Rattle.told_modules.specs.Schemes.{types_in, maker_type, constructor_of}
use Rattle.build_safety.specs.Compiled.{Compiled, home_of, AreModules}
use Rattle.build_safety.proofs.Among.{compiled_here, is_next}
use Rattle.build_safety.specs.BuildWorlds.{constructors, unions_at, world}
use Rattle.build_safety.proofs.UnionNames.{unions_found}
use Rattle.build_safety.specs.SoundWorlds.{HasCore}
use Rattle.build_safety.proofs.SoundFrom.{parted, IsFrom, from_one}

-- ---- one word for constructors

same_types : (whole : Annotation) (ts : Annotations) → types_in (scheme_variable [] whole) ts ≡ core.types_in whole ts
same_types whole NoAnnotation = refl
same_types whole (MoreAnnotation t ts) =
    ap (λ us. annotation_type (scheme_variable [] whole) t ∷ us) (same_types whole ts)

one_same : (m : Name) (u : UnionDeclaration) (c : Alternative × Annotations)
    → constructor_of m u c ≡ core.constructor_of m u c
one_same m u c =
    let whole : Annotation = maker_type m u c.1 in
    let made : List (ElmType (Leaf ℕ)) → Constructor = λ fs. record {
      alternative = c.0;
      fields = fs;
      arguments = map (λ a. number_of a (own_variables [] whole)) u.parameters;
    } in
    ap made (same_types whole c.1)

all_same : (m : Name) (u : UnionDeclaration) (cs : List (Alternative × Annotations))
    → map (constructor_of m u) cs ≡ map (core.constructor_of m u) cs
all_same m u [] = refl
all_same m u (c ∷ cs) =
    ap (λ z. z ∷ map (constructor_of m u) cs) (one_same m u c)
    ∙ ap (λ zs. core.constructor_of m u c ∷ zs) (all_same m u cs)

same_constructors : (m : Name) (u : UnionDeclaration) → constructors m u ≡ constructors_of m u
same_constructors m u = all_same m u (zip (alternatives u.union) u.fields)

-- ---- a module of a build lacks nothing

pub facts : (before : List Compiled) (c : Compiled) (after : List Compiled) → AreModules (before ++ c ∷ after)
    → HasFacts c.resolved.whole
unfolding operator_faults
facts before c after all =
    facts_hold c.resolved.whole
    (append_none _ (core_faults c.resolved.whole)
    (append_none _ (port_faults c.resolved.whole) (compiled_here before c after all).typed.is_named.whole).0).1

none_left : {X : Type 0} (xs : List X) → ((x : X) → Among x xs → ⊥) → xs ≡ []
none_left [] h = refl
none_left (x ∷ xs) h = absurd (h x (inl refl))

module _ (cs : List Compiled) (all : AreModules cs) where
  -- types without a text have no constructors
  pub bare_union : (r : BareRow) → Among r bare_rows → unions_at cs r.home r.name ≡ []
  bare_union r row = none_left (unions_at cs r.home r.name) (λ k a. none k (from_one r.home r.name cs k a))
    where
      none : (k : Constructor) → IsFrom cs r.home r.name k → ⊥
      none k f =
          let here = subst AreModules (sym f.is) all in
          (facts f.before f.by f.after here).bare r row
          ((is_next f.before f.by f.after here).is.name ∙ sym f.home) f.declared f.among f.name

  module _ (has : HasCore cs) where
    declared_union : (r : UnionRow) → Among r union_rows
        → unions_at cs r.home r.declared.name ≡ constructors_of r.home r.declared
    declared_union r row =
        let h = has r row in
        let p = parted cs h.place h.by h.at in
        let here = subst AreModules (sym p.is) all in
        let there = (facts p.before h.by p.after here).unions r row
        ((is_next p.before h.by p.after here).is.name ∙ h.home) in
        let found =
        subst (λ z. unions_at z (home_of h.by) r.declared.name ≡ constructors (home_of h.by) r.declared) p.is
        (unions_found p.before h.by p.after here r.declared there) in
        subst (λ z. unions_at cs z r.declared.name ≡ constructors z r.declared) h.home found
        ∙ same_constructors r.home r.declared

    pub core_unions : (outs ins : Name → Option Payload) → HasCoreUnions (world cs outs ins)
    core_unions outs ins = record {
      bools = declared_union (record { home = codes "Basics"; declared = bool_union }) (inl refl);
      maybes = declared_union (record { home = codes "Maybe"; declared = maybe_union }) (inr (inl refl));
      dictionaries = declared_union (record { home = codes "Dict"; declared = dict_union }) (inr (inr (inl refl)));
      commands =
          declared_union (record { home = codes "Platform.Cmd"; declared = cmd_union })
          (inr (inr (inr (inl refl))));
      subscriptions =
          declared_union (record { home = codes "Platform.Sub"; declared = sub_union })
          (inr (inr (inr (inr (inl refl)))));
      programs =
          declared_union (record { home = codes "Platform"; declared = program_union })
          (inr (inr (inr (inr (inr (inl refl))))));
    }
