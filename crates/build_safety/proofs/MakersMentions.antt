-- Modules of a build mention constructors of the unions of its world: `mentions_of_world`.
use Rattle.std.proofs.Common.{◌≡◌, List, [], ◌∷◌, ◌++◌, map, inl, inr, refl, sym, ap, ◌∙◌, subst, append_assoc}
use Rattle.std.specs.Prelude.{Option}
use Rattle.std.specs.List.{AllByRecursion}
use Rattle.elm_canon.specs.Names.{Name}
use Rattle.elm_canon.specs.Unions.{Declared}
use Rattle.elm_canon.specs.declared.unions.Alternative.{Alternative}
use Rattle.elm_canon.specs.Tree.{Payload, UnionDeclaration}
use Rattle.canon_env.specs.Env.{declared_alternatives}
use Rattle.module_proper.specs.Laws.{Meets}
use Rattle.module_proper.proofs.Modules.{modules_meet}
use Rattle.elm_canon.specs.Mentions.{Condition, DeclarationsMention}
use Rattle.canon_module.specs.Resolve.{declared_by}
use Rattle.typed_values.specs.World.{Constructor, Among}
use Rattle.program_safety.specs.Ports.{IsOfWorld}
use Rattle.build_safety.specs.Compiled.{Compiled, home_of, resolved_of, AreModules}
use Rattle.build_safety.proofs.Among.{is_next}
use Rattle.build_safety.specs.BuildWorlds.{constructors, unions_at, world}
use Rattle.build_safety.proofs.UnionNames.{unions_found}
use Rattle.build_safety.proofs.WorldUnions.{unions_declared}
use Rattle.build_safety.specs.BuildMakers.{MentionsAreOfWorld}
use Rattle.build_safety.proofs.MakersRows.{UnionMeets, UnionsMeet, rows_meet}
use Rattle.build_safety.proofs.MakersShown.{ModuleMeets, all_imports}

module _ (cs : List Compiled) (outs ins : Name → Option Payload) (all : AreModules cs) where
  abbrev Of : Condition
  Of u c = IsOfWorld (world cs outs ins) u c

  given : Meets Of
  given = record { tuples = λ n. refl; nil = inl refl; cons = inr refl }

  -- ---- the unions of a module

  -- constructors of a union among those that the world has of it
  each_of : (m x : Name) (as_ : List Alternative) (ks : List Constructor) →
      as_ ≡ map (λ (k : Constructor). k.alternative) (unions_at cs m x) →
      ((k : Constructor) → Among k ks → Among k (unions_at cs m x)) →
      AllByRecursion (Of (Declared m x as_)) (map (λ (k : Constructor). k.alternative) ks)
  each_of m x as_ [] e h = tt
  each_of m x as_ (k ∷ ks) e h =
      ((e, k, h k (inl refl), refl), each_of m x as_ ks e (λ l a. h l (inr a)))

  union_meets : (before : List Compiled) (c : Compiled) (after : List Compiled) → before ++ c ∷ after ≡ cs →
      (u : UnionDeclaration) → Among u c.resolved.whole.unions → UnionMeets Of u
  union_meets before c after e u a =
      let here = subst AreModules (sym e) all in
      let found : unions_at cs (home_of c) u.name ≡ constructors (home_of c) u =
      subst (λ ds. unions_at ds (home_of c) u.name ≡ constructors (home_of c) u) e
      (unions_found before c after here u a) in
      let is =
      unions_declared c.resolved.setting c.resolved.written c.resolved.whole (is_next before c after here).is u a in
      subst (λ v. AllByRecursion (Of v) (declared_alternatives v)) (sym is)
      (each_of (home_of c) u.name (map (λ (k : Constructor). k.alternative) (constructors (home_of c) u))
      (constructors (home_of c) u) (ap (map (λ (k : Constructor). k.alternative)) (sym found))
      (λ k b. subst (Among k) (sym found) b))

  from_among : (us : List UnionDeclaration) → ((u : UnionDeclaration) → Among u us → UnionMeets Of u) → UnionsMeet Of us
  from_among [] h = tt
  from_among (u ∷ us) h = (h u (inl refl), from_among us (λ v a. h v (inr a)))

  module_meets : (before : List Compiled) (c : Compiled) (after : List Compiled) → before ++ c ∷ after ≡ cs →
      ModuleMeets Of c.resolved
  module_meets before c after e = record {
    unions = from_among c.resolved.whole.unions (union_meets before c after e);
    given = (is_next before c after (subst AreModules (sym e) all)).given;
  }

  -- ---- modules

  all_before : (done before after : List Compiled) → done ++ (before ++ after) ≡ cs →
      AllByRecursion (ModuleMeets Of) (resolved_of before)
  all_before done [] after e = tt
  all_before done (c ∷ before) after e = (
    module_meets done c (before ++ after) e,
    all_before (done ++ c ∷ []) before after (append_assoc done (c ∷ []) (before ++ after) ∙ e),
  )

  mentions : (before : List Compiled) (c : Compiled) (after : List Compiled) → before ++ c ∷ after ≡ cs →
      DeclarationsMention Of Of (home_of c) c.resolved.whole.declarations
  mentions before c after e =
      let is = is_next before c after (subst AreModules (sym e) all) in
      let m = c.resolved.whole in
      let meet =
      rows_meet Of c.resolved.setting.home c.resolved.setting.home (declared_by c.resolved.written.declarations m)
      c.resolved.setting.imports (module_meets before c after e).unions
      (all_imports Of (resolved_of before) c.resolved.setting.imports (all_before [] before (c ∷ after) e)
      is.imports) in
      modules_meet Of Of c.resolved.setting c.resolved.written m given is.is meet meet

pub mentions_of_world : MentionsAreOfWorld
mentions_of_world cs outs ins before c after all e = mentions cs outs ins all before c after e
