-- The world of a build that has the modules of the core library: `worlds_sound`.
use Rattle.std.proofs.Common.{◌≡◌, List, negsuc, inl, inr, refl, sym, ◌∙◌, subst, codes, Option}
use Rattle.elm_canon.specs.Names.{Name}
use Rattle.elm_canon.specs.declared.unions.Tag.TheVariants.{Number}
use Rattle.elm_canon.specs.Tree.{Payload}
use Rattle.canon_module.specs.Resolve.{world_of}
use Rattle.typed_values.specs.World.{Constructor, Among, IsNode}
use Rattle.told_modules.proofs.ToldOffersLists.{one_among}
use Rattle.told_modules.specs.Unions.{MeetsCore}
use Rattle.told_modules.proofs.Unions.{core_unions_meet}
use Rattle.build_safety.specs.Compiled.{Compiled, home_of, AreModules}
use Rattle.build_safety.proofs.Among.{is_next}
use Rattle.build_safety.specs.BuildWorlds.{unions_at, world}
use Rattle.build_safety.proofs.WorldUnions.{unions_sound}
use Rattle.told_modules.specs.Closed.{UnionIsClosed}
use Rattle.build_safety.specs.ClosedMakers.{MakerIsClosed}
use Rattle.build_safety.proofs.ClosedMakers.{makers_closed}
use Rattle.build_safety.proofs.ClosedBuilds.{builds_closed}
use Rattle.build_safety.specs.SoundWorlds.{WorldsAreSound}
use Rattle.build_safety.proofs.SoundFrom.{from_one, dictionary, each_tagged}
use Rattle.build_safety.proofs.SoundCore.{bare_union, core_unions}

module _ (cs : List Compiled) (all : AreModules cs) where
  closed : (m x : Name) (k : Constructor) → Among k (unions_at cs m x) → MakerIsClosed k
  closed m x k a =
      let f = from_one m x cs k a in
      let here = subst AreModules (sym f.is) all in
      makers_closed (home_of f.by) f.declared
      (one_among UnionIsClosed f.by.resolved.whole.unions f.declared
      (builds_closed f.before f.by f.after here).unions f.among)
      k f.made

  node : (outs ins : Name → Option Payload) → MeetsCore (world cs outs ins) → (m x : Name) (k : Constructor)
      → Among k (unions_at cs m x) → k.alternative.tag ≡ Number (negsuc 0) → IsNode m x k
  node outs ins meets m x k a e =
      let f = from_one m x cs k a in
      let r = f.by.resolved in
      let is = (is_next f.before f.by f.after (subst AreModules (sym f.is) all)).is in
      let t = each_tagged (home_of f.by) (world_of r.setting r.written.declarations r.whole) r.written.declarations
      f.declared (subst (Among f.declared) is.types.unions f.among) k f.made in
      let d = dictionary (home_of f.by) f.declared.name t.0 (sym t.1 ∙ e) in
      let home : m ≡ codes "Dict" = f.home ∙ d.0 in
      let name : x ≡ codes "Dict" = sym f.name ∙ d.1 in
      subst (λ z. IsNode z x k) (sym home)
      (subst (λ z. IsNode (codes "Dict") z k) (sym name)
      (meets.nodes k
      (subst (λ z. Among k (unions_at cs (codes "Dict") z)) name (subst (λ z. Among k (unions_at cs z x)) home a)) e))

pub worlds_sound : WorldsAreSound
worlds_sound cs outs ins all has =
    let meets = core_unions_meet (world cs outs ins) (core_unions cs all has outs ins) in record {
      sound = record {
        unions = λ m x.
            unions_sound cs outs ins all m x
            (λ k a. record { closed = closed cs all m x k a; node = λ e. node cs all outs ins meets m x k a e });
        no_ints = bare_union cs all (record { home = codes "Basics"; name = codes "Int" }) (inl refl);
        no_chars = bare_union cs all (record { home = codes "Char"; name = codes "Char" }) (inr (inl refl));
        no_texts =
            bare_union cs all (record { home = codes "String"; name = codes "String" })
            (inr (inr (inr (inl refl))));
        no_lists =
            bare_union cs all (record { home = codes "List"; name = codes "List" }) (inr (inr (inl refl)));
        truths = meets.truths;
        no_others = meets.no_others;
        maybes = meets.maybes;
        commands = meets.commands;
        subscriptions = meets.subscriptions;
      };
      worker = meets.worker;
    }
