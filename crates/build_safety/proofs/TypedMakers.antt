-- The constructors of the unions of a module: `makers_typed`.
use Rattle.std.proofs.Common.{◌≡◌, pos, List, [], ◌∷◌, ◌++◌, map, Bool, true, false, codes, inl, inr, refl, sym, ap}
use Rattle.std.proofs.Common.{subst}
use Rattle.std.specs.Prelude.{◌&&◌, ◌||◌, Option}
use Rattle.std.specs.List.{AllByRecursion}
use Rattle.std.specs.Str.{bytes_eq}
use Rattle.elm_canon.specs.Names.{Name}
use Rattle.elm_canon.specs.Tree.{Payload, UnionDeclaration, Maker}
use Rattle.elm_canon.specs.Unions.{Declared}
use Rattle.elm_canon.specs.declared.reference.Ref.TheVariants.{Top}
use Rattle.elm_canon.specs.declared.unions.Alternative.{Alternative}
use Rattle.elm_canon.specs.declared.unions.Tag.{Tag}
use Rattle.elm_canon.specs.declared.unions.Tag.TheVariants.{Number}
use Rattle.elm_meaning.specs.Seen.{same_tag}
use Rattle.canon_type.specs.Unions.{UnionTree, union_of, alternatives_of}
use Rattle.canon_env.specs.Imports.{name_of}
use Rattle.canon_module.specs.Resolve.{maker_of}
use Rattle.typed_values.specs.World.{Constructor, Among, is_port_tag}
use Rattle.build_safety.specs.Compiled.{Compiled, AreModules}
use Rattle.build_safety.specs.BuildWorlds.{world, constructors, unions_at}
use Rattle.build_safety.proofs.UnionNames.{unions_found}
use Rattle.build_safety.proofs.WorldUnions.{unions_declared}
use Rattle.program_safety.specs.Ports.{is_port_home}
use Rattle.build_safety.proofs.TypedLists.{picked}
use Rattle.build_safety.proofs.TypedWanted as wanted
use Rattle.build_safety.proofs.TypedWanted.{Wanted}

-- ---- tags that ports make

and_no : (b c : Bool) → c ≡ false → (b && c) ≡ false
and_no true c e = e
and_no false c e = refl

unsent : (m x : Name) (tag : Tag) → (is_port_home m && same_tag tag (Number (pos 0))) ≡ false →
    is_port_tag m x tag ≡ false
unsent m x tag e =
    by (bytes_eq m (codes "Platform.Cmd")) (bytes_eq x (codes "Cmd")) (bytes_eq m (codes "Platform.Sub"))
    (bytes_eq x (codes "Sub")) (same_tag tag (Number (pos 0))) e
  where
    by : (a b c d t : Bool) → ((a || c) && t) ≡ false → (((a && b) || (c && d)) && t) ≡ false
    by true b c d t e = and_no ((true && b) || (c && d)) t e
    by false b true d t e = and_no ((false && b) || (true && d)) t e
    by false b false d t e = refl

-- ---- constructors

module _ (before : List Compiled) (c : Compiled) (after : List Compiled) (all : AreModules (before ++ c ∷ after))
    (outs ins : Name → Option Payload) where
  abbrev cs : List Compiled
  cs = before ++ c ∷ after

  abbrev home : Name
  home = wanted.home before c after all

  module _ (tree : UnionTree) where
    abbrev u : UnionDeclaration
    u = union_of home (wanted.names before c after all) tree

    abbrev alternatives : List Alternative
    alternatives = alternatives_of home (name_of tree.name) tree.constructors

    module _ (there : Among u (wanted.whole before c after all).unions) where
      same_alternatives : alternatives ≡ map (λ (k : Constructor). k.alternative) (constructors home u)
      same_alternatives =
          let e : Declared home (name_of tree.name) alternatives
          ≡ Declared home (name_of tree.name) (map (λ (k : Constructor). k.alternative) (constructors home u)) =
          unions_declared (wanted.setting before c after all) (wanted.written before c after all)
          (wanted.whole before c after all) (wanted.is before c after all) u there in cc

      constructor_is : (a : Alternative) → Among a alternatives →
          (k : Constructor) × Among k (unions_at cs home u.name) × (k.alternative ≡ a)
      constructor_is a i =
          let p = picked (λ (k : Constructor). k.alternative) (constructors home u) a
          (subst (Among a) same_alternatives i) in
          (p.0, subst (Among p.0) (sym (unions_found before c after all u there)) p.1, p.2)

      maker_typed : (a : Alternative) → Among a alternatives →
          Wanted (world cs outs ins) (wanted.env before c after all) (maker_of home a)
      maker_typed a i carried fields proper kept =
          let k = constructor_is a i in
          inl (record {
            home = home;
            name = u.name;
            constructor_ = k.0;
            among = k.1;
            name_is = ap (λ (b : Alternative). Top home b.name) (sym k.2);
            own = subst (λ (b : Alternative). is_port_tag home u.name b.tag ≡ false) (sym k.2)
                (unsent home u.name a.tag kept);
            is = ap Maker (sym k.2);
          })

      pub makers_typed :
          AllByRecursion (Wanted (world cs outs ins) (wanted.env before c after all)) (map (maker_of home) alternatives)
      makers_typed = each alternatives (λ a i. maker_typed a i)
        where
          each : (as_ : List Alternative) →
              ((a : Alternative) → Among a as_ →
              Wanted (world cs outs ins) (wanted.env before c after all) (maker_of home a)) →
              AllByRecursion (Wanted (world cs outs ins) (wanted.env before c after all)) (map (maker_of home) as_)
          each [] f = tt
          each (a ∷ as_) f = (f a (inl refl), each as_ (λ b i. f b (inr i)))
