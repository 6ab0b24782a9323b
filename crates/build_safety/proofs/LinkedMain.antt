-- The `main` of a program that a link makes is told to be a program, and is bound: `links_have_main`.
use Rattle.std.proofs.Common.{◌≡◌, ℕ, zero, suc, List, [], ◌∷◌, ◌++◌, length, map, Bool, true, false, Option, Some}
use Rattle.std.proofs.Common.{None, ◌⊎◌, inl, inr, codes, refl, sym, ap, ◌∙◌, subst, if◌then◌else◌}
use Rattle.std.specs.Prelude.{option_map, slice_get}
use Rattle.std.specs.Map.{lookup}
use Rattle.std.specs.Option.{option_or}
use Rattle.std.specs.Str.{bytes_eq}
use Rattle.elm_canon.specs.Names.{Name}
use Rattle.elm_canon.specs.Tree.{Module}
use Rattle.elm_canon.specs.declared.reference.Ref.{Ref}
use Rattle.elm_canon.specs.declared.reference.Ref.TheVariants.{Top}
use Rattle.elm_meaning.specs.Run.{Flags}
use Rattle.elm_type.specs.Types.{Kind, Rigid, Scheme, variable, kind_at}
use Rattle.elm_type.specs.Classes.{Ground, meets}
use Rattle.elm_type.specs.Schemes.{placed, appearing}
use Rattle.canon_module.specs.Resolve.{module_faults}
use Rattle.canon_proper.proofs.Scopes.{name_itself}
use Rattle.emit_size_laws.specs.Small.{NamedProgram}
use Rattle.port_payload.specs.Entry.{entry_type, IsProgram}
use Rattle.elm_type.specs.Ground.{fits, lacks_all}
use Rattle.link.specs.Programs.{flags_by, flags_said, program_of}
use Rattle.type_items.specs.Annotations.{annotation_scheme}
use Rattle.type_items.specs.Expressions.{definitions}
use Rattle.type_items.specs.Modules.{declared, known_in}
use Rattle.typed_values.specs.Frames.{Chosen, instance_leaf}
use Rattle.typed_values.specs.Sample.{sample_frame}
use Rattle.typed_values.specs.Simple.{defines}
use Rattle.typed_values.proofs.Keeping.{and_both}
use Rattle.typed_values.proofs.SampleFrame.{below_itself, lacks_own, sample_stands}
use Rattle.type_safety.specs.Modules.{groups_in}
use Rattle.program_safety.specs.Parts.{Part, HasInstances, primitive_names}
use Rattle.program_safety.specs.Told.{IsToldAs}
use Rattle.program_safety.specs.Programs.{IsMain}
use Rattle.project_proper.specs.Resolved.{source_of}
use Rattle.module_offers.specs.Offers.{type_in}
use Rattle.told_modules.proofs.Defined.{none_defined}
use Rattle.told_modules.proofs.Once.{declared_once}
use Rattle.told_modules.proofs.Offers.{offers_told}
use Rattle.build_safety.specs.Compiled.{Compiled, home_of, interface_of, resolved_of, IsCompiled, AreModules}
use Rattle.build_safety.specs.Told.{own, tells, told, part_of as as_part}
use Rattle.build_safety.proofs.Among.{get_here, compiled_here, is_next}
use Rattle.build_safety.proofs.Told.{told_at}
use Rattle.build_safety.specs.Placed.{any_values, bound_by}
use Rattle.build_safety.specs.LinkedPieces.{linked_pieces, linked_program}
use Rattle.build_safety.specs.LinkedMain.{LinksHaveMain}
use Rattle.build_safety.proofs.MainPrograms.{IsProgramType, is_program, renamed_program, program_instance}
use Rattle.build_safety.proofs.MainValues.{IsDefined, IsPort, IsOne, own_defined, main_is}
use Rattle.build_safety.proofs.MainEntry.{HasProgram, mapped_at, entry_is}
use Rattle.build_safety.proofs.MainBound.{main_bound}

-- ---- an instance of a scheme

-- a constant for each variable
abbrev constant : Kind → Rigid
constant k = record { place = []; name = []; class = k.class; lacks = k.lacks }

abbrev constants : Scheme → ℕ → Ground
constants s i = variable (constant (kind_at s.kinds i))

constant_fits : (k : Kind) → fits k (variable (constant k)) ≡ true
constant_fits k =
    and_both (meets k.class (variable (constant k))) (lacks_all k.lacks (variable (constant k)))
    (below_itself k.class) (lacks_own (constant k) [] k.lacks refl)

constants_chosen : (s : Scheme) → Chosen s (constants s)
constants_chosen s = record { kinds = λ i. constant_fits (kind_at s.kinds i) }

same_instances : (s : Scheme) → HasInstances s s
same_instances s f choice stands chosen = (choice, chosen, refl)

-- a module among others
parted : (cs : List Compiled) (i : ℕ) (c : Compiled) → slice_get cs i ≡ Some c →
    (before : List Compiled) × (after : List Compiled) × (before ++ c ∷ after ≡ cs)
parted [] i c e = absurd cc
parted (d ∷ cs) zero c e = let h : d ≡ c = cc in ([], cs, ap (λ z. z ∷ cs) (sym h))
parted (d ∷ cs) (suc i) c e = let r = parted cs i c e in (d ∷ r.0, r.1, ap (λ ds. d ∷ ds) r.2)

-- ---- the entry

module _ (before : List Compiled) (c : Compiled) (after : List Compiled) (all : AreModules (before ++ c ∷ after))
    (k : Scheme) (flags : Flags) (typed : c.resolved.main ≡ Some k) (says : entry_type k ≡ IsProgram flags) where
  abbrev cs : List Compiled
  cs = before ++ c ∷ after

  abbrev m : Module
  m = c.resolved.whole

  abbrev x : Name
  x = codes "main"

  abbrev part : Part
  part = as_part c any_values []

  is : IsCompiled before c
  is = compiled_here before c after all

  no_faults : module_faults c.resolved.setting c.resolved.written m ≡ []
  no_faults =
      subst (λ s. module_faults s c.resolved.written m ≡ []) (sym is.setting) is.typed.is_named.named

  name : m.name ≡ home_of c
  name = (is_next before c after all).is.name

  -- what the module has of a name that it defines, or declares
  abbrev own_by : Bool → Option Scheme
  own_by b = if b then c.told (Top (home_of c) x) else option_map annotation_scheme (lookup (bytes_eq x) (declared m))

  own_defined_as : (s : Scheme) → defines (definitions (groups_in m.declarations)) (Top m.name x) ≡ true →
      c.told (Top m.name x) ≡ Some s → own c x ≡ Some s
  own_defined_as s d e =
      ap own_by (subst (λ h. defines (definitions (groups_in m.declarations)) (Top h x) ≡ true) name d)
      ∙ subst (λ h. c.told (Top h x) ≡ Some s) name e

  own_declared_as : (s : Scheme) → defines (definitions (groups_in m.declarations)) (Top m.name x) ≡ false →
      option_map annotation_scheme (lookup (bytes_eq x) (declared m)) ≡ Some s → own c x ≡ Some s
  own_declared_as s d e =
      ap own_by (subst (λ h. defines (definitions (groups_in m.declarations)) (Top h x) ≡ false) name d) ∙ e

  -- the module's own scheme for its `main` is of programs
  record HasMain : Type 0 where
    scheme : Scheme
    is_own : own c x ≡ Some scheme
    program : IsProgramType scheme.type flags

  by_definition : IsDefined m c.told x k → HasMain
  by_definition d = record {
    scheme = d.scheme;
    is_own = own_defined_as d.scheme d.defined d.told;
    program = subst (λ (s : Scheme). IsProgramType s.type flags) d.is (is_program k flags says);
  }

  by_port : IsPort m c.told x k → HasMain
  by_port d =
      let a = annotation_scheme d.written in
      let found = declared_once c.resolved.setting c.resolved.written m (is_next before c after all).is
      (is_next before c after all).read no_faults (x, d.written) d.declared_so in
      let none = none_defined c.resolved.setting c.resolved.written m (is_next before c after all).is
      (is_next before c after all).read no_faults x d.written found in
      record {
        scheme = a;
        is_own = own_declared_as a
            (subst (λ h. defines (definitions (groups_in m.declarations)) (Top h x) ≡ false)
            (sym (is_next before c after all).is.name) none)
            (ap (option_map annotation_scheme) found);
        program = renamed_program (placed (appearing a)) a.type flags
            (subst (λ (s : Scheme). IsProgramType s.type flags) d.is (is_program k flags says));
      }

  has_main : HasMain
  has_main =
      by (main_is m c.told
      (own_defined c.resolved.setting c.resolved.written.declarations m (is_next before c after all).is) k
      (sym is.main ∙ typed))
    where
      by : IsOne m c.told x k → HasMain
      by (inl d) = by_definition d
      by (inr d) = by_port d

  -- what all are told of it has no other instances
  record IsToldMain : Type 0 where
    scheme : Scheme
    told_is : told cs m.name x ≡ Some scheme
    instances : HasInstances has_main.scheme scheme

  same_own : (s u : Scheme) → own c x ≡ Some s → own c x ≡ Some u → s ≡ u
  same_own s u e f = let h : Some s ≡ Some u = sym e ∙ f in cc

  told_as : (s : Scheme) → IsToldAs (told cs) c.told part x s → HasInstances has_main.scheme s
  told_as s r = by r.is
    where
      less : own c x ≡ Some r.scheme → HasInstances has_main.scheme s
      less e = subst (λ z. HasInstances z s) (same_own r.scheme has_main.scheme e has_main.is_own) r.instances

      by : (defines (definitions (groups_in m.declarations)) (Top m.name x) ≡ true)
          × (c.told (Top m.name x) ≡ Some r.scheme)
          ⊎ (defines (definitions (groups_in m.declarations)) (Top m.name x) ≡ false)
          × (known_in m (told cs) m.name x ≡ Some r.scheme) → HasInstances has_main.scheme s
      by (inl d) = less (own_defined_as r.scheme d.0 d.1)
      by (inr d) =
          less (own_declared_as r.scheme d.0
          (sym (ap (λ b. if b then option_map annotation_scheme (lookup (bytes_eq x) (declared m))
          else told cs m.name x) (name_itself m.name)) ∙ d.1))

  tells_is : told cs m.name x ≡ tells c x
  tells_is =
      subst (λ h. told cs h x ≡ tells c x) (sym name)
      (told_at cs (length before) c all.resolved.apart (get_here before after c) x)

  told_main : IsToldMain
  told_main = by (type_in (home_of c) (Some (interface_of c)) x) refl tells_is
    where
      by : (o : Option Scheme) → type_in (home_of c) (Some (interface_of c)) x ≡ o →
          told cs m.name x ≡ option_or o (own c x) → IsToldMain
      by None e t = record {
        scheme = has_main.scheme;
        told_is = t ∙ has_main.is_own;
        instances = same_instances has_main.scheme;
      }
      by (Some s) e t = record {
        scheme = s;
        told_is = t;
        instances = told_as s
            (offers_told c.resolved.setting c.resolved.written part (is_next before c after all).is
            (is_next before c after all).read no_faults is.given (told cs) c.told x s
            (subst (λ z. type_in z (Some (interface_of c)) x ≡ Some s) (sym name) e));
      }

  pub main_in : (bound : Ref → Bool) → bound (Top m.name x) ≡ true → IsMain (told cs) bound (Top m.name x) flags
  main_in bound b =
      let s = told_main.scheme in
      let r = told_main.instances sample_frame (constants s) sample_stands (constants_chosen s) in
      record {
        home = m.name;
        name = x;
        scheme = s;
        name_is = refl;
        is_bound = b;
        told_is = told_main.told_is;
        frame = sample_frame;
        choice = constants s;
        stands = sample_stands;
        chosen = constants_chosen s;
        model = _;
        message = _;
        is = sym r.2
            ∙ program_instance (instance_leaf r.0 sample_frame) has_main.scheme.type flags has_main.program;
      }

-- ---- the program

module _ (cs : List Compiled) (entry : Compiled) (all : AreModules cs)
    (named : NamedProgram (linked_program cs entry)) (has : HasProgram (source_of entry.resolved))
    (before after : List Compiled) (e : before ++ entry ∷ after ≡ cs) where
  flags_are : (linked_program cs entry).flags ≡ has.flags
  unfolding program_of
  flags_are = ap flags_by has.main ∙ ap flags_said has.says

  main_are : (linked_program cs entry).main ≡ Top entry.resolved.whole.name (codes "main")
  unfolding program_of
  main_are = refl

  abbrev bound : Ref → Bool
  bound = bound_by (linked_pieces cs entry.resolved.whole.name) (primitive_names (linked_program cs entry).primitives)

  linked_main : IsMain (told cs) bound (linked_program cs entry).main (linked_program cs entry).flags
  linked_main =
      subst (λ y. IsMain (told cs) bound y (linked_program cs entry).flags) (sym main_are)
      (subst (IsMain (told cs) bound (Top entry.resolved.whole.name (codes "main"))) (sym flags_are)
      (subst (λ ds. IsMain (told ds) bound (Top entry.resolved.whole.name (codes "main")) has.flags) e
      (main_in before entry after (subst AreModules (sym e) all) has.scheme has.flags has.main has.says bound
      (subst (λ y. bound y ≡ true) main_are (main_bound cs entry all named)))))

pub links_have_main : LinksHaveMain
links_have_main cs place entry o all at named linked =
    let has = entry_is (map source_of (resolved_of cs)) place (source_of entry.resolved) o
    (mapped_at source_of (resolved_of cs) place entry.resolved
    (mapped_at (λ (d : Compiled). d.resolved) cs place entry at)) linked in
    let r = parted cs place entry at in
    linked_main cs entry all named has r.0 r.1 r.2
