-- The ports of a module: `port_typed`.
use Rattle.std.proofs.Common.{◌≡◌, List, [], ◌∷◌, ◌++◌, map, Bool, true, false, Option, Some, None, codes, inl, inr}
use Rattle.std.proofs.Common.{refl, subst, if◌then◌else◌}
use Rattle.std.specs.List.{AllByRecursion, flat_map}
use Rattle.elm_tree.specs.Tree.{Word, TypeTree}
use Rattle.elm_canon.specs.Names.{Name}
use Rattle.elm_canon.specs.Tree.{Annotation, Variable, NamedType, FunctionType, TupleType, RecordType, ExtendedType}
use Rattle.elm_canon.specs.Tree.{NoAnnotation, MoreAnnotation, Payload, PortDeclaration, Known, OutPort, InPort, Given}
use Rattle.elm_canon.specs.declared.reference.Ref.TheVariants.{Top}
use Rattle.canon_env.specs.Imports.{name_of}
use Rattle.canon_env.specs.Naming as naming
use Rattle.canon_env.specs.Sites.{faults_at}
use Rattle.canon_env.specs.Types.{type_of, type_sites}
use Rattle.canon_proper.proofs.Quiet.{append_none}
use Rattle.canon_type.specs.Ports.{PortForm, Outgoing, Incoming, NoPort, Untold, unless_blank, incoming_form, form_to}
use Rattle.canon_type.specs.Ports.{port_form, is_type, is_variable, same_variable}
use Rattle.canon_module.specs.Ports.{port_faults, form_faults, unless_payload, payload_or_int, known_by, port_known}
use Rattle.canon_module.specs.Ports.{port_of}
use Rattle.port_payload.specs.Payloads.{payload_of}
use Rattle.type_items.specs.Annotations.{written, written_all, annotation_scheme}
use Rattle.type_items.specs.Modules.{Annotated, union_makers, alias_makers, declared}
use Rattle.typed_values.specs.World.{Among}
use Rattle.told_modules.specs.Schemes.{HasNoBlank}
use Rattle.told_modules.proofs.Payloads.{payloads_once, named_first}
use Rattle.told_modules.proofs.Ports.{IsOut, IsIn, Says, form_says, ports_have}
use Rattle.build_safety.specs.Compiled.{Compiled, AreModules}
use Rattle.build_safety.specs.BuildWorlds.{world}
use Rattle.build_safety.proofs.WorldExact.{among_right}
use Rattle.build_safety.proofs.TypedLists.{mapped_there}
use Rattle.build_safety.proofs.TypedWanted as wanted
use Rattle.build_safety.proofs.TypedWanted.{Wanted}

-- ---- names without meaning

not_blank : (a : Name) → (a ≡ [] → ⊥) → unless_blank a ≡ Untold → ⊥
not_blank [] h e = h refl
not_blank (x ∷ xs) h e = absurd cc

-- what has no blank is told
told_incoming : (t other : Annotation) → HasNoBlank t → incoming_form t other ≡ Untold → ⊥
told_incoming (Variable a) other h e = not_blank a h.0 e
told_incoming (NamedType m x ts) other h e = absurd cc
told_incoming (FunctionType t message) other h e = by (same_variable message other) e
  where
    by : (b : Bool) → (if b then Incoming t else NoPort) ≡ Untold → ⊥
    by true f = absurd cc
    by false f = absurd cc
told_incoming (TupleType ts) other h e = absurd cc
told_incoming (RecordType fs) other h e = absurd cc
told_incoming (ExtendedType b fs) other h e = absurd cc

told_to : (t : Annotation) (m x : Name) (message : Annotation) → HasNoBlank t → form_to t m x message ≡ Untold → ⊥
told_to t m x message h e =
    by (is_type (codes "Platform.Cmd") (codes "Cmd") m x) (is_variable message)
    (is_type (codes "Platform.Sub") (codes "Sub") m x) e
  where
    by : (b c d : Bool) →
        (if b then (if c then Outgoing t else NoPort) else (if d then incoming_form t message else NoPort)) ≡ Untold → ⊥
    by true true d f = absurd cc
    by true false d f = absurd cc
    by false c true f = told_incoming t message h f
    by false c false f = absurd cc

is_told : (a : Annotation) → HasNoBlank a → port_form a ≡ Untold → ⊥
is_told (Variable x) h e = not_blank x h.0 e
is_told (NamedType m x ts) h e = absurd cc
is_told (FunctionType t (Variable x)) h e = not_blank x (blank_last (written t) h).0 e
  where
    blank_last : (xs : List Name) → AllByRecursion (λ (a : Name). a ≡ [] → ⊥) (xs ++ x ∷ []) →
        AllByRecursion (λ (a : Name). a ≡ [] → ⊥) (x ∷ [])
    blank_last [] k = k
    blank_last (y ∷ xs) k = blank_last xs k.1
is_told (FunctionType t (NamedType m x NoAnnotation)) h e = absurd cc
is_told (FunctionType t (NamedType m x (MoreAnnotation message NoAnnotation))) h e =
    told_to t m x message (named_first (written t) (written_all (MoreAnnotation message NoAnnotation)) h) e
is_told (FunctionType t (NamedType m x (MoreAnnotation message (MoreAnnotation u ts)))) h e = absurd cc
is_told (FunctionType t (FunctionType u v)) h e = absurd cc
is_told (FunctionType t (TupleType ts)) h e = absurd cc
is_told (FunctionType t (RecordType fs)) h e = absurd cc
is_told (FunctionType t (ExtendedType x fs)) h e = absurd cc
is_told (TupleType ts) h e = absurd cc
is_told (RecordType fs) h e = absurd cc
is_told (ExtendedType x fs) h e = absurd cc

-- what crosses has no blank where the port's type has none
out_no_blank : (a t : Annotation) → IsOut a t → HasNoBlank a → HasNoBlank t
out_no_blank a t o h = named_first (written t) _ (subst HasNoBlank o.is h)

in_no_blank : (a t : Annotation) → IsIn a t → HasNoBlank a → HasNoBlank t
in_no_blank a t o h =
    named_first (written t) _ (named_first (written t ++ written o.message) _ (subst HasNoBlank o.is h))

-- ---- ports

module _ (before : List Compiled) (c : Compiled) (after : List Compiled) (all : AreModules (before ++ c ∷ after))
    (outs ins : Name → Option Payload) where
  abbrev cs : List Compiled
  cs = before ++ c ∷ after

  abbrev home : Name
  home = wanted.home before c after all

  abbrev names : naming.World
  names = wanted.names before c after all

  abbrev Asked : Known → Name → Type 0
  Asked k x = Wanted (world cs outs ins) (wanted.env before c after all) (Given (Top home x) k)

  module _ (x : Word) (t : TypeTree)
      (there : Among (port_of names x t) (wanted.whole before c after all).ports)
      (none : port_faults names x t ≡ []) (named : HasNoBlank (type_of names t)) where
    abbrev a : Annotation
    a = type_of names t

    abbrev port : Annotated
    port = (name_of x, a)

    is_declared : Among port (declared (wanted.whole before c after all))
    is_declared =
        let m = wanted.whole before c after all in
        among_right (flat_map (union_makers m.name) m.unions ++ flat_map alias_makers m.aliases)
        (map (λ (p : PortDeclaration). (p.name, p.port_type)) m.ports) port
        (mapped_there (λ (p : PortDeclaration). (p.name, p.port_type)) m.ports (port_of names x t) there)

    outgoing : (u : Annotation) → port_form a ≡ Outgoing u → (o : Option Payload) → payload_of u ≡ o →
        unless_payload x o ≡ [] → Asked (OutPort (name_of x) (payload_or_int o)) (name_of x)
    outgoing u form None e f carried fields proper kept = absurd cc
    outgoing u form (Some p) e f carried fields proper kept =
        let o : IsOut a u = subst (Says a) form (form_says a) in
        let type = (ports_have a u p (out_no_blank a u o named) e).out form in
        inr (inr (record {
          home = home;
          name = name_of x;
          scheme = annotation_scheme a;
          name_is = refl;
          known_is = wanted.known_own before c after all port is_declared;
          is = inl (name_of x, p, type.0, refl, carried, payloads_once p fields, type.1);
        }))

    incoming : (u : Annotation) → port_form a ≡ Incoming u → (o : Option Payload) → payload_of u ≡ o →
        unless_payload x o ≡ [] → Asked (InPort (name_of x) (payload_or_int o)) (name_of x)
    incoming u form None e f carried fields proper kept = absurd cc
    incoming u form (Some p) e f carried fields proper kept =
        let o : IsIn a u = subst (Says a) form (form_says a) in
        let type = (ports_have a u p (in_no_blank a u o named) e).in_ form in
        inr (inr (record {
          home = home;
          name = name_of x;
          scheme = annotation_scheme a;
          name_is = refl;
          known_is = wanted.known_own before c after all port is_declared;
          is = inr (name_of x, p, type.0, refl, carried, type.1);
        }))

    of_form : (f : PortForm) → port_form a ≡ f → form_faults x f ≡ [] → Asked (known_by (name_of x) f) (name_of x)
    of_form (Outgoing u) e n = outgoing u e (payload_of u) refl n
    of_form (Incoming u) e n = incoming u e (payload_of u) refl n
    of_form NoPort e n = absurd cc
    of_form Untold e n = absurd (is_told a named e)

    pub port_typed : Asked (port_known names x t) (name_of x)
    port_typed =
        of_form (port_form a) refl
        (append_none (flat_map (faults_at names) (type_sites names t)) (form_faults x (port_form a)) none).1
