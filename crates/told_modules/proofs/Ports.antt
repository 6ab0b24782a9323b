-- The types of ports: `ports_have`.
use Rattle.std.proofs.Common.{◌≡◌, ℕ, [], ◌∷◌, Bool, true, false, codes, refl, sym, ap, ◌∙◌, subst}
use Rattle.std.proofs.Common.{if◌then◌else◌}
use Rattle.elm_canon.specs.Names.{Name}
use Rattle.elm_canon.specs.Tree.{Annotation, Variable, NamedType, FunctionType, TupleType, RecordType, ExtendedType}
use Rattle.elm_canon.specs.Tree.{NoAnnotation, MoreAnnotation}
use Rattle.elm_type.specs.Types.{ElmType, Leaf, function}
use Rattle.canon_env.proofs.Adding.{one_name}
use Rattle.canon_type.specs.Ports.{PortForm, Outgoing, Incoming, NoPort, Untold, is_type, unless_blank, is_variable}
use Rattle.canon_type.specs.Ports.{same_variable, incoming_form, form_to, port_form}
use Rattle.type_items.specs.Annotations.{annotation_type, scheme_variable, annotation_scheme}
use Rattle.typed_values.specs.Payloads.{payload_type, cmd_type, sub_type}
use Rattle.told_modules.specs.Schemes.{PortsHaveSchemes}
use Rattle.told_modules.proofs.Payloads.{type_is, payload_type_is}

-- ---- the forms of ports

-- a type that leads to this one
pub record IsOut (a t : Annotation) : Type 0 where
  pub message : Annotation
  pub is : a ≡ FunctionType t (NamedType (codes "Platform.Cmd") (codes "Cmd") (MoreAnnotation message NoAnnotation))

pub record IsIn (a t : Annotation) : Type 0 where
  pub message : Annotation
  pub is : a ≡ FunctionType (FunctionType t message)
      (NamedType (codes "Platform.Sub") (codes "Sub") (MoreAnnotation message NoAnnotation))

-- what a form says of a type
abbrev pub Says : Annotation → PortForm → Type 0
Says a (Outgoing t) = IsOut a t
Says a (Incoming t) = IsIn a t
Says a NoPort = Unit {0}
Says a Untold = Unit {0}

blank_says : (a : Annotation) (x : Name) → Says a (unless_blank x)
blank_says a [] = tt
blank_says a (c ∷ cs) = tt

one_variable : (t u : Annotation) → same_variable t u ≡ true → t ≡ u
one_variable (Variable b) (Variable a) e = ap (λ z. Variable z) (one_name b a e)
one_variable (NamedType m x ts) (Variable a) e = absurd cc
one_variable (FunctionType t u) (Variable a) e = absurd cc
one_variable (TupleType ts) (Variable a) e = absurd cc
one_variable (RecordType fs) (Variable a) e = absurd cc
one_variable (ExtendedType b fs) (Variable a) e = absurd cc
one_variable t (NamedType m x ts) e = absurd cc
one_variable t (FunctionType u v) e = absurd cc
one_variable t (TupleType ts) e = absurd cc
one_variable t (RecordType fs) e = absurd cc
one_variable t (ExtendedType b fs) e = absurd cc

abbrev sub_to : Annotation → Annotation
sub_to message = NamedType (codes "Platform.Sub") (codes "Sub") (MoreAnnotation message NoAnnotation)

incoming_says : (t other : Annotation) → Says (FunctionType t (sub_to other)) (incoming_form t other)
incoming_says (Variable a) other = blank_says (FunctionType (Variable a) (sub_to other)) a
incoming_says (NamedType m x ts) other = tt
incoming_says (FunctionType t message) other = by (same_variable message other) refl
  where
    by : (b : Bool) → same_variable message other ≡ b →
        Says (FunctionType (FunctionType t message) (sub_to other)) (if b then Incoming t else NoPort)
    by true e = record {
      message = message;
      is = ap (λ z. FunctionType (FunctionType t message) (sub_to z)) (sym (one_variable message other e));
    }
    by false e = tt
incoming_says (TupleType ts) other = tt
incoming_says (RecordType fs) other = tt
incoming_says (ExtendedType b fs) other = tt

to_says : (t : Annotation) (m x : Name) (message : Annotation) →
    Says (FunctionType t (NamedType m x (MoreAnnotation message NoAnnotation))) (form_to t m x message)
to_says t m x message = outs (is_type (codes "Platform.Cmd") (codes "Cmd") m x) refl
  where
    ins : (b : Bool) → is_type (codes "Platform.Sub") (codes "Sub") m x ≡ b →
        Says (FunctionType t (NamedType m x (MoreAnnotation message NoAnnotation)))
        (if b then incoming_form t message else NoPort)
    ins true e =
        let n = type_is (codes "Platform.Sub") (codes "Sub") m x e in
        subst
        (λ z. Says (FunctionType t (NamedType z x (MoreAnnotation message NoAnnotation))) (incoming_form t message))
        (sym n.0)
        (subst
        (λ z. Says (FunctionType t (NamedType (codes "Platform.Sub") z (MoreAnnotation message NoAnnotation)))
        (incoming_form t message)) (sym n.1) (incoming_says t message))
    ins false e = tt

    sent : (b : Bool) → (m ≡ codes "Platform.Cmd") × (x ≡ codes "Cmd") →
        Says (FunctionType t (NamedType m x (MoreAnnotation message NoAnnotation))) (if b then Outgoing t else NoPort)
    sent true n = record {
      message = message;
      is = ap (λ z. FunctionType t (NamedType z x (MoreAnnotation message NoAnnotation))) n.0
          ∙ ap (λ z. FunctionType t (NamedType (codes "Platform.Cmd") z (MoreAnnotation message NoAnnotation))) n.1;
    }
    sent false n = tt

    outs : (b : Bool) → is_type (codes "Platform.Cmd") (codes "Cmd") m x ≡ b →
        Says (FunctionType t (NamedType m x (MoreAnnotation message NoAnnotation)))
        (if b then (if is_variable message then Outgoing t else NoPort)
        else (if is_type (codes "Platform.Sub") (codes "Sub") m x then incoming_form t message else NoPort))
    outs true e = sent (is_variable message) (type_is (codes "Platform.Cmd") (codes "Cmd") m x e)
    outs false e = ins (is_type (codes "Platform.Sub") (codes "Sub") m x) refl

pub form_says : (a : Annotation) → Says a (port_form a)
form_says (Variable x) = blank_says (Variable x) x
form_says (NamedType m x ts) = tt
form_says (FunctionType t (Variable x)) = blank_says (FunctionType t (Variable x)) x
form_says (FunctionType t (NamedType m x NoAnnotation)) = tt
form_says (FunctionType t (NamedType m x (MoreAnnotation message NoAnnotation))) = to_says t m x message
form_says (FunctionType t (NamedType m x (MoreAnnotation message (MoreAnnotation u ts)))) = tt
form_says (FunctionType t (FunctionType u v)) = tt
form_says (FunctionType t (TupleType ts)) = tt
form_says (FunctionType t (RecordType fs)) = tt
form_says (FunctionType t (ExtendedType x fs)) = tt
form_says (TupleType ts) = tt
form_says (RecordType fs) = tt
form_says (ExtendedType x fs) = tt

-- ---- their types

pub ports_have : PortsHaveSchemes
ports_have a t p none e = record { out = outgoing; in_ = incoming }
  where
    outgoing : port_form a ≡ Outgoing t →
        (message : ElmType (Leaf ℕ)) × ((annotation_scheme a).type ≡ function (payload_type p) (cmd_type message))
    outgoing f =
        let o : IsOut a t = subst (Says a) f (form_says a) in (
          annotation_type (scheme_variable [] a) o.message,
          ap (annotation_type (scheme_variable [] a)) o.is
              ∙ ap (λ z. function z (cmd_type (annotation_type (scheme_variable [] a) o.message)))
              (payload_type_is (scheme_variable [] a) t p none e),
        )

    incoming : port_form a ≡ Incoming t → (message : ElmType (Leaf ℕ))
        × ((annotation_scheme a).type ≡ function (function (payload_type p) message) (sub_type message))
    incoming f =
        let o : IsIn a t = subst (Says a) f (form_says a) in (
          annotation_type (scheme_variable [] a) o.message,
          ap (annotation_type (scheme_variable [] a)) o.is
              ∙ ap (λ z. function (function z (annotation_type (scheme_variable [] a) o.message))
              (sub_type (annotation_type (scheme_variable [] a) o.message)))
              (payload_type_is (scheme_variable [] a) t p none e),
        )
