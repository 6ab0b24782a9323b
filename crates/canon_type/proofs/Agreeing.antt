-- Worlds in which the names in a type mean the same give it one meaning.
use Rattle.std.proofs.Common.{◌≡◌, ℕ, List, [], ◌∷◌, ◌++◌, Option, Some, None, refl, sym, ap, ◌∙◌, subst}
use Rattle.std.specs.Prelude.{filter_map}
use Rattle.std.specs.List.{Contains, cons_option}
use Rattle.decl_groups.proofs.Basics.{first_member, later_member}
use Rattle.elm_tree.specs.Tree as tree
use Rattle.elm_tree.specs.Tree.{TypeTree, TypeTrees, NoType, MoreType, TypeVariable, TypeName, Long}
use Rattle.elm_canon.specs.Tree as plain
use Rattle.canon_env.specs.Found.{find}
use Rattle.canon_env.specs.Found as found
use Rattle.canon_env.specs.Imports.{name_of}
use Rattle.canon_env.specs.Naming.{World, own_name, qualifier_of, type_found}
use Rattle.canon_env.specs.Expanding.{applied}
use Rattle.canon_env.specs.Types.{function_of, type_of, types_of, field_types_of}
use Rattle.canon_type.specs.Written.{names_in, names_in_all, names_in_fields}

-- P holds of each
abbrev pub Each : (Long → Type 0) → List Long → Type 0
Each P [] = Unit {0}
Each P (x ∷ xs) = P x × Each P xs

each_front : (P : Long → Type 0) (xs ys : List Long) → Each P (xs ++ ys) → Each P xs
each_front P [] ys h = tt
each_front P (x ∷ xs) ys h = (h.0, each_front P xs ys h.1)

each_back : (P : Long → Type 0) (xs ys : List Long) → Each P (xs ++ ys) → Each P ys
each_back P [] ys h = h
each_back P (x ∷ xs) ys h = each_back P xs ys h.1

pub each_weaker : (P Q : Long → Type 0) → ((x : Long) → P x → Q x) → (xs : List Long) → Each P xs → Each Q xs
each_weaker P Q f [] h = tt
each_weaker P Q f (x ∷ xs) h = (f x h.0, each_weaker P Q f xs h.1)

-- what holds of each place that the names have holds at each name that has one
pub each_used : (at : Long → Option ℕ) (Q : ℕ → Type 0) (xs : List Long) →
    ((p : ℕ) → Contains (filter_map at xs) p → Q p) → Each (λ x. (p : ℕ) → at x ≡ Some p → Q p) xs
each_used at Q [] h = tt
each_used at Q (x ∷ xs) h = by (at x) refl (λ f. each_used at Q xs f) h
  where
    by : (o : Option ℕ) → at x ≡ o → (((p : ℕ) → Contains (filter_map at xs) p → Q p) →
        Each (λ y. (p : ℕ) → at y ≡ Some p → Q p) xs) →
        ((p : ℕ) → Contains (cons_option o (filter_map at xs)) p → Q p) →
        ((p : ℕ) → at x ≡ Some p → Q p) × Each (λ y. (p : ℕ) → at y ≡ Some p → Q p) xs
    by None e more h = ((λ p is. cc), more h)
    by (Some q) e more h = (
      (λ p is.
          let same : q ≡ p = cc in
          h p (subst (λ z. Contains (q ∷ filter_map at xs) z) same (first_member q (filter_map at xs)))),
      more (λ p m. h p (later_member q p (filter_map at xs) m)),
    )

module _ (w v : World) where
  abbrev pub Same : Long → Type 0
  Same x = type_found w x ≡ type_found v x

  mutual
    pub type_agrees : (t : TypeTree) → Each Same (names_in t) → type_of w t ≡ type_of v t
    type_agrees (TypeVariable a) h = refl
    type_agrees (TypeName x ts) h =
        ap (λ f. applied (own_name x) f (types_of w ts)) h.0
        ∙ ap (applied (own_name x) (type_found v x)) (types_agree ts h.1)
    type_agrees (tree.FunctionType ts) h = ap function_of (types_agree ts h)
    type_agrees (tree.TupleType ts) h = ap plain.TupleType (types_agree ts h)
    type_agrees (tree.RecordType fs) h = ap plain.RecordType (fields_agree fs h)
    type_agrees (tree.ExtendedType a fs) h = ap (plain.ExtendedType (name_of a)) (fields_agree fs h)

    pub types_agree : (ts : TypeTrees) → Each Same (names_in_all ts) → types_of w ts ≡ types_of v ts
    types_agree NoType h = refl
    types_agree (MoreType t ts) h =
        ap (λ z. plain.MoreAnnotation z (types_of w ts))
        (type_agrees t (each_front Same (names_in t) (names_in_all ts) h))
        ∙ ap (plain.MoreAnnotation (type_of v t)) (types_agree ts (each_back Same (names_in t) (names_in_all ts) h))

    fields_agree : (fs : tree.FieldTypes) → Each Same (names_in_fields fs) → field_types_of w fs ≡ field_types_of v fs
    fields_agree tree.NoFieldType h = refl
    fields_agree (tree.MoreFieldType x t fs) h =
        ap (λ z. plain.MoreFieldType (name_of x) z (field_types_of w fs))
        (type_agrees t (each_front Same (names_in t) (names_in_fields fs) h))
        ∙ ap (plain.MoreFieldType (name_of x) (type_of v t))
        (fields_agree fs (each_back Same (names_in t) (names_in_fields fs) h))
