-- What is declared without a body serves its name, and the declarations of a module bind what fits the scope after it.
use Rattle.std.proofs.Common.{◌≡◌, ℕ, suc, List, [], ◌∷◌, ◌++◌, map, length, Bool, true, false, Some, flat_map, inl, inr, refl, sym, ap, ◌∙◌, subst, arith, eqb-true, eq-eqb}
use Rattle.std.specs.Prelude.{◌==◌, if◌then◌else◌, codes}
use Rattle.std.specs.List.{zip}
use Rattle.runs.specs.Ends.{End, Val}
use Rattle.elm_canon.specs.Names.{Name}
use Rattle.elm_canon.specs.declared.reference.Ref.{Ref}
use Rattle.elm_canon.specs.declared.reference.Ref.TheVariants.{Top}
use Rattle.elm_canon.specs.Tree as canon
use Rattle.elm_canon.specs.Tree.{Maker, RecordMaker, Declaration, Given, Define, Payload, IntPayload, BoolPayload, TextPayload}
use Rattle.elm_canon.specs.Tree.{MaybePayload, ListPayload, TuplePayload, RecordPayload, Payloads, NoPayload, MorePayload}
use Rattle.elm_canon.specs.Tree.{PayloadFields, NoPayloadField, MorePayloadField}
use Rattle.elm_type.specs.declared.head.Head.TheVariants as head
use Rattle.elm_meaning.specs.Functions as functions
use Rattle.elm_meaning.specs.Values.{Value, KnownV, NoValue}
use Rattle.elm_meaning.specs.Operate.{build}
use Rattle.elm_meaning.specs.Primitives.{known, finish}
use Rattle.elm_type.specs.Types.{ElmType, Leaf, Scheme, Made, Record, Closed, NoField, MoreType, functions as functions_to, function, named, list_type}
use Rattle.elm_type.specs.Classes.{Ground}
use Rattle.elm_type.specs.Rows.{sorted, closed, insert_field, insert_all, substitute, substitute_all, substitute_fields}
use Rattle.type_items.specs.Scopes.{Known, Instance, Scope}
use Rattle.type_items.specs.Expressions.{definitions, group_definitions}
use Rattle.type_items.specs.Modules.{definitions_in}
use Rattle.typed_values.specs.Frames.{Frame, Serves, instance_leaf}
use Rattle.typed_values.specs.Payloads.{payload_type, payload_types, payload_fields, cmd_type, sub_type}
use Rattle.typed_values.specs.World.{World, KnownIn, made_type, Knows, IsSound}
use Rattle.typed_values.specs.Typed.{EndsWell, Has}
use Rattle.typed_values.proofs.Names.{not_both}
use Rattle.typed_values.proofs.Rows.{substitute_insert, insert_all_insert}
use Rattle.typed_values.proofs.Unions.{map_length}
use Rattle.typed_values.proofs.Makers.{built_of}
use Rattle.typed_values.proofs.Operations.{sorted_again}
use Rattle.type_safety.specs.Modules.{IsConstructor, IsRecordMaker, IsOut, IsIn, IsPort, IsTyped, groups_in}

substituted_functions : {X Y : Type 0} (L : X → ElmType Y) (ts : List (ElmType X)) (r : ElmType X) → substitute L (functions_to ts r) ≡ functions_to (map (substitute L) ts) (substitute L r)
substituted_functions L [] r = refl
substituted_functions L (t ∷ ts) r = ap (function (substitute L t)) (substituted_functions L ts r)

module _ {X Y : Type 0} (L : X → ElmType Y) where
  abbrev pair : Name × ElmType X → Name × ElmType Y
  pair p = (p.0, substitute L p.1)

  substituted_sorted : (ps : List (Name × ElmType X)) → substitute_fields L (sorted ps) ≡ sorted (map pair ps)
  substituted_sorted [] = refl
  substituted_sorted (p ∷ ps) = substitute_insert L p.0 p.1 (sorted ps) ∙ ap (insert_field p.0 (substitute L p.1)) (substituted_sorted ps)

  substituted_zip : (xs : List Name) (ts : List (ElmType X)) → map pair (zip xs ts) ≡ zip xs (map (substitute L) ts)
  substituted_zip [] ts = refl
  substituted_zip (x ∷ xs) [] = refl
  substituted_zip (x ∷ xs) (t ∷ ts) = ap (λ ps. (x, substitute L t) ∷ ps) (substituted_zip xs ts)

substituted_closed : {X : Type 0} (L : X → Ground) (xs : List Name) (ts : List (ElmType X)) → substitute L (closed (zip xs ts)) ≡ closed (zip xs (map (substitute L) ts))
substituted_closed L xs ts =
    ap (λ fs. Record (insert_all fs NoField) Closed) (substituted_sorted L (zip xs ts))
    ∙ (ap (λ fs. Record fs Closed) (sorted_again (map (pair L) (zip xs ts))) ∙ ap closed (substituted_zip L xs ts))

-- the type of a payload has no variables
mutual
  pub payload_same : {X Y : Type 0} (L : X → ElmType Y) (t : Payload) → substitute L (payload_type t) ≡ payload_type t
  payload_same L IntPayload = refl
  payload_same L BoolPayload = refl
  payload_same L TextPayload = refl
  payload_same L (MaybePayload t) = ap (λ z. named (codes "Maybe") (codes "Maybe") (z ∷ [])) (payload_same L t)
  payload_same L (ListPayload t) = ap list_type (payload_same L t)
  payload_same L (TuplePayload ts) = ap (Made head.Tuple) (payloads_same L ts)
  payload_same L (RecordPayload fs) = ap (λ z. Record (insert_all z NoField) Closed) (fields_same L fs) ∙ ap (λ z. Record z Closed) (fields_again fs)

  payloads_same : {X Y : Type 0} (L : X → ElmType Y) (ts : Payloads) → substitute_all L (payload_types ts) ≡ payload_types ts
  payloads_same L NoPayload = refl
  payloads_same L (MorePayload t ts) = ap (λ z. MoreType z (substitute_all L (payload_types ts))) (payload_same L t) ∙ ap (MoreType (payload_type t)) (payloads_same L ts)

  fields_same : {X Y : Type 0} (L : X → ElmType Y) (fs : PayloadFields) → substitute_fields L (payload_fields fs) ≡ payload_fields fs
  fields_same L NoPayloadField = refl
  fields_same L (MorePayloadField k t fs) =
      substitute_insert L k (payload_type t) (payload_fields fs)
      ∙ (ap (λ z. insert_field k z (substitute_fields L (payload_fields fs))) (payload_same L t) ∙ ap (insert_field k (payload_type t)) (fields_same L fs))

  fields_again : {X : Type 0} (fs : PayloadFields) → insert_all (payload_fields {X = X} fs) NoField ≡ payload_fields fs
  fields_again NoPayloadField = refl
  fields_again (MorePayloadField k t fs) =
      insert_all_insert k (payload_type t) (payload_fields fs) NoField ∙ ap (insert_field k (payload_type t)) (fields_again fs)

if_known : (b : Bool) (n : ℕ) (one other : End Value) (P : Value → Type 0) → (0 == n) ≡ b → (n ≡ 0 → EndsWell P one) → ((n ≡ 0 → ⊥) → EndsWell P other) → EndsWell P (if b then one else other)
if_known true n one other P e h k = h (sym (eqb-true 0 n e))
if_known false n one other P e h k = k (λ z. not_both (0 == n) (eq-eqb 0 n (sym z)) e)

-- what serves the instances of a scheme
abbrev pub Instances : World → Scheme → Value → Type 0
Instances w s v = (scope : Scope) (f : Frame) → Serves (λ g. Has w v g) (Instance s) scope f

pub record GivenServes (w : World) (known_here : Known) (x : Ref) (k : canon.Known) : Type 0 where
  pub home : Name
  pub name : Name
  pub scheme : Scheme
  pub name_is : x ≡ Top home name
  pub known_is : known_here home name ≡ Some scheme
  pub ends : EndsWell (Instances w scheme) (known (functions.Given k) NoValue)

module _ (w : World) (sound : IsSound w) (known_here : Known) (is_known : KnownIn w known_here) where
  constructor_serves : (x : Ref) (k : canon.Known) → IsConstructor w x k → GivenServes w known_here x k
  constructor_serves x k m =
      let c = m.constructor_ in
      let u = sound.unions m.home m.name in
      let s = u.makes known_here is_known c m.among in record {
        home = m.home;
        name = c.alternative.name;
        scheme = s.0;
        name_is = m.name_is;
        known_is = s.1;
        ends = subst (λ z. EndsWell (Instances w s.0) (known (functions.Given z) NoValue)) (sym m.is)
            (if_known (0 == c.alternative.arity) c.alternative.arity (build c.alternative.tag NoValue) (Val (KnownV (functions.Given (Maker c.alternative)) NoValue)) (Instances w s.0) refl
            (λ none. subst (EndsWell (Instances w s.0)) (sym (built_of w sound m.home m.name c NoValue m.among (sym none)))
            (λ scope f g choice stands agree chosen. (
              [],
              inl (inr (inr (record {
                home = m.home;
                name = m.name;
                constructor_ = c;
                among = m.among;
                tag_is = refl;
                own = m.own;
                choice = instance_leaf choice g;
                parts_are = ap (map (substitute (instance_leaf choice g))) (no_fields c.fields (u.counted c m.among ∙ none));
                is = sym (ap (substitute (instance_leaf choice g)) s.2 ∙ ap (λ ts. substitute (instance_leaf choice g) (functions_to ts (made_type m.home m.name c))) (no_fields c.fields (u.counted c m.among ∙ none)));
              }))),
              tt,
            )))
            (λ some scope f g choice stands agree chosen.
            let L = instance_leaf choice g in
            ([], knows c.fields refl L (substitute L s.0.type) (λ none. some (sym (u.counted c m.among) ∙ ap length none)) (ap (substitute L) s.2), tt)));
      }
    where
      no_fields : {X : Type 0} (ts : List X) → length ts ≡ 0 → ts ≡ []
      no_fields [] e = refl
      no_fields (t ∷ ts) e = absurd (let z : suc (length ts) ≡ 0 = e in omega arith)

      knows : (ts : List (ElmType (Leaf ℕ))) → m.constructor_.fields ≡ ts → (L : Leaf ℕ → Ground) (g : Ground) → (ts ≡ [] → ⊥)
          → g ≡ substitute L (functions_to m.constructor_.fields (made_type m.home m.name m.constructor_)) → Knows w (functions.Given (Maker m.constructor_.alternative)) [] g
      knows [] same L g some is = absurd (some refl)
      knows (t ∷ ts) same L g some is = record {
        next = substitute L t;
        later = map (substitute L) ts;
        result = substitute L (made_type m.home m.name m.constructor_);
        takes = record {
          home = m.home;
          name = m.name;
          constructor_ = m.constructor_;
          among = m.among;
          is = refl;
          own = m.own;
          choice = L;
          parts_are = ap (map (substitute L)) same;
          gives = refl;
        };
        is = sym (is ∙ (ap (λ us. substitute L (functions_to us (made_type m.home m.name m.constructor_))) same ∙ substituted_functions L (t ∷ ts) (made_type m.home m.name m.constructor_)));
      }

  record_serves : (x : Ref) (k : canon.Known) → IsRecordMaker known_here x k → GivenServes w known_here x k
  record_serves x k m = record {
    home = m.home;
    name = m.name;
    scheme = m.scheme;
    name_is = m.name_is;
    known_is = m.known_is;
    ends = subst (λ z. EndsWell (Instances w m.scheme) (known (functions.Given z) NoValue)) (sym m.is) (go m.fields m.types m.counted m.proper m.scheme_is);
  }
    where
      go : (xs : List Name) (ts : List (ElmType (Leaf ℕ))) → length ts ≡ length xs → Rattle.elm_canon.specs.Spelled.are_fields xs ≡ true → m.scheme.type ≡ functions_to ts (closed (zip xs ts))
          → EndsWell (Instances w m.scheme) (known (functions.Given (RecordMaker xs)) NoValue)
      go [] [] n proper type = λ scope f g choice stands agree chosen. (NoField, sym (ap (substitute (instance_leaf choice g)) type), tt)
      go [] (t ∷ ts) n proper type = absurd (let z : suc (length ts) ≡ 0 = n in omega arith)
      go (y ∷ ys) [] n proper type = absurd (let z : 0 ≡ suc (length ys) = n in omega arith)
      go (y ∷ ys) (t ∷ ts) n proper type =
          if_known (0 == suc (length ys)) (suc (length ys)) (finish (functions.Given (RecordMaker (y ∷ ys))) NoValue) (Val (KnownV (functions.Given (RecordMaker (y ∷ ys))) NoValue)) (Instances w m.scheme) refl
          (λ none. absurd (omega (arith, none))) (λ some scope f g choice stands agree chosen.
          let L = instance_leaf choice g in (
            [],
            record {
              next = substitute L t;
              later = map (substitute L) ts;
              result = closed (zip (y ∷ ys) (map (substitute L) (t ∷ ts)));
              takes = (proper, map_length (substitute L) (t ∷ ts) ∙ n, refl);
              is = sym (ap (substitute L) type ∙ (substituted_functions L (t ∷ ts) (closed (zip (y ∷ ys) (t ∷ ts)))
                  ∙ ap (functions_to (map (substitute L) (t ∷ ts))) (substituted_closed L (y ∷ ys) (t ∷ ts))));
            },
            tt,
          ))

  -- ---- ports

  out_serves : (x : Ref) (k : canon.Known) (s : Scheme) → IsOut w k s → EndsWell (Instances w s) (known (functions.Given k) NoValue)
  out_serves x k s m = subst (λ z. EndsWell (Instances w s) (known (functions.Given z) NoValue)) (sym m.3) (λ scope f g choice stands agree chosen.
      let L = instance_leaf choice g in (
        [],
        record {
          next = payload_type m.1;
          later = [];
          result = cmd_type (substitute L m.2);
          takes = (substitute L m.2, m.4, m.5, refl, refl);
          is = sym (ap (substitute L) m.6 ∙ ap (λ t. function t (cmd_type (substitute L m.2))) (payload_same L m.1));
        },
        tt,
      ))

  in_serves : (x : Ref) (k : canon.Known) (s : Scheme) → IsIn w k s → EndsWell (Instances w s) (known (functions.Given k) NoValue)
  in_serves x k s m = subst (λ z. EndsWell (Instances w s) (known (functions.Given z) NoValue)) (sym m.3) (λ scope f g choice stands agree chosen.
      let L = instance_leaf choice g in (
        [],
        record {
          next = function (payload_type m.1) (substitute L m.2);
          later = [];
          result = sub_type (substitute L m.2);
          takes = (substitute L m.2, m.4, refl, refl);
          is = sym (ap (substitute L) m.5 ∙ ap (λ t. function (function t (substitute L m.2)) (sub_type (substitute L m.2))) (payload_same L m.1));
        },
        tt,
      ))

  port_serves : (x : Ref) (k : canon.Known) → IsPort w known_here x k → GivenServes w known_here x k
  port_serves x k m = record {
    home = m.home;
    name = m.name;
    scheme = m.scheme;
    name_is = m.name_is;
    known_is = m.known_is;
    ends = elim m.is [ inl o ↦ out_serves x k m.scheme o | inr i ↦ in_serves x k m.scheme i ];
  }

  pub given_serves : (x : Ref) (k : canon.Known) → IsTyped w known_here x k → GivenServes w known_here x k
  given_serves x k (inl m) = constructor_serves x k m
  given_serves x k (inr (inl m)) = record_serves x k m
  given_serves x k (inr (inr m)) = port_serves x k m

-- the definitions of declarations are those of their groups
pub declared_definitions : (ds : List Declaration) → flat_map definitions_in ds ≡ definitions (groups_in ds)
declared_definitions [] = refl
declared_definitions (Given x k ∷ ds) = declared_definitions ds
declared_definitions (Define g ∷ ds) = ap (λ es. group_definitions g ++ es) (declared_definitions ds)
