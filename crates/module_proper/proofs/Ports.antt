-- The ports of a module without faults: what crosses them has words for fields, each once, and so have their names.
use Rattle.std.proofs.Common.{◌≡◌, ℕ, zero, suc, List, [], ◌∷◌, ◌++◌, map, Bool, true, false, Option, Some, None}
use Rattle.std.proofs.Common.{if◌then◌else◌, refl, sym, ap, ◌∙◌, subst, codes}
use Rattle.std.specs.Prelude.{◌&&◌, ◌||◌, not, slice_index_or}
use Rattle.std.specs.List.{flat_map, list_any}
use Rattle.std.proofs.lemmas.Bool.{false≢true}
use Rattle.elm_tree.specs.Tree as tree
use Rattle.elm_tree.specs.Tree.{Word, TypeTree}
use Rattle.elm_canon.specs.Names.{Name, same_name}
use Rattle.elm_canon.specs.Tree.{Annotation, Variable, NamedType, FunctionType, TupleType, RecordType, ExtendedType}
use Rattle.elm_canon.specs.Tree.{Annotations, NoAnnotation, MoreAnnotation, Payload, Known, Maker}
use Rattle.elm_canon.specs.Tree.{RecordMaker, OutPort, InPort, Group, Declaration, Given, Define}
use Rattle.elm_canon.specs.declared.reference.Ref.{Ref}
use Rattle.elm_canon.specs.declared.reference.Ref.TheVariants.{Top}
use Rattle.elm_canon.specs.declared.unions.Alternative.{Alternative}
use Rattle.canon_env.specs.Imports.{name_of}
use Rattle.canon_env.proofs.Adding.{one_name}
use Rattle.canon_env.specs.Naming.{World}
use Rattle.canon_env.specs.Sites.{faults_at}
use Rattle.canon_env.specs.Types.{type_of, type_sites}
use Rattle.canon_type.specs.Ports.{PortForm, Outgoing, Incoming, NoPort, Untold, port_form, port_to, unless_blank}
use Rattle.canon_type.specs.Ports.{named_to}
use Rattle.canon_type.specs.Ports.{form_to, incoming_form, incoming_to, is_type, is_variable, same_variable}
use Rattle.port_payload.specs.Payloads.{payload_of}
use Rattle.canon_type.specs.Unions.{alternatives_of}
use Rattle.canon_expr.specs.Blocks.{NoMade, group_of}
use Rattle.canon_module.specs.Items.{Item, PortItem, ValueItem, item_of, items_of, annotation_by, grouped, items_at}
use Rattle.canon_module.specs.Items.{made_by}
use Rattle.canon_module.specs.Ports.{payload_or_int, known_by, form_faults}
use Rattle.canon_module.specs.CanonValuesFaults.{declaration_faults}
use Rattle.canon_module.specs.Resolve.{makers_in, maker_of, record_maker}
use Rattle.elm_canon.specs.Spelled.{are_fields}
use Rattle.elm_canon.specs.Proper.{Scope, among, IsIn, with_all}
use Rattle.elm_canon.specs.Declarations.{ProperDeclarations, declared_names}
use Rattle.canon_proper.specs.Declared.{AreSpelledDeclarations}
use Rattle.canon_proper.proofs.Quiet.{append_none}
use Rattle.canon_proper.proofs.Scopes.{in_first, in_more}
use Rattle.emit_laws.specs.Programs.{in_ports}
use Rattle.emit_size_laws.specs.Small.{HasFields, PortsHaveFields}
use Rattle.module_proper.specs.Records.{HasRecords, NamesHaveRecords}
use Rattle.module_proper.proofs.Payloads.{has_fields}
use Rattle.module_proper.proofs.Written.{any_written_well}

-- ---- one port

abbrev FormWell : PortForm → Type 0
FormWell (Outgoing t) = HasRecords t
FormWell (Incoming t) = HasRecords t
FormWell NoPort = Unit {0}
FormWell Untold = Unit {0}

blank_well : (a : Name) → FormWell (unless_blank a)
blank_well [] = tt
blank_well (c ∷ cs) = tt

incoming_to_well : (t message other : Annotation) → HasRecords t → FormWell (incoming_to t message other)
incoming_to_well t message other h = by (same_variable message other)
  where
    by : (b : Bool) → FormWell (if b then Incoming t else NoPort)
    by true = h
    by false = tt

incoming_well : (t other : Annotation) → HasRecords t → FormWell (incoming_form t other)
incoming_well (Variable a) other h = blank_well a
incoming_well (NamedType m x ts) other h = tt
incoming_well (FunctionType t message) other h = incoming_to_well t message other h.0
incoming_well (TupleType ts) other h = tt
incoming_well (RecordType fs) other h = tt
incoming_well (ExtendedType b fs) other h = tt

to_well : (t : Annotation) (m x : Name) (message : Annotation) → HasRecords t → FormWell (form_to t m x message)
to_well t m x message h =
    by (is_type (codes "Platform.Cmd") (codes "Cmd") m x)
    (is_variable message)
    (is_type (codes "Platform.Sub") (codes "Sub") m x)
  where
    by : (a b c : Bool) → FormWell (if a then (if b then Outgoing t else NoPort)
        else (if c then incoming_form t message else NoPort))
    by true true c = h
    by true false c = tt
    by false b true = incoming_well t message h
    by false b false = tt

named_well : (t : Annotation) (m x : Name) (ts : Annotations) → HasRecords t → FormWell (named_to t m x ts)
named_well t m x NoAnnotation h = tt
named_well t m x (MoreAnnotation message NoAnnotation) h = to_well t m x message h
named_well t m x (MoreAnnotation message (MoreAnnotation u ts)) h = tt

result_well : (t u : Annotation) → HasRecords t → FormWell (port_to t u)
result_well t (Variable a) h = blank_well a
result_well t (NamedType m x ts) h = named_well t m x ts h
result_well t (FunctionType u v) h = tt
result_well t (TupleType ts) h = tt
result_well t (RecordType fs) h = tt
result_well t (ExtendedType a fs) h = tt

form_well : (t : Annotation) → HasRecords t → FormWell (port_form t)
form_well (Variable a) h = blank_well a
form_well (NamedType m x ts) h = tt
form_well (FunctionType t u) h = result_well t u h.0
form_well (TupleType ts) h = tt
form_well (RecordType fs) h = tt
form_well (ExtendedType a fs) h = tt

-- what crosses it
abbrev KnownWell : Known → Type 0
KnownWell (Maker a) = Unit {0}
KnownWell (RecordMaker ks) = Unit {0}
KnownWell (OutPort x p) = HasFields p
KnownWell (InPort x p) = HasFields p

payload_well : (t : Annotation) → HasRecords t → HasFields (payload_or_int (payload_of t))
payload_well t h = by (payload_of t) refl
  where
    by : (o : Option Payload) → payload_of t ≡ o → HasFields (payload_or_int o)
    by None e = tt
    by (Some p) e = has_fields t p h e

known_well : (x : Name) (f : PortForm) → FormWell f → KnownWell (known_by x f)
known_well x (Outgoing t) h = payload_well t h
known_well x (Incoming t) h = payload_well t h
known_well x NoPort h = tt
known_well x Untold h = tt

-- ---- all items

abbrev ItemWell : Item → Type 0
ItemWell (PortItem r k) = KnownWell k
ItemWell (ValueItem m) = Unit {0}

module _ (w : World) (names : NamesHaveRecords w) where
  item_well : (before : Option Annotation) (d : tree.Declaration) → AreSpelledDeclarations (d ∷ []) →
      declaration_faults w d ≡ [] → ItemWell (item_of w before d)
  item_well before (tree.Value d) s none = tt
  item_well before (tree.Port x t) s none =
      known_well (name_of x) (port_form (type_of w t))
      (form_well (type_of w t) (any_written_well w t names s.0.1
      (append_none (flat_map (faults_at w) (type_sites w t)) (form_faults x (port_form (type_of w t))) none).0))
  item_well before (tree.Union x ps cs) s none = tt
  item_well before (tree.Alias x ps t) s none = tt

  pub items_well : (before : Option Annotation) (ds : List tree.Declaration) → AreSpelledDeclarations ds →
      flat_map (declaration_faults w) ds ≡ [] → (i : ℕ) →
      ItemWell (slice_index_or (items_of w before ds) i (ValueItem NoMade))
  items_well before [] s none i = tt
  items_well before (d ∷ ds) s none zero =
      item_well before d (s.0, tt) (append_none (declaration_faults w d) (flat_map (declaration_faults w) ds) none).0
  items_well before (d ∷ ds) s none (suc i) =
      items_well (annotation_by w d) ds s.1
      (append_none (declaration_faults w d) (flat_map (declaration_faults w) ds) none).1 i

-- ---- groups

pub ports_more : (xs ys : List Declaration) → PortsHaveFields xs → PortsHaveFields ys → PortsHaveFields (xs ++ ys)
ports_more [] ys p q = q
ports_more (Given r (Maker a) ∷ xs) ys p q = ports_more xs ys p q
ports_more (Given r (RecordMaker ks) ∷ xs) ys p q = ports_more xs ys p q
ports_more (Given r (OutPort x t) ∷ xs) ys p q = (p.0, ports_more xs ys p.1 q)
ports_more (Given r (InPort x t) ∷ xs) ys p q = (p.0, ports_more xs ys p.1 q)
ports_more (Define g ∷ xs) ys p q = ports_more xs ys p q

defined_ports : (gs : List Group) → PortsHaveFields (map Define gs)
defined_ports [] = tt
defined_ports (g ∷ gs) = defined_ports gs

one_given : (r : Ref) (k : Known) → KnownWell k → PortsHaveFields (Given r k ∷ [])
one_given r (Maker a) h = tt
one_given r (RecordMaker ks) h = tt
one_given r (OutPort x t) h = (h, tt)
one_given r (InPort x t) h = (h, tt)

abbrev AllWell : List Item → Type 0
AllWell [] = Unit {0}
AllWell (i ∷ is) = ItemWell i × AllWell is

grouped_well : (items : List Item) → AllWell items → PortsHaveFields (grouped items)
grouped_well [] h = defined_ports (group_of [])
grouped_well (PortItem r k ∷ []) h = one_given r k h.0
grouped_well (PortItem r k ∷ i ∷ is) h = defined_ports (group_of (map made_by (PortItem r k ∷ i ∷ is)))
grouped_well (ValueItem m ∷ is) h = defined_ports (group_of (map made_by (ValueItem m ∷ is)))

module _ (items : List Item) (h : (i : ℕ) → ItemWell (slice_index_or items i (ValueItem NoMade))) where
  at_well : (places : List ℕ) → AllWell (items_at items places)
  at_well [] = tt
  at_well (i ∷ is) = (h i, at_well is)

  pub groups_well : (groups : List (List ℕ)) →
      PortsHaveFields (flat_map (λ places. grouped (items_at items places)) groups)
  groups_well [] = tt
  groups_well (g ∷ groups) =
      ports_more (grouped (items_at items g)) (flat_map (λ places. grouped (items_at items places)) groups)
      (grouped_well (items_at items g) (at_well g)) (groups_well groups)

-- ---- constructors, which are no ports

abbrev NoPorts : List Declaration → Type 0
NoPorts [] = Unit {0}
NoPorts (Given r (Maker a) ∷ ds) = NoPorts ds
NoPorts (Given r (RecordMaker ks) ∷ ds) = NoPorts ds
NoPorts (Given r (OutPort x t) ∷ ds) = ⊥
NoPorts (Given r (InPort x t) ∷ ds) = ⊥
NoPorts (Define g ∷ ds) = NoPorts ds

no_more : (xs ys : List Declaration) → NoPorts xs → NoPorts ys → NoPorts (xs ++ ys)
no_more [] ys p q = q
no_more (Given r (Maker a) ∷ xs) ys p q = no_more xs ys p q
no_more (Given r (RecordMaker ks) ∷ xs) ys p q = no_more xs ys p q
no_more (Given r (OutPort x t) ∷ xs) ys p q = absurd p
no_more (Given r (InPort x t) ∷ xs) ys p q = absurd p
no_more (Define g ∷ xs) ys p q = no_more xs ys p q

made_no_ports : (home : Name) (cs : List Alternative) → NoPorts (map (maker_of home) cs)
made_no_ports home [] = tt
made_no_ports home (c ∷ cs) = made_no_ports home cs

record_no_ports : (home : Name) (x : Word) (t : TypeTree) → NoPorts (record_maker home x t)
record_no_ports home x (tree.TypeVariable a) = tt
record_no_ports home x (tree.TypeName y ts) = tt
record_no_ports home x (tree.FunctionType ts) = tt
record_no_ports home x (tree.TupleType ts) = tt
record_no_ports home x (tree.RecordType fs) = tt
record_no_ports home x (tree.ExtendedType a fs) = tt

pub makers_no_ports : (home : Name) (ds : List tree.Declaration) → NoPorts (flat_map (makers_in home) ds)
makers_no_ports home [] = tt
makers_no_ports home (tree.Value d ∷ ds) = makers_no_ports home ds
makers_no_ports home (tree.Port x t ∷ ds) = makers_no_ports home ds
makers_no_ports home (tree.Union x ps cs ∷ ds) =
    no_more (makers_in home (tree.Union x ps cs)) (flat_map (makers_in home) ds)
    (made_no_ports home (alternatives_of home (name_of x) cs))
    (makers_no_ports home ds)
makers_no_ports home (tree.Alias x ps t ∷ ds) =
    no_more (record_maker home x t) (flat_map (makers_in home) ds) (record_no_ports home x t) (makers_no_ports home ds)

pub no_ports_well : (ds : List Declaration) → NoPorts ds → PortsHaveFields ds
no_ports_well [] h = tt
no_ports_well (Given r (Maker a) ∷ ds) h = no_ports_well ds h
no_ports_well (Given r (RecordMaker ks) ∷ ds) h = no_ports_well ds h
no_ports_well (Given r (OutPort x t) ∷ ds) h = absurd h
no_ports_well (Given r (InPort x t) ∷ ds) h = absurd h
no_ports_well (Define g ∷ ds) h = no_ports_well ds h

-- ---- names of ports

-- each incoming port has the name that it has in the module
abbrev pub OwnPorts : Name → List Declaration → Type 0
OwnPorts home [] = Unit {0}
OwnPorts home (Given r (Maker a) ∷ ds) = OwnPorts home ds
OwnPorts home (Given r (RecordMaker ks) ∷ ds) = OwnPorts home ds
OwnPorts home (Given r (OutPort x t) ∷ ds) = OwnPorts home ds
OwnPorts home (Given r (InPort x t) ∷ ds) = (r ≡ Top home x) × OwnPorts home ds
OwnPorts home (Define g ∷ ds) = OwnPorts home ds

own_more : (home : Name) (xs ys : List Declaration) → OwnPorts home xs → OwnPorts home ys → OwnPorts home (xs ++ ys)
own_more home [] ys p q = q
own_more home (Given r (Maker a) ∷ xs) ys p q = own_more home xs ys p q
own_more home (Given r (RecordMaker ks) ∷ xs) ys p q = own_more home xs ys p q
own_more home (Given r (OutPort x t) ∷ xs) ys p q = own_more home xs ys p q
own_more home (Given r (InPort x t) ∷ xs) ys p q = (p.0, own_more home xs ys p.1 q)
own_more home (Define g ∷ xs) ys p q = own_more home xs ys p q

own_none : (home : Name) (ds : List Declaration) → NoPorts ds → OwnPorts home ds
own_none home [] h = tt
own_none home (Given r (Maker a) ∷ ds) h = own_none home ds h
own_none home (Given r (RecordMaker ks) ∷ ds) h = own_none home ds h
own_none home (Given r (OutPort x t) ∷ ds) h = absurd h
own_none home (Given r (InPort x t) ∷ ds) h = absurd h
own_none home (Define g ∷ ds) h = own_none home ds h

defined_own : (home : Name) (gs : List Group) → OwnPorts home (map Define gs)
defined_own home [] = tt
defined_own home (g ∷ gs) = defined_own home gs

abbrev ItemOwn : Name → Item → Type 0
ItemOwn home (PortItem r k) = OwnPorts home (Given r k ∷ [])
ItemOwn home (ValueItem m) = Unit {0}

known_own : (home x : Name) (f : PortForm) → OwnPorts home (Given (Top home x) (known_by x f) ∷ [])
known_own home x (Outgoing t) = tt
known_own home x (Incoming t) = (refl, tt)
known_own home x NoPort = tt
known_own home x Untold = tt

items_own : (w : World) (before : Option Annotation) (ds : List tree.Declaration) (i : ℕ) →
    ItemOwn w.name (slice_index_or (items_of w before ds) i (ValueItem NoMade))
items_own w before [] i = tt
items_own w before (tree.Value d ∷ ds) zero = tt
items_own w before (tree.Port x t ∷ ds) zero = known_own w.name (name_of x) (port_form (type_of w t))
items_own w before (tree.Union x ps cs ∷ ds) zero = tt
items_own w before (tree.Alias x ps t ∷ ds) zero = tt
items_own w before (d ∷ ds) (suc i) = items_own w (annotation_by w d) ds i

grouped_own : (home : Name) (items : List Item) → ((i : ℕ) → ItemOwn home (slice_index_or items i (ValueItem NoMade))) →
    (places : List ℕ) → OwnPorts home (grouped (items_at items places))
grouped_own home items h [] = defined_own home (group_of [])
grouped_own home items h (p ∷ q ∷ places) = by (slice_index_or items p (ValueItem NoMade))
  where
    by : (i : Item) → OwnPorts home (grouped (i ∷ items_at items (q ∷ places)))
    by (PortItem r k) = defined_own home (group_of (map made_by (PortItem r k ∷ items_at items (q ∷ places))))
    by (ValueItem m) = defined_own home (group_of (map made_by (ValueItem m ∷ items_at items (q ∷ places))))
grouped_own home items h (p ∷ []) = by (slice_index_or items p (ValueItem NoMade)) (h p)
  where
    by : (i : Item) → ItemOwn home i → OwnPorts home (grouped (i ∷ []))
    by (PortItem r k) o = o
    by (ValueItem m) o = defined_own home (group_of (m ∷ []))

groups_own : (home : Name) (items : List Item) → ((i : ℕ) → ItemOwn home (slice_index_or items i (ValueItem NoMade))) →
    (groups : List (List ℕ)) → OwnPorts home (flat_map (λ places. grouped (items_at items places)) groups)
groups_own home items h [] = tt
groups_own home items h (g ∷ groups) =
    own_more home (grouped (items_at items g)) (flat_map (λ places. grouped (items_at items places)) groups)
    (grouped_own home items h g) (groups_own home items h groups)

pub ports_own : (w : World) (ds : List tree.Declaration) (groups : List (List ℕ)) → OwnPorts w.name
    (flat_map (makers_in w.name) ds ++ flat_map (λ places. grouped (items_at (items_of w None ds) places)) groups)
ports_own w ds groups =
    own_more w.name (flat_map (makers_in w.name) ds)
    (flat_map (λ places. grouped (items_at (items_of w None ds) places)) groups)
    (own_none w.name (flat_map (makers_in w.name) ds) (makers_no_ports w.name ds))
    (groups_own w.name (items_of w None ds) (items_own w None ds) groups)

-- ---- each once, since each is a new name

-- a name that is in scope is no port that is declared later
module _ (home x : Name) where
  none_later : (ds : List Declaration) (scope : Scope) → IsIn (Top home x) scope → OwnPorts home ds →
      ProperDeclarations scope ds → list_any (same_name x) (in_ports ds) ≡ false
  none_later [] scope i o p = refl
  none_later (Given r (Maker a) ∷ ds) scope i o p =
      none_later ds (r ∷ scope) (in_more (Top home x) (r ∷ []) scope i) o p.1
  none_later (Given r (RecordMaker ks) ∷ ds) scope i o p =
      none_later ds (r ∷ scope) (in_more (Top home x) (r ∷ []) scope i) o p.1
  none_later (Given r (OutPort y t) ∷ ds) scope i o p =
      none_later ds (r ∷ scope) (in_more (Top home x) (r ∷ []) scope i) o p.1
  none_later (Given r (InPort y t) ∷ ds) scope i o p =
      by (same_name x y) refl (none_later ds (r ∷ scope) (in_more (Top home x) (r ∷ []) scope i) o.1 p.1)
    where
      by : (b : Bool) → same_name x y ≡ b → list_any (same_name x) (in_ports ds) ≡ false →
          (b || list_any (same_name x) (in_ports ds)) ≡ false
      by true is rest =
          absurd (false≢true (sym p.0.1.0 ∙ ap (λ z. among z scope) (o.0 ∙ ap (Top home) (sym (one_name x y is))) ∙ i))
      by false is rest = rest
  none_later (Define g ∷ ds) scope i o p =
      none_later ds (with_all (declared_names (Define g)) scope)
      (in_more (Top home x) (declared_names (Define g)) scope i) o p.1

pub once : (home : Name) (ds : List Declaration) (scope : Scope) → OwnPorts home ds → ProperDeclarations scope ds →
    are_fields (in_ports ds) ≡ true
once home [] scope o p = refl
once home (Given r (Maker a) ∷ ds) scope o p = once home ds (r ∷ scope) o p.1
once home (Given r (RecordMaker ks) ∷ ds) scope o p = once home ds (r ∷ scope) o p.1
once home (Given r (OutPort x t) ∷ ds) scope o p = once home ds (r ∷ scope) o p.1
once home (Given r (InPort x t) ∷ ds) scope o p =
    ap (λ b. b && (not (list_any (same_name x) (in_ports ds)) && are_fields (in_ports ds))) p.0.1.1
    ∙ ap (λ b. not b && are_fields (in_ports ds))
    (none_later home x ds (r ∷ scope)
    (subst (λ z. IsIn z (r ∷ scope)) o.0 (in_first r scope)) o.1 p.1)
    ∙ once home ds (r ∷ scope) o.1 p.1
once home (Define g ∷ ds) scope o p = once home ds (with_all (declared_names (Define g)) scope) o p.1
