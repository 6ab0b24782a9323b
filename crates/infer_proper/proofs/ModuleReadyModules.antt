-- A module that is compiled where everything is sound can be inferred, and what it offers is sound.
use Rattle.std.proofs.Common.{◌≡◌, ℕ, ◌<◌, List, [], ◌∷◌, ◌++◌, map, length, subst}
use Rattle.std.specs.Prelude.{flat_map}
use Rattle.std.specs.List.{AllByRecursion}
use Rattle.elm_tree.specs.Tree as tree
use Rattle.elm_canon.specs.Names.{Name}
use Rattle.elm_canon.specs.Tree as canon
use Rattle.elm_canon.specs.Tree.{UnionDeclaration, AliasDeclaration}
use Rattle.elm_canon.specs.Proper.{Scope}
use Rattle.canon_env.specs.Env.{declared_alternatives}
use Rattle.canon_env.specs.Imports.{exposes_type, exposes_makers}
use Rattle.canon_env.specs.Shown.{Shown}
use Rattle.canon_module.specs.Offers.{exposed_by}
use Rattle.canon_module.specs.Resolve.{Setting, IsModule, module_faults, module_shows}
use Rattle.canon_proper.specs.Rows.{AreConstructors, AreUnions}
use Rattle.canon_proper.proofs.Apart.{in_left, in_right}
use Rattle.module_proper.specs.Modules.{IsAround, AreRead, AreBare, value_refs, maker_refs}
use Rattle.module_proper.proofs.Showing.{offers}
use Rattle.module_proper.specs.Records.{HasRecords, AliasesHaveRecords, ImportsHaveRecords}
use Rattle.module_proper.proofs.PortProperResolved.{shown_well}
use Rattle.interface.specs.Interface.{in_order}
use Rattle.type_items.specs.Modules.{union_makers, alias_makers, declared}
use Rattle.type_items.specs.Inferred.{Schemes}
use Rattle.infer_types.specs.Once.{FieldsOnce}
use Rattle.infer.specs.Modules.{CanInfer}
use Rattle.infer.specs.Modules.{SchemesWritten}
use Rattle.module_offers.specs.Offers.{module_interface}
use Rattle.module_made.specs.Around.{Around, home_of, setting_of}
use Rattle.module_made.specs.Made.{IsNamed}
use Rattle.infer_proper.specs.Sound.{SoundInterface, AreOpaque, IsSound}
use Rattle.infer_proper.proofs.Lists.{empty, all_first, all_second, all_ordered}
use Rattle.infer_proper.proofs.Scope.{imports_fine, all_records, scope_of, stands}
use Rattle.infer_proper.proofs.Named.{name_is, operators_own, declarations_read}
use Rattle.infer_proper.proofs.Offered.{Once, UnionOnce, AliasOnce, unions_once, aliases_once, offered_written}

pub records_of : (a : Around) (t : tree.Module) → IsSound a → ImportsHaveRecords (setting_of a t).imports
records_of a t sound = all_records (home_of a) (setting_of a t).imports (imports_fine a sound t)

pub around_of : (a : Around) (text : List ℕ) (t : tree.Module) (m : canon.Module) → IsSound a → IsNamed a text t m
    → length text < 4294967296
    → IsAround (home_of a) (setting_of a t).imports t.declarations (scope_of (home_of a) (setting_of a t).imports)
around_of a text t m sound named short =
    stands (home_of a) (setting_of a t).imports (imports_fine a sound t) t.declarations
    (operators_own a text t m named short) (name_is a text t m named short)

-- what names give to inference
abbrev pub Inferable : Type 0
Inferable =
    (s : Setting) (t : tree.Module) (m : canon.Module) (scope : Scope) → IsModule s t.declarations m
    → IsAround s.home s.imports t.declarations scope → AreRead s.home t.declarations → ImportsHaveRecords s.imports
    → module_faults s t m ≡ [] → CanInfer m

pub inferable_of : Inferable → (a : Around) (text : List ℕ) (t : tree.Module) (m : canon.Module) → IsSound a
    → IsNamed a text t m → length text < 4294967296 → CanInfer m
inferable_of law a text t m sound named short =
    law (setting_of a t) t m (scope_of (home_of a) (setting_of a t).imports) named.means.module_is
    (around_of a text t m sound named short) (declarations_read a text t m named short) (records_of a t sound)
    named.named

-- ---- what it offers

all_bare : (us : List UnionDeclaration) → AreOpaque us → AreBare us
all_bare [] h = tt
all_bare (u ∷ us) h = (empty (declared_alternatives u.union) h.0.makers, all_bare us h.1)

abbrev HasOwn : UnionDeclaration → Type 0
HasOwn u = AreConstructors u.union (declared_alternatives u.union)

each_own : (us : List UnionDeclaration) → AreUnions us → AllByRecursion HasOwn us
each_own [] h = tt
each_own (u ∷ us) h = (h.0, each_own us h.1)

all_own : (us : List UnionDeclaration) → AllByRecursion HasOwn us → AreUnions us
all_own [] h = tt
all_own (u ∷ us) h = (h.0, all_own us h.1)

abbrev BodyHas : AliasDeclaration → Type 0
BodyHas d = HasRecords d.body

each_body : (ds : List AliasDeclaration) → AliasesHaveRecords ds → AllByRecursion BodyHas ds
each_body [] h = tt
each_body (d ∷ ds) h = (h.0, each_body ds h.1)

all_bodies : (ds : List AliasDeclaration) → AllByRecursion BodyHas ds → AliasesHaveRecords ds
all_bodies [] h = tt
all_bodies (d ∷ ds) h = (h.0, all_bodies ds h.1)

unions_ordered : (shown : Shown) (m : canon.Module) (told : Schemes) → AreUnions shown.unions
    → AreUnions (module_interface shown m told).unions
unfolding module_interface
unions_ordered shown m told h =
    all_own (in_order (λ (u : UnionDeclaration). u.name) shown.unions)
    (all_ordered HasOwn (λ (u : UnionDeclaration). u.name) shown.unions (each_own shown.unions h))

aliases_ordered : (shown : Shown) (m : canon.Module) (told : Schemes) → AliasesHaveRecords shown.aliases
    → AliasesHaveRecords (module_interface shown m told).aliases
unfolding module_interface
aliases_ordered shown m told h =
    all_bodies (in_order (λ (d : AliasDeclaration). d.name) shown.aliases)
    (all_ordered BodyHas (λ (d : AliasDeclaration). d.name) shown.aliases (each_body shown.aliases h))

-- what names give to the types that a module declares
abbrev pub DeclaredOnce : Type 0
DeclaredOnce =
    (s : Setting) (t : tree.Module) (m : canon.Module) → IsModule s t.declarations m → AreRead s.home t.declarations
    → ImportsHaveRecords s.imports → module_faults s t m ≡ [] → AllByRecursion (λ d. FieldsOnce d.1) (declared m)

module _ (s : Setting) (t : tree.Module) (m : canon.Module) (is : IsModule s t.declarations m)
    (read : AreRead s.home t.declarations) (imports : ImportsHaveRecords s.imports) (none : module_faults s t m ≡ [])
    (given : AreOpaque s.given) where
  abbrev shown : Shown
  shown = module_shows s t m

  shows_unions : AreUnions shown.unions
  shows_unions =
      let values = value_refs s.home t.declarations in
      let makers = maker_refs s.home t.declarations in
      (offers s t m (values ++ makers) is read (all_bare s.given given) (λ r i. in_left r values makers i)
      (λ r i. in_right r values makers i)).unions

  shows_aliases : AliasesHaveRecords shown.aliases
  shows_aliases = shown_well s t m is read none imports

  module _ (once : AllByRecursion Once (declared m)) (told : Schemes) (written : SchemesWritten told) where
    abbrev makers : List (Name × canon.Annotation)
    makers = flat_map (union_makers m.name) m.unions

    abbrev records : List (Name × canon.Annotation)
    records = flat_map alias_makers m.aliases

    abbrev ports : List (Name × canon.Annotation)
    ports = map (λ p. (p.name, p.port_type)) m.ports

    own_makers : AllByRecursion Once makers
    own_makers = all_first Once makers records (all_first Once (makers ++ records) ports once)

    own_records : AllByRecursion Once records
    own_records = all_second Once makers records (all_first Once (makers ++ records) ports once)

    own_ports : AllByRecursion Once ports
    own_ports = all_second Once (makers ++ records) ports once

    made_once : AllByRecursion (UnionOnce s.home) shown.unions
    made_once =
        unions_once s.home (exposes_type (exposed_by t.head.header)) (exposes_makers (exposed_by t.head.header)) s.given
        m.unions given (subst (λ n. AllByRecursion Once (flat_map (union_makers n) m.unions)) is.name own_makers)

    records_once : AllByRecursion AliasOnce shown.aliases
    records_once = aliases_once (exposes_type (exposed_by t.head.header)) m.aliases own_records

    pub interface_sound : SoundInterface s.home (module_interface shown m told)
    interface_sound = record {
      written = offered_written s.home shown m told written own_ports made_once records_once;
      unions = unions_ordered shown m told shows_unions;
      aliases = aliases_ordered shown m told shows_aliases;
    }

pub offer_of : DeclaredOnce → (a : Around) (text : List ℕ) (t : tree.Module) (m : canon.Module) (told : Schemes)
    → IsSound a → IsNamed a text t m → length text < 4294967296 → SchemesWritten told
    → SoundInterface (home_of a) (module_interface (module_shows (setting_of a t) t m) m told)
offer_of law a text t m told sound named short written =
    let s = setting_of a t in
    let read = declarations_read a text t m named short in
    let imports = records_of a t sound in
    interface_sound s t m named.means.module_is read imports named.named sound.given
    (law s t m named.means.module_is read imports named.named) told written
