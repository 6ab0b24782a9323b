-- No two ports of a program that a link makes have one name, so each is found by its name: `ports_apart`, `all_carry`.
use Rattle.std.proofs.Common.{◌≡◌, List, [], ◌∷◌, ◌++◌, Bool, true, false, Option, Some, None, map, refl, sym, ap, ◌∙◌}
use Rattle.std.proofs.Common.{subst, ◌⊎◌, inl, inr, ⊎_elim, if◌then◌else◌}
use Rattle.std.specs.List.{AllByRecursion}
use Rattle.std.proofs.lemmas.Bool.{false≢true}
use Rattle.elm_canon.specs.Names.{Name, same_name}
use Rattle.elm_canon.specs.Tree.{Maker, RecordMaker, OutPort, InPort, Declaration, Given, Define, Payload}
use Rattle.elm_canon.specs.Tree.{PortDeclaration}
use Rattle.elm_canon.specs.declared.reference.Ref.{Ref}
use Rattle.elm_canon.specs.declared.reference.Ref.TheVariants.{Top}
use Rattle.canon_env.proofs.Adding.{one_name}
use Rattle.canon_proper.proofs.Scopes.{name_itself, in_more, in_first, in_later}
use Rattle.elm_canon.specs.Proper.{Scope, IsIn, with_all, group_names}
use Rattle.elm_canon.specs.Declarations.{ProperDeclarations}
use Rattle.link.specs.Fragments.{Port}
use Rattle.link.specs.Made.{port_place}
use Rattle.js_emit.specs.Codecs.{decoder}
use Rattle.js_tree.specs.Text.{js_text}
use Rattle.link.specs.Link.{clash_at, clashes, with_port, first_home}
use Rattle.link.specs.Programs.{Core, Declared, declarations_in}
use Rattle.project_proper.proofs.Ports.{Pair, item_of, placed_of, first_keep, first_new, with_keep, home_known}
use Rattle.project_proper.proofs.Ports.{left_none, right_none}
use Rattle.build_safety.specs.PortWorlds.{outs_of, ins_of, Carries, AllCarry}

-- ---- ports of names that are apart

-- no port of that name
abbrev pub NotPort : Name → Declaration → Type 0
NotPort x (Given r (Maker c)) = Unit {0}
NotPort x (Given r (RecordMaker ks)) = Unit {0}
NotPort x (Given r (OutPort y t)) = same_name y x ≡ false
NotPort x (Given r (InPort y t)) = same_name y x ≡ false
NotPort x (Define g) = Unit {0}

-- no port has the name of one before it
abbrev pub PortsApart : List Declaration → Type 0
PortsApart [] = Unit {0}
PortsApart (Given r (Maker c) ∷ ds) = PortsApart ds
PortsApart (Given r (RecordMaker ks) ∷ ds) = PortsApart ds
PortsApart (Given r (OutPort x t) ∷ ds) = AllByRecursion (NotPort x) ds × PortsApart ds
PortsApart (Given r (InPort x t) ∷ ds) = AllByRecursion (NotPort x) ds × PortsApart ds
PortsApart (Define g ∷ ds) = PortsApart ds

module _ (P Q R : Declaration → Type 0) (both : (d : Declaration) → P d → Q d → R d) where
  each_both : (ds : List Declaration) → AllByRecursion P ds → AllByRecursion Q ds → AllByRecursion R ds
  each_both [] f g = tt
  each_both (d ∷ ds) f g = (both d f.0 g.0, each_both ds f.1 g.1)

abbrev first_or : Bool → Payload → Option Payload → Option Payload
first_or b t rest = if b then Some t else rest

-- what the others carry stays, where a port of another name comes first
after_out : (r : Ref) (x : Name) (t : Payload) (ds : List Declaration) (d : Declaration) →
    Carries (outs_of ds) (ins_of ds) d → NotPort x d →
    Carries (outs_of (Given r (OutPort x t) ∷ ds)) (ins_of (Given r (OutPort x t) ∷ ds)) d
after_out r x t ds (Given q (Maker c)) f g = tt
after_out r x t ds (Given q (RecordMaker ks)) f g = tt
after_out r x t ds (Given q (OutPort y u)) f g = ap (λ b. first_or b t (outs_of ds y)) g ∙ f
after_out r x t ds (Given q (InPort y u)) f g = f
after_out r x t ds (Define h) f g = tt

after_in : (r : Ref) (x : Name) (t : Payload) (ds : List Declaration) (d : Declaration) →
    Carries (outs_of ds) (ins_of ds) d → NotPort x d →
    Carries (outs_of (Given r (InPort x t) ∷ ds)) (ins_of (Given r (InPort x t) ∷ ds)) d
after_in r x t ds (Given q (Maker c)) f g = tt
after_in r x t ds (Given q (RecordMaker ks)) f g = tt
after_in r x t ds (Given q (OutPort y u)) f g = f
after_in r x t ds (Given q (InPort y u)) f g = ap (λ b. first_or b t (ins_of ds y)) g ∙ f
after_in r x t ds (Define h) f g = tt

pub all_carry : (ds : List Declaration) → PortsApart ds → AllCarry ds
all_carry [] h = tt
all_carry (Given r (Maker c) ∷ ds) h = (tt, all_carry ds h)
all_carry (Given r (RecordMaker ks) ∷ ds) h = (tt, all_carry ds h)
all_carry (Given r (OutPort x t) ∷ ds) h = (
  ap (λ b. first_or b t (outs_of ds x)) (name_itself x),
  each_both (Carries (outs_of ds) (ins_of ds)) (NotPort x)
      (Carries (outs_of (Given r (OutPort x t) ∷ ds)) (ins_of (Given r (OutPort x t) ∷ ds))) (after_out r x t ds) ds
      (all_carry ds h.1) h.0,
)
all_carry (Given r (InPort x t) ∷ ds) h = (
  ap (λ b. first_or b t (ins_of ds x)) (name_itself x),
  each_both (Carries (outs_of ds) (ins_of ds)) (NotPort x)
      (Carries (outs_of (Given r (InPort x t) ∷ ds)) (ins_of (Given r (InPort x t) ∷ ds))) (after_in r x t ds) ds
      (all_carry ds h.1) h.0,
)
all_carry (Define g ∷ ds) h = (tt, all_carry ds h)

-- ---- ports of modules

-- a port is declared by its own name
abbrev pub PortNamed : Name → Declaration → Type 0
PortNamed home (Given r (Maker c)) = Unit {0}
PortNamed home (Given r (RecordMaker ks)) = Unit {0}
PortNamed home (Given r (OutPort x t)) = r ≡ Top home x
PortNamed home (Given r (InPort x t)) = r ≡ Top home x
PortNamed home (Define g) = Unit {0}

abbrev pub PairNamed : Pair → Type 0
PairNamed (s, Core p) = Unit {0}
PairNamed (s, Declared ports d) = PortNamed s.tree.name d

abbrev pub pair_declarations : List Pair → List Declaration
pair_declarations ps = declarations_in (map item_of ps)

abbrev out : List PortDeclaration → Name → Port
out ports y = record { name = y; place = port_place ports y; decoder = None }

abbrev in_ : List PortDeclaration → Name → Payload → Port
in_ ports y t = record { name = y; place = port_place ports y; decoder = Some (js_text (decoder t)) }

-- the port of a name that is in scope is no later one
other_port : (before : List (Name × Name)) (home n x y : Name) (r : Ref) (scope : Scope) →
    (first_home before y ≡ None) ⊎ (first_home before y ≡ Some home) → first_home before x ≡ Some n →
    IsIn (Top n x) scope → r ≡ Top home y → (IsIn r scope → ⊥) → same_name y x ≡ false
other_port before home n x y r scope known first there named fresh = by (same_name y x) refl
  where
    clear : y ≡ x → (first_home before y ≡ None) ⊎ (first_home before y ≡ Some home) → ⊥
    clear same (inl e) = let g : None ≡ Some n = sym e ∙ ap (first_home before) same ∙ first in absurd cc
    clear same (inr e) =
        let g : Some home ≡ Some n = sym e ∙ ap (first_home before) same ∙ first in
        let h : home ≡ n = cc in
        fresh
        (subst (λ z. IsIn z scope) (sym (named ∙ ap (λ m. Top m y) h ∙ ap (λ z. Top n z) same)) there)

    by : (b : Bool) → same_name y x ≡ b → b ≡ false
    by true e = absurd (clear (one_name y x e) known)
    by false e = refl

module _ (n x : Name) where
  later_ports : (ps : List Pair) (before : List (Name × Name)) (scope : Scope) → first_home before x ≡ Some n →
      IsIn (Top n x) scope → ProperDeclarations scope (pair_declarations ps) → AllByRecursion PairNamed ps →
      clashes before (map placed_of ps) ≡ [] → AllByRecursion (NotPort x) (pair_declarations ps)
  later_ports [] before scope f i p h e = tt
  later_ports ((s, Core c) ∷ ps) before scope f i p h e = later_ports ps before scope f i p h.1 e
  later_ports ((s, Declared ports (Given r (Maker c))) ∷ ps) before scope f i p h e =
      (tt, later_ports ps before (r ∷ scope) f (in_later (Top n x) r scope i) p.1 h.1 e)
  later_ports ((s, Declared ports (Given r (RecordMaker ks))) ∷ ps) before scope f i p h e =
      (tt, later_ports ps before (r ∷ scope) f (in_later (Top n x) r scope i) p.1 h.1 e)
  later_ports ((s, Declared ports (Define g)) ∷ ps) before scope f i p h e =
      let next = with_all (group_names g) scope in
      (tt, later_ports ps before next f (in_more (Top n x) (group_names g) scope i) p.1 h.1 e)
  later_ports ((s, Declared ports (Given r (OutPort y t))) ∷ ps) before scope f i p h e =
      let d = placed_of (s, Declared ports (Given r (OutPort y t))) in (
        other_port before s.tree.name n x y r scope
            (home_known before d (out ports y) (left_none (clash_at before d d.piece.port) _ e)) f i h.0
            (λ k. false≢true (sym p.0.1.0 ∙ k)),
        later_ports ps (with_port before d.name d.piece.port) (r ∷ scope)
            (with_keep before d.name x n d.piece.port f) (in_later (Top n x) r scope i) p.1 h.1
            (right_none (clash_at before d d.piece.port) _ e),
      )
  later_ports ((s, Declared ports (Given r (InPort y t))) ∷ ps) before scope f i p h e =
      let d = placed_of (s, Declared ports (Given r (InPort y t))) in (
        other_port before s.tree.name n x y r scope
            (home_known before d (in_ ports y t) (left_none (clash_at before d d.piece.port) _ e)) f i h.0
            (λ k. false≢true (sym p.0.1.0 ∙ k)),
        later_ports ps (with_port before d.name d.piece.port) (r ∷ scope)
            (with_keep before d.name x n d.piece.port f) (in_later (Top n x) r scope i) p.1 h.1
            (right_none (clash_at before d d.piece.port) _ e),
      )

-- a port stands with its module
stands : (before : List (Name × Name)) (home y : Name) →
    (first_home before y ≡ None) ⊎ (first_home before y ≡ Some home) →
    first_home (before ++ (home, y) ∷ []) y ≡ Some home
stands before home y known =
    ⊎_elim (first_new before y home) (first_keep before ((home, y) ∷ []) y home) known

here : (r : Ref) (home y : Name) (scope : Scope) → r ≡ Top home y → IsIn (Top home y) (r ∷ scope)
here r home y scope e = subst (λ z. IsIn z (r ∷ scope)) e (in_first r scope)

pub ports_apart : (ps : List Pair) (before : List (Name × Name)) (scope : Scope) →
    ProperDeclarations scope (pair_declarations ps) → AllByRecursion PairNamed ps →
    clashes before (map placed_of ps) ≡ [] → PortsApart (pair_declarations ps)
ports_apart [] before scope p h e = tt
ports_apart ((s, Core c) ∷ ps) before scope p h e = ports_apart ps before scope p h.1 e
ports_apart ((s, Declared ports (Given r (Maker c))) ∷ ps) before scope p h e =
    ports_apart ps before (r ∷ scope) p.1 h.1 e
ports_apart ((s, Declared ports (Given r (RecordMaker ks))) ∷ ps) before scope p h e =
    ports_apart ps before (r ∷ scope) p.1 h.1 e
ports_apart ((s, Declared ports (Define g)) ∷ ps) before scope p h e =
    ports_apart ps before (with_all (group_names g) scope) p.1 h.1 e
ports_apart ((s, Declared ports (Given r (OutPort y t))) ∷ ps) before scope p h e =
    let d = placed_of (s, Declared ports (Given r (OutPort y t))) in
    let next = with_port before d.name d.piece.port in
    let clear = right_none (clash_at before d d.piece.port) _ e in (
      later_ports s.tree.name y ps next (r ∷ scope)
          (stands before s.tree.name y
          (home_known before d (out ports y) (left_none (clash_at before d d.piece.port) _ e)))
          (here r s.tree.name y scope h.0) p.1 h.1 clear,
      ports_apart ps next (r ∷ scope) p.1 h.1 clear,
    )
ports_apart ((s, Declared ports (Given r (InPort y t))) ∷ ps) before scope p h e =
    let d = placed_of (s, Declared ports (Given r (InPort y t))) in
    let next = with_port before d.name d.piece.port in
    let clear = right_none (clash_at before d d.piece.port) _ e in (
      later_ports s.tree.name y ps next (r ∷ scope)
          (stands before s.tree.name y
          (home_known before d (in_ ports y t) (left_none (clash_at before d d.piece.port) _ e)))
          (here r s.tree.name y scope h.0) p.1 h.1 clear,
      ports_apart ps next (r ∷ scope) p.1 h.1 clear,
    )
