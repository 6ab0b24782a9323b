-- The example is a typed program.
use Rattle.std.proofs.Common.{◌≡◌, ℕ, zero, suc, pos, List, [], ◌∷◌, ◌++◌, length, Bool, true, false, Some, None, ◌⊎◌, inl, inr, refl, sym, subst, ◌∙◌, arith}
use Rattle.std.specs.Prelude.{codes, ◌||◌, if◌then◌else◌}
use Rattle.std.specs.List.{AllByRecursion}
use Rattle.std.specs.Str.{bytes_eq}
use Rattle.std.proofs.lemmas.Slice.Eq.{bytes_eq-Decides}
use Rattle.elm_canon.specs.Names.{Name}
use Rattle.elm_canon.specs.declared.reference.Ref.{Ref}
use Rattle.elm_canon.specs.declared.reference.Ref.TheVariants.{Local, Top}
use Rattle.elm_canon.specs.declared.unions.Tag.TheVariants.{Number}
use Rattle.elm_meaning.specs.Functions.{BitNot}
use Rattle.elm_meaning.specs.Seen.{same_kind}
use Rattle.elm_type.specs.Types.{Scheme, Free, variable, variables}
use Rattle.elm_type.specs.Classes.{Ground, meets}
use Rattle.elm_base.specs.declared.position.Pos.{Pos}
use Rattle.elm_type.specs.Ground.{is_ground, fits, value}
use Rattle.decl_groups.specs.InOrder.{ordered_groups}
use Rattle.type_items.specs.Scopes.{Entry, Instance, Known, Scope, entry_of}
use Rattle.elm_canon.specs.Names.{same_ref}
use Rattle.elm_canon.specs.Tree.{IntPayload, Payload, Anything, Named, NoPattern, MorePattern}
use Rattle.elm_type.specs.Types.{int_type, kind_at}
use Rattle.elm_type.specs.declared.class.Class.TheVariants as class
use Rattle.type_items.specs.Expressions.{definitions}
use Rattle.type_items.specs.Definitions.{Definition, group_items, general}
use Rattle.type_items.specs.Modules.{known_in, module_scope, module_definitions, module_items}
use Rattle.type_items.specs.Items.{Place, child, at, Wanted, Item, Same, InClass, Small}
use Rattle.type_items.specs.Solutions.{Values, Solves}
use Rattle.type_items.specs.Principal.{HasType, IsInstance, IsPrincipal, unscoped}
use Rattle.type_items.specs.Faults.{Typable, IsSmall}
use Rattle.type_items.specs.Inferred.{Schemes, Inferred}
use Rattle.typed_values.specs.Frames.{Frame, Stands, Chosen, ground_instance}
use Rattle.typed_values.specs.World.{KnownIn, Constructor, Among, IsOneOf, is_negative, IsSound}
use Rattle.typed_values.specs.Payloads.{cmd_type, sub_type}
use Rattle.typed_values.specs.Simple.{defines, AreParameters, SimpleGroups}
use Rattle.typed_values.specs.Sample.{truth_maker, just_maker, nothing_maker, send_maker, listen_maker, batch_maker, maker_scheme, is_at, sample_frame}
use Rattle.typed_values.proofs.Keeping.{and_left, and_right, and_both}
use Rattle.typed_values.proofs.Rows.{extend_none}
use Rattle.typed_values.proofs.SampleFrame.{sample_stands}
use Rattle.typed_values.proofs.Names.{not_both}
use Rattle.typed_values.proofs.SampleWorld.{Fine, fine_none, MadeIn, KnowsCore, sound_with}
use Rattle.type_safety.specs.Modules.{scope_after, groups_in}
use Rattle.type_safety.proofs.Lets.{solves_copied}
use Rattle.program_safety.specs.Parts.{IsPart, IsOf, IsNotOf, IsInstanceOf, Tells, bound_with, primitive_names}
use Rattle.program_safety.specs.Told.{IsVariable, IsToldAs}
use Rattle.program_safety.proofs.Told.{names_tell}
use Rattle.program_safety.proofs.Primitives.{each_knows}
use Rattle.program_safety.specs.Programs.{IsProgramMaker}
use Rattle.program_safety.specs.Example.{complement, complement_scheme, here, help_name, five, help_declarations, help_module, five_scheme, help_part, ExampleIsInferred, top, tells_main, main_declarations, program_scheme, out_scheme, in_scheme, main_name, main_module, main_part, main_scheme, values, told, world, program_maker, no_programs, ExampleIsTyped}

abbrev scope : Scope
scope = module_scope main_module told

abbrev defs : List Definition
defs = module_definitions main_module

main_solves : Solves values (group_items defs scope (0 ∷ 0 ∷ []))
main_solves = (refl, (refl, (refl, (refl, (refl, (refl, (refl, (refl, (refl, (refl, (refl, (refl, (refl, (refl, (refl, (refl, (refl, (refl, (refl, (refl, (tt, tt)))))))))))))))))))))

-- ---- the world

abbrev others : Name → Name → List Constructor
others m x = no_programs (is_at (codes "Platform") (codes "Program") m x)

alone : (P : Constructor → Type 0) (a : Constructor) → P a → (c : Constructor) → Among c (a ∷ []) → P c
alone P a p c (inl e) = subst P (sym e) p
alone P a p c (inr e) = absurd e

fine_program : Fine (program_maker ∷ [])
fine_program = record {
  counted = alone (λ c. length c.fields ≡ c.alternative.arity) program_maker refl;
  closed = alone (λ c. AllByRecursion (λ t. AllByRecursion (IsOneOf c.arguments) (variables t)) c.fields) program_maker closed_fields;
  told = λ c d m n _. alone (λ c. c ≡ d) program_maker (alone (λ d. program_maker ≡ d) program_maker refl d n) c m;
  alike = λ c d m n. alone (λ c. same_kind c.alternative.tag d.alternative.tag ≡ true) program_maker (alone (λ d. same_kind (Number (pos 0)) d.alternative.tag ≡ true) program_maker refl d n) c m;
  bare = alone (λ c. (same_kind c.alternative.tag (Number (pos 0)) ≡ true) ⊎ (c.fields ≡ [])) program_maker (inl refl);
  natural = alone (λ c. is_negative c.alternative.tag ≡ false) program_maker refl;
}
  where
    first : IsOneOf (0 ∷ 1 ∷ 2 ∷ []) (Free 0)
    first = inl refl

    second : IsOneOf (0 ∷ 1 ∷ 2 ∷ []) (Free 1)
    second = inr (inl refl)

    third : IsOneOf (0 ∷ 1 ∷ 2 ∷ []) (Free 2)
    third = inr (inr (inl refl))

    closed_fields : AllByRecursion (λ t. AllByRecursion (IsOneOf program_maker.arguments) (variables t)) program_maker.fields
    closed_fields = ((first, (second, (third, (second, (third, (third, (second, (second, (third, tt))))))))), tt)

fine_others : (m x : Name) → Fine (others m x)
fine_others m x = go (is_at (codes "Platform") (codes "Program") m x)
  where
    go : (b : Bool) → Fine (no_programs b)
    go true = fine_program
    go false = fine_none

-- what a scope of the world knows
each_known : (P : Known → Type 0) → P (known_in main_module told) → P (known_in help_module told) → P told → (k : Known) → KnownIn world k → P k
each_known P one two other k is = subst P (sym is.1) (go (bytes_eq is.0 main_name) (bytes_eq is.0 help_name))
  where
    go : (a b : Bool) → P (if a then known_in main_module told else (if b then known_in help_module told else told))
    go true b = one
    go false true = two
    go false false = other

bools : (k : Known) → MadeIn k (codes "Basics") (codes "Bool") (truth_maker true) → MadeIn k (codes "Basics") (codes "Bool") (truth_maker false) → (b : Bool) → MadeIn k (codes "Basics") (codes "Bool") (truth_maker b)
bools k t f true = t
bools k t f false = f

core_main : KnowsCore others fine_others (known_in main_module told)
core_main = record {
  bools = bools (known_in main_module told) (maker_scheme (codes "Basics") (codes "Bool") (truth_maker true), refl, refl) (maker_scheme (codes "Basics") (codes "Bool") (truth_maker false), refl, refl);
  just = (maker_scheme (codes "Maybe") (codes "Maybe") just_maker, refl, refl);
  nothing = (maker_scheme (codes "Maybe") (codes "Maybe") nothing_maker, refl, refl);
  send = (maker_scheme (codes "Platform.Cmd") (codes "Cmd") send_maker, refl, refl);
  commands = (maker_scheme (codes "Platform.Cmd") (codes "Cmd") (batch_maker (cmd_type (variable (Free 0)))), refl, refl);
  listen = (maker_scheme (codes "Platform.Sub") (codes "Sub") listen_maker, refl, refl);
  subscriptions = (maker_scheme (codes "Platform.Sub") (codes "Sub") (batch_maker (sub_type (variable (Free 0)))), refl, refl);
}

core_help : KnowsCore others fine_others (known_in help_module told)
core_help = record {
  bools = bools (known_in help_module told) (maker_scheme (codes "Basics") (codes "Bool") (truth_maker true), refl, refl) (maker_scheme (codes "Basics") (codes "Bool") (truth_maker false), refl, refl);
  just = (maker_scheme (codes "Maybe") (codes "Maybe") just_maker, refl, refl);
  nothing = (maker_scheme (codes "Maybe") (codes "Maybe") nothing_maker, refl, refl);
  send = (maker_scheme (codes "Platform.Cmd") (codes "Cmd") send_maker, refl, refl);
  commands = (maker_scheme (codes "Platform.Cmd") (codes "Cmd") (batch_maker (cmd_type (variable (Free 0)))), refl, refl);
  listen = (maker_scheme (codes "Platform.Sub") (codes "Sub") listen_maker, refl, refl);
  subscriptions = (maker_scheme (codes "Platform.Sub") (codes "Sub") (batch_maker (sub_type (variable (Free 0)))), refl, refl);
}

core_told : KnowsCore others fine_others told
core_told = record {
  bools = bools told (maker_scheme (codes "Basics") (codes "Bool") (truth_maker true), refl, refl) (maker_scheme (codes "Basics") (codes "Bool") (truth_maker false), refl, refl);
  just = (maker_scheme (codes "Maybe") (codes "Maybe") just_maker, refl, refl);
  nothing = (maker_scheme (codes "Maybe") (codes "Maybe") nothing_maker, refl, refl);
  send = (maker_scheme (codes "Platform.Cmd") (codes "Cmd") send_maker, refl, refl);
  commands = (maker_scheme (codes "Platform.Cmd") (codes "Cmd") (batch_maker (cmd_type (variable (Free 0)))), refl, refl);
  listen = (maker_scheme (codes "Platform.Sub") (codes "Sub") listen_maker, refl, refl);
  subscriptions = (maker_scheme (codes "Platform.Sub") (codes "Sub") (batch_maker (sub_type (variable (Free 0)))), refl, refl);
}

of_name : (m n x y : Name) → is_at n y m x ≡ true → (m ≡ n) × (x ≡ y)
of_name m n x y e = ((bytes_eq-Decides m n).0 (and_left (bytes_eq m n) (bytes_eq x y) e), (bytes_eq-Decides x y).0 (and_right (bytes_eq m n) (bytes_eq x y) e))

program_made : (k : Known) → MadeIn k (codes "Platform") (codes "Program") program_maker → (m x : Name) (c : Constructor) → Among c (others m x) → MadeIn k m x c
program_made k is m x c among = go (is_at (codes "Platform") (codes "Program") m x) refl among
  where
    go : (b : Bool) → is_at (codes "Platform") (codes "Program") m x ≡ b → Among c (no_programs b) → MadeIn k m x c
    go true e here =
        let n = of_name m (codes "Platform") x (codes "Program") e in
        subst (λ z. MadeIn k z x c) (sym n.0) (subst (λ z. MadeIn k (codes "Platform") z c) (sym n.1) (alone (MadeIn k (codes "Platform") (codes "Program")) program_maker is c here))
    go false e here = absurd here

world_is_sound : IsSound world
world_is_sound = sound_with world others refl (record {
  fine = fine_others;
  core = each_known (KnowsCore others fine_others) core_main core_help core_told;
  makes = each_known (λ k. (m x : Name) (c : Constructor) → Among c (others m x) → MadeIn k m x c)
      (program_made (known_in main_module told) (program_scheme, refl, refl)) (program_made (known_in help_module told) (program_scheme, refl, refl))
      (program_made told (program_scheme, refl, refl));
  no_ints = refl;
  no_chars = refl;
  no_texts = refl;
  no_lists = refl;
})

-- ---- what Help tells

abbrev d : Place
d = 1 ∷ 0 ∷ 0 ∷ []

-- what the definition asks, and more
abbrev five_items : List Item → List Item
five_items more =
    Same here (at (child d 1)) (at d) ∷ InClass here (at (child (child d 1) 0)) class.Number ∷ Same here (at (child (child d 1) 0)) (at (child d 1)) ∷ more

five_is_number : (chosen : Values) (more : List Item) → Solves chosen (five_items more) → meets class.Number (value chosen (at d)) ≡ true
five_is_number chosen more h = subst (λ t. meets class.Number t ≡ true) (h.1.1.0 ∙ h.0) h.1.0

abbrev choose : Ground → ℕ → Ground
choose g zero = g
choose g (suc i) = int_type

five_has : (more : List Item) → ((values : Values) → Solves values more) → (g : Ground) → IsInstance five_scheme g → HasType (five_items more) (at d) g
five_has more free g h = record {
  solution = record {
    values = λ p. h.choice 0;
    ground = λ p. h.ground 0;
    solves = (refl, (subst (λ t. meets class.Number t ≡ true) (sym (extend_none (h.choice 0))) (and_left (meets class.Number (h.choice 0)) true (h.kinds 0)), (refl, free (λ p. h.choice 0))));
  };
  has = h.is;
}

five_principal : (more : List Item) → ((values : Values) → Solves values more) → ((values : Values) → Solves values (unscoped more)) → IsPrincipal (1 ∷ []) (five_items more) (at d) five_scheme
five_principal more free unscoped_free = record {
  formed = refl;
  each = λ g. (there g, five_has (unscoped more) unscoped_free g);
  kept = λ g outside. five_has more free g;
}
  where
    there : (g : Ground) → HasType (unscoped (five_items more)) (at d) g → IsInstance five_scheme g
    there g h = record { choice = choose g; ground = ground; kinds = kinds; is = extend_none g }
      where
        ground : (i : ℕ) → is_ground (choose g i) ≡ true
        ground zero = subst (λ t. is_ground t ≡ true) (sym (extend_none (h.solution.values d)) ∙ h.has) (h.solution.ground d)
        ground (suc i) = refl

        kinds : (i : ℕ) → fits (kind_at five_scheme.kinds i) (choose g i) ≡ true
        kinds zero = and_both (meets class.Number g) true (subst (λ t. meets class.Number t ≡ true) h.has (five_is_number h.solution.values (unscoped more) h.solution.solves)) refl
        kinds (suc i) = refl

abbrev small : Item
small = Small here (at d)

help_small : (before after : List Item) (where_is : Pos) (t : Wanted) → five_items (small ∷ []) ≡ before ++ Small where_is t ∷ after → IsSmall (1 ∷ []) before t
help_small [] after where_is t e = absurd cc
help_small (a ∷ []) after where_is t e = absurd cc
help_small (a ∷ b ∷ []) after where_is t e = absurd cc
help_small (a ∷ b ∷ c ∷ []) after where_is t e =
    let first : Same here (at (child d 1)) (at d) ≡ a = cc in
    let second : InClass here (at (child (child d 1) 0)) class.Number ≡ b = cc in
    let third : Same here (at (child (child d 1) 0)) (at (child d 1)) ≡ c = cc in
    let type : at d ≡ t = cc in
    let list : five_items [] ≡ a ∷ b ∷ c ∷ [] = cc in
    record {
      scheme = five_scheme;
      principal = subst (λ t. IsPrincipal (1 ∷ []) (a ∷ b ∷ c ∷ []) t five_scheme) type (subst (λ z. IsPrincipal (1 ∷ []) z (at d) five_scheme) list (five_principal [] (λ values. tt) (λ values. tt)));
      small = omega arith;
    }
help_small (a ∷ b ∷ c ∷ x ∷ before) after where_is t e = absurd (no_more before (let z : [] ≡ before ++ Small where_is t ∷ after = cc in z))
  where
    no_more : (xs : List Item) → [] ≡ xs ++ Small where_is t ∷ after → ⊥
    no_more [] f = cc
    no_more (x ∷ xs) f = cc

help_items : module_items help_module told (1 ∷ []) ≡ five_items (small ∷ [])
unfolding ordered_groups
help_items = refl

help_principal : IsPrincipal (1 ∷ []) (module_items help_module told (1 ∷ [])) (at d) five_scheme
help_principal = subst (λ z. IsPrincipal (1 ∷ []) z (at d) five_scheme) (sym help_items) (five_principal (small ∷ []) (λ values. (tt, tt)) (λ values. (tt, tt)))

help_typable : Typable (1 ∷ []) (module_items help_module told (1 ∷ []))
help_typable = subst (Typable (1 ∷ [])) (sym help_items) (record {
  solution = record { values = λ p. int_type; ground = λ p. refl; solves = (refl, (refl, (refl, (tt, tt)))) };
  small = help_small;
})

-- of a name that Help tells
of_five : (P : Name → Scheme → Type 0) → P (codes "five") five_scheme → (x : Name) (s : Scheme) → told help_name x ≡ Some s → P x s
of_five P h x s is = go (bytes_eq x (codes "five")) refl is
  where
    go : (b : Bool) → bytes_eq x (codes "five") ≡ b → (if b then Some five_scheme else None) ≡ Some s → P x s
    go true e f =
        let n : x ≡ codes "five" = (bytes_eq-Decides x (codes "five")).0 e in
        let same : five_scheme ≡ s = cc in
        subst (λ z. P z s) (sym n) (subst (P (codes "five")) same h)
    go false e f = absurd (let z : None ≡ Some s = f in cc)

-- what inference tells of names
abbrev schemes : Schemes
schemes (Local x) = None
schemes (Top m x) = told m x

help_inferred : Inferred help_module told (1 ∷ []) schemes
unfolding ordered_groups
help_inferred = record {
  typable = help_typable;
  types = (((record { scheme = five_scheme; is = refl; ordered = refl; principal = help_principal }, tt), tt), tt);
}

pub help_is_inferred : ExampleIsInferred
help_is_inferred = record {
  schemes = schemes;
  inferred = help_inferred;
  placed = λ e. (let z : 1 ∷ [] ≡ [] = e in cc);
  titled = tt;
  apart = ((refl, tt), tt);
  closed = of_five (λ x s. AllByRecursion IsVariable (variables s.type)) (tt, tt);
  tells = of_five (IsToldAs told schemes help_part) (record {
    scheme = five_scheme;
    instances = λ f choice stands chosen. (choice, chosen, refl);
    is = inl (refl, refl);
  });
}

-- ---- what Main tells

main_entry : entry_of (scope_after main_module told (0 ∷ [])) (top (codes "main")) ≡ Some (general defs scope (top (codes "main")))
unfolding ordered_groups
main_entry = refl

abbrev frame_of : Frame → Frame
frame_of f = record { values = values; stands = f.stands }

main_tells : (f : Frame) (choice : ℕ → Ground) → Stands f → Chosen main_scheme choice → IsInstanceOf (general defs scope (top (codes "main"))) (ground_instance choice f main_scheme)
main_tells f choice stands chosen = (
  frame_of f,
  0 ∷ 0 ∷ [],
  record { classes = stands.classes; rests = stands.rests },
  solves_copied values (group_items defs scope (0 ∷ 0 ∷ [])) main_solves,
  refl,
)

given_tells : (s : Scheme) (f : Frame) (choice : ℕ → Ground) → Stands f → Chosen s choice → IsInstanceOf (Instance s) (ground_instance choice f s)
given_tells s f choice stands chosen = (f, choice, stands, chosen, refl)

out_entry : entry_of (scope_after main_module told (0 ∷ [])) (top (codes "out")) ≡ Some (Instance out_scheme)
unfolding ordered_groups
out_entry = refl

in_entry : entry_of (scope_after main_module told (0 ∷ [])) (top (codes "inp")) ≡ Some (Instance in_scheme)
unfolding ordered_groups
in_entry = refl

-- of a name that is told with a scheme
abbrev Told : Name → Scheme → Type 0
Told x s =
    (entry : Entry) × (entry_of (scope_after main_module told (0 ∷ [])) (top x) ≡ Some entry)
    × ((f : Frame) (choice : ℕ → Ground) → Stands f → Chosen s choice → IsInstanceOf entry (ground_instance choice f s))

same_told : (x y : Name) (s t : Scheme) → bytes_eq x y ≡ true → Some t ≡ Some s → Told y t → Told x s
same_told x y s t e f h =
    let n : x ≡ y = (bytes_eq-Decides x y).0 e in
    let same : t ≡ s = cc in
    subst (λ z. Told z s) (sym n) (subst (Told y) same h)

name_tells : (x : Name) (s : Scheme) → tells_main x ≡ Some s → Told x s
name_tells x s is = go (bytes_eq x (codes "main")) (bytes_eq x (codes "out")) (bytes_eq x (codes "inp")) refl refl refl is
  where
    go : (a b c : Bool) → bytes_eq x (codes "main") ≡ a → bytes_eq x (codes "out") ≡ b → bytes_eq x (codes "inp") ≡ c
        → (if a then Some main_scheme else (if b then Some out_scheme else (if c then Some in_scheme else None))) ≡ Some s → Told x s
    go true b c e f g h = same_told x (codes "main") s main_scheme e h (general defs scope (top (codes "main")), main_entry, main_tells)
    go false true c e f g h = same_told x (codes "out") s out_scheme f h (Instance out_scheme, out_entry, given_tells out_scheme)
    go false false true e f g h = same_told x (codes "inp") s in_scheme g h (Instance in_scheme, in_entry, given_tells in_scheme)
    go false false false e f g h = absurd (let z : None ≡ Some s = h in cc)

module_tells : (y : Ref) → IsOf main_name y → Tells told main_part y
module_tells (Local x) o = tt
module_tells (Top m x) o = subst (λ z. Tells told main_part (Top z x)) (sym o) (λ s is. name_tells x s is)

-- ---- the program

own_names : (y : Ref) → defines (definitions (groups_in main_declarations)) y ≡ true → IsOf main_name y
own_names (Local x) e = not_both false e refl
own_names (Top m x) e = (bytes_eq-Decides m main_name).0 (and_left (bytes_eq m main_name) (bytes_eq x (codes "main")) (if_true (same_ref (Top m x) (top (codes "main"))) e))
  where
    if_true : (b : Bool) → ((if b then true else false) || false) ≡ true → b ≡ true
    if_true true f = refl
    if_true false f = f

own_five : (y : Ref) → defines (definitions (groups_in help_declarations)) y ≡ true → IsOf help_name y
own_five (Local x) e = not_both false e refl
own_five (Top m x) e = (bytes_eq-Decides m help_name).0 (and_left (bytes_eq m help_name) (bytes_eq x (codes "five")) (if_true (same_ref (Top m x) five) e))
  where
    if_true : (b : Bool) → ((if b then true else false) || false) ≡ true → b ≡ true
    if_true true f = refl
    if_true false f = f

abbrev before : Ref → Bool
before = primitive_names ((complement, BitNot) ∷ [])

before_help : (y : Ref) → before y ≡ true → IsNotOf help_name y
before_help (Local x) e = tt
before_help (Top m x) e = λ is. not_both false (subst (λ z. before (Top z x) ≡ true) is e) refl

before_main : (y : Ref) → bound_with help_declarations before y ≡ true → IsNotOf main_name y
before_main (Local x) e = tt
before_main (Top m x) e = λ is. not_both false (subst (λ z. bound_with help_declarations before (Top z x) ≡ true) is e) refl

anything : AreParameters world (MorePattern Anything NoPattern)
anything = record { takes = (refl, tt); proper = (tt, tt) }

named : (x : Name) → AreParameters world (MorePattern (Named x) NoPattern)
named x = record { takes = (refl, tt); proper = (tt, tt) }

two_named : (x y : Name) → AreParameters world (MorePattern (Named x) (MorePattern (Named y) NoPattern))
two_named x y = record { takes = (refl, (refl, tt)); proper = (tt, (tt, tt)) }

simple_main : SimpleGroups world (groups_in main_declarations)
simple_main = (
  (
    ((program_maker, inl refl, refl, refl), refl),
    (
      (
        (refl, refl),
        (
          (refl, anything, (tt, (tt, ((tt, ((tt, (tt, tt)), tt)), tt)))),
          ((refl, two_named (codes "x") (codes "m"), (tt, (tt, ((tt, (tt, tt)), tt)))), ((refl, anything, (tt, ((refl, named (codes "x"), tt), tt))), tt)),
        ),
      ),
      tt,
    ),
  ),
  tt,
)

one_out : (b : Bool) (t : Payload) → (if b then Some IntPayload else None) ≡ Some t → (b || false) ≡ true
one_out true t e = refl
one_out false t e = absurd (let z : None ≡ Some t = e in cc)

solves_all : Solves values (module_items main_module told (0 ∷ []))
unfolding ordered_groups
solves_all = main_solves

help_solves : Solves help_part.values (module_items help_module told (1 ∷ []))
unfolding ordered_groups
help_solves = (refl, (refl, (refl, (tt, tt))))

main_is_part : IsPart world told (bound_with help_declarations before) main_part
unfolding ordered_groups
main_is_part = record {
  known = (main_name, refl);
  solves = solves_all;
  some = inl (refl, inl (refl, inl (refl, tt)));
  titled = tt;
  apart = ((refl, tt), tt);
  own = own_names;
  others = (refl, (refl, tt));
  given_own = (refl, (refl, tt));
  elsewhere = λ y e. inl (before_main y e);
  given = (
    inr (inr (record { home = main_name; name = codes "out"; scheme = out_scheme; name_is = refl; known_is = refl; is = inl (codes "out", IntPayload, variable (Free 0), refl, refl, tt, refl) })),
    (
      inr (inr (record { home = main_name; name = codes "inp"; scheme = in_scheme; name_is = refl; known_is = refl; is = inr (codes "inp", IntPayload, variable (Free 0), refl, refl, refl) })),
      tt,
    ),
  );
  use_before = ((refl, (refl, (refl, (refl, (refl, (refl, (refl, (refl, tt)))))))), tt);
  earlier = ((refl, (refl, (refl, (refl, (refl, (refl, (refl, (refl, tt)))))))), tt);
  simple = simple_main;
  used = (refl, (refl, (refl, (refl, (refl, (refl, (refl, (refl, tt))))))));
  tells = module_tells;
}

pub main_is_typed : ExampleIsTyped
unfolding ordered_groups
main_is_typed = record {
  sound = world_is_sound;
  worker = record {
    maker = (program_maker, inl refl);
    each = alone IsProgramMaker program_maker (record { tag_is = refl; flags = 0; model = 1; message = 2; arguments_are = refl; fields_are = refl });
  };
  known = ([], refl);
  primitives = (
    record {
      home = codes "Bitwise";
      name = codes "complement";
      scheme = complement_scheme;
      name_is = refl;
      told_is = refl;
      knows = each_knows world BitNot complement_scheme (inl refl);
    },
    tt,
  );
  parts = (
    record {
      known = (help_name, refl);
      solves = help_solves;
      some = inl (refl, tt);
      titled = tt;
      apart = ((refl, tt), tt);
      own = own_five;
      others = tt;
      given_own = tt;
      elsewhere = λ y e. inl (before_help y e);
      given = tt;
      use_before = (tt, tt);
      earlier = (tt, tt);
      simple = (tt, tt);
      used = tt;
      tells = names_tell told help_part help_is_inferred;
    },
    (main_is_part, tt),
  );
  declarations = refl;
  outs = λ port t e. one_out (bytes_eq port (codes "out")) t e;
  ins = λ port t e. e;
  main = record {
    home = main_name;
    name = codes "main";
    scheme = main_scheme;
    name_is = refl;
    is_bound = refl;
    told_is = refl;
    frame = sample_frame;
    choice = λ i. int_type;
    stands = sample_stands;
    chosen = record { kinds = λ i. refl };
    model = int_type;
    message = int_type;
    is = refl;
  };
}
