-- The unions of the core library, as the table says them: `core_unions_meet`.
use Rattle.std.proofs.Common.{◌≡◌, pos, negsuc, List, [], ◌∷◌, Bool, true, false, ◌⊎◌, inl, inr, refl, sym, ap, subst}
use Rattle.std.specs.Prelude.{codes}
use Rattle.std.specs.Str.{bytes_eq}
use Rattle.elm_canon.specs.declared.unions.Tag.TheVariants.{Number, Truth}
use Rattle.elm_meaning.specs.Seen.{same_tag}
use Rattle.typed_values.specs.World.{World, Constructor, Among, IsTruth, IsMaybe, IsJust, IsNothing, IsPorted}
use Rattle.typed_values.specs.World.{IsCarrier, IsBatch, IsListener, IsNode}
use Rattle.typed_values.proofs.Names.{not_both}
use Rattle.program_safety.specs.Programs.{IsWorker, IsProgramMaker}
use Rattle.core_modules.specs.Table.{bool_union, maybe_union, dict_union, cmd_union, sub_union, program_union}
use Rattle.told_modules.specs.Unions.{constructors_of, HasCoreUnions, MeetsCore, CoreUnionsMeet}

-- each of one constructor, and of two
one : (P : Constructor → Type 0) (a : Constructor) → P a → (c : Constructor) → Among c (a ∷ []) → P c
one P a p c (inl e) = subst P (sym e) p
one P a p c (inr e) = absurd e

both : (P : Constructor → Type 0) (a b : Constructor) → P a → P b → (c : Constructor) → Among c (a ∷ b ∷ []) → P c
both P a b p q c (inl e) = subst P (sym e) p
both P a b p q c (inr e) = one P b q c e

-- the second of a list
abbrev first_of : List Constructor → Constructor → Constructor
first_of [] c = c
first_of (a ∷ as_) c = a

abbrev rest_of : List Constructor → List Constructor
rest_of [] = []
rest_of (a ∷ as_) = as_

abbrev blank : Constructor
blank = record {
  alternative = record { name = []; tag = Number (pos 0); arity = 0 };
  fields = [];
  arguments = [];
}

abbrev first : List Constructor → Constructor
first cs = first_of cs blank

abbrev second : List Constructor → Constructor
second cs = first_of (rest_of cs) blank

abbrev bools : List Constructor
bools = constructors_of (codes "Basics") bool_union

abbrev maybes : List Constructor
maybes = constructors_of (codes "Maybe") maybe_union

abbrev dictionaries : List Constructor
dictionaries = constructors_of (codes "Dict") dict_union

abbrev commands : List Constructor
commands = constructors_of (codes "Platform.Cmd") cmd_union

abbrev subscriptions : List Constructor
subscriptions = constructors_of (codes "Platform.Sub") sub_union

abbrev programs : List Constructor
programs = constructors_of (codes "Platform") program_union

module _ (w : World) (h : HasCoreUnions w) where
  -- ---- truth values

  truths : (b : Bool) → (c : Constructor) × IsTruth w b c
  truths true = (first bools, (subst (Among (first bools)) (sym h.bools) (inl refl), refl))
  truths false = (second bools, (subst (Among (second bools)) (sym h.bools) (inr (inl refl)), refl))

  abbrev IsBool : Constructor → Type 0
  IsBool c = (b : Bool) × (c.alternative.tag ≡ Truth b) × (c.arguments ≡ [])

  no_others : (c : Constructor) → Among c (w.unions (codes "Basics") (codes "Bool")) → IsBool c
  no_others c a =
      both IsBool (first bools) (second bools) (true, refl, refl) (false, refl, refl) c
      (subst (Among c) h.bools a)

  -- ---- Maybe

  abbrev IsEither : Constructor → Type 0
  IsEither c = IsJust c ⊎ IsNothing c

  is_maybe : IsMaybe w
  is_maybe = record {
    just = (
      first maybes,
      subst (Among (first maybes)) (sym h.maybes) (inl refl),
      (refl, 0, refl, refl),
    );
    nothing = (
      second maybes,
      subst (Among (second maybes)) (sym h.maybes) (inr (inl refl)),
      (refl, 0, refl, refl),
    );
    others = λ c a. both IsEither (first maybes) (second maybes) (inl (refl, 0, refl, refl))
        (inr (refl, 0, refl, refl)) c (subst (Among c) h.maybes a);
  }

  -- ---- dictionaries

  abbrev NodeIf : Constructor → Type 0
  NodeIf c = c.alternative.tag ≡ Number (negsuc 0) → IsNode (codes "Dict") (codes "Dict") c

  nodes : (c : Constructor) → Among c (w.unions (codes "Dict") (codes "Dict")) → NodeIf c
  nodes c a =
      both NodeIf (first dictionaries) (second dictionaries)
      (λ e. record { color = _; key = _; value = _; is = refl })
      (λ e. absurd (let z : Number (negsuc 1) ≡ Number (negsuc 0) = e in apart z)) c (subst (Among c) h.dictionaries a)
    where
      apart : Number (negsuc 1) ≡ Number (negsuc 0) → ⊥
      apart z = cc

  -- ---- commands and subscriptions

  is_commands : IsPorted w (codes "Platform.Cmd") (codes "Cmd")
  is_commands = record {
    carrier = (
      first commands,
      subst (Among (first commands)) (sym h.commands) (inl refl),
      record { tag_is = refl; other = _; fields_are = refl; message = _; arguments_are = refl },
    );
    others = λ c a. both (λ d. IsCarrier d ⊎ IsBatch (codes "Platform.Cmd") (codes "Cmd") d) (first commands)
        (second commands)
        (inl (record { tag_is = refl; other = _; fields_are = refl; message = _; arguments_are = refl }))
        (inr (record { tag_is = refl; fields_are = refl })) c (subst (Among c) h.commands a);
    listeners = λ e. not_both true refl (ap (λ n. bytes_eq n (codes "Platform.Cmd")) e);
  }

  is_subscriptions : IsPorted w (codes "Platform.Sub") (codes "Sub")
  is_subscriptions = record {
    carrier = (
      first subscriptions,
      subst (Among (first subscriptions)) (sym h.subscriptions) (inl refl),
      record { tag_is = refl; other = _; fields_are = refl; message = _; arguments_are = refl },
    );
    others = λ c a. both (λ d. IsCarrier d ⊎ IsBatch (codes "Platform.Sub") (codes "Sub") d) (first subscriptions)
        (second subscriptions)
        (inl (record { tag_is = refl; other = _; fields_are = refl; message = _; arguments_are = refl }))
        (inr (record { tag_is = refl; fields_are = refl })) c (subst (Among c) h.subscriptions a);
    listeners = λ e c a t. both (λ d. d.alternative.tag ≡ Number (pos 0) → IsListener d) (first subscriptions)
        (second subscriptions) (λ n. (_, _, refl, refl))
        (λ n. not_both true refl (ap (λ tag. same_tag tag (Number (pos 1))) n)) c (subst (Among c) h.subscriptions a) t;
  }

  -- ---- programs

  is_maker : IsProgramMaker (first programs)
  is_maker = record { tag_is = refl; flags = _; model = _; message = _; arguments_are = refl; fields_are = refl }

  is_worker : IsWorker w
  is_worker = record {
    maker = (first programs, subst (Among (first programs)) (sym h.programs) (inl refl));
    each = λ c a. one IsProgramMaker (first programs) is_maker c (subst (Among c) h.programs a);
  }

  pub meets : MeetsCore w
  meets = record {
    truths = truths;
    no_others = no_others;
    maybes = is_maybe;
    nodes = nodes;
    commands = is_commands;
    subscriptions = is_subscriptions;
    worker = is_worker;
  }

pub core_unions_meet : CoreUnionsMeet
core_unions_meet w h = meets w h
