-- Environments that fit a scope in a frame, and another scope in another frame: where what serves a name there serves it
-- here.
use Rattle.std.proofs.Common.{◌≡◌, Bool, false, Some, inl, inr, refl, sym, subst}
use Rattle.elm_canon.specs.Names.{same_ref}
use Rattle.elm_canon.specs.declared.reference.Ref.{Ref}
use Rattle.elm_canon.specs.Tree.{Functions, NoFunction, MoreFunction}
use Rattle.elm_meaning.specs.Values.{Env, Nil, Bind, BindGroup}
use Rattle.elm_type.specs.Classes.{Ground}
use Rattle.type_items.specs.Scopes.{Entry, Scope, entry_of}
use Rattle.typed_values.specs.Frames.{Frame, Agree, Serves}
use Rattle.typed_values.specs.World.{World, KnownIn}
use Rattle.typed_values.specs.Typed.{Stages, Lists, Members, hides, or_named, Has, Fits}
use Rattle.typed_values.proofs.Names.{yes_or_no, not_both, not_or, or_not}
use Rattle.typed_values.proofs.Envs.{Wider, serves_wider, serves_move, fits_known}

-- what serves some entry of the name in the one serves this entry in the other
pub record Carried (S : Scope) (a : Frame) (T : Scope) (g : Frame) (y : Ref) (entry : Entry) : Type 1 where
  pub other : Entry
  pub is : entry_of S y ≡ Some other
  pub serves : (P : Ground → Type 0) → Serves P other S a → Serves P entry T g

pub record Kept (S : Scope) (a : Frame) (T : Scope) (g : Frame) (h : Ref → Bool) (y : Ref) : Type 1 where
  pub shown : h y ≡ false
  pub carried : (entry : Entry) → entry_of T y ≡ Some entry → Carried S a T g y entry

abbrev pub Transfer : (S : Scope) (a : Frame) (T : Scope) (g : Frame) (h k : Ref → Bool) → Type 1
Transfer S a T g h k = (y : Ref) → k y ≡ false → Kept S a T g h y

module _ (S : Scope) (a : Frame) (T : Scope) (g : Frame) where
  transfer_more : (h k : Ref → Bool) (x : Ref) → Transfer S a T g h k → Transfer S a T g (or_named x h) (or_named x k)
  transfer_more h k x t y e =
      let n = not_or (same_ref y x) (k y) e in
      let r = t y n.1 in
      record { shown = or_not (same_ref y x) (h y) n.0 r.shown; carried = r.carried }

  pub transfer_all : (fs : Functions) (h k : Ref → Bool) → Transfer S a T g h k → Transfer S a T g (hides fs h) (hides fs k)
  transfer_all NoFunction h k t = t
  transfer_all (MoreFunction title qs e fs) h k t =
      transfer_all fs (or_named title.name h) (or_named title.name k) (transfer_more h k title.name t)

  pub members_transfer : (w : World) (s : Stages) (fs : Functions) (h k : Ref → Bool) → Transfer S a T g h k → Members w s fs h S a → Members w s fs k T g
  members_transfer w s NoFunction h k t m = tt
  members_transfer w s (MoreFunction title qs e fs) h k t m = (
    (λ n.
        let r = t title.name n in
        let q = m.0 r.shown in
        (q.0, λ entry i. (let c = r.carried entry i in c.serves (Lists w s qs e) (q.1 c.other c.is)))),
    members_transfer w s fs (or_named title.name h) (or_named title.name k) (transfer_more h k title.name t) m.1,
  )

  -- where the other scope is one of the world
  pub fits_carried : (w : World) (env : Env) (h k : Ref → Bool) → KnownIn w T.known → Transfer S a T g h k → Fits w env h S a → Fits w env k T g
  fits_carried w Nil h k known t i = (
    known,
    λ x entry e. elim (yes_or_no (k x)) [
      | inl y ↦ y
      | inr n ↦ (let r = t x n in let c = r.carried entry e in not_both (h x) (i.1 x c.other c.is) r.shown)
    ],
  )
  fits_carried w (Bind x v env) h k known t i = (
    (λ n entry e. let r = t x n in let c = r.carried entry e in c.serves (λ t2. Has w v t2) (i.0 r.shown c.other c.is)),
    fits_carried w env (or_named x h) (or_named x k) known (transfer_more h k x t) i.1,
  )
  fits_carried w (BindGroup fs env) h k known t i = record {
    stages = i.stages;
    members = members_transfer w i.stages fs h k t i.members;
    rest = fits_carried w env (hides fs h) (hides fs k) known (transfer_all fs h k t) i.rest;
    closing = i.closing;
  }

  pub fits_transfer : (w : World) (env : Env) (h k : Ref → Bool) → T.known ≡ S.known → Transfer S a T g h k → Fits w env h S a → Fits w env k T g
  fits_transfer w env h k known t i = fits_carried w env h k (subst (KnownIn w) (sym known) (fits_known w env h S a i)) t i

-- an entry that is the same in both
pub carried_same : (S : Scope) (a : Frame) (T : Scope) (g : Frame) (y : Ref) (entry : Entry) → entry_of S y ≡ Some entry → Agree S a g → Wider S T → Carried S a T g y entry
carried_same S a T g y entry is agree wide =
    record { other = entry; is = is; serves = λ P h. serves_wider P entry S T g wide (serves_move P entry S y a g is agree h) }

pub fits_shown : (w : World) (env : Env) (h k : Ref → Bool) (S : Scope) (a : Frame) → ((y : Ref) → k y ≡ false → h y ≡ false) → Agree S a a → Fits w env h S a → Fits w env k S a
fits_shown w env h k S a less agree =
    fits_transfer S a S a w env h k refl
    (λ y n. record { shown = less y n; carried = λ entry is. record { other = entry; is = is; serves = λ P k. k } })
