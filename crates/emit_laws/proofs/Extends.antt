-- Ends of which the second is the first, or the first was cut off by its fuel.
use Rattle.std.proofs.Common.{◌≡◌, ◌≢◌, Bool, true, false, Option, Some, None, refl}
use Rattle.std.specs.Prelude.{if◌then◌else◌}
use Rattle.runs.specs.Ends.{End, Val, Crashed, OutOfFuel, Unsafe, Stuck, then_do}
use Rattle.elm_canon.specs.declared.unions.Tag.TheVariants.{Number, Truth, Blank}
use Rattle.elm_canon.specs.declared.tree.Connective.{Connective}
use Rattle.elm_canon.specs.declared.tree.Connective.TheVariants.{And, Or}
use Rattle.elm_meaning.specs.Values.{Value, IntV, TextV, TagV, RecordV, CloV, KnownV, WireV, NoValue, MoreValue, Env}
use Rattle.elm_meaning.specs.Match.{on_match}
use Rattle.elm_meaning.specs.Eval.{if_true, left_decides}

pub data Extends {A : Type 0} : End A → End A → Type 0 where
  cut_off : {b : End A} → Extends OutOfFuel b
  same : {a : End A} → Extends a a

-- so an end that is not for want of fuel stays
pub stays : {A : Type 0} {a b : End A} → Extends a b → a ≢ OutOfFuel → b ≡ a
stays cut_off h = absurd (h refl)
stays same h = refl

same_then : {A B : Type 0} (a : End A) {f g : A → End B} → ((x : A) → Extends (f x) (g x)) → Extends (then_do a f) (then_do a g)
same_then (Val x) k = k x
same_then (Crashed t) k = same
same_then OutOfFuel k = same
same_then Unsafe k = same
same_then Stuck k = same

pub then_extends : {A B : Type 0} {a b : End A} {f g : A → End B} → Extends a b → ((x : A) → Extends (f x) (g x)) → Extends (then_do a f) (then_do b g)
then_extends cut_off k = cut_off
then_extends {a = a} same k = same_then a k

-- by a boolean value, and by whether a pattern matched

branch : {A : Type 0} (t : Bool) {a b c d : End A} → Extends a b → Extends c d → Extends (if t then a else c) (if t then b else d)
branch true h k = h
branch false h k = k

pub if_extends : {A : Type 0} (v : Value) {a b c d : End A} → Extends a b → Extends c d → Extends (if_true v a c) (if_true v b d)
if_extends (IntV n) h k = same
if_extends (TextV t) h k = same
if_extends (TagV (Number n) vs) h k = same
if_extends (TagV (Truth t) NoValue) h k = branch t h k
if_extends (TagV (Truth t) (MoreValue v vs)) h k = same
if_extends (TagV Blank vs) h k = same
if_extends (RecordV fs) h k = same
if_extends (CloV env ps e) h k = same
if_extends (KnownV f vs) h k = same
if_extends (WireV w) h k = same

pub left_extends : (op : Connective) (v : Value) {a b : End Value} → Extends a b → Extends (left_decides op v a) (left_decides op v b)
left_extends And v h = if_extends v h same
left_extends Or v h = if_extends v same h

pub match_extends : {A : Type 0} (o : End (Option Env)) {f g : Env → End A} {a b : End A} → ((env : Env) → Extends (f env) (g env)) → Extends a b → Extends (on_match o f a) (on_match o g b)
match_extends (Val (Some env)) k h = k env
match_extends (Val None) k h = h
match_extends (Crashed t) k h = same
match_extends OutOfFuel k h = same
match_extends Unsafe k h = same
match_extends Stuck k h = same
