-- What the parts that wait are, by their shape.
use Rattle.std.proofs.Common.{◌≡◌, ℕ, zero, suc, ℤ, pos, List, [], ◌∷◌, drop, codes, refl, sym, ap, ◌∙◌}
use Rattle.elm_canon.specs.Names.{Name}
use Rattle.js_tree.specs.Tree as js
use Rattle.js_tree.specs.Tree.{Js, JInt, JHelper, JObject, JsList, NoJs, MoreJs, Fields, NoField, MoreField}
use Rattle.js_tree.specs.Postorder.{Tree, Expression, Items, NoItem, Item, ItemsOf, Members, NoMember, Member, MembersOf}
use Rattle.js_tree.specs.Postorder.{items_then, members_then}
use Rattle.js_emit.specs.Names.{part_name, parts_from, fields_js, tagged, two}
use Rattle.js_emit.specs.Parts.{count_items, waiting, added, item_added, field_added}
use Rattle.js_emit.specs.Ends.{object_ended, update_ended}
use Rattle.js_emit.specs.declared.shape.Shape.TheVariants as shape

-- ---- dropped, and as items

pub dropped_waiting : (ks : List Name) (before : Items) (ts : List Tree) → waiting shape.Dropped ks before ts ≡ ts
dropped_waiting ks NoItem ts = refl
dropped_waiting ks (Item before x) ts = dropped_waiting ks before ts

pub items_waiting : (ks : List Name) (before : Items) (ts : List Tree)
    → waiting shape.Items ks before ts ≡ ItemsOf before ∷ ts
items_waiting ks NoItem ts = refl
items_waiting ks (Item before x) ts = ap (λ us. item_added (Expression x ∷ us)) (items_waiting ks before ts)

-- ---- as parts

abbrev part_members : ℤ → Items → Members
part_members k NoItem = Member NoMember (codes "$") (JInt k)
part_members k (Item before x) = Member (part_members k before) (part_name (count_items before)) x

tagged_waiting : (k : ℤ) (ks : List Name) (before : Items) (ts : List Tree)
    → waiting (shape.Tagged k) ks before ts ≡ MembersOf (part_members k before) ∷ ts
tagged_waiting k ks NoItem ts = refl
tagged_waiting k ks (Item before x) ts =
    ap (λ us. added (shape.Tagged k) ks (count_items before) (Expression x ∷ us)) (tagged_waiting k ks before ts)

part_fields : (k : ℤ) (before : Items) (es : JsList)
    → members_then (part_members k before) (parts_from (count_items before) es)
    ≡ MoreField (codes "$") (JInt k) (parts_from 0 (items_then before es))
part_fields k NoItem es = refl
part_fields k (Item before x) es = part_fields k before (MoreJs x es)

pub tagged_ended : (k : ℤ) (ks : List Name) (before : Items) (ts : List Tree)
    → object_ended (waiting (shape.Tagged k) ks before ts) ≡ Expression (tagged k (items_then before NoJs)) ∷ ts
tagged_ended k ks before ts =
    ap object_ended (tagged_waiting k ks before ts)
    ∙ ap (λ fs. Expression (JObject fs) ∷ ts) (part_fields k before NoJs)

-- ---- as fields

abbrev name_member : List Name → Members → Js → Members
name_member [] ms x = ms
name_member (k ∷ ks) ms x = Member ms k x

abbrev tail_of : List Name → List Name
tail_of [] = []
tail_of (k ∷ ks) = ks

drop_tail : (n : ℕ) (ks : List Name) → drop (suc n) ks ≡ tail_of (drop n ks)
drop_tail zero [] = refl
drop_tail zero (k ∷ ks) = refl
drop_tail (suc n) [] = refl
drop_tail (suc n) (k ∷ ks) = drop_tail n ks

field_step : (ks : List Name) (ms : Members) (x : Js) (ts : List Tree)
    → field_added ks (Expression x ∷ MembersOf ms ∷ ts) ≡ MembersOf (name_member ks ms x) ∷ ts
field_step [] ms x ts = refl
field_step (k ∷ ks) ms x ts = refl

name_step : (ks : List Name) (ms : Members) (x : Js) (es : JsList)
    → members_then (name_member ks ms x) (fields_js (tail_of ks) es) ≡ members_then ms (fields_js ks (MoreJs x es))
name_step [] ms x es = refl
name_step (k ∷ ks) ms x es = refl

fields_none : (ks : List Name) → fields_js ks NoJs ≡ NoField
fields_none [] = refl
fields_none (k ∷ ks) = refl

abbrev named_members : List Name → Items → Members
named_members ks NoItem = NoMember
named_members ks (Item before x) = name_member (drop (count_items before) ks) (named_members ks before) x

record_waiting : (ks : List Name) (before : Items) (ts : List Tree)
    → waiting shape.Record ks before ts ≡ MembersOf (named_members ks before) ∷ ts
record_waiting ks NoItem ts = refl
record_waiting ks (Item before x) ts =
    ap (λ us. field_added (drop (count_items before) ks) (Expression x ∷ us)) (record_waiting ks before ts)
    ∙ field_step (drop (count_items before) ks) (named_members ks before) x ts

record_fields : (ks : List Name) (before : Items) (es : JsList)
    → members_then (named_members ks before) (fields_js (drop (count_items before) ks) es)
    ≡ fields_js ks (items_then before es)
record_fields ks NoItem es = refl
record_fields ks (Item before x) es =
    ap (λ ls. members_then (named_members ks (Item before x)) (fields_js ls es)) (drop_tail (count_items before) ks)
    ∙ (name_step (drop (count_items before) ks) (named_members ks before) x es ∙ record_fields ks before (MoreJs x es))

pub record_ended : (ks : List Name) (before : Items) (ts : List Tree)
    → object_ended (waiting shape.Record ks before ts) ≡ Expression (JObject (fields_js ks (items_then before NoJs))) ∷ ts
record_ended ks before ts =
    ap object_ended (record_waiting ks before ts)
    ∙ ap (λ fs. Expression (JObject fs) ∷ ts)
    (ap (members_then (named_members ks before)) (sym (fields_none (drop (count_items before) ks)))
    ∙ record_fields ks before NoJs)

-- ---- as a record and what changes

abbrev first_js : Items → Js → Js
first_js NoItem x = x
first_js (Item before y) x = first_js before y

abbrev rest_js : Items → Js → JsList → JsList
rest_js NoItem x es = es
rest_js (Item before y) x es = rest_js before y (MoreJs x es)

pub some_items : (before : Items) (x : Js) (es : JsList)
    → items_then (Item before x) es ≡ MoreJs (first_js before x) (rest_js before x es)
some_items NoItem x es = refl
some_items (Item before y) x es = some_items before y (MoreJs x es)

abbrev changed : List Name → Items → Js → Members
changed ks NoItem x = NoMember
changed ks (Item before y) x = name_member (drop (count_items before) ks) (changed ks before y) x

update_waiting : (ks : List Name) (before : Items) (x : Js) (ts : List Tree)
    → waiting shape.Update ks (Item before x) ts
    ≡ MembersOf (changed ks before x) ∷ ItemsOf (Item NoItem (first_js before x)) ∷ ts
update_waiting ks NoItem x ts = refl
update_waiting ks (Item before y) x ts =
    ap (λ us. field_added (drop (count_items before) ks) (Expression x ∷ us)) (update_waiting ks before y ts)
    ∙ field_step (drop (count_items before) ks) (changed ks before y) x (ItemsOf (Item NoItem (first_js before y)) ∷ ts)

update_fields : (ks : List Name) (before : Items) (x : Js) (es : JsList)
    → members_then (changed ks before x) (fields_js (drop (count_items before) ks) es)
    ≡ fields_js ks (rest_js before x es)
update_fields ks NoItem x es = refl
update_fields ks (Item before y) x es =
    ap (λ ls. members_then (changed ks (Item before y) x) (fields_js ls es)) (drop_tail (count_items before) ks)
    ∙ (name_step (drop (count_items before) ks) (changed ks before y) x es ∙ update_fields ks before y (MoreJs x es))

abbrev pub updated : List Name → JsList → Js
updated ks NoJs = JInt (pos 0)
updated ks (MoreJs r xs) = JHelper js.Update (two r (JObject (fields_js ks xs)))

pub update_made : (ks : List Name) (before : Items) (x : Js) (ts : List Tree)
    → update_ended (waiting shape.Update ks (Item before x) ts)
    ≡ Expression (updated ks (items_then (Item before x) NoJs)) ∷ ts
update_made ks before x ts =
    ap update_ended (update_waiting ks before x ts)
    ∙ ap (λ e. Expression e ∷ ts)
    (ap (λ fs. JHelper js.Update (two (first_js before x) (JObject fs)))
    (ap (members_then (changed ks before x)) (sym (fields_none (drop (count_items before) ks)))
    ∙ update_fields ks before x NoJs)
    ∙ ap (updated ks) (sym (some_items before x NoJs)))
