-- Fields of records that are read one after the other.
use Rattle.std.proofs.Common.{None, Result, Ok, Err, OnOk, ◌≡◌, ℕ, zero, suc, ◌+◌, ◌-◌, ◌<◌, List, [], ◌∷◌, ◌++◌}
use Rattle.std.proofs.Common.{length, map, take, drop, get_or, refl, sym, ap, ◌∙◌, subst, arith}
use Rattle.std.specs.List.{AllByRecursion}
use Rattle.elm_base.specs.declared.position.Pos.{Pos}
use Rattle.elm_canon.specs.Tree.{Expr}
use Rattle.elm_canon.specs.View.{accessed}
use Rattle.elm_type.specs.Types.{Name, int_type}
use Rattle.type_items.specs.Items.{Place, child, Wanted, at, Same}
use Rattle.type_items.specs.Scopes.{Scope}
use Rattle.type_items.specs.Expressions.{items}
use Rattle.type_constructs.specs.Failing.{Bad}
use Rattle.type_walks.specs.Regions.{Region, none, below, either, Inside, Apart}
use Rattle.type_walks.specs.Links.{Has, Live, Later}
use Rattle.type_walks.specs.Walks.{Earlier}
use Rattle.type_walks.proofs.Regions.{none_inside, apart_none, either_inside}
use Rattle.type_walks.proofs.Linking.{left_inside, right_inside}
use Rattle.type_constructs.proofs.Spots.{Here, Child, Below, Span, In, atoms_apart, atom_inside}
use Rattle.type_constructs.proofs.Chains.{has_still}
use Rattle.infer_steps.specs.Codes.{Code, State}
use Rattle.infer_steps.specs.Ready.{Follows}
use Rattle.infer_steps.specs.Asked.{AsksSame, RefusesSame}
use Rattle.infer_steps.proofs.Stepping.{still_live}
use Rattle.infer_steps.specs.Begun.{Begun, BeginStops}
use Rattle.infer_steps.specs.Operations.{next_two, access_items, access_types}
use Rattle.infer_parts.specs.declared.reads.Field as reads
use Rattle.infer_parts.specs.Steps.{CanWalk, Lists, Saying, one, each_and, Went, Stuck, Opens}
use Rattle.infer_parts.specs.Parts.{listed, operand_of, operand_place, type_at}
use Rattle.infer_parts.specs.Chains.{Field, AccessOpens, IsRead, Reads}
use Rattle.infer_parts.specs.Reading.{field_view, FieldLive, read_of, ReadCloses, ReadStops, BeginsReads, ReadsClose}
use Rattle.infer_parts.specs.Reading.{ReadsStop}
use Rattle.infer_parts.proofs.Going.{plain_step, went_as, stuck_as, closes, goes, sticks, same_inside}
use Rattle.infer_parts.proofs.Going.{zip_at}
use Rattle.infer_parts.proofs.Operating.{begin_stuck}
use Rattle.infer_parts.proofs.Placing.{can_child, can_on, moved, still_there, went_back, stuck_back}
use Rattle.infer_parts.proofs.Placing.{sets_both}

-- ---- a field is read

access_opens : (code : Code) (here : Pos) (x : Name) (o f v : ℕ) (old outside : State)
    → Begun code v next_two (access_items x here) (o ∷ f ∷ []) (access_types x) old outside
    → AccessOpens code here x (f, v) old v outside o
access_opens code here x o f v old outside b = record {
  follows = b.follows;
  gives = λ real a links scope q t real_at set has. (
      let g = b.gives a links scope q t set has in
      record {
        after = g.after;
        step = plain_step real a (next_two q) (access_items x here scope q t) old.store outside.store links g.after
            (b.plain scope q t) g.walk;
        tells = g.tells;
        known = (g.has, has_still g.tells has);
      });
}

pub is_read : (code : Code) (here : Pos) (x : Name) (o f v : ℕ) (old outside inside : State)
    → Live old.depth old.store v
    → Begun code v next_two (access_items x here) (o ∷ f ∷ []) (access_types x) old outside
    → inside ≡ record outside { place = child (child outside.place 0) 0 } → CanWalk code old
    → IsRead code here x (f, v) old v inside o
is_read code here x o f v old outside inside live b at can = record {
  can = can;
  outside = outside;
  follows = b.follows;
  opens = access_opens code here x o f v old outside b;
  live = b.live.1.0;
  wanted_live = still_live old outside v b.follows live;
  inner_live = b.live.0;
  at = at;
}

pub read_can : (code : Code) (here : Pos) (x : Name) (f : Field) (old : State) (w : ℕ) (inside : State) (v : ℕ)
    → IsRead code here x f old w inside v
    → CanWalk code inside
read_can code here x f old w inside v r =
    subst (CanWalk code) (sym r.at)
    (can_child code (moved r.outside (child r.outside.place 0)) 0 (can_child code r.outside 0
    (can_on code old r.outside r.can r.follows)))

-- ---- after the record

-- the type of the field is wanted
abbrev Owned : Type 0
Owned = List Wanted × Wanted

abbrev field_items : Pos → Lists Owned
field_items here scope q ts = Same here (type_at ts.0 1) ts.1 ∷ []

abbrev owner_items : Expr → Pos → Lists Owned
owner_items e here scope q ts = items e scope here (child (child q 0) 0) (type_at ts.0 0)

abbrev nowhere : Place → Region
nowhere q = none

abbrev owner_place : Place → Region
owner_place q = either (next_two q) (operand_place 0 0 q)

owner_apart : (q : Place) → Apart (next_two q) (operand_place 0 0 q)
owner_apart q = atoms_apart q (In Here (Span 1 2)) (In (Child (Child Here 0) 0) Below) refl

next_below : (q : Place) → Inside (next_two q) (below q)
next_below q = atom_inside q (In Here (Span 1 2)) refl

operand_below : (q : Place) → Inside (operand_place 0 0 q) (below q)
operand_below q = atom_inside q (In (Child (Child Here 0) 0) Below) refl

owner_below : (q : Place) → Inside (owner_place q) (below q)
owner_below q = either_inside (next_two q) (operand_place 0 0 q) (below q) (next_below q) (operand_below q)

-- the places of the record
abbrev owner_at : Place → Place
owner_at p = child (child p 0) 0

module _ (code : Code) (here : Pos) (x : Name) (f : Field) (old : State) (w : ℕ) (inside : State) (v : ℕ)
    (r : IsRead code here x f old w inside v)
    (walked : State) (e : Expr) where
  abbrev whole : Lists Wanted
  whole = listed (read_of e x) here

  abbrev types : Scope → Place → Wanted → Owned
  types scope q t = (access_types x scope q t, t)

  abbrev says : Saying Owned
  says = each_and (v ∷ f.0 ∷ []) f.1

  abbrev out : State
  out = moved walked r.outside.place

  abbrev so_far : Lists Wanted
  so_far scope q t = access_items x here scope q t ++ items e scope here (child (child q 0) 0)
      (type_at (access_types x scope q t) 0)

  module _ (went : Went Wanted code (one v) below (listed e here) inside walked) where
    owner_went : Went Wanted code (one v) (operand_place 0 0) (operand_of e here 0 0) r.outside out
    owner_went =
        went_back Wanted code (one v) below (listed e here) owner_at (sets_both code 0 0) r.outside walked
        (subst (λ s. Went Wanted code (one v) below (listed e here) s walked) r.at went)

    owner_opens : Opens Wanted code (one w) owner_place so_far Owned says types old out
    owner_opens =
        goes Wanted Owned code (one w) says types next_two (operand_place 0 0) owner_place (access_items x here)
        (owner_items e here) so_far old r.outside
        r.can.ready owner_apart (λ q. left_inside (next_two q) (operand_place 0 0 q))
        (λ q. right_inside (next_two q) (operand_place 0 0 q))
        (λ links scope q t has. refl) r.opens out
        (went_as Wanted Owned code (one v) says (operand_place 0 0) (operand_place 0 0) (operand_of e here 0 0)
        (owner_items e here) r.outside out
        (λ scope q ts. type_at ts.0 0) (λ links scope q ts has. zip_at (Has links) (v ∷ f.0 ∷ []) ts.0 0 0 int_type
        (omega arith) has.0)
        (λ q. same_inside (operand_place 0 0 q)) (λ links scope q ts has. refl) owner_went)

    pub out_later : Follows r.outside out
    out_later = owner_went.follows

    pub read_closes : (new : State) → AsksSame out new here f.0 f.1 → Went Wanted code (one w) below
        (listed (read_of e x) here) old new
    read_closes new k =
        closes Wanted Owned code (one w) says types owner_place nowhere below so_far (field_items here) whole old out
        r.can.ready
        (λ q. apart_none (owner_place q)) owner_below (λ q. none_inside (below q)) (λ links scope q t has. refl)
        owner_opens new
        (record {
          follows = k.follows;
          step = λ real a links scope q ts real_at set has.
              plain_step real a none (field_items here scope q ts) out.store new.store links links (refl, tt)
              (k.walk a links (type_at ts.0 1) ts.1 set.around.depth set.live
              (zip_at (Has links) (v ∷ f.0 ∷ []) ts.0 1 0 int_type (omega arith) has.0) has.1);
        })

    pub read_unequal : (new : State) (bad : Bad) → RefusesSame out new here f.0 f.1 bad
        → Stuck Wanted code (one w) below (listed (read_of e x) here) old new bad
    read_unequal new bad k =
        sticks Wanted Owned code (one w) says types owner_place nowhere below so_far (field_items here) whole old out
        r.can.ready
        (λ q. apart_none (owner_place q)) owner_below (λ q. none_inside (below q)) (λ links scope q t has. refl)
        owner_opens new bad
        (record {
          fails = λ a links scope q ts e set has.
              k.fails a links none (type_at ts.0 1) ts.1 [] (zip_at (Has links) (v ∷ f.0 ∷ []) ts.0 1 0 int_type
              (omega arith) has.0) has.1;
        })

  abbrev with_field : Lists Owned
  with_field scope q ts = owner_items e here scope q ts ++ field_items here scope q ts

  -- the record stops
  pub read_stuck : (bad : Bad) → Stuck Wanted code (one v) below (listed e here) inside walked bad
      → Stuck Wanted code (one w) below (listed (read_of e x) here) old walked bad
  read_stuck bad stuck =
      sticks Wanted Owned code (one w) says types next_two (operand_place 0 0) below (access_items x here) with_field
      whole old r.outside r.can.ready
      owner_apart next_below operand_below (λ links scope q t has. refl) r.opens walked bad
      (stuck_as Wanted Owned code (one v) says (operand_place 0 0) (operand_place 0 0) (operand_of e here 0 0)
      with_field r.outside walked bad
      (λ scope q ts. type_at ts.0 0) (field_items here) (λ links scope q ts has. zip_at (Has links) (v ∷ f.0 ∷ []) ts.0
      0 0 int_type (omega arith) has.0)
      (λ q. same_inside (operand_place 0 0 q)) (λ links scope q ts has. refl)
      (stuck_back Wanted code (one v) below (listed e here) owner_at (sets_both code 0 0) r.outside walked bad
      (subst (λ s. Stuck Wanted code (one v) below (listed e here) s walked bad) r.at stuck)))

-- what is asked first is bad
pub read_unbegun : (code : Code) (here : Pos) (x : Name) (v : ℕ) (old new : State) (bad : Bad) (e : Expr)
    → BeginStops code v next_two (access_items x here) old new bad → Stuck Wanted code (one v) below
    (listed (read_of e x) here) old new bad
read_unbegun code here x v old new bad e stops =
    stuck_as Wanted Wanted code (one v) (one v) next_two below (access_items x here) (listed (read_of e x) here) old
    new bad (λ scope q t. t)
    (λ scope q t. items e scope here (child (child q 0) 0) (type_at (access_types x scope q t) 0) ++ Same here
    (type_at (access_types x scope q t) 1) t ∷ [])
    (λ links scope q t has. has) next_below (λ links scope q t has. refl) (begin_stuck code v next_two
    (access_items x here) old new bad stops)

-- ---- where the state goes back to

module _ (here : Pos) (f : Field) (walked out new : State) (back : (s : State) (i j : ℕ)
    → walked ≡ record s { place = child (child s.place i) j } → out ≡ s) where
  abbrev gone : {code : Code} {x : Name} {old : State} {w : ℕ} {inside : State} {v : ℕ}
      → IsRead code here x f old w inside v → State
  gone r = moved walked r.outside.place

  pub went_out : (code : Code) (x : Name) (old : State) (w : ℕ) (inside : State) (v : ℕ)
      (r : IsRead code here x f old w inside v)
      → Follows inside walked → out ≡ moved walked r.outside.place
  went_out code x old w inside v r follows =
      back (moved walked r.outside.place) 0 0
      (still_there r.outside walked (child (child r.outside.place 0) 0) (subst (λ s. Follows s walked) r.at follows))

  pub closes_read : AsksSame out new here f.0 f.1 → ReadCloses here f walked new
  closes_read k code x old w inside v e r went =
      read_closes code here x f old w inside v r walked e went new
      (subst (λ s. AsksSame s new here f.0 f.1) (went_out code x old w inside v r went.follows) k)

  pub stops_read : (bad : Bad) → RefusesSame out new here f.0 f.1 bad → ReadStops here f walked new bad
  stops_read bad k code x old w inside v e r went =
      read_unequal code here x f old w inside v r walked e went new bad
      (subst (λ s. RefusesSame s new here f.0 f.1 bad) (went_out code x old w inside v r went.follows) k)

-- what was asked there
pub later_than : (first out new : State) → out.store ≡ first.store → out.depth ≡ first.depth → Follows out new
    → Follows (record first { place = new.place }) new
later_than first out new same_store same_depth f = record {
  place = refl;
  depth = f.depth ∙ same_depth;
  whole = f.whole;
  later = subst (λ s. Later s new.store) same_store f.later;
  back = λ σ h. subst (λ s. Earlier first.depth s σ) same_store (subst (λ d. Earlier d out.store σ) same_depth
      (f.back σ h));
}

-- a scope without names
abbrev pub no_code : Code
no_code = record { known = λ m x. None; names = λ x. None; constants = λ x. None }

-- ---- all of them

pub reads_stuck : (code : Code) (here : Pos) (old : State) (w : ℕ) (xs : List Name) (fs : List Field) (inside : State)
    (v : ℕ) (e : Expr) (new : State) (bad : Bad)
    → Reads code here old w xs fs inside v → Stuck Wanted code (one v) below (listed e here) inside new bad
    → Stuck Wanted code (one w) below (listed (accessed e xs) here) old new bad
reads_stuck code here old w [] fs inside v e new bad h s =
    subst (λ y. Stuck Wanted code (one y) below (listed e here) old new bad) h.1.1
    (subst (λ y. Stuck Wanted code (one v) below (listed e here) y new bad) h.1.0 s)
reads_stuck code here old w (x ∷ xs) fs inside v e new bad h s =
    reads_stuck code here old w xs h.others h.before h.wanted (read_of e x) new bad h.waits
    (read_stuck code here x h.own h.before h.wanted inside v h.opens new e bad s)

-- the fields still wait
pub field_later : (old new : State) (f : Field) → Follows old new → FieldLive old.depth old.store f
    → FieldLive new.depth new.store f
field_later old new f follows l = (still_live old new f.0 follows l.0, still_live old new f.1 follows l.1)

pub fields_later : (old new : State) (fs : List Field) → Follows old new
    → AllByRecursion (FieldLive old.depth old.store) fs
    → AllByRecursion (FieldLive new.depth new.store) fs
fields_later old new [] follows l = tt
fields_later old new (f ∷ fs) follows l = (field_later old new f follows l.0, fields_later old new fs follows l.1)

all_last : {A : Type 0} (P : A → Type 0) (xs : List A) (x : A) → AllByRecursion P xs → P x
    → AllByRecursion P (xs ++ x ∷ [])
all_last P [] x h p = (p, tt)
all_last P (y ∷ ys) x h p = (h.0, all_last P ys x h.1 p)

-- the fields that are read have variables in use
pub reads_live : (code : Code) (here : Pos) (old : State) (w : ℕ) (xs : List Name) (fs : List Field) (inside : State)
    (v : ℕ)
    → Reads code here old w xs fs inside v → AllByRecursion (FieldLive inside.depth inside.store) fs
reads_live code here old w [] fs inside v h = subst (AllByRecursion (FieldLive inside.depth inside.store)) (sym h.0) tt
reads_live code here old w (x ∷ xs) fs inside v h =
    let r = h.opens in
    subst (AllByRecursion (FieldLive inside.depth inside.store)) (sym h.is)
    (subst (λ s. AllByRecursion (FieldLive s.depth s.store) (h.others ++ h.own ∷ [])) (sym r.at)
    (all_last (FieldLive r.outside.depth r.outside.store) h.others h.own
    (fields_later h.before r.outside h.others r.follows (reads_live code here old w xs h.others h.before h.wanted
    h.waits)) (r.live, r.wanted_live)))

-- and what the record is wanted at
pub reads_follow : (code : Code) (here : Pos) (old : State) (w : ℕ) (x : Name) (xs : List Name) (fs : List Field)
    (inside : State) (v : ℕ)
    → Reads code here old w (x ∷ xs) fs inside v → Live inside.depth inside.store v
reads_follow code here old w x xs fs inside v h = subst (λ s. Live s.depth s.store v) (sym h.opens.at)
    h.opens.inner_live

-- ---- they are begun, from the last name on

pub accessed_split : (e : Expr) (xs : List Name) (i : ℕ) (x : Name) → i < length xs → x ≡ get_or xs i x
    → accessed e xs ≡ accessed (read_of (accessed e (take i xs)) x) (drop (suc i) xs)
accessed_split e [] i x l is = absurd (omega (arith, l))
accessed_split e (y ∷ xs) zero x l is = ap (λ z. accessed (read_of e z) xs) (sym is)
accessed_split e (y ∷ xs) (suc i) x l is = accessed_split (read_of e y) xs i x (omega (arith, l)) is

name_split : (xs : List Name) (i : ℕ) (x : Name) → i < length xs → x ≡ get_or xs i x → drop i xs ≡ x ∷ drop (suc i) xs
name_split [] i x l is = absurd (omega (arith, l))
name_split (y ∷ xs) zero x l is = ap (λ z. z ∷ xs) (sym is)
name_split (y ∷ xs) (suc i) x l is = name_split xs i x (omega (arith, l)) is

names_gone : (xs : List Name) (n : ℕ) → length xs ≡ n → drop n xs ≡ []
names_gone [] zero h = refl
names_gone [] (suc n) h = refl
names_gone (p ∷ ps) zero h = absurd (omega (arith, h))
names_gone (p ∷ ps) (suc n) h = names_gone ps n (omega (arith, h))

map_last : (fs : List reads.Field) (f : reads.Field) → map field_view (fs ++ f ∷ []) ≡ map field_view fs ++ field_view
    f ∷ []
map_last [] f = refl
map_last (g ∷ fs) f = ap (λ l. field_view g ∷ l) (map_last fs f)

pub reads_begin : (code : Code) (here : Pos) (xs : List Name) (fs : List reads.Field) (old : State) (w : ℕ)
    → fs ≡ [] → CanWalk code old
    → BeginsReads code here (drop (length xs - 0) xs) (map field_view fs) old w old w
reads_begin code here xs fs old w none_yet can =
    let e : length xs ≡ length xs - 0 = omega arith in
    subst (λ ys. BeginsReads code here ys (map field_view fs) old w old w) (sym (names_gone xs (length xs - 0) e))
    (record { reads = (ap (map field_view) none_yet, (refl, refl)); can = can })

pub reads_next : (code : Code) (here : Pos) (xs : List Name) (fs gs : List reads.Field) (f : reads.Field) (i : ℕ)
    (x : Name) (old : State) (w : ℕ)
    (mid : State) (u : ℕ) (inside : State) (v : ℕ) → i < length xs → x ≡ get_or xs (length xs - 1 - i) x
    → gs ≡ fs ++ f ∷ []
    → BeginsReads code here (drop (length xs - i) xs) (map field_view fs) old w mid u
    → (CanWalk code mid → IsRead code here x (field_view f) mid u inside v)
    → BeginsReads code here (drop (length xs - (i + 1)) xs) (map field_view gs) old w inside v
reads_next code here xs fs gs f i x old w mid u inside v lt is more b read =
    let k = length xs - 1 - i in
    let e : length xs - (i + 1) ≡ length xs - 1 - i = omega arith in
    let s : suc (length xs - 1 - i) ≡ length xs - i = omega arith in
    let m : length xs - 1 - i < length xs = omega arith in
    let names : drop (length xs - (i + 1)) xs ≡ x ∷ drop (length xs - i) xs =
    ap (λ n. drop n xs) e ∙ (name_split xs (length xs - 1 - i) x m is ∙ ap (λ n. x ∷ drop n xs) s) in
    let r = read b.can in
    subst (λ ys. BeginsReads code here ys (map field_view gs) old w inside v) (sym names)
    (record {
      reads = record {
        others = map field_view fs;
        own = field_view f;
        is = ap (map field_view) more ∙ map_last fs f;
        before = mid;
        wanted = u;
        waits = b.reads;
        opens = r;
      };
      can = read_can code here x (field_view f) mid u inside v r;
    })

pub reads_unbegun : (code : Code) (here : Pos) (xs : List Name) (fs : List Field) (i : ℕ) (x : Name) (old : State)
    (w : ℕ) (mid : State) (u : ℕ) (new : State)
    (bad : Bad) (e : Expr) → i < length xs → x ≡ get_or xs (length xs - 1 - i) x
    → BeginsReads code here (drop (length xs - i) xs) fs old w mid u
    → ((d : Expr) → Stuck Wanted code (one u) below (listed (read_of d x) here) mid new bad)
    → Stuck Wanted code (one w) below (listed (accessed e xs) here) old new bad
reads_unbegun code here xs fs i x old w mid u new bad e lt is b stuck =
    let k = length xs - 1 - i in
    let s : suc (length xs - 1 - i) ≡ length xs - i = omega arith in
    let m : length xs - 1 - i < length xs = omega arith in
    let inner = accessed e (take (length xs - 1 - i) xs) in
    subst (λ y. Stuck Wanted code (one w) below (listed y here) old new bad)
    (sym (accessed_split e xs (length xs - 1 - i) x m is ∙ ap (λ n. accessed (read_of inner x) (drop n xs)) s))
    (reads_stuck code here old w (drop (length xs - i) xs) fs mid u (read_of inner x) new bad b.reads (stuck inner))

-- ---- they are ended, from the last one on

-- those that wait, and the expression that was walked so far
pub record Ends (code : Code) (here : Pos) (old : State) (w : ℕ) (rest : List Field) (whole : Expr) (walked : State) :
    Type 0 where
  pub names : List Name
  pub inside : State
  pub variable : ℕ
  pub inner : Expr
  pub waits : Reads code here old w names rest inside variable
  pub went : Went Wanted code (one variable) below (listed inner here) inside walked
  pub is : accessed inner names ≡ whole

abbrev pub Ending : Pos → List Name → List Field → State → List Field → State → Type 0
Ending here xs fs first rest now =
    (code : Code) (old : State) (w : ℕ) (inside : State) (v : ℕ) (e : Expr) → Reads code here old w xs fs inside v
    → Went Wanted code (one v) below (listed e here) inside first → Ends code here old w rest (accessed e xs) now

pub ends_begin : (here : Pos) (xs : List Name) (fs : List Field) (s : State) → Ending here xs fs s fs s
ends_begin here xs fs s code old w inside v e h went = record {
  names = xs;
  inside = inside;
  variable = v;
  inner = e;
  waits = h;
  went = went;
  is = refl;
}

no_last : {A : Type 0} (xs : List A) (x : A) → [] ≡ xs ++ x ∷ [] → ⊥
no_last [] x e = cc
no_last (y ∷ xs) x e = cc

same_last : {A : Type 0} (xs ys : List A) (x y : A) → xs ++ x ∷ [] ≡ ys ++ y ∷ [] → (xs ≡ ys) × (x ≡ y)
same_last [] [] x y e = (refl, cc)
same_last [] (z ∷ ys) x y e = absurd (let t : [] ≡ ys ++ y ∷ [] = cc in no_last ys y t)
same_last (z ∷ xs) [] x y e = absurd (let t : xs ++ x ∷ [] ≡ [] = cc in no_last xs x (sym t))
same_last (z ∷ xs) (u ∷ ys) x y e =
    let t : xs ++ x ∷ [] ≡ ys ++ y ∷ [] = cc in
    let h : z ≡ u = cc in
    let r = same_last xs ys x y t in
    (ap (λ l. z ∷ l) r.0 ∙ ap (λ k. k ∷ ys) h, r.1)

-- one of them
module _ (here : Pos) (f : Field) (rest : List Field) (walked new : State) (code : Code) (old : State) (w : ℕ)
    (whole : Expr) where
  go_ends : (names : List Name) (all : List Field) (inside : State) (v : ℕ) (inner : Expr) → all ≡ rest ++ f ∷ []
      → Reads code here old w names all inside v
      → Went Wanted code (one v) below (listed inner here) inside walked → accessed inner names ≡ whole
      → ReadCloses here f walked new
      → Ends code here old w rest whole new
  go_ends [] all inside v inner is h went same closes_ = absurd (no_last rest f (sym h.0 ∙ is))
  go_ends (x ∷ names) all inside v inner is h went same closes_ =
      let k = same_last h.others rest h.own f (sym h.is ∙ is) in
      let r = subst (λ g. IsRead code here x g h.before h.wanted inside v) k.1 h.opens in
      record {
        names = names;
        inside = h.before;
        variable = h.wanted;
        inner = read_of inner x;
        waits = subst (λ gs. Reads code here old w names gs h.before h.wanted) k.0 h.waits;
        went = closes_ code x h.before h.wanted inside v inner r went;
        is = same;
      }

  go_stuck : (bad : Bad) (names : List Name) (all : List Field) (inside : State) (v : ℕ) (inner : Expr)
      → all ≡ rest ++ f ∷ []
      → Reads code here old w names all inside v → Went Wanted code (one v) below (listed inner here) inside walked
      → accessed inner names ≡ whole
      → ReadStops here f walked new bad → Stuck Wanted code (one w) below (listed whole here) old new bad
  go_stuck bad [] all inside v inner is h went same stops = absurd (no_last rest f (sym h.0 ∙ is))
  go_stuck bad (x ∷ names) all inside v inner is h went same stops =
      let k = same_last h.others rest h.own f (sym h.is ∙ is) in
      let r = subst (λ g. IsRead code here x g h.before h.wanted inside v) k.1 h.opens in
      subst (λ y. Stuck Wanted code (one w) below (listed y here) old new bad) same
      (reads_stuck code here old w names h.others h.before h.wanted (read_of inner x) new bad h.waits
      (stops code x h.before h.wanted inside v inner r went))

-- none is left
ends_whole : (code : Code) (here : Pos) (old : State) (w : ℕ) (names : List Name) (all : List Field) (inside : State)
    (v : ℕ) (inner all_of : Expr) (walked : State)
    → all ≡ [] → Reads code here old w names all inside v → Went Wanted code (one v) below (listed inner here) inside
    walked → accessed inner names ≡ all_of
    → Went Wanted code (one w) below (listed all_of here) old walked
ends_whole code here old w [] all inside v inner all_of walked is h went same =
    subst (λ y. Went Wanted code (one w) below (listed y here) old walked) same
    (subst (λ y. Went Wanted code (one y) below (listed inner here) old walked) h.1.1
    (subst (λ s. Went Wanted code (one v) below (listed inner here) s walked) h.1.0 went))
ends_whole code here old w (x ∷ names) all inside v inner all_of walked is h went same = absurd
    (no_last h.others h.own (sym is ∙ h.is))

pub ends_next : (here : Pos) (xs : List Name) (fs : List Field) (first : State) (all rest : List reads.Field)
    (f : reads.Field) (walked new : State)
    → all ≡ rest ++ f ∷ [] → Ending here xs fs first (map field_view all) walked
    → ReadCloses here (field_view f) walked new
    → Ending here xs fs first (map field_view rest) new
ends_next here xs fs first all rest f walked new is so_far closes_ code old w inside v e h went =
    let d = so_far code old w inside v e h went in
    go_ends here (field_view f) (map field_view rest) walked new code old w (accessed e xs) d.names
    (map field_view all) d.inside d.variable d.inner
    (ap (map field_view) is ∙ map_last rest f) d.waits d.went d.is closes_

pub ends_stuck : (here : Pos) (xs : List Name) (fs : List Field) (first : State) (all rest : List reads.Field)
    (f : reads.Field) (walked new : State) (bad : Bad)
    → all ≡ rest ++ f ∷ [] → Ending here xs fs first (map field_view all) walked
    → ReadStops here (field_view f) walked new bad
    → ReadsStop here xs fs first new bad
ends_stuck here xs fs first all rest f walked new bad is so_far stops code old w inside v e h went =
    let d = so_far code old w inside v e h went in
    go_stuck here (field_view f) (map field_view rest) walked new code old w (accessed e xs) bad d.names
    (map field_view all) d.inside d.variable d.inner
    (ap (map field_view) is ∙ map_last rest f) d.waits d.went d.is stops

pub ends_last : (here : Pos) (xs : List Name) (fs : List Field) (first : State) (all : List reads.Field)
    (walked : State) → all ≡ []
    → Ending here xs fs first (map field_view all) walked → ReadsClose here xs fs first walked
ends_last here xs fs first all walked is so_far code old w inside v e h went =
    let d = so_far code old w inside v e h went in
    ends_whole code here old w d.names (map field_view all) d.inside d.variable d.inner (accessed e xs) walked
    (ap (map field_view) is) d.waits d.went d.is

-- ---- the variables of those that wait

all_front : {A : Type 0} (P : A → Type 0) (xs : List A) (x : A) → AllByRecursion P (xs ++ x ∷ [])
    → AllByRecursion P xs × P x
all_front P [] x h = (tt, h.0)
all_front P (y ∷ ys) x h = let r = all_front P ys x h.1 in ((h.0, r.0), r.1)

pub fields_front : (s : State) (all rest : List reads.Field) (f : reads.Field) → all ≡ rest ++ f ∷ []
    → AllByRecursion (FieldLive s.depth s.store) (map field_view all)
    → AllByRecursion (FieldLive s.depth s.store) (map field_view rest) × FieldLive s.depth s.store (field_view f)
fields_front s all rest f is h =
    all_front (FieldLive s.depth s.store) (map field_view rest) (field_view f)
    (subst (AllByRecursion (FieldLive s.depth s.store)) (ap (map field_view) is ∙ map_last rest f) h)

-- ---- what a call answers

abbrev Failed : (A E : Type 0) → E → Result A E
Failed A E x = Err x

-- an error is the error of a call
pub err_is : {A B E : Type 0} (r : Result B E) (x y : E) → r ≡ Err x → Failed A E x ≡ Failed A E y → r ≡ Err y
err_is r x y is e = is ∙ ap Err (let d : x ≡ y = cc in d)

pub ok_on : {A E P Q : Type 0} (r : Result A E) → OnOk r P → (P → Q) → OnOk r Q
ok_on (Ok x) p f = f p
ok_on (Err e) p f = tt
