-- Incoming ports of a linked program: words, each once. `ports_once`.
use Rattle.std.proofs.Common.{◌≡◌, List, [], ◌∷◌, ◌++◌, Bool, true, false, if◌then◌else◌, Option, Some}
use Rattle.std.proofs.Common.{None}
use Rattle.std.proofs.Common.{map, refl, sym, ap, ◌∙◌, subst, ◌⊎◌, inl, inr, ⊎_elim, ◌||◌, ◌&&◌, not}
use Rattle.std.specs.Prelude.{flat_map}
use Rattle.std.specs.List.{list_any}
use Rattle.std.proofs.lemmas.Bool.{false≢true, and_parts}
use Rattle.std.proofs.lemmas.List.{map-append, append_assoc}
use Rattle.elm_base.specs.declared.fault.Fault.{Fault}
use Rattle.elm_canon.specs.Names.{Name, same_name}
use Rattle.elm_canon.specs.Tree.{Declaration, Given, Define, Maker, RecordMaker, OutPort, InPort, PortDeclaration}
use Rattle.elm_canon.specs.Tree.{Payload}
use Rattle.js_tree.specs.Text.{js_text}
use Rattle.js_emit.specs.Codecs.{decoder}
use Rattle.elm_canon.specs.Spelled.{is_word, are_fields}
use Rattle.emit_laws.specs.Programs.{in_ports}
use Rattle.canon_env.proofs.Adding.{one_name}
use Rattle.canon_proper.proofs.Scopes.{name_itself}
use Rattle.link.specs.Fragments.{Piece, Port}
use Rattle.link.specs.Made.{core_piece, declared_piece, port_place, fragment_of}
use Rattle.link.specs.Link.{Part, Placed, placed, placed_in, clash_at, clashes, with_port, first_home, is_other}
use Rattle.link.specs.Programs.{Source, Item, Core, Declared, part_of, items_of, declarations_in}
use Rattle.project_proper.specs.Modules.{AreApart, PortsAreWords}
use Rattle.project_proper.proofs.Sublists.{Sub, none, take, skip}

-- ---- items beside their modules

abbrev pub Pair : Type 0
Pair = Source × Item

abbrev pub pair_in : Source → Item → Pair
pair_in s i = (s, i)

abbrev pub pairs_of : List Source → List Pair
pairs_of sources = flat_map (λ s. map (pair_in s) (items_of s)) sources

abbrev pub item_of : Pair → Item
item_of p = p.1

abbrev pub piece_of : Item → Piece
piece_of (Core p) = core_piece p
piece_of (Declared ports d) = declared_piece ports d

abbrev pub placed_of : Pair → Placed
placed_of p = record { name = p.0.tree.name; path = p.0.path; piece = piece_of p.1 }

cores_seen : (cs : _) → map piece_of (map Core cs) ≡ map core_piece cs
cores_seen [] = refl
cores_seen (c ∷ cs) = ap (λ ds. core_piece c ∷ ds) (cores_seen cs)

declared_seen : (ports : List PortDeclaration) (ds : List Declaration) →
    map piece_of (map (Declared ports) ds) ≡ map (declared_piece ports) ds
declared_seen ports [] = refl
declared_seen ports (d ∷ ds) = ap (λ es. declared_piece ports d ∷ es) (declared_seen ports ds)

source_pieces : (s : Source) → map piece_of (items_of s) ≡ (part_of s).fragment.pieces
unfolding fragment_of
source_pieces s =
    map-append piece_of (map Core s.cores) (map (Declared s.tree.ports) s.tree.declarations)
    ∙ ap (λ ds. ds ++ map piece_of (map (Declared s.tree.ports) s.tree.declarations)) (cores_seen s.cores)
    ∙ ap (λ ds. map core_piece s.cores ++ ds) (declared_seen s.tree.ports s.tree.declarations)

abbrev place_in : Part → Piece → Placed
place_in p d = record { name = p.name; path = p.path; piece = d }

placed_items : (s : Source) (is : List Item) →
    map placed_of (map (pair_in s) is) ≡ map (place_in (part_of s)) (map piece_of is)
placed_items s [] = refl
placed_items s (i ∷ is) = ap (λ ds. placed_of (pair_in s i) ∷ ds) (placed_items s is)

pub placed_pairs : (sources : List Source) → map placed_of (pairs_of sources) ≡ placed (map part_of sources)
placed_pairs [] = refl
placed_pairs (s ∷ sources) =
    map-append placed_of (map (pair_in s) (items_of s)) (pairs_of sources)
    ∙ ap (λ ds. ds ++ map placed_of (pairs_of sources)) (placed_items s (items_of s))
    ∙ ap (λ ds. map (place_in (part_of s)) ds ++ map placed_of (pairs_of sources)) (source_pieces s)
    ∙ ap (λ ds. placed_in (part_of s) ++ ds) (placed_pairs sources)

items_again : (s : Source) (is : List Item) → map item_of (map (pair_in s) is) ≡ is
items_again s [] = refl
items_again s (i ∷ is) = ap (λ js. i ∷ js) (items_again s is)

pub items_of_pairs : (sources : List Source) → map item_of (pairs_of sources) ≡ flat_map items_of sources
items_of_pairs [] = refl
items_of_pairs (s ∷ sources) =
    map-append item_of (map (pair_in s) (items_of s)) (pairs_of sources)
    ∙ ap (λ is. is ++ map item_of (pairs_of sources)) (items_again s (items_of s))
    ∙ ap (λ is. items_of s ++ is) (items_of_pairs sources)

-- ---- the first port of a name

pub first_keep : (before more : List (Name × Name)) (x n : Name) → first_home before x ≡ Some n →
    first_home (before ++ more) x ≡ Some n
first_keep [] more x n e = absurd cc
first_keep (p ∷ ps) more x n e = by (same_name p.1 x) e (first_keep ps more x n)
  where
    by : (b : Bool) → (if b then Some p.0 else first_home ps x) ≡ Some n →
        (first_home ps x ≡ Some n → first_home (ps ++ more) x ≡ Some n) →
        (if b then Some p.0 else first_home (ps ++ more) x) ≡ Some n
    by true e rest = e
    by false e rest = rest e

pub first_new : (before : List (Name × Name)) (x n : Name) → first_home before x ≡ None →
    first_home (before ++ (n, x) ∷ []) x ≡ Some n
first_new [] x n e = ap (λ b. if b then Some n else None) (name_itself x)
first_new (p ∷ ps) x n e = by (same_name p.1 x) e (first_new ps x n)
  where
    by : (b : Bool) → (if b then Some p.0 else first_home ps x) ≡ None →
        (first_home ps x ≡ None → first_home (ps ++ (n, x) ∷ []) x ≡ Some n) →
        (if b then Some p.0 else first_home (ps ++ (n, x) ∷ []) x) ≡ Some n
    by true e rest = absurd cc
    by false e rest = rest e

-- of one name, once one is there
pub with_keep : (before : List (Name × Name)) (home x n : Name) (p : Option Port) → first_home before x ≡ Some n →
    first_home (with_port before home p) x ≡ Some n
with_keep before home x n None e = e
with_keep before home x n (Some p) e = first_keep before ((home, p.name) ∷ []) x n e

-- ---- no clash

not_other : (home : Name) (o : Option Name) → is_other home o ≡ false → (o ≡ None) ⊎ (o ≡ Some home)
not_other home None e = inl refl
not_other home (Some other) e = inr (ap Some (one_name other home (by (same_name other home) e)))
  where
    by : (b : Bool) → not b ≡ false → b ≡ true
    by true e = refl
    by false e = absurd (false≢true (sym e))

no_fault : (b : Bool) (f : Fault) → (if b then f ∷ [] else []) ≡ [] → b ≡ false
no_fault true f e = absurd cc
no_fault false f e = refl

-- the home of a port that does not clash
pub home_known : (before : List (Name × Name)) (d : Placed) (p : Port) → clash_at before d (Some p) ≡ [] →
    (first_home before p.name ≡ None) ⊎ (first_home before p.name ≡ Some d.name)
home_known before d p e =
    not_other d.name (first_home before p.name) (no_fault (is_other d.name (first_home before p.name)) _ e)

pub left_none : {X : Type 0} (xs ys : List X) → xs ++ ys ≡ [] → xs ≡ []
left_none [] ys e = refl
left_none (x ∷ xs) ys e = absurd cc

pub right_none : {X : Type 0} (xs ys : List X) → xs ++ ys ≡ [] → ys ≡ []
right_none [] ys e = e
right_none (x ∷ xs) ys e = absurd cc

abbrev after_ports : List (Name × Name) → List Placed → List (Name × Name)
after_ports before [] = before
after_ports before (d ∷ ds) = after_ports (with_port before d.name d.piece.port) ds

after_keep : (ds : List Placed) (before : List (Name × Name)) (x n : Name) → first_home before x ≡ Some n →
    first_home (after_ports before ds) x ≡ Some n
after_keep [] before x n e = e
after_keep (d ∷ ds) before x n e =
    after_keep ds (with_port before d.name d.piece.port) x n (with_keep before d.name x n d.piece.port e)

clashes_first : (xs ys : List Placed) (before : List (Name × Name)) → clashes before (xs ++ ys) ≡ [] →
    clashes before xs ≡ []
clashes_first [] ys before e = refl
clashes_first (d ∷ xs) ys before e =
    let next = with_port before d.name d.piece.port in
    ap (λ fs. fs ++ clashes next xs) (left_none (clash_at before d d.piece.port) (clashes next (xs ++ ys)) e)
    ∙ clashes_first xs ys next (right_none (clash_at before d d.piece.port) (clashes next (xs ++ ys)) e)

clashes_second : (xs ys : List Placed) (before : List (Name × Name)) → clashes before (xs ++ ys) ≡ [] →
    clashes (after_ports before xs) ys ≡ []
clashes_second [] ys before e = e
clashes_second (d ∷ xs) ys before e =
    let next = with_port before d.name d.piece.port in
    clashes_second xs ys next (right_none (clash_at before d d.piece.port) (clashes next (xs ++ ys)) e)

-- ---- incoming ports of items

abbrev pub item_ports : List Item → List Name
item_ports is = in_ports (declarations_in is)

abbrev HasPort : Name → List Name → Type 0
HasPort x ports = list_any (same_name x) ports ≡ true

-- what comes first on a walk
any_cases : (x y : Name) (ys : List Name) → HasPort x (y ∷ ys) → (x ≡ y) ⊎ HasPort x ys
any_cases x y ys e = by (same_name x y) refl e
  where
    by : (b : Bool) → same_name x y ≡ b → (b || list_any (same_name x) ys) ≡ true → (x ≡ y) ⊎ HasPort x ys
    by true h e = inl (one_name x y h)
    by false h e = inr e

own_port : (before : List (Name × Name)) (home x y : Name) (ds : List Placed) → x ≡ y →
    (first_home before y ≡ None) ⊎ (first_home before y ≡ Some home) →
    first_home (after_ports (before ++ (home, y) ∷ []) ds) x ≡ Some home
own_port before home x y ds same k =
    subst (λ z. first_home (after_ports (before ++ (home, y) ∷ []) ds) z ≡ Some home) (sym same)
    (after_keep ds (before ++ (home, y) ∷ []) y home
    (⊎_elim (first_new before y home) (first_keep before ((home, y) ∷ []) y home) k))

abbrev in_port : List PortDeclaration → Name → Payload → Port
in_port ports y t = record { name = y; place = port_place ports y; decoder = Some (js_text (decoder t)) }

-- the ports of one module stand there by its name
own_home : (s : Source) (is : List Item) (before : List (Name × Name)) (x : Name) →
    clashes before (map placed_of (map (pair_in s) is)) ≡ [] → HasPort x (item_ports is) →
    first_home (after_ports before (map placed_of (map (pair_in s) is))) x ≡ Some s.tree.name
own_home s [] before x e h = absurd (false≢true h)
own_home s (Core p ∷ is) before x e h = own_home s is before x e h
own_home s (Declared ports (Given r (Maker c)) ∷ is) before x e h = own_home s is before x e h
own_home s (Declared ports (Given r (RecordMaker ks)) ∷ is) before x e h = own_home s is before x e h
own_home s (Declared ports (Define g) ∷ is) before x e h = own_home s is before x e h
own_home s (Declared ports (Given r (OutPort y t)) ∷ is) before x e h =
    let d = placed_of (pair_in s (Declared ports (Given r (OutPort y t)))) in
    own_home s is (with_port before d.name d.piece.port) x
    (right_none (clash_at before d d.piece.port) _ e) h
own_home s (Declared ports (Given r (InPort y t)) ∷ is) before x e h =
    let d = placed_of (pair_in s (Declared ports (Given r (InPort y t)))) in
    let next = before ++ (s.tree.name, y) ∷ [] in
    ⊎_elim (λ same. own_port before s.tree.name x y (map placed_of (map (pair_in s) is)) same
    (home_known before d (in_port ports y t) (left_none (clash_at before d d.piece.port) _ e)))
    (own_home s is next x (right_none (clash_at before d d.piece.port) _ e)) (any_cases x y (item_ports is) h)

-- ---- ports of other modules

-- none of these modules has that name
abbrev pub Avoids : Name → List Pair → Type 0
Avoids n [] = Unit {0}
Avoids n (p ∷ ps) = (same_name n p.0.tree.name ≡ false) × Avoids n ps

abbrev pub pair_ports : List Pair → List Name
pair_ports ps = item_ports (map item_of ps)

-- the name of a port whose first one is elsewhere is not that of a port here
elsewhere : (before : List (Name × Name)) (s : Source) (n x y : Name) → same_name n s.tree.name ≡ false →
    (first_home before y ≡ None) ⊎ (first_home before y ≡ Some s.tree.name) → first_home before x ≡ Some n →
    same_name x y ≡ false
elsewhere before s n x y a k f = by (same_name x y) refl
  where
    clear : x ≡ y → (first_home before y ≡ None) ⊎ (first_home before y ≡ Some s.tree.name) → ⊥
    clear same (inl e) = let g : None ≡ Some n = sym e ∙ ap (first_home before) (sym same) ∙ f in absurd cc
    clear same (inr e) =
        let g : Some s.tree.name ≡ Some n = sym e ∙ ap (first_home before) (sym same) ∙ f in
        let h : s.tree.name ≡ n = cc in
        false≢true (sym a ∙ ap (same_name n) h ∙ name_itself n)

    by : (b : Bool) → same_name x y ≡ b → b ≡ false
    by true e = absurd (clear (one_name x y e) k)
    by false e = refl

others_apart : (ps : List Pair) (before : List (Name × Name)) (n x : Name) → Avoids n ps →
    clashes before (map placed_of ps) ≡ [] → first_home before x ≡ Some n →
    list_any (same_name x) (pair_ports ps) ≡ false
others_apart [] before n x a e f = refl
others_apart ((s, Core p) ∷ ps) before n x a e f = others_apart ps before n x a.1 e f
others_apart ((s, Declared ports (Given r (Maker c))) ∷ ps) before n x a e f = others_apart ps before n x a.1 e f
others_apart ((s, Declared ports (Given r (RecordMaker ks))) ∷ ps) before n x a e f =
    others_apart ps before n x a.1 e f
others_apart ((s, Declared ports (Define g)) ∷ ps) before n x a e f = others_apart ps before n x a.1 e f
others_apart ((s, Declared ports (Given r (OutPort y t))) ∷ ps) before n x a e f =
    let d = placed_of (s, Declared ports (Given r (OutPort y t))) in
    others_apart ps (with_port before d.name d.piece.port) n x a.1 (right_none (clash_at before d d.piece.port) _ e)
    (with_keep before d.name x n d.piece.port f)
others_apart ((s, Declared ports (Given r (InPort y t))) ∷ ps) before n x a e f =
    let d = placed_of (s, Declared ports (Given r (InPort y t))) in
    ap (λ b. b || list_any (same_name x) (pair_ports ps))
    (elsewhere before s n x y a.0 (home_known before d (in_port ports y t)
    (left_none (clash_at before d d.piece.port) _ e)) f)
    ∙ others_apart ps (with_port before d.name d.piece.port) n x a.1
    (right_none (clash_at before d d.piece.port) _ e) (with_keep before d.name x n d.piece.port f)

avoids_items : (n : Name) (s : Source) (is : List Item) (ps : List Pair) → same_name n s.tree.name ≡ false →
    Avoids n ps → Avoids n (map (pair_in s) is ++ ps)
avoids_items n s [] ps a b = b
avoids_items n s (i ∷ is) ps a b = (a, avoids_items n s is ps a b)

or_false : (a b : Bool) → (a || b) ≡ false → (a ≡ false) × (b ≡ false)
or_false true b e = absurd (false≢true (sym e))
or_false false b e = (refl, e)

avoids_all : (n : Name) (ss : List Source) → list_any (λ (t : Source). same_name n t.tree.name) ss ≡ false →
    Avoids n (pairs_of ss)
avoids_all n [] e = tt
avoids_all n (s ∷ ss) e =
    let h = or_false (same_name n s.tree.name) (list_any (λ (t : Source). same_name n t.tree.name) ss) e in
    avoids_items n s (items_of s) (pairs_of ss) h.0 (avoids_all n ss h.1)

avoids_sub : (n : Name) {ps qs : List Pair} → Sub ps qs → Avoids n qs → Avoids n ps
avoids_sub n none a = tt
avoids_sub n (take s) a = (a.0, avoids_sub n s a.1)
avoids_sub n (skip s) a = avoids_sub n s a.1

-- ---- parts of lists of ports

pub sub_ports : {ds es : List Declaration} → Sub ds es → Sub (in_ports ds) (in_ports es)
sub_ports none = none
sub_ports (take {x = Given r (Maker c)} s) = sub_ports s
sub_ports (take {x = Given r (RecordMaker ks)} s) = sub_ports s
sub_ports (take {x = Given r (OutPort y t)} s) = sub_ports s
sub_ports (take {x = Given r (InPort y t)} s) = take (sub_ports s)
sub_ports (take {x = Define g} s) = sub_ports s
sub_ports (skip {x = Given r (Maker c)} s) = sub_ports s
sub_ports (skip {x = Given r (RecordMaker ks)} s) = sub_ports s
sub_ports (skip {x = Given r (OutPort y t)} s) = sub_ports s
sub_ports (skip {x = Given r (InPort y t)} s) = skip (sub_ports s)
sub_ports (skip {x = Define g} s) = sub_ports s

pub sub_declarations : {is js : List Item} → Sub is js → Sub (declarations_in is) (declarations_in js)
sub_declarations none = none
sub_declarations (take {x = Core p} s) = sub_declarations s
sub_declarations (take {x = Declared ports d} s) = take (sub_declarations s)
sub_declarations (skip {x = Core p} s) = sub_declarations s
sub_declarations (skip {x = Declared ports d} s) = skip (sub_declarations s)

any_sub : (x : Name) {xs ys : List Name} → Sub xs ys → list_any (same_name x) ys ≡ false →
    list_any (same_name x) xs ≡ false
any_sub x none e = refl
any_sub x (take {x = k} {xs = xs} {ys = ys} s) e =
    let h = or_false (same_name x k) (list_any (same_name x) ys) e in
    ap (λ b. b || list_any (same_name x) xs) h.0 ∙ any_sub x s h.1
any_sub x (skip {x = k} {ys = ys} s) e =
    any_sub x s (or_false (same_name x k) (list_any (same_name x) ys) e).1

-- the parts of a list of fields
field_parts : (k : Name) (ks : List Name) → are_fields (k ∷ ks) ≡ true →
    (is_word k ≡ true) × ((list_any (same_name k) ks ≡ false) × (are_fields ks ≡ true))
field_parts k ks e =
    let h = and_parts (is_word k) (not (list_any (same_name k) ks) && are_fields ks) e in
    let g = and_parts (not (list_any (same_name k) ks)) (are_fields ks) h.1 in
    (h.0, (by (list_any (same_name k) ks) g.0, g.1))
  where
    by : (b : Bool) → not b ≡ true → b ≡ false
    by true e = absurd (false≢true e)
    by false e = refl

fields_from : (k : Name) (ks : List Name) → is_word k ≡ true → list_any (same_name k) ks ≡ false →
    are_fields ks ≡ true → are_fields (k ∷ ks) ≡ true
fields_from k ks a b c =
    ap (λ d. d && (not (list_any (same_name k) ks) && are_fields ks)) a
    ∙ ap (λ d. not d && are_fields ks) b ∙ c

pub fields_sub : {xs ys : List Name} → Sub xs ys → are_fields ys ≡ true → are_fields xs ≡ true
fields_sub none e = refl
fields_sub (take {x = k} {xs = xs} {ys = ys} s) e =
    let h = field_parts k ys e in fields_from k xs h.0 (any_sub k s h.1.0) (fields_sub s h.1.1)
fields_sub (skip {x = k} {ys = ys} s) e = fields_sub s (field_parts k ys e).1.1

any_both : (x : Name) (xs ys : List Name) → list_any (same_name x) xs ≡ false → list_any (same_name x) ys ≡ false →
    list_any (same_name x) (xs ++ ys) ≡ false
any_both x [] ys a b = b
any_both x (k ∷ xs) ys a b =
    let h = or_false (same_name x k) (list_any (same_name x) xs) a in
    ap (λ c. c || list_any (same_name x) (xs ++ ys)) h.0 ∙ any_both x xs ys h.1 b

-- lists of fields with none in common
fields_both : (xs ys : List Name) → are_fields xs ≡ true → are_fields ys ≡ true →
    ((x : Name) → HasPort x xs → list_any (same_name x) ys ≡ false) → are_fields (xs ++ ys) ≡ true
fields_both [] ys a b f = b
fields_both (k ∷ xs) ys a b f =
    let h = field_parts k xs a in
    fields_from k (xs ++ ys) h.0
    (any_both k xs ys h.1.0 (f k (ap (λ c. c || list_any (same_name k) xs) (name_itself k))))
    (fields_both xs ys h.1.1 b (λ x e. f x (more x e)))
  where
    more : (x : Name) → HasPort x xs → HasPort x (k ∷ xs)
    more x e = by (same_name x k)
      where
        by : (c : Bool) → (c || list_any (same_name x) xs) ≡ true
        by true = refl
        by false = e

-- ---- what is left of modules, by the first of them

record Split {X Y : Type 0} (f : X → Y) (xs : List X) (zs ks : List Y) : Type 0 where
  front : List X
  back : List Y
  whole : map f front ++ back ≡ ks
  front_sub : Sub front xs
  back_sub : Sub back zs

split : {X Y : Type 0} (f : X → Y) (xs : List X) (zs : List Y) {ks : List Y} → Sub ks (map f xs ++ zs) →
    Split f xs zs ks
split f [] zs {ks} s = record { front = []; back = ks; whole = refl; front_sub = none; back_sub = s }
split f (x ∷ xs) zs (take {xs = ks} s) = first (split f xs zs s)
  where
    first : Split f xs zs ks → Split f (x ∷ xs) zs (f x ∷ ks)
    first p = record {
      front = x ∷ p.front;
      back = p.back;
      whole = ap (λ ys. f x ∷ ys) p.whole;
      front_sub = take p.front_sub;
      back_sub = p.back_sub;
    }
split f (x ∷ xs) zs (skip {xs = ks} s) = first (split f xs zs s)
  where
    first : Split f xs zs ks → Split f (x ∷ xs) zs ks
    first p = record {
      front = p.front;
      back = p.back;
      whole = p.whole;
      front_sub = skip p.front_sub;
      back_sub = p.back_sub;
    }

-- ---- all modules

cores_declare : (cs : _) (is : List Item) → declarations_in (map Core cs ++ is) ≡ declarations_in is
cores_declare [] is = refl
cores_declare (c ∷ cs) is = cores_declare cs is

all_declared : (ports : List PortDeclaration) (ds : List Declaration) (is : List Item) →
    declarations_in (map (Declared ports) ds ++ is) ≡ ds ++ declarations_in is
all_declared ports [] is = refl
all_declared ports (d ∷ ds) is = ap (λ es. d ∷ es) (all_declared ports ds is)

pub source_declares : (s : Source) (is : List Item) →
    declarations_in (items_of s ++ is) ≡ s.tree.declarations ++ declarations_in is
source_declares s is =
    ap declarations_in (append_assoc (map Core s.cores) (map (Declared s.tree.ports) s.tree.declarations) is)
    ∙ cores_declare s.cores (map (Declared s.tree.ports) s.tree.declarations ++ is)
    ∙ all_declared s.tree.ports s.tree.declarations is

append_none : {X : Type 0} (xs : List X) → xs ++ [] ≡ xs
append_none [] = refl
append_none (x ∷ xs) = ap (λ ys. x ∷ ys) (append_none xs)

own_declares : (s : Source) → declarations_in (items_of s) ≡ s.tree.declarations
own_declares s =
    ap declarations_in (sym (append_none (items_of s))) ∙ source_declares s [] ∙ append_none s.tree.declarations

in_ports_first : (d : Declaration) (ds es : List Declaration) → in_ports (ds ++ es) ≡ in_ports ds ++ in_ports es →
    in_ports (d ∷ ds ++ es) ≡ in_ports (d ∷ ds) ++ in_ports es
in_ports_first (Given r (Maker c)) ds es e = e
in_ports_first (Given r (RecordMaker ks)) ds es e = e
in_ports_first (Given r (OutPort y t)) ds es e = e
in_ports_first (Given r (InPort y t)) ds es e = ap (λ xs. y ∷ xs) e
in_ports_first (Define g) ds es e = e

in_ports_both : (ds es : List Declaration) → in_ports (ds ++ es) ≡ in_ports ds ++ in_ports es
in_ports_both [] es = refl
in_ports_both (d ∷ ds) es = in_ports_first d ds es (in_ports_both ds es)

declarations_both : (is js : List Item) → declarations_in (is ++ js) ≡ declarations_in is ++ declarations_in js
declarations_both [] js = refl
declarations_both (Core p ∷ is) js = declarations_both is js
declarations_both (Declared ports d ∷ is) js = ap (λ ds. d ∷ ds) (declarations_both is js)

ports_split : (s : Source) (is : List Item) (ps : List Pair) →
    pair_ports (map (pair_in s) is ++ ps) ≡ item_ports is ++ pair_ports ps
ports_split s is ps =
    ap item_ports (map-append item_of (map (pair_in s) is) ps)
    ∙ ap (λ js. item_ports (js ++ map item_of ps)) (items_again s is)
    ∙ ap in_ports (declarations_both is (map item_of ps))
    ∙ in_ports_both (declarations_in is) (declarations_in (map item_of ps))

nothing_left : {ps : List Pair} → Sub ps [] → ps ≡ []
nothing_left none = refl

-- of what is left of modules, where no ports of the same name are of two modules
pub ports_once : (sources : List Source) (ps : List Pair) (before : List (Name × Name)) → Sub ps (pairs_of sources) →
    AreApart sources → PortsAreWords sources → clashes before (map placed_of ps) ≡ [] →
    are_fields (pair_ports ps) ≡ true
ports_once [] ps before s a w e = ap (λ qs. are_fields (pair_ports qs)) (nothing_left s)
ports_once (s ∷ ss) ps before sub a w e =
    all (split (pair_in s) (items_of s) (pairs_of ss) sub) (λ qs next sub e. ports_once ss qs next sub a.1 w.1 e)
  where
    all : Split (pair_in s) (items_of s) (pairs_of ss) ps →
        ((qs : List Pair) (next : List (Name × Name)) → Sub qs (pairs_of ss) → clashes next (map placed_of qs) ≡ [] →
        are_fields (pair_ports qs) ≡ true) → are_fields (pair_ports ps) ≡ true
    all p rest =
        let qs = map (pair_in s) p.front in
        let first = map placed_of qs in
        let last = map placed_of p.back in
        let both : clashes before (first ++ last) ≡ [] =
        ap (clashes before) (sym (map-append placed_of qs p.back) ∙ ap (map placed_of) p.whole) ∙ e in
        let after = clashes_second first last before both in
        let own : Sub (item_ports p.front) (in_ports s.tree.declarations) =
        subst (λ ds. Sub (item_ports p.front) (in_ports ds)) (own_declares s)
        (sub_ports (sub_declarations p.front_sub)) in
        ap (λ rs. are_fields (pair_ports rs)) (sym p.whole)
        ∙ ap are_fields (ports_split s p.front p.back)
        ∙ fields_both (item_ports p.front) (pair_ports p.back) (fields_sub own w.0)
        (rest p.back (after_ports before first) p.back_sub after)
        (λ x h. others_apart p.back (after_ports before first) s.tree.name x
        (avoids_sub s.tree.name p.back_sub (avoids_all s.tree.name ss a.0)) after
        (own_home s p.front before x (clashes_first first last before both) h))
