-- Ports in the order of their names' units, by insertion.
use Rattle.std.proofs.Common.{◌≡◌, List, [], ◌∷◌, map, Bool, true, false, if◌then◌else◌, refl, ap, ◌∙◌, arith}
use Rattle.std.specs.Ordering.{nat_cmp, is_lt}
use Rattle.std.specs.Cmp.{IsStrictWeakOrder}
use Rattle.std.specs.Cmp.Lexicographic.{slice_cmp}
use Rattle.std.specs.List.Sorted.{IsSortedBy, IsStableBy}
use Rattle.std.proofs.lemmas.Bool.Decides.{nat_tests}
use Rattle.std.proofs.lemmas.Cmp.{nat_list_cmp_total, same_from_slice_cmp}
use Rattle.std.proofs.lemmas.List.Sorted.{ranks_by}
use Rattle.elm_base.proofs.Sorting.{inserted, in_order, sorted_is}
use Rattle.runs.specs.Texts.{units_lt}
use Rattle.elm_canon.specs.Names.{Name}
use Rattle.elm_canon.specs.Tree.{Payload, Declaration, Given, Define, Maker, RecordMaker, OutPort, InPort}
use Rattle.js_tree.specs.Tree.{Fields, NoField, MoreField}
use Rattle.js_emit.specs.Codecs.{decoder}
use Rattle.js_emit.specs.Program.{put_decoder, in_decoders, put_port, out_names}
use Rattle.emit_program.specs.Programs.{in_ports, out_ports, decoders_of}

abbrev pub before : {X : Type 0} → (X → Name) → X → X → Bool
before name x y = is_lt (slice_cmp nat_cmp (name x) (name y))

pub is_order : {X : Type 0} (name : X → Name) → IsStrictWeakOrder (before name)
is_order name = ranks_by nat_list_cmp_total name

before_by_units : (xs ys : Name) → is_lt (slice_cmp nat_cmp xs ys) ≡ units_lt xs ys
before_by_units xs ys =
    same_from_slice_cmp nat_cmp is_lt units_lt refl (λ _ _. refl) (λ _ _. refl) (λ x y xs ys o h. grind (arith, nat_tests)) xs ys _ refl

-- ---- incoming ports

abbrev pub by_name : {X : Type 0} → (X → Name × Payload) → X → X → Bool
by_name {X} view = before (λ (x : X). (view x).0)

put_step : {X : Type 0} (view : X → Name × Payload) (m x : X) (xs : List X) (b : Bool)
    → decoders_of (map view (inserted (by_name view) m xs)) ≡ put_decoder (view m).0 (decoder (view m).1) (decoders_of (map view xs))
    → decoders_of (map view (if b then x ∷ inserted (by_name view) m xs else m ∷ x ∷ xs))
    ≡ (if b then MoreField (view x).0 (decoder (view x).1) (put_decoder (view m).0 (decoder (view m).1) (decoders_of (map view xs)))
    else MoreField (view m).0 (decoder (view m).1) (MoreField (view x).0 (decoder (view x).1) (decoders_of (map view xs))))
put_step view m x xs true rest = ap (MoreField (view x).0 (decoder (view x).1)) rest
put_step view m x xs false rest = refl

put_is : {X : Type 0} (view : X → Name × Payload) (m : X) (xs : List X)
    → decoders_of (map view (inserted (by_name view) m xs)) ≡ put_decoder (view m).0 (decoder (view m).1) (decoders_of (map view xs))
put_is view m [] = refl
put_is view m (x ∷ xs) =
    put_step view m x xs (by_name view x m) (put_is view m xs)
    ∙ ap (λ b. if b then MoreField (view x).0 (decoder (view x).1) (put_decoder (view m).0 (decoder (view m).1) (decoders_of (map view xs)))
    else MoreField (view m).0 (decoder (view m).1) (MoreField (view x).0 (decoder (view x).1) (decoders_of (map view xs)))) (before_by_units (view x).0 (view m).0)

abbrev put_all : List (Name × Payload) → Fields
put_all [] = NoField
put_all (p ∷ ps) = put_decoder p.0 (decoder p.1) (put_all ps)

all_put : {X : Type 0} (view : X → Name × Payload) (xs : List X) → decoders_of (map view (in_order (by_name view) xs)) ≡ put_all (map view xs)
all_put view [] = refl
all_put view (x ∷ xs) =
    put_is view x (in_order (by_name view) xs) ∙ ap (put_decoder (view x).0 (decoder (view x).1)) (all_put view xs)

ports_put : (ds : List Declaration) → put_all (in_ports ds) ≡ in_decoders ds
ports_put [] = refl
ports_put (Given r (Maker a) ∷ ds) = ports_put ds
ports_put (Given r (RecordMaker ks) ∷ ds) = ports_put ds
ports_put (Given r (OutPort port t) ∷ ds) = ports_put ds
ports_put (Given r (InPort port t) ∷ ds) = ap (put_decoder port (decoder t)) (ports_put ds)
ports_put (Define g ∷ ds) = ports_put ds

pub ins_sorted : {X : Type 0} (view : X → Name × Payload) (ds : List Declaration) (xs ys : List X) → map view xs ≡ in_ports ds
    → IsSortedBy (by_name view) ys → IsStableBy (by_name view) xs ys → decoders_of (map view ys) ≡ in_decoders ds
ins_sorted {X} view ds xs ys is up stable =
    ap (λ l. decoders_of (map view l)) (sorted_is (by_name view) (is_order (λ (x : X). (view x).0)) xs ys up stable)
    ∙ all_put view xs ∙ ap put_all is ∙ ports_put ds

-- ---- outgoing ports

abbrev pub by_units : Name → Name → Bool
by_units = before (λ (x : Name). x)

name_step : (m x : Name) (xs : List Name) (b : Bool) → inserted by_units m xs ≡ put_port m xs
    → (if b then x ∷ inserted by_units m xs else m ∷ x ∷ xs) ≡ (if b then x ∷ put_port m xs else m ∷ x ∷ xs)
name_step m x xs true rest = ap (λ l. x ∷ l) rest
name_step m x xs false rest = refl

name_put : (m : Name) (xs : List Name) → inserted by_units m xs ≡ put_port m xs
name_put m [] = refl
name_put m (x ∷ xs) =
    name_step m x xs (by_units x m) (name_put m xs)
    ∙ ap (λ b. if b then x ∷ put_port m xs else m ∷ x ∷ xs) (before_by_units x m)

names_put : (ds : List Declaration) → in_order by_units (out_ports ds) ≡ out_names ds
names_put [] = refl
names_put (Given r (Maker a) ∷ ds) = names_put ds
names_put (Given r (RecordMaker ks) ∷ ds) = names_put ds
names_put (Given r (OutPort port t) ∷ ds) =
    name_put port (in_order by_units (out_ports ds)) ∙ ap (put_port port) (names_put ds)
names_put (Given r (InPort port t) ∷ ds) = names_put ds
names_put (Define g ∷ ds) = names_put ds

pub outs_sorted : (ds : List Declaration) (names sorted : List Name) → names ≡ out_ports ds → IsSortedBy by_units sorted
    → IsStableBy by_units names sorted → sorted ≡ out_names ds
outs_sorted ds names sorted is up stable =
    sorted_is by_units (is_order (λ (x : Name). x)) names sorted up stable ∙ ap (in_order by_units) is ∙ names_put ds
