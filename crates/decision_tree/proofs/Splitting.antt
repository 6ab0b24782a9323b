-- The paths of the parts of a column.
use Rattle.std.proofs.Common.{◌≡◌, ℕ, zero, suc, ◌+◌, ◌-◌, ◌<◌, ◌≤◌, List, [], ◌∷◌, ◌++◌, length, take, drop, get_or}
use Rattle.std.proofs.Common.{refl}
use Rattle.std.proofs.Common.{sym, ap, ◌∙◌, arith, pos}
use Rattle.std.proofs.Common.{map, append_assoc}
use Rattle.std.proofs.lemmas.List.{length-map, take-map, drop-map}
use Rattle.js_tree.specs.Tree.{Js, JInt, JProperty}
use Rattle.js_emit.specs.Names.{part_name}
use Rattle.js_emit.specs.Choice.{part_paths, split_path}
use Rattle.decision_tree.proofs.Lists.{map_at}

pub split_at : (arity column : ℕ) (paths : List Js) (d : Js) → column < length paths
    → split_path arity column paths
    ≡ take column paths ++ (part_paths arity 0 (get_or paths column d) ++ drop (suc column) paths)
split_at arity column [] d h = absurd (omega (arith, h))
split_at arity zero (path ∷ paths) d h = refl
split_at arity (suc column) (path ∷ paths) d h =
    ap (λ zs. path ∷ zs) (split_at arity column paths d (omega (arith, h)))

pub split_past : (arity column : ℕ) (paths : List Js) → length paths ≤ column → split_path arity column paths ≡ paths
split_past arity column [] h = refl
split_past arity zero (path ∷ paths) h = absurd (omega (arith, h))
split_past arity (suc column) (path ∷ paths) h = ap (λ zs. path ∷ zs) (split_past arity column paths (omega (arith, h)))

-- one part more
pub part_more : (arity i : ℕ) (path : Js) → i < arity
    → part_paths (arity - i) i path ≡ JProperty path (part_name i) ∷ part_paths (arity - (i + 1)) (i + 1) path
part_more arity i path h =
    let one : arity - i ≡ suc (arity - (i + 1)) = omega (arith, h) in
    let next : suc i ≡ i + 1 = omega arith in
    ap (λ n. part_paths n i path) one
    ∙ ap (λ k. JProperty path (part_name i) ∷ part_paths (arity - (i + 1)) k path) next

-- the paths before the column, those of its parts, and those after it
pub split_whole : {A : Type 0} (f : A → Js) (paths : List A) (column arity : ℕ) (x : A) (o1 o2 o3 : List Js)
    → column < length paths → get_or paths column x ≡ x → o1 ≡ map f (take column paths)
    → o2 ≡ o1 ++ part_paths arity 0 (f x) → o3 ≡ o2 ++ map f (drop (column + 1) paths)
    → o3 ≡ split_path arity column (map f paths)
split_whole f paths column arity x o1 o2 o3 h at first second third =
    let d = JInt (pos 0) in
    let next : column + 1 ≡ suc column = omega arith in
    third
    ∙ (ap (λ us. us ++ map f (drop (column + 1) paths)) (second ∙ ap (λ us. us ++ part_paths arity 0 (f x)) first)
    ∙ (append_assoc (map f (take column paths)) (part_paths arity 0 (f x)) (map f (drop (column + 1) paths))
    ∙ (ap (λ us. us ++ (part_paths arity 0 (f x) ++ map f (drop (column + 1) paths))) (sym (take-map f column paths))
    ∙ (ap (λ us. take column (map f paths) ++ (part_paths arity 0 (f x) ++ us))
    (ap (λ n. map f (drop n paths)) next ∙ sym (drop-map f (suc column) paths))
    ∙ (ap (λ e. take column (map f paths) ++ (part_paths arity 0 e ++ drop (suc column) (map f paths)))
    (sym (map_at f paths column x d h at))
    ∙ sym (split_at arity column (map f paths) d (omega (arith, h, length-map paths f))))))))

-- the same after other paths
pub split_more : {A : Type 0} (f : A → Js) (paths : List A) (column arity : ℕ) (x : A) (o0 o1 o2 o3 : List Js)
    → column < length paths → get_or paths column x ≡ x → o1 ≡ o0 ++ map f (take column paths)
    → o2 ≡ o1 ++ part_paths arity 0 (f x) → o3 ≡ o2 ++ map f (drop (column + 1) paths)
    → o3 ≡ o0 ++ split_path arity column (map f paths)
split_more f paths column arity x o0 o1 o2 o3 h at first second third =
    let before = map f (take column paths) in
    let parts = part_paths arity 0 (f x) in
    let after = map f (drop (column + 1) paths) in
    third
    ∙ (ap (λ us. us ++ after) (second ∙ ap (λ us. us ++ parts) first)
    ∙ (ap (λ us. us ++ after) (append_assoc o0 before parts)
    ∙ (append_assoc o0 (before ++ parts) after
    ∙ ap (λ us. o0 ++ us)
    (split_whole f paths column arity x before (before ++ parts) ((before ++ parts) ++ after) h at refl refl refl))))
