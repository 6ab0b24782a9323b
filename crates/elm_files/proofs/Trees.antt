-- Trees after the change of one file.
use Rattle.std.proofs.Common.{◌≡◌, ◌≢◌, ◌∙◌, ℕ, true, List, Option, Some, None, is_some, refl, ap, sym, if◌then◌else◌}
use Rattle.std.proofs.lemmas.Slice.Eq.{bytes_eq-Decides}
use Rattle.std.proofs.lemmas.Bool.{false_from_ne_true}
use Rattle.elm_files.specs.Tree.{Tree, put, file_at, with_file, SameElsewhere}

-- what the path itself holds
pub put_same : (tree : Tree) (path : List ℕ) (file : Option (List ℕ)) → put tree path file path ≡ file
put_same tree path file = ap (λ b. if b then file else tree path) ((bytes_eq-Decides path path).1 refl)

-- what each other path holds
pub put_other : (tree : Tree) (path : List ℕ) (file : Option (List ℕ)) (q : List ℕ) → q ≢ path → put tree path file q ≡ tree q
put_other tree path file q differs =
    ap (λ b. if b then file else tree q) (false_from_ne_true _ (λ same. differs (sym ((bytes_eq-Decides path q).0 same))))

-- a tree that differs by what one path holds agrees at each other path
pub put_elsewhere : (old new : Tree) (path : List ℕ) (file : Option (List ℕ)) → new ≡ put old path file → SameElsewhere path (Some old) (Some new)
put_elsewhere old new path file changed = record {
  told = refl;
  others = λ q differs. ap (λ (tree : Tree). tree q) changed ∙ put_other old path file q differs;
}

-- after a write each other path holds what it held
pub file_at-with_file_other : (told : Option Tree) (path bytes q : List ℕ) → q ≢ path → file_at (with_file told path bytes) q ≡ file_at told q
file_at-with_file_other None path bytes q differs = refl
file_at-with_file_other (Some tree) path bytes q differs = put_other tree path (Some bytes) q differs

-- after a write the path holds the bytes
pub file_at-with_file : (told : Option Tree) (path bytes : List ℕ) → is_some told ≡ true → file_at (with_file told path bytes) path ≡ Some bytes
file_at-with_file None path bytes tells = cc
file_at-with_file (Some tree) path bytes tells = put_same tree path (Some bytes)

-- for `grind`: what a tree holds after a write
pub ruleset trees = (file_at-with_file_other, file_at-with_file, put_other, put_same)
