-- What the index of names has.
use Rattle.std.specs.Prelude.{ℕ, unwrap_or}
use Rattle.std.specs.BTreeMap.{get_by}
use Rattle.std.specs.Cmp.Lexicographic.{slice_cmp}
use Rattle.std.specs.Ordering.{nat_cmp, ordering_then}
use Rattle.js_tree.specs.Tree.{Name, Top, Local, Made}
use Rattle.js_scope.specs.declared.index.Index.{Index}

-- the place of a name
abbrev pub place_in : Index → Name → ℕ
place_in i (Top m x) = unwrap_or (get_by (λ k. ordering_then (slice_cmp nat_cmp m k.0.now) (slice_cmp nat_cmp x k.1.now)) i.tops) 0
place_in i (Local x) = unwrap_or (get_by (λ k. slice_cmp nat_cmp x k.now) i.locals) 0
place_in i (Made n) = unwrap_or (get_by (λ k. nat_cmp n k) i.made) 0
