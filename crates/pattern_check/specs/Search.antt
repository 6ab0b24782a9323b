-- The search for a missing row: what is still to be tried, and how much that is.
use Rattle.std.specs.Prelude.{◌≡◌, ℕ, zero, suc, ◌+◌, ⊤, List, [], ◌∷◌, map, Bool, true, false}
use Rattle.std.specs.Prelude.{Option, Some, None, option_map, if◌then◌else◌}
use Rattle.pattern_check.specs.Shapes.{Head, arity_of}
use Rattle.pattern_check.specs.Missing.{candidates, has_head}
use Rattle.pattern_check.specs.Flat.{Part, open_parts, append_open, lists_where, list_heads, tail_of, or_list, first_list}
use Rattle.pattern_check.specs.Flat.{found_where, found_in}
use Rattle.pattern_check.specs.Starts.{start_view, starts_view, row_view, rows_view}
use Rattle.pattern_check.specs.declared.search.Task.{Task}
use Rattle.pattern_check.specs.declared.search.Frame.{Frame}
use Rattle.pattern_check.specs.declared.search.Look.{Look}
use Rattle.pattern_check.specs.declared.search.Look.TheVariants as look

-- Of the candidates those that are tried in a column whose shapes begin with these: each that some row begins with, and
-- the first of the others, if none was seen before. It leaves something out exactly when they do.
abbrev pub tried : Bool → List Head → List Head → List Head
tried seen hs [] = []
tried seen hs (c ∷ cs) =
    if has_head c hs then c ∷ tried seen hs cs else (if seen then tried true hs cs else c ∷ tried true hs cs)

-- what a task finds
abbrev pub task_found : Task → Option (List Part)
task_found t = found_in t.bound (row_view t.wanted) (rows_view t.rows.items)

abbrev pub next_found : Option Task → Option (List Part)
next_found None = None
next_found (Some t) = task_found t

-- what is wanted after a candidate
abbrev pub wanted_after : Bool → Head → List Part → List Part
wanted_after true c q = q
wanted_after false c q = append_open (arity_of c) q

abbrev pub try_with : ℕ → Bool → List Part → List (List Part) → Head → Option (List Part)
try_with bound asked q rows c = found_where (found_in bound) c (wanted_after asked c q) rows

-- what the candidates that are left find
abbrev pub frame_try : Frame → Head → Option (List Part)
frame_try f c = try_with f.bound f.asked (row_view f.wanted) (rows_view f.rows.items) c

-- from the last to the first, before others
abbrev pub from_last : List Head → List Head → List Head
from_last [] others = others
from_last (c ∷ cs) others = from_last cs (c ∷ others)

-- the candidates that are left, the last of which is the next
abbrev pub frame_left : Frame → List Head
frame_left f = from_last (starts_view f.candidates.items) []

-- what is found in the end, where the candidate that is being tried finds this
abbrev pub frame_found : Frame → Option (List Part) → Option (List Part)
frame_found f r =
    option_map (append_open f.opens)
    (or_list (option_map (λ ps. Some (start_view f.start) ∷ ps) r) (first_list (frame_try f) (frame_left f)))

abbrev pub frames_found : List Frame → Option (List Part) → Option (List Part)
frames_found [] r = r
frames_found (f ∷ fs) r = frame_found f (frames_found fs r)

abbrev pub look_found : Look → Option (List Part)
look_found (look.Found n) = Some (open_parts n)
look_found look.Nothing = None
look_found (look.Split f) = frame_found f None

-- where no task is left, no frame is
abbrev pub IsDone : Option Task → List Frame → Type 0
IsDone None fs = fs ≡ []
IsDone (Some t) fs = ⊤

-- how much there is to be done
abbrev pub Work : Type 0
Work = List Part → List (List Part) → ℕ

abbrev pub work_of_list : (Head → ℕ) → List Head → ℕ
work_of_list work [] = zero
work_of_list work (c ∷ cs) = suc (work c) + work_of_list work cs

abbrev pub work_with : Work → Bool → List Part → List (List Part) → Head → ℕ
work_with further asked q rows c = further (wanted_after asked c q) (lists_where c rows)

abbrev pub work_by : Work → List Part → List (List Part) → List Head → ℕ → ℕ
work_by further q rows [] passed = passed
work_by further q rows (h ∷ hs) passed = work_of_list (work_with further false q rows) (candidates h hs)

abbrev pub work_at : Work → Work
work_at further [] rows = zero
work_at further (None ∷ q) rows =
    work_by further q rows (list_heads rows) (work_at further q (map tail_of rows))
work_at further (Some h ∷ q) rows = suc (further q (lists_where h rows))

abbrev pub work_in : ℕ → Work
work_in zero q rows = zero
work_in (suc bound) q rows = work_at (work_in bound) q rows

abbrev pub task_work : Task → ℕ
task_work t = work_in t.bound (row_view t.wanted) (rows_view t.rows.items)

abbrev pub next_work : Option Task → ℕ
next_work None = zero
next_work (Some t) = suc (task_work t)

-- how much the candidate costs
abbrev pub frame_step : Frame → Head → ℕ
frame_step f c = work_with (work_in f.bound) f.asked (row_view f.wanted) (rows_view f.rows.items) c

abbrev pub frame_work : Frame → ℕ
frame_work f = work_of_list (frame_step f) (frame_left f)

abbrev pub frames_work : List Frame → ℕ
frames_work [] = zero
frames_work (f ∷ fs) = frame_work f + frames_work fs

abbrev pub look_work : Look → ℕ
look_work (look.Found n) = zero
look_work look.Nothing = zero
look_work (look.Split f) = frame_work f
