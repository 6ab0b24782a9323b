-- Fields of records that are read one after the other: what begins and ends them promises.
use Rattle.std.specs.Prelude.{ℕ, List, [], ◌∷◌}
use Rattle.elm_base.specs.declared.position.Pos.{Pos}
use Rattle.elm_canon.specs.Tree.{Expr, Strict, Access, exprs_of}
use Rattle.elm_canon.specs.View.{accessed}
use Rattle.elm_type.specs.Types.{Name}
use Rattle.type_items.specs.Items.{Wanted}
use Rattle.type_store.specs.Store.{Store}
use Rattle.type_walks.specs.Regions.{below}
use Rattle.type_walks.specs.Links.{Live}
use Rattle.type_constructs.specs.Failing.{Bad}
use Rattle.infer_steps.specs.Codes.{Code, State}
use Rattle.infer_parts.specs.declared.reads.Field as reads
use Rattle.infer_parts.specs.Steps.{CanWalk, one, Went, Stuck}
use Rattle.infer_parts.specs.Parts.{listed}
use Rattle.infer_parts.specs.Chains.{Field, IsRead, Reads}

abbrev pub field_view : reads.Field → Field
field_view f = (f.variable, f.wanted)

abbrev pub FieldLive : ℕ → Store → Field → Type 0
FieldLive d s f = Live d s f.0 × Live d s f.1

-- a.x
abbrev pub read_of : Expr → Name → Expr
read_of e x = Strict (Access x) (exprs_of (e ∷ []))

-- ---- one field

-- after the record the whole was walked
abbrev pub ReadCloses : Pos → Field → State → State → Type 0
ReadCloses here f walked new =
    (code : Code) (x : Name) (old : State) (w : ℕ) (inside : State) (v : ℕ) (e : Expr)
    → IsRead code here x f old w inside v → Went Wanted code (one v) below (listed e here) inside walked
    → Went Wanted code (one w) below (listed (read_of e x) here) old new

-- or it stops
abbrev pub ReadStops : Pos → Field → State → State → Bad → Type 0
ReadStops here f walked new bad =
    (code : Code) (x : Name) (old : State) (w : ℕ) (inside : State) (v : ℕ) (e : Expr)
    → IsRead code here x f old w inside v → Went Wanted code (one v) below (listed e here) inside walked
    → Stuck Wanted code (one w) below (listed (read_of e x) here) old new bad

-- ---- all of them

-- they are read, and inference can go on with the record
pub record BeginsReads (code : Code) (here : Pos) (xs : List Name) (fs : List Field) (old : State) (w : ℕ)
    (inside : State) (v : ℕ) : Type 0 where
  pub reads : Reads code here old w xs fs inside v
  pub can : CanWalk code inside

abbrev pub ReadsClose : Pos → List Name → List Field → State → State → Type 0
ReadsClose here xs fs walked new =
    (code : Code) (old : State) (w : ℕ) (inside : State) (v : ℕ) (e : Expr) → Reads code here old w xs fs inside v
    → Went Wanted code (one v) below (listed e here) inside walked
    → Went Wanted code (one w) below (listed (accessed e xs) here) old new

abbrev pub ReadsStop : Pos → List Name → List Field → State → State → Bad → Type 0
ReadsStop here xs fs walked new bad =
    (code : Code) (old : State) (w : ℕ) (inside : State) (v : ℕ) (e : Expr) → Reads code here old w xs fs inside v
    → Went Wanted code (one v) below (listed e here) inside walked
    → Stuck Wanted code (one w) below (listed (accessed e xs) here) old new bad
