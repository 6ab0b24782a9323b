-- What the outermost form of a type is.
use Rattle.elm_type.specs.Classes.{TypeHead, MadeHead, RecordHead}
use Rattle.elm_type.specs.declared.demands.TypeHead as stored
use Rattle.elm_type.specs.declared.demands.TypeHead.TheVariants as form

abbrev pub type_head : stored.TypeHead → TypeHead
type_head (form.Made h n) = MadeHead h.now n
type_head form.Record = RecordHead
