-- When something is claimed of a run.
use Rattle.runs.specs.Trace.{Unsafe, Stuck, Trace, Ends, Then, IsClaimed, IsSafe, IsRuled}

-- something is claimed of a run that ends neither with a number that is not exact nor where no rule applies
pub claimed : (t : Trace) → IsSafe t → IsRuled t → IsClaimed t
claimed (Ends Unsafe) safe ruled = safe
claimed (Ends Stuck) safe ruled = ruled
claimed (Ends _) safe ruled = tt
claimed (Then e t) safe ruled = claimed t safe ruled
