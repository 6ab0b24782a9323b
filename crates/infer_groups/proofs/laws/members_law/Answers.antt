use Rattle.std.proofs.Common.{subst, sym, refl}
use Rattle.infer_groups.specs.Members.{MembersDone}
use Rattle.infer_groups.proofs.Members.{opens, one_more, member_stops, member_large, all_done}
use Rattle.infer_groups.proofs.laws.members_law.Goals as goal

pub returns-clause-open : goal.returns-clause-open
returns-clause-open c code ds i names old mid ready titled opened =
    opens c.choice_law.ensures c.saying_law.ensures.later c.saying_law.ensures.more c.principal_law.ensures code ds i
    names old mid ready titled opened

pub returns-clause-on : goal.returns-clause-on
returns-clause-on c code ds i k names d n old now x done at_d at_n f walked small =
    one_more c.choice_law.ensures c.saying_law.ensures.later c.saying_law.ensures.more c.principal_law.ensures code ds i
    names old k now done d n x at_d at_n f
    walked small

pub returns-clause-stops : goal.returns-clause-stops
returns-clause-stops c code ds i k names d n old now x bad done at_d at_n stop =
    member_stops c.choice_law.ensures c.saying_law.ensures.later c.saying_law.ensures.more c.principal_law.ensures code
    ds i names old k now done d n at_d at_n
    x.store bad x stop refl

pub returns-clause-large : goal.returns-clause-large
returns-clause-large c code ds i k names d n old now x done at_d at_n f walked large =
    member_large c.choice_law.ensures c.saying_law.ensures.later c.saying_law.ensures.more c.principal_law.ensures code
    ds i names old k now done d n x at_d
    at_n f walked large

pub returns-clause-end : goal.returns-clause-end
returns-clause-end c code ds i k names old now count done =
    all_done c.choice_law.ensures c.saying_law.ensures.later c.saying_law.ensures.more c.principal_law.ensures code ds i
    names old now
    (subst (λ m. MembersDone code ds i m names old now) (sym count) done)
