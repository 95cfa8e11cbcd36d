use Rattle.toll_server.proofs.RoundLemmas.{rounds}
use Rattle.toll_server.proofs.WholeLemmas.{whole_joined}
use Rattle.toll_server.proofs.laws.what_is_served_is_served_in_rounds.Goals as goal

pub returns : goal.returns
returns g c = λ events most count first last old new fresh run rests served. (
  rounds g.O.Party.PartialEq.eq g.S.Source g.S.Sink most g.met.O.Party.Eq.laws g.O.Service.is_by g.O.Service.answers g.O.Service.resumes count first last events old new fresh run rests served,
  whole_joined g.O.Party.PartialEq.eq g.S.Source g.S.Sink most first last events run,
)
