use Rattle.toll_service.proofs.EventLemmas.{has_served}
use Rattle.toll_service.proofs.office_serving.serve_keep.Goals as goal

pub returns-clause-served : goal.returns-clause-served
returns-clause-served g c =
    has_served g.K.Keep.meaning g.met.K.Keep.settled (λ service. service.keep) c.args.service.now c.serve.new.service _ c.serve.ensures.run
