use Rattle.toll_wire.proofs.laws.every_run_has_its_parts.Goals as goal

pub returns : goal.returns
returns g c = λ k course run o. (run.private o).0
