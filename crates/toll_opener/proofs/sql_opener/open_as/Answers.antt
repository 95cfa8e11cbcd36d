use Rattle.toll_opener.proofs.sql_opener.open_as.Goals as goal

pub returns-in-Ok : goal.returns-in-Ok
returns-in-Ok c = (c.in-Ok.keep, c.new.ensures.keep, (c.args.is_fresh, _, c.in-Ok.ensures.made.0), c.new.ensures.nothing, c.new.ensures.undamaged)
