use Rattle.toll_sql.proofs.StoredRows.{units_alone}
use Rattle.toll_sql.proofs.listing.read_units.Goals as goal

pub returns : goal.returns
returns g c = let all = c.read_all.ensures in record { looks = all.looks units_alone; reads = all.reads units_alone; shown = all.shown; whole = all.whole units_alone; lack = all.lack }
