use Rattle.toll_sql.proofs.StoredRows.{owners_alone}
use Rattle.toll_sql.proofs.listing.read_owners.Goals as goal

pub returns : goal.returns
returns g c = let all = c.read_all.ensures in record { looks = all.looks owners_alone; reads = all.reads owners_alone; shown = all.shown; whole = all.whole owners_alone; lack = all.lack }
