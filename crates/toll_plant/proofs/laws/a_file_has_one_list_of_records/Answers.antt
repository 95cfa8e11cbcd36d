use Rattle.toll_plant.proofs.FileLemmas.{records_once}
use Rattle.toll_plant.proofs.laws.a_file_has_one_list_of_records.Goals as goal

pub returns : goal.returns
returns c = records_once
