-- The names of faults.
use Rattle.std.specs.Prelude.{codes}
use Rattle.toll_base.specs.Bytes.{Bytes}
use Rattle.toll_plant.specs.declared.words_fault.WordsFault.{WordsFault}
use Rattle.toll_plant.specs.declared.words_fault.WordsFault.TheVariants as words
use Rattle.toll_plant.specs.declared.import_fault.ImportFault.{ImportFault}
use Rattle.toll_plant.specs.declared.import_fault.ImportFault.TheVariants as imports

-- the name of the fault for words that gave no command
abbrev pub word_of_words_fault : WordsFault → Bytes
word_of_words_fault words.Memory = codes "Memory"
word_of_words_fault (words.Usage text) = codes "Usage"

-- the name of the fault for a file of actuals that was not imported
abbrev pub word_of_import_fault : ImportFault → Bytes
word_of_import_fault imports.Memory = codes "Memory"
word_of_import_fault imports.TooLong = codes "TooLong"
word_of_import_fault imports.BadHeader = codes "BadHeader"
